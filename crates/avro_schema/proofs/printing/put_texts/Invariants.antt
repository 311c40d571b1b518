use Rattle.std.proofs.Common.{◌≡◌, ◌++◌, ◌∷◌, [], drop, flat_map}
use Rattle.json.specs.Token.{string, end_array}
use Rattle.avro_schema.specs.Printing.{texts_of}
use Rattle.avro_schema.proofs.printing.put_texts.Given as goal

abbrev pub invariant-loop-text : goal.invariant-loop-text
invariant-loop-text l =
    (l.out.before ≡ l.fn.out.before)
    × (l.out.tokens ++ (flat_map (λ text. string text ∷ []) (drop l.text-index l.text-items) ++ end_array ∷ []) ≡ l.fn.out.tokens ++ texts_of l.fn.texts)
