use Rattle.std.proofs.Common.{◌≡◌, ◌++◌, ap, ap₂, subst, ◌∙◌}
use Rattle.std.specs.Str.{IsUtf8}
use Rattle.json.specs.Print.{print}
use Rattle.avro_schema.specs.Printing.{schema_text, written}
use Rattle.avro_schema.specs.Reading.{schema_of}
use Rattle.avro_schema.proofs.PrintedAgain.{schema_again}
use Rattle.avro_schema.proofs.printing.print_schema.Goals as goal

pub returns : goal.returns
unfolding schema_text
returns c =
    let put = c.in_ok-put_schema.ensures in
    let tokens = put.tokens.1 ∙ ap (λ tokens. tokens ++ (written c.args.schema.now).tokens) c.new-out.ensures.tokens in
    let text : c.into_inner.result.items ≡ schema_text c.args.schema.now =
    c.into_inner.ensures.items ∙ ap₂ (λ before tokens. before ++ print tokens) (put.tokens.0 ∙ c.new-out.ensures.before ∙ c.new.ensures.items) tokens in
    let utf8 : IsUtf8 (schema_text c.args.schema.now) = subst (λ tokens. IsUtf8 (print tokens)) tokens c.into_inner.ensures.utf8 in
    record {
      text = text;
      reads_back = λ printable. ap schema_of text ∙ schema_again c.args.schema.now printable put.ids utf8;
    }
