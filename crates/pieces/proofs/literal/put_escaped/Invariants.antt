use Rattle.std.proofs.Common.{◌≡◌, ◌++◌, take, string_bytes, flat_map, IsCharBoundary}
use Rattle.pieces.specs.Literal.{escape}
use Rattle.pieces.specs.LiteralLaws.{IsRun}
use Rattle.pieces.proofs.literal.put_escaped.Given as goal

abbrev pub invariant-loop-at : goal.invariant-loop-at
invariant-loop-at l = record {
  run : IsRun l.text l.plain l.at;
  boundary : IsCharBoundary l.text l.plain;
  so_far : string_bytes l.out ≡ string_bytes l.initial.out ++ flat_map escape (take l.plain l.text);
}
