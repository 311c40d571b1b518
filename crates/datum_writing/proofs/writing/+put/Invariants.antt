use Rattle.std.proofs.Common.{length, ◌-◌, ◌≡◌, pos, ◌++◌, take, map}
use Rattle.std.specs.List.{flat_map}
use Rattle.avro_wire.specs.Writing.{number_text}
use Rattle.datum_writing.specs.Canonical.{each_text, pair_text, canonical, field_canonical}
use Rattle.std.specs.List.{All}
use Rattle.datum_writing.specs.Spelled.{IsSpelled, EachIsSpelled, PairIsSpelled}
use Rattle.datum_writing.proofs.writing.+put.Given as goal

abbrev pub invariant-put_fields-loop-place : goal.invariant-put_fields-loop-place
invariant-put_fields-loop-place l = (l.out.items ≡ l.fn.out.items ++ each_text (take l.place (map field_canonical l.fields)) (take l.place l.values)) × EachIsSpelled (take l.place l.fields) (take l.place l.values)

abbrev pub decreases-put_fields-loop-place : goal.decreases-put_fields-loop-place
decreases-put_fields-loop-place l = length l.fields - l.place

abbrev pub invariant-put_array-loop-value : goal.invariant-put_array-loop-value
invariant-put_array-loop-value l = (l.out.items ≡ l.fn.out.items ++ (number_text (pos (length l.values)) ++ flat_map (canonical l.items) (take l.value-index l.values))) × All (IsSpelled l.items) (take l.value-index l.values)

abbrev pub invariant-put_map-loop-pair : goal.invariant-put_map-loop-pair
invariant-put_map-loop-pair l = (l.out.items ≡ l.fn.out.items ++ (number_text (pos (length l.pairs)) ++ flat_map (pair_text (canonical l.values)) (take l.pair-index l.pairs))) × All (PairIsSpelled l.values) (take l.pair-index l.pairs)
