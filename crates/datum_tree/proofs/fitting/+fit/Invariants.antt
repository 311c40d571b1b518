use Rattle.std.proofs.Common.{◌≡◌, ◌-◌, true, length, take, map}
use Rattle.std.specs.List.{list_all}
use Rattle.std.specs.Prelude.{ℕ, List}
use Rattle.datum_tree.specs.declared.datum.Datum.{Datum}
use Rattle.datum_tree.specs.Fits.{fits_each, fits_schema, field_fits}
use Rattle.datum_tree.proofs.fitting.+fit.Given as goal

abbrev pub invariant-fits_fields-loop-place : goal.invariant-fits_fields-loop-place
invariant-fits_fields-loop-place l = fits_each (take l.place (map field_fits l.fields)) (take l.place l.values) ≡ true

abbrev pub decreases-fits_fields-loop-place : goal.decreases-fits_fields-loop-place
decreases-fits_fields-loop-place l = length l.fields - l.place

abbrev pub invariant-fits_items-loop-value : goal.invariant-fits_items-loop-value
invariant-fits_items-loop-value l = list_all (fits_schema l.items) (take l.value-index l.values) ≡ true

abbrev pub invariant-fits_pairs-loop-pair : goal.invariant-fits_pairs-loop-pair
invariant-fits_pairs-loop-pair l = list_all (λ (pair : List ℕ × Datum). fits_schema l.values pair.1) (take l.pair-index l.pairs) ≡ true
