-- What a value holds, whatever its schema is: by its kind, or the least of that kind where it is of another one.
use Rattle.std.specs.Prelude.{ℕ, ◌+◌, length, map}
use Rattle.std.specs.List.{sum}
use Rattle.datum_tree.specs.declared.datum.Datum.{Datum}
use Rattle.datum_tree.specs.declared.datum.Datum.TheOpen.{Datum-F, Null, Flag, Num, Raw, Str, Branch, Rec, Array, Map}
use Rattle.datum_tree.specs.declared.datum.Datum.TheFolds.{fold-Datum}

-- one level of a value
abbrev pub Level : Type 0
Level = Datum-F Datum

-- how many items of arrays and maps stand in a value, from those in its parts
abbrev pub items_of : Datum-F ℕ → ℕ
items_of Null = 0
items_of (Flag flag) = 0
items_of (Num number) = 0
items_of (Raw bytes) = 0
items_of (Str text) = 0
items_of (Branch place inside) = inside
items_of (Rec values) = sum values
items_of (Array items) = length items + sum items
items_of (Map pairs) = length pairs + sum (map (λ pair. pair.1) pairs)

-- how many items of arrays and maps stand in a value
abbrev pub items_in : Datum → ℕ
items_in = fold-Datum ℕ items_of

-- the most items of arrays and maps that a value may have
abbrev pub most_items : ℕ
most_items = 16777216
