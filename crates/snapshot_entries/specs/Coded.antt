-- How the logic stores the members of an object: as a list of parts, from which a stack of pieces builds them again.
use Rattle.std.specs.Prelude.{◌≡◌, ◌==◌, ℕ, ℤ, pos, List, [], ◌∷◌, true, false, cond, refl}
use Rattle.std.specs.Float.{Float, nan}
use Rattle.std.specs.Coded.{Coded, code_by, coded×, coded_ℕ, coded_ℤ, coded_list}
use base.Stored.{coded_float}
use mathlib.Core.Path.{ap, ◌∙◌}
use Rattle.serde_json.specs.Data.{Num, unsigned, negative, float, Data, null, boolean, number, string, array, object}
use Rattle.serde_json.specs.Data.{Items, no_items, item, Members, no_members, member}

-- a part: its kind, and the text or the number that it has
abbrev pub Part : Type 0
Part = ℕ × (List ℕ × (ℕ × (ℤ × Float)))

-- a part without a text and without a number
abbrev pub mark : ℕ → Part
mark tag = (tag, ([], (0, (pos 0, nan))))

-- the part of a number
abbrev pub number_part : Num → Part
number_part (unsigned n) = (3, ([], (n, (pos 0, nan))))
number_part (negative z) = (4, ([], (0, (z, nan))))
number_part (float x) = (5, ([], (0, (pos 0, x))))

-- the parts of a value, of items and of members, in front of others
abbrev mutual
  pub data_parts : Data → List Part → List Part
  data_parts null rest = mark 0 ∷ rest
  data_parts (boolean true) rest = mark 1 ∷ rest
  data_parts (boolean false) rest = mark 2 ∷ rest
  data_parts (number n) rest = number_part n ∷ rest
  data_parts (string s) rest = (6, (s, (0, (pos 0, nan)))) ∷ rest
  data_parts (array ds) rest = items_parts ds (mark 7 ∷ rest)
  data_parts (object ms) rest = members_parts ms (mark 8 ∷ rest)

  pub items_parts : Items → List Part → List Part
  items_parts no_items rest = mark 9 ∷ rest
  items_parts (item d ds) rest = data_parts d (items_parts ds (mark 10 ∷ rest))

  pub members_parts : Members → List Part → List Part
  members_parts no_members rest = mark 11 ∷ rest
  members_parts (member k d ms) rest = data_parts d (members_parts ms ((12, (k, (0, (pos 0, nan)))) ∷ rest))

-- what was built so far
pub data Piece : Type 0 where
  of_data : Data → Piece
  of_items : Items → Piece
  of_members : Members → Piece

-- pieces, the last one first
abbrev pub Stack : Type 0
Stack = List Piece

-- the piece on top, seen as items, as members or as a value
abbrev pub top_items : Stack → Items
top_items [] = no_items
top_items (of_data d ∷ stack) = no_items
top_items (of_items ds ∷ stack) = ds
top_items (of_members ms ∷ stack) = no_items

abbrev pub top_members : Stack → Members
top_members [] = no_members
top_members (of_data d ∷ stack) = no_members
top_members (of_items ds ∷ stack) = no_members
top_members (of_members ms ∷ stack) = ms

abbrev pub top_data : Stack → Data
top_data [] = null
top_data (of_data d ∷ stack) = d
top_data (of_items ds ∷ stack) = null
top_data (of_members ms ∷ stack) = null

-- the stack without its top
abbrev pub under_top : Stack → Stack
under_top [] = []
under_top (piece ∷ stack) = stack

-- the stack after the part
abbrev pub built : Part → Stack → Stack
built p stack =
    cond (p.0 == 0) (of_data null ∷ stack)
    (cond (p.0 == 1) (of_data (boolean true) ∷ stack)
    (cond (p.0 == 2) (of_data (boolean false) ∷ stack)
    (cond (p.0 == 3) (of_data (number (unsigned p.1.1.0)) ∷ stack)
    (cond (p.0 == 4) (of_data (number (negative p.1.1.1.0)) ∷ stack)
    (cond (p.0 == 5) (of_data (number (float p.1.1.1.1)) ∷ stack)
    (cond (p.0 == 6) (of_data (string p.1.0) ∷ stack)
    (cond (p.0 == 7) (of_data (array (top_items stack)) ∷ under_top stack)
    (cond (p.0 == 8) (of_data (object (top_members stack)) ∷ under_top stack)
    (cond (p.0 == 9) (of_items no_items ∷ stack)
    (cond (p.0 == 10) (of_items (item (top_data (under_top stack)) (top_items stack)) ∷ under_top (under_top stack))
    (cond (p.0 == 11) (of_members no_members ∷ stack)
    (of_members (member p.1.0 (top_data (under_top stack)) (top_members stack))
    ∷ under_top (under_top stack)))))))))))))

-- the stack after all parts
abbrev pub rebuilt : List Part → Stack → Stack
rebuilt [] stack = stack
rebuilt (part ∷ parts) stack = rebuilt parts (built part stack)

-- the parts of a value make that value
mutual
  rebuilt_data : (d : Data) (rest : List Part) (stack : Stack)
      → rebuilt (data_parts d rest) stack ≡ rebuilt rest (of_data d ∷ stack)
  rebuilt_data null rest stack = refl
  rebuilt_data (boolean true) rest stack = refl
  rebuilt_data (boolean false) rest stack = refl
  rebuilt_data (number (unsigned n)) rest stack = refl
  rebuilt_data (number (negative z)) rest stack = refl
  rebuilt_data (number (float x)) rest stack = refl
  rebuilt_data (string s) rest stack = refl
  rebuilt_data (array ds) rest stack = rebuilt_items ds _ stack
  rebuilt_data (object ms) rest stack = rebuilt_members ms _ stack

  rebuilt_items : (ds : Items) (rest : List Part) (stack : Stack)
      → rebuilt (items_parts ds rest) stack ≡ rebuilt rest (of_items ds ∷ stack)
  rebuilt_items no_items rest stack = refl
  rebuilt_items (item d ds) rest stack = rebuilt_data d _ stack ∙ rebuilt_items ds _ (of_data d ∷ stack)

  rebuilt_members : (ms : Members) (rest : List Part) (stack : Stack)
      → rebuilt (members_parts ms rest) stack ≡ rebuilt rest (of_members ms ∷ stack)
  rebuilt_members no_members rest stack = refl
  rebuilt_members (member k d ms) rest stack = rebuilt_data d _ stack ∙ rebuilt_members ms _ (of_data d ∷ stack)

-- the parts of members, and the members of parts
abbrev pub to_parts : Members → List Part
to_parts ms = members_parts ms []

abbrev pub from_parts : List Part → Members
from_parts parts = top_members (rebuilt parts [])

-- they are each other's inverse
pub from_parts-to_parts : (ms : Members) → from_parts (to_parts ms) ≡ ms
from_parts-to_parts ms = ap top_members (rebuilt_members ms [] [])

-- the code of a list of parts
abbrev pub parts_code : Coded (List Part)
parts_code =
    coded_list (coded× coded_ℕ (coded× (coded_list coded_ℕ) (coded× coded_ℕ (coded× coded_ℤ coded_float))))

-- the code of the members of an object
abbrev pub members_code : Coded Members
members_code = code_by (List Part) parts_code to_parts from_parts from_parts-to_parts
