-- Fields of the outer record alone: no record is opened, so the leaves are its fields, and their values its values.
use Rattle.std.proofs.Common.{◌≡◌, false, Bool, List, [], ◌∷◌, ◌++◌, map, refl, ap, ap₂, ◌∙◌}
use Rattle.std.specs.Prelude.{ℤ, ◌||◌}
use Rattle.std.specs.declared.option.Option.{Option}
use Rattle.std.specs.declared.option.Option.TheVariants.{Some, None}
use Rattle.schema_tree.specs.declared.schema.Schema.{Schema, out-Schema}
use Rattle.schema_tree.specs.declared.schema.Field.{Field, out-Field}
use Rattle.datum_tree.specs.declared.datum.Datum.{Datum}
use Rattle.fields.specs.declared.leaf.Leaf.{Leaf}
use Rattle.fields.specs.declared.wanted.Wanted.{Wanted}
use Rattle.avro_cells.specs.Value.{values_of}
use Rattle.fields.specs.Flat.{inner_leaf, leaves_if, leaves, flat_if, flat_values}
use Rattle.fields.specs.Wanted.{is_id, has_inner, opens, fields_of, cells_with, wanted_of}

-- all of them are fields of the outer record
abbrev pub AreOuter : List Wanted → Type 0
AreOuter [] = Unit {0}
AreOuter (w ∷ wanted) = (w.parent ≡ None) × AreOuter wanted

none_inner : (id : ℤ) (wanted : List Wanted) → AreOuter wanted → has_inner id wanted ≡ false
none_inner id [] outer = refl
none_inner id (w ∷ wanted) outer =
    ap (λ (p : Option ℤ). is_id (Some id) p || has_inner id wanted) outer.0 ∙ none_inner id wanted outer.1

-- no record is opened
pub opens_none : (wanted : List Wanted) → AreOuter wanted → (id : Option ℤ) → opens wanted id ≡ false
opens_none wanted outer None = refl
opens_none wanted outer (Some id) = none_inner id wanted outer

-- the leaves are the fields
pub leaves_alone : (wanted : List Wanted) → AreOuter wanted → (fields : List Field)
    → leaves (opens wanted) fields ≡ map (inner_leaf None) fields
leaves_alone wanted outer [] = refl
leaves_alone wanted outer (field ∷ fields) =
    ap (λ (b : Bool). leaves_if b field ++ leaves (opens wanted) fields) (opens_none wanted outer (out-Field field).id)
    ∙ ap (λ (ls : List Leaf). inner_leaf None field ∷ ls) (leaves_alone wanted outer fields)

-- their values are the values
pub values_alone : (wanted : List Wanted) → AreOuter wanted → (fields : List Field) (values : List Datum)
    → flat_values (opens wanted) fields values ≡ values
values_alone wanted outer [] values = refl
values_alone wanted outer (field ∷ fields) [] = refl
values_alone wanted outer (field ∷ fields) (value ∷ values) =
    let level = out-Schema (out-Field field).schema in
    let others = flat_values (opens wanted) fields values in
    ap (λ (b : Bool). flat_if b level value ++ others) (opens_none wanted outer (out-Field field).id)
    ∙ ap (λ (vs : List Datum). value ∷ vs) (values_alone wanted outer fields values)

-- the wanted cells are those of the fields and the values
pub wanted_alone : (wanted : List Wanted) → AreOuter wanted → (schema : Schema) (datum : Datum)
    → wanted_of wanted schema datum ≡ cells_with wanted (map (inner_leaf None) (fields_of schema)) (values_of datum)
wanted_alone wanted outer schema datum =
    ap₂ (λ (ls : List Leaf) (vs : List Datum). cells_with wanted ls vs)
    (leaves_alone wanted outer (fields_of schema)) (values_alone wanted outer (fields_of schema) (values_of datum))
