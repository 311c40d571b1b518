-- What spells a value of a schema, by what spells values of the schemas in it.
use Rattle.std.proofs.Common.{◌≡◌, ℕ, zero, suc, List, [], ◌∷◌, map, refl}
use Rattle.words.specs.Grammar.{Joined}
use Rattle.schema_tree.specs.declared.schema.Schema.{Schema}
use Rattle.schema_tree.specs.declared.schema.Field.{Field}
use Rattle.schema_tree.specs.declared.schema.Schema.TheOpen as kinds
use Rattle.schema_tree.specs.declared.schema.Schema.TheViews.{roll-Schema}
use Rattle.schema_tree.specs.declared.schema.Schema.TheFolds.{rec-roll-Schema, rec-roll-Field, map-Schema}
use Rattle.datum_tree.specs.declared.datum.Datum.{Datum}
use Rattle.datum_tree.specs.Spelling.{Spelling, Spells, SpellsField, SpellsEach, SpellsBranch, SpellsFields}
use Rattle.datum_tree.specs.Spelling.{SpellsUnion, spelling_of, field_spelling_of}

-- values of fields, whatever the fields are taken from
each_natural : {X Y : Type 0} (view : X → Y) (S : Y → Spelling) (fields : List X) (values : List Datum)
    (bytes : List ℕ) → SpellsEach (λ p. S (view p)) fields values bytes ≡ SpellsEach S (map view fields) values bytes
each_natural view S [] [] bytes = refl
each_natural view S [] (datum ∷ others) bytes = refl
each_natural view S (field ∷ fields) [] bytes = refl
each_natural view S (field ∷ fields) (datum ∷ others) bytes =
    λ i. Joined (S (view field) datum) (λ (rest : List ℕ). each_natural view S fields others rest i) bytes

-- a value of a branch, whatever the branches are taken from
branch_natural : {X Y : Type 0} (view : X → Y) (S : Y → Spelling) (branches : List X) (place : ℕ) (datum : Datum)
    (bytes : List ℕ)
    → SpellsBranch (λ p. S (view p)) branches place datum bytes ≡ SpellsBranch S (map view branches) place datum bytes
branch_natural view S [] place datum bytes = refl
branch_natural view S (branch ∷ branches) zero datum bytes = refl
branch_natural view S (branch ∷ branches) (suc place) datum bytes = branch_natural view S branches place datum bytes

-- a layer, whatever the schemas in it are taken from
natural : (X X' : Type 0) (v : X → Schema) (v' : X' → Field) (k : Schema → Spelling) (k' : Field → Spelling)
    (x : kinds.Schema-F X X')
    → spelling_of X X' v v' (λ p. k (v p)) (λ p. k' (v' p)) x
    ≡ spelling_of Schema Field (λ y. y) (λ y. y) k k' (map-Schema X X' Schema Field v v' x)
natural X X' v v' k k' kinds.Null = refl
natural X X' v v' k k' kinds.Boolean = refl
natural X X' v v' k k' (kinds.Int logical) = refl
natural X X' v v' k k' (kinds.Long logical) = refl
natural X X' v v' k k' kinds.Float = refl
natural X X' v v' k k' kinds.Double = refl
natural X X' v v' k k' kinds.Raw = refl
natural X X' v v' k k' kinds.Str = refl
natural X X' v v' k k' (kinds.Fixed name size) = refl
natural X X' v v' k k' (kinds.Enum name symbols) = refl
natural X X' v v' k k' (kinds.Rec name fields) =
    λ i datum bytes. SpellsFields (λ (values : List Datum) (rest : List ℕ). each_natural v' k' fields values rest i)
    datum bytes
natural X X' v v' k k' (kinds.Array items id keyed) = refl
natural X X' v v' k k' (kinds.Map values key value) = refl
natural X X' v v' k k' (kinds.Union branches) =
    λ i datum bytes. SpellsUnion
    (λ (place : ℕ) (inside : Datum) (rest : List ℕ). branch_natural v k branches place inside rest i) datum bytes

-- what spells a layer of a schema
abbrev pub SpellsLayer : kinds.Schema-F Schema Field → Spelling
SpellsLayer layer = spelling_of Schema Field (λ y. y) (λ y. y) Spells SpellsField layer

-- what spells a value of a schema is what spells its layer
pub spells_layer : (layer : kinds.Schema-F Schema Field) → Spells (roll-Schema layer) ≡ SpellsLayer layer
spells_layer layer = rec-roll-Schema Spelling Spelling spelling_of field_spelling_of natural layer

-- what spells a value of a field is what spells one of its schema
pub spells_field : (field : Field) → SpellsField field ≡ Spells field.schema
spells_field field =
    rec-roll-Field Spelling Spelling spelling_of field_spelling_of (λ X X' v v' k k' x. refl)
    (record { name = field.name; id = field.id; schema = field.schema })
