-- The values of a schema agree with their spelling.
use Rattle.std.proofs.Common.{◌≡◌, ℕ, List, [], length, Ok, refl, sym, ap, ap₂, subst, ◌∙◌, arith}
use Rattle.std.specs.Prelude.{ℤ, pos}
use Rattle.words.specs.Reading.{map_value}
use Rattle.avro_wire.specs.Number.{Bounds, int, long, SpellsNumber}
use Rattle.avro_wire.specs.Blocks.{SpellsBytes, SpellsList}
use Rattle.schema_tree.specs.declared.schema.Schema.{Schema}
use Rattle.schema_tree.specs.declared.schema.Field.{Field, roll-Field}
use Rattle.schema_tree.specs.declared.schema.Schema.TheOpen as kinds
use Rattle.schema_tree.specs.declared.schema.Schema.TheViews.{roll-Schema}
use Rattle.schema_tree.specs.declared.schema.Schema.TheFolds.{map-Schema, fold-roll-Schema, fold_out-Field, ind-Schema}
use Rattle.datum_reading.specs.declared.cursor.Cursor.{Cursor}
use Rattle.datum_tree.specs.declared.datum.Datum.{Datum}
use Rattle.datum_tree.specs.declared.datum.Datum.TheVariants as datums
use Rattle.datum_tree.specs.Value.{items_in}
use Rattle.datum_reading.specs.Reading.{Reader, number_from, num_at, sized_at, text_at, choice_at, fields_at, all_at}
use Rattle.datum_reading.specs.Reading.{pair_at, layer_at, field_reader, datum_at}
use Rattle.datum_tree.specs.Spelling.{Spelling, Spells, SpellsField, SpellsNum, SpellsSized, SpellsText, SpellsString}
use Rattle.datum_tree.specs.Spelling.{SpellsSymbol, SpellsEach, SpellsFields, SpellsArray, SpellsPair, SpellsMap}
use Rattle.datum_reading.specs.Layers.{field_at, with_readers}
use Rattle.datum_tree.specs.SpellingLaws.{SpellsLayer, spells_layer, spells_field}
use Rattle.words.specs.Parts.{stand_nothing}
use Rattle.datum_tree.specs.Sums.{each, with_each}
use Rattle.datum_tree.specs.Counts.{in_pair, counts-Null, counts-Num, counts-Raw, counts-Str, counts-Rec}
use Rattle.datum_tree.specs.Counts.{counts-Array, counts-Map}
use Rattle.words.specs.Steps.{ok_is}
use Rattle.datum_reading.specs.Agreeing.{ReadTook, Agrees, no_items, cursor_is, agrees_through}
use Rattle.datum_reading.proofs.SpelledNumber.{SpellsChoice, agrees_number, agrees_choice}
use Rattle.datum_reading.proofs.SpelledBytes.{agrees_flag, agrees_raw, agrees_sized, agrees_text}
use Rattle.datum_reading.proofs.SpelledList.{agrees_all}
use Rattle.datum_reading.proofs.SpelledParts.{agrees_pair, agrees_fields, agrees_union, things, readers}

-- ---- values that hold no other

-- the null
abbrev IsNull : Spelling
IsNull datum bytes = (datum ≡ datums.Null) × (bytes ≡ [])

agrees_null : Agrees (λ input at. Ok (datums.Null, at)) IsNull items_in
agrees_null = record {
  sound = λ input at read few is.
      subst (ReadTook IsNull items_in input at) (ok_is (datums.Null, at) read is)
      (record { took = record { bytes = []; stand = stand_nothing input at.place; such = (refl, refl) }; counts = omega (arith, counts-Null); few = few });
  complete = λ input at after datum bytes spelled passes.
      let none : items_in datum ≡ 0 = ap items_in spelled.0 ∙ counts-Null in
      let same : at ≡ after = cursor_is at after (omega (arith, passes.stand.ends, ap length spelled.1)) (omega (arith, passes.counts, none)) in
      ap₂ (λ (d : Datum) (c : Cursor). Ok (d, c)) (sym spelled.0) same;
}

-- an int or a long
agrees_num : (bounds : Bounds) → Agrees (num_at bounds) (SpellsNum bounds) items_in
agrees_num bounds =
    agrees_through (number_from bounds) (λ (number : ℤ) (bytes : List ℕ). SpellsNumber bounds bytes number) (SpellsNum bounds) no_items items_in (λ (number : ℤ). datums.Num number) (agrees_number bounds) counts-Num
    (λ number bytes spelled. record { number = number; value = refl; spelled = spelled }) (λ datum bytes spelled. (spelled.number, spelled.value, spelled.spelled))

-- bytes behind their length
agrees_bytes : Agrees (λ input at. map_value (λ read. (datums.Raw read.0, read.1)) (sized_at input at)) SpellsSized items_in
agrees_bytes =
    agrees_through sized_at SpellsBytes SpellsSized no_items items_in (λ (bytes : List ℕ). datums.Raw bytes) agrees_sized counts-Raw
    (λ inside bytes spelled. record { inside = inside; value = refl; spelled = spelled }) (λ datum bytes spelled. (spelled.inside, spelled.value, spelled.spelled))

-- a text behind its length
agrees_string : Agrees (λ input at. map_value (λ read. (datums.Str read.0, read.1)) (text_at input at)) SpellsString items_in
agrees_string =
    agrees_through text_at SpellsText SpellsString no_items items_in (λ (text : List ℕ). datums.Str text) agrees_text counts-Str
    (λ text bytes spelled. record { text = text; value = refl; spelled = spelled }) (λ datum bytes spelled. (spelled.text, spelled.value, spelled.spelled))

-- the place of a symbol
agrees_symbol : (many : ℕ) → Agrees (λ input at. map_value (λ read. (datums.Num (pos read.0), read.1)) (choice_at many input at)) (SpellsSymbol many) items_in
agrees_symbol many =
    agrees_through (choice_at many) (SpellsChoice many) (SpellsSymbol many) no_items items_in (λ (n : ℕ). datums.Num (pos n)) (agrees_choice many) (λ n. counts-Num (pos n))
    (λ n bytes spelled. record { place = n; within = spelled.0; value = refl; spelled = spelled.1 }) (λ datum bytes spelled. (spelled.place, spelled.value, (spelled.within, spelled.spelled)))

-- ---- values that hold others

-- the items of an array
agrees_array : (reader : Reader) (S : Spelling) → Agrees reader S items_in → Agrees (λ input at. map_value (λ read. (datums.Array read.0, read.1)) (all_at reader input at)) (SpellsArray S) items_in
agrees_array reader S agrees =
    agrees_through (all_at reader) (SpellsList S) (SpellsArray S) (with_each items_in) items_in datums.Array (agrees_all reader S items_in agrees) counts-Array
    (λ items bytes spelled. record { items = items; value = refl; spelled = spelled }) (λ datum bytes spelled. (spelled.items, spelled.value, spelled.spelled))

-- the pairs of a map
agrees_map : (reader : Reader) (S : Spelling) → Agrees reader S items_in → Agrees (λ input at. map_value (λ read. (datums.Map read.0, read.1)) (all_at (pair_at reader) input at)) (SpellsMap S) items_in
agrees_map reader S agrees =
    agrees_through (all_at (pair_at reader)) (SpellsList (SpellsPair S)) (SpellsMap S) (with_each in_pair) items_in datums.Map (agrees_all (pair_at reader) (SpellsPair S) in_pair (agrees_pair reader S agrees)) counts-Map
    (λ pairs bytes spelled. record { pairs = pairs; value = refl; spelled = spelled }) (λ datum bytes spelled. (spelled.pairs, spelled.value, spelled.spelled))

-- ---- a schema

-- what is read under a schema agrees with what is spelled under it
abbrev Holds : Schema → Type 0
Holds schema = Agrees (datum_at schema) (Spells schema) items_in

-- and the same of a field
abbrev HoldsField : Field → Type 0
HoldsField field = Agrees (field_at field) (SpellsField field) items_in

-- a layer whose schemas have that
abbrev Held : Type 0
Held = kinds.Schema-F ((schema : Schema) × Holds schema) ((field : Field) × HoldsField field)

-- the layer without it
abbrev bare : Held → kinds.Schema-F Schema Field
bare held = map-Schema ((schema : Schema) × Holds schema) ((field : Field) × HoldsField field) Schema Field (λ e. e.0) (λ e. e.0) held

-- the values of a record agree with their spelling
agrees_record : (fields : List ((field : Field) × HoldsField field))
    → Agrees (λ input at. map_value (λ read. (datums.Rec read.0, read.1)) (fields_at (readers field_at SpellsField fields) [] input at)) (SpellsFields (SpellsEach SpellsField (things field_at SpellsField fields))) items_in
agrees_record fields =
    agrees_through (fields_at (readers field_at SpellsField fields) []) (SpellsEach SpellsField (things field_at SpellsField fields)) (SpellsFields (SpellsEach SpellsField (things field_at SpellsField fields))) (each items_in) items_in datums.Rec
    (agrees_fields field_at SpellsField fields) counts-Rec
    (λ values bytes spelled. record { values = values; value = refl; spelled = spelled }) (λ datum bytes spelled. (spelled.values, spelled.value, spelled.spelled))

-- of each kind of schema
holds_layer : (held : Held) → Agrees (layer_at (with_readers (bare held))) (SpellsLayer (bare held)) items_in
holds_layer kinds.Null = agrees_null
holds_layer kinds.Boolean = agrees_flag
holds_layer (kinds.Int logical) = agrees_num int
holds_layer (kinds.Long logical) = agrees_num long
holds_layer kinds.Float = agrees_raw 4
holds_layer kinds.Double = agrees_raw 8
holds_layer kinds.Raw = agrees_bytes
holds_layer kinds.Str = agrees_string
holds_layer (kinds.Fixed name size) = agrees_raw size
holds_layer (kinds.Enum name symbols) = agrees_symbol (length symbols)
holds_layer (kinds.Rec name fields) = agrees_record fields
holds_layer (kinds.Array items id keyed) = agrees_array (datum_at items.0) (Spells items.0) items.1
holds_layer (kinds.Map values key value) = agrees_map (datum_at values.0) (Spells values.0) values.1
holds_layer (kinds.Union branches) = agrees_union datum_at Spells branches

-- of a schema whose layer it is
holds_roll : (layer : kinds.Schema-F Schema Field) → Agrees (layer_at (with_readers layer)) (SpellsLayer layer) items_in → Holds (roll-Schema layer)
holds_roll layer agrees =
    let spelled : Agrees (layer_at (with_readers layer)) (Spells (roll-Schema layer)) items_in = subst (λ (S : Spelling). Agrees (layer_at (with_readers layer)) S items_in) (sym (spells_layer layer)) agrees in
    subst (λ (r : Reader). Agrees r (Spells (roll-Schema layer)) items_in) (sym (fold-roll-Schema Reader Reader layer_at field_reader layer)) spelled

-- of a field whose schema has it
holds_field : (field : Field) → Holds field.schema → HoldsField field
holds_field field agrees =
    let spelled : Agrees (datum_at field.schema) (SpellsField field) items_in = subst (λ (S : Spelling). Agrees (datum_at field.schema) S items_in) (sym (spells_field field)) agrees in
    subst (λ (r : Reader). Agrees r (SpellsField field) items_in) (sym (fold_out-Field Reader Reader layer_at field_reader field)) spelled

-- the values of a schema agree with their spelling
pub agrees_datum : (schema : Schema) → Agrees (datum_at schema) (Spells schema) items_in
agrees_datum = ind-Schema Holds HoldsField
    (λ layer held is. holds_roll layer (subst (λ (l : kinds.Schema-F Schema Field). Agrees (layer_at (with_readers l)) (SpellsLayer l) items_in) is (holds_layer held)))
    (λ layer held is. holds_field (roll-Field layer) (subst Holds (ap (λ (l : kinds.Field-F Schema Field). l.schema) is) held.schema.1))
