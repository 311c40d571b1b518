-- The items of a list, in the words of a schema's members.
use Rattle.std.proofs.Common.{◌≡◌, List, [], ◌∷◌, Some, option_map, refl, sym, ap, ◌∙◌}
use Rattle.serde_json.specs.Data.{Data, null, boolean, number, string, array, object}
use Rattle.serde_json.specs.Find.{as_array}
use Rattle.serde_json.specs.View.{items_of}
use Rattle.avro_schema.specs.Member.{list_of, values_of}

-- the values of a list of data
pub values_of-items_of : (values : List Data) → values_of (items_of values) ≡ values
values_of-items_of [] = refl
values_of-items_of (value ∷ values) = ap (λ (rest : List Data). value ∷ rest) (values_of-items_of values)

-- a list, in serde_json's words and in ours
list_is : (value : Data) → list_of value ≡ option_map values_of (as_array value)
list_is null = refl
list_is (boolean flag) = refl
list_is (number num) = refl
list_is (string text) = refl
list_is (array items) = refl
list_is (object pairs) = refl

-- the items of an array are the list that it is
pub list_found : (value : Data) (values : List Data) → Some (items_of values) ≡ as_array value
    → Some values ≡ list_of value
list_found value values is =
    sym (list_is value ∙ ap (option_map values_of) (sym is) ∙ ap Some (values_of-items_of values))
