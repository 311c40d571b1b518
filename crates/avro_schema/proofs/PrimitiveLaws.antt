-- A primitive type stands alone: no schema stands in it.
use Rattle.std.proofs.Common.{◌≡◌, ℕ, Bool, true, false, if◌then◌else◌, List, codes, Option, Some, None, subst}
use Rattle.std.specs.Str.{bytes_eq}
use Rattle.serde_json.specs.Data.{Members}
use Rattle.schema_tree.specs.declared.logical.Logical.TheVariants.{Plain}
use Rattle.schema_tree.specs.declared.schema.Schema.{Schema}
use Rattle.schema_tree.specs.declared.schema.Schema.TheVariants as schemas
use Rattle.schema_tree.specs.TreeLaws.{IsAlone, alone-Null, alone-Boolean, alone-Int, alone-Long, alone-Float}
use Rattle.schema_tree.specs.TreeLaws.{alone-Double, alone-Raw, alone-Str}
use Rattle.avro_schema.specs.Reading.{primitive_of, logical_of, logical_int, logical_long}

-- what is there is alone
abbrev AloneIfThere : Option Schema → Type 0
AloneIfThere None = Unit {0}
AloneIfThere (Some schema) = IsAlone schema

-- what holds of both holds of the one that is chosen
either : {A : Type 0} (P : A → Type 0) (b : Bool) (x y : A) → P x → P y → P (if b then x else y)
either P true x y p q = p
either P false x y p q = q

-- a schema, or what is behind it
either_primitive : (b : Bool) (x : Schema) (y : Option Schema) → IsAlone x → AloneIfThere y
    → AloneIfThere (if b then Some x else y)
either_primitive b x y p q = either AloneIfThere b (Some x) y p q

-- whatever the word names
alone_if_primitive : (word : List ℕ) → AloneIfThere (primitive_of word)
alone_if_primitive word =
    either_primitive (bytes_eq word (codes "null")) schemas.Null _ alone-Null
    (either_primitive (bytes_eq word (codes "boolean")) schemas.Boolean _ alone-Boolean
    (either_primitive (bytes_eq word (codes "int")) (schemas.Int Plain) _ (alone-Int Plain)
    (either_primitive (bytes_eq word (codes "long")) (schemas.Long Plain) _ (alone-Long Plain)
    (either_primitive (bytes_eq word (codes "float")) schemas.Float _ alone-Float
    (either_primitive (bytes_eq word (codes "double")) schemas.Double _ alone-Double
    (either_primitive (bytes_eq word (codes "bytes")) schemas.Raw _ alone-Raw
    (either_primitive (bytes_eq word (codes "string")) schemas.Str _ alone-Str tt)))))))

-- a primitive type stands alone
pub alone_primitive : (word : List ℕ) (schema : Schema) → primitive_of word ≡ Some schema → IsAlone schema
alone_primitive word schema is = subst AloneIfThere is (alone_if_primitive word)

-- and so it does, whatever else is said of it
pub alone_logical : (word : List ℕ) (members : Members) (schema : Schema) → IsAlone schema
    → IsAlone (logical_of word members schema)
alone_logical word members schema alone =
    either IsAlone (bytes_eq word (codes "int")) (schemas.Int (logical_int members)) _ (alone-Int (logical_int members))
    (either IsAlone (bytes_eq word (codes "long")) (schemas.Long (logical_long members)) schema
    (alone-Long (logical_long members)) alone)
