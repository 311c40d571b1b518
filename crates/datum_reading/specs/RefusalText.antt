-- The text of a refusal.
use Rattle.std.specs.Prelude.{ℕ, List, [], ◌++◌, codes, decimal}
use Rattle.datum_reading.specs.declared.refusal.DatumRefusal.{DatumRefusal}
use Rattle.datum_reading.specs.declared.refusal.DatumRefusal.TheVariants.{Short, TooLong, Flag, Branch, Utf8, Size}
use Rattle.datum_reading.specs.declared.refusal.DatumRefusal.TheVariants.{Items, Memory}

-- the variant's name, and then its place; nothing of memory
abbrev pub refusal_text : DatumRefusal → List ℕ
refusal_text (Short place) = codes "Short " ++ decimal place
refusal_text (TooLong place) = codes "TooLong " ++ decimal place
refusal_text (Flag place) = codes "Flag " ++ decimal place
refusal_text (Branch place) = codes "Branch " ++ decimal place
refusal_text (Utf8 place) = codes "Utf8 " ++ decimal place
refusal_text (Size place) = codes "Size " ++ decimal place
refusal_text (Items place) = codes "Items " ++ decimal place
refusal_text Memory = []
