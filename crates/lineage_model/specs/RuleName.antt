-- The printed names of the rules.
use Rattle.std.specs.Prelude.{ℕ, List, codes}
use Rattle.lineage_model.specs.declared.rule.Rule.{Rule}
use Rattle.lineage_model.specs.declared.rule.Rule.TheVariants.{Start, Version, Unnamed, Seq, Next, Named, Given}
use Rattle.lineage_model.specs.declared.rule.Rule.TheVariants.{Fresh, Asked}

-- the variant's name
abbrev pub name_of : Rule → List ℕ
name_of Start = codes "Start"
name_of Version = codes "Version"
name_of Unnamed = codes "Unnamed"
name_of Seq = codes "Seq"
name_of Next = codes "Next"
name_of Named = codes "Named"
name_of Given = codes "Given"
name_of Fresh = codes "Fresh"
name_of Asked = codes "Asked"
