-- The printed names of the quantities that have a limit.
use Rattle.std.specs.Prelude.{ℕ, List, codes}
use Rattle.limits.specs.declared.which.Which.{Which}
use Rattle.limits.specs.declared.which.Which.TheVariants.{Input, Object, Path, Snapshots, Manifests, Files, FileRows}
use Rattle.limits.specs.declared.which.Which.TheVariants.{LiveRows}

-- the variant's name
abbrev pub name_of : Which → List ℕ
name_of Input = codes "Input"
name_of Object = codes "Object"
name_of Path = codes "Path"
name_of Snapshots = codes "Snapshots"
name_of Manifests = codes "Manifests"
name_of Files = codes "Files"
name_of FileRows = codes "FileRows"
name_of LiveRows = codes "LiveRows"
