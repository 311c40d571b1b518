-- The members that each column's object has, in the order of their checks. Iceberg spec, "Schemas and Data Types", and
-- Appendix C, "Schemas". A column's `type` and its defaults have a refusal of their own.
use Rattle.std.specs.Prelude.{List, [], ◌∷◌, codes}
use Rattle.json_members.specs.declared.form.Form.TheVariants.{Long, Text, Flag}
use Rattle.json_members.specs.declared.rows.Keep.TheVariants.{InField}
use Rattle.json_members.specs.declared.rows.Need.TheVariants.{Needed}
use Rattle.json_members.specs.declared.rows.Version.TheVariants.{Older}
use Rattle.json_members.specs.Rows.{Row}

abbrev pub members : List Row
members =
    record { name = codes "id"; need = Needed; form = Long; since = Older; keep = InField }
    ∷ record { name = codes "name"; need = Needed; form = Text; since = Older; keep = InField }
    ∷ record { name = codes "required"; need = Needed; form = Flag; since = Older; keep = InField }
    ∷ []
