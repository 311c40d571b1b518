use Rattle.std.proofs.Common.{◌≡◌, [], map, rules, refl, ap}
use Rattle.datum_reading.specs.Reading.{datum_at}
use Rattle.row_types.specs.CellRef.{lent_cell}
use Rattle.fields.specs.Flat.{leaves}
use Rattle.fields.specs.Kept.{kept}
use Rattle.fields.specs.Wanted.{fields_of, opens}
use Rattle.fields.proofs.AlikeLaws.{fields_alike, read_none}
use Rattle.fields.proofs.TakingLemmas.{record_as, known_fields, none_known, no_cells, no_kept}
use Rattle.fields.proofs.taking.take_known_all.Goals as goal

pub take_known_fields-requires-clause-known : goal.take_known_fields-requires-clause-known
take_known_fields-requires-clause-known c =
    let layout = c.args.layout.now in
    let alike = fields_alike layout.leaves.items _ c.requires.layout.leaves_are c.args.input.now c.args.at in
    rw c.deref.ensures.value (known_fields (opens layout.wanted.items) layout.schema c.in-Rec.name c.in-Rec.fields c.args.input.now c.args.at layout.leaves.items c.in-Rec.is alike c.requires.known)

pub returns-in-Rec-clause-exact : goal.returns-in-Rec-clause-exact
returns-in-Rec-clause-exact c =
    let layout = c.args.layout.now in
    let same = record_as (opens layout.wanted.items) layout.schema c.in-Rec.name c.in-Rec.fields c.args.input.now c.args.at c.in-Rec.is in
    let alike = fields_alike layout.leaves.items _ c.requires.layout.leaves_are c.args.input.now c.args.at in
    rw (same, ← alike, ← c.deref.ensures.value) c.take_known_fields.ensures.exact

pub returns-in_default : goal.returns-in_default
returns-in_default c =
    let layout = c.args.layout.now in
    let none : fields_of layout.schema ≡ [] = search rules in
    let opened = opens layout.wanted.items in
    let all = leaves opened (fields_of layout.schema) in
    let no_leaf = read_none layout.leaves.items (kept all) c.requires.layout.leaves_are (no_kept all (ap (leaves opened) none)) in
    let no_cell = no_cells layout.leaves.items layout.forms.items c.args.all.now no_leaf c.requires.layout.forms c.requires.width in
    record {
      exact = none_known opened (fields_of layout.schema) (map lent_cell c.args.all.now) (datum_at layout.schema c.args.input.now c.args.at) c.skip_known.result
          none no_cell c.skip_known.ensures.exact;
      width = refl;
      within = c.skip_known.ensures.within;
    }
