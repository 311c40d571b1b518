use Rattle.std.proofs.Common.{◌≡◌, [], length, rules, ap, sym, ◌∙◌}
use Rattle.words.specs.Reading.{map_value}
use Rattle.datum_reading.specs.declared.cursor.Cursor.{Cursor}
use Rattle.datum_reading.specs.Reading.{datum_at}
use Rattle.fields.specs.Wanted.{fields_of, opens}
use Rattle.fields.proofs.AlikeLaws.{fields_alike}
use Rattle.fields.proofs.TakingLemmas.{record_as}
use Rattle.fields.proofs.PassingLemmas.{needed_many, none_first}
use Rattle.fields.proofs.passing.pass_all.Goals as goal

pub returns-in-Rec-clause-exact : goal.returns-in-Rec-clause-exact
returns-in-Rec-clause-exact c =
    let same = record_as (opens c.args.layout.now.wanted.items) c.args.layout.now.schema c.in-Rec.name c.in-Rec.fields c.args.input.now c.args.at c.in-Rec.is in
    let alike = fields_alike c.args.layout.now.leaves.items _ c.requires.layout.leaves_are c.args.input.now c.args.at in
    rw (same, ← alike, ← c.deref.ensures.value, ← c.deref-in-Rec-2.ensures.value, ← c.behind_all.ensures) c.pass_fields.ensures.exact

pub pass_fields-requires-clause-needed : goal.pass_fields-requires-clause-needed
pass_fields-requires-clause-needed c =
    let many = needed_many c.args.layout.now.wanted.items c.args.layout.now.sources.items 0 (length c.args.layout.now.leaves.items) in
    ap length (c.deref-in-Rec-2.ensures.value ∙ c.requires.layout.needed) ∙ many ∙ ap length (sym c.deref.ensures.value)

pub returns-in_ok-after-in_default : goal.returns-in_ok-after-in_default
returns-in_ok-after-in_default c =
    let schema = c.args.layout.now.schema in
    let wanted = length c.args.layout.now.wanted.items in
    let none : fields_of schema ≡ [] = search rules in
    let first = none_first (opens c.args.layout.now.wanted.items) (fields_of schema) wanted c.args.layout.now.needed.items (datum_at schema c.args.input.now c.args.at) none in
    record {
      exact = rw c.behind_all-in_default.ensures (first ∙ ap (map_value (λ (after : Cursor). (wanted, after))) c.in_ok-after-in_default.ensures.exact);
      within = c.in_ok-after-in_default.ensures.within;
    }
