use Rattle.row_writing.proofs.ItemLemmas.{two_more}
use Rattle.row_writing.proofs.file_schema.push_lineage.Goals as goal

pub returns : goal.returns
returns c = two_more c.args.fields.now.items c.push.new.self.items c.push-2.new.self.items _ _ _ _ c.in_ok-lineage_field.ensures c.in_ok-lineage_field-2.ensures c.in_ok-push.ensures.items c.in_ok-push-2.ensures.items
