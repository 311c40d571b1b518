use Rattle.records.specs.MeansLaws.{means}
use Rattle.records.proofs.record.RecordsObject.agrees.Goals as goal

pub returns : goal.returns
returns g c =
    let schema = c.args.self.now.layout.schema in
    let wanted = c.args.self.now.layout.wanted.items in
    means g.T.FromCells.made g.T.FromCells.refused schema wanted (c.record_agrees.ensures schema wanted)
