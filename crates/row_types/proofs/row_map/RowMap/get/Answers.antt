use Rattle.std.proofs.Common.{◌≡◌, to_z, of_z, w64}
use Rattle.std.proofs.lemmas.Int.{to_z-of_z}
use Rattle.row_types.proofs.row_map.RowMap.get.Goals as goal

pub returns : goal.returns
returns c =
    let fits : to_z w64 (of_z w64 c.args.id) ≡ c.args.id = to_z-of_z w64 c.args.id c.ranges.id in
    rw (← c.self.view_is) (rw fits at c.get.ensures.value)
