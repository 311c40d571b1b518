use Rattle.std.proofs.Common.{◌≡◌, Ok, List, map, drop, sym, subst, rules}
use Rattle.row_types.specs.declared.cell_ref.CellRef.{CellRef}
use Rattle.fields.specs.Record.{pick, record_at}
use Rattle.fields.proofs.OrderLemmas.{put_back}
use Rattle.row_types.specs.CellRef.{lent_cell}
use Rattle.fields.proofs.TakingLemmas.{record_known, known_read}
use Rattle.fields.proofs.taking.take_known_record.Goals as goal

pub take_in_order-requires-clause-known : goal.take_in_order-requires-clause-known
take_in_order-requires-clause-known c =
    let layout = c.args.layout.now in
    known_read layout.schema layout.wanted.items c.args.input.now c.args.place c.requires.known

pub returns-in-Some-clause-exact : goal.returns-in-Some-clause-exact
returns-in-Some-clause-exact c =
    let layout = c.args.layout.now in
    let new = c.take_in_order.new.wanted in
    let back = put_back new c.args.cells.now.wanted.items c.args.cells.now.wanted.len (search rules) in
    let known = record_known layout.schema layout.wanted.items c.args.input.now c.args.place layout.sources.items (map lent_cell (drop c.in-Some.missing new)) (map lent_cell new) c.take_in_order.result
    c.requires.layout.sources c.take_in_order.ensures.exact c.take_in_order.ensures.arranged c.requires.known in
    subst (λ (cells : List CellRef). record_at layout.schema layout.wanted.items c.args.input.now c.args.place ≡ Ok (map lent_cell cells, c.take_in_order.result.place)) (sym back) known

pub take_known_all-after-requires-clause-known : goal.take_known_all-after-requires-clause-known
take_known_all-after-requires-clause-known c =
    let layout = c.args.layout.now in
    known_read layout.schema layout.wanted.items c.args.input.now c.args.place c.requires.known

pub returns-clause-exact : goal.returns-clause-exact
returns-clause-exact c =
    let layout = c.args.layout.now in
    let new = c.take_known_all-after.new.all in
    let cells = map lent_cell c.arrange.new.wanted.items in
    let back = put_back new c.args.cells.now.all.items c.args.cells.now.all.len (search rules) in
    let arranged = subst (λ (all : List CellRef). cells ≡ map (pick (map lent_cell all)) layout.sources.items) back c.arrange.ensures.arranged in
    record_known layout.schema layout.wanted.items c.args.input.now c.args.place layout.sources.items (map lent_cell new) cells c.take_known_all-after.result
    c.requires.layout.sources c.take_known_all-after.ensures.exact arranged c.requires.known
