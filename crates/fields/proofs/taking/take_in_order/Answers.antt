use Rattle.std.proofs.Common.{◌≡◌, ◌-◌, ◌++◌, length, take, drop, ap, ◌∙◌, arith}
use Rattle.std.proofs.lemmas.List.{length-take-le, length-drop, drop_all}
use Rattle.fields.proofs.TakingLemmas.{forms_many}
use Rattle.fields.proofs.OrderLemmas.{parts_picked, rest_width, order_width}
use Rattle.fields.proofs.taking.take_in_order.Goals as goal

pub take_known_all-requires-clause-width : goal.take_known_all-requires-clause-width
take_known_all-requires-clause-width c =
    let layout = c.args.layout.now in
    let wanted = c.args.wanted.now in
    let sources = order_width layout.sources.items (length layout.leaves.items) c.args.missing c.requires.order in
    let forms : length layout.forms.items ≡ length layout.leaves.items = ap length c.requires.layout.forms ∙ forms_many layout.leaves.items in
    let front = length-take-le c.args.missing wanted (omega (arith, c.requires.width, sources)) in
    rest_width c.args.missing _ c.clear.new.cells (drop c.args.missing wanted) c.clear.ensures front
    ∙ omega (arith, length-drop c.args.missing wanted, c.requires.width, sources, forms)

pub returns-clause-arranged : goal.returns-clause-arranged
returns-clause-arranged c =
    let layout = c.args.layout.now in
    let wanted = c.args.wanted.now in
    let sources = order_width layout.sources.items (length layout.leaves.items) c.args.missing c.requires.order in
    let forms : length layout.forms.items ≡ length layout.leaves.items = ap length c.requires.layout.forms ∙ forms_many layout.leaves.items in
    let front = length-take-le c.args.missing wanted (omega (arith, c.requires.width, sources)) in
    let rest = rest_width c.args.missing _ c.clear.new.cells (drop c.args.missing wanted) c.clear.ensures front in
    let held : length c.take_known_all.new.all ≡ length layout.leaves.items = omega (arith, c.take_known_all.ensures.width, rest, length-drop c.args.missing wanted, c.requires.width, sources) in
    let all = c.clear.new.cells ++ drop c.args.missing wanted in
    let none = drop_all (length all - c.args.missing) (drop c.args.missing all) (omega (arith, length-drop c.args.missing all)) in
    parts_picked layout.sources.items c.args.missing (length layout.leaves.items) _ c.clear.new.cells (drop c.args.missing wanted) c.take_known_all.new.all _
    c.clear.ensures front held none c.requires.order
