use Rattle.std.proofs.Common.{sym, arith, rules}
use Rattle.row_types.specs.Columns.{columns_of}
use Rattle.row_types.specs.ColumnsLaws.{are_columns}
use Rattle.row_types.proofs.ColumnsLemmas.{name_refused}
use Rattle.row_types.proofs.columns.check.Goals as goal

pub invariant_of-result : goal.invariant_of-result
invariant_of-result c =
    let ids = rw c.deref.ensures.value at c.in_default.ensures.value in
    let names = rw c.deref-2.ensures.value at c.in_default-place_of_wrong_name.ensures.value in
    rw c.from_vec.ensures (are_columns c.args.list.items (omega arith) (omega arith) ids names)

pub returns-clause-right : goal.returns-clause-right
returns-clause-right c =
    let ids = rw c.deref.ensures.value at c.in_default.ensures.value in
    let names = rw c.deref-2.ensures.value at c.in_default-place_of_wrong_name.ensures.value in
    rw c.from_vec.ensures (are_columns c.args.list.items (omega arith) (omega arith) ids names)

pub returns-in-Some-place_of_wrong_name-clause-exact : goal.returns-in-Some-place_of_wrong_name-clause-exact
returns-in-Some-place_of_wrong_name-clause-exact c =
    let ids = rw c.deref.ensures.value at c.in_default.ensures.value in
    let name = rw c.deref-2.ensures.value at c.in-Some-place_of_wrong_name.ensures.value in
    let within = rw c.deref-2.ensures.value at c.in-Some-place_of_wrong_name.ensures.within in
    sym (name_refused c.args.list.items c.in-Some-place_of_wrong_name.place c.swap_remove-column.result (omega arith) (omega arith) ids name within c.swap_remove-column.ensures.value)

pub returns-clause-exact : goal.returns-clause-exact
unfolding columns_of
returns-clause-exact c = search rules
