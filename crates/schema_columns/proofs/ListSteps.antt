-- Steps of the checks of a schema's list.
use Rattle.std.proofs.Common.{◌≡◌, ℕ, ◌+◌, ◌<◌, List, [], ◌∷◌, ◌++◌, length, get_or, drop, Result, Ok, Err, sym, ap, ◌∙◌}
use Rattle.std.proofs.lemmas.List.{at_drop_more}
use Rattle.words.specs.Reading.{◌>>=◌}
use Rattle.serde_json.specs.View.{view, items_view}
use Rattle.serde_json.specs.declared.value.Value.{Value}
use Rattle.row_types.specs.declared.column.Column.{Column}
use Rattle.schema_columns.specs.declared.refusal.ColumnRefusal.{ColumnRefusal}
use Rattle.schema_columns.specs.Reading.{kind_checked, kinds_checked, column_of, columns_from}

kinds_at : (vs : List Value) (i : ℕ) (v : Value) → i < length vs → v ≡ get_or vs i v
    → kinds_checked (items_view (drop i vs))
    ≡ (kind_checked (view v) >>= (λ _. kinds_checked (items_view (drop (i + 1) vs))))
kinds_at vs i v lt is =
    at_drop_more (λ (ws : List Value). kinds_checked (items_view ws)) vs i v lt
    ∙ ap (λ (w : Value). kind_checked (view w) >>= (λ _. kinds_checked (items_view (drop (i + 1) vs)))) (sym is)

-- a column has a kind: the others decide
pub kinds_on : (vs : List Value) (i : ℕ) (v : Value) (total : Result (Unit {0}) ColumnRefusal) → i < length vs
    → v ≡ get_or vs i v → kind_checked (view v) ≡ Ok tt → kinds_checked (items_view (drop i vs)) ≡ total
    → kinds_checked (items_view (drop (i + 1) vs)) ≡ total
kinds_on vs i v total lt is right so_far =
    sym (ap (λ (r : Result (Unit {0}) ColumnRefusal). r >>= (λ _. kinds_checked (items_view (drop (i + 1) vs)))) right)
    ∙ sym (kinds_at vs i v lt is) ∙ so_far

-- one has none
pub kinds_stop : (vs : List Value) (i : ℕ) (v : Value) (e : ColumnRefusal) (total : Result (Unit {0}) ColumnRefusal)
    → i < length vs → v ≡ get_or vs i v → kind_checked (view v) ≡ Err e
    → kinds_checked (items_view (drop i vs)) ≡ total → total ≡ Err e
kinds_stop vs i v e total lt is refused so_far =
    sym so_far ∙ kinds_at vs i v lt is
    ∙ ap (λ (r : Result (Unit {0}) ColumnRefusal). r >>= (λ _. kinds_checked (items_view (drop (i + 1) vs)))) refused

columns_at : (seen : List Column) (vs : List Value) (i : ℕ) (v : Value) → i < length vs → v ≡ get_or vs i v
    → columns_from seen (items_view (drop i vs))
    ≡ (column_of (view v) >>= (λ column. columns_from (seen ++ column ∷ []) (items_view (drop (i + 1) vs))))
columns_at seen vs i v lt is =
    at_drop_more (λ (ws : List Value). columns_from seen (items_view ws)) vs i v lt
    ∙ ap (λ (w : Value). column_of (view w) >>= (λ column. columns_from (seen ++ column ∷ []) (items_view (drop (i + 1) vs))))
    (sym is)

-- a column is read: the others decide
pub columns_on : (seen : List Column) (vs : List Value) (i : ℕ) (v : Value) (column : Column)
    (total : Result (List Column) ColumnRefusal) → i < length vs → v ≡ get_or vs i v → column_of (view v) ≡ Ok column
    → columns_from seen (items_view (drop i vs)) ≡ total
    → columns_from (seen ++ column ∷ []) (items_view (drop (i + 1) vs)) ≡ total
columns_on seen vs i v column total lt is read so_far =
    sym (ap (λ (r : Result Column ColumnRefusal). r >>= (λ c. columns_from (seen ++ c ∷ []) (items_view (drop (i + 1) vs)))) read)
    ∙ sym (columns_at seen vs i v lt is) ∙ so_far

-- one is refused
pub columns_stop : (seen : List Column) (vs : List Value) (i : ℕ) (v : Value) (e : ColumnRefusal)
    (total : Result (List Column) ColumnRefusal) → i < length vs → v ≡ get_or vs i v → column_of (view v) ≡ Err e
    → columns_from seen (items_view (drop i vs)) ≡ total → total ≡ Err e
columns_stop seen vs i v e total lt is refused so_far =
    sym so_far ∙ columns_at seen vs i v lt is
    ∙ ap (λ (r : Result Column ColumnRefusal). r >>= (λ c. columns_from (seen ++ c ∷ []) (items_view (drop (i + 1) vs)))) refused
