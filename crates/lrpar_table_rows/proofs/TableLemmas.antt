-- The table that the parts of code make.
use Rattle.std.proofs.Common.{◌≡◌, ◌≤◌, ◌∙◌, ℕ, List, [], All, MatchOption, Option, Some, None, Vec, Global, length, map, slice_index_or, refl, ap, sym, subst, arith}
use Rattle.std.specs.List.{Contains}
use Rattle.std.specs.Map.{keys_of}
use Rattle.std.proofs.lemmas.List.{length-map}
use Rattle.lrpar_grammar_places.specs.declared.span.RIdx.{RIdx}
use Rattle.lrpar_grammar_places.specs.declared.span.StIdx.{StIdx}
use Rattle.lrpar_grammar_places.specs.declared.span.TIdx.{TIdx}
use Rattle.lrpar_table_rows.specs.Entries.{HasValue}
use Rattle.lrpar_table_rows.specs.PlainRows.{action_entry, goto_entry, plain_action, plain_goto, plain_rows, sparse_table_of}
use Rattle.lrpar_table_rows.specs.PlainTable.{plain_table}
use Rattle.lrpar_table_rows.specs.Rows.{row_actions, row_gotos, table_of}
use Rattle.lrpar_table_rows.specs.Table.{IsTable, ResolvedOf, Table, TableAction, Fails, action_of, actions_at, goto_of, gotos_at}
use Rattle.lrpar_table_rows.specs.declared.rows.Action.{Action}
use Rattle.lrpar_table_rows.specs.declared.rows.SparseRows.{SparseRows}
use Rattle.lrpar_table_rows.specs.declared.rows.TableRows.{TableRows}
use Rattle.lrpar_table_rows.proofs.Mapped.{All-unmap}
use Rattle.lrpar_table_rows.proofs.RowLemmas.{map-map, row_of_image}
use Rattle.lrpar_table_rows.proofs.EntryLemmas.{action_missing, goto_missing, gotos_exact, keys_of-map}
use Rattle.lrpar_table_rows.proofs.ItemLemmas.{Contains-image}

-- the parts that are made of sparse rows make their table
pub parts_are : {S : Type 0} (index : S → ℕ) (rows : SparseRows S) (actions : List (List (TIdx S × Action S))) (gotos : List (List (RIdx S × StIdx S)))
    (resolved : List ResolvedOf) → resolved ≡ [] → length rows.actions.items ≡ rows.states → actions ≡ map (λ row. row.items) rows.actions.items → gotos ≡ map (λ row. row.items) rows.gotos.items
    → plain_table index rows.start rows.tokens rows.rules actions gotos rows.conflicts resolved ≡ sparse_table_of index rows
parts_are index rows actions gotos resolved none states actions_are gotos_are =
    let len : length actions ≡ rows.states = ap length actions_are ∙ length-map rows.actions.items (λ row. row.items) ∙ states in
    let stored : map (map (action_entry index)) actions ≡ map (λ row. map (action_entry index) row.items) rows.actions.items =
    ap (map (map (action_entry index))) actions_are ∙ map-map (λ row. row.items) (map (action_entry index)) rows.actions.items in
    let goes : map (map (goto_entry index)) gotos ≡ map (λ row. map (goto_entry index) row.items) rows.gotos.items =
    ap (map (map (goto_entry index))) gotos_are ∙ map-map (λ row. row.items) (map (goto_entry index)) rows.gotos.items in
    cc

-- the number of the rows of actions is the number of states
pub states_of : {S : Type 0} (index : S → ℕ) (rows : TableRows S) (n : ℕ) → n ≡ rows.actions.len → n ≡ length (plain_rows index rows).actions
states_of index rows n is = is ∙ rows.actions.ok.0 ∙ sym (length-map rows.actions.items (λ row. map (plain_action index) row.items))

-- the sparse rows that are made of full rows make their table
pub stored_are : {S : Type 0} (index : S → ℕ) (rows : TableRows S) (states : ℕ)
    (actions : Vec (Vec (TIdx S × Action S) Global) Global) (gotos : Vec (Vec (RIdx S × StIdx S) Global) Global)
    → states ≡ length rows.actions.items
    → map (λ row. map (action_entry index) row.items) actions.items ≡ map (λ row. row_actions (map (plain_action index) row.items)) rows.actions.items
    → map (λ row. map (goto_entry index) row.items) gotos.items ≡ map (λ row. row_gotos (map (plain_goto index) row.items)) rows.gotos.items
    → sparse_table_of index
    (record { start = rows.start; states = states; tokens = rows.tokens; rules = rows.rules; actions = actions; gotos = gotos; conflicts = rows.conflicts })
    ≡ table_of (plain_rows index rows)
stored_are index rows states actions gotos states_are actions_are gotos_are =
    let len : states ≡ length (map (λ row. map (plain_action index) row.items) rows.actions.items) =
    states_are ∙ sym (length-map rows.actions.items (λ row. map (plain_action index) row.items)) in
    let stored = actions_are ∙ sym (map-map (λ row. map (plain_action index) row.items) row_actions rows.actions.items) in
    let goes = gotos_are ∙ sym (map-map (λ row. map (plain_goto index) row.items) row_gotos rows.gotos.items) in
    cc

-- rows of length n, which is at most a limit, are no longer than the limit
pub short_rows : {R X Y : Type 0} (items : R → List X) (f : X → Y) (P : Y → Type 0) (rows : List R) (n limit : ℕ)
    → All (λ ys. (length ys ≡ n) × All P ys) (map (λ r. map f (items r)) rows) → n ≤ limit → All (λ r. length (items r) ≤ limit) rows
short_rows items f P rows n limit all fits k d below =
    let read = All-unmap (λ ys. (length ys ≡ n) × All P ys) (λ r. map f (items r)) rows all k d below in
    let len = length-map (items (slice_index_or rows k d)) f in
    omega (arith, len, read.0, fits)

-- the number of the key, and the value as the table has it
abbrev pub entry_as : {K V X : Type 0} → (K → ℕ) → (V → X) → K × V → ℕ × X
entry_as number value e = (number e.0, value e.1)

-- the entries that are stored for a state are the images of its row
entries_at : {K V X : Type 0} (number : K → ℕ) (value : V → X) (rows : List (List (K × V))) (s : ℕ)
    → slice_index_or (map (map (entry_as number value)) rows) s [] ≡ map (entry_as number value) (slice_index_or rows s [])
entries_at number value rows s = row_of_image (map (entry_as number value)) refl rows s

-- the numbers of the keys of its row are the keys of these entries
pub keys_at : {K V X : Type 0} (number : K → ℕ) (value : V → X) (rows : List (List (K × V))) (s : ℕ)
    → keys_of (slice_index_or (map (map (entry_as number value)) rows) s []) ≡ map (λ e. number e.0) (slice_index_or rows s [])
keys_at number value rows s = ap keys_of (entries_at number value rows s) ∙ keys_of-map number value (slice_index_or rows s [])

-- a key with its value in the row is an entry
pub value_at : {K V X : Type 0} (number : K → ℕ) (value : V → X) (rows : List (List (K × V))) (s k : ℕ) (v : V)
    → HasValue number (slice_index_or rows s []) k v
    → Contains {X = ℕ × X} (slice_index_or (map (map (entry_as number value)) rows) s []) (k, value v)
value_at {K} {V} {X} number value rows s k v there =
    let row : List (K × V) = slice_index_or rows s [] in
    let image : ℕ × V → ℕ × X = λ p. (p.0, value p.1) in
    let found : Contains {X = ℕ × X} (map image (map (entry_as number (λ w. w)) row)) (k, value v) = Contains-image image (map (entry_as number (λ w. w)) row) (k, v) there in
    subst (λ (es : List (ℕ × X)). Contains {X = ℕ × X} es (k, value v)) (map-map (entry_as number (λ w. w)) image row ∙ sym (entries_at number value rows s)) found

-- the state that was found, or none, is the goto of the table whose gotos these rows have
pub goto_read : {S : Type 0} (index : S → ℕ) (limit : ℕ) (table : Table) (rows : List (List (RIdx S × StIdx S))) (s r : ℕ) (o : Option (StIdx S))
    → IsTable limit table → table.gotos ≡ map (map (goto_entry index)) rows
    → MatchOption o (¬ (Contains (map (λ e. index e.0.0) (slice_index_or rows s [])) r))
    (λ v. HasValue (λ rule. index rule.0) (slice_index_or rows s []) r v)
    → plain_goto index o ≡ goto_of table s r
goto_read index limit table rows s r None is same none =
    let at : gotos_at table s ≡ slice_index_or (map (map (goto_entry index)) rows) s [] = ap (λ (gs : List (List (ℕ × ℕ))). slice_index_or gs s []) same in
    let keys = ap keys_of at ∙ keys_at (λ rule. index rule.0) (λ state. index state.0) rows s in
    sym (goto_missing table s r (subst (λ (ks : List ℕ). ¬ (Contains ks r)) (sym keys) none))
goto_read index limit table rows s r (Some v) is same there =
    let at : gotos_at table s ≡ slice_index_or (map (map (goto_entry index)) rows) s [] = ap (λ (gs : List (List (ℕ × ℕ))). slice_index_or gs s []) same in
    let stored = value_at (λ rule. index rule.0) (λ state. index state.0) rows s r v there in
    let found : Contains {X = ℕ × ℕ} (gotos_at table s) (r, index v.0) = subst (λ (es : List (ℕ × ℕ)). Contains {X = ℕ × ℕ} es (r, index v.0)) (sym at) stored in
    sym ((gotos_exact limit table is s r (index v.0)).0 found)

-- if no key of the row is the token, the action is an error
pub action_none : {S : Type 0} (index : S → ℕ) (limit : ℕ) (table : Table) (rows : List (List (TIdx S × Action S))) (s t : ℕ)
    → IsTable limit table → table.actions ≡ map (map (action_entry index)) rows
    → ¬ (Contains (map (λ e. index e.0.0) (slice_index_or rows s [])) t) → Fails ≡ action_of table s t
action_none index limit table rows s t is same none =
    let at : actions_at table s ≡ slice_index_or (map (map (action_entry index)) rows) s [] =
    ap (λ (as_stored : List (List (ℕ × TableAction))). slice_index_or as_stored s []) same in
    let keys = ap keys_of at ∙ keys_at (λ token. index token.0) (plain_action index) rows s in
    sym (action_missing table s t (subst (λ (ks : List ℕ). ¬ (Contains ks t)) (sym keys) none))
