use Rattle.std.proofs.Common.{◌≡◌, ◌++◌, ◌∙◌, ℕ, None, OnOk, Option, sym, ap, subst, map}
use Rattle.lrpar_table_precedence.specs.declared.precedence.Resolution.{Resolution}
use Rattle.lrpar_table_rows.specs.PlainConflicts.{resolved_conflict_of, shift_reduce_of}
use Rattle.lrpar_table_rows.specs.PlainRows.{action_entry, plain_goto}
use Rattle.lrpar_table_items.specs.Resolution.{decides_at, entry_at, resolutions, resolved, shift_conflicts_at, unresolved}
use Rattle.lrpar_table_items.proofs.StateRowLemmas.{done_by}
use Rattle.lrpar_table_items.proofs.state_row.push_action.Goals as goal

pub returns-in_ok-push_shifted-in-Some-clause-row : goal.returns-in_ok-push_shifted-in-Some-clause-row
returns-in_ok-push_shifted-in-Some-clause-row g c =
    let index = g.StorageT.StorageIndex.index in
    let token = index c.args.tidx.now.0 in
    let prods = map (λ p. index p.0) c.args.prods.now in
    c.in_ok-push_shifted-in-Some.ensures.row c.args.accepting
    ∙ ap (λ s. map (action_entry index) c.args.row.now.items ++ entry_at token (resolved (decides_at c.args.precedences.now token) (plain_goto index s) prods c.args.accepting)) (sym c.in-Some.is)

pub returns-in_ok-push_shifted-in-Some-clause-sr : goal.returns-in_ok-push_shifted-in-Some-clause-sr
returns-in_ok-push_shifted-in-Some-clause-sr g c =
    let index = g.StorageT.StorageIndex.index in
    let token = index c.args.tidx.now.0 in
    let prods = map (λ p. index p.0) c.args.prods.now in
    c.in_ok-push_shifted-in-Some.ensures.sr
    ∙ ap (λ s. map (shift_reduce_of index) c.args.sr.now.items ++ unresolved c.args.precedences.now (shift_conflicts_at (index c.args.state.now.0) token (plain_goto index s) prods)) (sym c.in-Some.is)

pub returns-in_ok-push_shifted-in-Some-clause-resolved : goal.returns-in_ok-push_shifted-in-Some-clause-resolved
returns-in_ok-push_shifted-in-Some-clause-resolved g c =
    let index = g.StorageT.StorageIndex.index in
    let token = index c.args.tidx.now.0 in
    let prods = map (λ p. index p.0) c.args.prods.now in
    c.in_ok-push_shifted-in-Some.ensures.resolved
    ∙ ap (λ s. map (resolved_conflict_of index) c.args.decided.now.items ++ resolutions c.args.precedences.now (shift_conflicts_at (index c.args.state.now.0) token (plain_goto index s) prods)) (sym c.in-Some.is)

pub returns-in-None-clause-row : goal.returns-in-None-clause-row
returns-in-None-clause-row g c =
    let index = g.StorageT.StorageIndex.index in
    let token = index c.args.tidx.now.0 in
    let prods = map (λ p. index p.0) c.args.prods.now in
    let made = map (action_entry index) c.push_unshifted.new.row.items in
    let old = map (action_entry index) c.args.row.now.items in
    let by = decides_at c.args.precedences.now token in
    subst (λ s. OnOk c.push_unshifted.result (made ≡ old ++ entry_at token (resolved by (plain_goto index s) prods c.args.accepting))) (sym c.in-None.is)
    (done_by c.push_unshifted.result (λ (f : ℕ → Option Resolution). made ≡ old ++ entry_at token (resolved f None prods c.args.accepting)) by
    c.push_unshifted.ensures.row)
