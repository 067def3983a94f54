-- Entries that are read one by one.
use Rattle.std.proofs.Common.{◌≡◌, ◌<◌, ◌∙◌, ap, refl, suc, zero, sym, arith, ℕ, List, [], ◌∷◌, Some, length, slice_get, slice_index_or}
use Rattle.lrpar_grammar_places.specs.declared.span.RIdx.{RIdx}
use Rattle.lrpar_grammar_places.specs.declared.span.StIdx.{StIdx}
use Rattle.lrpar_grammar_places.specs.declared.span.TIdx.{TIdx}
use Rattle.lrpar_table_rows.specs.PlainRows.{plain_action}
use Rattle.lrpar_table_rows.specs.StoredRows.{AreActionsAt, AreGotosAt, StoresActionsAt, StoresGotosAt}
use Rattle.lrpar_table_rows.specs.Table.{Table, action_of, actions_at, gotos_at}
use Rattle.lrpar_table_rows.specs.declared.rows.Action.{Action}
use Rattle.lrpar_table_rows.proofs.StoredLemmas.{entries_len, entry_at, entry_read}
use Rattle.std.proofs.lemmas.Option.{get_or_from_slice_get}
use Rattle.lrpar_table_pops.specs.Entries.{AreActionsOf, AreAllRulesOf, AreAllTokensOf, AreGotosOf}

-- there is an element at each place
pub element_at : {X : Type 0} (xs : List X) (i : ℕ) → i < length xs → (x : X) × (slice_get xs i ≡ Some x)
element_at [] i low = absurd (omega (arith, low))
element_at (x ∷ xs) zero low = (x, refl)
element_at (x ∷ xs) (suc i) low = element_at xs i (omega (arith, low))

-- it is read there
read_there : {X : Type 0} (xs : List X) (i : ℕ) (x d : X) → slice_get xs i ≡ Some x → slice_index_or xs i d ≡ x
read_there xs i x d is = get_or_from_slice_get xs i x d is

-- what is read at a place of a list doesn't hang on what is read past its end
within_any : {X : Type 0} (xs : List X) (i : ℕ) → i < length xs → (d e : X) → slice_index_or xs i d ≡ slice_index_or xs i e
within_any [] i low d e = absurd (omega (arith, low))
within_any (x ∷ xs) zero low d e = refl
within_any (x ∷ xs) (suc i) low d e = within_any xs i (omega (arith, low)) d e

module _ {S : Type 0} (index : S → ℕ) (table : Table) (s : StIdx S) where
  pub stored_actions : (tokens : List (TIdx S)) (actions : List (Action S)) → AreActionsAt index table s tokens actions → length actions ≡ length tokens
      → StoresActionsAt index table s → AreActionsOf index table s tokens actions
  stored_actions tokens actions are paired exact i token action low token_is action_is =
      let at = entry_at (λ (t : TIdx S). index t.0) (plain_action index) tokens actions (actions_at table (index s.0)) paired are i token action low token_is action_is in
      ((exact (index token.0) (plain_action index action)).0 (i, at.0, sym at.1)).0

  pub stored_gotos : (rules : List (RIdx S)) (nexts : List (StIdx S)) → AreGotosAt index table s rules nexts → length nexts ≡ length rules
      → StoresGotosAt index table s → AreGotosOf index table s rules nexts
  stored_gotos rules nexts are paired exact i rule next low rule_is next_is =
      let at = entry_at (λ (r : RIdx S). index r.0) (λ (n : StIdx S). index n.0) rules nexts (gotos_at table (index s.0)) paired are i rule next low rule_is next_is in
      (exact (index rule.0) (index next.0)).0 (i, at.0, sym at.1)

  pub no_actions : (actions : List (Action S)) → AreActionsOf index table s [] actions
  no_actions actions i token action low token_is action_is = absurd (omega (arith, low))

  pub no_gotos : (nexts : List (StIdx S)) → AreGotosOf index table s [] nexts
  no_gotos nexts i rule next low rule_is next_is = absurd (omega (arith, low))

  -- the state acts at the tokens that are stored, and at no others
  pub all_tokens : (tokens : List (TIdx S)) (actions : List (Action S)) → AreActionsAt index table s tokens actions → length actions ≡ length tokens
      → StoresActionsAt index table s → AreAllTokensOf index table s tokens
  all_tokens tokens actions are paired exact t acts =
      let es = actions_at table (index s.0) in
      let number = λ (x : TIdx S). index x.0 in
      let entry = (exact t (action_of table (index s.0) t)).1 (refl, acts) in
      let long = entries_len number (plain_action index) tokens actions es paired are in
      let under = entry.1 in
      let token = element_at tokens entry.0 (omega (arith, long, under)) in
      let action = element_at actions entry.0 (omega (arith, long, paired, under)) in
      let read = entry_read number (plain_action index) tokens actions es paired are entry.0 token.0 action.0 (omega (arith, long, under))
      (sym (read_there tokens entry.0 token.0 token.0 token.1)) (sym (read_there actions entry.0 action.0 action.0 action.1)) in
      let pair = within_any es entry.0 under (number token.0, plain_action index action.0) (t, action_of table (index s.0) t) in
      (entry.0, token.0, token.1, ap (λ (e : _). e.0) (read ∙ pair ∙ entry.2))

  -- and it has gotos by the rules that are stored, and by no others
  pub all_rules : (rules : List (RIdx S)) (nexts : List (StIdx S)) → AreGotosAt index table s rules nexts → length nexts ≡ length rules
      → StoresGotosAt index table s → AreAllRulesOf index table s rules
  all_rules rules nexts are paired exact r to goto =
      let es = gotos_at table (index s.0) in
      let number = λ (x : RIdx S). index x.0 in
      let value = λ (x : StIdx S). index x.0 in
      let entry = (exact r to).1 goto in
      let long = entries_len number value rules nexts es paired are in
      let under = entry.1 in
      let rule = element_at rules entry.0 (omega (arith, long, under)) in
      let next = element_at nexts entry.0 (omega (arith, long, paired, under)) in
      let read = entry_read number value rules nexts es paired are entry.0 rule.0 next.0 (omega (arith, long, under))
      (sym (read_there rules entry.0 rule.0 rule.0 rule.1)) (sym (read_there nexts entry.0 next.0 next.0 next.1)) in
      let pair = within_any es entry.0 under (number rule.0, value next.0) (r, to) in
      (entry.0, rule.0, rule.1, ap (λ (e : _). e.0) (read ∙ pair ∙ entry.2))
