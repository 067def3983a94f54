-- Runs keep a stack a stack of the table; and at an error point the table has no action.
use Rattle.std.proofs.Common.{◌≡◌, ◌<◌, ◌+◌, inl, inr, ℕ, List, [], ◌∷◌, Option, map, sym, subst, arith, All}
use Rattle.std.proofs.lemmas.List.Elements.{All-nil, All-cons}
use Rattle.std.proofs.lemmas.Option.{slice_get_cases}
use Rattle.lrpar_grammar.specs.Grammar.{Grammar, end_token, tokens_len}
use Rattle.lrpar_grammar.specs.Sentence.{IsValidList, LexemeFacts}
use Rattle.lrpar_table_rows.specs.Table.{Table, Fails}
use Rattle.lrpar_table_check.specs.Checked.{Checked, IsChecked}
use Rattle.lrpar_table_stacks.specs.Path.{NeverSticks}
use Rattle.lrpar_table_stacks.specs.Reduction.{Feeds, Settles, top_action}
use Rattle.lrpar_table_stacks.specs.Stack.{IsStack}
use Rattle.lrpar_table_stacks.proofs.ChainLemmas.{bounds_reductions}
use Rattle.lrpar_table_stacks.proofs.PathLemmas.{checked_runs_never_stick}
use Rattle.lrpar_table_check.proofs.CheckedLemmas.{run_of_checked}
use Rattle.lrpar_table_stacks.proofs.SettleLemmas.{IsRun, stack_reduced, stack_shifted}
use Rattle.lrpar_table_stacks.proofs.StackLemmas.{stack_has_path}
use Rattle.lrpar_parse_repair.specs.Recovery.{Point}
use Rattle.lrpar_parse.specs.RepairLaws.{StopsAtStacks, StopsByFailing}
use Rattle.lrpar_parse_run.specs.RepairRun.{RepairRun, RepairStop, ends_there, is_repaired, runs_through}
use Rattle.lrpar_table_stacks.specs.RunLaws.{KeepOffEnd}
use Rattle.lrpar_table_stacks.specs.Run.{Far, FarEnd, Accepted, Stopped, accepts, goes_on, stops, token_at}
use Rattle.lrpar_parse_repair.specs.Sequences.{PlainStep, PlainInsert, PlainDelete, PlainShift, Replays, StepsTo}
use Rattle.lrpar_parse_repair.proofs.TokenLemmas.{good_token}
use Rattle.lrpar_table_stacks.proofs.RunLemmas.{far_ends_by_failing, token_at_end, token_at_lexeme}
use Rattle.lrpar_parse_run.proofs.AskedLemmas.{keeps_off_end}

module _ (g : Grammar) (table : Table) (cap : ℕ) (run : IsRun g table cap) where
  -- all reductions at a token lead from a stack of the table to one
  pub settles_stack : (t : ℕ) (st ps after : List ℕ) → t < table.tokens → IsStack table st → Settles g table t st ps after → IsStack table after
  settles_stack t st [] after within stack settles = subst (IsStack table) settles.0 stack
  settles_stack t st (p ∷ ps) after within stack settles =
      settles_stack t settles.0 ps after within (stack_reduced g table cap run t within st p settles.0 stack settles.1) settles.2

  -- and so does feeding a token
  pub feeds_stack : (t : ℕ) (st ps after : List ℕ) → t < table.tokens → IsStack table st → Feeds g table t st ps after → IsStack table after
  feeds_stack t st ps after within stack feeds =
      let settled = settles_stack t st ps feeds.settled within stack feeds.settles in
      subst (IsStack table) (sym feeds.pushed) (stack_shifted g table cap run t within feeds.settled feeds.next settled feeds.shifts)

  -- the stack of an error point is a stack of the table
  abbrev pub EndsOnStack : FarEnd → Type 0
  EndsOnStack Accepted = Unit {0}
  EndsOnStack (Stopped stop) = IsStack table stop.stack

  module _ {X : Type 0} (token : X → ℕ) (lexemes : List X) (known : (j : ℕ) → token_at token g lexemes j < table.tokens) (last : end_token g < table.tokens) where
    pub far_stack : (st : List ℕ) (i : ℕ) (ps : List ℕ) (end : FarEnd) → IsStack table st → Far token g table lexemes st i ps end → EndsOnStack end
    far_stack _ _ _ _ stack (goes_on st i ps qs next end within first rest) =
        far_stack next (i + 1) qs end (feeds_stack (token_at token g lexemes i) st ps next (known i) stack first) rest
    far_stack _ _ _ _ stack (accepts st i ps settled at_end settles accepted) = tt
    far_stack _ _ _ _ stack (stops st i ps settled fits settles stuck) = settles_stack (token_at token g lexemes i) st ps settled (known i) stack settles

    -- a step leads from a stack of the table to one
    step_stack : (st : List ℕ) (i : ℕ) (step : PlainStep) (ps next : List ℕ) (j : ℕ) → IsStack table st → StepsTo token g table lexemes st i step ps next j
        → IsStack table next
    step_stack st i (PlainInsert t) ps next j stack x = feeds_stack t st ps next (omega (arith, x.0, last)) stack x.1
    step_stack st i PlainDelete ps next j stack x = subst (IsStack table) (sym x.2) stack
    step_stack st i PlainShift ps next j stack x = feeds_stack (token_at token g lexemes i) st ps next (known i) stack x.1

    pub replays_stack : (st : List ℕ) (i : ℕ) (steps : List PlainStep) (ps after : List ℕ) (j : ℕ) → IsStack table st
        → Replays token g table lexemes st i steps ps after j → IsStack table after
    replays_stack st i [] ps after j stack x = subst (IsStack table) (sym x.1) stack
    replays_stack st i (step ∷ steps) ps after j stack x =
        replays_stack x.1 x.2 steps x.3 after j (step_stack st i step x.0 x.1 x.2 stack x.4) x.5

abbrev OnStack : Table → RepairStop → Type 0
OnStack table s = IsStack table s.stop.stack

module _ {X : Type 0} (facts : X → LexemeFacts) (allows : Point X → List (List PlainStep) → Type 0) (k : ℕ) (g : Grammar) (table : Table) (cap : ℕ) (run : IsRun g table cap)
    (lexemes : List X) (known : (j : ℕ) → token_at (λ x. (facts x).token) g lexemes j < table.tokens) (last : end_token g < table.tokens) where
  run_stacks : (st : List ℕ) (i : ℕ) (found : List RepairStop) (consumed : Option (List X)) (prods : List ℕ) → IsStack table st
      → RepairRun facts allows k g table lexemes st i found consumed prods → All (OnStack table) found
  run_stacks _ _ _ _ _ stack (runs_through st i prods far) = All-nil (OnStack table)
  run_stacks _ _ _ _ _ stack (ends_there st i prods stop far at) =
      All-cons (OnStack table) (record { stop = stop; listed = [] }) []
      (far_stack g table cap run (λ x. (facts x).token) lexemes known last st i prods (Stopped stop) stack far) (All-nil (OnStack table))
  run_stacks _ _ _ _ _ stack (is_repaired st i prods stop first listed made after j recovered found consumed rest far at replays eaten more) =
      let here = far_stack g table cap run (λ x. (facts x).token) lexemes known last st i prods (Stopped stop) stack far in
      let next = replays_stack g table cap run (λ x. (facts x).token) lexemes known last stop.stack stop.place first made after j here replays in
      All-cons (OnStack table) (record { stop = stop; listed = first ∷ listed }) found here (run_stacks after j found consumed rest next more)

-- the token at any place is one of the table
pub known_tokens : {X : Type 0} (facts : X → LexemeFacts) (d : Checked) (lexemes : List X) → IsChecked d → IsValidList d.grammar (map facts lexemes)
    → (j : ℕ) → token_at (λ x. (facts x).token) d.grammar lexemes j < d.table.tokens
known_tokens {X} facts d lexemes checked valid j =
    let token : X → ℕ = λ x. (facts x).token in
    let all : d.table.tokens ≡ tokens_len d.grammar = checked.safe.shape.tokens in
    elim (slice_get_cases lexemes j).1 as (λ _. token_at token d.grammar lexemes j < d.table.tokens) [
      | inl found ↦
          let good : (facts found.0).token < end_token d.grammar = good_token facts d.grammar lexemes j found.0 valid found.2 in
          let same : token_at token d.grammar lexemes j ≡ token found.0 = token_at_lexeme token d.grammar lexemes j found.0 found.2 in
          omega (arith, all, good, same)
      | inr past ↦
          let same : token_at token d.grammar lexemes j ≡ end_token d.grammar = token_at_end token d.grammar lexemes j past.0 in
          omega (arith, all, same)
    ]

pub stops_at_stacks : {X : Type 0} (facts : X → LexemeFacts) (allows : Point X → List (List PlainStep) → Type 0) → StopsAtStacks facts allows
stops_at_stacks facts allows d k lexemes st found consumed prods checked valid stack more =
    let runs = checked_runs_never_stick d.grammar d.graph d.table checked.well_formed checked.closed checked.safe in
    let bounds = bounds_reductions d.grammar d.table d.cap checked.closed checked.chains in
    let all : d.table.tokens ≡ tokens_len d.grammar = checked.safe.shape.tokens in
    run_stacks facts allows k d.grammar d.table d.cap (run_of_checked d checked runs bounds) lexemes (known_tokens facts d lexemes checked valid) (omega (arith, all)) st 0 found consumed prods stack more

abbrev FailsThere : {X : Type 0} → (X → ℕ) → Grammar → Table → List X → RepairStop → Type 0
FailsThere token g table lexemes s = top_action table (token_at token g lexemes s.stop.place) s.stop.stack ≡ Fails

module _ {X : Type 0} (facts : X → LexemeFacts) (allows : Point X → List (List PlainStep) → Type 0) (k : ℕ) (g : Grammar) (table : Table) (cap : ℕ) (run : IsRun g table cap)
    (lexemes : List X) (known : (j : ℕ) → token_at (λ x. (facts x).token) g lexemes j < table.tokens) (last : end_token g < table.tokens)
    (never : NeverSticks g table) (good : KeepOffEnd (λ x. (facts x).token) g lexemes) where
  abbrev Fails_at : RepairStop → Type 0
  Fails_at = FailsThere (λ x. (facts x).token) g table lexemes

  run_fails : (st : List ℕ) (i : ℕ) (found : List RepairStop) (consumed : Option (List X)) (prods : List ℕ) → IsStack table st
      → RepairRun facts allows k g table lexemes st i found consumed prods → All Fails_at found
  run_fails _ _ _ _ _ stack (runs_through st i prods far) = All-nil Fails_at
  run_fails _ _ _ _ _ stack (ends_there st i prods stop far at) =
      All-cons Fails_at (record { stop = stop; listed = [] }) []
      (far_ends_by_failing (λ x. (facts x).token) g table lexemes st i prods (Stopped stop) never good (stack_has_path table st stack) far) (All-nil Fails_at)
  run_fails _ _ _ _ _ stack (is_repaired st i prods stop first listed made after j recovered found consumed rest far at replays eaten more) =
      let here = far_stack g table cap run (λ x. (facts x).token) lexemes known last st i prods (Stopped stop) stack far in
      let next = replays_stack g table cap run (λ x. (facts x).token) lexemes known last stop.stack stop.place first made after j here replays in
      let fails = far_ends_by_failing (λ x. (facts x).token) g table lexemes st i prods (Stopped stop) never good (stack_has_path table st stack) far in
      All-cons Fails_at (record { stop = stop; listed = first ∷ listed }) found fails (run_fails after j found consumed rest next more)

pub stops_by_failing : {X : Type 0} (facts : X → LexemeFacts) (allows : Point X → List (List PlainStep) → Type 0) → StopsByFailing facts allows
stops_by_failing facts allows d k lexemes st found consumed prods checked valid stack more =
    let runs = checked_runs_never_stick d.grammar d.graph d.table checked.well_formed checked.closed checked.safe in
    let bounds = bounds_reductions d.grammar d.table d.cap checked.closed checked.chains in
    let all : d.table.tokens ≡ tokens_len d.grammar = checked.safe.shape.tokens in
    run_fails facts allows k d.grammar d.table d.cap (run_of_checked d checked runs bounds) lexemes (known_tokens facts d lexemes checked valid) (omega (arith, all))
    runs (keeps_off_end facts d.grammar lexemes valid) st 0 found consumed prods stack more
