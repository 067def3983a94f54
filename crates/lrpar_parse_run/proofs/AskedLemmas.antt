-- What a recoverer gets at an error point.
use Rattle.std.proofs.Common.{◌≡◌, ◌<◌, ◌≤◌, inl, inr, ℕ, List, Some, arith, length, map}
use Rattle.std.proofs.lemmas.Option.{slice_get_cases}
use Rattle.lrpar_grammar.specs.Grammar.{Grammar, end_token}
use Rattle.lrpar_grammar.specs.Sentence.{LexemeFacts, IsValidList}
use Rattle.lrpar_table_rows.specs.Table.{Fails}
use Rattle.lrpar_table_check.specs.Checked.{Checked, IsChecked}
use Rattle.lrpar_table_stacks.specs.Reduction.{top_action}
use Rattle.lrpar_table_stacks.specs.Run.{token_at}
use Rattle.lrpar_table_stacks.specs.RunLaws.{KeepOffEnd}
use Rattle.lrpar_table_stacks.specs.Stack.{IsStack}
use Rattle.lrpar_table_stacks.specs.Path.{NeverSticks}
use Rattle.lrpar_table_stacks.proofs.RunLemmas.{far_ends_by_failing, token_at_lexeme}
use Rattle.lrpar_parse_run.specs.Building.{Building}
use Rattle.lrpar_parse_run.specs.RunStack.{IsRunStack, Stacked}
use Rattle.lrpar_parse_repair.proofs.TokenLemmas.{good_token}
use Rattle.lrpar_parse_run.specs.Moves.{GoesFar, far_end}
use Rattle.lrpar_parse_repair.specs.Asked.{IsStop, asked_at}

-- no lexeme of a valid list has the end token
pub keeps_off_end : {X : Type 0} (facts : X → LexemeFacts) (g : Grammar) (lexemes : List X) → IsValidList g (map facts lexemes) → KeepOffEnd (λ x. (facts x).token) g lexemes
keeps_off_end {X} facts g lexemes valid j within same =
    let token : X → ℕ = λ x. (facts x).token in
    elim (slice_get_cases lexemes j).1 as (λ _. ⊥) [
      | inl found ↦
          let less : (facts found.0).token < end_token g = good_token facts g lexemes j found.0 valid found.2 in
          let is : token_at token g lexemes j ≡ token found.0 = token_at_lexeme token g lexemes j found.0 found.2 in
          absurd (omega (arith, less, is, same))
      | inr past ↦ let over = past.0 in absurd (omega (arith, over, within))
    ]

-- over valid lexemes, a stack of a checked table whose top has no action is at an error point
pub stop_of : {X : Type 0} (facts : X → LexemeFacts) (d : Checked) (k : ℕ) (lexemes : List X) (i : ℕ) (st : List ℕ) → IsChecked d → 0 < k
    → IsValidList d.grammar (map facts lexemes) → IsStack d.table st → i ≤ length lexemes
    → top_action d.table (token_at (λ x. (facts x).token) d.grammar lexemes i) st ≡ Fails
    → IsStop (λ x. (facts x).token) (asked_at d k (record { lexemes = lexemes; place = i; stack = st }))
stop_of facts d k lexemes i st checked some valid stack within fails = record {
  checked = checked;
  shifts = some;
  within = within;
  tokens = λ j x at. good_token facts d.grammar lexemes j x valid at;
  stack = stack;
  fails = fails;
}

-- at an error point of a run over valid lexemes, the top has no action
pub far_fails : {X E : Type 0} (facts : X → LexemeFacts) (builds : Building X E) (d : Checked) (lexemes : List X) (old : Stacked E) (i j : ℕ) (new : Stacked E)
    → NeverSticks d.grammar d.table → IsValidList d.grammar (map facts lexemes) → IsRunStack builds.suits d.table old
    → GoesFar facts builds d lexemes old i (Some j) new
    → top_action d.table (token_at (λ x. (facts x).token) d.grammar lexemes j) new.states ≡ Fails
far_fails facts builds d lexemes old i j new never valid run far =
    far_ends_by_failing (λ x. (facts x).token) d.grammar d.table lexemes old.states i far.prods (far_end new.states (Some j)) never
    (keeps_off_end facts d.grammar lexemes valid) (run.symbols, run.path) far.far
