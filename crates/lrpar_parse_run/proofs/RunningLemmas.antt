-- A run at a place.
use Rattle.std.proofs.Common.{◌≤◌, ℕ, List, length}
use Rattle.lrpar_parse_lexemes.specs.Lexemes.{LexemeParts, start_at}
use Rattle.lrpar_parse_lexemes.specs.Views.{known}
use Rattle.lrpar_parse_run.specs.Building.{Building}
use Rattle.lrpar_parse_run.specs.Moves.{RiseUpTo}
use Rattle.lrpar_parse_run.specs.Running.{IsReady, IsRunAt}
use Rattle.lrpar_parse_run.specs.RunStack.{IsRunStack, Stacked}
use Rattle.lrpar_parse_run.specs.declared.run.Run.{Run}

module _ {S X B E : Type 0} {index : S → ℕ} {parts : X → LexemeParts S} {builds : B → Building X E} {run : Run S X B} {lexemes : List X} where
  -- it is ready to go on
  pub run_is_ready : {stack : Stacked E} {place : ℕ} → IsRunAt index parts builds run lexemes stack place → IsReady builds run stack
  run_is_ready there = record { can = there.can; run_stack = there.run_stack; rises = (there.rises.0, there.rises.2) }

  -- it goes on at another place with other stacks
  pub run_on : {old new : Stacked E} {place next : ℕ} → IsRunAt index parts builds run lexemes old place → IsRunStack (builds run.build.now).suits run.checked.now.table new
      → RiseUpTo (builds run.build.now).rises new.entries (start_at (known index parts lexemes) next) → next ≤ length lexemes → IsRunAt index parts builds run lexemes new next
  run_on there run_stack rises within = record { can = there.can; valid = there.valid; starts = there.starts; run_stack = run_stack; rises = rises; within = within }
