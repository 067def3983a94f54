use Rattle.std.proofs.Common.{◌≡◌, ◌-◌, length, map}
use Rattle.std.specs.Str.{IsCharBoundary}
use Rattle.lrpar_lexer.specs.Answers.{plain_answers}
use Rattle.lrpar_lexer.specs.Matchers.{programs_of}
use Rattle.lrpar_lexer.specs.Rules.{anchored_of}
use Rattle.lrpar_lexer_lrlex.specs.StateRules.{active, plain_state_rules}
use Rattle.lrpar_lexer_lrlex.proofs.LexingAllInLemmas.{LeadsToAll}
use Rattle.lrpar_lexer_lrlex.proofs.lexing_all.all_answers.Given as goal

-- the lexemes so far, and then those of the rest of the text, are the lexemes of the text
abbrev pub invariant-places : goal.invariant-places
invariant-places g l = record {
  programs : programs_of l.matchers ≡ map anchored_of l.rules.rules.items;
  boundary : IsCharBoundary l.text l.at;
  active : l.active.items ≡ active (plain_state_rules g.StorageT.StorageIndex.index l.rules) l.stack.top;
  leads : LeadsToAll (plain_state_rules g.StorageT.StorageIndex.index l.rules) (g.StorageT.StorageIndex.index l.unmatched.0) l.text l.at l.stack.top
      l.stack.below.items (plain_answers g.StorageT.StorageIndex.index l.answers.items);
}

abbrev pub decreases-places : goal.decreases-places
decreases-places g l = length l.text - l.at
