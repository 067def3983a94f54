use Rattle.lrpar_grammar_typed.specs.Expanding.{Extends, IsSound}
use Rattle.lrpar_grammar_typed.proofs.expand.Expander.number_tokens.Given as goal

-- what each step keeps
abbrev pub invariant-loop-token : goal.invariant-loop-token
invariant-loop-token l = record { sound : IsSound l.self; extends : Extends l.initial.self l.self }
