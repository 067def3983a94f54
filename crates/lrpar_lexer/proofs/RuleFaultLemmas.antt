-- What holds of the line of a fault, also if a `?` returns the fault.
use Rattle.std.proofs.Common.{◌≡◌, ℕ, Result, Ok, Err, IfErr, IsErrAnd, sym, subst}
use Rattle.lrpar_lexer.specs.RuleTexts.{NamesLine}
use Rattle.lrpar_lexer.specs.declared.rules.LineFault.{LineFault}
use Rattle.lrpar_lexer.specs.declared.rules.RulesFault.{RulesFault}
use Rattle.lrpar_lexer.specs.declared.rules.RulesFault.TheVariants.{Line, Memory}

module _ (P Q : ℕ → LineFault → Type 0) (so : (n : ℕ) (why : LineFault) → P n why → Q n why) where
  -- what holds of the line has consequences
  pub names_weaker : (fault : RulesFault) → NamesLine P fault → NamesLine Q fault
  names_weaker (Line number why) is = so number why is
  names_weaker Memory is = is

  -- the same for a fault that a `?` returns
  pub names_returned : {T : Type 0} (fault : RulesFault) (r : Result T RulesFault) → IsErrAnd r (λ y. y ≡ fault) → NamesLine P fault
      → IfErr r (NamesLine Q)
  names_returned fault (Ok x) is names = tt
  names_returned fault (Err y) is names = subst (NamesLine Q) (sym is) (names_weaker fault names)
