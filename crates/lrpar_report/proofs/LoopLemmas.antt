-- Steps that lead from one rule to another, and symbols that derive nothing.
use Rattle.std.proofs.Common.{◌≡◌, ◌+◌, ℕ, Bool, true, false, List, [], ◌∷◌, ◌++◌, drop, take, refl, subst, sym}
use Rattle.std.specs.Bool.{OnTrue}
use Rattle.lrpar_grammar.specs.Grammar.{Grammar, GrammarSymbol}
use Rattle.lrpar_report.specs.declared.loops.LoopKind.{LoopKind}
use Rattle.lrpar_report.specs.declared.loops.LoopKind.TheVariants.{DerivesItself, IsHiddenLeft}
use Rattle.lrpar_report.specs.Loops.{DeriveNothing, IsLoopSymbol, IsStep, Lead, StepOf}

lead_push : (kind : LoopKind) (g : Grammar) (from mid to : ℕ) (steps : List StepOf) (step : StepOf)
    → Lead kind g from steps mid → IsStep kind g mid step to → Lead kind g from (steps ++ step ∷ []) to
lead_push kind g from mid to [] step so_far next = (to, subst (λ r. IsStep kind g r step to) (sym so_far) next, refl)
lead_push kind g from mid to (s ∷ steps) step so_far next = (so_far.0, so_far.1, lead_push kind g so_far.0 mid to steps step so_far.2 next)

-- one step more
pub lead_more : (kind : LoopKind) (g : Grammar) (from mid to : ℕ) (steps more : List StepOf) (step : StepOf)
    → Lead kind g from steps mid → IsStep kind g mid step to → more ≡ steps ++ step ∷ [] → Lead kind g from more to
lead_more kind g from mid to steps more step so_far next is =
    subst (λ s. Lead kind g from s to) (sym is) (lead_push kind g from mid to steps step so_far next)

-- a place of a symbol, by what comes before it, and after it
pub front_place : (kind : LoopKind) (g : Grammar) (symbols : List GrammarSymbol) (place : ℕ) (front : Bool) → kind ≡ IsHiddenLeft
    → OnTrue front (DeriveNothing g (take place symbols)) → OnTrue front (IsLoopSymbol kind g symbols place)
front_place kind g symbols place front is before = subst (λ k. OnTrue front (IsLoopSymbol k g symbols place)) (sym is) before

pub lone_place : (kind : LoopKind) (g : Grammar) (symbols : List GrammarSymbol) (place : ℕ) (front back : Bool) → kind ≡ DerivesItself → front ≡ true
    → OnTrue front (DeriveNothing g (take place symbols)) → OnTrue back (DeriveNothing g (drop (place + 1) symbols))
    → OnTrue back (IsLoopSymbol kind g symbols place)
lone_place kind g symbols place front true is holds before after =
    subst (λ k. IsLoopSymbol k g symbols place) (sym is) (subst (λ b. OnTrue b (DeriveNothing g (take place symbols))) holds before, after)
lone_place kind g symbols place front false is holds before after = _
