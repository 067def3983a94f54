-- The stacks of a run, as plain lists: what they do once all reductions are made.
use Rattle.std.proofs.Common.{◌≡◌, ◌∙◌, ℕ, List, [], ◌∷◌, ◌++◌, Option, ap, refl, subst, sym}
use Rattle.std.specs.List.{AllZip}
use Rattle.lrpar_grammar.specs.Grammar.{Grammar, GrammarSymbol, Terminal, end_token}
use Rattle.lrpar_grammar_places.specs.declared.span.PIdx.{PIdx}
use Rattle.lrpar_grammar_places.specs.declared.span.StIdx.{StIdx}
use Rattle.lrpar_table_rows.specs.declared.rows.Action.{Action}
use Rattle.lrpar_table_rows.specs.declared.rows.Action.TheVariants.{Shift, Reduce}
use Rattle.lrpar_table_rows.specs.PlainRows.{plain_action}
use Rattle.lrpar_table_check.specs.Checked.{Checked}
use Rattle.lrpar_table_stacks.specs.Path.{IsPath, NeverSticks}
use Rattle.lrpar_table_stacks.specs.Reduction.{ReducesBy, Settles, top_action}
use Rattle.lrpar_table_rows.specs.Table.{Table, ShiftTo}
use Rattle.lrpar_parse_run.specs.Building.{Building}
use Rattle.lrpar_parse_run.specs.RunStack.{Stacked, IsRunStack, ReducesAllTo}
use Rattle.lrpar_parse_run.specs.Stacked.{SettlesTo}
use Rattle.lrpar_parse_run.specs.ZipLaws.{zip_push}
use Rattle.lrpar_table_stacks.proofs.RunLemmas.{settles_from}

-- the states make the same reductions as the stacks
pub states_reduce : {E : Type 0} (node : ℕ → Option E → List E → E → Type 0) (suits : GrammarSymbol → E → Type 0) (g : Grammar) (table : Table) (t : ℕ) (old : Stacked E) (ps : List ℕ) (new : Stacked E)
    → ReducesAllTo node suits g table t old ps new → ReducesBy g table t old.states ps new.states
states_reduce {E} node suits g table t old [] new e = ap (λ (stack : Stacked E). stack.states) e
states_reduce node suits g table t old (p ∷ ps) new all = (all.0.states, all.1.of_states, states_reduce node suits g table t all.0 ps new all.2)

-- what a settled stack does: no reduction, and no shift at the end token
pub no_reduce : {X E S : Type 0} (index : S → ℕ) (builds : Building X E) (d : Checked) (t : ℕ) (old new : Stacked E) (action : Action S) (p : PIdx S)
    → SettlesTo builds d t old new → plain_action index action ≡ top_action d.table t new.states → action ≡ Reduce p → ⊥
no_reduce index builds d t old new action p settles is reduce = settles.settled (index p.0) (sym is ∙ ap (plain_action index) reduce)

pub no_shift : {E S : Type 0} (index : S → ℕ) (suits : GrammarSymbol → E → Type 0) (d : Checked) (new : Stacked E) (action : Action S) (s : StIdx S)
    → NeverSticks d.grammar d.table → IsRunStack suits d.table new → plain_action index action ≡ top_action d.table (end_token d.grammar) new.states → action ≡ Shift s → ⊥
no_shift index suits d new action s never run_stack is shift =
    (never.shifts run_stack.symbols new.states (end_token d.grammar) (index s.0) run_stack.path (sym is ∙ ap (plain_action index) shift)).0 refl

-- if the token is shifted, the stacks stay those of a run
pub run_stack_shift : {E : Type 0} (suits : GrammarSymbol → E → Type 0) (d : Checked) (t next : ℕ) (old new : Stacked E) (e : E)
    → NeverSticks d.grammar d.table → IsRunStack suits d.table old → top_action d.table t old.states ≡ ShiftTo next
    → new.states ≡ old.states ++ next ∷ [] → new.entries ≡ old.entries ++ e ∷ [] → suits (Terminal t) e → IsRunStack suits d.table new
run_stack_shift suits d t next old new e never run_stack shifts states entries suit = record {
  symbols = run_stack.symbols ++ Terminal t ∷ [];
  path = subst (IsPath d.table (run_stack.symbols ++ Terminal t ∷ [])) (sym states) (never.shifts run_stack.symbols old.states t next run_stack.path shifts).1;
  suit = subst (AllZip suits (run_stack.symbols ++ Terminal t ∷ [])) (sym entries) (zip_push suits run_stack.symbols old.entries (Terminal t) e run_stack.suit suit);
}

-- the states settle if the stacks do
pub states_settle : {X E : Type 0} (builds : Building X E) (d : Checked) (t : ℕ) (old new : Stacked E)
    → (h : SettlesTo builds d t old new) → Settles d.grammar d.table t old.states h.prods new.states
states_settle builds d t old new h = settles_from d.grammar d.table t old.states h.prods new.states (states_reduce (builds.node d.grammar) builds.suits d.grammar d.table t old h.prods new h.steps) h.settled
