-- The stacks of a run, settled by the one loop over stacks of states.
use Rattle.std.proofs.Common.{◌≡◌, ◌∙◌, ℕ, List, [], ◌∷◌, ap, refl, subst, sym}
use Rattle.lrpar_grammar.specs.Grammar.{Grammar, Nonterminal, prod_len, rule_of}
use Rattle.lrpar_table_rows.specs.Table.{Table}
use Rattle.lrpar_table_check.specs.Checked.{Checked}
use Rattle.lrpar_table_stacks.specs.Reduction.{IsSettled, Settles}
use Rattle.lrpar_table_stacks.specs.StackReduction.{IsStackSettledBy, StackReducesBy}
use Rattle.lrpar_parse_run.specs.Building.{Building}
use Rattle.lrpar_parse_run.specs.Reducing.{Builds, Built, IsNode, KeepsRest, SuitsRun}
use Rattle.lrpar_parse_run.specs.Stacked.{SettlesTo}
use Rattle.lrpar_parse_run.specs.RunStack.{IsRunStack, ReducesAllTo, ReducesTo, Stacked}

-- if all reductions are made, none is left
settled_after : (g : Grammar) (table : Table) (t : ℕ) (st prods after : List ℕ) → Settles g table t st prods after → IsSettled table t after
settled_after g table t st [] after h = subst (λ (s : List ℕ). IsSettled table t s) h.0 h.1
settled_after g table t st (p ∷ prods) after h = settled_after g table t h.0 prods after h.2

-- `built` gives what contracts see of a `V`: its grammar, builder, stacks and borrow; and `builds` says what the builder builds
module _ {V B X E : Type 0} (built : V → Built B E) (builds : B → Building X E) (g : Grammar) (table : Table) (t : ℕ) where
  -- reductions of the stacks, by one grammar and with one builder
  builds_all : (from : Built B E) (old : V) (prods : List ℕ) (new : V) → KeepsRest from (built old) → from.grammar ≡ g
      → StackReducesBy (λ (s : V). (built s).stack.states) (λ (a : V) (p r n : ℕ) (b : V). Builds builds (built a) p r n (built b)) g table t old prods new
      → KeepsRest from (built new) × ReducesAllTo ((builds from.build).node g) (builds from.build).suits g table t (built old).stack prods (built new).stack
  builds_all from old [] new same is e = (subst (λ (s : V). KeepsRest from (built s)) e same, ap (λ (s : V). (built s).stack) e)
  builds_all from old (p ∷ prods) new same is all =
      let next = all.0 in
      let rest = all.1.of_rest in
      let made = rest.of_entries in
      let step : ReducesTo ((builds from.build).node g) (builds from.build).suits g table t (built old).stack p (built next).stack = record {
        of_states = all.1.of_states;
        entry = made.entry;
        made = subst (λ (h : Grammar). IsNode (builds from.build) h p (prod_len g p) (built old).stack.entries made.entry) (same.grammar ∙ is)
            (subst (λ (b : B). IsNode (builds b) (built old).grammar p (prod_len g p) (built old).stack.entries made.entry) same.build made.made);
        suit = subst (λ (b : B). (builds b).suits (Nonterminal (rule_of g p)) made.entry) same.build made.suit;
        of_entries = made.of_entries;
      } in
      let more = builds_all from next prods new (record { grammar = rest.same.grammar ∙ same.grammar; build = rest.same.build ∙ same.build; lender = rest.same.lender ∙ same.lender }) is all.2 in
      (more.0, ((built next).stack, step, more.1))

-- What the loop makes of the stacks, which were `st` with this borrow: they settle, are stacks of a run, and the borrow stays.
pub record IsReduced {B X E : Type 0} (builds : B → Building X E) (d : Checked) (t : ℕ) (build : B) (st : Stacked E) (lender : ℕ) (new : Built B E) : Type 0 where
  pub same : lender ≡ new.lender
  pub run_stack : IsRunStack (builds build).suits d.table new.stack
  pub settles : SettlesTo (builds build) d t st new.stack

-- if the loop settles the states, it settles the stacks
pub builds_settle : {V B X E : Type 0} (built : V → Built B E) (builds : B → Building X E) (d : Checked) (t : ℕ) (build : B) (st : Stacked E) (lender : ℕ)
    (old : V) (count : ℕ) (new : V) → built old ≡ record { grammar = d.grammar; build = build; stack = st; lender = lender }
    → IsStackSettledBy (λ (s : V). (built s).stack.states) (λ (a : V) (p r n : ℕ) (b : V). Builds builds (built a) p r n (built b)) d.grammar d.table d.cap t old count new
    → SuitsRun builds d.grammar d.table (built new) → IsReduced builds d t build st lender (built new)
builds_settle {V} {B} {X} {E} built builds d t build st lender old count new is h suit =
    let from : Built B E = record { grammar = d.grammar; build = build; stack = st; lender = lender } in
    let begin : KeepsRest from (built old) = record { grammar = ap (λ (s : Built B E). s.grammar) is; build = ap (λ (s : Built B E). s.build) is; lender = ap (λ (s : Built B E). s.lender) is } in
    let all = builds_all built builds d.grammar d.table t from old h.of_states.prods new begin refl h.by in
    record {
      same = sym all.0.lender;
      run_stack = subst (λ (b : B). IsRunStack (builds b).suits d.table (built new).stack) all.0.build suit.run_stack;
      settles = subst (λ (s : Stacked E). SettlesTo (builds build) d t s (built new).stack) (ap (λ (s : Built B E). s.stack) is)
          (record {
            prods = h.of_states.prods;
            steps = all.1;
            settled = settled_after d.grammar d.table t (built old).stack.states h.of_states.prods (built new).stack.states h.of_states.settles;
            few = h.of_states.by_loss;
          });
    }
