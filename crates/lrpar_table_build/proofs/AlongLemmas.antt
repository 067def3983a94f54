-- A graph and a table of states are built right, whatever relation the transitions go along.
use Rattle.std.proofs.Common.{◌≡◌, ◌≢◌, ◌<◌, ◌+◌, ◌↔◌, ◌∷◌, refl, sym, ap, subst, arith, ℕ, List, [], Option, Some, None, length, nat_eq}
use Rattle.std.specs.List.{Contains}
use Rattle.std.specs.Map.{lookup}
use Rattle.lrpar_grammar.specs.Grammar.{Grammar, GrammarSymbol, IsWellFormed, Nonterminal, Terminal, end_token, prod_len, rules_len, start_prod, tokens_len}
use Rattle.lrpar_table_precedence.specs.Precedence.{PrecedenceLists}
use Rattle.lrpar_table_rows.specs.Graph.{Graph, HasItem, ItemOf, graph_len, item_at}
use Rattle.lrpar_table_rows.specs.Table.{IsTable}
use Rattle.lrpar_table_rows.proofs.EntryLemmas.{no_action_after, no_action_past, no_goto_past}
use Rattle.lrpar_table_build.specs.BuilderLaws.{AcceptAlone}
use Rattle.lrpar_table_items.specs.Canonical.{AreSame, IsAcceptConflict, HasAccept, sets_of}
use Rattle.lrpar_table_items.specs.StateRows.{IsRefusedState, conflicts_of_states, item_rows, resolved_of_states, table_of_states}
use Rattle.lrpar_table_items.specs.States.{StateOf, sets_at, state_at}
use Rattle.lrpar_table_items.specs.Resolution.{IsAcceptReduce, is_complete_at, reductions}
use Rattle.lrpar_table_build.proofs.ListedLemmas.{conflicts_are, in_order, resolved_are, resolved_in_order}
use Rattle.lrpar_table_build.proofs.MemberLemmas.{member_first, member_none}
use Rattle.lrpar_table_build.proofs.ReachedLemmas.{no_end_token}
use Rattle.lrpar_table_build.proofs.ReductionLemmas.{accept_is, acts_along, candidate_is, goes_along}
use Rattle.lrpar_table_build.proofs.SetLemmas.{graph_same, rows_same, same_on}
use Rattle.lrpar_table_build.proofs.StepLemmas.{AreStatesAlong, IsBuiltAlong, IsStepAlong, IsTableAlong, step_along_same}
use Rattle.lrpar_table_build.proofs.TableRowLemmas.{action_is, goto_is, is_table}

-- the start production has one symbol
pub start_len : (g : Grammar) → IsWellFormed g → prod_len g (start_prod g) ≡ 1
start_len g well = ap (λ (w : List GrammarSymbol). length w) well.last_symbols

-- a list of numbers that isn't empty has a number
one_of : (ks : List ℕ) → ks ≢ [] → (k : ℕ) × Contains ks k
one_of [] some = absurd (some refl)
one_of (k ∷ ks) some = (k, member_first k ks)

-- a graph with the items of the states has their sets
pub graph_sets : (g : Grammar) (states : List StateOf) → ((s : ℕ) (x : ItemOf) → s < length states → sets_at states s x → x.token < tokens_len g)
    → (graph : Graph) → ((s p k t : ℕ) → HasItem graph s p k t ↔ HasItem (item_rows g states) s p k t) → (s : ℕ) → AreSame (sets_of graph s) (sets_at states s)
graph_sets g states tokens graph items s =
    same_on (sets_of graph s) (sets_of (item_rows g states) s) (sets_at states s) (graph_same graph (item_rows g states) items s) (rows_same g states tokens s)

module _ (g : Grammar) (well : IsWellFormed g) (states : List StateOf) (goes : ℕ → GrammarSymbol → ℕ → Type 0) (are : AreStatesAlong g states goes) where
  module _ (sets : ℕ → ItemOf → Type 0) (same : (s : ℕ) → AreSame (sets s) (sets_at states s)) where
    -- a state that is refused has an accept/reduce conflict
    pub refused_conflict : (s : ℕ) → s < length states → IsRefusedState g states s → IsAcceptConflict g sets s
    refused_conflict s below refused =
        let t = refused.0 in
        let beside = refused.2 in
        let cores = (state_at states s).cores in
        let known = are.rows.cores s below in
        let candidate = (accept_is g sets s cores known (same s) t (start_len g well)).1 beside.accept in
        let end = are.at_end s t below ((same s (item_at (start_prod g) 1 t)).0 candidate) in
        let one = one_of (reductions g cores t) beside.some in
        let there = subst (λ n. Contains (reductions g cores n) one.0) end one.1 in
        (subst (HasAccept g sets s) end candidate, (one.0, (candidate_is g sets s cores known (same s) (end_token g) one.0).1 there))

    -- no transition is by the end token
    no_step_at_end : (s : ℕ) (step : Option ℕ) → IsStepAlong g (sets_at states) goes s (Terminal (end_token g)) step → step ≡ None
    no_step_at_end s None h = refl
    no_step_at_end s (Some next) h =
        let before = h.0 in absurd (no_end_token g well before.0.prod before.0.dot (end_token g) refl before.2)

    -- if no state is refused, none has an accept/reduce conflict
    pub accept_alone : ((s t : ℕ) → s < length states → t < tokens_len g → ¬ (IsAcceptReduce g (state_at states s).cores (state_at states s).shifts t))
        → AcceptAlone g (length states) sets
    accept_alone none s below conflict =
        let t = end_token g in
        let cores = (state_at states s).cores in
        let known = are.rows.cores s below in
        none s t below (omega arith) (record {
          no_shift = no_step_at_end s (lookup (nat_eq t) (state_at states s).shifts) (are.shifts s t below);
          some = λ empty.
              let there = (candidate_is g sets s cores known (same s) t conflict.1.0).0 conflict.1.1 in
              member_none conflict.1.0 (subst (λ (ks : List ℕ). Contains ks conflict.1.0) empty there);
          accept = (accept_is g sets s cores known (same s) t (start_len g well)).0 conflict.0;
        })

  module _ (precedences : PrecedenceLists) (graph : Graph) (len : graph_len graph ≡ length states)
      (items : (s p k t : ℕ) → HasItem graph s p k t ↔ HasItem (item_rows g states) s p k t) where
    same_sets : (s : ℕ) → AreSame (sets_of graph s) (sets_at states s)
    same_sets = graph_sets g states are.tokens graph items

    -- the rows are those of a table, in numbers that are large enough
    abbrev rows_fit : ℕ
    rows_fit = length states + tokens_len g + rules_len g

    table_fits : IsTable rows_fit (table_of_states precedences g states)
    table_fits =
        is_table g states are.rows precedences are.some rows_fit (conflicts_of_states precedences g states) (resolved_of_states precedences g states)
        (omega arith) (omega arith) (omega arith)

    -- each state of the table has the actions of its set after conflict resolution
    table_along : IsTableAlong g precedences graph (table_of_states precedences g states) goes
    table_along =
        let table = table_of_states precedences g states in
        record {
          states = len;
          start = refl;
          tokens = refl;
          rules = refl;
          acts = λ s t below within.
              let cores = (state_at states s).cores in
              let shift = lookup (nat_eq t) (state_at states s).shifts in
              acts_along g (sets_of graph) s cores (are.rows.cores s below) (same_sets s) precedences goes t table shift
              (reductions g cores t) (is_complete_at g cores t (start_prod g)) (start_len g well)
              (step_along_same g (sets_of graph) (sets_at states) same_sets goes s (Terminal t) shift (are.shifts s t below)) refl refl
              (action_is g states precedences s t below within);
          gotos = λ s r below within.
              let goto = lookup (nat_eq r) (state_at states s).gotos in
              goes_along g (sets_of graph) goes s r table goto
              (step_along_same g (sets_of graph) (sets_at states) same_sets goes s (Nonterminal r) goto (are.gotos s r below)) (goto_is g states table s r below refl);
          no_state = no_action_after rows_fit table table_fits;
          no_token = no_action_past rows_fit table table_fits;
          no_rule = no_goto_past rows_fit table table_fits;
        }

    -- so both are built
    pub built_along : ((s t : ℕ) → s < length states → t < tokens_len g → ¬ (IsAcceptReduce g (state_at states s).cores (state_at states s).shifts t))
        → IsBuiltAlong g precedences graph (table_of_states precedences g states) goes
    built_along none = record {
      resolution = table_along;
      conflicts = conflicts_are precedences g states goes are graph len same_sets;
      in_order = in_order precedences g states (length states);
      resolved = resolved_are precedences g states goes are graph len same_sets;
      resolved_in_order = resolved_in_order precedences g states (length states);
      accept_alone = subst (λ n. AcceptAlone g n (sets_of graph)) (sym len) (accept_alone (sets_of graph) same_sets none);
    }
