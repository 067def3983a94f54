-- Tables with some of the actions of another one. They are safe if that is, and what runs over them take off, its runs take off.
use Rattle.std.proofs.Common.{arith, Bool, length, slice_index_or, ◌≡◌, ◌≢◌, ◌≤◌, ◌<◌, ◌∙◌, inl, inr, refl, subst, sym, ℕ, List, Some}
use Rattle.lrpar_grammar.specs.Grammar.{Grammar, GrammarSymbol, Nonterminal, Terminal, end_token, prod_len, rule_of}
use Rattle.lrpar_table_rows.specs.Graph.{Graph}
use Rattle.lrpar_table_rows.specs.Safe.{GoesBy, IsSafeAt}
use Rattle.lrpar_table_rows.specs.Table.{Accepts, Fails, ReduceBy, ShiftTo, StoresActions, Table, TableAction, action_of, actions_at, goto_of, states_len}
use Rattle.lrpar_table_rows.specs.declared.condition.SafetyCondition.{SafetyCondition}
use Rattle.lrpar_table_rows.specs.declared.condition.SafetyCondition.TheVariants.{S2, S3, S4, S5, S6, S7, S8}
use Rattle.lrpar_grammar_places.specs.declared.span.StIdx.{StIdx}
use Rattle.lrpar_grammar_places.specs.declared.span.TIdx.{TIdx}
use Rattle.lrpar_table_rows.specs.PlainRows.{plain_action}
use Rattle.lrpar_table_rows.specs.StoredRows.{AreActionsAt, IsActionAt}
use Rattle.lrpar_table_rows.specs.declared.rows.Action.{Action}
use Rattle.lrpar_table_rows.proofs.StoredLemmas.{entries_len, entry_read}
use Rattle.lrpar_table_pops.specs.AllGood.{IsTokenClosed}
use Rattle.lrpar_table_pops.specs.Closed.{FollowsIn}
use Rattle.lrpar_table_pops.specs.declared.exits.Exit.{Exit}
use Rattle.lrpar_table_pops.proofs.TransitionLemmas.{action_read}
use Rattle.lrpar_table_pops.specs.Parts.{IsPartOf}
use Rattle.lrpar_table_pops.specs.Pops.{Control, Dropping, Pops, Reading, accepts, drops, ends, goes, reduces, shifts}
use Rattle.lrpar_table_pops.specs.StoredAll.{IsSoundTable}
use Rattle.lrpar_table_pops.specs.StoredPops.{ArePopsOf}
use Rattle.lrpar_table_pops.specs.declared.pops.StateExits.{StateExits}

module _ (whole part : Table) (is : IsPartOf whole part) where
  -- an action of the part that is no error is the whole table's
  action_kept : (s t : ℕ) (action : TableAction) → action ≢ Fails → action_of part s t ≡ action → action_of whole s t ≡ action
  action_kept s t action acts at = elim (is.actions s t) as (λ _. action_of whole s t ≡ action) [
    | inl fails ↦ absurd (acts (sym at ∙ fails))
    | inr same ↦ sym same ∙ at
  ]

  -- where the whole table has an error, the part has one
  error_kept : (s t : ℕ) → action_of whole s t ≡ Fails → action_of part s t ≡ Fails
  error_kept s t fails = elim (is.actions s t) as (λ _. action_of part s t ≡ Fails) [ inl there ↦ there | inr same ↦ same ∙ fails ]

  shift_kept : (s t next : ℕ) → action_of part s t ≡ ShiftTo next → action_of whole s t ≡ ShiftTo next
  shift_kept s t next at = action_kept s t (ShiftTo next) (λ (no : _). cc) at

  reduce_kept : (s t p : ℕ) → action_of part s t ≡ ReduceBy p → action_of whole s t ≡ ReduceBy p
  reduce_kept s t p at = action_kept s t (ReduceBy p) (λ (no : _). cc) at

  accept_kept : (s t : ℕ) → action_of part s t ≡ Accepts → action_of whole s t ≡ Accepts
  accept_kept s t at = action_kept s t Accepts (λ (no : _). cc) at

  goto_kept : (s r next : ℕ) → goto_of part s r ≡ Some next → goto_of whole s r ≡ Some next
  goto_kept s r next at = sym (is.gotos s r) ∙ at

  -- so are its transitions
  goes_kept : (s : ℕ) (x : GrammarSymbol) (next : ℕ) → GoesBy part s x next → GoesBy whole s x next
  goes_kept s (Terminal t) next at = shift_kept s t next at
  goes_kept s (Nonterminal r) next at = goto_kept s r next at

  module _ (g : Grammar) where
    -- what a run over the part takes off, a run over the whole table takes off
    pop_kept : (q : Control) (s : ℕ) (r : Control) → Pops g part q s r → Pops g whole q s r
    pop_kept _ _ _ (drops s p left t) = drops s p left t
    pop_kept _ _ _ (reduces s t p r action pops) = reduces s t p r (reduce_kept s t p action) (pop_kept (Dropping p (prod_len g p) t) s r pops)
    pop_kept _ _ _ (goes s p t next q r goto upper pops) =
        goes s p t next q r (goto_kept s (rule_of g p) next goto) (pop_kept (Reading t) next q upper) (pop_kept q s r pops)
    pop_kept _ _ _ (shifts s t next u q r action upper pops) =
        shifts s t next u q r (shift_kept s t next action) (pop_kept (Reading u) next q upper) (pop_kept q s r pops)
    pop_kept _ _ _ (accepts s action) = accepts s (accept_kept s (end_token g) action)
    pop_kept _ _ _ (ends s) = ends s

    pub pops_kept : (states : List StateExits) → ArePopsOf g part states → ArePopsOf g whole states
    pops_kept states are = record {
      by_any = λ s r has. let pop = are.by_any s r has in (pop.0, pop_kept (Reading pop.0) s r pop.1);
      by_token = λ s t r has. pop_kept (Reading t) s r (are.by_token s t r has);
    }

    -- each condition that the whole table meets at a state, the part meets
    safe_kept : (graph : Graph) (condition : SafetyCondition) (s : ℕ) → IsSafeAt g graph whole condition s → IsSafeAt g graph part condition s
    safe_kept graph S2 s safe = λ start. safe (start ∙ is.start)
    safe_kept graph S3 s safe = λ next shift. safe next (shift_kept s (end_token g) next shift)
    safe_kept graph S4 s safe = λ x next by. safe x next (goes_kept s x next by)
    safe_kept graph S5 s safe = λ t p reduce. safe t p (reduce_kept s t p reduce)
    safe_kept graph S6 s safe = λ p core other. let goto = safe p core other in (goto.0, is.gotos s (rule_of g p) ∙ goto.1)
    safe_kept graph S7 s safe = λ t accept. safe t (accept_kept s t accept)
    safe_kept graph S8 s safe = record {
      never_back = λ x by. safe.never_back x (subst (GoesBy whole s x) is.start (goes_kept s x part.start by));
      first_core = λ core. safe.first_core core ∙ sym is.start;
    }

    pub sound_kept : (graph : Graph) → IsSoundTable g graph whole → IsSoundTable g graph part
    sound_kept graph sound = record {
      safe = record {
        shape = record {
          states = sound.safe.shape.states ∙ sym is.states;
          some = subst (λ (n : ℕ). 0 < n) (sym is.states) sound.safe.shape.some;
          tokens = is.tokens ∙ sound.safe.shape.tokens;
          rules = is.rules ∙ sound.safe.shape.rules;
          reduces = λ s t p reduce. sound.safe.shape.reduces s t p (reduce_kept s t p reduce);
          items = sound.safe.shape.items;
        };
        each = λ condition s low. safe_kept graph condition s (sound.safe.each condition s (subst (λ (n : ℕ). s < n) is.states low));
      };
      closed = record {
        start_within = subst (λ (n : ℕ). n < states_len part) (sym is.start) (subst (λ (n : ℕ). whole.start < n) (sym is.states) sound.closed.start_within);
        shifts_within = λ s t next shift. subst (λ (n : ℕ). next < n) (sym is.states) (sound.closed.shifts_within s t next (shift_kept s t next shift));
        gotos_within = λ s r next goto. subst (λ (n : ℕ). next < n) (sym is.states) (sound.closed.gotos_within s r next (goto_kept s r next goto));
      };
      states = λ s t high. error_kept s t (sound.states s t (subst (λ (n : ℕ). n ≤ s) is.states high));
      tokens = λ s t high. error_kept s t (sound.tokens s t (subst (λ (n : ℕ). n ≤ t) is.tokens high));
      rules = λ s r high. is.gotos s r ∙ sound.rules s r (subst (λ (n : ℕ). n ≤ r) is.rules high);
    }

-- a sound table is sound under other names
pub sound_same : (g h : Grammar) (graph sets : Graph) (table other : Table) → h ≡ g → sets ≡ graph → other ≡ table → IsSoundTable g graph table
    → IsSoundTable h sets other
sound_same g h graph sets table other same_g same_graph same_table sound =
    subst (λ (x : Grammar). IsSoundTable x sets other) (sym same_g)
    (subst (λ (x : Graph). IsSoundTable g x other) (sym same_graph) (subst (IsSoundTable g graph) (sym same_table) sound))

-- a table is a part of itself
pub itself_part : (table : Table) → IsPartOf table table
itself_part table = record { start = refl; states = refl; tokens = refl; rules = refl; actions = λ s t. inr refl; gotos = λ s r. refl }

module _ {S : Type 0} (index : S → ℕ) (whole part : Table) (is : IsPartOf whole part) (s : StIdx S) (ts : List (TIdx S)) (actions : List (Action S))
    (entries : AreActionsAt index part s ts actions) (paired : length actions ≡ length ts) (exact : StoresActions part (index s.0))
    (place : ℕ) (token : TIdx S) (action : Action S) (low : place < length ts) (token_at : token ≡ slice_index_or ts place token)
    (action_at : action ≡ slice_index_or actions place action) where
  -- an action that was read of the part is that of the whole table
  pub same_action : action_of part (index s.0) (index token.0) ≡ action_of whole (index s.0) (index token.0)
  same_action =
      let es = actions_at part (index s.0) in
      let read = entry_read (λ (t : TIdx S). index t.0) (plain_action index) ts actions es paired entries place token action low token_at action_at in
      let len = entries_len (λ (t : TIdx S). index t.0) (plain_action index) ts actions es paired entries in
      let acts = (exact (index token.0) (plain_action index action)).0 (place, omega (arith, len, low), sym read) in
      elim (is.actions (index s.0) (index token.0)) as (λ _. action_of part (index s.0) (index token.0) ≡ action_of whole (index s.0) (index token.0)) [
        | inl fails ↦ absurd (acts.1 (sym acts.0 ∙ fails))
        | inr same ↦ same
      ]

  pub part_action : IsActionAt index whole s token action
  part_action = action_read index part s ts actions entries paired exact place token action low token_at action_at ∙ same_action

-- a token at which the part acts as the whole table does is closed for the part if it is closed for that
pub closed_same : (g : Grammar) (whole part : Table) (states : List StateExits) (good : List Exit) (rule next : ℕ) (reduced : List (List Bool)) (t : ℕ)
    → action_of part next t ≡ action_of whole next t → IsTokenClosed g whole states good rule next reduced t → IsTokenClosed g part states good rule next reduced t
closed_same g whole part states good rule next reduced t same closed =
    λ q follows good_control room. closed q (subst (λ (a : TableAction). FollowsIn g states next t a q) same follows) good_control room
