-- What stacks that share their lower states say about a token that is fed and about the end; and that only more stacks are added.
use Rattle.std.proofs.Common.{◌≡◌, ◌≤◌, ◌∙◌, ◌↔◌, refl, sym, subst, ap, append-nil, ℕ, List, [], ◌∷◌, ◌++◌, Bool, true, false, IsTrue, Option, Some, None, Result, Ok, Err}
use Rattle.std.specs.Option.{option_map_or}
use Rattle.std.specs.Prelude.{IfOk, OnOk}
use Rattle.lrpar_grammar.specs.Grammar.{Grammar, end_token}
use Rattle.lrpar_table_rows.specs.PlainRows.{plain_action}
use Rattle.lrpar_table_rows.specs.Table.{Table, Accepts, Fails, FailsPastTokens, ShiftTo, action_of}
use Rattle.lrpar_table_rows.specs.declared.rows.Action.{Action}
use Rattle.lrpar_table_stacks.specs.Expected.{AcceptsAtEnd}
use Rattle.lrpar_table_stacks.specs.Reduction.{Feeds, top_action}
use Rattle.lrpar_table_stacks.specs.Stack.{top_of}
use Rattle.lrpar_table_stacks.specs.StackReduction.{IsStackFedBy, IsStackSettledBy, StackReducesBy}
use Rattle.lrpar_table_stacks.proofs.Reductions.{settles_one_way}
use Rattle.lrpar_table_shared_stacks.specs.SharedStacks.{Extends, Shared, current_stack}
use Rattle.lrpar_table_shared_stacks.proofs.SharedStacksLemmas.{extends_then}
use Rattle.lrpar_parse_suggestions.specs.Suggestions.{CannotFeed}
use Rattle.lrpar_parse_suggestions.specs.TrialView.{FeedsToken}
use Rattle.lrpar_parse_suggestions.specs.declared.trial.Trials.{Trials}

-- nothing is added
pub extends_none : (s : Shared) → Extends s s
extends_none s = ([], sym (append-nil s.stacks))

-- what has the same stacks is added to
pub extends_same : (old mid new : Shared) → mid.stacks ≡ old.stacks → Extends mid new → Extends old new
extends_same old mid new same more = (more.0, more.1 ∙ ap (λ (s : List (List ℕ)). s ++ more.0) same)

-- what holds if all went well
pub on_ok : {T E P : Type 0} {Q : T → Type 0} (r : Result T E) → ((x : T) → Q x → P) → IfOk r Q → OnOk r P
on_ok (Ok x) f q = f x q
on_ok (Err e) f q = tt

-- what a reduction of these stacks does beside their states
abbrev pub adds_more : Shared → ℕ → ℕ → ℕ → Shared → Type 0
adds_more old p r n new = Extends old new

module _ (g : Grammar) (table : Table) (cap t : ℕ) where
  -- reductions add stacks
  reductions_extend : (old : Shared) (prods : List ℕ) (new : Shared) → StackReducesBy current_stack adds_more g table t old prods new → Extends old new
  reductions_extend old [] new same = subst (λ (s : Shared). Extends old s) same (extends_none old)
  reductions_extend old (p ∷ prods) new all = extends_then old all.0 new all.1.of_rest (reductions_extend all.0 prods new all.2)

  -- so does a token that is fed
  pub fed_extends : (old : Shared) (fed : Bool) (new : Shared) → IsStackFedBy current_stack adds_more Extends g table cap t old fed new → Extends old new
  fed_extends old true new h =
      extends_then old h.settled new (reductions_extend old h.settles.of_states.prods h.settled h.settles.by) h.of_rest
  fed_extends old false new h = reductions_extend old h.0.1.of_states.prods new h.0.1.by

  pub settled_extends : (old : Shared) (count : ℕ) (new : Shared) → IsStackSettledBy current_stack adds_more g table cap t old count new → Extends old new
  settled_extends old count new h = reductions_extend old h.of_states.prods new h.by

  -- the token was fed
  pub is_fed : (old new : Shared) → IsStackFedBy current_stack adds_more Extends g table cap t old true new
      → (prods : List ℕ) × Feeds g table t (current_stack old) prods (current_stack new)
  is_fed old new h = (
    h.settles.of_states.prods,
    record { settled = current_stack h.settled; settles = h.settles.of_states.settles; next = h.next; shifts = h.does; pushed = h.pushed },
  )

  -- or it can't be
  pub is_not_fed : (old new : Shared) → IsStackFedBy current_stack adds_more Extends g table cap t old false new → CannotFeed g table t (current_stack old)
  is_not_fed old new h = λ prods next feeds.
      let by = h.0.1.of_states in
      let same = settles_one_way g table t (current_stack old) prods by.prods feeds.settled (current_stack new) feeds.settles by.settles in
      h.1 feeds.next (subst (λ (st : List ℕ). top_action table t st ≡ ShiftTo feeds.next) same.1 feeds.shifts)

  -- all reductions at the end token are made: the stack accepts if its top does
  pub tells_accepts : {S : Type 0} (index : S → ℕ) (old : Shared) (count : ℕ) (new : Shared) (action : Action S) (accepts : Bool)
      → IsStackSettledBy current_stack adds_more g table cap t old count new → t ≡ end_token g
      → plain_action index action ≡ top_action table t (current_stack new) → IsTrue accepts ↔ (plain_action index action ≡ Accepts)
      → IsTrue accepts ↔ AcceptsAtEnd g table (current_stack old)
  tells_accepts index old count new action accepts h is read exact =
      let by = subst (λ (u : ℕ). IsStackSettledBy current_stack adds_more g table cap u old count new) is h in
      let top = subst (λ (u : ℕ). plain_action index action ≡ top_action table u (current_stack new)) is read in (
        (λ yes_it. record {
          prods = by.of_states.prods;
          settled = current_stack new;
          settles = by.of_states.settles;
          action = sym top ∙ exact.0 yes_it;
        }),
        (λ ends.
            let same = settles_one_way g table (end_token g) (current_stack old) ends.prods by.of_states.prods ends.settled (current_stack new) ends.settles by.of_states.settles in
            exact.1 (top ∙ subst (λ (st : List ℕ). top_action table (end_token g) st ≡ Accepts) same.1 ends.action)),
      )

-- past the last token the action of each stack is an error
top_past : (table : Table) → FailsPastTokens table → (t : ℕ) → table.tokens ≤ t → (st : List ℕ) → top_action table t st ≡ Fails
top_past table fails t past st = go (top_of st)
  where
    go : (top : Option ℕ) → option_map_or (λ s. action_of table s t) top Fails ≡ Fails
    go (Some s) = fails s t past
    go None = refl

-- so nothing can be fed
pub past_not_fed : (g : Grammar) (table : Table) → FailsPastTokens table → (t : ℕ) → table.tokens ≤ t → (st : List ℕ) → CannotFeed g table t st
past_not_fed g table fails t past st prods after feeds =
    let none = top_past table fails t past feeds.settled in
    let e : ShiftTo feeds.next ≡ Fails = sym feeds.shifts ∙ none in cc

-- the token was fed, or it can't be
pub token_fed : {S : Type 0} (trials : Trials S) (cap t : ℕ) (old : Shared) (fed : Bool) (new : Shared)
    → IsStackFedBy current_stack adds_more Extends trials.data.now.grammar trials.data.now.table cap t old fed new → FeedsToken trials t old new fed
token_fed trials cap t old true new h = is_fed trials.data.now.grammar trials.data.now.table cap t old new h
token_fed trials cap t old false new h = is_not_fed trials.data.now.grammar trials.data.now.table cap t old new h
