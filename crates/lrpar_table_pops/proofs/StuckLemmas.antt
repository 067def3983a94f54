-- Why a stack of the search whose top has no good exit can't be completed: its exits are all that are good over the states below.
use Rattle.std.proofs.Common.{◌≡◌, ◌<◌, ◌∙◌, inl, inr, refl, sym, ap, subst, arith, ℕ, zero, suc, Bool, List, [], ◌∷◌, ◌++◌, length, reverse}
use Rattle.std.proofs.lemmas.List.{append_assoc, length-reverse, map-append, reverse-append, reverse-reverse}
use Rattle.std.proofs.lemmas.Option.{slice_get_within}
use Rattle.lrpar_grammar.specs.Grammar.{Grammar, Nonterminal, Terminal, end_token}
use Rattle.lrpar_grammar_places.specs.declared.span.StIdx.{StIdx}
use Rattle.lrpar_table_rows.specs.Graph.{Graph}
use Rattle.lrpar_table_rows.specs.Table.{Table}
use Rattle.lrpar_table_stacks.specs.ReductionStep.{FitsGrammar}
use Rattle.lrpar_table_stacks.specs.Stack.{IsJoined, states_of}
use Rattle.lrpar_table_pops.specs.AllGood.{AreAllGoodOver, AreAllIncluded, HasAllAbove, LeadToAll}
use Rattle.lrpar_table_pops.specs.Closed.{AreAllPopsOf}
use Rattle.lrpar_table_pops.specs.Completable.{IsCompletable}
use Rattle.lrpar_table_pops.specs.Growth.{HasLookahead, IsStored}
use Rattle.lrpar_table_pops.specs.Pops.{Control, Done, Dropping, PopsAll, Reading}
use Rattle.lrpar_table_pops.specs.Searched.{AreAllGood, AreStacks, HasNoneGood, IsStackAt, IsTopFirst, LiesOn, bottom, upon}
use Rattle.lrpar_table_pops.specs.StoredAll.{IsSoundTable}
use Rattle.lrpar_table_pops.specs.StoredPops.{any_of}
use Rattle.lrpar_table_pops.specs.declared.exits.Exit.{Exit}
use Rattle.lrpar_table_pops.specs.declared.exits.Way.{Way}
use Rattle.lrpar_table_pops.specs.declared.exits.Way.TheVariants.{Acceptance, Reduction}
use Rattle.lrpar_table_pops.specs.declared.pops.StateExits.{StateExits}
use Rattle.lrpar_table_pops.specs.declared.searched.Stack.{Stack}
use Rattle.lrpar_table_pops.proofs.AllGoodLemmas.{above_all, start_all_good, stuck_all}
use Rattle.lrpar_table_pops.proofs.PopLemmas.{pops_are_completions}
use Rattle.lrpar_table_pops.proofs.SearchLemmas.{at_before, at_same, get_pushed, keeps_pushed}

module _ {S : Type 0} (index : S → ℕ) (g : Grammar) (graph : Graph) (table : Table) where
  -- what lies below a stack doesn't hang on later stacks
  lies_before : (old : List (Stack S)) (new : Stack S) → AreStacks index g table old → (place : ℕ) (below : List ℕ) → LiesOn index (old ++ new ∷ []) place below
      → place < length old → LiesOn index old place below
  lies_before old new are _ _ bottom low = bottom
  lies_before old new are _ _ (upon place stack under rest some at at_under lies) low =
      let keeps = keeps_pushed old new in
      let here = at_before old (old ++ new ∷ []) keeps place stack low at in
      let on = are.on place stack some here in
      let less = on.1 in
      let low_under : stack.below < length old = omega (arith, less, low) in
      upon place stack under rest some here (at_before old (old ++ new ∷ []) keeps stack.below under low_under at_under)
      (lies_before old new are stack.below rest lies low_under)

  -- what lies below the last stack
  lies_last : (stacks : List (Stack S)) (new : Stack S) (place : ℕ) (below : List ℕ) → LiesOn index stacks place below → IsStackAt stacks place new → 0 < place
      → (under : Stack S) × (rest : List ℕ) × IsStackAt stacks new.below under × LiesOn index stacks new.below rest × (below ≡ index under.top.0 ∷ rest)
  lies_last stacks new _ _ bottom at some = absurd (omega (arith, some))
  lies_last stacks new _ _ (upon place stack under rest some at_stack at_under lies) at some' =
      let same : stack ≡ new = at_same stacks place stack new at_stack at in (
        under,
        rest,
        subst (λ (x : Stack S). IsStackAt stacks x.below under) same at_under,
        subst (λ (x : Stack S). LiesOn index stacks x.below rest) same lies,
        refl,
      )

  -- one stack more
  pub all_good_pushed : IsSoundTable g graph table → (old : List (Stack S)) (new under : Stack S) (reduced : List (List Bool)) → AreStacks index g table old
      → AreAllGood index g graph table old → IsStackAt old new.below under → IsJoined table (index under.top.0) (index new.top.0)
      → LeadToAll g graph table (index under.top.0) under.good reduced → HasAllAbove g graph (index new.top.0) under.good reduced new.good
      → AreAllGood index g graph table (old ++ new ∷ [])
  all_good_pushed sound old new under reduced are all at_under joined leads above place stack below at lies =
      elim (get_pushed old new place stack at) as (λ _. AreAllGoodOver g graph table (index stack.top.0) below stack.good) [
        | inl was ↦
            let low = slice_get_within old place stack was in
            all place stack below was (lies_before old new are place below lies low)
        | inr last ↦
            let low_under = slice_get_within old new.below under at_under in
            let is_last = last.0 in
            let at_new : IsStackAt (old ++ new ∷ []) place new = subst (λ (x : Stack S). IsStackAt (old ++ new ∷ []) place x) last.1 at in
            let l = lies_last (old ++ new ∷ []) new place below lies at_new (omega (arith, is_last, low_under)) in
            let here = at_before old (old ++ new ∷ []) (keeps_pushed old new) new.below l.0 low_under l.2 in
            let same : l.0 ≡ under = at_same old new.below l.0 under here at_under in
            let rest = lies_before old new are new.below l.1 l.3 low_under in
            let over = all new.below under l.1 at_under rest in
            let s = index under.top.0 in
            let taken : AreAllIncluded g graph table s l.1 under.good reduced = leads l.1 over in
            let low = are.within new.below under at_under in
            let good : AreAllGoodOver g graph table (index new.top.0) (s ∷ l.1) new.good = elim joined as (λ _. AreAllGoodOver g graph table (index new.top.0) (s ∷ l.1) new.good) [
              | inl shift ↦ above_all g graph table sound s (index new.top.0) (Terminal shift.0) l.1 under.good new.good reduced low shift.2 taken above
              | inr goto ↦ above_all g graph table sound s (index new.top.0) (Nonterminal goto.0) l.1 under.good new.good reduced low goto.2 taken above
            ] in
            let is_below : s ∷ l.1 ≡ below = ap (λ (x : Stack S). index x.top.0 ∷ l.1) (sym same) ∙ sym l.4 in
            subst (λ (x : Stack S). AreAllGoodOver g graph table (index x.top.0) below x.good) (sym last.1)
            (subst (λ (b : List ℕ). AreAllGoodOver g graph table (index new.top.0) b new.good) is_below good)
      ]

  -- the start state alone
  pub all_good_start : (new : Stack S) → IsStored g new.good Done → AreAllGood index g graph table (new ∷ [])
  all_good_start new done zero stack below at lies =
      let same : stack ≡ new = at_same (new ∷ []) 0 stack new at refl in
      subst (λ (x : Stack S). AreAllGoodOver g graph table (index x.top.0) below x.good) (sym same)
      (subst (λ (b : List ℕ). AreAllGoodOver g graph table (index new.top.0) b new.good) (sym (lies_bottom (new ∷ []) 0 below lies refl))
      (start_all_good g graph table (index new.top.0) new.good done))
    where
      lies_bottom : (stacks : List (Stack S)) (place : ℕ) (b : List ℕ) → LiesOn index stacks place b → place ≡ 0 → b ≡ []
      lies_bottom stacks _ _ bottom is = refl
      lies_bottom stacks _ _ (upon place stack under rest some at' at_under lies') is = absurd (omega (arith, some, is))
  all_good_start new done (suc place) stack below at lies = absurd (let none : ⊥ = cc in none)

  -- a stack without a good exit
  none_stored : (good any : List Exit) → ((way : Way) (t : ℕ) → HasLookahead any way t → ¬ (HasLookahead good way t)) → (r : Control) → IsStored g any r → ¬ (IsStored g good r)
  none_stored good any none (Reading t) h k = h
  none_stored good any none (Dropping p left t) h k = none (Reduction p left) t h k
  none_stored good any none Done h k = none Acceptance (end_token g) h k

  pub stuck_stack : IsSoundTable g graph table → FitsGrammar g table → (pops : List StateExits) → AreAllPopsOf g table pops → (stacks : List (Stack S)) (place : ℕ) (states : List ℕ)
      → AreStacks index g table stacks → AreAllGood index g graph table stacks
      → ((stack : Stack S) → IsStackAt stacks place stack → HasNoneGood index (any_of pops) stack) → IsTopFirst index stacks place (reverse states)
      → ¬ (IsCompletable g table states)
  stuck_stack sound fits pops all stacks place states are all_good none whole completable =
      let stack = whole.0 in
      let len = length-reverse states in
      let long = ap (λ (l : List ℕ). length l) whole.4 in
      let some : 0 < length states = omega (arith, len, long) in
      let run = (pops_are_completions g table states fits some).0 completable in
      let over = all_good place stack whole.1 whole.2 whole.3 in
      stuck_all g graph table sound pops all (index stack.top.0) run.0 whole.1 stack.good (are.within place stack whole.2) over
      (none_stored stack.good (any_of pops (index stack.top.0)) (none stack whole.2)) (subst (PopsAll g table (Reading run.0)) whole.4 run.1)

-- the states from the place down, and those listed above it
abbrev pub RestLists : {S : Type 0} → (S → ℕ) → List (Stack S) → ℕ → ℕ → List (StIdx S) → Type 0
RestLists {S} index stacks place at states =
    (stack : Stack S) (below : List ℕ) → IsStackAt stacks at stack → LiesOn index stacks at below
    → IsTopFirst index stacks place (states_of index states ++ index stack.top.0 ∷ below)

module _ {S : Type 0} (index : S → ℕ) (stacks : List (Stack S)) (place : ℕ) where
  pub rest_start : RestLists index stacks place place []
  rest_start stack below at lies = (stack, below, at, lies, refl)

  pub rest_more : (at : ℕ) (stack : Stack S) (states : List (StIdx S)) → 0 < at → IsStackAt stacks at stack → RestLists index stacks place at states
      → RestLists index stacks place stack.below (states ++ stack.top ∷ [])
  rest_more at stack states some here before under below at_under lies =
      let whole = before stack (index under.top.0 ∷ below) here (upon at stack under below some here at_under lies) in
      let same : states_of index states ++ index stack.top.0 ∷ index under.top.0 ∷ below ≡ states_of index (states ++ stack.top ∷ []) ++ index under.top.0 ∷ below =
      sym (append_assoc (states_of index states) (index stack.top.0 ∷ []) (index under.top.0 ∷ below))
      ∙ ap (λ (l : List ℕ). l ++ index under.top.0 ∷ below) (sym (map-append (λ (s : StIdx S). index s.0) states (stack.top ∷ []))) in
      subst (IsTopFirst index stacks place) same whole

  map_turned : (xs : List (StIdx S)) → states_of index (reverse xs) ≡ reverse (states_of index xs)
  map_turned [] = refl
  map_turned (x ∷ xs) =
      ap (states_of index) (reverse-append (x ∷ []) xs) ∙ map-append (λ (s : StIdx S). index s.0) (reverse xs) (x ∷ [])
      ∙ ap (λ (l : List ℕ). l ++ index x.0 ∷ []) (map_turned xs) ∙ sym (reverse-append (index x.0 ∷ []) (states_of index xs))

  pub rest_all : (first : Stack S) (states turned : List (StIdx S)) → IsStackAt stacks 0 first → RestLists index stacks place 0 states
      → turned ≡ reverse (states ++ first.top ∷ []) → IsTopFirst index stacks place (reverse (states_of index turned))
  rest_all first states turned at before is =
      let whole = before first [] at bottom in
      let all = states ++ first.top ∷ [] in
      let listed : states_of index states ++ index first.top.0 ∷ [] ≡ states_of index all = sym (map-append (λ (s : StIdx S). index s.0) states (first.top ∷ [])) in
      let back : states_of index all ≡ reverse (states_of index turned) =
      sym (reverse-reverse (states_of index all)) ∙ ap (λ (l : List ℕ). reverse l) (sym (map_turned all)) ∙ ap (λ (l : List (StIdx S)). reverse (states_of index l)) (sym is) in
      subst (IsTopFirst index stacks place) (listed ∙ back) whole
