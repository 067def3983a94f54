-- What one step does to a list of states, and to the chain that goes on from them.
use Rattle.std.proofs.Common.{◌≡◌, ◌<◌, ◌≤◌, ◌+◌, ◌-◌, ◌∙◌, ◌↔◌, ◌⊎◌, inl, inr, refl, sym, ap, subst, arith, ℕ, zero, suc, List, [], ◌∷◌, ◌++◌, length, map, take, get_or, slice_get, Option, Some, None}
use Rattle.std.proofs.lemmas.List.{length-append, length-map, length-take-le, map-append, take-map}
use Rattle.std.proofs.lemmas.List.Elements.{All-push, All-take}
use Rattle.std.proofs.lemmas.Option.{get_or_from_slice_get, none-some, slice_get-map, slice_get_read, slice_get_within}
use Rattle.std.specs.List.{All}
use Rattle.std.specs.Option.{MatchOption, option_and_then, option_map, option_map_or}
use Rattle.lrpar_grammar_places.specs.declared.span.PIdx.{PIdx}
use Rattle.lrpar_grammar_places.specs.declared.span.StIdx.{StIdx}
use Rattle.lrpar_grammar_places.specs.declared.span.Symbol.{Symbol}
use Rattle.lrpar_grammar_places.specs.declared.span.TIdx.{TIdx}
use Rattle.lrpar_grammar.specs.Grammar.{Grammar, prods_len, prod_len, rule_of, symbols_of}
use Rattle.lrpar_grammar.specs.Symbols.{symbol_of}
use Rattle.lrpar_table_stacks.specs.Chain.{DropsAll, HasReductions}
use Rattle.lrpar_table_stacks.specs.Reduction.{Reduces, top_action, top_goto, left_by}
use Rattle.lrpar_table_stacks.specs.Stack.{AreSomeStatesOf, AreStatesOf, top_of}
use Rattle.lrpar_table_stacks.specs.ReductionStep.{CanReduce, FailsReduction, FailsStep, FitsGrammar, IsReduction, IsReductionMade, IsRestOf, IsStackStep, IsStepOf, TakesStep}
use Rattle.lrpar_table_rows.proofs.TestLemmas.{length_by_image}
use Rattle.lrpar_table_rows.specs.PlainRows.{plain_goto}
use Rattle.lrpar_table_rows.specs.declared.rows.Action.TheVariants.{Reduce}
use Rattle.lrpar_table_rows.specs.Table.{Table, Fails, ReduceBy, IsClosed, action_of, goto_of, states_len}
use Rattle.lrpar_table_stacks.specs.declared.reduction.Step.{Step}
use Rattle.lrpar_table_stacks.specs.declared.state_stack.StateStack as stack
use Rattle.lrpar_table_stacks.specs.declared.reduction.Step.TheVariants.{Reduced, LeavesNone, Stays}
use Rattle.lrpar_table_stacks.proofs.Reductions.{reduces_to_one}

-- a production with at least as many symbols as there are states leaves no state; one with fewer symbols does
pub too_few : (height symbols states len : ℕ) → height ≡ states → symbols ≡ len → height ≤ symbols → states ≤ len
too_few height symbols states len at is few = omega arith

pub one_left : (height symbols : ℕ) → symbols < height → 1 ≤ height - symbols
one_left height symbols deep = omega arith

pub place_left : (height symbols states : ℕ) → height ≡ states → symbols < height → height - symbols - 1 < states
place_left height symbols states at deep = omega arith

-- a state that was read is in range, if all states are
pub within_at : (bound : ℕ) (st : List ℕ) (at s : ℕ) → All (λ s. s < bound) st → slice_get st at ≡ Some s → s < bound
within_at bound st at s all read =
    subst (λ (s : ℕ). s < bound) (get_or_from_slice_get st at s s read) (all at s (slice_get_within st at s read))

-- the lower elements stay where they are
slice_get-take : (n i : ℕ) (st : List ℕ) → i < n → slice_get (take n st) i ≡ slice_get st i
slice_get-take zero i st below = absurd (omega arith)
slice_get-take (suc n) i [] below = refl
slice_get-take (suc n) zero (s ∷ st) below = refl
slice_get-take (suc n) (suc i) (s ∷ st) below = slice_get-take n i st (omega arith)

-- the top of the states that are left after some are dropped
pub top_of_left : (st : List ℕ) (count s : ℕ) → count < length st → slice_get st (length st - count - 1) ≡ Some s
    → top_of (take (length st - count) st) ≡ Some s
top_of_left st count s deep read =
    let left : length (take (length st - count) st) ≡ length st - count = length-take-le (length st - count) st (omega arith) in
    ap (λ (n : ℕ). slice_get (take (length st - count) st) (n - 1)) left
    ∙ slice_get-take (length st - count) (length st - count - 1) st (omega arith) ∙ read

-- a state that is pushed onto the lower states of a list represents its number, pushed onto the lower numbers
pub put_states : {A : Type 0} (number : A → ℕ) (xs : List A) (left count : ℕ) (next : A) (after : List A) → left ≡ length xs - count
    → after ≡ take left xs ++ next ∷ [] → map number after ≡ take (length (map number xs) - count) (map number xs) ++ number next ∷ []
put_states number xs left count next after is put =
    let same : left ≡ length (map number xs) - count = rw length-map is in
    ap (map number) put ∙ map-append number (take left xs) (next ∷ [])
    ∙ ap (λ (st : List ℕ). st ++ number next ∷ []) (sym (take-map number left xs))
    ∙ ap (λ (n : ℕ). take n (map number xs) ++ number next ∷ []) same

-- the action of a list of states is that of its top
pub action_by_top : (table : Table) (t : ℕ) (st : List ℕ) (s : ℕ) → top_of st ≡ Some s → top_action table t st ≡ action_of table s t
action_by_top table t st s top = ap (λ (o : Option ℕ). option_map_or (λ s. action_of table s t) o Fails) top

-- and the goto is that of its top
pub goto_by_top : (table : Table) (r : ℕ) (st : List ℕ) (s : ℕ) → top_of st ≡ Some s → top_goto table r st ≡ goto_of table s r
goto_by_top table r st s top = ap (λ (o : Option ℕ). option_and_then (λ s. goto_of table s r) o) top

-- so the goto that was read at the top of the states that are left is the goto of these states
pub goto_of_left : (g : Grammar) (table : Table) (p : ℕ) (st : List ℕ) (symbols height s r : ℕ) (goto : Option ℕ) → symbols ≡ prod_len g p
    → height ≡ length st → symbols < height → slice_get st (height - symbols - 1) ≡ Some s → r ≡ rule_of g p → goto ≡ goto_of table s r
    → (prod_len g p < length st) × (top_goto table (rule_of g p) (left_by g p st) ≡ goto)
goto_of_left g table p st symbols height s r goto is_len is_height deep read is_rule is_goto =
    let below : prod_len g p < length st = omega (arith, is_len, is_height, deep) in
    let at : height - symbols - 1 ≡ length st - prod_len g p - 1 = omega (arith, is_len, is_height) in
    let here : slice_get st (length st - prod_len g p - 1) ≡ Some s = rw at at read in
    let top = top_of_left st (prod_len g p) s below here in
    (below, goto_by_top table (rule_of g p) (left_by g p st) s top ∙ ap (goto_of table s) (sym is_rule) ∙ sym is_goto)

-- the same where code read the goto, and counted the production's symbols
pub left_goto : {S : Type 0} (index : S → ℕ) (g : Grammar) (table : Table) (p : ℕ) (st : List ℕ) (symbols : List (Symbol S)) (height s r : ℕ) (goto read : Option (StIdx S))
    → map (symbol_of index) symbols ≡ symbols_of g p → height ≡ length st → length symbols < height → slice_get st (height - length symbols - 1) ≡ Some s
    → r ≡ rule_of g p → plain_goto index goto ≡ goto_of table s r → goto ≡ read
    → (prod_len g p < length st) × (top_goto table (rule_of g p) (left_by g p st) ≡ plain_goto index read)
left_goto index g table p st symbols height s r goto read is_symbols is_height deep state is_rule is_goto is =
    let h =
    goto_of_left g table p st (length symbols) height s r (plain_goto index goto) (length_by_image (symbol_of index) symbols (symbols_of g p) is_symbols)
    is_height deep state is_rule is_goto in
    (h.0, h.1 ∙ ap (plain_goto index) is)

-- after a reduction the states are still of the table, and there is at least one
pub reduced_within : (g : Grammar) (table : Table) (t : ℕ) (st : List ℕ) (p : ℕ) (after : List ℕ) → IsClosed table → AreStatesOf table st
    → Reduces g table t st p after → AreSomeStatesOf table after
reduced_within g table t st p after closed within reduces =
    let left = left_by g p st in
    let many : length after ≡ length left + 1 =
    ap (λ (l : List ℕ). length l) reduces.pushed ∙ length-append left (reduces.state ∷ []) in
    let left_within = All-take (λ s. s < states_len table) (length st - prod_len g p) st within in
    let state : reduces.state < states_len table = goto_within (top_of left) reduces.goto in
    record {
      some = omega (arith, many);
      within = subst (AreStatesOf table) (sym reduces.pushed) (All-push (λ s. s < states_len table) left reduces.state left_within state);
    }
  where
    goto_within : (top : Option ℕ) → option_and_then (λ s. goto_of table s (rule_of g p)) top ≡ Some reduces.state → reduces.state < states_len table
    goto_within None is = absurd (none-some reduces.state is)
    goto_within (Some s) is = closed.gotos_within s (rule_of g p) reduces.state is

-- a chain makes one more reduction than it makes after its first step
pub goes_on_reduced : (g : Grammar) (table : Table) (t : ℕ) (st : List ℕ) (p : ℕ) (after : List ℕ) (n : ℕ) → Reduces g table t st p after
    → HasReductions g table t st (suc n) ↔ HasReductions g table t after n
goes_on_reduced g table t st p after n reduces = (
  λ h.
      elim h as (λ _. HasReductions g table t after n) [
        | inl more ↦
            let same = reduces_to_one g table t st more.0 p more.1 after more.2 reduces in
            subst (λ (next : List ℕ). HasReductions g table t next n) same more.3
        | inr last ↦
            let same : p ≡ last.0.0 = let e : ReduceBy p ≡ ReduceBy last.0.0 = sym reduces.action ∙ last.0.1 in cc in
            let many : length st ≤ prod_len g p = subst (λ (q : ℕ). length st ≤ prod_len g q) (sym same) last.0.2 in
            absurd (omega (arith, reduces.deep, many))
      ],
  λ h. inl (p, after, reduces, h),
)

-- a chain whose reduction drops all states makes no other one
pub goes_on_dropped : (g : Grammar) (table : Table) (t : ℕ) (st : List ℕ) (n : ℕ) → DropsAll g table t st
    → HasReductions g table t st (suc n) → n ≡ 0
goes_on_dropped g table t st n drops h =
    elim h as (λ _. n ≡ 0) [
      | inl more ↦
          let same : more.0 ≡ drops.0 = let e : ReduceBy more.0 ≡ ReduceBy drops.0 = sym more.2.action ∙ drops.1 in cc in
          let many : length st ≤ prod_len g more.0 = subst (λ (q : ℕ). length st ≤ prod_len g q) (sym same) drops.2 in
          absurd (omega (arith, more.2.deep, many))
      | inr last ↦ last.1
    ]

-- a chain whose step makes no reduction makes none
pub goes_on_stays : (g : Grammar) (table : Table) (t : ℕ) (st after : List ℕ) (n : ℕ) → IsStepOf g table t st Stays after
    → ¬ (HasReductions g table t st (suc n))
goes_on_stays g table t st after n stays h =
    elim h as (λ _. ⊥) [ inl more ↦ stays.0 more.0 more.1 more.2 | inr last ↦ stays.1 last.0 ]

-- The chain from `start` has made `made` steps and come to the states of `st`: it makes more than `cap` reductions if it
-- makes the rest of them from there.
abbrev pub Remains : Grammar → Table → ℕ → List ℕ → ℕ → List ℕ → ℕ → Type 0
Remains g table t start cap st made =
    (left : ℕ) → made + left ≡ cap + 1 → HasReductions g table t start (cap + 1) ↔ HasReductions g table t st left

module _ (g : Grammar) (table : Table) (t : ℕ) (start : List ℕ) (cap : ℕ) where
  -- at the start
  pub remains_first : Remains g table t start cap start 0
  remains_first left is =
      let e : left ≡ cap + 1 = omega arith in
      (λ h. rw e h, λ h. rw e at h)

  -- one more step
  pub remains_more : (st after : List ℕ) (made : ℕ) (step : Step) → Remains g table t start cap st made → step ≡ Reduced
      → IsStepOf g table t st step after → Remains g table t start cap after (made + 1)
  remains_more st after made step remains is reduced left many =
      let h = subst (λ (s : Step). IsStepOf g table t st s after) is reduced in
      let here = remains (suc left) (omega arith) in
      let on = goes_on_reduced g table t st h.0 after left h.1 in
      (λ all. on.0 (here.0 all), λ rest. here.1 (on.1 rest))

  -- a chain that ends early is short
  pub remains_early : (st after : List ℕ) (made : ℕ) (step : Step) → Remains g table t start cap st made → made < cap
      → (step ≡ LeavesNone) ⊎ (step ≡ Stays) → IsStepOf g table t st step after → ¬ (HasReductions g table t start (cap + 1))
  remains_early st after made step remains early is h all =
      let rest = (remains (suc (cap - made)) (omega arith)).0 all in
      elim is as (λ _. ⊥) [
        | inl leaves ↦
            let drops = subst (λ (s : Step). IsStepOf g table t st s after) leaves h in
            omega (arith, goes_on_dropped g table t st (cap - made) drops.0 rest)
        | inr stays ↦
            goes_on_stays g table t st after (cap - made) (subst (λ (s : Step). IsStepOf g table t st s after) stays h) rest
      ]

  -- if one reduction is missing for a long chain, a step that makes one, or would drop all states, is that one
  pub remains_last : (st after : List ℕ) (made : ℕ) (step : Step) → Remains g table t start cap st made → made ≡ cap
      → (step ≡ Reduced) ⊎ (step ≡ LeavesNone) → IsStepOf g table t st step after → HasReductions g table t start (cap + 1)
  remains_last st after made step remains end is h =
      let rest = (remains 1 (omega arith)).1 in
      elim is as (λ _. HasReductions g table t start (cap + 1)) [
        | inl reduced ↦
            let more = subst (λ (s : Step). IsStepOf g table t st s after) reduced h in rest (inl (more.0, after, more.1, tt))
        | inr leaves ↦
            let drops = subst (λ (s : Step). IsStepOf g table t st s after) leaves h in rest (inr (drops.0, refl))
      ]

  -- and no other step is
  pub remains_none : (st after : List ℕ) (made : ℕ) (step : Step) → Remains g table t start cap st made → made ≡ cap → step ≡ Stays
      → IsStepOf g table t st step after → ¬ (HasReductions g table t start (cap + 1))
  remains_none st after made step remains end is h all =
      goes_on_stays g table t st after 0 (subst (λ (s : Step). IsStepOf g table t st s after) is h) ((remains 1 (omega arith)).0 all)

-- the top's action is the reduction by p, which is a production of the grammar
pub record IsTopReduction (g : Grammar) (table : Table) (t p : ℕ) (st : List ℕ) : Type 0 where
  pub action : top_action table t st ≡ ReduceBy p
  pub known : p < prods_len g

-- so it is where the top was read, and its action
pub top_reduction : {g : Grammar} {table : Table} {t p s : ℕ} {st : List ℕ} → FitsGrammar g table → top_of st ≡ Some s → ReduceBy p ≡ action_of table s t
    → IsTopReduction g table t p st
top_reduction {table = table} {t = t} {p = p} {s = s} {st = st} fits top is = record {
  action = action_by_top table t st s top ∙ sym is;
  known = fits.reduces s t p (sym is);
}

-- a reduction that can be made, and is the top's action, is due
pub reduces_where_can : {g : Grammar} {table : Table} {t p : ℕ} {st : List ℕ} → IsTopReduction g table t p st → (can : CanReduce g table p st)
    → Reduces g table t st p (left_by g p st ++ can.1.0 ∷ [])
reduces_where_can top can = record {
  action = top.action;
  known = top.known;
  deep = can.0;
  state = can.1.0;
  goto = can.1.1;
  pushed = refl;
}

-- an option without a value
pub match_none : {A : Type 0} (o : Option A) (P : Type 0) (Q : A → Type 0) → ((x : A) → ¬ (o ≡ Some x)) → MatchOption o P Q → P
match_none None P Q none h = h
match_none (Some x) P Q none h = absurd (none x refl)

-- a reduction by the top's action is a step
step_of : (g : Grammar) (table : Table) (t p : ℕ) (st : List ℕ) (step : Step) (after : List ℕ) → IsTopReduction g table t p st → IsReduction g table p st step after
    → IsStepOf g table t st step after
step_of g table t p st Reduced after top (deep, (state, goto, is)) =
    (p, record { action = top.action; known = top.known; deep = deep; state = state; goto = goto; pushed = is })
step_of g table t p st LeavesNone after top (few, same) = ((p, top.action, few), same)
step_of g table t p st Stays after top (deep, none, same) = (
  (λ q next reduces.
      let is : q ≡ p = let e : ReduceBy q ≡ ReduceBy p = sym reduces.action ∙ top.action in cc in
      let goto : top_goto table (rule_of g p) (left_by g p st) ≡ Some reduces.state =
      subst (λ (r : ℕ). top_goto table (rule_of g r) (left_by g r st) ≡ Some reduces.state) is reduces.goto in
      none-some reduces.state (sym none ∙ goto)),
  (λ drops.
      let is : drops.0 ≡ p = let e : ReduceBy drops.0 ≡ ReduceBy p = sym drops.1 ∙ top.action in cc in
      let many : length st ≤ prod_len g p = subst (λ (r : ℕ). length st ≤ prod_len g r) is drops.2 in
      omega (arith, deep, many)),
  same,
)

module _ {S X : Type 0} (index : S → ℕ) (kind : stack.Ghosts X S) (g : Grammar) (table : Table) (old : X) where
  -- and a step of the whole stack
  stack_step_of : (t p : ℕ) (step : Step) (new : X) → IsTopReduction g table t p (kind.states old) → IsReduction g table p (kind.states old) step (kind.states new)
      → IsRestOf kind.reduces g p old step new → IsStackStep kind.states kind.reduces g table t old step new
  stack_step_of t p Reduced new top (deep, (state, goto, is)) rest = (
    p,
    record { of_states = record { action = top.action; known = top.known; deep = deep; state = state; goto = goto; pushed = is }; of_rest = rest },
  )
  stack_step_of t p LeavesNone new top reduction rest = rest
  stack_step_of t p Stays new top reduction rest = rest

  -- where code made the reduction, it took the step
  pub takes_step : (t : TIdx S) (prod : PIdx S) (new : X) (step : Step) → IsTopReduction g table (index t.0) (index prod.0) (kind.states old)
      → IsReductionMade index kind g table prod old new step → TakesStep index kind g table t old new (step, Reduce prod)
  takes_step t prod new step top made = record {
    of_states = step_of g table (index t.0) (index prod.0) (kind.states old) step (kind.states new) top made.of_states;
    of_stack = stack_step_of (index t.0) (index prod.0) step new top made.of_states made.of_rest;
    action = sym top.action;
  }

  -- where it failed to, it failed to take the step
  pub fails_step : (t : TIdx S) (prod : PIdx S) (new : X) → IsTopReduction g table (index t.0) (index prod.0) (kind.states old)
      → FailsReduction index kind g table prod old new → FailsStep index kind g table t old new
  fails_step t prod new top failed = record {
    prod = index prod.0;
    after = left_by g (index prod.0) (kind.states old) ++ failed.due.1.0 ∷ [];
    due = reduces_where_can top failed.due;
    stays = failed.stays;
    of_rest = failed.of_rest;
  }

-- a state that was read in a list represents the number there, and the last one represents the top
pub number_at : {A : Type 0} (number : A → ℕ) (xs : List A) (i : ℕ) (x : A) → i < length (map number xs) → x ≡ get_or xs i x
    → slice_get (map number xs) i ≡ Some (number x)
number_at number xs i x below read =
    slice_get-map number xs i
    ∙ ap (option_map number) (slice_get_read xs (length xs) i x refl (subst (λ (n : ℕ). i < n) (length-map xs number) below) read)

pub number_top : {A : Type 0} (number : A → ℕ) (xs : List A) (len : ℕ) (x : A) → 0 < length (map number xs) → len ≡ length xs → x ≡ get_or xs (len - 1) x
    → top_of (map number xs) ≡ Some (number x)
number_top number xs len x some is read =
    let last : length (map number xs) ≡ len = length-map xs number ∙ sym is in
    ap (λ (n : ℕ). slice_get (map number xs) (n - 1)) last ∙ number_at number xs (len - 1) x (omega (arith, some, last)) read
