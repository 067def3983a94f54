-- Repair sequences: the results of steps, and what they say about whether a sequence works.
use Rattle.std.proofs.Common.{◌≡◌, ◌≢◌, ◌<◌, ◌≤◌, ◌+◌, ◌-◌, ◌∙◌, ◌↔◌, inl, inr, ℕ, suc, List, [], ◌∷◌, ◌++◌, Bool, true, false, Option, Some, None, slice_get, drop, take, get_or, Vec, vec_len, length, IsTrue, refl, sym, subst, ap, arith}
use Rattle.std.specs.Bool.{then_some}
use Rattle.std.specs.Prelude.{map}
use Rattle.std.specs.List.{AllZip, each_same}
use Rattle.std.proofs.lemmas.List.{drop_more, map-append, take_more}
use Rattle.std.proofs.lemmas.Option.{slice_get_within}
use Rattle.lrpar_grammar.specs.Grammar.{Grammar, end_token}
use Rattle.lrpar_table_rows.specs.Table.{Table}
use Rattle.lrpar_table_stacks.specs.Reduction.{Feeds}
use Rattle.lrpar_parse_repair.specs.PlainSteps.{plain_sequences, plain_step, plain_steps}
use Rattle.lrpar_table_stacks.specs.Run.{token_at}
use Rattle.lrpar_table_stacks.specs.Expected.{AcceptsAtEnd}
use Rattle.lrpar_parse_repair.specs.Sequences.{PlainStep, PlainInsert, PlainDelete, PlainShift, AreThoseWith, CanGoOn, IsStepTaken, IsTokenFed, StepsTo, Works}
use Rattle.lrpar_parse_repair.specs.declared.repair_step.RepairStep.{RepairStep}
use Rattle.lrpar_table_stacks.proofs.RunLemmas.{feeds_one_way, token_at_lexeme}

-- clones of sequences are the same sequences
pub sequences_clone : {S A : Type 0} (index : S → ℕ) (xs ys : List (Vec (RepairStep S) A))
    → AllZip (λ v w. AllZip (λ x y. y ≡ x) v.items w.items × (vec_len w ≡ vec_len v)) xs ys
    → plain_sequences index ys ≡ plain_sequences index xs
sequences_clone index [] [] h = refl
sequences_clone index [] (w ∷ ws) h = absurd h
sequences_clone index (v ∷ vs) [] h = absurd h
sequences_clone index (v ∷ vs) (w ∷ ws) h =
    λ i. map (plain_step index) (each_same v.items w.items h.0.0 i) ∷ sequences_clone index vs ws h.1 i

-- the steps from n on are the one at n and those after it
pub steps_left : {S : Type 0} (index : S → ℕ) (steps : List (RepairStep S)) (n : ℕ) (step : RepairStep S) → n < length steps → step ≡ get_or steps n step
    → plain_steps index (drop n steps) ≡ plain_step index step ∷ plain_steps index (drop (n + 1) steps)
steps_left index steps n step below is =
    ap (λ l. plain_steps index l) (drop_more steps n step below) ∙ ap (λ x. plain_step index x ∷ plain_steps index (drop (n + 1) steps)) (sym is)

-- the steps up to n and the one at n are those up to n + 1
pub steps_so_far : {S : Type 0} (index : S → ℕ) (steps : List (RepairStep S)) (n : ℕ) (step : RepairStep S) → n < length steps → step ≡ get_or steps n step
    → plain_steps index (take (n + 1) steps) ≡ plain_steps index (take n steps) ++ plain_step index step ∷ []
steps_so_far index steps n step below is =
    ap (λ l. plain_steps index l) (take_more steps n step below) ∙ (map-append (plain_step index) (take n steps) (get_or steps n step ∷ [])
    ∙ ap (λ x. plain_steps index (take n steps) ++ plain_step index x ∷ []) (sym is))

-- one more member that has P
those_kept : {A : Type 0} (P : A → Type 0) (xs ys : List A) (x : A) → AreThoseWith P xs ys → P x → AreThoseWith P (xs ++ x ∷ []) (ys ++ x ∷ [])
those_kept P [] ys x e p = inl (p, ([], refl, ap (λ l. l ++ x ∷ []) e))
those_kept {A} P (z ∷ xs) ys x h p =
    elim h as (λ _. AreThoseWith P (z ∷ xs ++ x ∷ []) (ys ++ x ∷ [])) [
      | inl kept ↦ inl (kept.0, (kept.1.0 ++ x ∷ [], those_kept P xs kept.1.0 x kept.1.1 p, ap (λ (l : List A). l ++ x ∷ []) kept.1.2))
      | inr out ↦ inr (out.0, those_kept P xs ys x out.1 p)
    ]

-- and one that hasn't
those_left : {A : Type 0} (P : A → Type 0) (xs ys : List A) (x : A) → AreThoseWith P xs ys → ¬ (P x) → AreThoseWith P (xs ++ x ∷ []) ys
those_left P [] ys x e fails = inr (fails, e)
those_left P (z ∷ xs) ys x h fails =
    elim h as (λ _. AreThoseWith P (z ∷ xs ++ x ∷ []) ys) [
      | inl kept ↦ inl (kept.0, (kept.1.0, those_left P xs kept.1.0 x kept.1.1 fails, kept.1.2))
      | inr out ↦ inr (out.0, those_left P xs ys x out.1 fails)
    ]

-- of the images of lists
pub those_more : {A B : Type 0} (f : A → B) (P : B → Type 0) (xs ys : List A) (x : A) → AreThoseWith P (map f xs) (map f ys) → P (f x)
    → AreThoseWith P (map f (xs ++ x ∷ [])) (map f (ys ++ x ∷ []))
those_more f P xs ys x h p = rw (map-append f xs (x ∷ []), map-append f ys (x ∷ [])) (those_kept P (map f xs) (map f ys) (f x) h p)

pub those_no_more : {A B : Type 0} (f : A → B) (P : B → Type 0) (xs ys : List A) (x : A) → AreThoseWith P (map f xs) (map f ys) → ¬ (P (f x))
    → AreThoseWith P (map f (xs ++ x ∷ [])) (map f ys)
those_no_more f P xs ys x h fails = rw (map-append f xs (x ∷ [])) (those_left P (map f xs) (map f ys) (f x) h fails)

module _ {X : Type 0} (token : X → ℕ) (g : Grammar) (table : Table) (lexemes : List X) where
  -- a step has one result: one stack, one place, and one list of reductions
  pub steps_one_way : (st : List ℕ) (i : ℕ) (step : PlainStep) (ps a : List ℕ) (j : ℕ) (qs b : List ℕ) (k : ℕ)
      → StepsTo token g table lexemes st i step ps a j → StepsTo token g table lexemes st i step qs b k → (ps ≡ qs) × (a ≡ b) × (j ≡ k)
  steps_one_way st i (PlainInsert t) ps a j qs b k x y =
      let same = feeds_one_way g table t st ps a qs b x.1 y.1 in (same.0, same.1, x.2 ∙ sym y.2)
  steps_one_way st i PlainDelete ps a j qs b k x y = (x.1 ∙ sym y.1, x.2 ∙ sym y.2, x.3 ∙ sym y.3)
  steps_one_way st i PlainShift ps a j qs b k x y =
      let same = feeds_one_way g table (token_at token g lexemes i) st ps a qs b x.1 y.1 in (same.0, same.1, x.2 ∙ sym y.2)

  -- a step leads past no lexeme
  pub steps_within : (st : List ℕ) (i : ℕ) (step : PlainStep) (ps next : List ℕ) (j : ℕ) → i ≤ length lexemes
      → StepsTo token g table lexemes st i step ps next j → j ≤ length lexemes
  steps_within st i (PlainInsert t) ps next j fits x = omega (arith, x.2)
  steps_within st i PlainDelete ps next j fits x = omega (arith, x.0, x.3)
  steps_within st i PlainShift ps next j fits x = omega (arith, x.0, x.2)

  -- nor does one that was taken
  pub taken_within : (st : List ℕ) (i : ℕ) (step : PlainStep) (after : List ℕ) (o : Option ℕ) (j : ℕ) → i ≤ length lexemes
      → IsStepTaken token g table lexemes st i step after o → o ≡ Some j → j ≤ length lexemes
  taken_within st i step after o j fits taken is =
      let by = subst (λ (o' : Option ℕ). IsStepTaken token g table lexemes st i step after o') is taken in
      steps_within st i step by.0 after j fits by.1

  -- a sequence whose first step was taken works if the rest works from its result
  pub works_more : (k : ℕ) (st : List ℕ) (i : ℕ) (step : PlainStep) (steps : List PlainStep) (ps next : List ℕ) (j : ℕ)
      → StepsTo token g table lexemes st i step ps next j
      → Works token g table lexemes k next j steps ↔ Works token g table lexemes k st i (step ∷ steps)
  works_more k st i step steps ps next j x = (
    (λ rest. (ps, next, j, x, rest)),
    (λ h.
        let same = steps_one_way st i step ps next j h.0 h.1 h.2 x h.3 in
        subst (λ (st' : List ℕ). Works token g table lexemes k st' j steps) (sym same.1)
        (subst (λ (i' : ℕ). Works token g table lexemes k h.1 i' steps) (sym same.2) h.4)),
  )

  -- and one whose first step can't be taken doesn't work
  pub works_not : (k : ℕ) (st : List ℕ) (i : ℕ) (step : PlainStep) (steps : List PlainStep)
      → ((ps next : List ℕ) (j : ℕ) → ¬ (StepsTo token g table lexemes st i step ps next j))
      → ¬ (Works token g table lexemes k st i (step ∷ steps))
  works_not k st i step steps fails h = fails h.0 h.1 h.2 h.3

  -- if the next lexeme was fed, k + 1 lexemes can be fed if k can be from its result
  pub go_on_more : (k : ℕ) (st : List ℕ) (i : ℕ) (ps next : List ℕ) (j : ℕ) → StepsTo token g table lexemes st i PlainShift ps next j
      → CanGoOn token g table lexemes k next j ↔ CanGoOn token g table lexemes (suc k) st i
  go_on_more k st i ps next j x = (
    (λ rest. inl (x.0, (ps, next, x.1, subst (λ (i' : ℕ). CanGoOn token g table lexemes k next i') x.2 rest))),
    (λ h.
        elim h as (λ _. CanGoOn token g table lexemes k next j) [
          | inl fed ↦
              let same = feeds_one_way g table (token_at token g lexemes i) st ps next fed.1.0 fed.1.1 x.1 fed.1.2 in
              subst (λ (st' : List ℕ). CanGoOn token g table lexemes k st' j) (sym same.1)
              (subst (λ (i' : ℕ). CanGoOn token g table lexemes k fed.1.1 i') (sym x.2) fed.1.3)
          | inr ends ↦ absurd (omega (arith, x.0, ends.0))
        ]),
  )

  -- if it can't be fed, none can
  pub go_on_not : (k : ℕ) (st : List ℕ) (i : ℕ) → i < length lexemes
      → ((ps next : List ℕ) (j : ℕ) → ¬ (StepsTo token g table lexemes st i PlainShift ps next j))
      → ¬ (CanGoOn token g table lexemes (suc k) st i)
  go_on_not k st i within fails h =
      elim h as (λ _. ⊥) [
        | inl fed ↦ fails fed.1.0 fed.1.1 (i + 1) (within, fed.1.2, refl)
        | inr ends ↦ omega (arith, within, ends.0)
      ]

  -- past the last lexeme the stack has to accept
  pub go_on_end : (k : ℕ) (st : List ℕ) (i : ℕ) → length lexemes ≤ i → i ≤ length lexemes
      → AcceptsAtEnd g table st ↔ CanGoOn token g table lexemes (suc k) st i
  go_on_end k st i past fits = (
    (λ accepts. inr (omega arith, accepts)),
    (λ h.
        elim h as (λ _. AcceptsAtEnd g table st) [
          | inl fed ↦ absurd (omega (arith, fed.0))
          | inr ends ↦ ends.1
        ]),
  )

  -- What holds for a start holds for a later place: after n of k lexemes were fed, k - n more can be fed from here if and only if k
  -- can be fed from the start. One more was fed.
  pub go_on_next : (P : Type 0) (k n : ℕ) (st : List ℕ) (i : ℕ) (o : Option ℕ) (after : List ℕ) (j : ℕ) → n < k
      → IsStepTaken token g table lexemes st i PlainShift after o → o ≡ Some j
      → CanGoOn token g table lexemes (k - n) st i ↔ P → CanGoOn token g table lexemes (k - (n + 1)) after j ↔ P
  go_on_next P k n st i o after j below taken is here =
      let step = subst (λ (o' : Option ℕ). IsStepTaken token g table lexemes st i PlainShift after o') is taken in
      let more = go_on_more (k - (n + 1)) st i step.0 after j step.1 in
      let left : k - n ≡ suc (k - (n + 1)) = omega arith in
      let first = subst (λ (m : ℕ). CanGoOn token g table lexemes m st i ↔ P) left here in
      ((λ rest. first.0 (more.0 rest)), (λ p. more.1 (first.1 p)))

  -- the next one can't be fed
  pub go_on_stops : (P : Type 0) (k n : ℕ) (st : List ℕ) (i : ℕ) (o : Option ℕ) (after : List ℕ) → n < k → i ≤ length lexemes → i ≢ length lexemes
      → IsStepTaken token g table lexemes st i PlainShift after o → o ≡ None
      → CanGoOn token g table lexemes (k - n) st i ↔ P → ¬ P
  go_on_stops P k n st i o after below fits inner taken is here p =
      let fails = subst (λ (o' : Option ℕ). IsStepTaken token g table lexemes st i PlainShift after o') is taken in
      let left : k - n ≡ suc (k - (n + 1)) = omega arith in
      let all = subst (λ (m : ℕ). CanGoOn token g table lexemes m st i) left (here.1 p) in
      let within : i < length lexemes = omega (arith, inner) in
      go_on_not (k - (n + 1)) st i within fails all

  -- none is left
  pub go_on_ends : (P Q : Type 0) (k n : ℕ) (st : List ℕ) (i : ℕ) → n < k → i ≡ length lexemes → Q ↔ AcceptsAtEnd g table st
      → CanGoOn token g table lexemes (k - n) st i ↔ P → Q ↔ P
  go_on_ends P Q k n st i below at_end accepts here =
      let end = go_on_end (k - (n + 1)) st i (omega arith) (omega arith) in
      let left : k - n ≡ suc (k - (n + 1)) = omega arith in
      let first = subst (λ (m : ℕ). CanGoOn token g table lexemes m st i ↔ P) left here in
      ((λ q. first.0 (end.0 (accepts.0 q))), (λ p. accepts.1 (end.1 (first.1 p))))

  -- The same holds for the steps of a sequence, of which those from n on are left. One more was taken.
  pub works_next : {S : Type 0} (index : S → ℕ) (P : Type 0) (k : ℕ) (steps : List (RepairStep S)) (n : ℕ) (step : RepairStep S) (st : List ℕ) (i : ℕ) (o : Option ℕ) (after : List ℕ) (j : ℕ)
      → n < length steps → step ≡ get_or steps n step
      → IsStepTaken token g table lexemes st i (plain_step index step) after o → o ≡ Some j
      → Works token g table lexemes k st i (plain_steps index (drop n steps)) ↔ P
      → Works token g table lexemes k after j (plain_steps index (drop (n + 1) steps)) ↔ P
  works_next index P k steps n step st i o after j below item taken is here =
      let by = subst (λ (o' : Option ℕ). IsStepTaken token g table lexemes st i (plain_step index step) after o') is taken in
      let more = works_more k st i (plain_step index step) (plain_steps index (drop (n + 1) steps)) by.0 after j by.1 in
      let first = subst (λ (l : List PlainStep). Works token g table lexemes k st i l ↔ P) (steps_left index steps n step below item) here in
      ((λ rest. first.0 (more.0 rest)), (λ p. more.1 (first.1 p)))

  -- the next one can't be taken
  pub works_stops : {S : Type 0} (index : S → ℕ) (P : Type 0) (k : ℕ) (steps : List (RepairStep S)) (n : ℕ) (step : RepairStep S) (st : List ℕ) (i : ℕ) (o : Option ℕ) (after : List ℕ)
      → n < length steps → step ≡ get_or steps n step
      → IsStepTaken token g table lexemes st i (plain_step index step) after o → o ≡ None
      → Works token g table lexemes k st i (plain_steps index (drop n steps)) ↔ P → ¬ P
  works_stops index P k steps n step st i o after below item taken is here p =
      let fails = subst (λ (o' : Option ℕ). IsStepTaken token g table lexemes st i (plain_step index step) after o') is taken in
      let all = subst (λ (l : List PlainStep). Works token g table lexemes k st i l) (steps_left index steps n step below item) (here.1 p) in
      works_not k st i (plain_step index step) (plain_steps index (drop (n + 1) steps)) fails all

  -- a lexeme was taken as it is, if its token was fed; otherwise it can't be
  pub shift_done : (st : List ℕ) (i : ℕ) (x : X) (t : ℕ) (after : List ℕ) (fed : Bool) → slice_get lexemes i ≡ Some x → t ≡ token x
      → IsTokenFed g table t st after fed → IsStepTaken token g table lexemes st i PlainShift after (then_some fed (i + 1))
  shift_done st i x t after true at is by =
      let same : t ≡ token_at token g lexemes i = is ∙ sym (token_at_lexeme token g lexemes i x at) in
      (by.0, (slice_get_within lexemes i x at, subst (λ (t' : ℕ). Feeds g table t' st by.0 after) same by.1, refl))
  shift_done st i x t after false at is none =
      let same : token_at token g lexemes i ≡ t = token_at_lexeme token g lexemes i x at ∙ sym is in
      λ prods next j step. none prods next (subst (λ (t' : ℕ). Feeds g table t' st prods next) same step.1)

  -- a token of the grammar other than the end token was inserted, if it was fed; otherwise it can't be
  pub insert_done : (st : List ℕ) (i t : ℕ) (after : List ℕ) (fed : Bool) → t < end_token g → IsTokenFed g table t st after fed
      → IsStepTaken token g table lexemes st i (PlainInsert t) after (then_some fed i)
  insert_done st i t after true below by = (by.0, (below, by.1, refl))
  insert_done st i t after false below none = λ prods next j step. none prods next step.1

  -- the end token, or one that the grammar doesn't have, can't be inserted
  pub insert_refused : (st : List ℕ) (i t : ℕ) (after : List ℕ) → end_token g ≤ t → IsStepTaken token g table lexemes st i (PlainInsert t) after None
  insert_refused st i t after past = λ prods next j step. omega (arith, past, step.0)

  -- One more sequence of an answer was tested, from the borrowed stack: it works, and is listed.
  pub listed_more : {S A : Type 0} (index : S → ℕ) (k : ℕ) (st : List ℕ) (i : ℕ) (xs ys zs : List (Vec (RepairStep S) A)) (x : Vec (RepairStep S) A)
      (steps : List (RepairStep S)) (from : List ℕ) (works : Bool) → from ≡ st → steps ≡ x.items → zs ≡ ys ++ x ∷ []
      → IsTrue works ↔ Works token g table lexemes k from i (plain_steps index steps) → works ≡ true
      → AreThoseWith (Works token g table lexemes k st i) (plain_sequences index xs) (plain_sequences index ys)
      → AreThoseWith (Works token g table lexemes k st i) (plain_sequences index (xs ++ x ∷ [])) (plain_sequences index zs)
  listed_more index k st i xs ys zs x steps from works same items pushed tested e h =
      let yes_works : IsTrue works = subst (λ (b : Bool). IsTrue b) (sym e) refl in
      let here = subst (λ (l : List (RepairStep _)). Works token g table lexemes k from i (plain_steps index l)) items (tested.0 yes_works) in
      let there = subst (λ (l : List ℕ). Works token g table lexemes k l i (plain_steps index x.items)) same here in
      subst (λ (l : List (Vec (RepairStep _) _)). AreThoseWith (Works token g table lexemes k st i) (plain_sequences index (xs ++ x ∷ [])) (plain_sequences index l)) (sym pushed)
      (those_more (λ (v : Vec (RepairStep _) _). plain_steps index v.items) (Works token g table lexemes k st i) xs ys x h there)

  -- or it doesn't work, and isn't listed
  pub listed_no_more : {S A : Type 0} (index : S → ℕ) (k : ℕ) (st : List ℕ) (i : ℕ) (xs ys : List (Vec (RepairStep S) A)) (x : Vec (RepairStep S) A)
      (steps : List (RepairStep S)) (from : List ℕ) (works : Bool) → from ≡ st → steps ≡ x.items
      → IsTrue works ↔ Works token g table lexemes k from i (plain_steps index steps) → works ≡ false
      → AreThoseWith (Works token g table lexemes k st i) (plain_sequences index xs) (plain_sequences index ys)
      → AreThoseWith (Works token g table lexemes k st i) (plain_sequences index (xs ++ x ∷ [])) (plain_sequences index ys)
  listed_no_more index k st i xs ys x steps from works same items tested e h =
      let fails : ¬ (Works token g table lexemes k st i (plain_steps index x.items)) = λ there.
      let here = subst (λ (l : List ℕ). Works token g table lexemes k l i (plain_steps index x.items)) (sym same) there in
      let works_here = tested.1 (subst (λ (l : List (RepairStep _)). Works token g table lexemes k from i (plain_steps index l)) (sym items) here) in
      let differ : IsTrue false = subst (λ (b : Bool). IsTrue b) e works_here in cc in
      those_no_more (λ (v : Vec (RepairStep _) _). plain_steps index v.items) (Works token g table lexemes k st i) xs ys x h fails
