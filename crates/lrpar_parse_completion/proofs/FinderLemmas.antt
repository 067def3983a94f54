-- The search for tokens that finish a stack. It can't be left without an answer: some tokens complete the stack, so there is a run over them
-- that accepts; the stacks that the run comes to are all among those that were found, one after the other; and the last one accepts.
use Rattle.std.proofs.Common.{◌≡◌, ◌≢◌, ◌<◌, ◌≤◌, ◌+◌, ◌++◌, ◌∙◌, ◌⊎◌, inl, inr, refl, sym, ap, subst, arith, ℕ, zero, suc, true, List, [], ◌∷◌, length, slice_get, Option, Some, None}
use Rattle.std.specs.Option.{option_map_or}
use Rattle.std.proofs.lemmas.Bool.{cases_lt}
use Rattle.lrpar_grammar.specs.Grammar.{Grammar, end_token}
use Rattle.lrpar_table_rows.specs.Table.{Table, ShiftTo, Fails, FailsPastTokens, action_of}
use Rattle.lrpar_table_stacks.specs.Expected.{AcceptsAtEnd}
use Rattle.lrpar_table_stacks.specs.Path.{NeverSticks}
use Rattle.lrpar_table_stacks.specs.Reduction.{Feeds}
use Rattle.lrpar_table_stacks.specs.Run.{Accepted, Far, FarEnd, accepts, goes_on, stops, token_at}
use Rattle.lrpar_table_stacks.specs.Stack.{IsStack, top_of}
use Rattle.lrpar_table_stacks.proofs.RunLemmas.{HasPath, settles_path}
use Rattle.std.specs.Prelude.{map}
use Rattle.std.proofs.lemmas.List.{append-nil, append_assoc}
use Rattle.std.proofs.lemmas.Option.{slice_get_within}
use Rattle.lrpar_table_stacks.proofs.RunLemmas.{feeds_one_way}
use Rattle.lrpar_parse_completion.proofs.FeedLemmas.{feeds_all_more}
use Rattle.lrpar_parse_completion.specs.Trying.{IsInserted}
use Rattle.lrpar_parse_completion.specs.Nearest.{FeedsAll}
use Rattle.lrpar_parse_completion.specs.Reached.{AddsReached, AreReached, HasReached, IsLeft, IsReached, ReachedOf}

module _ (g : Grammar) (table : Table) (never : NeverSticks g table) (past : FailsPastTokens table) (many : table.tokens ≡ end_token g + 1)
    (paths : (st : List ℕ) → IsStack table st → HasPath table st) where
  -- a token that is fed to a stack is one of the grammar, and not the end token
  fed_low : (t : ℕ) (st ps next : List ℕ) → IsStack table st → Feeds g table t st ps next → t < end_token g
  fed_low t st ps next stack feeds =
      let settled = settles_path g table t st ps feeds.settled never (paths st stack) feeds.settles in
      let other : t ≢ end_token g = (never.shifts settled.0 feeds.settled t feeds.next settled.1 feeds.shifts).0 in
      elim (cases_lt t table.tokens) as (λ _. t < end_token g) [
        | inl low ↦ omega (arith, low, many, other)
        | inr high ↦ absurd (no_shift (top_of feeds.settled) refl high)
      ]
    where
      no_shift : (top : Option ℕ) → top_of feeds.settled ≡ top → table.tokens ≤ t → ⊥
      no_shift None is high =
          let no : Fails ≡ ShiftTo feeds.next = sym (ap (λ (o : Option ℕ). option_map_or (λ s. action_of table s t) o Fails) is) ∙ feeds.shifts in absurd (let none : ⊥ = cc in none)
      no_shift (Some s) is high =
          let no : Fails ≡ ShiftTo feeds.next =
          sym (past s t high) ∙ sym (ap (λ (o : Option ℕ). option_map_or (λ s. action_of table s t) o Fails) is) ∙ feeds.shifts in absurd (let none : ⊥ = cc in none)

  module _ (all : List ReachedOf) (st : List ℕ) (reached : AreReached g table st all)
      (left : (i : ℕ) (x : ReachedOf) → slice_get all i ≡ Some x → IsLeft g table all x.stack) (tokens : List ℕ) where
    -- a run from a stack that was found doesn't accept
    pub never_accepts : (from : List ℕ) (i : ℕ) (ps : List ℕ) (end : FarEnd) → Far (λ (t : ℕ). t) g table tokens from i ps end → end ≡ Accepted → HasReached all from → ⊥
    never_accepts _ _ _ _ (goes_on from i ps qs next end below feeds rest) is has =
        let x = has.1 in
        let t = token_at (λ (t : ℕ). t) g tokens i in
        let here : Feeds g table t x.stack ps next = subst (λ (l : List ℕ). Feeds g table t l ps next) (sym has.3) feeds in
        let low = fed_low t x.stack ps next (reached has.0 x has.2).stack here in
        never_accepts next (i + 1) qs end rest is ((left has.0 x has.2).next t ps next low here)
    never_accepts _ _ _ _ (accepts from i ps settled at_end settles action) is has =
        let ends : AcceptsAtEnd g table from = record { prods = ps; settled = settled; settles = settles; action = action } in
        (left has.0 has.1 has.2).refuses (subst (AcceptsAtEnd g table) (sym has.3) ends)
    never_accepts _ _ _ _ (stops from i ps settled fits settles stuck) is has = let none : ⊥ = cc in none

-- a list with one element more
pub at_append : {X : Type 0} (xs : List X) (x : X) (i : ℕ) (y : X) → slice_get (xs ++ x ∷ []) i ≡ Some y → (slice_get xs i ≡ Some y) ⊎ (y ≡ x)
at_append {X} [] x zero y is = let same : x ≡ y = cc in inr (sym same)
at_append {X} [] x (suc i) y is = absurd (let none : ⊥ = cc in none)
at_append (z ∷ xs) x zero y is = inl is
at_append (z ∷ xs) x (suc i) y is = at_append xs x i y is

pub at_last : {X : Type 0} (xs : List X) (x : X) → slice_get (xs ++ x ∷ []) (length xs) ≡ Some x
at_last [] x = refl
at_last (z ∷ xs) x = at_last xs x

pub at_front : {X : Type 0} (xs ys : List X) (i : ℕ) (y : X) → slice_get xs i ≡ Some y → slice_get (xs ++ ys) i ≡ Some y
at_front {X} [] ys i y is = absurd (let none : ⊥ = cc in none)
at_front (z ∷ xs) ys zero y is = is
at_front (z ∷ xs) ys (suc i) y is = at_front xs ys i y is

pub at_before : {X : Type 0} (xs ys : List X) (i : ℕ) (y : X) → i < length xs → slice_get (xs ++ ys) i ≡ Some y → slice_get xs i ≡ Some y
at_before [] ys i y low is = absurd (omega (arith, low))
at_before (z ∷ xs) ys zero y low is = is
at_before (z ∷ xs) ys (suc i) y low is = at_before xs ys i y (omega (arith, low)) is

-- an element of a list and its image
pub image_at : {X Y : Type 0} (f : X → Y) (xs : List X) (i : ℕ) (x : X) → slice_get xs i ≡ Some x → slice_get (map f xs) i ≡ Some (f x)
image_at {X} f [] i x is = absurd (let none : ⊥ = cc in none)
image_at {X} f (z ∷ xs) zero x is = let same : z ≡ x = cc in ap (λ (e : X). Some (f e)) same
image_at f (z ∷ xs) (suc i) x is = image_at f xs i x is

pub image_of : {X Y : Type 0} (f : X → Y) (xs : List X) (i : ℕ) (y : Y) → slice_get (map f xs) i ≡ Some y → (x : X) × (slice_get xs i ≡ Some x) × (f x ≡ y)
image_of {X} {Y} f [] i y is = absurd (let none : ⊥ = cc in none)
image_of {X} {Y} f (z ∷ xs) zero y is = let same : f z ≡ y = cc in (z, refl, same)
image_of f (z ∷ xs) (suc i) y is = image_of f xs i y is

-- what was found stays found
pub found_kept : (all more : List ReachedOf) (st : List ℕ) → HasReached all st → HasReached (all ++ more) st
found_kept all more st has = (has.0, has.1, at_front all more has.0 has.1 has.2, has.3)

module _ (g : Grammar) (table : Table) where
  -- nothing was added
  pub adds_none : (all : List ReachedOf) → AddsReached g table all all
  adds_none all = record { more = []; grown = sym (append-nil all); reached = λ st reached. reached }

  -- one addition after another
  pub adds_both : (a b c : List ReachedOf) → AddsReached g table a b → AddsReached g table b c → AddsReached g table a c
  adds_both a b c first second = record {
    more = first.more ++ second.more;
    grown = second.grown ∙ ap (λ (l : List ReachedOf). l ++ second.more) first.grown ∙ append_assoc a first.more second.more;
    reached = λ st reached. second.reached st (first.reached st reached);
  }

  pub adds_keep : (a b : List ReachedOf) (st : List ℕ) → AddsReached g table a b → HasReached a st → HasReached b st
  adds_keep a b st adds has = subst (λ (l : List ReachedOf). HasReached l st) (sym adds.grown) (found_kept a adds.more st has)

  pub adds_at : (a b : List ReachedOf) (i : ℕ) (x : ReachedOf) → AddsReached g table a b → slice_get a i ≡ Some x → slice_get b i ≡ Some x
  adds_at a b i x adds is = subst (λ (l : List ReachedOf). slice_get l i ≡ Some x) (sym adds.grown) (at_front a adds.more i x is)

  -- the stack to which a token leads was added
  module _ (all : List ReachedOf) (place t : ℕ) (from new : ReachedOf) (there : slice_get all place ≡ Some from)
      (tokens : new.tokens ≡ from.tokens ++ t ∷ []) (fed : IsInserted g table t from.stack new.stack true) (stack : IsStack table new.stack) where
    pub next_adds : AddsReached g table all (all ++ new ∷ [])
    next_adds = record {
      more = new ∷ [];
      grown = refl;
      reached = λ st reached i x is.
          elim (at_append all new i x is) as (λ _. IsReached g table st x) [
            | inl was ↦ reached i x was
            | inr same ↦
                let before = reached place from there in
                let on : FeedsAll g table st new.tokens new.stack =
                subst (λ (ts : List ℕ). FeedsAll g table st ts new.stack) (sym tokens)
                (feeds_all_more g table st from.tokens from.stack t fed.1.0 new.stack before.fed fed.0 fed.1.1) in
                let is_new : IsReached g table st new = record { fed = on; stack = stack } in
                subst (IsReached g table st) (sym same) is_new
          ];
    }

    pub next_has : (reached : ReachedOf) → slice_get all place ≡ Some reached → (prods next : List ℕ) → Feeds g table t reached.stack prods next
        → HasReached (all ++ new ∷ []) next
    next_has reached is prods next feeds =
        let same : from ≡ reached = let both : ◌≡◌ {A = Option ReachedOf} (Some from) (Some reached) = sym there ∙ is in cc in
        let here : Feeds g table t from.stack prods next = subst (λ (r : ReachedOf). Feeds g table t r.stack prods next) (sym same) feeds in
        let one = feeds_one_way g table t from.stack fed.1.0 new.stack prods next fed.1.1 here in
        (length all, new, at_last all new, one.1)

  -- the first stack
  pub find_first : (all : List ReachedOf) (first : ReachedOf) (st : List ℕ) → all ≡ first ∷ [] → first.tokens ≡ [] → first.stack ≡ st → IsStack table st
      → AreReached g table st all × HasReached all st
  find_first all first st is none same stack =
      let fed : FeedsAll g table st first.tokens first.stack = subst (λ (ts : List ℕ). FeedsAll g table st ts first.stack) (sym none) same in
      let one : IsReached g table st first = record { fed = fed; stack = subst (IsStack table) (sym same) stack } in
      let only : AreReached g table st (first ∷ []) = only_first first st one in
      let here : HasReached (first ∷ []) st = (0, first, refl, same) in
      (subst (AreReached g table st) (sym is) only, subst (λ (l : List ReachedOf). HasReached l st) (sym is) here)
    where
      only_first : (first : ReachedOf) (st : List ℕ) → IsReached g table st first → AreReached g table st (first ∷ [])
      only_first first st one zero x is = let same_one : first ≡ x = let both : ◌≡◌ {A = Option ReachedOf} (Some first) (Some x) = is in cc in subst (IsReached g table st) same_one one
      only_first first st one (suc i) x is = absurd (let none : ⊥ = cc in none)

  -- the stacks before the next place are left
  pub left_more : (a b : List ReachedOf) (place i : ℕ) (from x : ReachedOf) → slice_get a place ≡ Some from → AddsReached g table a b
      → ((j : ℕ) (y : ReachedOf) → j < place → slice_get a j ≡ Some y → IsLeft g table a y.stack) → ¬ (AcceptsAtEnd g table from.stack)
      → ((t : ℕ) (prods next : List ℕ) → t < end_token g → Feeds g table t from.stack prods next → HasReached b next) → i < place + 1
      → slice_get b i ≡ Some x → IsLeft g table b x.stack
  left_more a b place i from x there adds before refuses next low is =
      let under : place < length a = slice_get_within a place from there in
      let within : i < length a = omega (arith, low, under) in
      let at_a : slice_get a i ≡ Some x = at_before a adds.more i x within (subst (λ (l : List ReachedOf). slice_get l i ≡ Some x) adds.grown is) in
      elim (cases_lt i place) as (λ _. IsLeft g table b x.stack) [
        | inl less ↦
            let was = before i x less at_a in
            record { refuses = was.refuses; next = λ t prods after under feeds. adds_keep a b after adds (was.next t prods after under feeds) }
        | inr more ↦
            let here : i ≡ place = omega (arith, low, more) in
            let at_place : slice_get a place ≡ Some x = subst (λ (n : ℕ). slice_get a n ≡ Some x) here at_a in
            let same : from ≡ x = let both : ◌≡◌ {A = Option ReachedOf} (Some from) (Some x) = sym there ∙ at_place in cc in
            let is_from : IsLeft g table b from.stack = record { refuses = refuses; next = next } in
            subst (λ (r : ReachedOf). IsLeft g table b r.stack) same is_from
      ]
