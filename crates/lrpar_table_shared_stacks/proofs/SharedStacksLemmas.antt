-- Stacks that share their lower states. A number means the same stack from then on, since new stacks go last. A top that is new
-- makes a stack that is new: if an earlier top made the same one, both tops would be on the same stack, thus on the same number,
-- with the same state and the same height.
use Rattle.std.proofs.Common.{◌≡◌, ◌≢◌, ◌<◌, ◌≤◌, ◌+◌, ◌-◌, ◌∙◌, ◌⊎◌, ◌||◌, ◌&&◌, eqb, inl, inr, refl, sym, ap, subst, arith, ℕ, zero, suc, List, [], ◌∷◌, ◌++◌, Bool, true, false, true≢false, if◌then◌else◌, Some, append_assoc, length, length-append, get_or, slice_get, take}
use Rattle.std.proofs.lemmas.Bool.{cases_lt, eq-eqb, eqb-true}
use Rattle.std.proofs.lemmas.List.{append-nil, get_or_append_left, get_or_push, length-take-le, length_push, same_from_push, take-take, take_at}
use Rattle.std.proofs.lemmas.Option.{none-some, same_Some, slice_get-get_or, slice_get_within}
use Rattle.std.specs.Cmp.Derive.{both_true}
use Rattle.std.specs.List.{list_any}
use Rattle.indexmap.specs.IndexSet.{insert_key}
use Rattle.lrpar_table_shared_stacks.specs.SharedStacks.{AreApart, AreShared, AreTops, Extends, IsTop, Shared, stack_at, stack_of, stacks_after, stacks_of}
use Rattle.lrpar_table_stacks.specs.Stack.{top_of}
use Rattle.lrpar_table_shared_stacks.specs.declared.shared_stacks.Top.{Top}

-- one more top makes one more stack
after_push : (stacks : List (List ℕ)) (tops : List Top) (top : Top)
    → stacks_after stacks (tops ++ top ∷ []) ≡ stacks_after stacks tops ++ stack_of (stacks_after stacks tops) top ∷ []
after_push stacks [] top = refl
after_push stacks (t ∷ ts) top = after_push (stacks ++ stack_of stacks t ∷ []) ts top

pub stacks_push : (tops : List Top) (top : Top) → stacks_of (tops ++ top ∷ []) ≡ stacks_of tops ++ stack_of (stacks_of tops) top ∷ []
stacks_push tops top = after_push ([] ∷ []) tops top

-- how many stacks there are
after_len : (stacks : List (List ℕ)) (tops : List Top) → length (stacks_after stacks tops) ≡ length stacks + length tops
after_len stacks [] = omega arith
after_len stacks (t ∷ ts) =
    let rest = after_len (stacks ++ stack_of stacks t ∷ []) ts in
    omega (arith, rest, length-append stacks (stack_of stacks t ∷ []))

pub stacks_len : (tops : List Top) → length (stacks_of tops) ≡ length tops + 1
stacks_len tops = let all = after_len ([] ∷ []) tops in omega (arith, all)

-- the stacks that were there keep their numbers
after_keeps : (stacks : List (List ℕ)) (tops : List Top) (n : ℕ) → n < length stacks → stack_at (stacks_after stacks tops) n ≡ stack_at stacks n
after_keeps stacks [] n within = refl
after_keeps stacks (t ∷ ts) n within =
    let next : List (List ℕ) = stacks ++ stack_of stacks t ∷ [] in
    after_keeps next ts n (omega (arith, length_push stacks (stack_of stacks t)))
    ∙ get_or_append_left stacks (stack_of stacks t ∷ []) [] n within

-- number 0 is the empty stack
pub no_states : (tops : List Top) → stack_at (stacks_of tops) 0 ≡ []
no_states tops = after_keeps ([] ∷ []) tops 0 (omega arith)

-- a top makes the stack with its number
after_own : (stacks : List (List ℕ)) (top : Top) (tops : List Top) → top.below < length stacks
    → stack_at (stacks_after stacks (top ∷ tops)) (length stacks) ≡ stack_of (stacks_after stacks (top ∷ tops)) top
after_own stacks top tops below =
    let next : List (List ℕ) = stacks ++ stack_of stacks top ∷ [] in
    let own : stack_at (stacks_after next tops) (length stacks) ≡ stack_of stacks top =
    after_keeps next tops (length stacks) (omega (arith, length_push stacks (stack_of stacks top))) ∙ get_or_push stacks (stack_of stacks top) [] (length stacks) refl in
    own ∙ ap (λ (st : List ℕ). st ++ top.state ∷ []) (sym (after_keeps stacks (top ∷ tops) top.below below))

after_top : (stacks : List (List ℕ)) (tops : List Top) (i : ℕ) (top : Top) → slice_get tops i ≡ Some top → top.below < length stacks + i
    → stack_at (stacks_after stacks tops) (length stacks + i) ≡ stack_of (stacks_after stacks tops) top
after_top stacks [] i top at below = absurd (none-some top at)
after_top stacks (u ∷ us) zero top at below =
    let same : u ≡ top = same_Some u top at in
    let first : length stacks + 0 ≡ length stacks = omega arith in
    let lower : top.below < length stacks = omega arith in
    let own : stack_at (stacks_after stacks (u ∷ us)) (length stacks) ≡ stack_of (stacks_after stacks (u ∷ us)) u =
    after_own stacks u us (subst (λ (t : Top). t.below < length stacks) (sym same) lower) in
    ap (λ (n : ℕ). stack_at (stacks_after stacks (u ∷ us)) n) first ∙ own ∙ ap (λ (t : Top). stack_of (stacks_after stacks (u ∷ us)) t) same
after_top stacks (u ∷ us) (suc i) top at below =
    let next : List (List ℕ) = stacks ++ stack_of stacks u ∷ [] in
    let longer : length next ≡ length stacks + 1 = length_push stacks (stack_of stacks u) in
    let place : length stacks + suc i ≡ length next + i = omega (arith, longer) in
    ap (λ (n : ℕ). stack_at (stacks_after next us) n) place ∙ after_top next us i top at (omega (arith, longer))

pub top_stack : (tops : List Top) (i : ℕ) (top : Top) → slice_get tops i ≡ Some top → top.below ≤ i
    → stack_at (stacks_of tops) (i + 1) ≡ stack_of (stacks_of tops) top
top_stack tops i top at below =
    let place : i + 1 ≡ 1 + i = omega arith in
    ap (λ (n : ℕ). stack_at (stacks_of tops) n) place ∙ after_top ([] ∷ []) tops i top at (omega arith)

-- what is known of the top of stack n
pub record IsTopOf (tops : List Top) (n : ℕ) (top : Top) : Type 0 where
  pub at : slice_get tops (n - 1) ≡ Some top
  pub below : top.below < n
  pub stack : stack_at (stacks_of tops) n ≡ stack_of (stacks_of tops) top
  pub height : top.height ≡ length (stack_at (stacks_of tops) n)

pub top_of_number : (tops : List Top) → AreTops tops → (n : ℕ) (top : Top) → 0 < n → slice_get tops (n - 1) ≡ Some top → IsTopOf tops n top
top_of_number tops each n top some at =
    let is = each (n - 1) top at in
    let place : n - 1 + 1 ≡ n = omega arith in
    let made : stack_at (stacks_of tops) n ≡ stack_of (stacks_of tops) top =
    ap (λ (m : ℕ). stack_at (stacks_of tops) m) (sym place) ∙ top_stack tops (n - 1) top at is.below in
    record {
      at = at;
      below = omega (arith, is.below);
      stack = made;
      height = is.height ∙ sym (length_push (stack_at (stacks_of tops) top.below) top.state) ∙ ap (λ (st : List ℕ). length st) (sym made);
    }

-- the top of a number that is read from the list
pub top_read : (tops : List Top) → AreTops tops → (n : ℕ) (d : Top) → 0 < n → n < length (stacks_of tops) → IsTopOf tops n (get_or tops (n - 1) d)
top_read tops each n d some within =
    top_of_number tops each n (get_or tops (n - 1) d) some (slice_get-get_or tops (n - 1) d (omega (arith, stacks_len tops)))

pub top_is : (tops : List Top) (n : ℕ) (top : Top) → IsTopOf tops n top → top_of (stack_at (stacks_of tops) n) ≡ Some top.state
top_is tops n top is =
    let lower : List ℕ = stack_at (stacks_of tops) top.below in
    let len : length lower ≡ length (lower ++ top.state ∷ []) - 1 = omega (arith, length_push lower top.state) in
    let within : length (lower ++ top.state ∷ []) - 1 < length (lower ++ top.state ∷ []) = omega (arith, length_push lower top.state) in
    ap (λ (st : List ℕ). top_of st) is.stack
    ∙ slice_get-get_or (lower ++ top.state ∷ []) (length (lower ++ top.state ∷ []) - 1) 0 within
    ∙ ap (λ (n : ℕ). Some n) (get_or_push lower top.state 0 (length (lower ++ top.state ∷ []) - 1) len)

-- a stack has at most as many states as its number says
height_within : (tops : List Top) → AreTops tops → (most n : ℕ) → n ≤ most → n < length (stacks_of tops) → length (stack_at (stacks_of tops) n) ≤ n
height_within tops each most zero less within = let none = ap (λ (st : List ℕ). length st) (no_states tops) in omega (arith, none)
height_within tops each zero (suc n) less within = absurd (omega arith)
height_within tops each (suc most) (suc n) less within =
    let top : Top = get_or tops (suc n - 1) (record { below = 0; height = 0; state = 0 }) in
    let is = top_read tops each (suc n) (record { below = 0; height = 0; state = 0 }) (omega arith) within in
    let lower = height_within tops each most top.below (omega (arith, is.below)) (omega (arith, is.below)) in
    let many = ap (λ (st : List ℕ). length st) is.stack in
    omega (arith, lower, many, is.below, length_push (stack_at (stacks_of tops) top.below) top.state)

pub height_most : (tops : List Top) → AreTops tops → (n : ℕ) → n < length (stacks_of tops) → length (stack_at (stacks_of tops) n) ≤ n
height_most tops each n within = height_within tops each n n (omega arith) within

-- a stack that has states isn't number 0
pub some_states : (tops : List Top) (n : ℕ) → 0 < length (stack_at (stacks_of tops) n) → 0 < n
some_states tops zero some = let none = ap (λ (st : List ℕ). length st) (no_states tops) in absurd (omega (arith, none))
some_states tops (suc n) some = omega arith

-- one more state is left out
pub record IsLeft (tops : List Top) (st : List ℕ) (left n : ℕ) : Type 0 where
  pub within : n < length (stacks_of tops)
  pub stack : stack_at (stacks_of tops) n ≡ take left st

pub left_some : (tops : List Top) (st : List ℕ) (left n : ℕ) → left ≤ length st → 0 < left → IsLeft tops st left n → 0 < n
left_some tops st left n fits some is =
    let many = ap (λ (s : List ℕ). length s) is.stack in some_states tops n (omega (arith, many, length-take-le left st fits))

pub left_less : (tops : List Top) → AreTops tops → (st : List ℕ) (left less n : ℕ) (d : Top) → left ≤ length st → less + 1 ≡ left → IsLeft tops st left n
    → IsLeft tops st less (get_or tops (n - 1) d).below
left_less tops each st left less n d fits one is =
    let top : Top = get_or tops (n - 1) d in
    let of_n = top_read tops each n d (left_some tops st left n fits (omega arith) is) is.within in
    let lower : List ℕ = stack_at (stacks_of tops) top.below in
    let both : lower ++ top.state ∷ [] ≡ take left st = sym of_n.stack ∙ is.stack in
    let many = ap (λ (s : List ℕ). length s) both in
    let len : length lower ≡ less = omega (arith, many, length_push lower top.state, length-take-le left st fits) in
    record {
      within = omega (arith, of_n.below, is.within);
      stack =
          sym (take_at lower (top.state ∷ []) less len) ∙ ap (λ (s : List ℕ). take less s) both
          ∙ take-take less left st (omega arith);
    }

-- the derived comparison of tops is equality
abbrev pub top_eq : Top → Top → Bool
top_eq t u = eqb t.below u.below && (eqb t.height u.height && eqb t.state u.state)

abbrev top_with : ℕ → ℕ → ℕ → Top
top_with below height state = record { below = below; height = height; state = state }

same_top : (t u : Top) → t.below ≡ u.below → t.height ≡ u.height → t.state ≡ u.state → t ≡ u
same_top t u below height state =
    ap (λ (n : ℕ). top_with n t.height t.state) below ∙ ap (λ (n : ℕ). top_with u.below n t.state) height
    ∙ ap (λ (n : ℕ). top_with u.below u.height n) state

and_parts : (a b : Bool) → (a && b) ≡ true → (a ≡ true) × (b ≡ true)
and_parts true b both = (refl, both)
and_parts false b both = absurd (true≢false (sym both))

pub eq_top : (t u : Top) → top_eq t u ≡ true → t ≡ u
eq_top t u equal =
    let parts = and_parts (eqb t.below u.below) (eqb t.height u.height && eqb t.state u.state) equal in
    let rest = and_parts (eqb t.height u.height) (eqb t.state u.state) parts.1 in
    same_top t u (eqb-true t.below u.below parts.0) (eqb-true t.height u.height rest.0) (eqb-true t.state u.state rest.1)

top_alike : (t : Top) → top_eq t t ≡ true
top_alike t = both_true (eq-eqb t.below t.below refl) (both_true (eq-eqb t.height t.height refl) (eq-eqb t.state t.state refl))

-- the lists that `insert` can leave
pub record IsPushed (old : List Top) (top : Top) (new : List Top) : Type 0 where
  pub list : new ≡ old ++ top ∷ []
  pub other : (i : ℕ) → slice_get old i ≢ Some top

none_passes : (tops : List Top) (top : Top) → list_any (top_eq top) tops ≡ false → (i : ℕ) → slice_get tops i ≢ Some top
none_passes [] top none i at = none-some top at
none_passes (t ∷ ts) top none zero at =
    let same : t ≡ top = same_Some t top at in
    let passes : top_eq top t ≡ true = ap (λ (u : Top). top_eq top u) same ∙ top_alike top in
    true≢false (sym (ap (λ (b : Bool). b || list_any (top_eq top) ts) passes) ∙ none)
none_passes (t ∷ ts) top none (suc i) at = none_passes ts top (rest (top_eq top t) none) i at
  where
    rest : (b : Bool) → (b || list_any (top_eq top) ts) ≡ false → list_any (top_eq top) ts ≡ false
    rest true e = absurd (true≢false e)
    rest false e = e

pub inserted : (old : List Top) (top : Top) (new : List Top) → new ≡ insert_key top_eq old top → (new ≡ old) ⊎ IsPushed old top new
inserted old top new is = by (list_any (top_eq top) old) refl
  where
    by : (b : Bool) → list_any (top_eq top) old ≡ b → (new ≡ old) ⊎ IsPushed old top new
    by true e = inl (is ∙ ap (λ (b : Bool). if b then old else old ++ top ∷ []) e)
    by false e = inr (record { list = is ∙ ap (λ (b : Bool). if b then old else old ++ top ∷ []) e; other = none_passes old top e })

-- the place of a key that was inserted
pub place_most : (old new : List Top) (top key : Top) (place : ℕ) → new ≡ insert_key top_eq old top → slice_get new place ≡ Some key → place ≤ length old
place_most old new top key place keys at =
    let within = slice_get_within new place key at in
    elim (inserted old top new keys) as (λ _. place ≤ length old) [
      | inl same ↦ omega (arith, within, ap (λ (tops : List Top). length tops) same)
      | inr pushed ↦ omega (arith, within, ap (λ (tops : List Top). length tops) pushed.list, length_push old top)
    ]

-- an element of a list with one more is one of the list, or the one more
push_cases : (tops : List Top) (top t : Top) (i : ℕ) → slice_get (tops ++ top ∷ []) i ≡ Some t
    → (slice_get tops i ≡ Some t) ⊎ ((i ≡ length tops) × (top ≡ t))
push_cases [] top t zero at = inr (refl, same_Some top t at)
push_cases [] top t (suc i) at = absurd (none-some t at)
push_cases (u ∷ us) top t zero at = inl at
push_cases (u ∷ us) top t (suc i) at =
    elim (push_cases us top t i at) as (λ _. (slice_get us i ≡ Some t) ⊎ ((suc i ≡ length (u ∷ us)) × (top ≡ t))) [
      | inl h ↦ inl h
      | inr h ↦ inr (omega (arith, h.0), h.1)
    ]

-- a top on the stack with a number
pub record IsOnto (limit : ℕ) (tops : List Top) (below : ℕ) (top : Top) : Type 0 where
  pub within : below < length (stacks_of tops)
  pub under : top.below ≡ below
  pub height : top.height ≡ length (stack_at (stacks_of tops) below) + 1
  pub fits : top.state < limit

-- what a push leaves
pub record IsPush (limit : ℕ) (old : List Top) (below state : ℕ) (new : List Top) (place : ℕ) : Type 0 where
  pub shares : AreShared limit new (place + 1)
  pub extends : (more : List (List ℕ)) × (stacks_of new ≡ stacks_of old ++ more)
  pub stack : stack_at (stacks_of new) (place + 1) ≡ stack_at (stacks_of old) below ++ state ∷ []

module _ (limit : ℕ) (old : List Top) (current : ℕ) (shared : AreShared limit old current) (below : ℕ) (top : Top) (onto : IsOnto limit old below top) where
  -- its stack is none of those that were there
  is_new : ((i : ℕ) → slice_get old i ≢ Some top) → (m : ℕ) → m < length (stacks_of old) → stack_at (stacks_of old) m ≢ stack_of (stacks_of old) top
  is_new other zero within e =
      let none = ap (λ (st : List ℕ). length st) (sym (no_states old) ∙ e) in
      absurd (omega (arith, none, length_push (stack_at (stacks_of old) top.below) top.state))
  is_new other (suc k) within e =
      let stacks : List (List ℕ) = stacks_of old in
      let t : Top = get_or old (suc k - 1) top in
      let is = top_read old shared.each (suc k) top (omega arith) within in
      let parts = same_from_push (stack_at stacks t.below) (stack_at stacks top.below) t.state top.state (sym is.stack ∙ e) in
      let t_within : t.below < length stacks = omega (arith, is.below) in
      let top_within : top.below < length stacks = omega (arith, onto.under, onto.within) in
      let lower : t.below ≡ top.below = shared.apart t.below top.below t_within top_within parts.0 in
      let own : top.height ≡ length (stack_at stacks top.below) + 1 = onto.height ∙ ap (λ (n : ℕ). length (stack_at stacks n) + 1) (sym onto.under) in
      let high : t.height ≡ top.height =
      is.height ∙ ap (λ (st : List ℕ). length st) e ∙ length_push (stack_at stacks top.below) top.state ∙ sym own in
      other (suc k - 1) (is.at ∙ ap (λ (u : Top). Some u) (same_top t top lower high parts.1))

  keeps : (n : ℕ) → n < length (stacks_of old) → stack_at (stacks_of (old ++ top ∷ [])) n ≡ stack_at (stacks_of old) n
  keeps n within =
      ap (λ (s : List (List ℕ)). stack_at s n) (stacks_push old top) ∙ get_or_append_left (stacks_of old) (stack_of (stacks_of old) top ∷ []) [] n within

  pushed_len : length (stacks_of (old ++ top ∷ [])) ≡ length (stacks_of old) + 1
  pushed_len = ap (λ (s : List (List ℕ)). length s) (stacks_push old top) ∙ length_push (stacks_of old) (stack_of (stacks_of old) top)

  pushed_tops : AreTops (old ++ top ∷ [])
  pushed_tops i t at =
      elim (push_cases old top t i at) as (λ _. IsTop (stacks_of (old ++ top ∷ [])) i t) [
        | inl h ↦
            let is = shared.each i t h in
            let low : t.below < length (stacks_of old) = omega (arith, is.below, slice_get_within old i t h, stacks_len old) in
            record { below = is.below; height = is.height ∙ ap (λ (st : List ℕ). length st + 1) (sym (keeps t.below low)) }
        | inr h ↦
            let low : top.below < length (stacks_of old) = omega (arith, onto.under, onto.within) in
            let own : IsTop (stacks_of (old ++ top ∷ [])) i top = record {
              below = omega (arith, low, stacks_len old, h.0);
              height =
                  onto.height ∙ ap (λ (n : ℕ). length (stack_at (stacks_of old) n) + 1) (sym onto.under)
                  ∙ ap (λ (st : List ℕ). length st + 1) (sym (keeps top.below low));
            } in
            subst (λ (u : Top). IsTop (stacks_of (old ++ top ∷ [])) i u) h.1 own
      ]

  pushed_fits : (i : ℕ) (t : Top) → slice_get (old ++ top ∷ []) i ≡ Some t → t.state < limit
  pushed_fits i t at =
      elim (push_cases old top t i at) as (λ _. t.state < limit) [
        | inl h ↦ shared.fits i t h
        | inr h ↦ subst (λ (u : Top). u.state < limit) h.1 onto.fits
      ]

  pushed_apart : ((i : ℕ) → slice_get old i ≢ Some top) → AreApart (stacks_of (old ++ top ∷ []))
  pushed_apart other m n m_within n_within e =
      let count : ℕ = length (stacks_of old) in
      let last : stack_at (stacks_of (old ++ top ∷ [])) count ≡ stack_of (stacks_of old) top =
      ap (λ (s : List (List ℕ)). stack_at s count) (stacks_push old top) ∙ get_or_push (stacks_of old) (stack_of (stacks_of old) top) [] count refl in
      elim (cases_lt m count) as (λ _. m ≡ n) [
        | inl m_old ↦
            elim (cases_lt n count) as (λ _. m ≡ n) [
              | inl n_old ↦ shared.apart m n m_old n_old (sym (keeps m m_old) ∙ e ∙ keeps n n_old)
              | inr n_new ↦
                  let is : n ≡ count = omega (arith, n_within, pushed_len) in
                  absurd (is_new other m m_old (sym (keeps m m_old) ∙ e ∙ ap (λ (k : ℕ). stack_at (stacks_of (old ++ top ∷ [])) k) is ∙ last))
            ]
        | inr m_new ↦
            elim (cases_lt n count) as (λ _. m ≡ n) [
              | inl n_old ↦
                  let is : m ≡ count = omega (arith, m_within, pushed_len) in
                  absurd (is_new other n n_old (sym (keeps n n_old) ∙ sym e ∙ ap (λ (k : ℕ). stack_at (stacks_of (old ++ top ∷ [])) k) is ∙ last))
              | inr n_new ↦ omega (arith, m_within, n_within, pushed_len)
            ]
      ]

  push_old : (place : ℕ) → slice_get old place ≡ Some top → IsPush limit old below top.state old place
  push_old place at = record {
    shares = record {
      each = shared.each;
      fits = shared.fits;
      apart = shared.apart;
      within = omega (arith, slice_get_within old place top at, stacks_len old);
    };
    extends = ([], sym (append-nil (stacks_of old)));
    stack =
        top_stack old place top at (shared.each place top at).below
        ∙ ap (λ (n : ℕ). stack_at (stacks_of old) n ++ top.state ∷ []) onto.under;
  }

  push_new : ((i : ℕ) → slice_get old i ≢ Some top) → (place : ℕ) → slice_get (old ++ top ∷ []) place ≡ Some top → IsPush limit old below top.state (old ++ top ∷ []) place
  push_new other place at = record {
    shares = record {
      each = pushed_tops;
      fits = pushed_fits;
      apart = pushed_apart other;
      within = omega (arith, slice_get_within (old ++ top ∷ []) place top at, stacks_len (old ++ top ∷ []));
    };
    extends = (stack_of (stacks_of old) top ∷ [], stacks_push old top);
    stack =
        top_stack (old ++ top ∷ []) place top at (pushed_tops place top at).below
        ∙ ap (λ (st : List ℕ). st ++ top.state ∷ []) (keeps top.below (omega (arith, onto.under, onto.within)))
        ∙ ap (λ (n : ℕ). stack_at (stacks_of old) n ++ top.state ∷ []) onto.under;
  }

  push_any : (new : List Top) → (new ≡ old) ⊎ IsPushed old top new → (place : ℕ) → slice_get new place ≡ Some top → IsPush limit old below top.state new place
  push_any new left place at =
      elim left as (λ _. IsPush limit old below top.state new place) [
        | inl same ↦
            subst (λ (tops : List Top). IsPush limit old below top.state tops place) (sym same)
            (push_old place (ap (λ (tops : List Top). slice_get tops place) (sym same) ∙ at))
        | inr pushed ↦
            subst (λ (tops : List Top). IsPush limit old below top.state tops place) (sym pushed.list)
            (push_new pushed.other place (ap (λ (tops : List Top). slice_get tops place) (sym pushed.list) ∙ at))
      ]

pub pushed_by : (limit : ℕ) (old new : List Top) (current below high state place : ℕ) → AreShared limit old current
    → below < length (stacks_of old) → high ≡ length (stack_at (stacks_of old) below) → state < limit → new ≡ insert_key top_eq old (top_with below (high + 1) state)
    → (key : Top) × (slice_get new place ≡ Some key) × (top_eq (top_with below (high + 1) state) key ≡ true)
    → IsPush limit old below state new place
pushed_by limit old new current below high state place shared within height fits keys stored =
    let top : Top = top_with below (high + 1) state in
    let onto : IsOnto limit old below top = record { within = within; under = refl; height = ap (λ (n : ℕ). n + 1) height; fits = fits } in
    let same : top ≡ stored.0 = eq_top top stored.0 stored.2 in
    push_any limit old current shared below top onto new (inserted old top new keys) place (stored.1 ∙ ap (λ (t : Top). Some t) (sym same))

-- tops that share stacks share them whichever of the stacks is looked at
pub shared_on : (limit : ℕ) (old new : List Top) (number other : ℕ) → number < length (stacks_of old) → AreShared limit new other
    → (more : List (List ℕ)) × (stacks_of new ≡ stacks_of old ++ more) → AreShared limit new number
shared_on limit old new number other within shared extends =
    let longer : length (stacks_of new) ≡ length (stacks_of old) + length extends.0 =
    ap (λ (s : List (List ℕ)). length s) extends.1 ∙ length-append (stacks_of old) extends.0 in
    record { each = shared.each; fits = shared.fits; apart = shared.apart; within = omega (arith, within, longer) }

-- stacks are added, and then more
pub extends_then : (old mid new : Shared) → Extends old mid → Extends mid new → Extends old new
extends_then old mid new one two = (
  one.0 ++ two.0,
  two.1 ∙ ap (λ (s : List (List ℕ)). s ++ two.0) one.1 ∙ append_assoc old.stacks one.0 two.0,
)

-- what a number means from then on
pub extends_keeps : (old new : Shared) → Extends old new → (n : ℕ) → n < length old.stacks
    → (n < length new.stacks) × (stack_at new.stacks n ≡ stack_at old.stacks n)
extends_keeps old new extends n within =
    let longer : length new.stacks ≡ length old.stacks + length extends.0 =
    ap (λ (s : List (List ℕ)). length s) extends.1 ∙ length-append old.stacks extends.0 in (
      omega (arith, longer),
      ap (λ (s : List (List ℕ)). stack_at s n) extends.1 ∙ get_or_append_left old.stacks extends.0 [] n within,
    )
