-- How far a run comes after a change: one place at most, from the stack before the change. So a change has one suggestion at most.
use Rattle.std.proofs.Common.{◌≡◌, ◌<◌, ◌≤◌, ◌+◌, ◌-◌, ◌∙◌, inl, inr, refl, sym, ap, subst, arith, append-nil, append_assoc, ℕ, Bool, true, false, IsTrue, List, [], ◌∷◌, ◌++◌, drop, length, take, get_or, slice_get, Some}
use Rattle.std.proofs.lemmas.Bool.{cases_lt}
use Rattle.std.proofs.lemmas.Option.{slice_get-get_or}
use Rattle.lrpar_grammar.specs.Grammar.{Grammar}
use Rattle.lrpar_table_rows.specs.Table.{Table}
use Rattle.lrpar_table_stacks.specs.Expected.{AcceptsAtEnd}
use Rattle.lrpar_table_stacks.specs.Reduction.{Feeds}
use Rattle.lrpar_parse_suggestions.specs.Changed.{PlainChange, changed, put_in, taken_out}
use Rattle.lrpar_parse_suggestions.specs.Suggestions.{CannotFeed, ComesTo, FeedsTokens, IsSuggestion, PlainSuggestion, last_place}
use Rattle.lrpar_parse_suggestions.proofs.ChangedLemmas.{changed_here, changed_more, changed_on, next_there, take_take}
use Rattle.lrpar_parse_suggestions.proofs.FedLemmas.{FeedsNext, fed_first, fed_more, fed_next, fed_one_way}

module _ (g : Grammar) (table : Table) (tokens : List ℕ) (p : ℕ) (change : PlainChange) where
  -- nothing is put in: right after the change the stack is that before it
  pub fed_here : (st : List ℕ) → p + taken_out change ≤ length tokens → put_in change ≡ [] → FeedsTokens g table (take p tokens) st
      → FeedsTokens g table (changed (take (p + taken_out change) tokens) p change) st
  fed_here st within none fed =
      let here = changed_here p change tokens within in
      let same : take p tokens ++ put_in change ≡ take p tokens = ap (λ (l : List ℕ). take p tokens ++ l) none ∙ append-nil (take p tokens) in
      subst (λ (l : List ℕ). FeedsTokens g table l st) (sym (here ∙ same)) fed

  -- a token is put in: it is fed to the stack before the change
  pub fed_put_in : (st : List ℕ) (t : ℕ) (prods after : List ℕ) → p + taken_out change ≤ length tokens → put_in change ≡ t ∷ []
      → FeedsTokens g table (take p tokens) st → Feeds g table t st prods after
      → FeedsTokens g table (changed (take (p + taken_out change) tokens) p change) after
  fed_put_in st t prods after within one fed feeds =
      let here = changed_here p change tokens within in
      let same : take p tokens ++ put_in change ≡ take p tokens ++ t ∷ [] = ap (λ (l : List ℕ). take p tokens ++ l) one in
      subst (λ (l : List ℕ). FeedsTokens g table l after) (sym (here ∙ same)) (fed_more g table (take p tokens) st t prods after fed feeds)

  -- a token of the text is fed after the change
  pub fed_on : (q : ℕ) (st : List ℕ) (t : ℕ) (prods after : List ℕ) → p + taken_out change ≤ q → slice_get tokens q ≡ Some t
      → FeedsTokens g table (changed (take q tokens) p change) st → Feeds g table t st prods after
      → FeedsTokens g table (changed (take (q + 1) tokens) p change) after
  fed_on q st t prods after past at fed feeds =
      subst (λ (l : List ℕ). FeedsTokens g table l after) (sym (changed_more p change tokens q t past at))
      (fed_more g table (changed (take q tokens) p change) st t prods after fed feeds)

  module _ (place q : ℕ) (st : List ℕ) (comes : ComesTo g table tokens place p change q st) where
    front : take p (take q tokens) ≡ take p tokens
    front =
        let after = comes.after in
        let followed = comes.followed in
        take_take p q tokens (omega (arith, after)) (omega (arith, followed))

    -- the changed tokens begin with those before the change, and what is put in
    parts : changed (take q tokens) p change ≡ take p tokens ++ (put_in change ++ drop (p + taken_out change) (take q tokens))
    parts =
        append_assoc (take p (take q tokens)) (put_in change) (drop (p + taken_out change) (take q tokens))
        ∙ ap (λ (l : List ℕ). l ++ (put_in change ++ drop (p + taken_out change) (take q tokens))) front

    -- so the run feeds the tokens before the change
    pub before_fed : (mid : List ℕ) × FeedsTokens g table (take p tokens) mid
    before_fed =
        fed_first g table (take p tokens) (put_in change ++ drop (p + taken_out change) (take q tokens)) st
        (subst (λ (l : List ℕ). FeedsTokens g table l st) parts comes.fed)

    -- and then what is put in
    pub put_in_fed : (t : ℕ) → put_in change ≡ t ∷ [] → FeedsNext g table (take p tokens) t
    put_in_fed t one =
        let all : changed (take q tokens) p change ≡ take p tokens ++ t ∷ drop (p + taken_out change) (take q tokens) =
        parts ∙ ap (λ (l : List ℕ). take p tokens ++ (l ++ drop (p + taken_out change) (take q tokens))) one in
        fed_next g table (take p tokens) t (drop (p + taken_out change) (take q tokens)) st (subst (λ (l : List ℕ). FeedsTokens g table l st) all comes.fed)

    -- but not if the stack before the change can't be fed it
    pub put_in_stops : (t : ℕ) (mid : List ℕ) → put_in change ≡ t ∷ [] → FeedsTokens g table (take p tokens) mid → CannotFeed g table t mid → ⊥
    put_in_stops t mid one fed none =
        let next = put_in_fed t one in
        let same = fed_one_way g table (take p tokens) next.mid mid next.fed fed in
        none next.prods next.next (subst (λ (l : List ℕ). Feeds g table t l next.prods next.next) same next.feeds)

    -- a run that comes further feeds the token there
    comes_no_further : (r : ℕ) (other : List ℕ) → ComesTo g table tokens place p change r other → q < r → ⊥
    comes_no_further r other further low =
        let most = further.followed in
        let here : q < last_place (length tokens) place = omega (arith, most, low) in
        let within : r ≤ length tokens = omega (arith, most) in
        let inside : q < length tokens = omega (arith, within, low) in
        let t = get_or tokens q 0 in
        let at : slice_get tokens q ≡ Some t = slice_get-get_or tokens q 0 inside in
        let on = changed_on p change tokens q r comes.after (omega (arith, low)) within in
        let more = ap (λ (l : List ℕ). changed (take q tokens) p change ++ l) (next_there tokens q r t low within at) in
        let next =
        fed_next g table (changed (take q tokens) p change) t (drop (q + 1) (take r tokens)) other
        (subst (λ (l : List ℕ). FeedsTokens g table l other) (on ∙ more) further.fed) in
        let same = fed_one_way g table (changed (take q tokens) p change) next.mid st next.fed comes.fed in
        comes.stops here t at next.prods next.next (subst (λ (l : List ℕ). Feeds g table t l next.prods next.next) same next.feeds)

  -- a run comes to one place, with one stack
  pub comes_one_way : (place q : ℕ) (a : List ℕ) (r : ℕ) (b : List ℕ) → ComesTo g table tokens place p change q a → ComesTo g table tokens place p change r b
      → (q ≡ r) × (a ≡ b)
  comes_one_way place q a r b one other = elim (cases_lt q r) as (λ _. (q ≡ r) × (a ≡ b)) [
    | inl low ↦ absurd (comes_no_further place q a one r b other low)
    | inr high ↦ elim (cases_lt r q) as (λ _. (q ≡ r) × (a ≡ b)) [
      | inl low ↦ absurd (comes_no_further place r b other q a one low)
      | inr equal ↦
          let same : q ≡ r = omega (arith, high, equal) in
          let fed = subst (λ (n : ℕ). FeedsTokens g table (changed (take n tokens) p change) a) same one.fed in
          (same, fed_one_way g table (changed (take r tokens) p change) a b fed other.fed)
    ]
  ]

-- two answers that are true at the same time
bools_alike : (a b : Bool) → (IsTrue a → IsTrue b) → (IsTrue b → IsTrue a) → a ≡ b
bools_alike true true f h = refl
bools_alike true false f h = sym (f refl)
bools_alike false true f h = h refl
bools_alike false false f h = refl

-- suggestions are equal if their parts are
abbrev suggestion_with : ℕ → PlainChange → ℕ → Bool → PlainSuggestion
suggestion_with place change reach accepts = record { place = place; change = change; reach = reach; accepts = accepts }

suggestion_alike : (a b : PlainSuggestion) → a.place ≡ b.place → a.change ≡ b.change → a.reach ≡ b.reach → a.accepts ≡ b.accepts → a ≡ b
suggestion_alike a b place change reach accepts =
    ap (λ (n : ℕ). suggestion_with n a.change a.reach a.accepts) place ∙ ap (λ (c : PlainChange). suggestion_with b.place c a.reach a.accepts) change
    ∙ ap (λ (n : ℕ). suggestion_with b.place b.change n a.accepts) reach ∙ ap (λ (t : Bool). suggestion_with b.place b.change b.reach t) accepts

-- a change at a place has one suggestion
pub suggestion_one_way : (g : Grammar) (table : Table) (tokens : List ℕ) (place : ℕ) (a b : PlainSuggestion) → IsSuggestion g table tokens place a
    → IsSuggestion g table tokens place b → a.place ≡ b.place → a.change ≡ b.change → a ≡ b
suggestion_one_way g table tokens place a b one other there made =
    let moved = subst (λ (p : ℕ). ComesTo g table tokens place p b.change other.stop other.stack) (sym there) other.comes in
    let same_change = subst (λ (c : PlainChange). ComesTo g table tokens place a.place c other.stop other.stack) (sym made) moved in
    let same = comes_one_way g table tokens a.place a.change place one.stop one.stack other.stop other.stack one.comes same_change in
    let reach : a.reach ≡ b.reach = one.reach ∙ ap (λ (q : ℕ). q - place) same.0 ∙ sym other.reach in
    let Ends : ℕ → List ℕ → Type 0 = λ q st. (q ≡ length tokens) × AcceptsAtEnd g table st in
    let forth : Ends one.stop one.stack → Ends other.stop other.stack =
    λ e. (sym same.0 ∙ e.0, subst (AcceptsAtEnd g table) same.1 e.1) in
    let back : Ends other.stop other.stack → Ends one.stop one.stack =
    λ e. (same.0 ∙ e.0, subst (AcceptsAtEnd g table) (sym same.1) e.1) in
    let accepts =
    bools_alike a.accepts b.accepts (λ h. other.accepts.1 (forth (one.accepts.0 h))) (λ h. one.accepts.1 (back (other.accepts.0 h))) in
    suggestion_alike a b there made reach accepts
