-- The kernel of the goto of cores by a symbol: those with the symbol after the dot, each advanced.
use Rattle.std.proofs.Common.{Bor, ◌≡◌, ◌<◌, ◌≤◌, ◌+◌, ◌↔◌, ◌⊎◌, ◌∙◌, refl, sym, ap, subst, inl, inr, arith, ℕ, Bool, true, false, cond, List, [], ◌∷◌, ◌++◌, All, IfSome, MatchOption, Option, Some, None, get_or, length, map, slice_get, take}
use Rattle.std.specs.List.{HoldsAt, filter}
use Rattle.std.specs.Option.{option_copied, option_map}
use Rattle.std.proofs.lemmas.Bool.{cases_Bool, eq-eqb, eqb-true, false≢true}
use Rattle.std.proofs.lemmas.List.{length-map, map-append, map_more}
use Rattle.std.proofs.lemmas.List.Elements.{All-filter, All-head, All-map, All-weaker, filter-append, filter_passes}
use Rattle.std.proofs.lemmas.Option.{slice_get-map, slice_get_past, slice_get_read, slice_get_within}
use Rattle.lrpar_grammar.specs.Grammar.{Grammar, GrammarSymbol, Nonterminal, Terminal, symbols_of}
use Rattle.lrpar_table_rows.specs.Graph.{ItemOf, item_at}
use Rattle.lrpar_table_items.specs.Cores.{CoreSet, IsAmong, IsCoreOf, IsOfCore}
use Rattle.lrpar_table_items.specs.ItemSets.{IsAdvanced}
use Rattle.lrpar_table_items.specs.CoreOrder.{AreCores, AreCoresInOrder, ComesBefore, IsBegun, IsFilled, IsKernel}
use Rattle.lrpar_table_items.specs.Next.{HaveAfterDot, advanced, is_symbol, next_kernel, symbol_after}
use Rattle.lrpar_table_items.proofs.CoreLemmas.{among_cons, among_nil}

-- if the test of a symbol holds, it is that symbol
pub symbol_from : (symbol : GrammarSymbol) (further : Option GrammarSymbol) → is_symbol symbol further ≡ true → further ≡ Some symbol
symbol_from symbol None h = absurd (false≢true h)
symbol_from (Nonterminal r) (Some (Nonterminal q)) h = ap (λ n. Some (Nonterminal n)) (sym (eqb-true r q h))
symbol_from (Nonterminal r) (Some (Terminal t)) h = absurd (false≢true h)
symbol_from (Terminal t) (Some (Nonterminal r)) h = absurd (false≢true h)
symbol_from (Terminal t) (Some (Terminal s)) h = ap (λ n. Some (Terminal n)) (sym (eqb-true t s h))

symbol_itself : (symbol : GrammarSymbol) → is_symbol symbol (Some symbol) ≡ true
symbol_itself (Nonterminal r) = eq-eqb r r refl
symbol_itself (Terminal t) = eq-eqb t t refl

pub symbol_to : (symbol : GrammarSymbol) (further : Option GrammarSymbol) → further ≡ Some symbol → is_symbol symbol further ≡ true
symbol_to symbol further is = ap (is_symbol symbol) is ∙ symbol_itself symbol

-- the symbol that was read at a place of a production, whose symbols are those of a list
pub after_read : {X : Type 0} (f : X → GrammarSymbol) (xs : List X) (all : List GrammarSymbol) (k : ℕ) (found : Option (Bor X)) → map f xs ≡ all
    → IfSome found (λ x. x.now ≡ get_or xs k x.now) → MatchOption found (length xs ≤ k) (λ x. (k < length xs) × HoldsAt (λ y. x.now ≡ y) xs k)
    → option_map f (option_copied found) ≡ slice_get all k
after_read f xs all k None is value place =
    let count = length-map xs f in sym (slice_get_past (map f xs) k (omega (arith, count, place))) ∙ ap (λ w. slice_get w k) is
after_read f xs all k (Some x) is value place =
    ap (option_map f) (sym (slice_get_read xs (length xs) k x.now refl place.0 value)) ∙ sym (slice_get-map f xs k) ∙ ap (λ w. slice_get w k) is

module _ (g : Grammar) (symbol : GrammarSymbol) where
  abbrev before : CoreSet → Bool
  before core = is_symbol symbol (symbol_after g core)

  -- one more core with the symbol after its dot, and one without
  pub next_one : (core : CoreSet) (cores : List CoreSet) → before core ≡ true → next_kernel g symbol (core ∷ cores) ≡ advanced core ∷ next_kernel g symbol cores
  next_one core cores here = ap (λ b. map advanced (cond b (core ∷ filter before cores) (filter before cores))) here

  pub next_none : (core : CoreSet) (cores : List CoreSet) → before core ≡ false → next_kernel g symbol (core ∷ cores) ≡ next_kernel g symbol cores
  next_none core cores apart = ap (λ b. map advanced (cond b (core ∷ filter before cores) (filter before cores))) apart

  -- the items of an advanced core are the advanced items of the core, if it has the symbol after its dot
  advanced_to : (core : CoreSet) (y : ItemOf) → before core ≡ true → IsOfCore (advanced core) y → IsAdvanced g (IsOfCore core) symbol y
  advanced_to core y here of =
      let x : ItemOf = record { prod = core.prod; dot = core.dot; token = y.token } in (
        x,
        (refl, refl, of.2),
        symbol_from symbol (symbol_after g core) here,
        ap (λ n. item_at n y.dot y.token) (sym of.0) ∙ ap (λ n. item_at core.prod n y.token) (sym of.1),
      )

  advanced_from : (core : CoreSet) (y : ItemOf) → IsAdvanced g (IsOfCore core) symbol y → (before core ≡ true) × IsOfCore (advanced core) y
  advanced_from core y h =
      let x = h.0 in
      let of = h.1 in
      let further : symbol_after g core ≡ Some symbol =
      ap (λ p. slice_get (symbols_of g p) core.dot) of.0 ∙ ap (λ k. slice_get (symbols_of g x.prod) k) of.1 ∙ h.2 in
      let is = h.3 in
      let back : IsOfCore (advanced core) (item_at x.prod (x.dot + 1) x.token) = (of.0, ap (λ k. k + 1) of.1, of.2) in
      (symbol_to symbol (symbol_after g core) further, subst (IsOfCore (advanced core)) (sym is) back)

  -- the advanced items of a core and others are those of the core and those of the others
  advanced_cases : (core : CoreSet) (cores : List CoreSet) (y : ItemOf) → IsAdvanced g (IsAmong (core ∷ cores)) symbol y
      → IsAdvanced g (IsOfCore core) symbol y ⊎ IsAdvanced g (IsAmong cores) symbol y
  advanced_cases core cores y h =
      elim ((among_cons core cores h.0).0 h.1) [
        | inl of ↦ inl (h.0, of, h.2, h.3)
        | inr other ↦ inr (h.0, other, h.2, h.3)
      ]

  -- the kernel's items are the cores' items with the symbol after the dot, each advanced
  pub next_to : (cores : List CoreSet) (y : ItemOf) → IsAmong (next_kernel g symbol cores) y → IsAdvanced g (IsAmong cores) symbol y
  next_to [] y h = absurd (among_nil y h)
  next_to (core ∷ cores) y h =
      elim (cases_Bool (before core)) [
        | inl here ↦
            elim ((among_cons (advanced core) (next_kernel g symbol cores) y).0 (subst (λ cs. IsAmong cs y) (next_one core cores here) h)) [
              | inl of ↦ let to = advanced_to core y here of in (to.0, (among_cons core cores to.0).1 (inl to.1), to.2, to.3)
              | inr other ↦ let to = next_to cores y other in (to.0, (among_cons core cores to.0).1 (inr to.1), to.2, to.3)
            ]
        | inr apart ↦
            let to = next_to cores y (subst (λ cs. IsAmong cs y) (next_none core cores apart) h) in
            (to.0, (among_cons core cores to.0).1 (inr to.1), to.2, to.3)
      ]

  pub next_from : (cores : List CoreSet) (y : ItemOf) → IsAdvanced g (IsAmong cores) symbol y → IsAmong (next_kernel g symbol cores) y
  next_from [] y h = absurd (among_nil h.0 h.1)
  next_from (core ∷ cores) y h =
      elim (cases_Bool (before core)) [
        | inl here ↦
            subst (λ cs. IsAmong cs y) (sym (next_one core cores here)) ((among_cons (advanced core) (next_kernel g symbol cores) y).1
            (elim (advanced_cases core cores y h) [
              | inl own ↦ inl (advanced_from core y own).1
              | inr other ↦ inr (next_from cores y other)
            ]))
        | inr apart ↦
            subst (λ cs. IsAmong cs y) (sym (next_none core cores apart))
            (elim (advanced_cases core cores y h) [
              | inl own ↦ absurd (false≢true (sym apart ∙ (advanced_from core y own).0))
              | inr other ↦ next_from cores y other
            ])
      ]

  pub next_is : (cores : List CoreSet) (y : ItemOf) → IsAmong (next_kernel g symbol cores) y ↔ IsAdvanced g (IsAmong cores) symbol y
  next_is cores y = (next_to cores y, next_from cores y)

  -- it is in order
  later_advanced : (a b : CoreSet) → ComesBefore g a b → ComesBefore g (advanced a) (advanced b)
  later_advanced a b h =
      elim h [
        | inl greater ↦ inl (omega (arith, greater))
        | inr after ↦ inr (ap (λ k. k + 1) after.0, after.1)
      ]

  next_order : (cores : List CoreSet) → AreCoresInOrder g cores → AreCoresInOrder g (next_kernel g symbol cores)
  next_order [] order = tt
  next_order (core ∷ cores) order =
      elim (cases_Bool (before core)) [
        | inl here ↦
            subst (AreCoresInOrder g) (sym (next_one core cores here)) (
              All-map (ComesBefore g (advanced core)) advanced (filter before cores)
                  (All-weaker (ComesBefore g core) (λ c. ComesBefore g (advanced core) (advanced c)) (later_advanced core) (filter before cores)
                  (All-filter before (ComesBefore g core) cores order.0)),
              next_order cores order.1,
            )
        | inr apart ↦ subst (AreCoresInOrder g) (sym (next_none core cores apart)) (next_order cores order.1)
      ]

  advanced_of_grammar : (core : CoreSet) → IsCoreOf g core → before core ≡ true → IsCoreOf g (advanced core)
  advanced_of_grammar core of here =
      let low = slice_get_within (symbols_of g core.prod) core.dot symbol (symbol_from symbol (symbol_after g core) here) in
      record { prod = of.prod; dot = omega (arith, low); wide = of.wide }

  pub next_cores : (cores : List CoreSet) → AreCores g cores → AreCores g (next_kernel g symbol cores)
  next_cores cores are =
      let passed = filter before cores in
      record {
        in_order = next_order cores are.in_order;
        of_grammar =
            All-map (IsCoreOf g) advanced passed
            (λ k d low. advanced_of_grammar _ (All-filter before (IsCoreOf g) cores are.of_grammar k d low) (filter_passes before cores k d low));
        filled = All-map IsFilled advanced passed (λ k d low. All-filter before IsFilled cores are.filled k d low);
      }

  -- no dot of it is at the start
  pub next_begun : (cores : List CoreSet) → All (IsBegun g) (next_kernel g symbol cores)
  next_begun cores = All-map (IsBegun g) advanced (filter before cores) (λ k d low. inl (omega arith))

  -- if an item has the symbol after its dot, the kernel has cores
  pub next_some : (cores : List CoreSet) → HaveAfterDot g cores symbol → 0 < length (next_kernel g symbol cores)
  next_some cores h =
      let x = h.0 in
      let there = (next_from cores (item_at x.prod (x.dot + 1) x.token) (x, h.1, h.2, refl)).1 in
      let low = there.1 in omega (arith, low)

-- one more core of a list
pub next_more : {X : Type 0} (g : Grammar) (symbol : GrammarSymbol) (core_of : X → CoreSet) (xs : List X) (i : ℕ) (x : X) → i < length xs → x ≡ get_or xs i x
    → next_kernel g symbol (map core_of (take (i + 1) xs))
    ≡ next_kernel g symbol (map core_of (take i xs)) ++ next_kernel g symbol (core_of x ∷ [])
next_more g symbol core_of xs i x low is =
    let early = map core_of (take i xs) in
    let all : map core_of (take (i + 1) xs) ≡ early ++ core_of x ∷ [] =
    map_more core_of xs i x low ∙ ap (λ y. early ++ core_of y ∷ []) (sym is) in
    ap (next_kernel g symbol) all ∙ ap (map advanced) (filter-append (before g symbol) early (core_of x ∷ []))
    ∙ map-append advanced (filter (before g symbol) early) (filter (before g symbol) (core_of x ∷ []))

-- cores with lookaheads have items
pub some_item : (cores : List CoreSet) → All IsFilled cores → 0 < length cores → (x : ItemOf) × IsAmong cores x
some_item [] filled some = absurd (omega (arith, some))
some_item (core ∷ cores) filled some =
    let first = All-head IsFilled core cores filled in
    let x : ItemOf = record { prod = core.prod; dot = core.dot; token = first.0 } in
    (x, (among_cons core cores x).1 (inl (refl, refl, first.1)))

pub next_has_after_dot : (g : Grammar) (symbol : GrammarSymbol) (cores : List CoreSet) → AreCores g cores → 0 < length (next_kernel g symbol cores)
    → HaveAfterDot g cores symbol
next_has_after_dot g symbol cores are some =
    let item = some_item (next_kernel g symbol cores) (next_cores g symbol cores are).filled some in
    let from = next_to g symbol cores item.0 item.1 in
    (from.0, from.1, from.2)

-- so it is a kernel, if it has any core
pub next_kernel_is : (g : Grammar) (symbol : GrammarSymbol) (cores : List CoreSet) → AreCores g cores → 0 < length (next_kernel g symbol cores)
    → IsKernel g (next_kernel g symbol cores)
next_kernel_is g symbol cores are some = record { cores = next_cores g symbol cores are; begun = next_begun g symbol cores; some = some }
