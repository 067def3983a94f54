-- A kernel has no core twice, so it has at most as many as the grammar has.
use Rattle.std.proofs.Common.{◌≡◌, ◌<◌, ◌≤◌, ◌+◌, ◌*◌, ◌/◌, ◌%◌, ◌∙◌, sym, ap, subst, inl, inr, arith, ℕ, false, List, [], ◌∷◌, All, get_or, length, map, not, sum_by}
use Rattle.std.specs.List.{AllByRecursion, IsDistinct}
use Rattle.std.proofs.Math.Dec.{eqb}
use Rattle.std.proofs.Math.Nat.{add-mul, mul_comm, mul-le-mul_right, one-mul}
use Rattle.std.specs.Option.{option_map_or}
use Rattle.std.proofs.lemmas.Bool.{cases_lt, eqb-true, ne_eqb}
use Rattle.std.proofs.lemmas.List.{length-map}
use Rattle.std.proofs.lemmas.List.Elements.{All-contains, All-head, All-map, All-tail}
use Rattle.std.proofs.lemmas.List.Sums.{count_by-le-length, get_or-le-sum_by, sum_by-le}
use Rattle.std.proofs.lemmas.Option.{slice_get-get_or, slice_get_past}
use Rattle.std.proofs.lemmas.Map.Steps.{length-le_from_distinct_below}
use Rattle.std.proofs.lemmas.Map.Views.{Contains-from_any}
use Rattle.std.proofs.lemmas.Nat.{div-mul-add, mod-mul-add}
use Rattle.lrpar_grammar_places.specs.Span.{nowhere}
use Rattle.lrpar_grammar.specs.Grammar.{Grammar, Production, prod_len, prods_len, rule_of}
use Rattle.lrpar_grammar.specs.Tokens.{missing}
use Rattle.lrpar_table_first.specs.FirstRows.{dummy_lookahead, total_missing}
use Rattle.lrpar_table_items.specs.CoreOrder.{AreCoresInOrder, ComesBefore, IsKernel}
use Rattle.lrpar_table_items.specs.Cores.{CoreSet, IsCoreOf}
use Rattle.lrpar_table_merge.specs.Compatible.{lookahead_rows}
use Rattle.lrpar_table_merge.specs.Merging.{most_cores, most_missing}

-- the most symbols that a production can have
abbrev longest : Grammar → ℕ
longest g = sum_by (λ prod. length prod.symbols) g.prods

-- a number for each core
abbrev number_of : ℕ → CoreSet → ℕ
number_of prods core = core.dot * prods + core.prod

-- cores of different numbers
differ : (prods : ℕ) (a b : CoreSet) → a.prod < prods → b.prod < prods → number_of prods a ≡ number_of prods b → (a.dot ≡ b.dot) × (a.prod ≡ b.prod)
differ prods a b low below same = (
  sym (div-mul-add a.dot prods a.prod low) ∙ ap (λ n. n / prods) same ∙ div-mul-add b.dot prods b.prod below,
  sym (mod-mul-add a.dot prods a.prod low) ∙ ap (λ n. n % prods) same ∙ mod-mul-add b.dot prods b.prod below,
)

-- a core that comes before another one is another one
before_differs : (g : Grammar) (a b : CoreSet) → ComesBefore g a b → a.dot ≡ b.dot → a.prod ≡ b.prod → ⊥
before_differs g a b (inl later) dots prods = omega (arith, later, dots)
before_differs g a b (inr (same, inl rules)) dots prods =
    omega (arith, subst (λ p. rule_of g p < rule_of g b.prod) prods rules)
before_differs g a b (inr (same, inr (rules, numbers))) dots prods = omega (arith, numbers, prods)

others : (g : Grammar) (core : CoreSet) (cores : List CoreSet) → core.prod < prods_len g → All (IsCoreOf g) cores → All (ComesBefore g core) cores
    → AllByRecursion (λ y. eqb (number_of (prods_len g) core) y ≡ false) (map (number_of (prods_len g)) cores)
others g core [] low all before = tt
others g core (next ∷ cores) low all before =
    let is = All-head (IsCoreOf g) next cores all in
    let comes = All-head (ComesBefore g core) next cores before in (
      ne_eqb (number_of (prods_len g) core) (number_of (prods_len g) next) (λ same.
          let both = differ (prods_len g) core next low is.prod same in before_differs g core next comes both.0 both.1),
      others g core cores low (All-tail (IsCoreOf g) next cores all) (All-tail (ComesBefore g core) next cores before),
    )

distinct : (g : Grammar) (cores : List CoreSet) → All (IsCoreOf g) cores → AreCoresInOrder g cores → IsDistinct eqb (map (number_of (prods_len g)) cores)
unfolding IsDistinct
distinct g [] all order = tt
distinct g (core ∷ cores) all order =
    let is = All-head (IsCoreOf g) core cores all in
    let rest = All-tail (IsCoreOf g) core cores all in (others g core cores is.prod rest order.0, distinct g cores rest order.1)

-- no production has more symbols than all have
prod_within : (g : Grammar) (p : ℕ) → prod_len g p ≤ longest g
prod_within g p =
    elim (cases_lt p (prods_len g)) [
      | inl low ↦
          let d : Production = record { rule = 0; symbols = []; symbol_spans = []; span = nowhere } in
          let at = ap (λ found. length (option_map_or (λ (prod : Production). prod.symbols) found [])) (slice_get-get_or g.prods p d low) in
          let within = get_or-le-sum_by (λ (prod : Production). length prod.symbols) g.prods p d low in
          omega (arith, at, within)
      | inr past ↦
          let none = ap (λ found. length (option_map_or (λ (prod : Production). prod.symbols) found [])) (slice_get_past g.prods p past) in omega (arith, none)
    ]

number_low : (g : Grammar) (core : CoreSet) → IsCoreOf g core → number_of (prods_len g) core < most_cores g
number_low g core is =
    let low = is.prod in
    let dot = is.dot in
    let long = prod_within g core.prod in
    let most : core.dot * prods_len g ≤ longest g * prods_len g = mul-le-mul_right (prods_len g) (omega (arith, dot, long)) in
    let all : most_cores g ≡ longest g * prods_len g + prods_len g = mul_comm (prods_len g) (longest g + 1) ∙ add-mul (longest g) 1 (prods_len g) ∙ ap (λ n. longest g * prods_len g + n) (one-mul (prods_len g)) in
    omega (arith, low, most, all)

-- a kernel has at most so many cores
cores_within : (g : Grammar) (cores : List CoreSet) → All (IsCoreOf g) cores → AreCoresInOrder g cores → length cores ≤ most_cores g
cores_within g cores all order =
    let numbers = map (number_of (prods_len g)) cores in
    let each : All (λ n. n < most_cores g) numbers =
    All-map (λ n. n < most_cores g) (number_of (prods_len g)) cores (λ k d low. number_low g (get_or cores k d) (all k d low)) in
    let within = length-le_from_distinct_below numbers (most_cores g) (distinct g cores all order)
    (λ q found. All-contains (λ n. n < most_cores g) numbers q each (Contains-from_any (λ x y h. eqb-true x y h) q numbers found)) in
    omega (arith, within, length-map cores (number_of (prods_len g)))

-- and lacks at most so many lookaheads
pub missing_within : (g : Grammar) (kernel : List CoreSet) → IsKernel g kernel → total_missing (lookahead_rows kernel) ≤ most_missing g
missing_within g kernel is =
    let wide = dummy_lookahead g + 1 in
    let rows = lookahead_rows kernel in
    let each : All (λ row. missing row ≤ wide) rows =
    All-map (λ row. missing row ≤ wide) (λ (core : CoreSet). core.tokens) kernel (λ k d low.
    let room = (is.cores.of_grammar k d low).wide in
    let few = count_by-le-length not (get_or kernel k d).tokens in omega (arith, room, few)) in
    let sums = sum_by-le missing wide rows each in
    let count = length-map kernel (λ (core : CoreSet). core.tokens) in
    let few = cores_within g kernel is.cores.of_grammar is.cores.in_order in
    let most : length rows * wide ≤ most_cores g * wide = mul-le-mul_right wide (omega (arith, count, few)) in
    omega (arith, sums, most)
