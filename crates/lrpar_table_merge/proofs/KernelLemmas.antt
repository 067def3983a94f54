-- What is a kernel stays one with more lookaheads.
use Rattle.std.proofs.Common.{◌≡◌, ◌<◌, ◌≤◌, ◌⊎◌, ◌∙◌, sym, ap, subst, arith, ℕ, IsTrue, List, [], ◌∷◌, drop, get_or, length, map}
use Rattle.std.proofs.lemmas.Bool.{or_left}
use Rattle.std.proofs.lemmas.List.{get_or-map, length-map}
use Rattle.lrpar_grammar.specs.Grammar.{Grammar, prod_len, prods_len, start_prod}
use Rattle.lrpar_grammar.specs.Tokens.{has}
use Rattle.lrpar_table_items.specs.CoreOrder.{AreCoresInOrder, IsBegun, IsFilled, IsKernel, Precedes}
use Rattle.lrpar_table_items.specs.Cores.{CoreSet, IsCoreOf}
use Rattle.lrpar_table_merge.specs.Compatible.{HaveSameCores, lookaheads_at, lr0_core}
use Rattle.lrpar_table_merge.specs.United.{AreUnited}

-- lists with the same image have the same images place by place
pub image_at : {X Y : Type 0} (f : X → Y) (xs ys : List X) → map f xs ≡ map f ys → (k : ℕ) (d : X) → k < length xs → f (get_or xs k d) ≡ f (get_or ys k d)
image_at f xs ys same k d low =
    let low' : k < length ys = omega (arith, low, length-map xs f, length-map ys f, ap length same) in
    sym (get_or-map f xs k d (f d) low) ∙ ap (λ zs. get_or zs k (f d)) same ∙ get_or-map f ys k d (f d) low'

pub image_len : {X Y : Type 0} (f : X → Y) (xs ys : List X) → map f xs ≡ map f ys → length xs ≡ length ys
image_len f xs ys same = sym (length-map xs f) ∙ ap length same ∙ length-map ys f

-- the order of cores doesn't depend on their lookaheads
in_order_same : (g : Grammar) (after before : List CoreSet) → HaveSameCores after before → AreCoresInOrder g before → AreCoresInOrder g after
in_order_same g [] before same order = tt
in_order_same g (core ∷ after) [] same order = let len = image_len lr0_core (core ∷ after) [] same in absurd (omega (arith, len))
in_order_same g (core ∷ after) (other ∷ before) same order =
    let first : lr0_core core ≡ lr0_core other = ap (λ rows. get_or rows 0 (lr0_core core)) same in
    let rest : HaveSameCores after before = ap (drop 1) same in (
      λ k d low.
          let low' : k < length before = omega (arith, low, image_len lr0_core after before rest) in
          subst (λ p. Precedes g p.0 p.1 (get_or after k d).prod (get_or after k d).dot) (sym first)
          (subst (λ p. Precedes g other.prod other.dot p.0 p.1) (sym (image_at lr0_core after before rest k d low)) (order.0 k d low')),
      in_order_same g after before rest order.1,
    )

module _ (g : Grammar) (before other after : List CoreSet) (united : AreUnited before other after) (kernel : IsKernel g before) (k : ℕ) (d : CoreSet)
    (low : k < length after) where
  low_before : k < length before
  low_before = omega (arith, low, image_len lr0_core after before united.same)

  core_is : lr0_core (get_or after k d) ≡ lr0_core (get_or before k d)
  core_is = image_at lr0_core after before united.same k d low

  row_of : (cores : List CoreSet) → k < length cores → lookaheads_at cores k ≡ (get_or cores k d).tokens
  row_of cores within = get_or-map (λ (c : CoreSet). c.tokens) cores k d [] within

  of_grammar : IsCoreOf g (get_or after k d)
  of_grammar =
      let was = kernel.cores.of_grammar k d low_before in record {
        prod = subst (λ p. p.0 < prods_len g) (sym core_is) was.prod;
        dot = subst (λ p. p.1 ≤ prod_len g p.0) (sym core_is) was.dot;
        wide = image_at (λ (c : CoreSet). length c.tokens) after before united.room k d low ∙ was.wide;
      }

  filled : IsFilled (get_or after k d)
  filled =
      let was = kernel.cores.filled k d low_before in
      let there = subst (λ row. IsTrue (has row was.0)) (sym (row_of before low_before)) was.1 in
      let now = united.tokens k was.0 ∙ or_left (has (lookaheads_at before k) was.0) (has (lookaheads_at other k) was.0) there in
      (was.0, subst (λ row. IsTrue (has row was.0)) (row_of after low) now)

  begun : IsBegun g (get_or after k d)
  begun = subst (λ p. (0 < p.1) ⊎ (p.0 ≡ start_prod g)) (sym core_is) (kernel.begun k d low_before)

-- a kernel stays one
pub kernel_united : (g : Grammar) (before other after : List CoreSet) → AreUnited before other after → IsKernel g before → IsKernel g after
kernel_united g before other after united kernel = record {
  cores = record {
    in_order = in_order_same g after before united.same kernel.cores.in_order;
    of_grammar = of_grammar g before other after united kernel;
    filled = filled g before other after united kernel;
  };
  begun = begun g before other after united kernel;
  some = let some = kernel.some in omega (arith, some, image_len lr0_core after before united.same);
}
