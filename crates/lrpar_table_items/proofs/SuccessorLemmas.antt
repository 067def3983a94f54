-- The kernels to which cores go, one core after the other: each is appended to the kernel of the symbol after its dot.
use Rattle.std.proofs.Common.{Vec, ◌≡◌, ◌≢◌, ◌<◌, ◌+◌, ◌∙◌, refl, sym, ap, subst, inl, inr, arith, ℕ, zero, suc, true, false, List, [], ◌∷◌, ◌++◌, Some, drop, get_or, length, map, set, take}
use Rattle.std.proofs.lemmas.Bool.{cases_eq, ne_eqb}
use Rattle.std.proofs.lemmas.List.{append-nil, get_or-map, get_or-set_other, get_or-set_same, length-map, length-set, map-set}
use Rattle.std.proofs.Math.Seq.{take-append_seam}
use Rattle.lrpar_grammar.specs.Grammar.{Grammar, GrammarSymbol, Nonterminal, Terminal}
use Rattle.lrpar_table_items.specs.Cores.{CoreSet, core_set}
use Rattle.lrpar_table_items.specs.Next.{kernel_rows, AreNext, ArePutTo, advanced, is_symbol, kernel_at, next_kernel, symbol_after}
use Rattle.lrpar_table_items.specs.declared.cores.CoreItems.{CoreItems}
use Rattle.lrpar_table_items.proofs.FindLemmas.{mapped_at}
use Rattle.lrpar_table_items.proofs.NextLemmas.{next_more, next_none, next_one, symbol_to}

module _ (g : Grammar) (core : CoreSet) (symbol : ℕ → GrammarSymbol) (rows : List (List CoreSet)) where
  left : (n : ℕ) → is_symbol (symbol n) (symbol_after g core) ≡ false → kernel_at rows n ≡ kernel_at rows n ++ next_kernel g (symbol n) (core ∷ [])
  left n apart = sym (append-nil (kernel_at rows n)) ∙ ap (λ k. kernel_at rows n ++ k) (sym (next_none g (symbol n) core [] apart))

  -- one of the symbols is after the core's dot
  pub put_there : (target : ℕ) (new : List CoreSet) → target < length rows → new ≡ kernel_at rows target ++ advanced core ∷ []
      → is_symbol (symbol target) (symbol_after g core) ≡ true → ((n : ℕ) → n ≢ target → is_symbol (symbol n) (symbol_after g core) ≡ false)
      → ArePutTo g core symbol rows (set rows target new)
  put_there target new low is here apart = record {
    len = length-set rows target new;
    each = λ n below.
        elim (cases_eq n target) [
          | inl same ↦
              subst (λ m. kernel_at (set rows target new) m ≡ kernel_at rows m ++ next_kernel g (symbol m) (core ∷ [])) (sym same)
              (get_or-set_same rows target new [] low ∙ is ∙ ap (λ k. kernel_at rows target ++ k) (sym (next_one g (symbol target) core [] here)))
          | inr other ↦ get_or-set_other rows target n new [] other ∙ left n (apart n other)
        ];
  }

-- one more core of a list
pub next_core : {X : Type 0} (g : Grammar) (symbol : ℕ → GrammarSymbol) (core_of : X → CoreSet) (xs : List X) (i : ℕ) (x : X) (rows more : List (List CoreSet))
    → i < length xs → x ≡ get_or xs i x → AreNext g (map core_of (take i xs)) symbol rows → ArePutTo g (core_of x) symbol rows more
    → AreNext g (map core_of (take (i + 1) xs)) symbol more
next_core g symbol core_of xs i x rows more low is so_far put n below =
    let len = put.len in
    let early : n < length rows = omega (arith, len, below) in
    put.each n early ∙ ap (λ k. k ++ next_kernel g (symbol n) (core_of x ∷ [])) (so_far n early) ∙ sym (next_more g (symbol n) core_of xs i x low is)

-- the kernel of the symbol after the dot is one of the rows, and has the core as its last
module _ {S A : Type 0} (index : S → ℕ) (g : Grammar) (core : CoreSet) (rows : List (Vec (CoreItems S) A)) (target : ℕ)
    (row new : Vec (CoreItems S) A) where
  abbrev cores : Vec (CoreItems S) A → List CoreSet
  cores kernel = map (core_set index) kernel.items

  put_row : (symbol : ℕ → GrammarSymbol) → target < length rows → cores new ≡ cores (get_or rows target row) ++ advanced core ∷ []
      → is_symbol (symbol target) (symbol_after g core) ≡ true → ((n : ℕ) → n ≢ target → is_symbol (symbol n) (symbol_after g core) ≡ false)
      → ArePutTo g core symbol (kernel_rows index rows) (kernel_rows index (set rows target new))
  put_row symbol low is here apart =
      let count = length-map rows cores in
      subst (ArePutTo g core symbol (kernel_rows index rows)) (sym (map-set cores rows target new))
      (put_there g core symbol (kernel_rows index rows) target (cores new) (omega (arith, low, count))
      (is ∙ ap (λ k. k ++ advanced core ∷ []) (sym (get_or-map cores rows target row [] low))) here apart)

  pub put_rule : symbol_after g core ≡ Some (Nonterminal target) → target < length rows → cores new ≡ cores (get_or rows target row) ++ advanced core ∷ []
      → ArePutTo g core Nonterminal (kernel_rows index rows) (kernel_rows index (set rows target new))
  put_rule after low is =
      put_row Nonterminal low is (symbol_to (Nonterminal target) (symbol_after g core) after)
      (λ n other. ap (is_symbol (Nonterminal n)) after ∙ ne_eqb n target other)

  pub put_token : symbol_after g core ≡ Some (Terminal target) → target < length rows → cores new ≡ cores (get_or rows target row) ++ advanced core ∷ []
      → ArePutTo g core Terminal (kernel_rows index rows) (kernel_rows index (set rows target new))
  put_token after low is =
      put_row Terminal low is (symbol_to (Terminal target) (symbol_after g core) after)
      (λ n other. ap (is_symbol (Terminal n)) after ∙ ne_eqb n target other)

-- rows that were lent and written back, with one more core appended
module _ {S A : Type 0} (index : S → ℕ) (rows lent new : List (Vec (CoreItems S) A)) (len : ℕ) (held : length rows ≡ len) (value : lent ≡ rows)
    (same : length new ≡ length lent) where
  back : take len (new ++ drop (length new) rows) ≡ new
  back =
      let lent_len = ap (λ (kernels : List (Vec (CoreItems S) A)). length kernels) value in
      let long : len ≡ length new = omega (arith, held, same, lent_len) in
      ap (λ n. take n (new ++ drop (length new) rows)) long ∙ take-append_seam new (drop (length new) rows)

  pub back_len : length (take len (new ++ drop (length new) rows)) ≡ length rows
  back_len = ap (λ (kernels : List (Vec (CoreItems S) A)). length kernels) back ∙ same ∙ ap (λ (kernels : List (Vec (CoreItems S) A)). length kernels) value

  pub back_next : (g : Grammar) (symbol : ℕ → GrammarSymbol) (cores : List (CoreItems S)) (i : ℕ) (core : CoreItems S) → i < length cores
      → core ≡ get_or cores i core → AreNext g (map (core_set index) (take i cores)) symbol (kernel_rows index rows)
      → ArePutTo g (core_set index core) symbol (kernel_rows index lent) (kernel_rows index new)
      → AreNext g (map (core_set index) (take (i + 1) cores)) symbol (kernel_rows index (take len (new ++ drop (length new) rows)))
  back_next g symbol cores i core low is so_far put =
      subst (λ kernels. AreNext g (map (core_set index) (take (i + 1) cores)) symbol (kernel_rows index kernels)) (sym back)
      (next_core g symbol (core_set index) cores i core (kernel_rows index rows) (kernel_rows index new) low is so_far
      (subst (λ kernels. ArePutTo g (core_set index core) symbol (kernel_rows index kernels) (kernel_rows index new)) value put))

-- one more kernel without cores
pub none_more : {S A : Type 0} (index : S → ℕ) (kernels more : List (Vec (CoreItems S) A)) (last : Vec (CoreItems S) A) → more ≡ kernels ++ last ∷ []
    → last.items ≡ [] → ((n : ℕ) → kernel_at (kernel_rows index kernels) n ≡ []) → (n : ℕ) → kernel_at (kernel_rows index more) n ≡ []
none_more index [] more last is empty none zero = ap (λ kernels. kernel_at (kernel_rows index kernels) 0) is ∙ ap (map (core_set index)) empty
none_more index [] more last is empty none (suc n) = ap (λ kernels. kernel_at (kernel_rows index kernels) (suc n)) is
none_more index (first ∷ kernels) more last is empty none zero = ap (λ rows. kernel_at (kernel_rows index rows) 0) is ∙ none 0
none_more index (first ∷ kernels) more last is empty none (suc n) =
    ap (λ rows. kernel_at (kernel_rows index rows) (suc n)) is
    ∙ none_more index kernels (kernels ++ last ∷ []) last refl empty (λ m. none (suc m)) n

-- the kernel at a symbol's number is that of the goto of the cores by the symbol
pub next_at : {S A : Type 0} (index : S → ℕ) (kernels : List (Vec (CoreItems S) A)) (g : Grammar) (cores : List CoreSet) (symbol : ℕ → GrammarSymbol)
    → AreNext g cores symbol (kernel_rows index kernels) → (n : ℕ) → n < length kernels → (kernel : Vec (CoreItems S) A) → kernel ≡ get_or kernels n kernel
    → (lent : List (CoreItems S)) → lent ≡ kernel.items → map (core_set index) lent ≡ next_kernel g (symbol n) cores
next_at index kernels g cores symbol next n low kernel there lent value =
    let count = length-map kernels (λ k. map (core_set index) k.items) in
    ap (map (core_set index)) value ∙ sym (mapped_at (λ k. map (core_set index) k.items) kernels n kernel [] low there)
    ∙ next n (omega (arith, low, count))
