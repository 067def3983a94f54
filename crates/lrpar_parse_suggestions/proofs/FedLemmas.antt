-- Tokens that a run feeds from the start: one more at the end, and the first ones alone. They give one stack.
use Rattle.std.proofs.Common.{◌≡◌, ◌<◌, ◌≤◌, ◌+◌, ◌∙◌, inl, inr, refl, sym, ap, subst, arith, append-nil, ℕ, List, [], ◌∷◌, ◌++◌, length, slice_get, Option, Some, length-append}
use Rattle.std.proofs.Math.Seq.{get_or-append_seam}
use Rattle.std.proofs.lemmas.Bool.{cases_lt}
use Rattle.std.proofs.lemmas.List.{get_or_append_left}
use Rattle.std.proofs.lemmas.Option.{slice_get-get_or}
use Rattle.std.specs.Option.{option_map_or}
use Rattle.lrpar_grammar.specs.Grammar.{Grammar, end_token}
use Rattle.lrpar_table_rows.specs.Table.{Table}
use Rattle.lrpar_table_stacks.specs.Reduction.{Feeds}
use Rattle.lrpar_table_stacks.specs.Run.{Comes, comes_on, stays, token_at}
use Rattle.lrpar_table_stacks.proofs.RunLemmas.{comes_more, feeds_one_way}
use Rattle.lrpar_parse_suggestions.specs.Suggestions.{FeedsTokens}

-- an element of the first list is at its place in both
get_left : (xs ys : List ℕ) (k : ℕ) → k < length xs → slice_get (xs ++ ys) k ≡ slice_get xs k
get_left xs ys k low =
    let longer : k < length (xs ++ ys) = omega (arith, low, length-append xs ys) in
    slice_get-get_or (xs ++ ys) k 0 longer ∙ ap (λ (x : ℕ). Some x) (get_or_append_left xs ys 0 k low) ∙ sym (slice_get-get_or xs k 0 low)

-- what follows the first list comes right after it
get_seam : (xs ys : List ℕ) (t : ℕ) → slice_get (xs ++ t ∷ ys) (length xs) ≡ Some t
get_seam xs ys t =
    let within : length xs < length (xs ++ t ∷ ys) = omega (arith, length-append xs (t ∷ ys)) in
    slice_get-get_or (xs ++ t ∷ ys) (length xs) 0 within ∙ ap (λ (x : ℕ). Some x) (get_or-append_seam xs t ys 0)

module _ (g : Grammar) (table : Table) where
  token_left : (xs ys : List ℕ) (k : ℕ) → k < length xs → token_at (λ (t : ℕ). t) g (xs ++ ys) k ≡ token_at (λ (t : ℕ). t) g xs k
  token_left xs ys k low = ap (λ (o : Option ℕ). option_map_or (λ (t : ℕ). t) o (end_token g)) (get_left xs ys k low)

  token_seam : (xs ys : List ℕ) (t : ℕ) → token_at (λ (t : ℕ). t) g (xs ++ t ∷ ys) (length xs) ≡ t
  token_seam xs ys t = ap (λ (o : Option ℕ). option_map_or (λ (t : ℕ). t) o (end_token g)) (get_seam xs ys t)

  -- a run comes to no earlier place than its first
  comes_later : (xs st : List ℕ) (i : ℕ) (ps after : List ℕ) (j : ℕ) → Comes (λ (t : ℕ). t) g table xs st i ps after j → i ≤ j
  comes_later xs _ _ _ _ _ (stays st i) = omega arith
  comes_later xs _ _ _ _ _ (comes_on st i ps qs next after j below first rest) =
      let later = comes_later xs next (i + 1) qs after j rest in omega (arith, later)

  -- it comes there whatever follows
  comes_longer : (xs ys st : List ℕ) (i : ℕ) (ps after : List ℕ) (j : ℕ) → Comes (λ (t : ℕ). t) g table xs st i ps after j
      → Comes (λ (t : ℕ). t) g table (xs ++ ys) st i ps after j
  comes_longer xs ys _ _ _ _ _ (stays st i) = stays st i
  comes_longer xs ys _ _ _ _ _ (comes_on st i ps qs next after j below first rest) =
      comes_on st i ps qs next after j (omega (arith, below, length-append xs ys))
      (subst (λ (t : ℕ). Feeds g table t st ps next) (sym (token_left xs ys i below)) first)
      (comes_longer xs ys next (i + 1) qs after j rest)

  comes_shorter : (xs ys st : List ℕ) (i : ℕ) (ps after : List ℕ) (j : ℕ) → Comes (λ (t : ℕ). t) g table (xs ++ ys) st i ps after j → j ≤ length xs
      → Comes (λ (t : ℕ). t) g table xs st i ps after j
  comes_shorter xs ys _ _ _ _ _ (stays st i) low = stays st i
  comes_shorter xs ys _ _ _ _ _ (comes_on st i ps qs next after j below first rest) low =
      let later = comes_later (xs ++ ys) next (i + 1) qs after j rest in
      let here : i < length xs = omega (arith, later, low) in
      comes_on st i ps qs next after j here
      (subst (λ (t : ℕ). Feeds g table t st ps next) (token_left xs ys i here) first)
      (comes_shorter xs ys next (i + 1) qs after j rest low)

  -- it gives one stack
  comes_one_way : (xs st : List ℕ) (i : ℕ) (ps a : List ℕ) (j : ℕ) (qs b : List ℕ) (k : ℕ) → Comes (λ (t : ℕ). t) g table xs st i ps a j
      → Comes (λ (t : ℕ). t) g table xs st i qs b k → j ≡ k → a ≡ b
  comes_one_way xs _ _ _ _ _ _ _ _ (stays st i) (stays st' i') same = refl
  comes_one_way xs _ _ _ _ _ _ _ _ (stays st i) (comes_on st' i' ps qs next after j below first rest) same =
      let later = comes_later xs next (i + 1) qs after j rest in absurd (omega (arith, later, same))
  comes_one_way xs _ _ _ _ _ _ _ _ (comes_on st i ps qs next after j below first rest) (stays st' i') same =
      let later = comes_later xs next (i + 1) qs after j rest in absurd (omega (arith, later, same))
  comes_one_way xs _ _ _ _ _ _ _ _ (comes_on st i ps qs next after j below first rest) (comes_on st' i' rs ss other end k below' first' rest') same =
      let one = feeds_one_way g table (token_at (λ (t : ℕ). t) g xs i) st ps next rs other first first' in
      comes_one_way xs next (i + 1) qs after j ss end k rest
      (subst (λ (l : List ℕ). Comes (λ (t : ℕ). t) g table xs l (i + 1) ss end k) (sym one.1) rest') same

  -- a run that comes past place k feeds the token there, to the stack to which it comes before that
  record Passes (xs st : List ℕ) (i k : ℕ) : Type 0 where
    pub before : List ℕ
    pub mid : List ℕ
    pub comes : Comes (λ (t : ℕ). t) g table xs st i before mid k
    pub prods : List ℕ
    pub next : List ℕ
    pub feeds : Feeds g table (token_at (λ (t : ℕ). t) g xs k) mid prods next

  comes_past : (xs st : List ℕ) (i : ℕ) (ps after : List ℕ) (j : ℕ) → Comes (λ (t : ℕ). t) g table xs st i ps after j → (k : ℕ) → i ≤ k → k < j
      → Passes xs st i k
  comes_past xs _ _ _ _ _ (stays st i) k from to = absurd (omega (arith, from, to))
  comes_past xs _ _ _ _ _ (comes_on st i ps qs next after j below first rest) k from to = elim (cases_lt i k) as (λ _. Passes xs st i k) [
    | inl low ↦
        let more = comes_past xs next (i + 1) qs after j rest k (omega (arith, low)) to in
        record {
          before = ps ++ more.before;
          mid = more.mid;
          comes = comes_on st i ps more.before next more.mid k below first more.comes;
          prods = more.prods;
          next = more.next;
          feeds = more.feeds;
        }
    | inr high ↦
        let here : i ≡ k = omega (arith, from, high) in
        subst (λ (n : ℕ). Passes xs st i n) here (record {
          before = [];
          mid = st;
          comes = stays st i;
          prods = ps;
          next = next;
          feeds = first;
        })
  ]

  -- at the start nothing is fed
  pub fed_none : FeedsTokens g table [] (table.start ∷ [])
  fed_none = ([], stays (table.start ∷ []) 0)

  -- one more token is fed
  pub fed_more : (xs mid : List ℕ) (t : ℕ) (qs after : List ℕ) → FeedsTokens g table xs mid → Feeds g table t mid qs after
      → FeedsTokens g table (xs ++ t ∷ []) after
  fed_more xs mid t qs after fed feeds =
      let all = xs ++ t ∷ [] in
      let long : length all ≡ length xs + 1 = length-append xs (t ∷ []) in
      let first = comes_longer xs (t ∷ []) (table.start ∷ []) 0 fed.0 mid (length xs) fed.1 in
      let here = subst (λ (u : ℕ). Feeds g table u mid qs after) (sym (token_seam xs [] t)) feeds in
      let more = comes_more (λ (t : ℕ). t) g table all (table.start ∷ []) 0 fed.0 mid (length xs) qs after first (omega (arith, long)) here in
      (fed.0 ++ qs, subst (λ (n : ℕ). Comes (λ (t : ℕ). t) g table all (table.start ∷ []) 0 (fed.0 ++ qs) after n) (sym long) more)

  -- of tokens that are fed, the first ones are, and then the next one is
  pub record FeedsNext (xs : List ℕ) (t : ℕ) : Type 0 where
    pub mid : List ℕ
    pub fed : FeedsTokens g table xs mid
    pub prods : List ℕ
    pub next : List ℕ
    pub feeds : Feeds g table t mid prods next

  pub fed_next : (xs : List ℕ) (t : ℕ) (ys after : List ℕ) → FeedsTokens g table (xs ++ t ∷ ys) after → FeedsNext xs t
  fed_next xs t ys after fed =
      let all = xs ++ t ∷ ys in
      let start = table.start ∷ [] in
      let long : length xs < length all = omega (arith, length-append xs (t ∷ ys)) in
      let past = comes_past all start 0 fed.0 after (length all) fed.1 (length xs) (omega arith) long in
      record {
        mid = past.mid;
        fed = (past.before, comes_shorter xs (t ∷ ys) start 0 past.before past.mid (length xs) past.comes (omega arith));
        prods = past.prods;
        next = past.next;
        feeds = subst (λ (u : ℕ). Feeds g table u past.mid past.prods past.next) (token_seam xs ys t) past.feeds;
      }

  -- the first ones are fed
  pub fed_first : (xs ys after : List ℕ) → FeedsTokens g table (xs ++ ys) after → (mid : List ℕ) × FeedsTokens g table xs mid
  fed_first xs [] after fed = (after, subst (λ (l : List ℕ). FeedsTokens g table l after) (append-nil xs) fed)
  fed_first xs (t ∷ ys) after fed = let next = fed_next xs t ys after fed in (next.mid, next.fed)

  -- they give one stack
  pub fed_one_way : (xs a b : List ℕ) → FeedsTokens g table xs a → FeedsTokens g table xs b → a ≡ b
  fed_one_way xs a b one other =
      comes_one_way xs (table.start ∷ []) 0 one.0 a (length xs) other.0 b (length xs) one.1 other.1 refl
