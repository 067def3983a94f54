-- What may come next after lexemes that were fed. Whatever follows them, a run comes to the same stack; so if a sentence begins
-- with them, the run goes on from there to accept, by the next token, or at the end.
use Rattle.std.proofs.Common.{◌≡◌, ◌≢◌, ◌<◌, ◌≤◌, ◌+◌, inl, inr, refl, sym, ap, subst, arith, ℕ, zero, suc, List, [], ◌∷◌, ◌++◌, length, take, slice_get, Option, Some, length-append}
use Rattle.std.proofs.lemmas.List.{append-nil, length-take-le}
use Rattle.std.specs.Option.{option_map_or}
use Rattle.lrpar_grammar.specs.Grammar.{Grammar, end_token}
use Rattle.lrpar_grammar.specs.Sentence.{IsSentence}
use Rattle.lrpar_table_rows.specs.Table.{Table}
use Rattle.lrpar_table_stacks.specs.Expected.{AcceptsAtEnd, IsExpected}
use Rattle.lrpar_table_check.specs.ExpectedRuns.{CheckedTablesEndAtSentences, CompleteTablesExpectSentences, FeedsFront}
use Rattle.lrpar_table_stacks.specs.Path.{NeverSticks}
use Rattle.lrpar_table_stacks.specs.Reduction.{Feeds}
use Rattle.lrpar_table_stacks.specs.Run.{Comes, Far, FarEnd, Accepted, Stopped, accepts, comes_on, goes_on, stays, stops, token_at}
use Rattle.lrpar_table_stacks.proofs.PathLemmas.{never_sticks}
use Rattle.lrpar_table_stacks.proofs.RunLemmas.{HasPath, comes_to_accept, feeds_not_stuck, feeds_one_way, feeds_path, settles_path, token_at_lexeme}
use Rattle.lrpar_table_check.proofs.SentenceLemmas.{complete_tables_take_sentences, front_get, is_taken}

-- over a table that never sticks a token that is fed isn't the end token
fed_apart : (g : Grammar) (table : Table) (t : ℕ) (st ps after : List ℕ) → NeverSticks g table → HasPath table st → Feeds g table t st ps after → t ≢ end_token g
fed_apart g table t st ps after never path feeds =
    let settled = settles_path g table t st ps feeds.settled never path feeds.settles in
    (never.shifts settled.0 feeds.settled t feeds.next settled.1 feeds.shifts).0

module _ {X : Type 0} (token : X → ℕ) (g : Grammar) (table : Table) (lexemes : List X) where
  -- a run feeds no more lexemes than there are
  comes_within : (st : List ℕ) (i : ℕ) (ps after : List ℕ) (j : ℕ) → Comes token g table lexemes st i ps after j → i ≤ length lexemes → j ≤ length lexemes
  comes_within _ _ _ _ _ (stays st i) fits = fits
  comes_within _ _ _ _ _ (comes_on st i ps qs next after j below first rest) fits = comes_within next (i + 1) qs after j rest (omega (arith, below))

  -- and comes to no earlier place than its first
  comes_later : (st : List ℕ) (i : ℕ) (ps after : List ℕ) (j : ℕ) → Comes token g table lexemes st i ps after j → i ≤ j
  comes_later _ _ _ _ _ (stays st i) = omega arith
  comes_later _ _ _ _ _ (comes_on st i ps qs next after j below first rest) =
      let later = comes_later next (i + 1) qs after j rest in omega (arith, later)

  -- over a table that never sticks it keeps the symbols along the stack
  comes_path : NeverSticks g table → (st : List ℕ) (i : ℕ) (ps after : List ℕ) (j : ℕ) → Comes token g table lexemes st i ps after j → HasPath table st
      → HasPath table after
  comes_path never _ _ _ _ _ (stays st i) path = path
  comes_path never _ _ _ _ _ (comes_on st i ps qs next after j below first rest) path =
      comes_path never next (i + 1) qs after j rest (feeds_path g table (token_at token g lexemes i) st ps next never path first)

  -- a run that comes somewhere goes on from there
  far_from : (st : List ℕ) (i : ℕ) (ps mid : List ℕ) (j : ℕ) (qs : List ℕ) (end : FarEnd) → Comes token g table lexemes st i ps mid j
      → Far token g table lexemes st i qs end → (rs : List ℕ) × Far token g table lexemes mid j rs end
  far_from _ _ _ _ _ qs end (stays st i) far = (qs, far)
  far_from _ _ _ _ _ _ _ (comes_on st i ps rs next mid j below first rest) (goes_on st' i' ps' qs next' end below' first' rest') =
      let one = feeds_one_way g table (token_at token g lexemes i) st ps next ps' next' first first' in
      far_from next (i + 1) rs mid j qs end rest (subst (λ (l : List ℕ). Far token g table lexemes l (i + 1) qs end) (sym one.1) rest')
  far_from _ _ _ _ _ _ _ (comes_on st i ps rs next mid j below first rest) (accepts st' i' qs settled at_end settles accepted) =
      absurd (omega (arith, below, at_end))
  far_from _ _ _ _ _ _ _ (comes_on st i ps rs next mid j below first rest) (stops st' i' qs settled fits settles stuck) =
      absurd (feeds_not_stuck token g table lexemes st i ps next qs settled below first settles stuck)

  -- a run that comes to accept feeds the next lexeme
  accepted_next : (st : List ℕ) (i : ℕ) (ps : List ℕ) (end : FarEnd) → Far token g table lexemes st i ps end → end ≡ Accepted → i < length lexemes
      → (qs next : List ℕ) × Feeds g table (token_at token g lexemes i) st qs next
  accepted_next _ _ _ _ (goes_on st i ps qs next end below feeds rest) is within = (ps, next, feeds)
  accepted_next _ _ _ _ (accepts st i ps settled at_end settles accepted) is within = absurd (omega (arith, at_end, within))
  accepted_next _ _ _ _ (stops st i ps settled fits settles stuck) is within =
      let no : Stopped (record { stack = settled; place = i }) ≡ Accepted = is in absurd (let none : ⊥ = cc in none)

  -- or accepts at the end
  accepted_end : (st : List ℕ) (i : ℕ) (ps : List ℕ) (end : FarEnd) → Far token g table lexemes st i ps end → end ≡ Accepted → i ≡ length lexemes
      → AcceptsAtEnd g table st
  accepted_end _ _ _ _ (goes_on st i ps qs next end below feeds rest) is last = absurd (omega (arith, below, last))
  accepted_end _ _ _ _ (accepts st i ps settled at_end settles accepted) is last =
      record { prods = ps; settled = settled; settles = settles; action = accepted }
  accepted_end _ _ _ _ (stops st i ps settled fits settles stuck) is last =
      let no : Stopped (record { stack = settled; place = i }) ≡ Accepted = is in absurd (let none : ⊥ = cc in none)

-- over lexemes with the same tokens before the place to which it comes, a run comes there, too
comes_alike : {X : Type 0} (token : X → ℕ) (g : Grammar) (table : Table) (lexemes others : List X) (n : ℕ) → n ≤ length others
    → ((k : ℕ) → k < n → token_at token g lexemes k ≡ token_at token g others k)
    → (st : List ℕ) (i : ℕ) (ps after : List ℕ) (j : ℕ) → Comes token g table lexemes st i ps after j → j ≤ n → Comes token g table others st i ps after j
comes_alike token g table lexemes others n inside alike _ _ _ _ _ (stays st i) low = stays st i
comes_alike token g table lexemes others n inside alike _ _ _ _ _ (comes_on st i ps qs next after j below first rest) low =
    let later = comes_later token g table lexemes next (i + 1) qs after j rest in
    comes_on st i ps qs next after j (omega (arith, later, low, inside))
    (subst (λ (t : ℕ). Feeds g table t st ps next) (alike i (omega (arith, later, low))) first)
    (comes_alike token g table lexemes others n inside alike next (i + 1) qs after j rest low)

-- what follows a list is after it
get_after : {X : Type 0} (front rest : List X) (x : X) (i : ℕ) → length front ≡ i → slice_get (front ++ x ∷ rest) i ≡ Some x
get_after [] rest x i many = subst (λ (n : ℕ). slice_get (x ∷ rest) n ≡ Some x) many refl
get_after (y ∷ front) rest x zero many = absurd (omega (arith, many))
get_after (y ∷ front) rest x (suc i) many = get_after front rest x i (omega (arith, many))

module _ {X : Type 0} (token : X → ℕ) (g : Grammar) (table : Table) (lexemes : List X) (i : ℕ) (st : List ℕ) (fed : FeedsFront token g table lexemes i st) where
  within : i ≤ length lexemes
  within = comes_within token g table lexemes (table.start ∷ []) 0 fed.0 st i fed.1 (omega arith)

  front_len : length (take i lexemes) ≡ i
  front_len = length-take-le i lexemes within

  -- the lexemes that were fed are fed whatever follows them
  comes_before : (rest : List X) → Comes token g table (take i lexemes ++ rest) (table.start ∷ []) 0 fed.0 st i
  comes_before rest =
      let others = take i lexemes ++ rest in
      let alike = λ (k : ℕ) (low : k < i).
      ap (λ (o : Option X). option_map_or token o (end_token g)) (sym (front_get i k lexemes rest low (omega (arith, low, within)))) in
      comes_alike token g table lexemes others i (omega (arith, front_len, length-append (take i lexemes) rest)) alike (table.start ∷ []) 0 fed.0 st i fed.1
      (omega arith)

  comes_alone : Comes token g table (take i lexemes) (table.start ∷ []) 0 fed.0 st i
  comes_alone = subst (λ (l : List X). Comes token g table l (table.start ∷ []) 0 fed.0 st i) (append-nil (take i lexemes)) (comes_before [])

  -- so lexemes at which the stack accepts at the end are run to the end
  ends_run : (at : AcceptsAtEnd g table st) → Far token g table (take i lexemes) (table.start ∷ []) 0 (fed.0 ++ at.prods) Accepted
  ends_run at =
      comes_to_accept token g table (take i lexemes) (table.start ∷ []) 0 fed.0 st i at.prods at.settled comes_alone (sym front_len) at.settles at.action

  -- if a run over them comes to accept, the stack accepts at the end
  run_ends : (prods : List ℕ) → Far token g table (take i lexemes) (table.start ∷ []) 0 prods Accepted → AcceptsAtEnd g table st
  run_ends prods runs =
      let on = far_from token g table (take i lexemes) (table.start ∷ []) 0 fed.0 st i prods Accepted comes_alone runs in
      accepted_end token g table (take i lexemes) st i on.0 Accepted on.1 refl (sym front_len)

  -- if one over them and more does, the next one is fed
  run_feeds : NeverSticks g table → (x : X) (rest : List X) (prods : List ℕ)
      → Far token g table (take i lexemes ++ x ∷ rest) (table.start ∷ []) 0 prods Accepted → IsExpected g table st (token x)
  run_feeds never x rest prods runs =
      let others = take i lexemes ++ x ∷ rest in
      let on = far_from token g table others (table.start ∷ []) 0 fed.0 st i prods Accepted (comes_before (x ∷ rest)) runs in
      let inside : i < length others = omega (arith, front_len, length-append (take i lexemes) (x ∷ rest)) in
      let next = accepted_next token g table others st i on.0 Accepted on.1 refl inside in
      let is : token_at token g others i ≡ token x = token_at_lexeme token g others i x (get_after (take i lexemes) rest x i front_len) in
      let feeds = subst (λ (t : ℕ). Feeds g table t st next.0 next.1) is next.2 in
      let path = comes_path token g table lexemes never (table.start ∷ []) 0 fed.0 st i fed.1 ([], (refl, tt)) in
      inl (fed_apart g table (token x) st next.0 next.1 never path feeds, (next.0, next.1, feeds))

-- the end token comes next only after sentences
pub checked_tables_end_at_sentences : {X : Type 0} → CheckedTablesEndAtSentences X
checked_tables_end_at_sentences {X} token g graph table formed closed safe lexemes i st fed expected =
    elim expected as (λ _. IsSentence token g (take i lexemes)) [
      | inl other ↦ absurd (other.0 refl)
      | inr ends ↦
          is_taken token g graph table formed closed safe (take i lexemes) (fed.0 ++ ends.1.prods) (ends_run token g table lexemes i st fed ends.1)
    ]

pub complete_tables_expect_sentences : {X : Type 0} → CompleteTablesExpectSentences X
complete_tables_expect_sentences {X} token g graph table formed closed safe complete =
    let runs = complete_tables_take_sentences token g graph table formed closed safe complete in
    let never = never_sticks g graph table closed safe formed in
    record {
      next = λ lexemes i st fed x rest sentence.
          let run = (runs.exact (take i lexemes ++ x ∷ rest)).0 sentence in
          run_feeds token g table lexemes i st fed never x rest run.0 run.1;
      end = λ lexemes i st fed. (
        checked_tables_end_at_sentences token g graph table formed closed safe lexemes i st fed,
        λ sentence.
            let run = (runs.exact (take i lexemes)).0 sentence in
            inr (refl, run_ends token g table lexemes i st fed run.0 run.1),
      );
    }
