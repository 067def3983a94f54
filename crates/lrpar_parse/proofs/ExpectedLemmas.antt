-- What may come next after the lexemes of a lexer: the lexemes are fed one by one, as far as they can be, and the result is the one for
-- these.
use Rattle.std.proofs.Common.{◌≡◌, ◌≢◌, ◌<◌, ◌≤◌, ◌+◌, ◌∙◌, ℕ, List, [], ◌∷◌, ◌++◌, map, length, get_or, slice_get, take, append-nil, append_assoc, Bool, true, false, Some, None, Result, Ok, Err, refl, sym, ap, subst, arith}
use Rattle.std.proofs.lemmas.List.{length-take-le, map-append, take_all, take-append-le, take-map, take_more}
use Rattle.std.proofs.lemmas.Option.{get_or_from_slice_get, slice_get_read, slice_get_within}
use Rattle.lrpar_grammar.specs.Grammar.{Grammar, end_token, tokens_len}
use Rattle.lrpar_grammar.specs.Sentence.{LexemeFacts, IsFirstBadToken, IsFirstEarlyStart, IsValidList}
use Rattle.lrpar_table_rows.specs.Table.{Table, ShiftTo}
use Rattle.lrpar_table_check.specs.Checked.{Checked, IsChecked}
use Rattle.lrpar_table_stacks.specs.Expected.{AreExpected, tokens_of}
use Rattle.lrpar_table_check.specs.ExpectedRuns.{FeedsFront}
use Rattle.lrpar_table_stacks.specs.Reduction.{Feeds, top_action}
use Rattle.lrpar_table_stacks.specs.Run.{stays, token_at}
use Rattle.lrpar_table_stacks.specs.Overlay.{FeedsOver, IsFedOver, Overlaid, overlaid}
use Rattle.lrpar_table_stacks.specs.Stack.{IsStack}
use Rattle.lrpar_table_check.proofs.ExpectedRunLemmas.{checked_tables_end_at_sentences, complete_tables_expect_sentences}
use Rattle.lrpar_table_stacks.proofs.Reductions.{settles_one_way}
use Rattle.lrpar_table_stacks.proofs.RunLemmas.{comes_more, token_at_lexeme}
use Rattle.lrpar_parse.specs.ExpectedAnswer.{ComesFurthest, FeedsOrStays, FeedsTo, IsExpectedAfter, IsExpectedAnswer}
use Rattle.lrpar_parse.specs.Lexed.{first_error, lexemes_of}
use Rattle.lrpar_parse.specs.LexemeFault.{IsLexemeFault}
use Rattle.lrpar_parse.specs.Parse.{lexeme_facts}
use Rattle.lrpar_parse.specs.declared.expected.Expected.{Expected}
use Rattle.lrpar_parse.specs.declared.fault.ParseFault.{ParseFault}
use Rattle.lrpar_parse.specs.declared.fault.ParseFault.TheVariants.{BadToken, StartsDecrease}
use Rattle.lrpar_parse_repair.proofs.TokenLemmas.{good_token}
use Rattle.lrpar_parse.proofs.LexemeLemmas.{valid_not_bad, valid_not_early}
use Rattle.lrpar_parse.proofs.ParseLemmas.{ok_not_err, same_fault, same_some}

-- a lexeme of a valid list has a token of a checked table, which isn't the end token
pub known_token : {X : Type 0} (facts : X → LexemeFacts) (d : Checked) → IsChecked d → (lexemes : List X) → IsValidList d.grammar (map facts lexemes)
    → (i : ℕ) (x : X) → i < length lexemes → x ≡ get_or lexemes i x
    → (slice_get lexemes i ≡ Some x) × ((facts x).token < d.table.tokens) × ((facts x).token ≢ end_token d.grammar)
known_token facts d checked lexemes valid i x below read =
    let at = slice_get_read lexemes (length lexemes) i x refl below read in
    let good = good_token facts d.grammar lexemes i x valid at in
    let all : d.table.tokens ≡ tokens_len d.grammar = checked.safe.shape.tokens in
    (at, omega (arith, good, all), λ e. omega (arith, good, e))

-- the states that are copied so far are those of the overlay from the kept ones on
pub copied_none : (base tail above : List ℕ) (kept at : ℕ) → kept ≤ length base → at ≡ kept → above ≡ []
    → take kept base ++ above ≡ take at (take kept base ++ tail)
copied_none base tail above kept at within is none =
    let front = take kept base in
    let count : length front ≡ kept = length-take-le kept base within in
    let room : kept ≤ length front = omega (arith, count) in
    ap (λ s. front ++ s) none ∙ append-nil front ∙ sym (take_all kept front (omega (arith, count))) ∙ sym (take-append-le kept front tail room)
    ∙ ap (λ n. take n (front ++ tail)) (sym is)

pub copied_more : (s front above more : List ℕ) (at v : ℕ) → front ++ above ≡ take at s → more ≡ above ++ v ∷ [] → slice_get s at ≡ Some v
    → front ++ more ≡ take (at + 1) s
copied_more s front above more at v before put is =
    let inside : at < length s = slice_get_within s at v is in
    ap (λ a. front ++ a) put ∙ sym (append_assoc front above (v ∷ [])) ∙ ap (λ a. a ++ v ∷ []) before
    ∙ ap (λ w. take at s ++ w ∷ []) (sym (get_or_from_slice_get s at v v is)) ∙ sym (take_more s at v inside)

-- the overlay that was fed has the states that were kept and those above them
pub fed_above : (g : Grammar) (table : Table) (t : ℕ) (old new : Overlaid) (st above : List ℕ) (kept : ℕ) → old.base ≡ st → overlaid old ≡ st
    → IsStack table (overlaid new) → FeedsOver g table t old new → take new.kept new.base ++ above ≡ overlaid new → kept ≡ new.kept
    → FeedsTo g table t st (Some kept) above
fed_above g table t old new st above kept base states stack fed copied is =
    let whole : take kept st ++ above ≡ overlaid new =
    ap (λ n. take n st ++ above) is ∙ ap (λ b. take new.kept b ++ above) (sym (fed.keeps.base ∙ base)) ∙ copied in
    let feeds : Feeds g table t st fed.prods (overlaid new) = subst (λ s. Feeds g table t s fed.prods (overlaid new)) states fed.states in (
      subst (IsStack table) (sym whole) stack,
      (fed.prods, subst (λ s. Feeds g table t st fed.prods s) (sym whole) feeds),
    )

-- a token under which the settled stack has no shift isn't fed
pub not_fed : (g : Grammar) (table : Table) (cap t : ℕ) (old new : Overlaid) (st above : List ℕ) → overlaid old ≡ st → IsFedOver g table cap t old false new
    → FeedsTo g table t st None above
not_fed g table cap t old new st above states fed = λ prods next feeds.
    let by = fed.0.1.states in
    let at = subst (λ s. Feeds g table t s prods next) (sym states) feeds in
    let same = settles_one_way g table t (overlaid old) prods by.prods at.settled (overlaid new) at.settles by.settles in
    absurd (fed.1 at.next (subst (λ (l : List ℕ). top_action table t l ≡ ShiftTo at.next) same.1 at.shifts))

-- the list of states is that of the stack that was fed
pub fed_list : {A : Type 0} (number : A → ℕ) (g : Grammar) (table : Table) (t : ℕ) (old cut new above : List A) (kept : ℕ) → cut ≡ take kept old
    → new ≡ cut ++ above → FeedsTo g table t (map number old) (Some kept) (map number above)
    → FeedsOrStays g table t (map number old) true (map number new)
fed_list number g table t old cut new above kept cuts adds fed =
    let whole : take kept (map number old) ++ map number above ≡ map number new =
    ap (λ s. s ++ map number above) (take-map number kept old ∙ ap (map number) (sym cuts)) ∙ sym (map-append number cut above) ∙ ap (map number) (sym adds) in (
      subst (IsStack table) whole fed.0,
      (fed.1.0, subst (λ s. Feeds g table t (map number old) fed.1.0 s) whole fed.1.1),
    )

module _ {X : Type 0} (token : X → ℕ) (d : Checked) (lexemes : List X) where
  -- none is fed at the start
  pub fed_none : FeedsFront token d.grammar d.table lexemes 0 (d.table.start ∷ [])
  fed_none = ([], stays (d.table.start ∷ []) 0)

  module _ (i : ℕ) (st : List ℕ) (fed : FeedsFront token d.grammar d.table lexemes i st) where
    -- all are fed
    pub fed_all : i ≡ length lexemes → ComesFurthest token d lexemes i st
    fed_all all = record { fed = fed; within = omega (arith, all); furthest = λ below. absurd (omega (arith, all, below)) }

    module _ (x : X) (at : slice_get lexemes i ≡ Some x) (apart : token x ≢ end_token d.grammar) where
      here : token_at token d.grammar lexemes i ≡ token x
      here = token_at_lexeme token d.grammar lexemes i x at

      module _ (t : ℕ) (is : t ≡ token x) (yes : Bool) (after : List ℕ) (answered : FeedsOrStays d.grammar d.table t st yes after) where
        -- one more is fed
        fed_more : yes ≡ true → IsStack d.table after × FeedsFront token d.grammar d.table lexemes (i + 1) after
        fed_more holds =
            let by = subst (λ (b : Bool). FeedsOrStays d.grammar d.table t st b after) holds answered in
            let next = subst (λ (u : ℕ). Feeds d.grammar d.table u st by.1.0 after) (is ∙ sym here) by.1.1 in (
              by.0,
              (
                fed.0 ++ by.1.0,
                comes_more token d.grammar d.table lexemes (d.table.start ∷ []) 0 fed.0 st i by.1.0 after fed.1 (slice_get_within lexemes i x at) next,
              ),
            )

        -- or it can't be, and the stack stays
        fed_stops : yes ≡ false → (after ≡ st) × ComesFurthest token d lexemes i after
        fed_stops fails =
            let by = subst (λ (b : Bool). FeedsOrStays d.grammar d.table t st b after) fails answered in
            let below = slice_get_within lexemes i x at in
            let here_stops : ComesFurthest token d lexemes i st =
            record {
              fed = fed;
              within = omega (arith, below);
              furthest = λ _ prods next feeds. by.1 prods next (subst (λ (u : ℕ). Feeds d.grammar d.table u st prods next) (here ∙ sym is) feeds);
            } in
            (by.0, subst (λ (s : List ℕ). ComesFurthest token d lexemes i s) (sym by.0) here_stops)

  -- what may come next after the lexemes that are fed
  pub expected_after : IsChecked d → (place : ℕ) (st tokens : List ℕ) → ComesFurthest token d lexemes place st → AreExpected d.grammar d.table st tokens
      → IsExpectedAfter token d lexemes place tokens
  expected_after checked place st tokens comes expected =
      let end = expected.exact (end_token d.grammar) in
      record {
        stack = st;
        comes = comes;
        expected = expected;
        sentence = λ there.
            checked_tables_end_at_sentences token d.grammar d.graph d.table checked.well_formed checked.closed checked.safe lexemes place st comes.fed
            (end.0 there);
        complete = λ complete.
            let all = complete_tables_expect_sentences token d.grammar d.graph d.table checked.well_formed checked.closed checked.safe complete in
            let ends = all.end lexemes place st comes.fed in
            record {
              next = λ x rest sentence. (expected.exact (token x)).1 (all.next lexemes place st comes.fed x rest sentence);
              end = (λ there. ends.0 (end.0 there), λ sentence. end.1 (ends.1 sentence));
            };
      }

-- a lexeme of a valid list, whose token was fed if the answer is `true`
module _ {X : Type 0} (facts : X → LexemeFacts) (d : Checked) (checked : IsChecked d) (lexemes : List X) (valid : IsValidList d.grammar (map facts lexemes)) (i : ℕ) (st : List ℕ)
    (fed : FeedsFront (λ x. (facts x).token) d.grammar d.table lexemes i st) (x : X) (below : i < length lexemes) (read : x ≡ get_or lexemes i x)
    (t : ℕ) (is : t ≡ (facts x).token) (yes : Bool) (after : List ℕ) (answered : FeedsOrStays d.grammar d.table t st yes after) where
  pub lexeme_fed : yes ≡ true → IsStack d.table after × FeedsFront (λ y. (facts y).token) d.grammar d.table lexemes (i + 1) after
  lexeme_fed =
      let known = known_token facts d checked lexemes valid i x below read in
      fed_more (λ y. (facts y).token) d lexemes i st fed x known.0 known.2 t is yes after answered

  pub lexeme_stops : yes ≡ false → (after ≡ st) × ComesFurthest (λ y. (facts y).token) d lexemes i after
  lexeme_stops =
      let known = known_token facts d checked lexemes valid i x below read in
      fed_stops (λ y. (facts y).token) d lexemes i st fed x known.0 known.2 t is yes after answered

module _ {S X E : Type 0} (index : S → ℕ) (facts : X → LexemeFacts) (d : Checked) (lexed : List (Result X E)) (lexemes : List X) (are : lexemes ≡ lexemes_of lexed) where
  facts_are : map facts lexemes ≡ lexeme_facts facts lexed
  facts_are = ap (map facts) are

  -- a fault of a lexeme is returned
  pub fault_is_answer : (fault : ParseFault) → IsLexemeFault d.grammar (map facts lexemes) (Some fault) → IsExpectedAnswer index facts d lexed (Err fault)
  fault_is_answer fault is = record {
    answer = tt;
    bad_token = λ i. (
      λ e. subst (λ w. IsFirstBadToken d.grammar w i) facts_are ((is.bad_token i).0 (ap Some (same_fault fault (BadToken i) e))),
      λ h. ap Err (same_some fault (BadToken i) ((is.bad_token i).1 (subst (λ w. IsFirstBadToken d.grammar w i) (sym facts_are) h))),
    );
    starts_decrease = λ i. (
      λ e. subst (λ w. IsFirstEarlyStart d.grammar w i) facts_are ((is.starts_decrease i).0 (ap Some (same_fault fault (StartsDecrease i) e))),
      λ h. ap Err (same_some fault (StartsDecrease i) ((is.starts_decrease i).1 (subst (λ w. IsFirstEarlyStart d.grammar w i) (sym facts_are) h))),
    );
  }

  -- what may come next after valid lexemes
  pub after_is_answer : (e : Expected S E) → e.lexing_error ≡ first_error lexed → IsLexemeFault d.grammar (map facts lexemes) None
      → IsExpectedAfter (λ x. (facts x).token) d lexemes e.place (tokens_of index e.tokens.items) → IsExpectedAnswer index facts d lexed (Ok e)
  after_is_answer e error is after =
      let valid = is.none.0 refl in
      record {
        answer = (error, subst (λ (xs : List X). IsExpectedAfter (λ x. (facts x).token) d xs e.place (tokens_of index e.tokens.items)) are after);
        bad_token = λ i. (
          λ no. absurd (ok_not_err e (BadToken i) no),
          λ h. absurd (valid_not_bad d.grammar (map facts lexemes) i valid (subst (λ w. IsFirstBadToken d.grammar w i) (sym facts_are) h)),
        );
        starts_decrease = λ i. (
          λ no. absurd (ok_not_err e (StartsDecrease i) no),
          λ h. absurd (valid_not_early d.grammar (map facts lexemes) i valid (subst (λ w. IsFirstEarlyStart d.grammar w i) (sym facts_are) h)),
        );
      }
