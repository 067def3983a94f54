-- The stacks before the places that are tried: each has its number, as far as tokens can be fed.
use Rattle.std.proofs.Common.{◌≡◌, ◌<◌, ◌≤◌, ◌+◌, ◌-◌, ◌∙◌, inl, inr, refl, sym, ap, subst, arith, ℕ, true, false, List, [], ◌∷◌, ◌++◌, drop, length, take, get_or, slice_get, Some, length-append}
use Rattle.std.proofs.Math.Seq.{get_or-append_seam}
use Rattle.std.proofs.lemmas.Bool.{cases_lt}
use Rattle.std.proofs.lemmas.List.{get_or_append_left}
use Rattle.std.proofs.lemmas.Option.{get_or_from_slice_get, slice_get-get_or, slice_get_within}
use Rattle.lrpar_grammar_places.specs.declared.span.TIdx.{TIdx}
use Rattle.lrpar_table_stacks.specs.Reduction.{Feeds}
use Rattle.lrpar_table_stacks.specs.Stack.{IsStack}
use Rattle.lrpar_table_shared_stacks.specs.SharedStacks.{Extends, IsNumberOf, Shared, current_stack}
use Rattle.lrpar_table_shared_stacks.proofs.SharedStacksLemmas.{extends_keeps}
use Rattle.lrpar_parse_suggestions.specs.Suggestions.{FeedsTokens}
use Rattle.lrpar_parse_suggestions.specs.TrialView.{AreNumberedBefore, AreNumbersOf, FeedsBefore, FeedsToken, HasStack, HasTokensBefore, IsWithinText, first_place_of, tokens_in}
use Rattle.lrpar_parse_suggestions.specs.declared.trial.Trials.{Trials}
use Rattle.lrpar_parse_suggestions.proofs.ChangedLemmas.{next_there, take_on}
use Rattle.lrpar_parse_suggestions.proofs.FedLemmas.{fed_more, fed_next, fed_none, fed_one_way}
use Rattle.lrpar_parse_suggestions.proofs.TrialLemmas.{many_tokens, token_there}
use Rattle.std.proofs.lemmas.List.{take_more}

module _ {S : Type 0} (index : S → ℕ) (trials : Trials S) where
  -- a number means what it meant
  pub kept : (old new : Shared) → Extends old new → (p number : ℕ) → HasTokensBefore index trials old p number → HasTokensBefore index trials new p number
  kept old new extends p number held =
      let keeps = extends_keeps old new extends number held.within in
      record {
        within = keeps.0;
        stack = subst (IsStack trials.data.now.table) (sym keeps.1) held.stack;
        fed = subst (FeedsBefore index trials p) (sym keeps.1) held.fed;
      }

  pub numbered_kept : (old new : Shared) → Extends old new → (p : ℕ) (numbers : List ℕ) → AreNumberedBefore index trials old p numbers
      → AreNumberedBefore index trials new p numbers
  numbered_kept old new extends p numbers before = record {
    many = before.many;
    each = λ i number at. kept old new extends (first_place_of trials + i) number (before.each i number at);
  }

  -- nothing is fed at the start
  pub starts : (st : List ℕ) → st ≡ trials.data.now.table.start ∷ [] → FeedsBefore index trials 0 st
  starts st is =
      subst (FeedsTokens trials.data.now.grammar trials.data.now.table []) (sym is) (fed_none trials.data.now.grammar trials.data.now.table)

  pub start_stack : (st : List ℕ) → st ≡ trials.data.now.table.start ∷ [] → IsStack trials.data.now.table st
  start_stack st is = subst (IsStack trials.data.now.table) (sym is) (refl, tt)

  -- nothing is numbered at the start
  pub none_numbered : (stacks : Shared) → AreNumberedBefore index trials stacks 0 []
  none_numbered stacks = record {
    many = omega arith;
    each = λ i number at. absurd (omega (arith, slice_get_within [] i number at));
  }

  -- the stack of a place that isn't tried has no number
  pub numbered_skipped : (stacks : Shared) (p : ℕ) (numbers : List ℕ) → p < first_place_of trials → AreNumberedBefore index trials stacks p numbers
      → AreNumberedBefore index trials stacks (p + 1) numbers
  numbered_skipped stacks p numbers low before = record { many = let many = before.many in omega (arith, many, low); each = before.each }

  -- the stack of one that is has one
  pub numbered_more : (old new : Shared) (p number : ℕ) (numbers : List ℕ) → first_place_of trials ≤ p → Extends old new
      → IsNumberOf (current_stack old) new.stacks number → HasStack trials old → FeedsBefore index trials p (current_stack old)
      → AreNumberedBefore index trials old p numbers → AreNumberedBefore index trials new (p + 1) (numbers ++ number ∷ [])
  numbered_more old new p number numbers tried extends is stack fed before =
      let many : length numbers ≡ p - first_place_of trials = before.many in
      let here : first_place_of trials + length numbers ≡ p = omega (arith, many, tried) in
      record {
        many = omega (arith, many, tried, length-append numbers (number ∷ []));
        each = λ i n at. elim (cases_lt i (length numbers)) as (λ _. HasTokensBefore index trials new (first_place_of trials + i) n) [
          | inl low ↦
              let same : slice_get numbers i ≡ Some n =
              slice_get-get_or numbers i n low ∙ ap (λ (m : ℕ). Some m) (sym (get_or_append_left numbers (number ∷ []) n i low) ∙ get_or_from_slice_get (numbers ++ number ∷ []) i n n at) in
              kept old new extends (first_place_of trials + i) n (before.each i n same)
          | inr high ↦
              let inside = slice_get_within (numbers ++ number ∷ []) i n at in
              let last : length numbers ≡ i = omega (arith, high, inside, length-append numbers (number ∷ [])) in
              let read : number ≡ n =
              sym (get_or-append_seam numbers number [] n) ∙ ap (λ (k : ℕ). get_or (numbers ++ number ∷ []) k n) last
              ∙ get_or_from_slice_get (numbers ++ number ∷ []) i n n at in
              let there : p ≡ first_place_of trials + i = sym here ∙ ap (λ (k : ℕ). first_place_of trials + k) last in
              let held : HasTokensBefore index trials new p number = record {
                within = is.within;
                stack = subst (IsStack trials.data.now.table) (sym is.means) stack;
                fed = subst (FeedsBefore index trials p) (sym is.means) fed;
              } in
              subst (λ (k : ℕ). HasTokensBefore index trials new k n) there (subst (λ (m : ℕ). HasTokensBefore index trials new p m) read held)
        ];
      }

  module _ (p : ℕ) (token : TIdx S) (old mid : Shared) (low : p < length trials.tokens.now) (is : token ≡ get_or trials.tokens.now p token)
      (fed : FeedsBefore index trials p (current_stack old)) where
    at_place : slice_get (tokens_in index trials) p ≡ Some (index token.0)
    at_place = token_there index trials p token low is

    -- the token there is fed
    pub before_more : FeedsToken trials (index token.0) old mid true → FeedsBefore index trials (p + 1) (current_stack mid)
    before_more feeds =
        let within = slice_get_within (tokens_in index trials) p (index token.0) at_place in
        let more : take (p + 1) (tokens_in index trials) ≡ take p (tokens_in index trials) ++ index token.0 ∷ [] =
        take_more (tokens_in index trials) p 0 within
        ∙ ap (λ (n : ℕ). take p (tokens_in index trials) ++ n ∷ []) (get_or_from_slice_get (tokens_in index trials) p (index token.0) 0 at_place) in
        subst (λ (l : List ℕ). FeedsTokens trials.data.now.grammar trials.data.now.table l (current_stack mid)) (sym more)
        (fed_more trials.data.now.grammar trials.data.now.table (take p (tokens_in index trials)) (current_stack old) (index token.0) feeds.0 (current_stack mid) fed feeds.1)

    -- it can't be, so nothing is fed before a later place
    pub stops_before : FeedsToken trials (index token.0) old mid false → (r : ℕ) (st : List ℕ) → p < r → r ≤ length trials.tokens.now
        → ¬ (FeedsBefore index trials r st)
    stops_before none r st later inside all =
        let tokens = tokens_in index trials in
        let t = index token.0 in
        let within : r ≤ length tokens = omega (arith, inside, many_tokens index trials) in
        let on = take_on p r tokens (omega (arith, later)) within in
        let more = ap (λ (l : List ℕ). take p tokens ++ l) (next_there tokens p r t later within at_place) in
        let next =
        fed_next trials.data.now.grammar trials.data.now.table (take p tokens) t (drop (p + 1) (take r tokens)) st
        (subst (λ (l : List ℕ). FeedsTokens trials.data.now.grammar trials.data.now.table l st) (on ∙ more) all) in
        let same = fed_one_way trials.data.now.grammar trials.data.now.table (take p tokens) next.mid (current_stack old) next.fed fed in
        none next.prods next.next
        (subst (λ (l : List ℕ). Feeds trials.data.now.grammar trials.data.now.table t l next.prods next.next) same next.feeds)

  -- the numbers, if tokens can be fed up to place p only
  pub numbers_stop : (old new : Shared) (p : ℕ) (numbers : List ℕ) → p < trials.place → IsWithinText trials → Extends old new
      → AreNumberedBefore index trials old (p + 1) numbers
      → ((r : ℕ) (st : List ℕ) → p < r → r ≤ length trials.tokens.now → ¬ (FeedsBefore index trials r st)) → AreNumbersOf index trials new numbers
  numbers_stop old new p numbers low text extends before none =
      let many : length numbers ≡ p + 1 - first_place_of trials = before.many in
      record {
        few = omega (arith, many, low);
        each = λ i number at. kept old new extends (first_place_of trials + i) number (before.each i number at);
        all = λ r st from to. none r st (omega (arith, from, many)) (omega (arith, to, text));
      }

  -- and if they can be fed up to the error
  pub numbers_end : (stacks : Shared) (numbers : List ℕ) → AreNumberedBefore index trials stacks (trials.place + 1) numbers → AreNumbersOf index trials stacks numbers
  numbers_end stacks numbers before =
      let many : length numbers ≡ trials.place + 1 - first_place_of trials = before.many in
      record {
        few = omega (arith, many);
        each = before.each;
        all = λ r st from to. absurd (omega (arith, from, to, many));
      }
