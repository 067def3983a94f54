-- Trials of changes: the run over the changed tokens, step by step, and what is known of a change after it.
use Rattle.std.proofs.Common.{◌≡◌, ◌<◌, ◌≤◌, ◌+◌, ◌-◌, ◌∙◌, ◌↔◌, inl, inr, refl, sym, ap, subst, arith, ℕ, Bool, true, false, IsTrue, List, length, take, get_or, slice_get, Some, None}
use Rattle.std.proofs.lemmas.List.{length-map}
use Rattle.std.proofs.lemmas.Option.{same_Some, slice_get-get_or, slice_get-map}
use Rattle.std.specs.Option.{option_map}
use Rattle.lrpar_grammar_places.specs.declared.span.TIdx.{TIdx}
use Rattle.lrpar_grammar.specs.Grammar.{Grammar}
use Rattle.lrpar_table_stacks.specs.Expected.{AcceptsAtEnd}
use Rattle.lrpar_table_shared_stacks.specs.SharedStacks.{Shared, current_stack, stack_at}
use Rattle.lrpar_parse_suggestions.specs.Changed.{PlainChange, PlainDelete, PlainInsert, PlainReplace, IsChangeAt, changed, taken_out}
use Rattle.lrpar_parse_suggestions.specs.PlainSuggestions.{plain_change}
use Rattle.lrpar_parse_suggestions.specs.Suggestions.{CannotFeed, ComesTo, FeedsTokens, PlainSuggestion}
use Rattle.lrpar_parse_suggestions.specs.TrialView.{CanChange, ComesFar, FeedsChange, FeedsToken, HasTokensBefore, IsNearError, IsSuggested, IsTried, TellsAccepts, TellsHelp, last_place_of, place_after, tokens_in}
use Rattle.lrpar_parse_suggestions.specs.declared.change.Change.{Change}
use Rattle.lrpar_parse_suggestions.specs.declared.trial.Trials.{Trials}
use Rattle.lrpar_parse_suggestions.proofs.ReachLemmas.{comes_one_way, fed_here, fed_on, fed_put_in, put_in_stops}

-- a change takes one lexeme out at most, which is there
after_within : (g : Grammar) (tokens : List ℕ) (p : ℕ) (c : PlainChange) → IsChangeAt g tokens p c
    → (p + taken_out c ≤ length tokens) × (taken_out c ≤ 1)
after_within g tokens p PlainDelete can = (omega (arith, can), omega arith)
after_within g tokens p (PlainInsert t) can = (omega (arith, can.0), omega arith)
after_within g tokens p (PlainReplace t) can = (omega (arith, can.0), omega arith)

module _ {S : Type 0} (index : S → ℕ) (trials : Trials S) where
  -- a token of the code in its place
  pub token_there : (at : ℕ) (token : TIdx S) → at < length trials.tokens.now → token ≡ get_or trials.tokens.now at token
      → slice_get (tokens_in index trials) at ≡ Some (index token.0)
  token_there at token low is =
      slice_get-map (λ (t : TIdx S). index t.0) trials.tokens.now at
      ∙ ap (option_map (λ (t : TIdx S). index t.0)) (slice_get-get_or trials.tokens.now at token low ∙ ap (λ (t : TIdx S). Some t) (sym is))

  pub many_tokens : length (tokens_in index trials) ≡ length trials.tokens.now
  many_tokens = length-map trials.tokens.now (λ (t : TIdx S). index t.0)

  module _ (p : ℕ) (change : Change S) where
    -- the tokens before place q, changed, are fed
    abbrev pub IsFedTo : ℕ → List ℕ → Type 0
    IsFedTo q st =
        FeedsTokens trials.data.now.grammar trials.data.now.table (changed (take q (tokens_in index trials)) p (plain_change index change)) st

    -- the first place after the change is followed
    pub after_followed : IsNearError trials p → CanChange index trials p change → place_after index p change ≤ last_place_of trials
    after_followed near can =
        let within = after_within trials.data.now.grammar (tokens_in index trials) p (plain_change index change) can in
        let before = near.before in
        omega (arith, within.0, within.1, many_tokens, before)

    -- one token more is fed
    pub far_more : (at : ℕ) (token : TIdx S) (old new : Shared) → place_after index p change ≤ at → at < length trials.tokens.now
        → token ≡ get_or trials.tokens.now at token → IsFedTo at (current_stack old) → FeedsToken trials (index token.0) old new true
        → IsFedTo (at + 1) (current_stack new)
    far_more at token old new past low is fed feeds =
        fed_on trials.data.now.grammar trials.data.now.table (tokens_in index trials) p (plain_change index change) at (current_stack old) (index token.0) feeds.0
        (current_stack new) past (token_there at token low is) fed feeds.1

    -- it can't be fed
    pub far_stops : (at : ℕ) (token : TIdx S) (old mid new : Shared) → place_after index p change ≤ at → at < last_place_of trials
        → token ≡ get_or trials.tokens.now at token → IsFedTo at (current_stack old) → FeedsToken trials (index token.0) old mid false
        → ComesFar index trials p change new at
    far_stops at token old mid new past low is fed none =
        let inside : at < length trials.tokens.now = omega (arith, low) in
        record {
          stack = current_stack old;
          comes = record {
            after = past;
            followed = omega (arith, low, many_tokens);
            fed = fed;
            stops = λ further t there.
                let same : index token.0 ≡ t = same_Some (index token.0) t (sym (token_there at token inside is) ∙ there) in
                subst (λ (n : ℕ). CannotFeed trials.data.now.grammar trials.data.now.table n (current_stack old)) same none;
          };
          current = λ end. absurd (omega (arith, low, end));
        }

    -- the run is followed no further
    pub far_ends : (q : ℕ) (now : Shared) → place_after index p change ≤ q → q ≡ last_place_of trials → IsFedTo q (current_stack now)
        → ComesFar index trials p change now q
    far_ends q now past end fed = record {
      stack = current_stack now;
      comes = record {
        after = past;
        followed = omega (arith, end, many_tokens);
        fed = fed;
        stops = λ further. absurd (omega (arith, end, many_tokens, further));
      };
      current = λ _. refl;
    }

  -- what the change puts in is fed
  put_in_done : (c : PlainChange) (p : ℕ) (mid new : Shared) → IsChangeAt trials.data.now.grammar (tokens_in index trials) p c
      → FeedsTokens trials.data.now.grammar trials.data.now.table (take p (tokens_in index trials)) (current_stack mid) → FeedsChange trials c mid new true
      → FeedsTokens trials.data.now.grammar trials.data.now.table (changed (take (p + taken_out c) (tokens_in index trials)) p c) (current_stack new)
  put_in_done PlainDelete p mid new can fed puts =
      fed_here trials.data.now.grammar trials.data.now.table (tokens_in index trials) p PlainDelete (current_stack new)
      (after_within trials.data.now.grammar (tokens_in index trials) p PlainDelete can).0 refl
      (subst (FeedsTokens trials.data.now.grammar trials.data.now.table (take p (tokens_in index trials))) (sym puts.1) fed)
  put_in_done (PlainInsert t) p mid new can fed puts =
      fed_put_in trials.data.now.grammar trials.data.now.table (tokens_in index trials) p (PlainInsert t) (current_stack mid) t puts.0 (current_stack new)
      (after_within trials.data.now.grammar (tokens_in index trials) p (PlainInsert t) can).0 refl fed puts.1
  put_in_done (PlainReplace t) p mid new can fed puts =
      fed_put_in trials.data.now.grammar trials.data.now.table (tokens_in index trials) p (PlainReplace t) (current_stack mid) t puts.0 (current_stack new)
      (after_within trials.data.now.grammar (tokens_in index trials) p (PlainReplace t) can).0 refl fed puts.1

  -- it can't be fed
  put_in_not : (c : PlainChange) (p : ℕ) (mid new : Shared)
      → FeedsTokens trials.data.now.grammar trials.data.now.table (take p (tokens_in index trials)) (current_stack mid) → FeedsChange trials c mid new false
      → (q : ℕ) (st : List ℕ) → ¬ (ComesTo trials.data.now.grammar trials.data.now.table (tokens_in index trials) trials.place p c q st)
  put_in_not PlainDelete p mid new fed puts q st comes = let e : false ≡ true = puts.0 in absurd (let none : ⊥ = cc in none)
  put_in_not (PlainInsert t) p mid new fed none q st comes =
      put_in_stops trials.data.now.grammar trials.data.now.table (tokens_in index trials) p (PlainInsert t) trials.place q st comes t (current_stack mid) refl fed none
  put_in_not (PlainReplace t) p mid new fed none q st comes =
      put_in_stops trials.data.now.grammar trials.data.now.table (tokens_in index trials) p (PlainReplace t) trials.place q st comes t (current_stack mid) refl fed none

  module _ (p : ℕ) (change : Change S) where
    -- a suggestion of this change at this place
    module _ (s : PlainSuggestion) (there : s.place ≡ p) (made : s.change ≡ plain_change index change) (is : IsSuggested index trials s) where
      can_there : CanChange index trials p change
      can_there =
          let at_place = subst (λ (n : ℕ). IsChangeAt trials.data.now.grammar (tokens_in index trials) n s.change) there is.can in
          subst (λ (c : PlainChange). IsChangeAt trials.data.now.grammar (tokens_in index trials) p c) made at_place

      comes_there : ComesTo trials.data.now.grammar trials.data.now.table (tokens_in index trials) trials.place p (plain_change index change) is.stop is.stack
      comes_there =
          let at_place =
          subst (λ (n : ℕ). ComesTo trials.data.now.grammar trials.data.now.table (tokens_in index trials) trials.place n s.change is.stop is.stack) there is.comes in
          subst (λ (c : PlainChange). ComesTo trials.data.now.grammar trials.data.now.table (tokens_in index trials) trials.place p c is.stop is.stack) made at_place

    -- the change can't be made
    pub tried_not : ¬ (CanChange index trials p change) → IsTried index trials p change None
    tried_not none s there made is = none (can_there s there made is)

    module _ (old mid : Shared) (from : ℕ) (before : HasTokensBefore index trials old p from) (gone : current_stack mid ≡ stack_at old.stacks from) where
      fed_before : FeedsTokens trials.data.now.grammar trials.data.now.table (take p (tokens_in index trials)) (current_stack mid)
      fed_before = subst (FeedsTokens trials.data.now.grammar trials.data.now.table (take p (tokens_in index trials))) (sym gone) before.fed

      -- what it puts in can't be fed
      pub tried_stops : (new : Shared) → FeedsChange trials (plain_change index change) mid new false → IsTried index trials p change None
      tried_stops new none s there made is = put_in_not (plain_change index change) p mid new fed_before none is.stop is.stack (comes_there s there made is)

      -- it is fed
      pub change_fed : (new : Shared) → CanChange index trials p change → FeedsChange trials (plain_change index change) mid new true
          → IsFedTo p change (place_after index p change) (current_stack new)
      change_fed new can puts = put_in_done (plain_change index change) p mid new can fed_before puts

    module _ (now : Shared) (q : ℕ) (accepts : Bool) (far : ComesFar index trials p change now q) (tells : TellsAccepts trials q now accepts) where
      -- the text is accepted from the stack to which the run comes
      accepts_there : IsTrue accepts ↔ ((q ≡ length (tokens_in index trials)) × AcceptsAtEnd trials.data.now.grammar trials.data.now.table far.stack)
      accepts_there =
          let followed = far.comes.followed in
          let at_last = λ (end : q ≡ length trials.tokens.now).
          let last : q ≡ last_place_of trials = omega (arith, followed, end, many_tokens) in far.current last in
          let Accepts : List ℕ → Type 0 = AcceptsAtEnd trials.data.now.grammar trials.data.now.table in (
            (λ yes_it. let known = tells.0 yes_it in (known.0 ∙ sym many_tokens, subst Accepts (at_last known.0) known.1)),
            (λ known. let end = known.0 ∙ many_tokens in tells.1 (end, subst Accepts (sym (at_last end)) known.1)),
          )

      -- so the change is a suggestion, if it helps
      is_suggested : (reach : ℕ) → reach ≡ q - trials.place → IsNearError trials p → CanChange index trials p change
          → TellsHelp index trials p change q accepts
          → IsSuggested index trials (record { place = p; change = plain_change index change; reach = reach; accepts = accepts })
      is_suggested reach is near can helps = record {
        near = record { before = near.before; near = near.near; within = let within = near.within in omega (arith, within, many_tokens) };
        can = can;
        stop = q;
        stack = far.stack;
        comes = far.comes;
        reach = is;
        accepts = accepts_there;
        helps = helps;
      }

      -- the change helps
      pub tried_helps : (reach : ℕ) → reach ≡ q - trials.place → IsNearError trials p → CanChange index trials p change
          → TellsHelp index trials p change q accepts
          → IsTried index trials p change (Some (record { place = p; change = change; reach = reach; accepts = accepts }))
      tried_helps reach is near can helps = (refl, refl, is_suggested reach is near can helps)

      -- it doesn't
      pub tried_no_help : ¬ (TellsHelp index trials p change q accepts) → IsTried index trials p change None
      tried_no_help none s there made is =
          let comes = comes_there s there made is in
          let same =
          comes_one_way trials.data.now.grammar trials.data.now.table (tokens_in index trials) p (plain_change index change) trials.place is.stop is.stack q far.stack comes
          far.comes in
          let Accepts : List ℕ → Type 0 = AcceptsAtEnd trials.data.now.grammar trials.data.now.table in
          let past : p + taken_out (plain_change index change) ≡ s.place + taken_out s.change =
          ap (λ (n : ℕ). n + taken_out (plain_change index change)) (sym there) ∙ ap (λ (c : PlainChange). s.place + taken_out c) (sym made) in
          none (elim is.helps as (λ _. TellsHelp index trials p change q accepts) [
            | inl yes_it ↦
                let known = is.accepts.0 yes_it in
                inl (accepts_there.1 (sym same.0 ∙ known.0, subst Accepts same.1 known.1))
            | inr (beyond, fed) ↦ inr (omega (arith, beyond, same.0), omega (arith, fed, past, same.0))
          ])
