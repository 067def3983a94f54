-- Suggestions while they are listed, as the code has them.
use Rattle.std.proofs.Common.{◌+◌, sym, subst, arith, ℕ, List, [], ◌∷◌, ◌++◌, get_or, length, Some, None, Vec}
use Rattle.std.proofs.lemmas.List.{map-append}
use Rattle.std.proofs.lemmas.List.Elements.{Contains-get_or}
use Rattle.lrpar_grammar_places.specs.declared.span.TIdx.{TIdx}
use Rattle.lrpar_table_stacks.specs.Expected.{tokens_of}
use Rattle.lrpar_table_check.specs.Checked.{Checked}
use Rattle.lrpar_table_shared_stacks.specs.SharedStacks.{Shared}
use Rattle.lrpar_parse_suggestions.specs.Listing.{IsAheadOf, IsFrom, ListsSuggestions}
use Rattle.lrpar_parse_suggestions.specs.PlainSuggestions.{AreInOrder, AreSuggestionsOf, HasSuggestionsOf, plain_change, plain_suggestion, plain_suggestions}
use Rattle.lrpar_parse_suggestions.specs.TrialView.{AreNumbersOf, HasNumber, IsTried, ListsAhead, ListsFrom, changes_of, first_place_of, tokens_in}
use Rattle.lrpar_parse_suggestions.specs.declared.change.Change.{Change}
use Rattle.lrpar_parse_suggestions.specs.declared.change.Suggestion.{Suggestion}
use Rattle.lrpar_parse_suggestions.specs.declared.trial.Trials.{Trials}
use Rattle.lrpar_parse_suggestions.proofs.ListingLemmas.{lists_alike, lists_begun, lists_ended, lists_none, lists_with, lists_without}
use Rattle.lrpar_parse_suggestions.proofs.ReachLemmas.{before_fed}

module _ {S : Type 0} (index : S → ℕ) (trials : Trials S) where
  module _ (p k : ℕ) (change : Change S) (numbered : HasNumber index trials k change) (list : List (Suggestion S)) (lists : ListsAhead index trials p k list) where
    -- the change doesn't help
    pub ahead_without : IsTried index trials p change None → ListsAhead index trials p (k + 1) list
    ahead_without none =
        lists_without trials.data.now.grammar trials.data.now.table (tokens_in index trials) trials.place p k (plain_change index change) numbered.0 numbered.1
        (plain_suggestions index list) lists none

    -- its suggestion is appended
    pub ahead_with : (found : Suggestion S) → IsTried index trials p change (Some found) → ListsAhead index trials p (k + 1) (list ++ found ∷ [])
    ahead_with found tried =
        let more =
        lists_with trials.data.now.grammar trials.data.now.table (tokens_in index trials) trials.place p k (plain_change index change) numbered.0 numbered.1
        (plain_suggestions index list) lists (plain_suggestion index found) tried.0 tried.1 tried.2 in
        subst (ListsSuggestions trials.data.now.grammar trials.data.now.table (tokens_in index trials) trials.place (IsAheadOf trials.data.now.grammar p (k + 1)))
        (sym (map-append (plain_suggestion index) list (found ∷ []))) more

  -- a place begins, and ends
  pub ahead_begun : (p : ℕ) (list : List (Suggestion S)) → ListsFrom index trials (p + 1) list → ListsAhead index trials p 0 list
  ahead_begun p list lists =
      lists_begun trials.data.now.grammar trials.data.now.table (tokens_in index trials) trials.place p (plain_suggestions index list) lists

  pub ahead_ended : (p : ℕ) (list : List (Suggestion S)) → ListsAhead index trials p (changes_of trials) list → ListsFrom index trials p list
  ahead_ended p list lists =
      lists_ended trials.data.now.grammar trials.data.now.table (tokens_in index trials) trials.place p (plain_suggestions index list) lists

  -- past the places with a number nothing is suggested
  pub none_past : (stacks : Shared) (numbers : List ℕ) → AreNumbersOf index trials stacks numbers → ListsFrom index trials (first_place_of trials + length numbers) []
  none_past stacks numbers known =
      lists_none trials.data.now.grammar trials.data.now.table (tokens_in index trials) trials.place (IsFrom (first_place_of trials + length numbers)) (λ s is from.
      let fed =
      before_fed trials.data.now.grammar trials.data.now.table (tokens_in index trials) s.place s.change trials.place is.stop is.stack is.comes in
      known.all s.place fed.0 from is.near.before fed.1)

  -- each suggestion is at one of the places that are tried
  pub all_places : (list : List (Suggestion S)) → ListsFrom index trials (first_place_of trials) list → ListsFrom index trials 0 list
  all_places list lists =
      lists_alike trials.data.now.grammar trials.data.now.table (tokens_in index trials) trials.place (IsFrom (first_place_of trials)) (IsFrom 0)
      (plain_suggestions index list) lists (λ s is from. omega arith) (λ s is from. let near = is.near.near in omega (arith, near))

module _ {S A : Type 0} (index : S → ℕ) (d : Checked) (tokens : List (TIdx S)) (place : ℕ) where
  module _ (list : Vec (Suggestion S) A) (lists : ListsSuggestions d.grammar d.table (tokens_of index tokens) place (IsFrom 0) (plain_suggestions index list.items)) where
    -- each entry of the whole list is a suggestion
    pub each_suggested : AreSuggestionsOf index d tokens place list
    each_suggested = λ i s low.
        ((lists.exact (get_or (plain_suggestions index list.items) i s)).0 (Contains-get_or (plain_suggestions index list.items) i s low)).0

    -- each suggestion is there
    pub all_suggested : HasSuggestionsOf index d tokens place list
    all_suggested = λ s is. (lists.exact s).1 (is, omega arith)

    -- and they are in order
    pub in_order : AreInOrder index d.grammar list
    in_order = lists.ordered
