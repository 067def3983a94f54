-- Trials of changes, as contracts see them. `index` is the number that a storage number represents.
use Rattle.std.specs.Prelude.{◌≡◌, ◌<◌, ◌≤◌, ◌+◌, ◌-◌, ◌*◌, ◌↔◌, ◌⊎◌, ℕ, Bool, true, false, IsTrue, List, [], ◌∷◌, Option, Some, None, length, slice_get, take}
use Rattle.lrpar_grammar_places.specs.declared.span.TIdx.{TIdx}
use Rattle.lrpar_grammar.specs.Grammar.{end_token}
use Rattle.lrpar_table_stacks.specs.Expected.{AcceptsAtEnd, tokens_of}
use Rattle.lrpar_table_stacks.specs.Reduction.{Feeds}
use Rattle.lrpar_table_stacks.specs.Stack.{IsStack}
use Rattle.lrpar_table_shared_stacks.specs.SharedStacks.{Shared, current_stack, stack_at}
use Rattle.lrpar_parse_suggestions.specs.Changed.{PlainChange, PlainDelete, PlainInsert, PlainReplace, IsChangeAt, changed, rank, taken_out}
use Rattle.lrpar_parse_suggestions.specs.Suggestions.{CannotFeed, ComesTo, FeedsTokens, IsNear, IsSuggestion, PlainSuggestion, last_place}
use Rattle.lrpar_parse_suggestions.specs.PlainSuggestions.{plain_change, plain_suggestion, plain_suggestions}
use Rattle.lrpar_parse_suggestions.specs.Listing.{IsAheadOf, IsFrom, ListsSuggestions, PutsInToken}
use Rattle.lrpar_parse_suggestions.specs.declared.change.Change.{Change}
use Rattle.lrpar_parse_suggestions.specs.declared.change.Suggestion.{Suggestion}
use Rattle.lrpar_parse_suggestions.specs.declared.trial.Trials.{Trials}

module _ {S : Type 0} (trials : Trials S) where
  -- the current stack is one of the table
  abbrev pub HasStack : Shared → Type 0
  HasStack stacks = IsStack trials.data.now.table (current_stack stacks)

  -- the current stack is that of the start
  abbrev pub IsAtStart : Shared → Type 0
  IsAtStart stacks = current_stack stacks ≡ trials.data.now.table.start ∷ []

  -- the error is in the text, or at its end
  abbrev pub IsWithinText : Type 0
  IsWithinText = trials.place ≤ length trials.tokens.now

  -- the place is that of the error, or one or two before it
  abbrev pub IsNearError : ℕ → Type 0
  IsNearError p = IsNear (length trials.tokens.now) trials.place p

  -- the first place at which changes are tried
  abbrev pub first_place_of : ℕ
  first_place_of = trials.place - 2

  -- the place up to which a run is followed
  abbrev pub last_place_of : ℕ
  last_place_of = last_place (length trials.tokens.now) trials.place

  -- the number of tokens that may come
  abbrev pub tokens_new : ℕ
  tokens_new = end_token trials.data.now.grammar

  -- the number of changes that are tried at a place
  abbrev pub changes_of : ℕ
  changes_of = 2 * tokens_new + 1

  -- the answer is whether the current stack accepts at the end
  abbrev pub TellsWhetherAccepts : Shared → Bool → Type 0
  TellsWhetherAccepts stacks accepts = IsTrue accepts ↔ AcceptsAtEnd trials.data.now.grammar trials.data.now.table (current_stack stacks)

  -- the answer is whether place q is the end of the text, and the current stack accepts there
  abbrev pub TellsAccepts : ℕ → Shared → Bool → Type 0
  TellsAccepts q stacks accepts =
      IsTrue accepts ↔ ((q ≡ length trials.tokens.now) × AcceptsAtEnd trials.data.now.grammar trials.data.now.table (current_stack stacks))

  -- token t was fed to the current stack, or it can't be fed
  abbrev pub FeedsToken : ℕ → Shared → Shared → Bool → Type 0
  FeedsToken t old new true = (prods : List ℕ) × Feeds trials.data.now.grammar trials.data.now.table t (current_stack old) prods (current_stack new)
  FeedsToken t old new false = CannotFeed trials.data.now.grammar trials.data.now.table t (current_stack old)

  -- what the change puts in was fed to the current stack, or it can't be fed
  abbrev pub FeedsChange : PlainChange → Shared → Shared → Bool → Type 0
  FeedsChange PlainDelete old new fed = IsTrue fed × (current_stack new ≡ current_stack old)
  FeedsChange (PlainInsert t) old new fed = FeedsToken t old new fed
  FeedsChange (PlainReplace t) old new fed = FeedsToken t old new fed

module _ {S : Type 0} (index : S → ℕ) where
  -- the place of the first lexeme after those that the change at place p takes out
  abbrev pub place_after : ℕ → Change S → ℕ
  place_after p change = p + taken_out (plain_change index change)

module _ {S : Type 0} (index : S → ℕ) (trials : Trials S) where
  -- the tokens of the text
  abbrev pub tokens_in : List ℕ
  tokens_in = tokens_of index trials.tokens.now

  -- the run from the start feeds the tokens before place p, which gives this stack
  abbrev pub FeedsBefore : ℕ → List ℕ → Type 0
  FeedsBefore p st = FeedsTokens trials.data.now.grammar trials.data.now.table (take p tokens_in) st

  -- the number is that of the stack to which the run from the start feeds the tokens before place p
  pub record HasTokensBefore (stacks : Shared) (p number : ℕ) : Type 0 where
    pub within : number < length stacks.stacks
    pub stack : IsStack trials.data.now.table (stack_at stacks.stacks number)
    pub fed : FeedsBefore p (stack_at stacks.stacks number)

  -- the numbers are those of the stacks before each place from the first one on that is before place p
  pub record AreNumberedBefore (stacks : Shared) (p : ℕ) (numbers : List ℕ) : Type 0 where
    pub many : length numbers ≡ p - first_place_of trials
    pub each : (i number : ℕ) → slice_get numbers i ≡ Some number → HasTokensBefore stacks (first_place_of trials + i) number

  -- the numbers are those of the stacks before each place from the first one on, as far as tokens can be fed
  pub record AreNumbersOf (stacks : Shared) (numbers : List ℕ) : Type 0 where
    pub few : first_place_of trials + length numbers ≤ trials.place + 1
    pub each : (i number : ℕ) → slice_get numbers i ≡ Some number → HasTokensBefore stacks (first_place_of trials + i) number
    pub all : (p : ℕ) (st : List ℕ) → first_place_of trials + length numbers ≤ p → p ≤ trials.place → ¬ (FeedsBefore p st)

  -- the change can be made at place p
  abbrev pub CanChange : ℕ → Change S → Type 0
  CanChange p change = IsChangeAt trials.data.now.grammar tokens_in p (plain_change index change)

  -- the token is one of the grammar other than the end token
  abbrev pub CanCome : TIdx S → Type 0
  CanCome token = index token.0 < end_token trials.data.now.grammar

  -- the token was fed to the current stack, or it can't be fed
  abbrev pub FeedsNow : TIdx S → Shared → Shared → Bool → Type 0
  FeedsNow token old new fed = FeedsToken trials (index token.0) old new fed

  -- what the change puts in was fed to the current stack, or it can't be fed
  abbrev pub PutsIn : Change S → Shared → Shared → Bool → Type 0
  PutsIn change old new fed = FeedsChange trials (plain_change index change) old new fed

  -- the current stack is that after the change at place p: the run feeds the tokens before p, and what the change puts in
  pub record IsChangedFed (p : ℕ) (change : Change S) (stacks : Shared) : Type 0 where
    pub stack : HasStack trials stacks
    pub fed : FeedsTokens trials.data.now.grammar trials.data.now.table
        (changed (take (place_after index p change) tokens_in) p (plain_change index change)) (current_stack stacks)

  -- the run over the changed tokens comes to place q; if it was followed as far as that goes, the current stack is the one there
  pub record ComesFar (p : ℕ) (change : Change S) (stacks : Shared) (q : ℕ) : Type 0 where
    pub stack : List ℕ
    pub comes : ComesTo trials.data.now.grammar trials.data.now.table tokens_in trials.place p (plain_change index change) q stack
    pub current : q ≡ last_place_of trials → current_stack stacks ≡ stack

  -- the run that comes to place q accepts; or it comes past the error, and feeds a token after the change at place p
  abbrev pub TellsHelp : ℕ → Change S → ℕ → Bool → Type 0
  TellsHelp p change q accepts = IsTrue accepts ⊎ ((trials.place < q) × (place_after index p change < q))

  -- the suggestion is one for the error of the trials
  abbrev pub IsSuggested : PlainSuggestion → Type 0
  IsSuggested s = IsSuggestion trials.data.now.grammar trials.data.now.table tokens_in trials.place s

  -- what was found is the suggestion to make the change at place p; or there is none
  abbrev pub IsTried : ℕ → Change S → Option (Suggestion S) → Type 0
  IsTried p change None = (s : PlainSuggestion) → s.place ≡ p → s.change ≡ plain_change index change → ¬ (IsSuggested s)
  IsTried p change (Some found) =
      (found.place ≡ p) × (plain_change index found.change ≡ plain_change index change) × IsSuggested (plain_suggestion index found)

  -- the change has this number, and puts in no end token
  abbrev pub HasNumber : ℕ → Change S → Type 0
  HasNumber number change =
      (rank trials.data.now.grammar (plain_change index change) ≡ number) × PutsInToken trials.data.now.grammar (plain_change index change)

  -- the list has exactly the suggestions that have P, in order
  abbrev pub ListsThose : (PlainSuggestion → Type 0) → List (Suggestion S) → Type 0
  ListsThose P list = ListsSuggestions trials.data.now.grammar trials.data.now.table tokens_in trials.place P (plain_suggestions index list)

  -- the list has exactly the suggestions after place p, and those of the changes there that have a number below k, in order
  abbrev pub ListsAhead : ℕ → ℕ → List (Suggestion S) → Type 0
  ListsAhead p k list = ListsThose (IsAheadOf trials.data.now.grammar p k) list

  -- the list has exactly the suggestions from place p on, in order
  abbrev pub ListsFrom : ℕ → List (Suggestion S) → Type 0
  ListsFrom p list = ListsThose (IsFrom p) list
