-- The search for tokens that finish a stack, as contracts see it. `index` is the number that a storage number represents.
use Rattle.std.specs.Prelude.{◌≡◌, ◌<◌, ℕ, Bool, List, Option, Some, Vec, slice_get}
use Rattle.std.below.core.specs.declared.int.usize.TheConstants.{MAX}
use Rattle.lrpar_grammar_places.specs.declared.span.StIdx.{StIdx}
use Rattle.lrpar_grammar_places.specs.declared.span.TIdx.{TIdx}
use Rattle.lrpar_grammar.specs.Grammar.{end_token}
use Rattle.lrpar_table_check.specs.CheckedStacks.{FormStack}
use Rattle.lrpar_table_pops.specs.Completable.{AreAllCompletable}
use Rattle.lrpar_table_sentences.specs.Choices.{AreShortest}
use Rattle.lrpar_table_stacks.specs.Expected.{AcceptsAtEnd, tokens_of}
use Rattle.lrpar_table_stacks.specs.Reduction.{Feeds}
use Rattle.lrpar_table_stacks.specs.Stack.{states_of}
use Rattle.lrpar_parse_completion.specs.Reached.{AddsReached, Finishes, FinishesAfter, HasReached, IsReached, ReachedOf, all_reached, reached_of}
use Rattle.lrpar_parse_completion.specs.Trying.{IsInserted}
use Rattle.lrpar_parse_completion.specs.declared.finder.Finder.{Finder}
use Rattle.lrpar_parse_completion.specs.declared.finder.Reached.{Reached}

-- the minimal sentences are those of the grammar's rules
abbrev pub HasShortest : {S : Type 0} → Finder S → Type 0
HasShortest finder = AreShortest finder.checked.now.grammar MAX finder.shortest.now

-- each stack of the table can be completed
abbrev pub AllCanFinish : {S : Type 0} → Finder S → Type 0
AllCanFinish finder = AreAllCompletable finder.checked.now.grammar finder.checked.now.table

module _ {S : Type 0} (index : S → ℕ) (finder : Finder S) where
  -- these states are a stack of the table
  abbrev pub HasStates : List (StIdx S) → Type 0
  HasStates states = FormStack index finder.checked.now states

  -- the stack is one of the table
  abbrev pub HasStackOf : Reached S → Type 0
  HasStackOf reached = HasStates reached.stack.items

  -- each of these stacks is one of the table
  abbrev pub AreStacksOf : List (Reached S) → Type 0
  AreStacksOf found = (i : ℕ) (reached : Reached S) → slice_get found i ≡ Some reached → HasStackOf reached

  -- the stack accepts at the end token
  abbrev pub AcceptsStates : List (StIdx S) → Type 0
  AcceptsStates states = AcceptsAtEnd finder.checked.now.grammar finder.checked.now.table (states_of index states)

  -- the token was fed; or it isn't one that can be inserted
  abbrev pub InsertsOne : {A : Type 0} → TIdx S → Vec (StIdx S) A → Vec (StIdx S) A → Bool → Type 0
  InsertsOne token old new fed =
      IsInserted finder.checked.now.grammar finder.checked.now.table (index token.0) (states_of index old.items) (states_of index new.items) fed

  -- the tokens finish the stack
  abbrev pub FindsFinish : List (StIdx S) → List (TIdx S) → Type 0
  FindsFinish states tokens = Finishes finder.checked.now.grammar finder.checked.now.table (states_of index states) (tokens_of index tokens)

  -- the tokens finish each stack from which this one is reached
  abbrev pub FindsBy : {A : Type 0} → Reached S → Vec (TIdx S) A → Type 0
  FindsBy reached tokens =
      (st : List ℕ) → IsReached finder.checked.now.grammar finder.checked.now.table st (reached_of index reached)
      → Finishes finder.checked.now.grammar finder.checked.now.table st (tokens_of index tokens.items)

  -- the tokens that were found, if any were, finish each stack from which this one is reached; if none were, this one doesn't accept
  abbrev pub FindsAfter : {A : Type 0} → Reached S → Option (Vec (TIdx S) A) → Type 0
  FindsAfter reached found = FinishesAfter index finder.checked.now.grammar finder.checked.now.table (reached_of index reached) found

  -- the stack to which the token leads from the one at the place was added, if there is one
  pub record AddsNextAt {A : Type 0} (place : ℕ) (token : TIdx S) (old new : Vec (Reached S) A) : Type 0 where
    pub adds : AddsReached finder.checked.now.grammar finder.checked.now.table (all_reached index old) (all_reached index new)
    pub stacks : AreStacksOf new.items
    pub has : (reached : ReachedOf) → slice_get (all_reached index old) place ≡ Some reached → (prods next : List ℕ)
        → index token.0 < end_token finder.checked.now.grammar
        → Feeds finder.checked.now.grammar finder.checked.now.table (index token.0) reached.stack prods next → HasReached (all_reached index new) next

  -- the stacks to which tokens below this number lead from the one at the place were added
  pub record AddsNextBelow {A : Type 0} (place number : ℕ) (old new : Vec (Reached S) A) : Type 0 where
    pub adds : AddsReached finder.checked.now.grammar finder.checked.now.table (all_reached index old) (all_reached index new)
    pub stacks : AreStacksOf new.items
    pub has : (reached : ReachedOf) → slice_get (all_reached index old) place ≡ Some reached → (t : ℕ) (prods next : List ℕ) → t < number
        → t < end_token finder.checked.now.grammar
        → Feeds finder.checked.now.grammar finder.checked.now.table t reached.stack prods next → HasReached (all_reached index new) next

  -- all stacks to which a token leads from the one at the place were added
  abbrev pub AddsNext : {A : Type 0} → ℕ → Vec (Reached S) A → Vec (Reached S) A → Type 0
  AddsNext place old new = AddsNextBelow place (end_token finder.checked.now.grammar) old new
