-- The answer of `expected`: what may come next after the lexemes of a lexer.
use Rattle.std.specs.Prelude.{◌≡◌, ◌<◌, ◌≤◌, ◌↔◌, ◌⊎◌, ℕ, List, ◌∷◌, ◌++◌, Bool, true, false, Option, Some, None, Contains, length, take, Result, IfOk, IsErrOf, Vec}
use Rattle.lrpar_grammar.specs.Grammar.{Grammar, end_token}
use Rattle.lrpar_grammar.specs.Sentence.{LexemeFacts, IsFirstBadToken, IsFirstEarlyStart, IsSentence, IsValidList}
use Rattle.lrpar_table_check.specs.Checked.{Checked}
use Rattle.lrpar_table_conditions.specs.Complete.{IsComplete}
use Rattle.lrpar_table_stacks.specs.Expected.{AreExpected, tokens_of}
use Rattle.lrpar_table_check.specs.ExpectedRuns.{FeedsFront}
use Rattle.lrpar_table_stacks.specs.Overlay.{Overlaid, overlaid}
use Rattle.lrpar_table_stacks.specs.Reduction.{Feeds}
use Rattle.lrpar_table_rows.specs.Table.{Table}
use Rattle.lrpar_table_stacks.specs.Run.{token_at}
use Rattle.lrpar_table_stacks.specs.Stack.{IsStack, states_of}
use Rattle.lrpar_grammar_places.specs.declared.span.StIdx.{StIdx}
use Rattle.lrpar_grammar_places.specs.declared.span.TIdx.{TIdx}
use Rattle.lrpar_parse_lexemes.specs.Lexemes.{LexemeParts}
use Rattle.lrpar_parse_lexemes.specs.Views.{known, token_by}
use Rattle.lrpar_parse.specs.Lexed.{first_error, lexemes_of}
use Rattle.lrpar_parse.specs.Parse.{lexeme_facts}
use Rattle.lrpar_parse.specs.declared.expected.Expected.{Expected}
use Rattle.lrpar_parse.specs.declared.fault.ParseFault.{ParseFault}
use Rattle.lrpar_parse.specs.declared.fault.ParseFault.TheVariants.{BadToken, StartsDecrease, Memory}

-- each token with which some sentence goes on after these lexemes is listed; the end token is listed if and only if they are a sentence
pub record ListsNext {X : Type 0} (token : X → ℕ) (g : Grammar) (front : List X) (tokens : List ℕ) : Type 0 where
  pub next : (x : X) (rest : List X) → IsSentence token g (front ++ x ∷ rest) → Contains tokens (token x)
  pub end : Contains tokens (end_token g) ↔ IsSentence token g front

-- from the start the run feeds the lexemes before this place, which leads to this stack; the lexeme at the place can't be fed
pub record ComesFurthest {X : Type 0} (token : X → ℕ) (d : Checked) (lexemes : List X) (place : ℕ) (stack : List ℕ) : Type 0 where
  pub fed : FeedsFront token d.grammar d.table lexemes place stack
  pub within : place ≤ length lexemes
  pub furthest : place < length lexemes → (prods next : List ℕ) → ¬ (Feeds d.grammar d.table (token_at token d.grammar lexemes place) stack prods next)

-- the token is fed, which gives a stack; or it can't be, and the stack stays
abbrev pub FeedsOrStays : Grammar → Table → ℕ → List ℕ → Bool → List ℕ → Type 0
FeedsOrStays g table t st true after = IsStack table after × ((prods : List ℕ) × Feeds g table t st prods after)
FeedsOrStays g table t st false after = (after ≡ st) × ((prods next : List ℕ) → ¬ (Feeds g table t st prods next))

-- the token is fed: this number of states stays, and these are put above them; or it can't be
abbrev pub FeedsTo : Grammar → Table → ℕ → List ℕ → Option ℕ → List ℕ → Type 0
FeedsTo g table t st (Some kept) above =
    IsStack table (take kept st ++ above) × ((prods : List ℕ) × Feeds g table t st prods (take kept st ++ above))
FeedsTo g table t st None above = (prods next : List ℕ) → ¬ (Feeds g table t st prods next)

-- the lexemes before this place are fed, and these tokens may come next there
pub record IsExpectedAfter {X : Type 0} (token : X → ℕ) (d : Checked) (lexemes : List X) (place : ℕ) (tokens : List ℕ) : Type 0 where
  pub stack : List ℕ
  pub comes : ComesFurthest token d lexemes place stack
  pub expected : AreExpected d.grammar d.table stack tokens
  -- the end token is expected only after a sentence; if the table is complete, all tokens with which sentences go on are expected
  pub sentence : Contains tokens (end_token d.grammar) → IsSentence token d.grammar (take place lexemes)
  pub complete : IsComplete d.grammar d.graph d.table → ListsNext token d.grammar (take place lexemes) tokens

-- Of the program's states and tokens, by their numbers: `index` gives the number of a value of the storage type.
module _ {S : Type 0} (index : S → ℕ) where
  -- the lexemes are valid for the grammar; `parts` gives the parts of a lexeme
  abbrev pub AreValid : {X : Type 0} → (X → LexemeParts S) → Checked → List X → Type 0
  AreValid parts d lexemes = IsValidList d.grammar (known index parts lexemes)

  -- the states that an overlay has above those that it keeps of its base
  abbrev pub AreStatesAbove : Overlaid → List (StIdx S) → Type 0
  AreStatesAbove overlay above = take overlay.kept overlay.base ++ states_of index above ≡ overlaid overlay

  module _ (d : Checked) where
    -- the states are a stack of the table
    abbrev pub IsStackOf : List (StIdx S) → Type 0
    IsStackOf stack = IsStack d.table (states_of index stack)

    -- the token is fed, which gives the new stack, or it can't be, and the stack stays
    abbrev pub MayFeed : TIdx S → List (StIdx S) → List (StIdx S) → Bool → Type 0
    MayFeed token old new fed = FeedsOrStays d.grammar d.table (index token.0) (states_of index old) fed (states_of index new)

    -- the token is fed, so that this number of states stays with these above them, or it can't be
    abbrev pub MayFeedOver : TIdx S → List (StIdx S) → List (StIdx S) → Option ℕ → Type 0
    MayFeedOver token stack above kept = FeedsTo d.grammar d.table (index token.0) (states_of index stack) kept (states_of index above)

  -- `parts` gives the parts of a lexeme
  module _ {X Z : Type 0} (parts : X → LexemeParts S) (d : Checked) (lexemes : List X) where
    -- from the start the run feeds this number of lexemes, which leads to this stack; the next one can't be fed
    abbrev pub FeedsFurthest : ℕ × Vec (StIdx S) Z → Type 0
    FeedsFurthest fed = ComesFurthest (token_by index parts) d lexemes fed.0 (states_of index fed.1.items)

    -- this number of lexemes is fed, and these tokens may come next there
    abbrev pub MayComeAfter : ℕ × Vec (TIdx S) Z → Type 0
    MayComeAfter after = IsExpectedAfter (token_by index parts) d lexemes after.0 (tokens_of index after.1.items)

-- The result for an answer of the lexer. `index` gives the number of a value of the storage type, and `facts` the facts of a lexeme.
pub record IsExpectedAnswer {S X E : Type 0} (index : S → ℕ) (facts : X → LexemeFacts) (d : Checked) (lexed : List (Result X E)) (result : Result (Expected S E) ParseFault) : Type 0 where
  -- the first lexing error, and what may come next after the lexemes before it
  pub answer : IfOk result (λ e. (e.lexing_error ≡ first_error lexed)
      × IsExpectedAfter (λ x. (facts x).token) d (lexemes_of lexed) e.place (tokens_of index e.tokens.items))
  -- errors: the fault of a lexeme is returned if and only if it is the first fault of these lexemes
  pub bad_token : (i : ℕ) → IsErrOf result (BadToken i) ↔ IsFirstBadToken d.grammar (lexeme_facts facts lexed) i
  pub starts_decrease : (i : ℕ) → IsErrOf result (StartsDecrease i) ↔ IsFirstEarlyStart d.grammar (lexeme_facts facts lexed) i

-- the lexer allows an answer, and the result is the one for this answer; or an allocation failed
abbrev pub Expects : {S X E : Type 0} → (S → ℕ) → (X → LexemeFacts) → Checked → (List (Result X E) → Type 0) → Result (Expected S E) ParseFault → Type 0
Expects {X = X} {E = E} index facts d lexes result =
    IsErrOf result Memory ⊎ ((lexed : List (Result X E)) × lexes lexed × IsExpectedAnswer index facts d lexed result)
