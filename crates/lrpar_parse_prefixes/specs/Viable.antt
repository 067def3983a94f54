-- Which texts begin sentences, what can come next, and at which place a text goes wrong: by a grammar alone. A text is a list of
-- tokens, each of which is its own lexeme.
use Rattle.std.specs.Prelude.{◌≡◌, ◌<◌, ◌≤◌, ◌+◌, ◌⊎◌, ℕ, List, [], ◌∷◌, ◌++◌, length, take}
use Rattle.lrpar_grammar.specs.Grammar.{Grammar, end_token}
use Rattle.lrpar_grammar.specs.Sentence.{IsSentence}

-- the tokens are a sentence
abbrev pub AreSentence : Grammar → List ℕ → Type 0
AreSentence g tokens = IsSentence (λ token. token) g tokens

-- some sentence begins with these tokens
abbrev pub BeginSentence : Grammar → List ℕ → Type 0
BeginSentence g front = (rest : List ℕ) × AreSentence g (front ++ rest)

-- token t can come after these: some sentence begins with them and t; or t is the end token, and they are a sentence
abbrev pub CanFollow : Grammar → List ℕ → ℕ → Type 0
CanFollow g front t = BeginSentence g (front ++ t ∷ []) ⊎ ((t ≡ end_token g) × AreSentence g front)

-- The tokens go wrong at place i: some sentence begins with those before it, and none with the one there as well; or i is their
-- end, and they aren't a sentence
pub record GoWrongAt (g : Grammar) (tokens : List ℕ) (i : ℕ) : Type 0 where
  pub within : i ≤ length tokens
  pub front : BeginSentence g (take i tokens)
  pub wrong : i < length tokens → ¬ (BeginSentence g (take (i + 1) tokens))
  pub unfinished : i ≡ length tokens → ¬ (AreSentence g tokens)
