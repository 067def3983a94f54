-- A run looks only at the tokens of its lexemes: so what it does over lexemes it does over their tokens, each as its own lexeme.
-- And lexemes are a sentence if and only if their tokens are, since both are what is derived from the start rule.
use Rattle.std.proofs.Common.{◌≡◌, ◌+◌, ◌∙◌, refl, sym, ap, subst, arith, ℕ, List, [], ◌∷◌, length, map, Option, Some, None, slice_get}
use Rattle.std.proofs.lemmas.List.{length-map}
use Rattle.std.proofs.lemmas.Option.{slice_get-map}
use Rattle.std.specs.Option.{option_map, option_map_or}
use Rattle.lrpar_grammar.specs.Grammar.{Grammar, GrammarSymbol, Nonterminal, Terminal, end_token}
use Rattle.lrpar_grammar.specs.Rewriting.{Derives, terminals}
use Rattle.lrpar_grammar.specs.Sentence.{IsSentence}
use Rattle.lrpar_grammar.proofs.RewritingLemmas.{derived_are_leaves, leaves_are_derived}
use Rattle.lrpar_table_rows.specs.Table.{ShiftTo, Table}
use Rattle.lrpar_table_stacks.specs.Reduction.{Feeds, Settles, top_action}
use Rattle.lrpar_table_stacks.specs.Run.{Comes, Far, FarEnd, IsStuck, accepts, comes_on, goes_on, stays, stops, token_at}
use Rattle.lrpar_parse_prefixes.specs.ViableLaws.{SentencesAreOfTokens}

-- the token of what is mapped
mapped_token : {X : Type 0} (token : X → ℕ) (o : Option X) (end : ℕ)
    → option_map_or (λ (t : ℕ). t) (option_map token o) end ≡ option_map_or token o end
mapped_token token None end = refl
mapped_token token (Some x) end = refl

module _ {X : Type 0} (token : X → ℕ) (g : Grammar) (table : Table) (lexemes : List X) where
  -- the token at a place is the same
  same_token : (i : ℕ) → token_at (λ (t : ℕ). t) g (map token lexemes) i ≡ token_at token g lexemes i
  same_token i =
      ap (λ (o : Option ℕ). option_map_or (λ (t : ℕ). t) o (end_token g)) (slice_get-map token lexemes i)
      ∙ mapped_token token (slice_get lexemes i) (end_token g)

  -- and there are as many
  same_len : length (map token lexemes) ≡ length lexemes
  same_len = length-map lexemes token

  pub comes_by_tokens : (st : List ℕ) (i : ℕ) (ps after : List ℕ) (j : ℕ) → Comes token g table lexemes st i ps after j
      → Comes (λ (t : ℕ). t) g table (map token lexemes) st i ps after j
  comes_by_tokens _ _ _ _ _ (stays st i) = stays st i
  comes_by_tokens _ _ _ _ _ (comes_on st i ps qs next after j below first rest) =
      comes_on st i ps qs next after j (omega (arith, below, same_len))
      (subst (λ (t : ℕ). Feeds g table t st ps next) (sym (same_token i)) first) (comes_by_tokens next (i + 1) qs after j rest)

  -- a stack goes no further
  stuck_by_tokens : (settled : List ℕ) (i : ℕ) → IsStuck token g table lexemes settled i → IsStuck (λ (t : ℕ). t) g table (map token lexemes) settled i
  stuck_by_tokens settled i stuck =
      record {
        shifts_not = λ within next shifts.
            stuck.shifts_not (omega (arith, within, same_len)) next
            (subst (λ (t : ℕ). top_action table t settled ≡ ShiftTo next) (same_token i) shifts);
        accepts_not = λ last. stuck.accepts_not (omega (arith, last, same_len));
      }

  pub far_by_tokens : (st : List ℕ) (i : ℕ) (ps : List ℕ) (end : FarEnd) → Far token g table lexemes st i ps end
      → Far (λ (t : ℕ). t) g table (map token lexemes) st i ps end
  far_by_tokens _ _ _ _ (goes_on st i ps qs next end within first rest) =
      goes_on st i ps qs next end (omega (arith, within, same_len))
      (subst (λ (t : ℕ). Feeds g table t st ps next) (sym (same_token i)) first) (far_by_tokens next (i + 1) qs end rest)
  far_by_tokens _ _ _ _ (accepts st i ps settled last settles accepted) =
      accepts st i ps settled (omega (arith, last, same_len)) settles accepted
  far_by_tokens _ _ _ _ (stops st i ps settled fits settles stuck) =
      stops st i ps settled (omega (arith, fits, same_len))
      (subst (λ (t : ℕ). Settles g table t st ps settled) (sym (same_token i)) settles) (stuck_by_tokens settled i stuck)

-- both are derived as one list of symbols
same_terminals : {X : Type 0} (token : X → ℕ) (lexemes : List X) → terminals (λ (t : ℕ). t) (map token lexemes) ≡ terminals token lexemes
same_terminals token [] = refl
same_terminals token (x ∷ xs) = ap (λ (ss : List GrammarSymbol). Terminal (token x) ∷ ss) (same_terminals token xs)

-- a sentence is derived
sentence_derived : {X : Type 0} (token : X → ℕ) (g : Grammar) (lexemes : List X) → IsSentence token g lexemes
    → Derives g (Nonterminal g.start ∷ []) (terminals token lexemes)
sentence_derived {X} token g lexemes sentence =
    subst (λ (xs : List X). Derives g (Nonterminal g.start ∷ []) (terminals token xs)) sentence.2
    (leaves_are_derived X token g (Nonterminal g.start) sentence.0 sentence.1)

pub sentences_are_of_tokens : {X : Type 0} → SentencesAreOfTokens X
sentences_are_of_tokens {X} token g lexemes = (
  λ sentence.
      derived_are_leaves ℕ (λ (t : ℕ). t) g (Nonterminal g.start) (map token lexemes)
      (subst (Derives g (Nonterminal g.start ∷ [])) (sym (same_terminals token lexemes)) (sentence_derived token g lexemes sentence)),
  λ sentence.
      derived_are_leaves X token g (Nonterminal g.start) lexemes
      (subst (Derives g (Nonterminal g.start ∷ [])) (same_terminals token lexemes)
      (sentence_derived (λ (t : ℕ). t) g (map token lexemes) sentence)),
)
