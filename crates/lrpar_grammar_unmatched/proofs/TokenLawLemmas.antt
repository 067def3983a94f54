-- What a grammar with one more token keeps of the grammar that it is made of.
use Rattle.std.proofs.Common.{◌-◌, ℕ, List, [], ◌∷◌, ◌++◌, length, ap, subst, sym, arith}
use Rattle.std.proofs.lemmas.List.{length_push, take_at}
use Rattle.std.proofs.lemmas.List.Elements.{All-push}
use Rattle.lrpar_grammar_places.specs.Span.{IsPartOf, nowhere}
use Rattle.lrpar_grammar_reader.specs.Grammar.{Grammar, GrammarSymbol, Nonterminal, Production, RuleName, Terminal, TokenName, added_prod, added_rule, symbols_of}
use Rattle.lrpar_grammar_reader.specs.Parts.{grammar_of}
use Rattle.lrpar_grammar_reader.specs.SpansFit.{SpansFit}
use Rattle.lrpar_grammar.specs.Tree.{Fits, Forest, ForestFits, Tree, Leaf, Branch, Nil, Cons}
use Rattle.lrpar_grammar.specs.Sentence.{IsSentence}
use Rattle.lrpar_grammar_unmatched.specs.TokenLaws.{KeepsSentences, KeepsSpans, KeepsTheRest}
use Rattle.lrpar_grammar_unmatched.specs.WithToken.{token_named}

-- a grammar by its parts
abbrev made_of : List RuleName → List TokenName → List Production → ℕ → Grammar
made_of rules tokens prods start = record { rules = rules; tokens = tokens; prods = prods; start = start }

-- the grammar with other tokens
abbrev with_tokens : Grammar → List TokenName → Grammar
with_tokens g tokens = record g { tokens = tokens }

-- a tree that fits a symbol fits it with other tokens, and so do trees that fit symbols
mutual
  fits_still : {X : Type 0} (token : X → ℕ) (g : Grammar) (tokens : List TokenName) (tree : Tree X) (s : GrammarSymbol)
      → Fits token g tree s → Fits token (with_tokens g tokens) tree s
  fits_still token g tokens (Leaf x) (Terminal t) fits = fits
  fits_still token g tokens (Leaf x) (Nonterminal r) fits = absurd fits
  fits_still token g tokens (Branch p children) (Nonterminal r) fits = (fits.0, fits.1, forest_fits_still token g tokens children (symbols_of g p) fits.2)
  fits_still token g tokens (Branch p children) (Terminal t) fits = absurd fits

  forest_fits_still : {X : Type 0} (token : X → ℕ) (g : Grammar) (tokens : List TokenName) (trees : Forest X) (symbols : List GrammarSymbol)
      → ForestFits token g trees symbols → ForestFits token (with_tokens g tokens) trees symbols
  forest_fits_still token g tokens Nil [] fits = fits
  forest_fits_still token g tokens Nil (s ∷ ss) fits = absurd fits
  forest_fits_still token g tokens (Cons t ts) [] fits = absurd fits
  forest_fits_still token g tokens (Cons t ts) (s ∷ ss) fits = (fits_still token g tokens t s fits.0, forest_fits_still token g tokens ts ss fits.1)

-- all but the new token stays
pub keeps_the_rest : KeepsTheRest
keeps_the_rest parts name =
    let listed = length_push parts.prods (added_prod parts.start) in
    ap (λ ps. made_of (added_rule ∷ parts.rules) (parts.tokens ++ token_named name ∷ []) (ps ++ added_prod parts.start ∷ []) parts.start)
    (take_at parts.prods (added_prod parts.start ∷ []) (length (parts.prods ++ added_prod parts.start ∷ []) - 1) (omega arith))

-- the new token is at the start of the text, as the added rule is
pub keeps_spans : KeepsSpans
keeps_spans parts name src fit =
    let start : IsPartOf src nowhere = fit.names.rules 0 added_rule (omega arith) in
    subst (λ g. SpansFit g src) (sym (keeps_the_rest parts name)) (record {
      names = record {
        rules = fit.names.rules;
        tokens = All-push (λ t. IsPartOf src t.span) parts.tokens (token_named name) fit.names.tokens start;
      };
      prods = fit.prods;
    })

-- trees fit both grammars
pub keeps_sentences : (X : Type 0) → KeepsSentences X
keeps_sentences X token parts name lexemes =
    let g = grammar_of parts in
    let tokens = parts.tokens ++ token_named name ∷ [] in (
      λ is. subst (λ h. IsSentence token h lexemes) (sym (keeps_the_rest parts name))
          (is.0, fits_still token g tokens is.0 (Nonterminal parts.start) is.1, is.2),
      λ is.
          let other : IsSentence token (with_tokens g tokens) lexemes = subst (λ h. IsSentence token h lexemes) (keeps_the_rest parts name) is in
          (other.0, fits_still token (with_tokens g tokens) parts.tokens other.0 (Nonterminal parts.start) other.1, other.2),
    )
