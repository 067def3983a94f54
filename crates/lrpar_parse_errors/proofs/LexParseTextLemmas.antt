-- The texts of lexing errors and of parse errors, and their faults.
use Rattle.std.proofs.Common.{◌≡◌, ℕ, List, [], ◌++◌, Option, map, ap, sym, ◌∙◌, subst, codes}
use Rattle.std.specs.List.{AllZip}
use Rattle.lrpar_grammar_places.specs.Span.{Extent}
use Rattle.lrpar_parse_lexemes.specs.Repair.{Repair}
use Rattle.lrpar_parse_lexemes.specs.declared.pp_fault.PpFault.{PpFault}
use Rattle.lrpar_parse_errors.specs.Printed.{IsPpFault}
use Rattle.lrpar_parse_lexemes.specs.PrintedSequence.{parts_of}
use Rattle.lrpar_parse_errors.specs.SequenceText.{IsPartsText}
use Rattle.lrpar_parse_errors.specs.Failure.{Failure}
use Rattle.lrpar_parse_errors.specs.ErrorText.{IsFailureText, place_text, repairs_text, tokens_of}
use Rattle.lrpar_parse_errors.specs.LexParseText.{IsErrorText, error_tokens}
use Rattle.lrpar_parse_errors.specs.declared.errors.LexParseError.{LexParseError}
use Rattle.lrpar_parse_errors.specs.declared.errors.LexParseError.TheVariants.{LexError, ParseError}

module _ {S L B C : Type 0} (span : B → Extent) (names : ℕ → Option (List ℕ) → Type 0) where
  -- the text of a lexing error
  pub lexing_text : (place : C → Extent) (input : List ℕ) (error : LexParseError S L B C) (e : C) (at : Extent) (old new : List ℕ) → error ≡ LexError e
      → at ≡ place e → old ≡ [] → new ≡ old ++ place_text (codes "Lexing error") input at.start → IsErrorText place span names input error new
  lexing_text place input error e at old new is lies none added =
      let here : new ≡ place_text (codes "Lexing error") input (place e).start =
      added ∙ ap (λ o. o ++ place_text (codes "Lexing error") input at.start) none ∙ ap (λ (x : Extent). place_text (codes "Lexing error") input x.start) lies in
      subst (λ (e : LexParseError S L B C). IsErrorText place span names input e new) (sym is) here

  -- the text of a parse error
  pub parsing_text : (place : C → Extent) (input : List ℕ) (error : LexParseError S L B C) (e : Failure B) (lexeme : B) (repairs : List (List (Repair B))) (at : Extent)
      (old out new : List ℕ) → error ≡ ParseError e → at ≡ span lexeme → lexeme ≡ e.lexeme → repairs ≡ e.repairs → old ≡ []
      → out ≡ old ++ place_text (codes "Parsing error") input at.start
      → (texts : List (List ℕ)) × (new ≡ out ++ repairs_text texts) × AllZip (IsPartsText names input) (map (parts_of span) repairs) texts
      → IsErrorText place span names input error new
  parsing_text place input error e lexeme repairs at old out new is lies first same none placed (texts, printed, each) =
      let front : out ≡ place_text (codes "Parsing error") input (span e.lexeme).start =
      placed ∙ ap (λ o. o ++ place_text (codes "Parsing error") input at.start) none
      ∙ ap (λ (x : Extent). place_text (codes "Parsing error") input x.start) (lies ∙ ap span first) in
      let text : IsFailureText span names input e new = record {
        sequences = texts;
        each = subst (λ (rs : List (List (Repair B))). AllZip (IsPartsText names input) (map (parts_of span) rs) texts) same each;
        is = printed ∙ ap (λ o. o ++ repairs_text texts) front;
      } in
      subst (λ (e : LexParseError S L B C). IsErrorText place span names input e new) (sym is) text

  -- a fault of the repairs of a parse error is a fault of the error
  pub parsing_fault : {N : Type 0} (index : N → ℕ) (error : LexParseError S L B C) (e : Failure B) (repairs : List (List (Repair B))) (fault : PpFault N)
      → error ≡ ParseError e → repairs ≡ e.repairs → IsPpFault index names (tokens_of span repairs) fault → IsPpFault index names (error_tokens span error) fault
  parsing_fault index error e repairs fault is same failed =
      subst (λ (e : LexParseError S L B C). IsPpFault index names (error_tokens span e) fault) (sym is)
      (subst (λ (rs : List (List (Repair B))). IsPpFault index names (tokens_of span rs) fault) same failed)
