-- Names that a grammar doesn't know, one word after another; and faults as faults of the file.
use Rattle.std.proofs.Common.{◌≡◌, ◌<◌, ◌+◌, not, true, false, cond, ℕ, List, length, drop, get_or, map, bytes_eq, option_map, Option, Some, None, Result, Ok, Err, IfErr, IsErrAnd, ap, sym, subst, ◌∙◌}
use Rattle.std.specs.List.{find, list_any}
use Rattle.std.proofs.lemmas.List.{drop_more}
use Rattle.lrpar_grammar_places.specs.Span.{Extent}
use Rattle.lrpar_grammar_words.specs.declared.words.Word.{Word}
use Rattle.lrpar_grammar_words.specs.Words.{PlacedWord, placed}
use Rattle.lrpar_grammar_reader.specs.declared.parts.GrammarFault.{GrammarFault}
use Rattle.lrpar_grammar_reader.specs.declared.parts.GrammarFault.TheVariants.{BadStart, BadSymbol, Memory as GrammarMemory, NoRules, RepeatedEpp, RepeatedStart, StorageTooSmall, Syntax, TokenIsRule, UnknownRule, UnknownToken}
use Rattle.lrpar_grammar_reader.specs.Spells.{IsGrammarFaultOf as IsTextFault}
use Rattle.lrpar_grammar_yacc.specs.declared.faults.YaccFault.{YaccFault}
use Rattle.lrpar_grammar_yacc.specs.declared.faults.YaccFault.TheVariants.{BadNumber, Memory, MidRuleAction, RepeatedPrec, RepeatedPrecedence}
use Rattle.lrpar_grammar_yacc.specs.declared.file.YaccFileFault.{YaccFileFault}
use Rattle.lrpar_grammar_yacc.specs.declared.parts.YaccKind.{YaccKind}
use Rattle.lrpar_grammar_yacc.specs.Erasure.{erasure}
use Rattle.lrpar_grammar_yacc.specs.Faults.{IsYaccFaultOf, first_fault}
use Rattle.lrpar_grammar_yacc.specs.YaccFiles.{IsFileFault, of_declared, of_text, unknown_among}

-- the rest of the words, by the first of them
unknown_by : (names : List (List ℕ)) (words : List Word) (i : ℕ) (d : Word) → i < length words
    → unknown_among names (map placed (drop i words))
    ≡ option_map (λ (w : PlacedWord). w.span) (cond (not (list_any (bytes_eq (placed (get_or words i d)).name) names)) (Some (placed (get_or words i d)))
    (find (λ (w : PlacedWord). not (list_any (bytes_eq w.name) names)) (map placed (drop (i + 1) words))))
unknown_by names words i d within = ap (λ s. unknown_among names (map placed s)) (drop_more words i d within)

-- a word whose name isn't known
pub unknown_here : (names : List (List ℕ)) (words : List Word) (i : ℕ) (d : Word) (span : Extent) → i < length words
    → span ≡ (placed (get_or words i d)).span → list_any (bytes_eq (placed (get_or words i d)).name) names ≡ false
    → ◌≡◌ {A = Option Extent} (Some span) (unknown_among names (map placed (drop i words)))
unknown_here names words i d span within is none =
    let rest = find (λ (w : PlacedWord). not (list_any (bytes_eq w.name) names)) (map placed (drop (i + 1) words)) in
    ap (λ (s : Extent). Some s) is
    ∙ sym (unknown_by names words i d within ∙ ap (λ b. option_map (λ (w : PlacedWord). w.span) (cond (not b) (Some (placed (get_or words i d))) rest)) none)

-- a word whose name is known
pub unknown_later : (names : List (List ℕ)) (words : List Word) (i : ℕ) (d : Word) → i < length words
    → list_any (bytes_eq (placed (get_or words i d)).name) names ≡ true
    → unknown_among names (map placed (drop i words)) ≡ unknown_among names (map placed (drop (i + 1) words))
unknown_later names words i d within known =
    let rest = find (λ (w : PlacedWord). not (list_any (bytes_eq w.name) names)) (map placed (drop (i + 1) words)) in
    unknown_by names words i d within ∙ ap (λ b. option_map (λ (w : PlacedWord). w.span) (cond (not b) (Some (placed (get_or words i d))) rest)) known

-- what holds of an error holds after it is returned by `?`
error_same : {T E : Type 0} (result : Result T E) (P : E → Type 0) (e : E) → IsErrAnd result (λ f. f ≡ e) → P e → IfErr result P
error_same (Ok x) P e is holds = tt
error_same (Err f) P e is holds = subst P (sym is) holds

module _ (limit : ℕ) (kind : YaccKind) (text : List ℕ) where
  -- a fault of what a grammar text doesn't have
  declared_fault : (e : YaccFault) → IsYaccFaultOf kind text e → IsFileFault limit kind text (of_declared e)
  declared_fault (RepeatedPrec span) is = is
  declared_fault (RepeatedPrecedence span) is = is
  declared_fault (MidRuleAction span) is = is
  declared_fault (BadNumber span) is = is
  declared_fault Memory is = tt

  pub declared_refused : {T : Type 0} (result : Result T YaccFileFault) (e : YaccFault) → IsErrAnd result (λ f. f ≡ of_declared e) → IsYaccFaultOf kind text e
      → IfErr result (IsFileFault limit kind text)
  declared_refused result e is fault = error_same result (IsFileFault limit kind text) (of_declared e) is (declared_fault e fault)

  -- a fault of the erasure of a file without such a fault
  text_fault : first_fault kind text ≡ None → (e : GrammarFault) → IsTextFault limit (erasure kind text) e → IsFileFault limit kind text (of_text e)
  text_fault sound (Syntax place) is = record { sound = sound; fault_is = is }
  text_fault sound (UnknownRule span) is = record { sound = sound; fault_is = is }
  text_fault sound (UnknownToken span) is = record { sound = sound; fault_is = is }
  text_fault sound (TokenIsRule span) is = record { sound = sound; fault_is = is }
  text_fault sound (RepeatedStart span) is = record { sound = sound; fault_is = is }
  text_fault sound (RepeatedEpp span) is = record { sound = sound; fault_is = is }
  text_fault sound BadSymbol is = record { sound = sound; fault_is = is }
  text_fault sound BadStart is = record { sound = sound; fault_is = is }
  text_fault sound NoRules is = record { sound = sound; fault_is = is }
  text_fault sound StorageTooSmall is = record { sound = sound; fault_is = is }
  text_fault sound GrammarMemory is = tt

  pub text_refused : {T : Type 0} (result : Result T YaccFileFault) (erased : List ℕ) (e : GrammarFault) → first_fault kind text ≡ None → erased ≡ erasure kind text
      → IsErrAnd result (λ f. f ≡ of_text e) → IsTextFault limit erased e → IfErr result (IsFileFault limit kind text)
  text_refused result erased e sound same is fault =
      error_same result (IsFileFault limit kind text) (of_text e) is (text_fault sound e (subst (λ s. IsTextFault limit s e) same fault))
