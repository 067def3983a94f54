-- The results of a parse: by its run, by its lexing error or by a fault of its lexemes; and one result as another.
use Rattle.std.proofs.Common.{◌≡◌, ◌∙◌, ℕ, List, [], ◌∷◌, map, Option, Some, None, Result, Ok, Err, inl, inr, sym, subst, ap, refl}
use Rattle.std.specs.List.{AllZip}
use Rattle.lrpar_grammar.specs.Sentence.{IsFirstBadToken, IsFirstEarlyStart}
use Rattle.lrpar_parse_run.proofs.CompleteAnswerLemmas.{errors_as}
use Rattle.lrpar_parse.specs.Lexed.{first_error, lexemes_of}
use Rattle.lrpar_parse.specs.LexemeFault.{IsLexemeFault}
use Rattle.lrpar_parse.specs.Parse.{IsParse, Parses, lexeme_facts}
use Rattle.lrpar_parse_run.specs.RepairAnswer.{IsRepairAnswer, IsRepairErrorOf}
use Rattle.lrpar_parse_run.specs.RunAnswer.{IsOneWay}
use Rattle.lrpar_parse_run.specs.Subject.{Subject}
use Rattle.lrpar_parse_errors.specs.declared.errors.LexParseError.{LexParseError}
use Rattle.lrpar_parse_errors.specs.declared.errors.LexParseError.TheVariants.{LexError}
use Rattle.lrpar_parse.specs.declared.fault.ParseFault.{ParseFault}
use Rattle.lrpar_parse.specs.declared.fault.ParseFault.TheVariants.{BadToken, StartsDecrease, Memory}
use Rattle.lrpar_parse.proofs.LexemeLemmas.{valid_not_bad, valid_not_early}

-- an option isn't none and some at once
none_not_some : {A : Type 0} (o : Option A) (x : A) → o ≡ None → o ≡ Some x → ⊥
none_not_some o x none some = let differ : ◌≡◌ {A = Option _} None (Some x) = sym none ∙ some in cc

-- nor is a result a value and a fault
pub ok_not_err : {A F : Type 0} (x : A) (f : F) → ◌≡◌ {A = Result A F} (Ok x) (Err f) → ⊥
ok_not_err x f e = cc

-- equal results with a fault have one fault
pub same_fault : {A F : Type 0} (f g : F) → ◌≡◌ {A = Result A F} (Err f) (Err g) → f ≡ g
same_fault f g e = cc

-- options with equal contents
pub same_some : {A : Type 0} (x y : A) → ◌≡◌ {A = Option A} (Some x) (Some y) → x ≡ y
same_some x y e = cc

module _ {T S L B C : Type 0} (about : Subject B) (errors_of : T → List (LexParseError S L B C)) (IsValued : Option (List B) → List ℕ → T → Type 0) (lexed : List (Result B C)) where
  -- a fault of a lexeme is returned
  pub fault_is_parse : (lexemes : List B) (fault : ParseFault) → first_error lexed ≡ None → lexemes ≡ lexemes_of lexed
      → IsLexemeFault about.checked.grammar (map about.facts lexemes) (Some fault) → IsParse about errors_of IsValued lexed (Err fault)
  fault_is_parse lexemes fault none are is =
      let facts_are : map about.facts lexemes ≡ lexeme_facts about.facts lexed = ap (map about.facts) are in
      record {
        lexing_error = λ error some. absurd (none_not_some (first_error lexed) error none some);
        run = λ _. tt;
        bad_token = λ i. (
          λ e. (none, subst (λ w. IsFirstBadToken about.checked.grammar w i) facts_are ((is.bad_token i).0 (ap Some (same_fault fault (BadToken i) e)))),
          λ h. ap Err (same_some fault (BadToken i) ((is.bad_token i).1 (subst (λ w. IsFirstBadToken about.checked.grammar w i) (sym facts_are) h.1))),
        );
        starts_decrease = λ i. (
          λ e. (none, subst (λ w. IsFirstEarlyStart about.checked.grammar w i) facts_are ((is.starts_decrease i).0 (ap Some (same_fault fault (StartsDecrease i) e)))),
          λ h. ap Err (same_some fault (StartsDecrease i) ((is.starts_decrease i).1 (subst (λ w. IsFirstEarlyStart about.checked.grammar w i) (sym facts_are) h.1))),
        );
      }

  -- the result of a run over valid lexemes
  pub run_is_parse : (lexemes : List B) (answer : T) → first_error lexed ≡ None → lexemes ≡ lexemes_of lexed → IsLexemeFault about.checked.grammar (map about.facts lexemes) None
      → IsRepairAnswer about errors_of IsValued lexemes answer → IsParse about errors_of IsValued lexed (Ok answer)
  run_is_parse lexemes answer none are is of_run =
      let facts_are : map about.facts lexemes ≡ lexeme_facts about.facts lexed = ap (map about.facts) are in
      let valid = is.none.0 refl in
      record {
        lexing_error = λ error some. absurd (none_not_some (first_error lexed) error none some);
        run = λ _. subst (λ (xs : List B). IsRepairAnswer about errors_of IsValued xs answer) are of_run;
        bad_token = λ i. (
          λ e. absurd (ok_not_err answer (BadToken i) e),
          λ h. absurd (valid_not_bad about.checked.grammar (map about.facts lexemes) i valid (subst (λ w. IsFirstBadToken about.checked.grammar w i) (sym facts_are) h.1)),
        );
        starts_decrease = λ i. (
          λ e. absurd (ok_not_err answer (StartsDecrease i) e),
          λ h. absurd (valid_not_early about.checked.grammar (map about.facts lexemes) i valid (subst (λ w. IsFirstEarlyStart about.checked.grammar w i) (sym facts_are) h.1)),
        );
      }

  -- the first lexing error is returned
  pub error_is_parse : (error : C) (answer : T) → first_error lexed ≡ Some error → errors_of answer ≡ LexError error ∷ [] → IsValued None [] answer
      → IsParse about errors_of IsValued lexed (Ok answer)
  error_is_parse error answer some errors valued = record {
    lexing_error = λ other is.
        (errors ∙ ap (λ e. LexError e ∷ []) (same_some error other (sym some ∙ is)), valued);
    run = λ none. absurd (none_not_some (first_error lexed) error none some);
    bad_token = λ i. (λ e. absurd (ok_not_err answer (BadToken i) e), λ h. absurd (none_not_some (first_error lexed) error h.0 some));
    starts_decrease = λ i. (λ e. absurd (ok_not_err answer (StartsDecrease i) e), λ h. absurd (none_not_some (first_error lexed) error h.0 some));
  }

-- A result as another one with the same errors, if the condition on the value of the one gives that on the value of the other.
module _ {T U S L B C : Type 0} (about : Subject B) (lexes : List (Result B C) → Type 0) (errors_of : T → List (LexParseError S L B C)) (errors_are : U → List (LexParseError S L B C)) (IsValued : Option (List B) → List ℕ → T → Type 0) (HasBecome : Option (List B) → List ℕ → U → Type 0) where
  -- for a run
  run_as : (lexemes : List B) (t : T) (u : U) → errors_are u ≡ errors_of t → ((consumed : Option (List B)) (prods : List ℕ) → IsValued consumed prods t → HasBecome consumed prods u)
      → IsRepairAnswer about errors_of IsValued lexemes t → IsRepairAnswer about errors_are HasBecome lexemes u
  run_as lexemes t u same becomes is = record {
    whole_run = is.whole_run;
    errors = subst (AllZip (IsRepairErrorOf about lexemes) is.whole_run.stops) (sym same) is.errors;
    one_way = λ none. subst (IsOneWay is.whole_run.consumed) (sym same) (is.one_way none);
    sentence = λ none. is.sentence (sym same ∙ none);
    value = becomes is.whole_run.consumed is.whole_run.prods is.value;
    bound = is.bound;
    complete = λ complete.
        errors_as (λ x. (about.facts x).token) about.checked lexemes is.whole_run.stops is.whole_run.consumed is.whole_run.prods (errors_of t) (errors_are u)
        (λ none. same ∙ none) (λ none. sym same ∙ none) (is.complete complete);
  }

  -- for a parse
  pub parse_as : (t : T) (u : U) → errors_are u ≡ errors_of t → ((consumed : Option (List B)) (prods : List ℕ) → IsValued consumed prods t → HasBecome consumed prods u)
      → Parses about lexes errors_of IsValued (Ok t) → Parses about lexes errors_are HasBecome (Ok u)
  parse_as t u same becomes (inl memory) = absurd (ok_not_err t Memory memory)
  parse_as t u same becomes (inr (lexed, allowed, is)) = inr (
    lexed,
    allowed,
    record {
      lexing_error = λ error some. let alone = is.lexing_error error some in (same ∙ alone.0, becomes None [] alone.1);
      run = λ none. run_as (lexemes_of lexed) t u same becomes (is.run none);
      bad_token = λ i. (λ e. absurd (ok_not_err u (BadToken i) e), λ h. absurd (ok_not_err t (BadToken i) ((is.bad_token i).1 h)));
      starts_decrease = λ i. (λ e. absurd (ok_not_err u (StartsDecrease i) e), λ h. absurd (ok_not_err t (StartsDecrease i) ((is.starts_decrease i).1 h)));
    },
  )

  -- a fault is the same for both
  pub refusal_as : (fault : ParseFault) → Parses about lexes errors_of IsValued (Err fault) → Parses about lexes errors_are HasBecome (Err fault)
  refusal_as fault (inl memory) = inl (ap Err (same_fault fault Memory memory))
  refusal_as fault (inr (lexed, allowed, is)) = inr (
    lexed,
    allowed,
    record {
      lexing_error = λ error some. absurd (is.lexing_error error some);
      run = λ _. tt;
      bad_token = λ i. (
        λ e. (is.bad_token i).0 (ap Err (same_fault fault (BadToken i) e)),
        λ h. ap Err (same_fault fault (BadToken i) ((is.bad_token i).1 h)),
      );
      starts_decrease = λ i. (
        λ e. (is.starts_decrease i).0 (ap Err (same_fault fault (StartsDecrease i) e)),
        λ h. ap Err (same_fault fault (StartsDecrease i) ((is.starts_decrease i).1 h)),
      );
    },
  )
