-- The result of a parse, by cases: unless memory ran out, there is an answer of the lexer, with a lexing error or without one.
use Rattle.std.proofs.Common.{◌≡◌, ◌<◌, ◌≤◌, ◌+◌, ℕ, List, [], ◌∷◌, None, Option, Result, Ok, Err, Some, IfErr, IfOk, ap, arith, inl, inr, refl, ◌∙◌}
use Rattle.std.proofs.lemmas.Option.{slice_get_within}
use Rattle.std.specs.Prelude.{slice_get}
use Rattle.lrpar_parse_errors.specs.declared.errors.LexParseError.{LexParseError}
use Rattle.lrpar_parse_errors.specs.declared.errors.LexParseError.TheVariants.{LexError}
use Rattle.lrpar_parse_run.specs.RepairAnswer.{IsRepairAnswer}
use Rattle.lrpar_parse_run.specs.Subject.{Subject}
use Rattle.lrpar_grammar.specs.Grammar.{Grammar, end_token}
use Rattle.lrpar_grammar.specs.Sentence.{HasBadToken, HasEarlyStart, IsValidList, LexemeFacts}
use Rattle.lrpar_parse.specs.Lexed.{first_error, lexemes_of}
use Rattle.lrpar_parse.specs.Parse.{IsParse, Parses}
use Rattle.lrpar_parse.specs.declared.fault.ParseFault.{ParseFault}
use Rattle.lrpar_parse.specs.declared.fault.ParseFault.TheVariants.{BadToken, Memory, StartsDecrease}
use Rattle.test_headline.specs.Answered.{IsDueRefusal, OfAnswer}

-- an answer is no fault
ok_no_err : {A F : Type 0} (x : A) (f : F) → ◌≡◌ {A = Result A F} (Ok x) (Err f) → ⊥
ok_no_err x f e = cc

-- the first lexing error is the only error, or there is none and the answer is that of a run
pub data Goes {T S L B C : Type 0} (about : Subject B) (errors_of : T → List (LexParseError S L B C)) (IsValued : Option (List B) → List ℕ → T → Type 0) (lexed : List (Result B C)) (answer : T) : Type 0 where
  by_error : (error : C) → first_error lexed ≡ Some error → errors_of answer ≡ LexError error ∷ [] → IsValued None [] answer → Goes about errors_of IsValued lexed answer
  by_run : first_error lexed ≡ None → IsRepairAnswer about errors_of IsValued (lexemes_of lexed) answer → Goes about errors_of IsValued lexed answer

module _ {T S L B C : Type 0} (about : Subject B) (lexes : List (Result B C) → Type 0) (errors_of : T → List (LexParseError S L B C)) (IsValued : Option (List B) → List ℕ → T → Type 0) where
  way_of : (lexed : List (Result B C)) (answer : T) (error : Option C) → first_error lexed ≡ error → IsParse about errors_of IsValued lexed (Ok answer)
      → Goes about errors_of IsValued lexed answer
  way_of lexed answer None none is = by_run none (is.run none)
  way_of lexed answer (Some error) some is = let alone = is.lexing_error error some in by_error error some alone.0 alone.1

  -- what follows in both cases is true of an answer of the lexer
  pub of_answer : (Holds : T → List (Result B C) → Type 0)
      → ((lexed : List (Result B C)) (answer : T) → Goes about errors_of IsValued lexed answer → Holds answer lexed)
      → (result : Result T ParseFault) → Parses about lexes errors_of IsValued result → IfOk result (λ answer. OfAnswer lexes (Holds answer))
  of_answer Holds holds (Err fault) parses = tt
  of_answer Holds holds (Ok answer) (inl memory) = absurd (ok_no_err answer Memory memory)
  of_answer Holds holds (Ok answer) (inr (lexed, allowed, is)) =
      (lexed, allowed, holds lexed answer (way_of lexed answer (first_error lexed) refl is))

  -- and so is what doesn't mention the lexer's answer
  pub of_any : (Holds : T → Type 0) → ((lexed : List (Result B C)) (answer : T) → Goes about errors_of IsValued lexed answer → Holds answer)
      → (result : Result T ParseFault) → Parses about lexes errors_of IsValued result → IfOk result Holds
  of_any Holds holds (Err fault) parses = tt
  of_any Holds holds (Ok answer) (inl memory) = absurd (ok_no_err answer Memory memory)
  of_any Holds holds (Ok answer) (inr (lexed, allowed, is)) = holds lexed answer (way_of lexed answer (first_error lexed) refl is)

-- a list that has a lexeme with a fault isn't valid
bad_is_faulty : (g : Grammar) (lexemes : List LexemeFacts) (i : ℕ) → HasBadToken g lexemes i → ¬ (IsValidList g lexemes)
bad_is_faulty g lexemes i (x, at, bad) valid =
    let good : x.token < end_token g = valid.tokens i x (slice_get_within lexemes i x at) at in
    omega (arith, good, bad)

early_is_faulty : (g : Grammar) (lexemes : List LexemeFacts) (i : ℕ) → HasEarlyStart lexemes i → ¬ (IsValidList g lexemes)
early_is_faulty g lexemes i (j, x, y, next, before, at, early) valid =
    let there : slice_get lexemes (j + 1) ≡ Some y = ap (slice_get lexemes) next ∙ at in
    let ordered : x.span.start ≤ y.span.start = valid.starts j x y (slice_get_within lexemes (j + 1) y there) before there in
    omega (arith, ordered, early)

-- a parse returns a fault because memory ran out, or because a lexeme has a fault
module _ {T S L B C : Type 0} (about : Subject B) (lexes : List (Result B C) → Type 0) (errors_of : T → List (LexParseError S L B C)) (IsValued : Option (List B) → List ℕ → T → Type 0) where
  pub due_refusal : (result : Result T ParseFault) → Parses about lexes errors_of IsValued result → IfErr result (IsDueRefusal about.facts about.checked.grammar lexes)
  due_refusal (Ok answer) parses = tt
  due_refusal (Err Memory) parses = inl refl
  due_refusal (Err (BadToken i)) (inl memory) = absurd (let no : ⊥ = cc in no)
  due_refusal (Err (BadToken i)) (inr (lexed, allowed, is)) =
      let found = (is.bad_token i).0 refl in
      inr (lexed, allowed, record { no_error = found.0; faulty = bad_is_faulty _ _ i found.1.bad })
  due_refusal (Err (StartsDecrease i)) (inl memory) = absurd (let no : ⊥ = cc in no)
  due_refusal (Err (StartsDecrease i)) (inr (lexed, allowed, is)) =
      let found = (is.starts_decrease i).0 refl in
      inr (lexed, allowed, record { no_error = found.0; faulty = early_is_faulty _ _ i found.1.early })
