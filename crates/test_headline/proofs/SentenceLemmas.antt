-- Over a complete table a parse has no error if and only if the lexemes are a sentence, and its value is that of their only tree; and
-- without a recoverer it has at most one error.
use Rattle.std.proofs.lemmas.Bool.{eqb-true}
use Rattle.std.proofs.lemmas.List.{nil_from_length}
use Rattle.std.proofs.lemmas.Result.{IfOk-at_ok}
use Rattle.std.proofs.Common.{IfOk, Bool, IsTrue, Ok, ◌==◌, eq-eqb, vec_len, ◌≡◌, ◌≤◌, ◌∙◌, ◌↔◌, ℕ, List, [], ◌∷◌, IsSome, MatchOption, None, Option, Result, Some, Vec, ap, arith, false, inl, inr, length, refl, subst, sym, true}
use Rattle.lrpar_parse_errors.specs.declared.errors.LexParseError.{LexParseError}
use Rattle.lrpar_parse_errors.specs.declared.errors.LexParseError.TheVariants.{LexError, ParseError}
use Rattle.lrpar_table_conditions.specs.Complete.{IsComplete}
use Rattle.lrpar_parse_run.specs.CompleteAnswer.{IsTreeOver}
use Rattle.lrpar_parse_run.specs.RepairAnswer.{SuppliesNone}
use Rattle.lrpar_parse_run.specs.RunAnswer.{HasNoValue, HasValue, IsOneWay}
use Rattle.lrpar_parse_run.specs.Subject.{Subject}
use Rattle.lrpar_grammar.specs.Tree.{Tree}
use Rattle.lrpar_parse.specs.Lexed.{first_error, lexemes_of}
use Rattle.lrpar_parse.specs.Parse.{Parses, ParsesToErrors}
use Rattle.lrpar_parse.specs.declared.fault.ParseFault.{ParseFault}
use Rattle.test_headline.proofs.AnswerLemmas.{Goes, by_error, by_run, of_answer, of_any}
use Rattle.test_headline.specs.Answered.{OfAnswer}
use Rattle.test_headline.specs.Sentences.{AnswersSentence, IsOfOnlyTree}

-- a lexing error isn't there and there at once
some_not_none : {A : Type 0} (o : Option A) (x : A) → o ≡ Some x → o ≡ None → ⊥
some_not_none o x some none = let differ : ◌≡◌ {A = Option _} (Some x) None = sym some ∙ none in cc

one_not_none : {A : Type 0} (xs : List A) (x : A) → xs ≡ x ∷ [] → xs ≡ [] → ⊥
one_not_none xs x one none = let differ : x ∷ [] ≡ [] = sym one ∙ none in cc

-- no error, if and only if the lexemes are a sentence
no_error_where_sentence : {T S L B C : Type 0} (about : Subject B) (errors_of : T → List (LexParseError S L B C)) (IsValued : Option (List B) → List ℕ → T → Type 0)
    → IsComplete about.checked.grammar about.checked.graph about.checked.table → (lexed : List (Result B C)) (answer : T) → Goes about errors_of IsValued lexed answer
    → (errors_of answer ≡ []) ↔ AnswersSentence (λ x. (about.facts x).token) about.checked.grammar lexed
no_error_where_sentence about errors_of IsValued complete lexed answer (by_error error some errors no_value) = (
  (λ none. absurd (one_not_none (errors_of answer) (LexError error) errors none)),
  (λ is. absurd (some_not_none (first_error lexed) error some is.no_error)),
)
no_error_where_sentence about errors_of IsValued complete lexed answer (by_run none is) =
    let exact = (is.complete complete).exact in (
      (λ free. record { no_error = none; sentence = exact.0 free }),
      (λ of. exact.1 of.sentence),
    )

-- without a recoverer there is at most one error
one_way_few : {S L B C Y : Type 0} (consumed : Option Y) (errors : List (LexParseError S L B C)) → IsOneWay consumed errors → length errors ≤ 1
one_way_few consumed errors (inl through) = let none : length errors ≡ 0 = ap length through.1 in omega (arith, none)
one_way_few consumed errors (inr (stopped, (failure, one))) = let so : length errors ≡ 1 = ap length one in omega (arith, so)

one_error_at_most : {T S L B C : Type 0} (about : Subject B) (errors_of : T → List (LexParseError S L B C)) (IsValued : Option (List B) → List ℕ → T → Type 0)
    → SuppliesNone about.allows → (lexed : List (Result B C)) (answer : T) → Goes about errors_of IsValued lexed answer → length (errors_of answer) ≤ 1
one_error_at_most about errors_of IsValued nothing lexed answer (by_error error some errors no_value) =
    let so : length (errors_of answer) ≡ 1 = ap length errors in omega (arith, so)
one_error_at_most about errors_of IsValued nothing lexed answer (by_run none is) = one_way_few is.whole_run.consumed (errors_of answer) (is.one_way nothing)

-- and so for the result of a parse
pub errors_are_few : {S L B C Z : Type 0} (about : Subject B) (lexes : List (Result B C) → Type 0) → SuppliesNone about.allows
    → (result : Result (Vec (LexParseError S L B C) Z) ParseFault) → ParsesToErrors about lexes result → IfOk result (λ errors. length errors.items ≤ 1)
errors_are_few about lexes nothing result parses =
    of_any about lexes (λ errors. errors.items) HasNoValue (λ errors. length errors.items ≤ 1)
    (λ lexed errors goes. one_error_at_most about (λ found. found.items) HasNoValue nothing lexed errors goes) result parses

-- the token of a lexeme
abbrev token : {B : Type 0} → Subject B → B → ℕ
token about x = (about.facts x).token

-- the value of what a run consumed is a value of each tree over the lexemes
module _ {V S L B C Z : Type 0} (about : Subject B) (Evaluates : Tree B → V → Type 0) (lexed : List (Result B C)) where
  -- there is a value if and only if no error came
  value_where_free : (consumed : Option (List B)) (prods : List ℕ) (answer : Option V × Vec (LexParseError S L B C) Z)
      → IsOneWay consumed answer.1.items → HasValue (token about) about.checked.grammar Evaluates consumed prods answer → IsSome answer.0 ↔ (answer.1.items ≡ [])
  value_where_free (Some xs) prods answer (inl through) (value, is, of) = ((λ _. through.1), (λ _. subst (λ (o : Option V). IsSome o) (sym is) refl))
  value_where_free (Some xs) prods answer (inr stopped) has = absurd (let differ : ◌≡◌ {A = Option (List B)} (Some xs) None = stopped.0 in let no : ⊥ = cc in no)
  value_where_free None prods answer (inl through) has = absurd (let differ : false ≡ true = through.0 in let no : ⊥ = cc in no)
  value_where_free None prods answer (inr (stopped, (failure, one))) none = (
    (λ some. absurd (let differ : false ≡ true = subst (λ (o : Option V). IsSome o) none some in let no : ⊥ = cc in no)),
    (λ free. absurd (one_not_none answer.1.items (ParseError failure) one free)),
  )

  -- and it is a value of each tree over them, if there is one tree only
  determined_by_each : (consumed : Option (List B)) (prods : List ℕ) (answer : Option V × Vec (LexParseError S L B C) Z) (tree : Tree B)
      → consumed ≡ Some (lexemes_of lexed) → HasValue (token about) about.checked.grammar Evaluates consumed prods answer → IsTreeOver (token about) about.checked.grammar (lexemes_of lexed) tree
      → ((t other : Tree B) → IsTreeOver (token about) about.checked.grammar (lexemes_of lexed) t → IsTreeOver (token about) about.checked.grammar (lexemes_of lexed) other → t ≡ other)
      → MatchOption answer.0 ⊥ (Evaluates tree)
  determined_by_each None prods answer tree all has over one = absurd (let no : ⊥ = cc in no)
  determined_by_each (Some xs) prods answer tree all (value, is, of) over one =
      let same : xs ≡ lexemes_of lexed = cc in
      let tree_is : of.tree ≡ tree = one of.tree tree (record { fits = of.fits; leaves_are = of.leaves_are ∙ same }) over in
      subst (λ (o : Option V). MatchOption o ⊥ (Evaluates tree)) (sym is) (subst (λ (t : Tree B). Evaluates t value) tree_is of.evaluates)

  only_tree : IsComplete about.checked.grammar about.checked.graph about.checked.table → SuppliesNone about.allows
      → (answer : Option V × Vec (LexParseError S L B C) Z) → Goes about (λ a. a.1.items) (HasValue (token about) about.checked.grammar Evaluates) lexed answer
      → IsOfOnlyTree (token about) about.checked.grammar Evaluates answer.0 lexed
  only_tree complete nothing answer (by_error error some errors no_value) = record {
    exact = (
      (λ there. absurd (let differ : false ≡ true = subst (λ (o : Option V). IsSome o) no_value there in let no : ⊥ = cc in no)),
      (λ is. absurd (some_not_none (first_error lexed) error some is.no_error)),
    );
    only = λ tree over none. absurd (some_not_none (first_error lexed) error some none);
  }
  only_tree complete nothing answer (by_run none is) =
      let whole_run = is.whole_run in
      let free = value_where_free whole_run.consumed whole_run.prods answer (is.one_way nothing) is.value in
      let takes = is.complete complete in
      record {
        exact = (
          (λ there. record { no_error = none; sentence = takes.exact.0 (free.0 there) }),
          (λ of. free.1 (takes.exact.1 of.sentence)),
        );
        only = λ tree over _.
            determined_by_each whole_run.consumed whole_run.prods answer tree (takes.whole (takes.exact.1 (tree, over.fits, over.leaves_are))) is.value over takes.one;
      }

-- what is empty has no element
empty_is : {A Z : Type 0} (v : Vec A Z) (empty : Bool) → empty ≡ (vec_len v == 0) → IsTrue empty ↔ (v.items ≡ [])
empty_is v empty is = (
  (λ so. nil_from_length v.items (sym v.ok.0 ∙ eqb-true (vec_len v) 0 (sym is ∙ so))),
  (λ none. is ∙ eq-eqb (vec_len v) 0 (v.ok.0 ∙ ap length none)),
)

module _ {S L B C Z : Type 0} (about : Subject B) (lexes : List (Result B C) → Type 0) where
  -- there is no error if and only if the lexemes are a sentence
  pub determined_by_errors : (IsValued : Option (List B) → List ℕ → Vec (LexParseError S L B C) Z → Type 0)
      → IsComplete about.checked.grammar about.checked.graph about.checked.table
      → (result : Result (Vec (LexParseError S L B C) Z) ParseFault) (errors : Vec (LexParseError S L B C) Z) (empty : Bool) → result ≡ Ok errors
      → empty ≡ (vec_len errors == 0) → Parses about lexes (λ found. found.items) IsValued result
      → OfAnswer lexes (λ lexed. IsTrue empty ↔ AnswersSentence (token about) about.checked.grammar lexed)
  determined_by_errors IsValued complete result errors empty is none parses =
      let Free : Vec (LexParseError S L B C) Z → List (Result B C) → Type 0 =
      λ found lexed. (found.items ≡ []) ↔ AnswersSentence (token about) about.checked.grammar lexed in
      let all = of_answer about lexes (λ found. found.items) IsValued Free (no_error_where_sentence about (λ found. found.items) IsValued complete) result parses in
      let here = IfOk-at_ok (λ found. OfAnswer lexes (Free found)) is all in
      let so = empty_is errors empty none in
      (here.0, here.1, ((λ yes. here.2.0 (so.0 yes)), (λ sentence. so.1 (here.2.1 sentence))))

  -- and the tree is the only one
  pub determined_by_tree : {V : Type 0} (Evaluates : Tree B → V → Type 0) → IsComplete about.checked.grammar about.checked.graph about.checked.table → SuppliesNone about.allows
      → (result : Result (Option V × Vec (LexParseError S L B C) Z) ParseFault) (answer : Option V × Vec (LexParseError S L B C) Z) → result ≡ Ok answer
      → Parses about lexes (λ a. a.1.items) (HasValue (token about) about.checked.grammar Evaluates) result
      → OfAnswer lexes (IsOfOnlyTree (token about) about.checked.grammar Evaluates answer.0)
  determined_by_tree {V} Evaluates complete nothing result answer is parses =
      IfOk-at_ok (λ a. OfAnswer lexes (IsOfOnlyTree (token about) about.checked.grammar Evaluates a.0)) is
      (of_answer about lexes (λ a. a.1.items) (HasValue (token about) about.checked.grammar Evaluates) (λ a lexed. IsOfOnlyTree (token about) about.checked.grammar Evaluates a.0 lexed)
      (λ lexed a goes. only_tree about Evaluates lexed complete nothing a goes) result parses)
