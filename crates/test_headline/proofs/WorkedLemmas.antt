-- The errors of a parse by a recoverer with one answer list the sequences of it that work.
use Rattle.std.proofs.Common.{IfOk, Vec, ◌≡◌, ◌∙◌, ◌⊎◌, ℕ, suc, zero, List, [], ◌∷◌, None, Option, Result, Some, ap, arith, inl, inr, map, refl, subst, sym}
use Rattle.std.specs.List.{AllZip, Contains}
use Rattle.lrpar_parse_errors.specs.Failure.{Failure}
use Rattle.lrpar_parse_errors.specs.declared.errors.LexParseError.{LexParseError}
use Rattle.lrpar_parse_errors.specs.declared.errors.LexParseError.TheVariants.{LexError, ParseError}
use Rattle.lrpar_parse_run.specs.RepairAnswer.{IsRepairErrorOf}
use Rattle.lrpar_parse_run.specs.RepairRun.{IsListedAt, IsRepairFailure, RepairRun, RepairStop, ends_there, is_repaired, runs_through}
use Rattle.lrpar_parse_run.specs.Subject.{Subject}
use Rattle.lrpar_parse_lexemes.specs.Repair.{Repair}
use Rattle.lrpar_parse.specs.Lexed.{first_error, lexemes_of}
use Rattle.lrpar_parse_repair.specs.Recovery.{Point}
use Rattle.lrpar_parse_repair.specs.Sequences.{PlainStep, AreThoseWith}
use Rattle.lrpar_parse_run.specs.RunAnswer.{HasNoValue}
use Rattle.lrpar_parse.specs.Parse.{ParsesToErrors}
use Rattle.lrpar_parse.specs.declared.fault.ParseFault.{ParseFault}
use Rattle.test_headline.proofs.AnswerLemmas.{Goes, by_error, by_run, of_answer}
use Rattle.test_headline.specs.Answered.{OfAnswer}
use Rattle.test_headline.specs.Worked.{EachListsWhatWorks, ListsWhatWorks, ListsWhatWorksAt, WorksAt, repairs_at}

-- an element of a list is its first or one of the others
cons_cases : {A : Type 0} (x : A) (xs : List A) (y : A) → Contains (x ∷ xs) y → (x ≡ y) ⊎ Contains xs y
cons_cases x xs y (zero, within, at) = inl at
cons_cases x xs y (suc k, within, at) = inr (k, omega arith, at)

cons_first : {A : Type 0} (x : A) (xs : List A) → Contains (x ∷ xs) x
cons_first x xs = (0, omega arith, refl)

cons_other : {A : Type 0} (x : A) (xs : List A) (y : A) → Contains xs y → Contains (x ∷ xs) y
cons_other x xs y (k, within, at) = (suc k, omega arith, at)

none_contained : {A : Type 0} (y : A) → Contains [] y → ⊥
none_contained y (k, within, at) = omega arith

-- those with P are those of the list that have P
those_contained : {A : Type 0} (P : A → Type 0) (xs ys : List A) (x : A) → AreThoseWith P xs ys → Contains xs x → P x → Contains ys x
those_contained P [] ys x those there has = absurd (none_contained x there)
those_contained {A} P (y ∷ xs) ys x (inl (good, (zs, rest, is))) there has =
    subst (λ (l : List A). Contains l x) (sym is)
    (elim (cons_cases y xs x there) as (λ _. Contains (y ∷ zs) x) [
      | inl same ↦ subst (λ (z : A). Contains (y ∷ zs) z) same (cons_first y zs)
      | inr later ↦ cons_other y zs x (those_contained P xs zs x rest later has)
    ])
those_contained {A} P (y ∷ xs) ys x (inr (bad, rest)) there has =
    elim (cons_cases y xs x there) as (λ _. Contains ys x) [
      | inl same ↦ absurd (bad (subst P (sym same) has))
      | inr later ↦ those_contained P xs ys x rest later has
    ]

those_are : {A : Type 0} (P : A → Type 0) (xs ys : List A) (y : A) → AreThoseWith P xs ys → Contains ys y → Contains xs y × P y
those_are {A} P [] ys y those there = absurd (none_contained y (subst (λ (l : List A). Contains l y) those there))
those_are {A} P (x ∷ xs) ys y (inl (good, (zs, rest, is))) there =
    elim (cons_cases x zs y (subst (λ (l : List A). Contains l y) is there)) as (λ _. Contains (x ∷ xs) y × P y) [
      | inl same ↦ (subst (λ (z : A). Contains (x ∷ xs) z) same (cons_first x xs), subst P same good)
      | inr later ↦ let found = those_are P xs zs y rest later in (cons_other x xs y found.0, found.1)
    ]
those_are {A} P (x ∷ xs) ys y (inr (bad, rest)) there =
    let found = those_are P xs ys y rest there in (cons_other x xs y found.0, found.1)

-- elements of a mapped list
mapped_contained : {A B : Type 0} (f : A → B) (xs : List A) (x : A) → Contains xs x → Contains (map f xs) (f x)
mapped_contained f [] x there = absurd (none_contained x there)
mapped_contained {B = B} f (y ∷ xs) x there =
    elim (cons_cases y xs x there) as (λ _. Contains (f y ∷ map f xs) (f x)) [
      | inl same ↦ subst (λ (z : B). Contains (f y ∷ map f xs) z) (ap f same) (cons_first (f y) (map f xs))
      | inr later ↦ cons_other (f y) (map f xs) (f x) (mapped_contained f xs x later)
    ]

contained_mapped : {A B : Type 0} (f : A → B) (xs : List A) (y : B) → Contains (map f xs) y → (x : A) × Contains xs x × (y ≡ f x)
contained_mapped f [] y there = absurd (none_contained y there)
contained_mapped {A} f (x ∷ xs) y there =
    elim (cons_cases (f x) (map f xs) y there) as (λ _. (z : A) × Contains (x ∷ xs) z × (y ≡ f z)) [
      | inl same ↦ (x, cons_first x xs, sym same)
      | inr later ↦ let found = contained_mapped f xs y later in (found.0, cons_other x xs found.0 found.1, found.2)
    ]

module _ {X : Type 0} (about : Subject X) (supplied : List (List PlainStep)) (lexemes : List X)
    (one : (point : Point X) (answer : List (List PlainStep)) → about.allows point answer → answer ≡ supplied) where
  -- the error of an error point lists what works there
  lists_at : (s : RepairStop) (failure : Failure X) → IsListedAt about.facts about.allows about.shifts about.checked.grammar about.checked.table lexemes s.stop s.listed
      → IsRepairFailure about.facts about.checked.grammar lexemes s failure → ListsWhatWorksAt about supplied lexemes s.stop failure
  lists_at s failure at is =
      let P : List PlainStep → Type 0 = WorksAt about supplied lexemes s.stop in
      let f : List PlainStep → List (Repair X) = repairs_at about supplied lexemes s.stop in
      let same : at.answer ≡ supplied = one (record { lexemes = lexemes; place = s.stop.place; stack = s.stop.stack }) at.answer at.allowed in
      let those : AreThoseWith P supplied s.listed = subst (λ (l : List (List PlainStep)). AreThoseWith P l s.listed) same at.those in
      record {
        state = is.state;
        lexeme = is.lexeme;
        all = λ steps there works.
            subst (λ (l : List (List (Repair X))). Contains l (f steps)) (sym is.repairs) (mapped_contained f s.listed steps (those_contained P supplied s.listed steps those there works));
        only = λ repairs there.
            let from = contained_mapped f s.listed repairs (subst (λ (l : List (List (Repair X))). Contains l repairs) is.repairs there) in
            let found = those_are P supplied s.listed from.0 those from.1 in
            (from.0, found.0, found.1, from.2);
        order = (s.listed, those, is.repairs);
      }

  lists_what_works : {S L C : Type 0} (s : RepairStop) (e : LexParseError S L X C) → IsListedAt about.facts about.allows about.shifts about.checked.grammar about.checked.table lexemes s.stop s.listed
      → IsRepairErrorOf about lexemes s e → ListsWhatWorks about supplied lexemes s e
  lists_what_works s (LexError e) at is = is
  lists_what_works s (ParseError failure) at is = lists_at s failure at is

  -- and so do all errors of a run
  each_lists : {S L C : Type 0} (st : List ℕ) (i : ℕ) (stops : List RepairStop) (consumed : Option (List X)) (prods : List ℕ) (errors : List (LexParseError S L X C))
      → RepairRun about.facts about.allows about.shifts about.checked.grammar about.checked.table lexemes st i stops consumed prods
      → AllZip (IsRepairErrorOf about lexemes) stops errors → AllZip (ListsWhatWorks about supplied lexemes) stops errors
  each_lists _ _ _ _ _ [] (runs_through st i prods far) zip = tt
  each_lists _ _ _ _ _ (e ∷ errors) (runs_through st i prods far) zip = absurd zip
  each_lists _ _ _ _ _ [] (ends_there st i prods stop far listed) zip = absurd zip
  each_lists _ _ _ _ _ (e ∷ []) (ends_there st i prods stop far listed) zip = (lists_what_works (record { stop = stop; listed = [] }) e listed zip.0, tt)
  each_lists _ _ _ _ _ (e ∷ f ∷ errors) (ends_there st i prods stop far listed) zip = absurd zip.1
  each_lists _ _ _ _ _ [] (is_repaired st i prods stop first listed made after j recovered found consumed rest far at replays eaten run) zip = absurd zip
  each_lists _ _ _ _ _ (e ∷ errors) (is_repaired st i prods stop first listed made after j recovered found consumed rest far at replays eaten run) zip =
      (lists_what_works (record { stop = stop; listed = first ∷ listed }) e at zip.0, each_lists after j found consumed rest errors run zip.1)

-- if there is no lexing error, each error lists the supplied sequences that work
each_lists_what_works : {T S L B C : Type 0} (about : Subject B) (supplied : List (List PlainStep)) (errors_of : T → List (LexParseError S L B C)) (IsValued : Option (List B) → List ℕ → T → Type 0)
    → ((point : Point B) (answer : List (List PlainStep)) → about.allows point answer → answer ≡ supplied)
    → (lexed : List (Result B C)) (answer : T) → Goes about errors_of IsValued lexed answer → first_error lexed ≡ None
    → EachListsWhatWorks about supplied (lexemes_of lexed) (errors_of answer)
each_lists_what_works about supplied errors_of IsValued one lexed answer (by_error error some errors no_value) none =
    absurd (let differ : ◌≡◌ {A = Option _} (Some error) None = sym some ∙ none in let no : ⊥ = cc in no)
each_lists_what_works about supplied errors_of IsValued one lexed answer (by_run free is) none =
    let whole_run = is.whole_run in
    record {
      whole_run = whole_run;
      each = each_lists about supplied (lexemes_of lexed) one (about.checked.table.start ∷ []) 0 whole_run.stops whole_run.consumed whole_run.prods (errors_of answer) whole_run.run is.errors;
    }

-- and so for the result of a parse
pub errors_list_what_works : {S L B C Z : Type 0} (about : Subject B) (lexes : List (Result B C) → Type 0) (supplied : List (List PlainStep))
    → ((point : Point B) (answer : List (List PlainStep)) → about.allows point answer → answer ≡ supplied)
    → (result : Result (Vec (LexParseError S L B C) Z) ParseFault) → ParsesToErrors about lexes result
    → IfOk result (λ errors. OfAnswer lexes (λ lexed. first_error lexed ≡ None → EachListsWhatWorks about supplied (lexemes_of lexed) errors.items))
errors_list_what_works about lexes supplied one result parses =
    of_answer about lexes (λ errors. errors.items) HasNoValue (λ errors lexed. first_error lexed ≡ None → EachListsWhatWorks about supplied (lexemes_of lexed) errors.items)
    (λ lexed errors goes none. each_lists_what_works about supplied (λ found. found.items) HasNoValue one lexed errors goes none) result parses
