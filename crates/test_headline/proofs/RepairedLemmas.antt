-- A value comes if and only if each error lists a repair; and what a run consumes are its lexemes as first repaired.
use Rattle.std.proofs.Common.{◌≡◌, ◌≢◌, ◌+◌, ◌∙◌, ◌↔◌, ◌++◌, ℕ, List, [], ◌∷◌, All, IsSome, IfOk, IfSome, None, Option, Result, Some, Vec, ap, arith, drop, false, true, map, option_map, refl, subst, sym}
use Rattle.std.proofs.lemmas.List.Elements.{All-nil, All-cons, All-head, All-tail}
use Rattle.std.specs.List.{AllZip}
use Rattle.lrpar_parse_errors.specs.declared.errors.LexParseError.{LexParseError}
use Rattle.lrpar_parse_errors.specs.declared.errors.LexParseError.TheVariants.{LexError, ParseError}
use Rattle.lrpar_parse_run.specs.RepairAnswer.{IsRepairErrorOf}
use Rattle.lrpar_parse_run.specs.RepairRun.{RepairRun, RepairStop, ends_there, fed_between, is_repaired, runs_through}
use Rattle.lrpar_parse_run.specs.RunAnswer.{HasValue}
use Rattle.lrpar_parse_run.specs.Subject.{Subject}
use Rattle.lrpar_grammar.specs.Grammar.{Grammar}
use Rattle.lrpar_grammar.specs.Sentence.{LexemeFacts}
use Rattle.lrpar_grammar.specs.Tree.{Tree, leaves}
use Rattle.lrpar_parse.specs.EveryText.{ListsRepair}
use Rattle.lrpar_parse.specs.Lexed.{first_error, lexemes_of}
use Rattle.lrpar_parse.specs.RepairLaws.{AcceptsWhereRepaired}
use Rattle.lrpar_table_rows.specs.Table.{Table}
use Rattle.lrpar_parse_repair.specs.Repaired.{repairs_over}
use Rattle.lrpar_parse_repair.specs.Recovery.{Point}
use Rattle.lrpar_parse_repair.specs.Replays.{places_of}
use Rattle.lrpar_parse_repair.specs.Sequences.{PlainStep, PlainInsert, PlainDelete, PlainShift, Replays}
use Rattle.lrpar_parse.specs.Parse.{ParsesTo}
use Rattle.lrpar_parse.specs.declared.fault.ParseFault.{ParseFault}
use Rattle.test_headline.proofs.AnswerLemmas.{Goes, by_error, by_run, of_answer, of_any}
use Rattle.test_headline.specs.Answered.{OfAnswer}
use Rattle.test_headline.specs.Repaired.{AsFirstRepaired, IsValueOfRepaired}

-- an option that is there is `Some`
is_there : {A : Type 0} (o : Option A) (x : A) → o ≡ Some x → IsSome o
is_there {A} o x e = subst (λ (w : Option A). IsSome w) (sym e) refl

not_there : {A : Type 0} (o : Option A) → o ≡ None → IsSome o → ⊥
not_there {A} o none some = let no : false ≡ true = subst (λ (w : Option A). IsSome w) none some in cc

-- a mapped list has elements if and only if the list has
mapped_some : {A B : Type 0} (f : A → B) (xs : List A) → (map f xs ≢ []) ↔ (xs ≢ [])
mapped_some f [] = (λ some. absurd (some refl), λ some. absurd (some refl))
mapped_some f (x ∷ xs) = ((λ _ e. (cc)), (λ _ e. (cc)))

module _ {S L B C : Type 0} (about : Subject B) (lexemes : List B) where
  -- an error lists a repair if and only if a sequence is listed at its error point
  error_lists : (s : RepairStop) (e : LexParseError S L B C) → IsRepairErrorOf about lexemes s e → (s.listed ≢ []) ↔ ListsRepair e
  error_lists s (LexError e) is = absurd is
  error_lists s (ParseError failure) is =
      let by = mapped_some (repairs_over (drop s.stop.place lexemes)) s.listed in (
        λ some none. by.1 some (sym is.repairs ∙ none),
        λ some none. some (is.repairs ∙ ap (map (repairs_over (drop s.stop.place lexemes))) none),
      )

  -- and so all errors do if one is listed at each error point
  errors_list : (stops : List RepairStop) (errors : List (LexParseError S L B C)) → AllZip (IsRepairErrorOf about lexemes) stops errors
      → All (λ s. s.listed ≢ []) stops ↔ All ListsRepair errors
  errors_list [] [] zip = (λ _. All-nil ListsRepair, λ _. All-nil (λ s. s.listed ≢ []))
  errors_list [] (e ∷ errors) zip = absurd zip
  errors_list (s ∷ stops) [] zip = absurd zip
  errors_list (s ∷ stops) (e ∷ errors) zip =
      let here = error_lists s e zip.0 in
      let there = errors_list stops errors zip.1 in (
        λ all. All-cons ListsRepair e errors (here.0 (All-head (λ s. s.listed ≢ []) s stops all)) (there.0 (All-tail (λ s. s.listed ≢ []) s stops all)),
        λ all. All-cons (λ s. s.listed ≢ []) s stops (here.1 (All-head ListsRepair e errors all)) (there.1 (All-tail ListsRepair e errors all)),
      )

-- there is a value if and only if something was consumed
value_there : {X V F Z : Type 0} (token : X → ℕ) (g : Grammar) (Evaluates : Tree X → V → Type 0) (consumed : Option (List X)) (prods : List ℕ) (answer : Option V × Vec F Z)
    → HasValue token g Evaluates consumed prods answer → IsSome answer.0 ↔ IsSome consumed
value_there token g Evaluates None prods answer none = (
  (λ some. absurd (not_there answer.0 none some)),
  (λ some. absurd (let differ : false ≡ true = some in let no : ⊥ = cc in no)),
)
value_there token g Evaluates (Some xs) prods answer (value, is, of) = ((λ _. refl), (λ _. is_there answer.0 value is))

-- a value comes if and only if each error lists a repair
value_where_repaired : {V S L B C Z : Type 0} (about : Subject B) (Evaluates : Tree B → V → Type 0) → AcceptsWhereRepaired about.facts about.allows
    → (lexed : List (Result B C)) (answer : Option V × Vec (LexParseError S L B C) Z)
    → Goes about (λ a. a.1.items) (HasValue (λ x. (about.facts x).token) about.checked.grammar Evaluates) lexed answer
    → IsSome answer.0 ↔ All ListsRepair answer.1.items
value_where_repaired about Evaluates accepts lexed answer (by_error error some errors none) = (
  (λ there. absurd (not_there answer.0 none there)),
  (λ all. absurd (All-head ListsRepair (LexError error) [] (subst (All ListsRepair) errors all))),
)
value_where_repaired about Evaluates accepts lexed answer (by_run none is) =
    let whole_run = is.whole_run in
    let value = value_there (λ x. (about.facts x).token) about.checked.grammar Evaluates whole_run.consumed whole_run.prods answer is.value in
    let run = accepts about.shifts about.checked.grammar about.checked.table (lexemes_of lexed) (about.checked.table.start ∷ []) whole_run.stops whole_run.consumed whole_run.prods whole_run.run in
    let zip = errors_list about (lexemes_of lexed) whole_run.stops answer.1.items is.errors in (
      λ some. zip.0 (run.0 (value.0 some)),
      λ all. value.1 (run.1 (zip.1 all)),
    )

-- and so for the result of a parse
pub values_where_repaired : {V S L B C Z : Type 0} (about : Subject B) (lexes : List (Result B C) → Type 0) (Evaluates : Tree B → V → Type 0) → AcceptsWhereRepaired about.facts about.allows
    → (result : Result (Option V × Vec (LexParseError S L B C) Z) ParseFault) → ParsesTo about lexes Evaluates result
    → IfOk result (λ answer. IsSome answer.0 ↔ All ListsRepair answer.1.items)
values_where_repaired about lexes Evaluates accepts result parses =
    of_any about lexes (λ a. a.1.items) (HasValue (λ x. (about.facts x).token) about.checked.grammar Evaluates) (λ answer. IsSome answer.0 ↔ All ListsRepair answer.1.items)
    (λ lexed answer goes. value_where_repaired about Evaluates accepts lexed answer goes) result parses

-- steps that are replayed use up this number of places
replay_places : {X : Type 0} (token : X → ℕ) (g : Grammar) (table : Table) (lexemes : List X) (st : List ℕ) (i : ℕ) (steps : List PlainStep) (prods after : List ℕ) (j : ℕ)
    → Replays token g table lexemes st i steps prods after j → j ≡ i + places_of steps
replay_places token g table lexemes st i [] prods after j r = omega (arith, r.2)
replay_places token g table lexemes st i (PlainInsert t ∷ steps) prods after j (first, next, mid, rest, step, more, _) =
    let there = replay_places token g table lexemes next mid steps rest after j more in omega (arith, there, step.2)
replay_places token g table lexemes st i (PlainDelete ∷ steps) prods after j (first, next, mid, rest, step, more, _) =
    let there = replay_places token g table lexemes next mid steps rest after j more in omega (arith, there, step.3)
replay_places token g table lexemes st i (PlainShift ∷ steps) prods after j (first, next, mid, rest, step, more, _) =
    let there = replay_places token g table lexemes next mid steps rest after j more in omega (arith, there, step.2)

-- an option that maps to `Some` is `Some`
mapped_from : {A B : Type 0} (f : A → B) (o : Option A) (y : B) → option_map f o ≡ Some y → (x : A) × (o ≡ Some x) × (y ≡ f x)
mapped_from f None y e = absurd (let no : ⊥ = cc in no)
mapped_from f (Some x) y e = (x, refl, cc)

-- what a run consumes are the lexemes as first repaired
consumes_repaired : {X : Type 0} (facts : X → LexemeFacts) (allows : Point X → List (List PlainStep) → Type 0) (k : ℕ) (g : Grammar) (table : Table) (lexemes : List X)
    (st : List ℕ) (i : ℕ) (stops : List RepairStop) (consumed : Option (List X)) (prods : List ℕ) (xs : List X)
    → RepairRun facts allows k g table lexemes st i stops consumed prods → consumed ≡ Some xs → AsFirstRepaired facts lexemes i stops xs
consumes_repaired facts allows k g table lexemes _ _ _ _ _ xs (runs_through st i prods far) is = cc
consumes_repaired facts allows k g table lexemes _ _ _ _ _ xs (ends_there st i prods stop far listed) is = absurd (let no : ⊥ = cc in no)
consumes_repaired facts allows k g table lexemes _ _ _ _ _ xs (is_repaired st i prods stop first listed made after j recovered found consumed rest far at replays eaten run) is =
    let past = replay_places (λ x. (facts x).token) g table lexemes stop.stack stop.place first made after j replays in
    let whole = mapped_from (λ ys. fed_between lexemes i stop.place ++ recovered ++ ys) consumed xs is in
    let more = consumes_repaired facts allows k g table lexemes after j found consumed rest whole.0 run whole.1 in
    (first, listed, refl, (recovered, whole.0, eaten, subst (λ (m : ℕ). AsFirstRepaired facts lexemes m found whole.0) past more, whole.2))

-- what was consumed is a value's tree over the lexemes as first repaired
value_repaired : {V S L B C Z : Type 0} (about : Subject B) (Evaluates : Tree B → V → Type 0) (lexed : List (Result B C)) (answer : Option V × Vec (LexParseError S L B C) Z)
    (stops : List RepairStop) (consumed : Option (List B)) (prods : List ℕ) (value : Option V)
    → first_error lexed ≡ None → AllZip (IsRepairErrorOf about (lexemes_of lexed)) stops answer.1.items
    → RepairRun about.facts about.allows about.shifts about.checked.grammar about.checked.table (lexemes_of lexed) (about.checked.table.start ∷ []) 0 stops consumed prods
    → HasValue (λ x. (about.facts x).token) about.checked.grammar Evaluates consumed prods answer → answer.0 ≡ value
    → IfSome value (IsValueOfRepaired about Evaluates lexed answer.1.items)
value_repaired about Evaluates lexed answer stops consumed prods None none errors run has is = tt
value_repaired about Evaluates lexed answer stops None prods (Some value) none errors run no_value is = absurd (not_there answer.0 no_value (is_there answer.0 value is))
value_repaired about Evaluates lexed answer stops (Some xs) prods (Some value) none errors run (found, found_is, of) is =
    let same : found ≡ value = let both : ◌≡◌ {A = Option _} (Some found) (Some value) = sym found_is ∙ is in cc in
    record {
      no_error = none;
      stops = stops;
      errors_are = errors;
      tree = of.tree;
      fits = of.fits;
      leaves_are = consumes_repaired about.facts about.allows about.shifts about.checked.grammar about.checked.table (lexemes_of lexed) (about.checked.table.start ∷ []) 0 stops (Some xs) prods (leaves of.tree) run (ap Some (sym of.leaves_are));
      evaluates = subst (Evaluates of.tree) same of.evaluates;
    }

value_of_repaired : {V S L B C Z : Type 0} (about : Subject B) (Evaluates : Tree B → V → Type 0) (lexed : List (Result B C)) (answer : Option V × Vec (LexParseError S L B C) Z)
    → Goes about (λ a. a.1.items) (HasValue (λ x. (about.facts x).token) about.checked.grammar Evaluates) lexed answer
    → IfSome answer.0 (IsValueOfRepaired about Evaluates lexed answer.1.items)
value_of_repaired {V = V} about Evaluates lexed answer (by_error error some errors none) = subst (λ (o : Option V). IfSome o (IsValueOfRepaired about Evaluates lexed answer.1.items)) (sym none) tt
value_of_repaired about Evaluates lexed answer (by_run none is) =
    value_repaired about Evaluates lexed answer is.whole_run.stops is.whole_run.consumed is.whole_run.prods answer.0 none is.errors is.whole_run.run is.value refl

-- and so for the result of a parse
pub values_of_repaired : {V S L B C Z : Type 0} (about : Subject B) (lexes : List (Result B C) → Type 0) (Evaluates : Tree B → V → Type 0)
    (result : Result (Option V × Vec (LexParseError S L B C) Z) ParseFault) → ParsesTo about lexes Evaluates result
    → IfOk result (λ answer. OfAnswer lexes (λ lexed. IfSome answer.0 (IsValueOfRepaired about Evaluates lexed answer.1.items)))
values_of_repaired about lexes Evaluates result parses =
    of_answer about lexes (λ a. a.1.items) (HasValue (λ x. (about.facts x).token) about.checked.grammar Evaluates)
    (λ answer lexed. IfSome answer.0 (IsValueOfRepaired about Evaluates lexed answer.1.items))
    (λ lexed answer goes. value_of_repaired about Evaluates lexed answer goes) result parses
