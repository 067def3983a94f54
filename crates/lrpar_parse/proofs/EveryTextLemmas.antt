-- A recoverer that always repairs: each error point of a run is one at which it is asked, so a sequence is listed there. Then the run
-- accepts, and the parse has a value.
use Rattle.std.proofs.Common.{◌≡◌, ◌≢◌, ◌<◌, ◌≤◌, ◌+◌, ◌∙◌, inl, inr, ℕ, zero, suc, List, [], ◌∷◌, All, Contains, IsSome, MatchOption, None, Option, Ok, Err, Result, Some, Vec, arith, drop, get_or, length, map, refl, subst, sym}
use Rattle.std.specs.List.{AllZip}
use Rattle.std.proofs.lemmas.Bool.{cases_lt}
use Rattle.std.proofs.lemmas.List.Elements.{All-nil, All-cons, All-head, All-tail}
use Rattle.std.proofs.lemmas.Option.{slice_get_cases}
use Rattle.lrpar_grammar.specs.Grammar.{Grammar, end_token}
use Rattle.lrpar_grammar.specs.Sentence.{HasGoodTokens, HasOrderedStarts, IsFirstBadToken, IsFirstEarlyStart, IsValidList, LexemeFacts}
use Rattle.lrpar_grammar.specs.Tree.{Tree}
use Rattle.lrpar_table_rows.specs.Table.{Table}
use Rattle.lrpar_table_check.specs.Checked.{Checked, IsChecked}
use Rattle.lrpar_table_stacks.specs.Run.{Stopped}
use Rattle.lrpar_parse_errors.specs.declared.errors.LexParseError.{LexParseError}
use Rattle.lrpar_parse_errors.specs.declared.errors.LexParseError.TheVariants.{LexError, ParseError}
use Rattle.lrpar_parse_repair.specs.AlwaysRepairs.{AlwaysRepairs}
use Rattle.lrpar_parse_repair.specs.Asked.{Asked, IsStop, allowed_at, asked_at}
use Rattle.lrpar_parse_repair.specs.Recovery.{Point}
use Rattle.lrpar_parse_repair.specs.Repaired.{repairs_over}
use Rattle.lrpar_parse_repair.specs.Sequences.{PlainStep, AreThoseWith, Works}
use Rattle.lrpar_parse_repair.proofs.ReplayLemmas.{far_stops}
use Rattle.lrpar_parse_repair.proofs.TokenLemmas.{good_token}
use Rattle.lrpar_parse_run.specs.RepairAnswer.{IsRepairAnswer, IsRepairErrorOf}
use Rattle.lrpar_parse_run.specs.RepairRun.{IsListedAt, RepairRun, RepairStop, ends_there, is_repaired, runs_through}
use Rattle.lrpar_parse_run.specs.RunAnswer.{HasNoValue, HasValue}
use Rattle.lrpar_parse_run.specs.Subject.{Subject}
use Rattle.lrpar_parse.specs.EveryText.{AcceptsEveryText, HasRepairsOfText, HasValueOfText, ListsRepair, RepairsText}
use Rattle.lrpar_parse.specs.Lexed.{first_error, lexemes_of}
use Rattle.lrpar_parse.specs.Parse.{IsParse, Parses, ParsesTo, ParsesToErrors, lexeme_facts}
use Rattle.lrpar_parse.specs.Values.{ComesOut, ParsesToValue}
use Rattle.lrpar_parse.specs.declared.fault.ParseFault.{ParseFault}
use Rattle.lrpar_parse.specs.declared.fault.ParseFault.TheVariants.{BadToken, Memory, StartsDecrease}
use Rattle.lrpar_parse.proofs.LexemeLemmas.{IsPreviousStart, early_here, good_more, next_previous, ordered_more}
use Rattle.lrpar_parse.proofs.ParseLemmas.{ok_not_err}
use Rattle.lrpar_parse.proofs.RepairRunLemmas.{accepts_where_repaired}
use Rattle.lrpar_parse.proofs.StopStackLemmas.{stops_at_stacks, stops_by_failing}

-- if a member has P, the list of those with P isn't empty
those_some : {A : Type 0} (P : A → Type 0) (xs ys : List A) (x : A) → AreThoseWith P xs ys → Contains xs x → P x → ys ≢ []
those_some P [] ys x those (k, below, is) p none = absurd (omega (arith, below))
those_some {A} P (z ∷ xs) ys x (inl (q, (zs, rest, are))) there p none = absurd (let no : ◌≡◌ {A = List A} (z ∷ zs) [] = sym are ∙ none in let differ : ⊥ = cc in differ)
those_some {A} P (z ∷ xs) ys x (inr (fails, rest)) (zero, below, is) p none = absurd (fails (subst P (sym is) p))
those_some {A} P (z ∷ xs) ys x (inr (fails, rest)) (suc k, below, is) p none = those_some P xs ys x rest (k, omega (arith, below), is) p none

module _ {X : Type 0} (facts : X → LexemeFacts) (allows : Point X → List (List PlainStep) → Type 0) (k : ℕ) (g : Grammar) (table : Table) (lexemes : List X) where
  abbrev pub token_of : X → ℕ
  token_of x = (facts x).token

  -- an error point in the input, and what is listed there is as the definition of a run says
  pub record IsAsked (s : RepairStop) : Type 0 where
    pub within : s.stop.place ≤ length lexemes
    pub listed : IsListedAt facts allows k g table lexemes s.stop s.listed

  -- so is each error point of a run
  run_asks : (st : List ℕ) (i : ℕ) (found : List RepairStop) (consumed : Option (List X)) (prods : List ℕ)
      → RepairRun facts allows k g table lexemes st i found consumed prods → All IsAsked found
  run_asks _ _ _ _ _ (runs_through st i prods far) = All-nil IsAsked
  run_asks _ _ _ _ _ (ends_there st i prods stop far at) =
      let h = far_stops token_of g table lexemes st i prods (Stopped stop) far in
      All-cons IsAsked (record { stop = stop; listed = [] }) [] (record { within = h.1; listed = at }) (All-nil IsAsked)
  run_asks _ _ _ _ _ (is_repaired st i prods stop first listed made after j recovered found consumed rest far at replays eaten run) =
      let h = far_stops token_of g table lexemes st i prods (Stopped stop) far in
      All-cons IsAsked (record { stop = stop; listed = first ∷ listed }) found (record { within = h.1; listed = at }) (run_asks after j found consumed rest run)

module _ {X : Type 0} (facts : X → LexemeFacts) (allows : Asked X → List (List PlainStep) → Type 0) where
  pub accepts_every_text : AcceptsEveryText facts allows
  accepts_every_text d k lexemes st found consumed prods always checked some valid stack run =
      let token : X → ℕ = λ x. (facts x).token in
      let asks = run_asks facts (allowed_at allows d k) k d.grammar d.table lexemes st 0 found consumed prods run in
      let stacks = stops_at_stacks facts (allowed_at allows d k) d k lexemes st found consumed prods checked valid stack run in
      let fails = stops_by_failing facts (allowed_at allows d k) d k lexemes st found consumed prods checked valid stack run in
      let repaired : All (λ (s : RepairStop). s.listed ≢ []) found = λ n s below.
      let stop = (get_or found n s).stop in
      let at = asked_at d k (record { lexemes = lexemes; place = stop.place; stack = stop.stack }) in
      let asked = asks n s below in
      let is_stop : IsStop token at = record {
        checked = checked;
        shifts = some;
        within = asked.within;
        tokens = λ j x there. good_token facts d.grammar lexemes j x valid there;
        stack = stacks n s below;
        fails = fails n s below;
      } in
      let works = always at is_stop refl asked.listed.answer asked.listed.allowed in
      those_some (Works token d.grammar d.table lexemes k stop.stack stop.place) asked.listed.answer (get_or found n s).listed works.0 asked.listed.those works.1 works.2 in
      (repaired, (accepts_where_repaired facts (allowed_at allows d k) k d.grammar d.table lexemes st found consumed prods run).1 repaired)

-- a list of which no lexeme is the first with a fault is valid
module _ (g : Grammar) (lexemes : List LexemeFacts) (no_bad : (i : ℕ) → ¬ (IsFirstBadToken g lexemes i)) (no_early : (i : ℕ) → ¬ (IsFirstEarlyStart g lexemes i)) where
  previous_start : (n : ℕ) → n ≤ length lexemes → (start : ℕ) × IsPreviousStart lexemes n start
  previous_start zero within = (0, inl (refl, refl))
  previous_start (suc m) within =
      elim (slice_get_cases lexemes m).1 as (λ _. (start : ℕ) × IsPreviousStart lexemes (suc m) start) [
        | inl found ↦
            let next : m + 1 ≡ suc m = omega arith in
            (found.0.span.start, subst (λ (n : ℕ). IsPreviousStart lexemes n found.0.span.start) next (next_previous lexemes m found.0.span.start found.0 found.2 refl))
        | inr past ↦ absurd (omega (arith, past.0, within))
      ]

  valid_up_to : (n : ℕ) → n ≤ length lexemes → HasGoodTokens g lexemes n × HasOrderedStarts lexemes n
  valid_up_to zero within = ((λ k x below. absurd (omega (arith, below))), (λ k x y below. absurd (omega (arith, below))))
  valid_up_to (suc n) within =
      let before = valid_up_to n (omega (arith, within)) in
      let previous = previous_start n (omega (arith, within)) in
      let next : n + 1 ≡ suc n = omega arith in
      elim (slice_get_cases lexemes n).1 as (λ _. HasGoodTokens g lexemes (suc n) × HasOrderedStarts lexemes (suc n)) [
        | inl found ↦
            elim (cases_lt found.0.token (end_token g)) as (λ _. HasGoodTokens g lexemes (suc n) × HasOrderedStarts lexemes (suc n)) [
              | inl good ↦
                  elim (cases_lt found.0.span.start previous.0) as (λ _. HasGoodTokens g lexemes (suc n) × HasOrderedStarts lexemes (suc n)) [
                    | inl early ↦
                        absurd (no_early n (record {
                          early = early_here lexemes n previous.0 found.0 previous.1 found.2 early;
                          tokens = good_more g lexemes n found.0 before.0 found.2 good;
                          starts = before.1;
                        }))
                    | inr later ↦ (
                      subst (HasGoodTokens g lexemes) next (good_more g lexemes n found.0 before.0 found.2 good),
                      subst (HasOrderedStarts lexemes) next (ordered_more lexemes n previous.0 found.0 before.1 previous.1 found.2 later),
                    )
                  ]
              | inr bad ↦ absurd (no_bad n (record { bad = (found.0, found.2, bad); tokens = before.0; starts = before.1 }))
            ]
        | inr past ↦ absurd (omega (arith, past.0, within))
      ]

  valid_without_fault : IsValidList g lexemes
  valid_without_fault = let all = valid_up_to (length lexemes) (omega arith) in record { tokens = all.0; starts = all.1 }

-- a mapped list has elements if the list has
mapped_some : {A B : Type 0} (f : A → B) (xs : List A) → xs ≢ [] → map f xs ≢ []
mapped_some f [] some = absurd (some refl)
mapped_some f (x ∷ xs) some = λ e. (cc)

-- if a sequence is listed at each error point, each error lists a repair
errors_list : {S L B C : Type 0} (about : Subject B) (lexemes : List B) (stops : List RepairStop) (errors : List (LexParseError S L B C))
    → AllZip (IsRepairErrorOf about lexemes) stops errors → All (λ s. s.listed ≢ []) stops → All ListsRepair errors
errors_list about lexemes [] [] zip all = All-nil ListsRepair
errors_list about lexemes [] (e ∷ errors) zip all = absurd zip
errors_list about lexemes (s ∷ stops) [] zip all = absurd zip
errors_list about lexemes (s ∷ stops) (LexError e ∷ errors) zip all = absurd zip.0
errors_list about lexemes (s ∷ stops) (ParseError failure ∷ errors) zip all =
    let some = mapped_some (repairs_over (drop s.stop.place lexemes)) s.listed (All-head (λ s. s.listed ≢ []) s stops all) in
    All-cons ListsRepair (ParseError failure) errors (λ none. some (sym zip.0.repairs ∙ none)) (errors_list about lexemes stops errors zip.1 (All-tail (λ s. s.listed ≢ []) s stops all))

-- there is a value if something was consumed
value_there : {X V F Z : Type 0} (token : X → ℕ) (g : Grammar) (Evaluates : Tree X → V → Type 0) (consumed : Option (List X)) (prods : List ℕ) (answer : Option V × Vec F Z)
    → IsSome consumed → HasValue token g Evaluates consumed prods answer → IsSome answer.0
value_there token g Evaluates None prods answer some none = absurd (cc)
value_there {V = V} token g Evaluates (Some xs) prods answer some (value, is, of) = subst (λ (o : Option V). IsSome o) (sym is) refl

-- what is known of an answer is known of another one with the same errors, which has a value if the first has
answer_as : {V W S L B C : Type 0} (error : Option C) (before : Option V) (after : Option W) (errors : List (LexParseError S L B C)) → (IsSome before → IsSome after)
    → MatchOption error (All ListsRepair errors × IsSome before) (λ e. errors ≡ LexError e ∷ [])
    → MatchOption error (All ListsRepair errors × IsSome after) (λ e. errors ≡ LexError e ∷ [])
answer_as None before after errors keeps has = (has.0, keeps has.1)
answer_as (Some e) before after errors keeps has = has

-- a recoverer that always repairs over the table, of a parse over which k lexemes must follow a repair
module _ {X : Type 0} (facts : X → LexemeFacts) (allows : Asked X → List (List PlainStep) → Type 0) (d : Checked) (k : ℕ)
    (always : AlwaysRepairs (λ x. (facts x).token) allows d) (checked : IsChecked d) (some : 0 < k) where
  -- what the parse is about
  abbrev pub about : Subject X
  about = record { checked = d; facts = facts; allows = allowed_at allows d k; shifts = k }

  -- `whole` says that an answer has a value if its run accepts
  module _ {T S L C : Type 0} (errors_of : T → List (LexParseError S L X C)) (IsValued : Option (List X) → List ℕ → T → Type 0) (IsWhole : T → Type 0)
      (whole : (consumed : Option (List X)) (prods : List ℕ) (answer : T) → IsSome consumed → IsValued consumed prods answer → IsWhole answer) where
    -- the answer of a run over a valid list
    run_repairs : (lexemes : List X) (answer : T) → IsValidList d.grammar (map facts lexemes) → IsRepairAnswer about errors_of IsValued lexemes answer
        → All ListsRepair (errors_of answer) × IsWhole answer
    run_repairs lexemes answer valid is =
        let run = is.whole_run in
        let both = accepts_every_text facts allows d k lexemes (d.table.start ∷ []) run.stops run.consumed run.prods always checked some valid (refl, tt) run.run in
        (errors_list about lexemes run.stops (errors_of answer) is.errors both.0, whole run.consumed run.prods answer both.1 is.value)

    -- the answer of a parse, by the first lexing error
    answer_repairs : (lexed : List (Result X C)) (answer : T) (error : Option C) → first_error lexed ≡ error → IsParse about errors_of IsValued lexed (Ok answer)
        → MatchOption error (All ListsRepair (errors_of answer) × IsWhole answer) (λ e. errors_of answer ≡ LexError e ∷ [])
    answer_repairs lexed answer (Some error) is_some is = (is.lexing_error error is_some).0
    answer_repairs lexed answer None none is =
        let valid = valid_without_fault d.grammar (lexeme_facts facts lexed)
        (λ i bad. ok_not_err answer (BadToken i) ((is.bad_token i).1 (none, bad)))
        (λ i early. ok_not_err answer (StartsDecrease i) ((is.starts_decrease i).1 (none, early))) in
        run_repairs (lexemes_of lexed) answer valid (is.run none)

    -- the result of a parse
    parse_repairs : (lexes : List (Result X C) → Type 0) (result : Result T ParseFault) → Parses about lexes errors_of IsValued result → RepairsText lexes errors_of IsWhole result
    parse_repairs lexes (Err fault) parses = tt
    parse_repairs lexes (Ok answer) (inl memory) = absurd (ok_not_err answer Memory memory)
    parse_repairs lexes (Ok answer) (inr (lexed, allowed, is)) = (lexed, allowed, answer_repairs lexed answer (first_error lexed) refl is)

  -- the result of a parse that returns errors and a value
  pub has_value : {V S L C Z : Type 0} (lexes : List (Result X C) → Type 0) (Evaluates : Tree X → V → Type 0) (result : Result (Option V × Vec (LexParseError S L X C) Z) ParseFault)
      → ParsesTo about lexes Evaluates result → HasValueOfText lexes result
  has_value {V} {S} {L} {C} {Z} lexes Evaluates result parses =
      parse_repairs {T = Option V × Vec (LexParseError S L X C) Z} (λ answer. answer.1.items) (HasValue (λ x. (facts x).token) d.grammar Evaluates) (λ answer. IsSome answer.0)
      (value_there (λ x. (facts x).token) d.grammar Evaluates) lexes result parses

  -- of one that returns errors alone
  pub has_repairs : {S L C Z : Type 0} (lexes : List (Result X C) → Type 0) (result : Result (Vec (LexParseError S L X C) Z) ParseFault)
      → ParsesToErrors about lexes result → HasRepairsOfText lexes result
  has_repairs {S} {L} {C} {Z} lexes result parses =
      parse_repairs {T = Vec (LexParseError S L X C) Z} (λ errors. errors.items) HasNoValue (λ errors. Unit {0}) (λ consumed prods answer accepts none. tt) lexes result parses

  -- what comes out of a parse to a value or an error
  comes_out : {V E S L C Z : Type 0} (lexes : List (Result X C) → Type 0) (converts : ParseFault → E → Type 0)
      (parsed : Result (Option (Result V E) × Vec (LexParseError S L X C) Z) ParseFault) (result : Result (Option V × Vec (LexParseError S L X C) Z) E)
      → HasValueOfText lexes parsed → ComesOut converts parsed result → HasValueOfText lexes result
  comes_out {V} {E} {S} {L} {C} {Z} lexes converts (Ok (None, rest)) result (lexed, allowed, has) out =
      subst (λ (r : Result (Option V × Vec (LexParseError S L X C) Z) E). HasValueOfText lexes r) (sym out)
      (lexed, allowed, answer_as {V = Result V E} {W = V} (first_error lexed) None None rest.items (λ no. no) has)
  comes_out {V} {E} {S} {L} {C} {Z} lexes converts (Ok (Some (Ok value), rest)) result (lexed, allowed, has) out =
      subst (λ (r : Result (Option V × Vec (LexParseError S L X C) Z) E). HasValueOfText lexes r) (sym out)
      (lexed, allowed, answer_as {V = Result V E} {W = V} (first_error lexed) (Some (Ok value)) (Some value) rest.items (λ some. some) has)
  comes_out {V} {E} {S} {L} {C} {Z} lexes converts (Ok (Some (Err error), rest)) result has out =
      subst (λ (r : Result (Option V × Vec (LexParseError S L X C) Z) E). HasValueOfText lexes r) (sym out) tt
  comes_out lexes converts (Err fault) (Ok answer) has out = absurd out
  comes_out lexes converts (Err fault) (Err error) has out = tt

  -- of one that returns errors and a value that may be an error
  pub has_outcome : {V E S L C Z : Type 0} (lexes : List (Result X C) → Type 0) (converts : ParseFault → E → Type 0) (Evaluates : Tree X → Result V E → Type 0)
      (result : Result (Option V × Vec (LexParseError S L X C) Z) E) → ParsesToValue about lexes converts Evaluates result → HasValueOfText lexes result
  has_outcome lexes converts Evaluates result (parsed, parses, out) = comes_out lexes converts parsed result (has_value lexes Evaluates parsed parses) out
