-- A whole run with repairs: from one place to the next by a repair, and how it ends.
use Rattle.std.proofs.Common.{◌≡◌, ◌<◌, ◌≤◌, ◌+◌, ◌-◌, ◌*◌, ◌∙◌, ◌⊎◌, inl, inr, ℕ, List, [], ◌∷◌, ◌++◌, Err, IfOk, IsSome, MatchOption, None, Ok, Option, Result, Some, Vec, drop, length, option_map, ap, arith, refl, subst, sym}
use Rattle.std.proofs.lemmas.Bool.{cases_lt}
use Rattle.std.proofs.lemmas.List.{append_assoc, append-nil, length-append}
use Rattle.std.specs.List.{AllZip, slice_get}
use Rattle.lrpar_grammar.specs.Grammar.{end_token}
use Rattle.lrpar_grammar.specs.Sentence.{IsSentence}
use Rattle.lrpar_grammar.specs.Tree.{Tree}
use Rattle.lrpar_table_stacks.specs.Chain.{most_productions}
use Rattle.lrpar_table_check.specs.Checked.{IsChecked}
use Rattle.lrpar_table_stacks.specs.Path.{NeverSticks}
use Rattle.lrpar_parse_run.specs.Building.{Building}
use Rattle.lrpar_parse_run.specs.End.{IsOfTree}
use Rattle.lrpar_parse_errors.specs.Failure.{Failure}
use Rattle.lrpar_parse_run.specs.Recovering.{GoesOnBy, IsListedBy, IsRecovered}
use Rattle.lrpar_parse_run.specs.Moves.{GoesFar, IsReplayed}
use Rattle.lrpar_parse_repair.specs.PlainSteps.{plain_sequences, plain_steps}
use Rattle.lrpar_parse_run.specs.RepairAnswer.{SuppliesNone, IsRepairAnswer, IsRepairErrorOf, RunWithRepairs}
use Rattle.lrpar_parse_run.specs.RepairRun.{RepairRun, RepairStop, ends_there, fed_between, is_repaired, runs_through}
use Rattle.lrpar_table_stacks.specs.Run.{Stopped}
use Rattle.lrpar_parse_run.specs.RunAnswer.{HasValue, IsOneWay, IsValueOf}
use Rattle.lrpar_parse_repair.specs.Sequences.{PlainStep, AreThoseWith, CanGoOn, Replays, Works}
use Rattle.lrpar_parse_run.specs.RunStack.{Stacked}
use Rattle.lrpar_parse_run.specs.Subject.{Subject}
use Rattle.lrpar_parse_errors.specs.declared.errors.LexParseError.{LexParseError}
use Rattle.lrpar_parse_errors.specs.declared.errors.LexParseError.TheVariants.{LexError, ParseError}
use Rattle.lrpar_parse_repair.specs.declared.repair_step.RepairStep.{RepairStep}
use Rattle.lrpar_parse_run.specs.ZipLaws.{zip_push}
use Rattle.lrpar_parse_run.proofs.CompleteAnswerLemmas.{takes_sentence}
use Rattle.lrpar_parse_run.proofs.ListLemmas.{same_one}
use Rattle.lrpar_parse_run.proofs.MovesLemmas.{moves_bound, moves_represent}
use Rattle.lrpar_parse_repair.proofs.ReplayLemmas.{far_stops, go_on_far, replay_one_way, replays_place, works_by_replay}
use Rattle.lrpar_parse_run.proofs.RunStackLemmas.{IsRepresented, represented_accept, represented_start}

-- the bound of the reductions up to a place, and of those up to the next error point and by a repair there
bound_next : (cap p f r a b c u s x y : ℕ) → p + cap * a ≤ cap * (1 + u) + cap * (cap + 2) * (u + s) → f + cap * b ≤ cap * (a + x) + cap * (cap + 2) * (x + 1)
    → r + cap * c ≤ cap * (b + y) + cap * (cap + 2) * y → ((p + f) + r) + cap * c ≤ cap * (1 + ((u + x) + y)) + cap * (cap + 2) * (((u + x) + y) + (s + 1))
bound_next cap p f r a b c u s x y before far recovered = omega (arith, before, far, recovered)

-- and if it accepts
bound_end : (cap p f a b u s x : ℕ) → p + cap * a ≤ cap * (1 + u) + cap * (cap + 2) * (u + s) → f + cap * b ≤ cap * (a + x) + cap * (cap + 2) * (x + 1)
    → p + f ≤ cap * (cap + 3) * ((u + x) + s + 1)
bound_end cap p f a b u s x before far = omega (arith, before, far)

-- elements before a list that may be there
front_none : {X : Type 0} (o : Option (List X)) → option_map (λ xs. [] ++ xs) o ≡ o
front_none None = refl
front_none (Some xs) = refl

front_three : {A : Type 0} (a b c d : List A) → a ++ ((b ++ c) ++ d) ≡ ((a ++ b) ++ c) ++ d
front_three a b c d = sym (ap (λ l. l ++ d) (append_assoc a b c) ∙ append_assoc a (b ++ c) d)

front_both : {X : Type 0} (c f m : List X) (o : Option (List X)) → option_map (λ xs. c ++ xs) (option_map (λ xs. f ++ m ++ xs) o) ≡ option_map (λ xs. ((c ++ f) ++ m) ++ xs) o
front_both c f m None = refl
front_both c f m (Some xs) = ap Some (front_three c f m xs)

-- the members of an allowed answer that work are those that are listed
pub listed_ok : {X S A B F : Type 0} (about : Subject X) (lexemes : List X)
    (index : S → ℕ) (st : List ℕ) (i : ℕ) (answer : List (List PlainStep)) (result : Result (Vec (Vec (RepairStep S) A) B) F)
    → about.allows (record { lexemes = lexemes; place = i; stack = st }) answer
    → IfOk result (λ listed. AreThoseWith (Works (λ x. (about.facts x).token) about.checked.grammar about.checked.table lexemes about.shifts st i) answer (plain_sequences index listed.items))
    → IfOk result (λ listed. IsListedBy about lexemes (record { stack = st; place = i }) (plain_sequences index listed.items))
listed_ok about lexemes index st i answer (Ok listed) allowed those = record { answer = answer; allowed = allowed; those = those }
listed_ok about lexemes index st i answer (Err e) allowed those = tt

module _ {X E : Type 0} (about : Subject X) (builds : Building X E) (lexemes : List X) where
  -- the token of a lexeme
  abbrev token : X → ℕ
  token x = (about.facts x).token

  abbrev Represented : Stacked E → List X → List ℕ → Type 0
  Represented stack xs ps = IsRepresented token builds.leaf (builds.node about.checked.grammar) builds.suits about.checked.grammar about.checked.table stack xs ps

  abbrev Runs : List ℕ → ℕ → List RepairStop → Option (List X) → List ℕ → Type 0
  Runs st i stops consumed prods = RepairRun about.facts about.allows about.shifts about.checked.grammar about.checked.table lexemes st i stops consumed prods

  -- The run is at a place, after these error points: from there on it is the rest of a run from the start. Its stacks represent what was
  -- consumed and reduced so far.
  pub record IsThere (stack : Stacked E) (i : ℕ) (stops : List RepairStop) : Type 0 where
    pub consumed : List X
    pub prods : List ℕ
    pub leads : (more : List RepairStop) (rest : Option (List X)) (qs : List ℕ) → Runs stack.states i more rest qs
        → Runs (about.checked.table.start ∷ []) 0 (stops ++ more) (option_map (λ xs. consumed ++ xs) rest) (prods ++ qs)
    pub represents : Represented stack consumed prods
    pub bound : length prods + about.checked.cap * length stack.states ≤ about.checked.cap * (1 + length consumed) + about.checked.cap * (about.checked.cap + 2) * (length consumed + length stops)

  -- it begins at the first lexeme
  pub there_first : (stack : Stacked E) → stack ≡ record { states = about.checked.table.start ∷ []; entries = [] } → IsThere stack 0 []
  there_first stack is =
      let states : stack.states ≡ about.checked.table.start ∷ [] = ap (λ (s : Stacked E). s.states) is in
      let entries : stack.entries ≡ [] = ap (λ (s : Stacked E). s.entries) is in
      record {
        consumed = [];
        prods = [];
        leads = λ more rest qs run.
            subst (λ (o : Option (List X)). Runs (about.checked.table.start ∷ []) 0 more o qs) (sym (front_none rest))
            (subst (λ (st : List ℕ). Runs st 0 more rest qs) states run);
        represents = represented_start token builds.leaf (builds.node about.checked.grammar) builds.suits about.checked.grammar about.checked.table stack states entries;
        bound = let one : length stack.states ≡ 1 = ap length states in rw one (omega arith);
      }

  module _ (never : NeverSticks about.checked.grammar about.checked.table) (a : Stacked E) (i : ℕ) (stops : List RepairStop) (at : IsThere a i stops) (b : Stacked E) where
    module _ (j : ℕ) (far : GoesFar about.facts builds about.checked lexemes a i (Some j) b) where
      -- the error point
      abbrev Here : List (List PlainStep) → RepairStop
      Here listed = record { stop = record { stack = b.states; place = j }; listed = listed }

      -- it has an error point, at which no sequence is listed
      pub there_ends : IsListedBy about lexemes (record { stack = b.states; place = j }) []
          → Runs (about.checked.table.start ∷ []) 0 (stops ++ Here [] ∷ []) None (at.prods ++ far.prods)
      there_ends is = at.leads (Here [] ∷ []) None far.prods (ends_there a.states i far.prods (record { stack = b.states; place = j }) far.far is)

      -- it has an error point, and goes on after a replay of the first listed sequence
      pub there_next : (first : List PlainStep) (listed : List (List PlainStep)) (c : Stacked E) (m : ℕ)
          → IsListedBy about lexemes (record { stack = b.states; place = j }) (first ∷ listed)
          → IsReplayed about.facts builds about.checked lexemes b j first c m → IsThere c m (stops ++ Here (first ∷ listed) ∷ [])
      there_next first listed c m is by =
          let fed = fed_between lexemes i j in
          let here = Here (first ∷ listed) in
          let fs = far.prods in
          let rs = by.prods in
          let mid = moves_represent about.facts builds about.checked never a b fed fs (length fed + 1) at.consumed at.prods at.represents far.moves in
          let to_b = moves_bound about.facts builds about.checked a b fed fs (length fed + 1) far.moves in
          let to_c = moves_bound about.facts builds about.checked b c by.recovered rs (length by.recovered) by.moves in
          let count : length ((at.prods ++ fs) ++ rs) ≡ (length at.prods + length fs) + length rs =
          length-append (at.prods ++ fs) rs ∙ ap (λ n. n + length rs) (length-append at.prods fs) in
          let leaves : length ((at.consumed ++ fed) ++ by.recovered) ≡ (length at.consumed + length fed) + length by.recovered =
          length-append (at.consumed ++ fed) by.recovered ∙ ap (λ n. n + length by.recovered) (length-append at.consumed fed) in
          let more : length (stops ++ here ∷ []) ≡ length stops + 1 = length-append stops (here ∷ []) in
          record {
            consumed = (at.consumed ++ fed) ++ by.recovered;
            prods = (at.prods ++ fs) ++ rs;
            leads = λ later rest qs run.
                let one = is_repaired a.states i fs (record { stack = b.states; place = j }) first listed rs c.states m by.recovered later rest qs far.far is by.replays by.consumes run in
                let all = at.leads (here ∷ later) (option_map (λ xs. fed ++ by.recovered ++ xs) rest) (fs ++ rs ++ qs) one in
                subst (λ (s : List RepairStop). Runs (about.checked.table.start ∷ []) 0 s (option_map (λ xs. ((at.consumed ++ fed) ++ by.recovered) ++ xs) rest) (((at.prods ++ fs) ++ rs) ++ qs)) (sym (append_assoc stops (here ∷ []) later))
                (subst (λ (o : Option (List X)). Runs (about.checked.table.start ∷ []) 0 (stops ++ here ∷ later) o (((at.prods ++ fs) ++ rs) ++ qs)) (front_both at.consumed fed by.recovered rest)
                (subst (λ (w : List ℕ). Runs (about.checked.table.start ∷ []) 0 (stops ++ here ∷ later) (option_map (λ xs. at.consumed ++ xs) (option_map (λ xs. fed ++ by.recovered ++ xs) rest)) w)
                (front_three at.prods fs rs qs) all));
            represents = moves_represent about.facts builds about.checked never b c by.recovered rs (length by.recovered) (at.consumed ++ fed) (at.prods ++ fs) mid by.moves;
            bound = rw (count, leaves, more)
                (bound_next about.checked.cap (length at.prods) (length fs) (length rs) (length a.states) (length b.states) (length c.states) (length at.consumed) (length stops) (length fed) (length by.recovered) at.bound to_b to_c);
          }

    -- it accepts: one entry is left, that of the whole
    pub there_accepts : (far : GoesFar about.facts builds about.checked lexemes a i None b)
        → (e : E) × (b.entries ≡ e ∷ []) × Runs (about.checked.table.start ∷ []) 0 stops (Some (at.consumed ++ drop i lexemes)) (at.prods ++ far.prods)
        × IsValueOf token about.checked.grammar (IsOfTree builds about.checked) (at.consumed ++ drop i lexemes) (at.prods ++ far.prods) e
        × (length (at.prods ++ far.prods) ≤ most_productions about.checked.cap (length (at.consumed ++ drop i lexemes)) (length stops))
    there_accepts far =
        let left = drop i lexemes in
        let represents = moves_represent about.facts builds about.checked never a b left far.prods (length left + 1) at.consumed at.prods at.represents far.moves in
        let alone = (never.accepts represents.symbols b.states (end_token about.checked.grammar) represents.path (far.accepts refl)).1 in
        let found = represented_accept token builds about.checked b (at.consumed ++ left) (at.prods ++ far.prods) represents alone in
        let run = at.leads [] (Some left) far.prods (runs_through a.states i far.prods far.far) in
        let to_b = moves_bound about.facts builds about.checked a b left far.prods (length left + 1) far.moves in
        let count = length-append at.prods far.prods in
        let leaves = length-append at.consumed left in (
          found.0,
          found.1,
          subst (λ (s : List RepairStop). Runs (about.checked.table.start ∷ []) 0 s (Some (at.consumed ++ left)) (at.prods ++ far.prods)) (append-nil stops) run,
          found.2,
          rw (count, leaves) (bound_end about.checked.cap (length at.prods) (length far.prods) (length a.states) (length b.states) (length at.consumed) (length stops) (length left) at.bound to_b),
        )

  -- a run without an error point consumes the lexemes from its place on
  pub clean_run : (st : List ℕ) (i : ℕ) (stops : List RepairStop) (o : Option (List X)) (ps : List ℕ) → Runs st i stops o ps → stops ≡ [] → o ≡ Some (drop i lexemes)
  clean_run _ _ _ _ _ (runs_through st i ps far) none = refl
  clean_run _ _ _ _ _ (ends_there st i ps stop far is) none = absurd (let no : ⊥ = cc in no)
  clean_run _ _ _ _ _ (is_repaired st i ps stop first listed made after j recovered stops consumed rest far is replays consumes run) none = absurd (let no : ⊥ = cc in no)

  -- if no sequence is supplied, the run accepts, or ends at one error point
  pub one_stop : SuppliesNone about.allows → (st : List ℕ) (i : ℕ) (stops : List RepairStop) (o : Option (List X)) (ps : List ℕ) → Runs st i stops o ps
      → (IsSome o × (stops ≡ [])) ⊎ ((o ≡ None) × ((stop : RepairStop) × (stops ≡ stop ∷ [])))
  one_stop none _ _ _ _ _ (runs_through st i ps far) = inl (refl, refl)
  one_stop none _ _ _ _ _ (ends_there st i ps stop far is) = inr (refl, (record { stop = stop; listed = [] }, refl))
  one_stop none _ _ _ _ _ (is_repaired st i ps stop first listed made after j recovered stops consumed rest far is replays consumes run) =
      let empty = none (record { lexemes = lexemes; place = stop.place; stack = stop.stack }) is.answer is.allowed in
      let those = subst (λ (l : List (List PlainStep)). AreThoseWith (Works token about.checked.grammar about.checked.table lexemes about.shifts stop.stack stop.place) l (first ∷ listed)) empty is.those in
      absurd (let same : first ∷ listed ≡ [] = those in let no : ⊥ = cc in no)

-- the first of those that have P has it
first_has : {A : Type 0} (P : A → Type 0) (xs : List A) (y : A) (ys : List A) → AreThoseWith P xs (y ∷ ys) → P y
first_has P [] y ys e = absurd (let no : ⊥ = cc in no)
first_has {A} P (x ∷ xs) y ys h =
    elim h as (λ _. P y) [
      | inl kept ↦ let e : y ∷ ys ≡ x ∷ kept.1.0 = kept.1.2 in let same : x ≡ y = cc in subst P same kept.0
      | inr out ↦ first_has P xs y ys out.1
    ]

-- there are as many errors as error points
zip_none : {A B : Type 0} (P : A → B → Type 0) (xs : List A) (ys : List B) → AllZip P xs ys → xs ≡ [] → ys ≡ []
zip_none P [] [] zip e = refl
zip_none P [] (y ∷ ys) zip e = absurd zip
zip_none P (x ∷ xs) ys zip e = absurd (let no : ⊥ = cc in no)

zip_none_back : {A B : Type 0} (P : A → B → Type 0) (xs : List A) (ys : List B) → AllZip P xs ys → ys ≡ [] → xs ≡ []
zip_none_back P [] ys zip e = refl
zip_none_back P (x ∷ xs) [] zip e = absurd zip
zip_none_back P (x ∷ xs) (y ∷ ys) zip e = absurd (let no : ⊥ = cc in no)

one_error : {X S L C : Type 0} (about : Subject X) (lexemes : List X) (stop : RepairStop) (errors : List (LexParseError S L X C))
    → AllZip (IsRepairErrorOf about lexemes) (stop ∷ []) errors → (failure : Failure X) × (errors ≡ ParseError failure ∷ [])
one_error about lexemes stop [] zip = absurd zip
one_error about lexemes stop (LexError e ∷ errors) zip = absurd zip.0
one_error about lexemes stop (ParseError failure ∷ []) zip = (failure, refl)
one_error about lexemes stop (ParseError failure ∷ other ∷ errors) zip = absurd zip.1

module _ {X E : Type 0} (about : Subject X) (builds : Building X E) (lexemes : List X) where
  module _ (b c : Stacked E) (j m : ℕ) (first : List PlainStep) (listed : List (List PlainStep)) (is : IsListedBy about lexemes (record { stack = b.states; place = j }) (first ∷ listed)) where
    -- the first listed sequence works
    first_works : Works (λ x. (about.facts x).token) about.checked.grammar about.checked.table lexemes about.shifts b.states j first
    first_works = first_has (Works (λ x. (about.facts x).token) about.checked.grammar about.checked.table lexemes about.shifts b.states j) is.answer first listed is.those

    -- so it can be replayed
    pub first_replays : (prods after : List ℕ) × (n : ℕ) × Replays (λ x. (about.facts x).token) about.checked.grammar about.checked.table lexemes b.states j first prods after n
    first_replays = let w = (works_by_replay (λ x. (about.facts x).token) about.checked.grammar about.checked.table lexemes about.shifts b.states j first).0 first_works in (w.0, w.1, w.2, w.3)

    -- and the number of lexemes that must follow can be fed after that
    pub first_goes_on : IsReplayed about.facts builds about.checked lexemes b j first c m → CanGoOn (λ x. (about.facts x).token) about.checked.grammar about.checked.table lexemes about.shifts c.states m
    first_goes_on by =
        let w = (works_by_replay (λ x. (about.facts x).token) about.checked.grammar about.checked.table lexemes about.shifts b.states j first).0 first_works in
        let same = replay_one_way (λ x. (about.facts x).token) about.checked.grammar about.checked.table lexemes b.states j first w.0 w.1 w.2 by.prods c.states m w.3 by.replays in
        subst (λ (l : List ℕ). CanGoOn (λ x. (about.facts x).token) about.checked.grammar about.checked.table lexemes about.shifts l m) same.1
        (subst (λ (n : ℕ). CanGoOn (λ x. (about.facts x).token) about.checked.grammar about.checked.table lexemes about.shifts w.1 n) same.2 w.4)

  -- if k lexemes can be fed, the run stops at least k further
  pub stops_further : (a b : Stacked E) (i j : ℕ) → CanGoOn (λ x. (about.facts x).token) about.checked.grammar about.checked.table lexemes about.shifts a.states i → GoesFar about.facts builds about.checked lexemes a i (Some j) b → i + about.shifts ≤ j
  stops_further a b i j on far = (go_on_far (λ x. (about.facts x).token) about.checked.grammar about.checked.table lexemes about.shifts a.states i far.prods (Stopped (record { stack = b.states; place = j })) on far.far).0

  pub stops_no_earlier : (a b : Stacked E) (i j : ℕ) → GoesFar about.facts builds about.checked lexemes a i (Some j) b → i ≤ j
  stops_no_earlier a b i j far = (far_stops (λ x. (about.facts x).token) about.checked.grammar about.checked.table lexemes a.states i far.prods (Stopped (record { stack = b.states; place = j })) far.far).0

  -- a replay goes on from no earlier place
  pub replays_no_earlier : (b c : Stacked E) (j m : ℕ) (first : List PlainStep) → IsReplayed about.facts builds about.checked lexemes b j first c m → j ≤ m
  replays_no_earlier b c j m first by = omega (arith, replays_place (λ x. (about.facts x).token) about.checked.grammar about.checked.table lexemes b.states j first by.prods c.states m by.replays)

  module _ {S L C Z : Type 0} (answer : Option E × Vec (LexParseError S L X C) Z) where
    abbrev Evaluates : Tree X → E → Type 0
    Evaluates = IsOfTree builds about.checked

    abbrev HasIts : Option (List X) → List ℕ → Type 0
    HasIts consumed prods = HasValue (λ x. (about.facts x).token) about.checked.grammar Evaluates consumed prods answer

    sentence_of : (o : Option (List X)) (prods : List ℕ) → HasIts o prods → o ≡ Some lexemes → IsSentence (λ x. (about.facts x).token) about.checked.grammar lexemes
    sentence_of None prods value e = absurd (let no : ⊥ = cc in no)
    sentence_of (Some xs) prods (v, has, of) e = let same : xs ≡ lexemes = cc in (of.tree, of.fits, of.leaves_are ∙ same)

    -- an answer is that of the run that has its errors and its value, within the bound
    whole_run_answer : IsChecked about.checked → (whole_run : RunWithRepairs about lexemes) → AllZip (IsRepairErrorOf about lexemes) whole_run.stops answer.1.items → HasIts whole_run.consumed whole_run.prods
        → MatchOption whole_run.consumed (Unit {0}) (λ xs. length whole_run.prods ≤ most_productions about.checked.cap (length xs) (length whole_run.stops))
        → IsRepairAnswer about (λ a. a.1.items) (HasValue (λ x. (about.facts x).token) about.checked.grammar Evaluates) lexemes answer
    whole_run_answer checked whole_run errors value bound = record {
      whole_run = whole_run;
      errors = errors;
      one_way = λ none.
          elim (one_stop about builds lexemes none (about.checked.table.start ∷ []) 0 whole_run.stops whole_run.consumed whole_run.prods whole_run.run) as (λ _. IsOneWay whole_run.consumed answer.1.items) [
            | inl clean ↦ inl (clean.0, zip_none (IsRepairErrorOf about lexemes) whole_run.stops answer.1.items errors clean.1)
            | inr once ↦ inr (once.0, one_error about lexemes once.1.0 answer.1.items (subst (λ (l : List RepairStop). AllZip (IsRepairErrorOf about lexemes) l answer.1.items) once.1.1 errors))
          ];
      sentence = λ no_error.
          sentence_of whole_run.consumed whole_run.prods value (clean_run about builds lexemes (about.checked.table.start ∷ []) 0 whole_run.stops whole_run.consumed whole_run.prods whole_run.run
          (zip_none_back (IsRepairErrorOf about lexemes) whole_run.stops answer.1.items errors no_error));
      value = value;
      bound = bound;
      complete =
          takes_sentence about.facts about.allows about.shifts about.checked lexemes whole_run.stops whole_run.consumed whole_run.prods answer.1.items whole_run.run
          (zip_none (IsRepairErrorOf about lexemes) whole_run.stops answer.1.items errors)
          (zip_none_back (IsRepairErrorOf about lexemes) whole_run.stops answer.1.items errors) bound checked;
    }

    module _ (checked : IsChecked about.checked) (never : NeverSticks about.checked.grammar about.checked.table) (a : Stacked E) (i : ℕ) (stops : List RepairStop) (at : IsThere about builds lexemes a i stops) (b : Stacked E) where
      -- if the run accepts, with this entry
      pub accepted_answer : (far : GoesFar about.facts builds about.checked lexemes a i None b) (entry : E) → b.entries ≡ entry ∷ [] → answer.0 ≡ Some entry
          → AllZip (IsRepairErrorOf about lexemes) stops answer.1.items
          → IsRepairAnswer about (λ a. a.1.items) (HasValue (λ x. (about.facts x).token) about.checked.grammar Evaluates) lexemes answer
      accepted_answer far entry alone some errors =
          let found = there_accepts about builds lexemes never a i stops at b far in
          let same : found.0 ≡ entry = same_one found.0 entry (sym found.1 ∙ alone) in
          whole_run_answer checked (record { stops = stops; consumed = Some (at.consumed ++ drop i lexemes); prods = at.prods ++ far.prods; run = found.2 }) errors
          (found.0, some ∙ ap Some (sym same), found.3) found.4

      -- if it ends at an error point at which no sequence is listed
      pub ended_answer : (j : ℕ) (far : GoesFar about.facts builds about.checked lexemes a i (Some j) b) → IsListedBy about lexemes (record { stack = b.states; place = j }) []
          → answer.0 ≡ None → AllZip (IsRepairErrorOf about lexemes) (stops ++ record { stop = record { stack = b.states; place = j }; listed = [] } ∷ []) answer.1.items
          → IsRepairAnswer about (λ a. a.1.items) (HasValue (λ x. (about.facts x).token) about.checked.grammar Evaluates) lexemes answer
      ended_answer j far is none errors =
          whole_run_answer checked (record {
            stops = stops ++ record { stop = record { stack = b.states; place = j }; listed = [] } ∷ [];
            consumed = None;
            prods = at.prods ++ far.prods;
            run = there_ends about builds lexemes never a i stops at b j far is;
          }) errors none tt

-- the first of a list, if there is one and if there is none
first_is : {A : Type 0} (xs : List A) (x : A) → ◌≡◌ {A = Option A} (Some x) (slice_get xs 0) → (rest : List A) × (xs ≡ x ∷ rest)
first_is [] x e = absurd (let no : ⊥ = cc in no)
first_is (y ∷ ys) x e = let same : x ≡ y = cc in (ys, ap (λ z. z ∷ ys) (sym same))

first_none : {A : Type 0} (xs : List A) → ◌≡◌ {A = Option A} None (slice_get xs 0) → xs ≡ []
first_none [] e = refl
first_none (y ∷ ys) e = absurd (let no : ⊥ = cc in no)

-- the first of sequences as plain ones
pub first_sequence : {S A : Type 0} (index : S → ℕ) (listed seen : List (Vec (RepairStep S) A)) (first : Vec (RepairStep S) A) (steps : List (RepairStep S))
    → seen ≡ listed → ◌≡◌ {A = Option (Vec (RepairStep S) A)} (Some first) (slice_get seen 0) → steps ≡ first.items
    → (rest : List (List PlainStep)) × (plain_sequences index listed ≡ plain_steps index steps ∷ rest)
first_sequence {S} {A} index listed seen first steps seen_is some steps_are =
    let (rest, is) = first_is seen first some in (
      plain_sequences index rest,
      ap (λ (l : List (Vec (RepairStep S) A)). plain_sequences index l) (sym seen_is ∙ is) ∙ ap (λ (l : List (RepairStep S)). plain_steps index l ∷ plain_sequences index rest) (sym steps_are),
    )

pub no_sequence : {S A : Type 0} (index : S → ℕ) (listed seen : List (Vec (RepairStep S) A))
    → seen ≡ listed → ◌≡◌ {A = Option (Vec (RepairStep S) A)} None (slice_get seen 0) → plain_sequences index listed ≡ []
no_sequence {S} {A} index listed seen seen_is none = ap (λ (l : List (Vec (RepairStep S) A)). plain_sequences index l) (sym seen_is ∙ first_none seen none)

-- the error of an error point, for the borrowed list of what is listed
pub error_of_listed : {X S L C A : Type 0} (about : Subject X) (lexemes : List X) (index : S → ℕ) (st : List ℕ) (j : ℕ) (listed seen : List (Vec (RepairStep S) A))
    → seen ≡ listed → (error : LexParseError S L X C) → IsRepairErrorOf about lexemes (record { stop = record { stack = st; place = j }; listed = plain_sequences index seen }) error
    → IsRepairErrorOf about lexemes (record { stop = record { stack = st; place = j }; listed = plain_sequences index listed }) error
error_of_listed {S = S} {A = A} about lexemes index st j listed seen same error error_is =
    subst (λ (l : List (Vec (RepairStep S) A)). IsRepairErrorOf about lexemes (record { stop = record { stack = st; place = j }; listed = plain_sequences index l }) error) same error_is

-- each error point but the first is further than where the run went on, so less is left
pub whole_run_smaller : (n place stop next errors more k : ℕ) → more ≡ errors + 1 → place ≤ stop → stop ≤ next → next ≤ n → 0 < k
    → (0 < errors → place + k ≤ stop) → n - next + (1 - more) < n - place + (1 - errors)
whole_run_smaller n place stop next errors more k count on by within some apart =
    elim (cases_lt 0 errors) as (λ _. n - next + (1 - more) < n - place + (1 - errors)) [
      | inl later ↦ omega (arith, apart later, count, by, within, some)
      | inr first ↦ omega (arith, first, count, on, by)
    ]

-- After an error point: its error was added, and the first listed sequence was replayed.
module _ {X E S L C : Type 0} (about : Subject X) (builds : Building X E) (lexemes : List X) (never : NeverSticks about.checked.grammar about.checked.table)
    (a : Stacked E) (i : ℕ) (stops : List RepairStop) (at : IsThere about builds lexemes a i stops)
    (b : Stacked E) (j : ℕ) (far : GoesFar about.facts builds about.checked lexemes a i (Some j) b)
    (errors more : List (LexParseError S L X C)) (zip : AllZip (IsRepairErrorOf about lexemes) stops errors)
    (c : Stacked E) (next : Option ℕ) (by : IsRecovered about builds lexemes b j errors c more next) where
  abbrev StopHere : List (List PlainStep) → RepairStop
  StopHere sequences = record { stop = record { stack = b.states; place = j }; listed = sequences }

  abbrev Zips : List (List PlainStep) → Type 0
  Zips sequences = AllZip (IsRepairErrorOf about lexemes) (stops ++ StopHere sequences ∷ []) more

  abbrev Lists : List (List PlainStep) → Type 0
  Lists sequences = IsListedBy about lexemes (record { stack = b.states; place = j }) sequences

  abbrev Goes : List (List PlainStep) → Option ℕ → Type 0
  Goes sequences to = GoesOnBy about builds lexemes sequences b j c to

  -- one more error, that of the error point
  zips : Zips by.listed
  zips =
      subst (λ (l : List (LexParseError S L X C)). AllZip (IsRepairErrorOf about lexemes) (stops ++ StopHere by.listed ∷ []) l) (sym by.recorded.added)
      (zip_push (IsRepairErrorOf about lexemes) stops errors (StopHere by.listed) by.recorded.error zip by.recorded.error_is)

  -- if the run ends, no sequence is listed, and if it goes on, a first one is
  none_listed : (listed : List (List PlainStep)) → Goes listed None → listed ≡ []
  none_listed [] goes = refl
  none_listed (first ∷ listed) goes = absurd goes

  first_listed : (m : ℕ) (listed : List (List PlainStep)) → Goes listed (Some m)
      → (first : List PlainStep) × (rest : List (List PlainStep)) × (listed ≡ first ∷ rest) × IsReplayed about.facts builds about.checked lexemes b j first c m
  first_listed m [] goes = absurd (let no : ⊥ = cc in no)
  first_listed m (first ∷ listed) goes = (first, listed, refl, goes)

  -- the run ends here
  pub stop_ends : {Z : Type 0} → IsChecked about.checked → (answer : Option E × Vec (LexParseError S L X C) Z) → next ≡ None → answer.0 ≡ None → answer.1.items ≡ more
      → IsRepairAnswer about (λ a. a.1.items) (HasValue (λ x. (about.facts x).token) about.checked.grammar (IsOfTree builds about.checked)) lexemes answer
  stop_ends checked answer none no_value all =
      let empty = none_listed by.listed (subst (λ (o : Option ℕ). Goes by.listed o) none by.goes_on) in
      ended_answer about builds lexemes answer checked never a i stops at b j far (subst Lists empty by.recorded.is) no_value
      (subst (λ (l : List (LexParseError S L X C)). AllZip (IsRepairErrorOf about lexemes) (stops ++ StopHere [] ∷ []) l) (sym all) (subst Zips empty zips))

  module _ (m : ℕ) (some : next ≡ Some m) where
    found : (first : List PlainStep) × (rest : List (List PlainStep)) × (by.listed ≡ first ∷ rest) × IsReplayed about.facts builds about.checked lexemes b j first c m
    found = first_listed m by.listed (subst (λ (o : Option ℕ). Goes by.listed o) some by.goes_on)

    lists : Lists (found.0 ∷ found.1)
    lists = subst Lists found.2 by.recorded.is

    -- the run goes on from there
    pub stop_goes_on : (after : List RepairStop) × IsThere about builds lexemes c m after × AllZip (IsRepairErrorOf about lexemes) after more
    stop_goes_on = (
      stops ++ StopHere (found.0 ∷ found.1) ∷ [],
      there_next about builds lexemes never a i stops at b j far found.0 found.1 c m lists found.3,
      subst Zips found.2 zips,
    )

    -- by the number of lexemes that must follow
    pub stop_feeds : CanGoOn (λ x. (about.facts x).token) about.checked.grammar about.checked.table lexemes about.shifts c.states m
    stop_feeds = first_goes_on about builds lexemes b c j m found.0 found.1 lists found.3

    -- so less is left
    pub stop_smaller : 0 < about.shifts → m ≤ length lexemes → (0 < length errors → CanGoOn (λ x. (about.facts x).token) about.checked.grammar about.checked.table lexemes about.shifts a.states i)
        → length lexemes - m + (1 - length more) < length lexemes - i + (1 - length errors)
    stop_smaller positive within on =
        whole_run_smaller (length lexemes) i j m (length errors) (length more) about.shifts (ap length by.recorded.added ∙ length-append errors (by.recorded.error ∷ []))
        (stops_no_earlier about builds lexemes a b i j far) (replays_no_earlier about builds lexemes b c j m found.0 found.3)
        within positive (λ later. stops_further about builds lexemes a b i j (on later) far)
