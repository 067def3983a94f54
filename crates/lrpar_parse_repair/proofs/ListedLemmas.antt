-- The repairs that an error lists for sequences, one step and one sequence after the other.
use Rattle.std.proofs.Common.{◌≡◌, ◌<◌, ◌≤◌, ◌+◌, ◌∙◌, ℕ, List, [], ◌∷◌, ◌++◌, Vec, ap, drop, get_or, length, sym, take}
use Rattle.std.specs.Prelude.{map}
use Rattle.std.proofs.lemmas.List.{append-nil, append_assoc, drop_all, drop_more, map-append, take_more}
use Rattle.lrpar_parse_lexemes.specs.Repair.{Repair}
use Rattle.lrpar_parse_lexemes.specs.Repairs.{repair_of, repairs_of}
use Rattle.lrpar_parse_lexemes.specs.declared.repairs.ParseRepair.{ParseRepair}
use Rattle.lrpar_parse_repair.specs.Repaired.{repairs_over}
use Rattle.lrpar_parse_repair.specs.PlainSteps.{plain_sequences, plain_step, plain_steps}
use Rattle.lrpar_parse_repair.specs.Sequences.{PlainStep}
use Rattle.lrpar_parse_repair.specs.declared.repair_step.RepairStep.{RepairStep}

module _ {X S : Type 0} (index : S → ℕ) where
  -- the repairs so far and those of the steps that are left are all, also after one step more
  pub step_more : (rest after : List X) (steps : List (RepairStep S)) (i : ℕ) (step : RepairStep S) (done more : List (ParseRepair X S))
      (repair : ParseRepair X S) (all : List (Repair X)) → i < length steps → step ≡ get_or steps i step
      → ((later : List PlainStep) → repairs_over rest (plain_step index step ∷ later) ≡ repair_of index repair ∷ repairs_over after later)
      → map (repair_of index) done ++ repairs_over rest (plain_steps index (drop i steps)) ≡ all → more ≡ done ++ repair ∷ []
      → map (repair_of index) more ++ repairs_over after (plain_steps index (drop (i + 1) steps)) ≡ all
  step_more rest after steps i step done more repair all below is one so_far pushed =
      let later = plain_steps index (drop (i + 1) steps) in
      let front = map (repair_of index) done in
      let steps_left : drop i steps ≡ step ∷ drop (i + 1) steps = drop_more steps i step below ∙ ap (λ s. s ∷ drop (i + 1) steps) (sym is) in
      ap (λ (xs : List (ParseRepair X S)). map (repair_of index) xs ++ repairs_over after later) pushed
      ∙ ap (λ (xs : List (Repair X)). xs ++ repairs_over after later) (map-append (repair_of index) done (repair ∷ []))
      ∙ append_assoc front (repair_of index repair ∷ []) (repairs_over after later)
      ∙ ap (λ (xs : List (Repair X)). front ++ xs) (sym (one later))
      ∙ ap (λ (xs : List (RepairStep S)). front ++ repairs_over rest (plain_steps index xs)) (sym steps_left)
      ∙ so_far

  -- no step is left: the repairs so far are all
  pub step_end : (rest : List X) (steps : List (RepairStep S)) (i : ℕ) (done : List (ParseRepair X S)) (all : List (Repair X)) → length steps ≤ i
      → map (repair_of index) done ++ repairs_over rest (plain_steps index (drop i steps)) ≡ all → map (repair_of index) done ≡ all
  step_end rest steps i done all past so_far =
      let front = map (repair_of index) done in
      sym (append-nil front) ∙ ap (λ (xs : List (RepairStep S)). front ++ repairs_over rest (plain_steps index xs)) (sym (drop_all i steps past)) ∙ so_far

  -- the next step has no lexeme: the repairs so far are all
  pub step_none : (rest : List X) (steps : List (RepairStep S)) (i : ℕ) (step : RepairStep S) (done : List (ParseRepair X S)) (all : List (Repair X))
      → i < length steps → step ≡ get_or steps i step → ((later : List PlainStep) → repairs_over rest (plain_step index step ∷ later) ≡ [])
      → map (repair_of index) done ++ repairs_over rest (plain_steps index (drop i steps)) ≡ all → map (repair_of index) done ≡ all
  step_none rest steps i step done all below is none so_far =
      let front = map (repair_of index) done in
      let steps_left : drop i steps ≡ step ∷ drop (i + 1) steps = drop_more steps i step below ∙ ap (λ s. s ∷ drop (i + 1) steps) (sym is) in
      sym (append-nil front) ∙ ap (λ (xs : List (Repair X)). front ++ xs) (sym (none (plain_steps index (drop (i + 1) steps))))
      ∙ ap (λ (xs : List (RepairStep S)). front ++ repairs_over rest (plain_steps index xs)) (sym steps_left) ∙ so_far

  -- the repairs of the sequences so far and of the next one are those of one sequence more
  pub sequence_more : {A : Type 0} (left : List X) (listed : List (Vec (RepairStep S) A)) (i : ℕ) (steps : Vec (RepairStep S) A)
      (plain : List (RepairStep S)) (done more : List (Vec (ParseRepair X S) A)) (repairs : Vec (ParseRepair X S) A)
      → i < length listed → steps ≡ get_or listed i steps → plain ≡ steps.items
      → map (repair_of index) repairs.items ≡ repairs_over left (plain_steps index plain)
      → repairs_of index done ≡ map (repairs_over left) (plain_sequences index (take i listed)) → more ≡ done ++ repairs ∷ []
      → repairs_of index more ≡ map (repairs_over left) (plain_sequences index (take (i + 1) listed))
  sequence_more {A} left listed i steps plain done more repairs below is same one so_far pushed =
      let over = repairs_over left in
      let of = λ (sequence : Vec (ParseRepair X S) A). map (repair_of index) sequence.items in
      let plain_of = λ (sequence : Vec (RepairStep S) A). plain_steps index sequence.items in
      let this : of repairs ≡ over (plain_of steps) = one ∙ ap (λ (xs : List (RepairStep S)). over (plain_steps index xs)) same in
      let next : take (i + 1) listed ≡ take i listed ++ steps ∷ [] = take_more listed i steps below ∙ ap (λ s. take i listed ++ s ∷ []) (sym is) in
      ap (repairs_of index) pushed ∙ map-append of done (repairs ∷ [])
      ∙ ap (λ xs. xs ++ of repairs ∷ []) so_far ∙ ap (λ x. map over (plain_sequences index (take i listed)) ++ x ∷ []) this
      ∙ sym (map-append over (plain_sequences index (take i listed)) (plain_of steps ∷ []))
      ∙ ap (map over) (sym (map-append plain_of (take i listed) (steps ∷ [])))
      ∙ ap (λ xs. map over (plain_sequences index xs)) (sym next)
