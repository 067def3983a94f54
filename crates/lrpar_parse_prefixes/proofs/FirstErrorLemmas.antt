-- Up to its first error point a run with repairs is one without them. So what is known of the error point of a run without
-- repairs holds there.
use Rattle.std.proofs.Common.{◌≡◌, refl, subst, ℕ, List, [], ◌∷◌, Option}
use Rattle.lrpar_grammar.specs.Grammar.{Grammar}
use Rattle.lrpar_grammar.specs.Sentence.{LexemeFacts}
use Rattle.lrpar_table_rows.specs.Table.{Table}
use Rattle.lrpar_table_stacks.specs.Run.{Far, Stopped}
use Rattle.lrpar_parse_repair.specs.Recovery.{Point}
use Rattle.lrpar_parse_run.specs.RepairRun.{RepairRun, RepairStop, ends_there, is_repaired, runs_through}
use Rattle.lrpar_parse_repair.specs.Sequences.{PlainStep}
use Rattle.lrpar_parse_prefixes.specs.FirstErrors.{FirstErrorsAreExact, FirstErrorsComeInTime, ViableFirstErrorsAreExact, ViableFirstErrorsComeInTime}
use Rattle.lrpar_table.proofs.ViableLemmas.{built_tables_are_viable}
use Rattle.lrpar_parse_prefixes.proofs.ViableLemmas.{complete_viable_tables_follow_sentences, viable_tables_keep_to_sentences}

same_first : (a b : RepairStop) (xs ys : List RepairStop) → a ∷ xs ≡ b ∷ ys → a ≡ b
same_first a b xs ys e = cc

no_first : (first : RepairStop) (later : List RepairStop) → [] ≡ first ∷ later → ⊥
no_first first later e = cc

module _ {X : Type 0} (facts : X → LexemeFacts) (allows : Point X → List (List PlainStep) → Type 0) where
  -- up to the first error point there are no repairs
  first_without : (k : ℕ) (g : Grammar) (table : Table) (lexemes : List X) (st : List ℕ) (i : ℕ) (stops : List RepairStop) (consumed : Option (List X))
      (prods : List ℕ) → RepairRun facts allows k g table lexemes st i stops consumed prods
      → (first : RepairStop) (later : List RepairStop) → stops ≡ first ∷ later
      → (made : List ℕ) × Far (λ x. (facts x).token) g table lexemes st i made (Stopped first.stop)
  first_without k g table lexemes _ _ _ _ _ (runs_through st i prods far) first later is = absurd (no_first first later is)
  first_without k g table lexemes _ _ _ _ _ (ends_there st i prods stop far none) first later is =
      let own : RepairStop = record { stop = stop; listed = [] } in (
        prods,
        subst (λ (s : RepairStop). Far (λ x. (facts x).token) g table lexemes st i prods (Stopped s.stop)) (same_first own first [] later is) far,
      )
  first_without k g table lexemes _ _ _ _ _ (is_repaired st i prods stop head listed made after j recovered stops consumed rest far is_listed replays consumes run) first later is =
      let own : RepairStop = record { stop = stop; listed = head ∷ listed } in (
        prods,
        subst (λ (s : RepairStop). Far (λ x. (facts x).token) g table lexemes st i prods (Stopped s.stop)) (same_first own first stops later is) far,
      )

  pub viable_first_errors_come_in_time : ViableFirstErrorsComeInTime facts allows
  viable_first_errors_come_in_time k g graph table lexemes first later consumed prods well closed safe viable each runs =
      let far = first_without k g table lexemes (table.start ∷ []) 0 (first ∷ later) consumed prods runs first later refl in
      (viable_tables_keep_to_sentences (λ x. (facts x).token) g graph table well closed safe viable each).stop lexemes far.0 first.stop far.1

  pub viable_first_errors_are_exact : ViableFirstErrorsAreExact facts allows
  viable_first_errors_are_exact k g graph table lexemes first later consumed prods well closed safe viable each complete runs =
      let far = first_without k g table lexemes (table.start ∷ []) 0 (first ∷ later) consumed prods runs first later refl in
      (complete_viable_tables_follow_sentences (λ x. (facts x).token) g graph table well closed safe viable each complete).stop lexemes far.0 first.stop far.1

  -- so it is over a table that was built, since it is viable
  pub first_errors_come_in_time : FirstErrorsComeInTime facts allows
  first_errors_come_in_time k g graph table lexemes first later consumed prods well closed built =
      viable_first_errors_come_in_time k g graph table lexemes first later consumed prods well closed built.safe
      (built_tables_are_viable g graph table built)

  pub first_errors_are_exact : FirstErrorsAreExact facts allows
  first_errors_are_exact k g graph table lexemes first later consumed prods well closed built =
      viable_first_errors_are_exact k g graph table lexemes first later consumed prods well closed built.safe
      (built_tables_are_viable g graph table built)
