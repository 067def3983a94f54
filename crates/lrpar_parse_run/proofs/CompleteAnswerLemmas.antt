-- Runs with repairs by a complete table. A run accepts without an error point, or it has a first one; up to there it is a run without
-- repairs, whose relation to sentences is known.
use Rattle.std.proofs.Common.{◌≡◌, ◌<◌, ◌≤◌, ◌+◌, ◌∙◌, ◌⊎◌, inl, inr, ℕ, List, [], ◌∷◌, MatchOption, Option, Some, drop, length, take, refl, subst, sym}
use Rattle.lrpar_grammar.specs.Sentence.{IsSentence, LexemeFacts}
use Rattle.lrpar_grammar.specs.Tree.{Tree, productions}
use Rattle.lrpar_table_stacks.specs.Chain.{most_productions}
use Rattle.lrpar_table_check.specs.Checked.{Checked, IsChecked}
use Rattle.lrpar_table_conditions.specs.Complete.{IsComplete}
use Rattle.lrpar_table_check.specs.CompleteRuns.{BeginsNoSentence, RunsTo, AcceptsExactlySentences}
use Rattle.lrpar_table_stacks.specs.Run.{Accepted, Far, Stop, Stopped}
use Rattle.lrpar_table_stacks.proofs.RunLemmas.{runs_one_way}
use Rattle.lrpar_table_check.proofs.SentenceLemmas.{complete_tables_take_sentences}
use Rattle.lrpar_parse_run.specs.CompleteAnswer.{IsTreeOver, TakesSentence}
use Rattle.lrpar_parse_repair.specs.Recovery.{Point}
use Rattle.lrpar_parse_run.specs.RepairRun.{RepairRun, RepairStop, ends_there, is_repaired, runs_through}
use Rattle.lrpar_parse_repair.specs.Sequences.{PlainStep}

some_stop : {A : Type 0} (x : A) (xs : List A) → x ∷ xs ≡ [] → ⊥
some_stop x xs e = cc

same_stop : (a b : RepairStop) (xs ys : List RepairStop) → a ∷ xs ≡ b ∷ ys → a ≡ b
same_stop a b xs ys e = cc

other_end : (stop : Stop) → Accepted ≡ Stopped stop → ⊥
other_end stop e = cc

-- a bound by what is consumed
bound_at : {X : Type 0} (cap n : ℕ) (consumed : Option (List X)) (stops : List RepairStop) (lexemes : List X)
    → MatchOption consumed (Unit {0}) (λ xs. n ≤ most_productions cap (length xs) (length stops)) → consumed ≡ Some lexemes → stops ≡ []
    → n ≤ most_productions cap (length lexemes) 0
bound_at {X} cap n consumed stops lexemes bound all none =
    let P : Option (List X) → Type 0 = λ o. MatchOption o (Unit {0}) (λ xs. n ≤ most_productions cap (length xs) (length stops)) in
    let at : n ≤ most_productions cap (length lexemes) (length stops) = subst P all bound in
    subst (λ (l : List RepairStop). n ≤ most_productions cap (length lexemes) (length l)) none at

module _ {X : Type 0} (facts : X → LexemeFacts) (allows : Point X → List (List PlainStep) → Type 0) (k : ℕ) (d : Checked) (lexemes : List X) where
  -- the token of a lexeme
  abbrev token : X → ℕ
  token x = (facts x).token

  -- a run has a first error point, and goes this far
  record HasFirst (st : List ℕ) (i : ℕ) (runs : List RepairStop) : Type 0 where
    pub first : RepairStop
    pub later : List RepairStop
    pub are : runs ≡ first ∷ later
    pub prods : List ℕ
    pub far : Far token d.grammar d.table lexemes st i prods (Stopped first.stop)

  -- a run accepts, or has a first error point
  begins : (st : List ℕ) (i : ℕ) (runs : List RepairStop) (o : Option (List X)) (ps : List ℕ) → RepairRun facts allows k d.grammar d.table lexemes st i runs o ps
      → (Far token d.grammar d.table lexemes st i ps Accepted × (runs ≡ []) × (o ≡ Some (drop i lexemes))) ⊎ HasFirst st i runs
  begins _ _ _ _ _ (runs_through st i ps far) = inl (far, refl, refl)
  begins _ _ _ _ _ (ends_there st i ps stop far is) =
      inr (record { first = record { stop = stop; listed = [] }; later = []; are = refl; prods = ps; far = far })
  begins _ _ _ _ _ (is_repaired st i ps stop listing listed made after j recovered more consumed rest far is replays consumes run) =
      inr (record { first = record { stop = stop; listed = listing ∷ listed }; later = more; are = refl; prods = ps; far = far })

  module _ {F : Type 0} (takes : AcceptsExactlySentences token d.grammar d.table) (runs : List RepairStop) (consumed : Option (List X)) (prods : List ℕ) (errors : List F)
      (to : runs ≡ [] → errors ≡ []) (back : errors ≡ [] → runs ≡ []) where
    -- any two trees over the lexemes are equal
    one_tree : (tree other : Tree X) → IsTreeOver token d.grammar lexemes tree → IsTreeOver token d.grammar lexemes other → tree ≡ other
    one_tree tree other a b = takes.one tree other a.fits b.fits (a.leaves_are ∙ sym b.leaves_are)

    -- a run that accepts reduces by the productions of each tree over its lexemes
    only_prods : RunsTo token d.grammar d.table lexemes prods Accepted → (tree : Tree X) → IsTreeOver token d.grammar lexemes tree → productions tree ≡ prods
    only_prods far tree is =
        let run = subst (λ (xs : List X). RunsTo token d.grammar d.table xs (productions tree) Accepted) is.leaves_are (takes.only tree is.fits) in
        (runs_one_way token d.grammar d.table lexemes (d.table.start ∷ []) 0 (productions tree) prods Accepted Accepted run far).0

    -- it accepts
    taken : RunsTo token d.grammar d.table lexemes prods Accepted → runs ≡ [] → consumed ≡ Some lexemes
        → length prods ≤ most_productions d.cap (length lexemes) 0 → TakesSentence token d lexemes runs consumed prods errors
    taken far none all bound = record {
      exact = (λ _. (takes.exact lexemes).1 (prods, far), λ _. to none);
      whole = λ _. all;
      one = one_tree;
      only = only_prods far;
      bound = λ tree is.
          subst (λ (ps : List ℕ). length ps ≤ most_productions d.cap (length lexemes) 0) (sym (only_prods far tree is)) bound;
      prefix = λ first later are within. absurd (some_stop first later (sym are ∙ none));
    }

    module _ (stop : HasFirst (d.table.start ∷ []) 0 runs) where
      -- it has a first error point, so that the lexemes are no sentence
      no_sentence : IsSentence token d.grammar lexemes → ⊥
      no_sentence sentence =
          let run = (takes.exact lexemes).0 sentence in
          other_end stop.first.stop
          (runs_one_way token d.grammar d.table lexemes (d.table.start ∷ []) 0 run.0 stop.prods Accepted (Stopped stop.first.stop) run.1 stop.far).1

      no_tree : (tree : Tree X) → IsTreeOver token d.grammar lexemes tree → ⊥
      no_tree tree is = no_sentence (tree, is.fits, is.leaves_are)

      some_error : errors ≡ [] → ⊥
      some_error none = some_stop stop.first stop.later (sym stop.are ∙ back none)

      no_front : (first : RepairStop) (later : List RepairStop) → runs ≡ first ∷ later → first.stop.place < length lexemes
          → BeginsNoSentence token d.grammar (take (first.stop.place + 1) lexemes)
      no_front first later are within =
          let same = same_stop stop.first first stop.later later (sym stop.are ∙ are) in
          let far = subst (λ (s : RepairStop). RunsTo token d.grammar d.table lexemes stop.prods (Stopped s.stop)) same stop.far in
          takes.prefix lexemes stop.prods first.stop far within

      stopped : TakesSentence token d lexemes runs consumed prods errors
      stopped = record {
        exact = (λ none. absurd (some_error none), λ sentence. absurd (no_sentence sentence));
        whole = λ none. absurd (some_error none);
        one = one_tree;
        only = λ tree is. absurd (no_tree tree is);
        bound = λ tree is. absurd (no_tree tree is);
        prefix = no_front;
      }

  -- a run from the start by a complete table
  pub takes_sentence : {F : Type 0} (runs : List RepairStop) (consumed : Option (List X)) (prods : List ℕ) (errors : List F)
      → RepairRun facts allows k d.grammar d.table lexemes (d.table.start ∷ []) 0 runs consumed prods
      → (runs ≡ [] → errors ≡ []) → (errors ≡ [] → runs ≡ [])
      → MatchOption consumed (Unit {0}) (λ xs. length prods ≤ most_productions d.cap (length xs) (length runs))
      → IsChecked d → IsComplete d.grammar d.graph d.table → TakesSentence token d lexemes runs consumed prods errors
  takes_sentence runs consumed prods errors run to back bound checked complete =
      let takes : AcceptsExactlySentences token d.grammar d.table =
      complete_tables_take_sentences token d.grammar d.graph d.table checked.well_formed checked.closed checked.safe complete in
      elim (begins (d.table.start ∷ []) 0 runs consumed prods run) as (λ _. TakesSentence token d lexemes runs consumed prods errors) [
        | inl clean ↦
            taken takes runs consumed prods errors to back clean.0 clean.1 clean.2
            (bound_at d.cap (length prods) consumed runs lexemes bound clean.2 clean.1)
        | inr stop ↦ stopped takes runs consumed prods errors to back stop
      ]

-- the same for other errors, if there are none if and only if there were none
pub errors_as : {X F G : Type 0} (token : X → ℕ) (d : Checked) (lexemes : List X) (runs : List RepairStop) (consumed : Option (List X)) (prods : List ℕ)
    (errors : List F) (others : List G) → (errors ≡ [] → others ≡ []) → (others ≡ [] → errors ≡ [])
    → TakesSentence token d lexemes runs consumed prods errors → TakesSentence token d lexemes runs consumed prods others
errors_as token d lexemes runs consumed prods errors others to back is = record {
  exact = (λ none. is.exact.0 (back none), λ sentence. to (is.exact.1 sentence));
  whole = λ none. is.whole (back none);
  one = is.one;
  only = is.only;
  bound = is.bound;
  prefix = is.prefix;
}
