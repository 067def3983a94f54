-- The answer of a completion by the table's own runs. Over its own table tokens are found that finish the stack of an error point, so a parse
-- can go on at the end of the lexemes, if all of them are inserted. So a nearest place is found, and its repair works.
use Rattle.std.proofs.Common.{◌≡◌, ◌⊎◌, inl, inr, refl, sym, subst, arith, ℕ, List, [], ◌∷◌, length, All}
use Rattle.std.specs.List.{Contains}
use Rattle.std.proofs.lemmas.List.Elements.{All-cons, All-head, All-nil}
use Rattle.lrpar_table_check.specs.Checked.{Checked}
use Rattle.lrpar_table_stacks.specs.Stack.{IsStack}
use Rattle.lrpar_parse_repair.specs.Asked.{Asked, IsStop}
use Rattle.lrpar_parse_repair.specs.Sequences.{PlainStep, Works}
use Rattle.lrpar_parse_completion.specs.Answer.{Completer}
use Rattle.lrpar_parse_completion.specs.Nearest.{IsNearest, repair_at}
use Rattle.lrpar_parse_completion.specs.Reached.{Finishes}
use Rattle.lrpar_parse_completion.specs.TableAnswer.{IsFinished, TableCompletionsRepair}
use Rattle.lrpar_parse_completion.specs.Trying.{NeverGoesOn}
use Rattle.lrpar_parse_completion.proofs.FeedLemmas.{goes_on_at_end, repair_works}

module _ {X : Type 0} (token : X → ℕ) (own : Completer) (at : Asked X) (stop : IsStop token at) where
  abbrev WorksHere : List PlainStep → Type 0
  WorksHere steps = Works token at.checked.grammar at.checked.table at.lexemes at.shifts at.stack at.place steps

  -- the stack isn't one of the completion's own table
  pub no_stack : (d : Checked) (st : List ℕ) → d ≡ own.checked → st ≡ at.stack → (IsStack d.table st → ⊥) → IsFinished token own at []
  no_stack d st same stack refused = record {
    works = All-nil WorksHere;
    nearest = λ is.
        let there : IsStack own.checked.table at.stack = subst (λ (e : Checked). IsStack e.table at.stack) is stop.stack in
        absurd (refused (subst (λ (e : Checked). IsStack e.table st) (sym same) (subst (IsStack own.checked.table) (sym stack) there)));
  }

  module _ (tokens : List ℕ) (d : Checked) (st : List ℕ) (same : d ≡ own.checked) (stack : st ≡ at.stack) (finish : Finishes d.grammar d.table st tokens) where
    finish_there : at.checked ≡ own.checked → Finishes at.checked.grammar at.checked.table at.stack tokens
    finish_there is =
        subst (λ (e : Checked). Finishes e.grammar e.table at.stack tokens) (sym is)
        (subst (λ (e : Checked). Finishes e.grammar e.table at.stack tokens) same (subst (λ (l : List ℕ). Finishes d.grammar d.table l tokens) stack finish))

    -- the answer is none, or the repair at the nearest place
    pub finished : (answer : List (List PlainStep)) (most : ℕ) → most ≡ own.most
        → (NeverGoesOn token at tokens (length at.lexemes) × (answer ≡ []))
        ⊎ ((place inserted : ℕ) × IsNearest token at most tokens place inserted × (answer ≡ repair_at tokens at.place place inserted ∷ []))
        → IsFinished token own at answer
    finished answer most is_most (inl none) =
        subst (IsFinished token own at) (sym none.1) (record {
          works = All-nil WorksHere;
          nearest = λ is. absurd (none.0 (length tokens) (omega arith) (goes_on_at_end token at tokens stop.shifts (finish_there is)));
        })
    finished answer most is_most (inr found) =
        let place = found.0 in
        let inserted = found.1 in
        let nearest : IsNearest token at own.most tokens place inserted = subst (λ (n : ℕ). IsNearest token at n tokens place inserted) is_most found.2 in
        let steps = repair_at tokens at.place place inserted in
        let works = repair_works token at tokens place inserted nearest.tried.after_stop nearest.tried.within nearest.goes_on in
        record {
          works = subst (All WorksHere) (sym found.3) (All-cons WorksHere steps [] works (All-nil WorksHere));
          nearest = λ is. record { tokens = tokens; finish = finish_there is; place = place; inserted = inserted; nearest = nearest; one = found.3 };
        }

pub table_completions_repair : {X : Type 0} → TableCompletionsRepair X
table_completions_repair {X} token own at stop is answer finished =
    let repair = finished.nearest is in
    let WorksHere : List PlainStep → Type 0 = Works token at.checked.grammar at.checked.table at.lexemes at.shifts at.stack at.place in
    let steps = repair_at repair.tokens at.place repair.place repair.inserted in
    let works = All-head WorksHere steps [] (subst (All WorksHere) repair.one finished.works) in
    let here : Contains (steps ∷ []) steps = (0, omega arith, refl) in
    (steps, subst (λ (l : List (List PlainStep)). Contains l steps) (sym repair.one) here, works)
