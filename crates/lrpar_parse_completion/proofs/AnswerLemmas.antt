-- The answer of a completion. Over its own table, if that is viable, there is a completion of the stack of an error point, and it goes on at
-- the end, if it is inserted whole. So a nearest place is found, and its repair works.
use Rattle.std.proofs.Common.{◌≡◌, ◌⊎◌, inl, inr, refl, sym, subst, arith, ℕ, List, [], ◌∷◌, length, All, Option}
use Rattle.std.specs.List.{Contains}
use Rattle.std.proofs.lemmas.List.Elements.{All-cons, All-head, All-nil}
use Rattle.lrpar_table_check.specs.Checked.{Checked}
use Rattle.lrpar_table_sentences.specs.Choices.{ChoiceOf}
use Rattle.lrpar_table_stacks.specs.Stack.{IsStack}
use Rattle.lrpar_table_viable.specs.Viable.{IsViable}
use Rattle.lrpar_table.proofs.ViableLemmas.{built_tables_are_viable}
use Rattle.lrpar_parse_repair.specs.Asked.{Asked, IsStop}
use Rattle.lrpar_parse_repair.specs.Sequences.{PlainStep, Works}
use Rattle.lrpar_parse_completion.specs.Answer.{Completer, IsCompleted, IsNearestRepair, IsReady}
use Rattle.lrpar_parse_completion.specs.Completing.{Completes, IsCompletion}
use Rattle.lrpar_parse_completion.specs.CompletionLaws.{CompletionsRepair, ViableCompletionsRepair}
use Rattle.lrpar_parse_completion.specs.Nearest.{GoesOnAt, IsNearest, repair_at}
use Rattle.lrpar_parse_completion.specs.Opening.{CanComplete}
use Rattle.lrpar_parse_completion.specs.Trying.{NeverGoesOn}
use Rattle.lrpar_parse_completion.proofs.CompletesLemmas.{completion_completes}
use Rattle.lrpar_parse_completion.proofs.FeedLemmas.{completes_feeds_all, goes_on_at_end, repair_works}
use Rattle.lrpar_parse_completion.proofs.ListedLemmas.{completion_listed}

module _ {X : Type 0} (token : X → ℕ) (own : Completer) (most : ℕ) (shortest : List (Option ChoiceOf)) (d : Checked) (ready : IsReady most d shortest)
    (same : d ≡ own.checked) (at : Asked X) (stop : IsStop token at) where
  -- the error point is over the completion's own table, which is viable
  module _ (is : at.checked ≡ own.checked) (viable : IsViable own.checked.grammar own.checked.graph own.checked.table) where
    can_complete : CanComplete own.checked
    can_complete =
        let own_ready = subst (λ (e : Checked). IsReady most e shortest) same ready in
        record { viable = viable; complete = own_ready.complete; productive = own_ready.productive }

    own_stack : IsStack own.checked.table at.stack
    own_stack = subst (λ (d : Checked). IsStack d.table at.stack) is stop.stack

    can_there : CanComplete at.checked
    can_there = subst CanComplete (sym is) can_complete

    module _ (tokens : List ℕ) (completion : IsCompletion own.checked.grammar own.checked.table at.stack tokens) where
      there : IsCompletion at.checked.grammar at.checked.table at.stack tokens
      there = subst (λ (d : Checked). IsCompletion d.grammar d.table at.stack tokens) (sym is) completion

      completes : Completes at.checked.grammar at.checked.table at.stack tokens
      completes =
          completion_completes at.checked.grammar at.checked.graph at.checked.table stop.checked.well_formed stop.checked.closed stop.checked.safe.shape
          can_there.complete at.stack tokens there

      -- the completion goes on at the end
      goes_on_last : GoesOnAt token at tokens (length at.lexemes) (length tokens)
      goes_on_last =
          let listed = completion_listed at.checked.grammar stop.checked.well_formed at.checked.table at.stack tokens there in
          goes_on_at_end token at tokens stop.shifts (completes_feeds_all at.checked.grammar at.checked.table at.stack tokens listed completes)

      nearest_repair : (place inserted : ℕ) (answer : List (List PlainStep)) → IsNearest token at own.most tokens place inserted
          → answer ≡ repair_at tokens at.place place inserted ∷ [] → IsNearestRepair token at own.most answer
      nearest_repair place inserted answer nearest one = record {
        tokens = tokens;
        completion = there;
        completes = completes;
        place = place;
        inserted = inserted;
        nearest = nearest;
        one = one;
      }

  -- nothing was found
  completed_none : (at.checked ≡ own.checked → IsViable own.checked.grammar own.checked.graph own.checked.table → ⊥) → IsCompleted token own at []
  completed_none never = record { works = All-nil WorksHere; nearest = λ is viable. absurd (never is viable) }
    where
      WorksHere : List PlainStep → Type 0
      WorksHere = Works token at.checked.grammar at.checked.table at.lexemes at.shifts at.stack at.place

  -- the repair of the nearest place was found
  completed_some : (tokens : List ℕ) (place inserted : ℕ) (answer : List (List PlainStep)) → IsNearest token at own.most tokens place inserted
      → answer ≡ repair_at tokens at.place place inserted ∷ []
      → (at.checked ≡ own.checked → IsViable own.checked.grammar own.checked.graph own.checked.table
      → IsCompletion own.checked.grammar own.checked.table at.stack tokens)
      → IsCompleted token own at answer
  completed_some tokens place inserted answer nearest one completion =
      let WorksHere : List PlainStep → Type 0 = Works token at.checked.grammar at.checked.table at.lexemes at.shifts at.stack at.place in
      let steps = repair_at tokens at.place place inserted in
      let works = repair_works token at tokens place inserted nearest.tried.after_stop nearest.tried.within nearest.goes_on in
      record {
        works = subst (All WorksHere) (sym one) (All-cons WorksHere steps [] works (All-nil WorksHere));
        nearest = λ is viable. nearest_repair is viable tokens (completion is viable) place inserted answer nearest one;
      }

  -- what the completion of the code's stack says, over the code's table
  module _ (st : List ℕ) (stack : st ≡ at.stack) where
    can_here : at.checked ≡ own.checked → IsViable own.checked.grammar own.checked.graph own.checked.table → CanComplete d
    can_here is viable = subst CanComplete (sym same) (can_complete is viable)

    stack_here : at.checked ≡ own.checked → IsViable own.checked.grammar own.checked.graph own.checked.table → IsStack d.table st
    stack_here is viable =
        subst (λ (e : Checked). IsStack e.table st) (sym same) (subst (IsStack own.checked.table) (sym stack) (own_stack is viable))

    completion_there : (tokens : List ℕ) → (CanComplete d → IsStack d.table st → IsCompletion d.grammar d.table st tokens)
        → at.checked ≡ own.checked → IsViable own.checked.grammar own.checked.graph own.checked.table
        → IsCompletion own.checked.grammar own.checked.table at.stack tokens
    completion_there tokens says is viable =
        subst (λ (l : List ℕ). IsCompletion own.checked.grammar own.checked.table l tokens) stack
        (subst (λ (e : Checked). IsCompletion e.grammar e.table st tokens) same (says (can_here is viable) (stack_here is viable)))

    -- that there is none
    pub no_completion : (CanComplete d → IsStack d.table st → ⊥) → IsCompleted token own at []
    no_completion says = completed_none (λ is viable. says (can_here is viable) (stack_here is viable))

    module _ (tokens : List ℕ) (says : CanComplete d → IsStack d.table st → IsCompletion d.grammar d.table st tokens) where
      -- after none of its first tokens can a parse go on at the end
      pub no_nearest : NeverGoesOn token at tokens (length at.lexemes) → IsCompleted token own at []
      no_nearest none =
          completed_none (λ is viable. none (length tokens) (omega arith) (goes_on_last is viable tokens (completion_there tokens says is viable)))

      -- the repair of the nearest place was found
      pub found_nearest : (place inserted : ℕ) (answer : List (List PlainStep)) → IsNearest token at own.most tokens place inserted
          → answer ≡ repair_at tokens at.place place inserted ∷ [] → IsCompleted token own at answer
      found_nearest place inserted answer nearest one = completed_some tokens place inserted answer nearest one (completion_there tokens says)

      -- the answer is none, or the repair at the nearest place
      pub answered : (answer : List (List PlainStep)) (limit : ℕ) → limit ≡ own.most
          → (NeverGoesOn token at tokens (length at.lexemes) × (answer ≡ []))
          ⊎ ((place inserted : ℕ) × IsNearest token at limit tokens place inserted × (answer ≡ repair_at tokens at.place place inserted ∷ []))
          → IsCompleted token own at answer
      answered answer limit is (inl none) = subst (IsCompleted token own at) (sym none.1) (no_nearest none.0)
      answered answer limit is (inr found) =
          found_nearest found.0 found.1 answer (subst (λ (n : ℕ). IsNearest token at n tokens found.0 found.1) is found.2) found.3

pub viable_completions_repair : {X : Type 0} → ViableCompletionsRepair X
viable_completions_repair {X} token own viable at stop is answer completed =
    let repair = completed.nearest is viable in
    let WorksHere : List PlainStep → Type 0 = Works token at.checked.grammar at.checked.table at.lexemes at.shifts at.stack at.place in
    let steps = repair_at repair.tokens at.place repair.place repair.inserted in
    let works = All-head WorksHere steps [] (subst (All WorksHere) repair.one completed.works) in
    let here : Contains (steps ∷ []) steps = (0, omega arith, refl) in
    (steps, subst (λ (l : List (List PlainStep)). Contains l steps) (sym repair.one) here, works)

-- a table that is built is viable
pub completions_repair : {X : Type 0} → CompletionsRepair X
completions_repair token own built =
    viable_completions_repair token own (built_tables_are_viable own.checked.grammar own.checked.graph own.checked.table built)
