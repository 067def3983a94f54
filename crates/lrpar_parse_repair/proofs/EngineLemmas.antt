-- What a stack of any kind says about a token that is fed, and about its end; and that moves come one after the other.
use Rattle.std.proofs.Common.{◌≡◌, ◌≤◌, ◌+◌, ◌*◌, ◌∙◌, ◌↔◌, ℕ, suc, List, [], ◌∷◌, ◌++◌, Bool, true, false, Result, Ok, Err, IsTrue, Vec, ap, arith, length, length-append, refl, subst, sym, take}
use Rattle.std.proofs.Math.Nat.{mul-le-mul_left, mul-le-mul_right}
use Rattle.std.specs.Prelude.{IfOk, OnOk}
use Rattle.std.specs.List.{sum_by}
use Rattle.std.proofs.lemmas.List.{append-nil, length-map, map-append, take_all}
use Rattle.std.proofs.lemmas.List.Sums.{sum_by-append}
use Rattle.lrpar_grammar.specs.Grammar.{Grammar, end_token}
use Rattle.lrpar_table_rows.specs.PlainRows.{plain_action}
use Rattle.lrpar_table_rows.specs.Table.{Table, Accepts, ShiftTo}
use Rattle.lrpar_table_rows.specs.declared.rows.Action.{Action}
use Rattle.lrpar_table_stacks.specs.Expected.{AcceptsAtEnd}
use Rattle.lrpar_table_stacks.specs.Overlay.{OverlayReduces, OverlayShifts, Overlaid, overlaid}
use Rattle.lrpar_table_stacks.specs.Reduction.{top_action}
use Rattle.lrpar_table_stacks.specs.StackReduction.{IsStackFedBy, IsStackSettledBy, StackReducesBy}
use Rattle.lrpar_table_stacks.proofs.Reductions.{settles_one_way}
use Rattle.lrpar_parse_repair.specs.Moves.{AreTestsWithin, IsMovedBy, IsMovedWithin, at_base, no_test, one_more_test, reduced_first, shifted_first, stays}
use Rattle.lrpar_parse_repair.specs.PlainSteps.{plain_sequences, plain_step, plain_steps}
use Rattle.lrpar_parse_repair.specs.Sequences.{PlainStep, IsTokenFed}
use Rattle.lrpar_parse_repair.specs.TestWork.{most_listed, most_tested}
use Rattle.lrpar_parse_repair.specs.declared.repair_step.RepairStep.{RepairStep}

-- what holds if all went well
pub on_ok : {T E P : Type 0} {Q : T → Type 0} (r : Result T E) → ((x : T) → Q x → P) → IfOk r Q → OnOk r P
on_ok (Ok x) f q = f x q
on_ok (Err e) f q = tt

-- two costs, one after the other
costs_both : (cap a b n first second low mid high : ℕ) → a + b ≤ n → first + cap * mid ≤ cap * (low + a * (cap + 3))
    → second + cap * high ≤ cap * (mid + b * (cap + 3)) → first + second + cap * high ≤ cap * (low + n * (cap + 3))
costs_both cap a b n first second low mid high fits one two =
    let all : cap * ((a + b) * (cap + 3)) ≤ cap * (n * (cap + 3)) = mul-le-mul_left cap (mul-le-mul_right (cap + 3) fits) in
    omega (arith, all, one, two)

-- all reductions, and at most one state more
costs_one : (cap count low mid high : ℕ) → count + cap * mid ≤ cap * (low + cap + 2) → high ≤ mid + 1 → count + cap * high ≤ cap * (low + 1 * (cap + 3))
costs_one cap count low mid high loss higher =
    let more : cap * high ≤ cap * (mid + 1) = mul-le-mul_left cap higher in
    omega (arith, loss, more)

-- no reduction
costs_none : (cap n height : ℕ) → 0 + cap * height ≤ cap * (height + n * (cap + 3))
costs_none cap n height =
    let more : cap * height ≤ cap * (height + n * (cap + 3)) = mul-le-mul_left cap (omega arith) in
    omega (arith, more)

-- what one test may cost
costs_test : (cap height steps k count low : ℕ) → count + cap * low ≤ cap * (height + (steps + k) * (cap + 3))
    → count ≤ cap * (height + (steps + k + 1) * (cap + 3))
costs_test cap height steps k count low costs =
    let less : cap * ((steps + k) * (cap + 3)) ≤ cap * ((steps + k + 1) * (cap + 3)) = mul-le-mul_left cap (mul-le-mul_right (cap + 3) (omega arith)) in
    omega (arith, costs, less)

module _ {X : Type 0} (states : X → List ℕ) (reduces : X → ℕ → ℕ → ℕ → X → Type 0) (shifts : X → X → Type 0) (g : Grammar) (table : Table) where
  -- moves after moves are moves
  moved_on : (n m : ℕ) (x y z : X) → IsMovedBy states reduces shifts g table n x y → IsMovedBy states reduces shifts g table m y z
      → IsMovedBy states reduces shifts g table (n + m) x z
  moved_on _ m _ _ z (stays x) after = subst (λ (k : ℕ). IsMovedBy states reduces shifts g table k x z) (omega arith) after
  moved_on _ m _ _ z (reduced_first n x y end t p first rest) after =
      let more = reduced_first (n + m) x y z t p first (moved_on n m y end z rest after) in
      let sum : suc (n + m) ≡ suc n + m = omega arith in
      subst (λ (k : ℕ). IsMovedBy states reduces shifts g table k x z) sum more
  moved_on _ m _ _ z (shifted_first n x y end t first rest) after = shifted_first (n + m) x y z t first (moved_on n m y end z rest after)

  module _ (cap : ℕ) where
    -- nothing is done
    pub unmoved : (n : ℕ) (x : X) → IsMovedWithin states reduces shifts g table cap n x x
    unmoved n x = record { count = 0; moved = stays x; cost = costs_none cap n (length (states x)) }

    -- something is done, and then more
    pub moved_more : (a b n : ℕ) (x y z : X) → a + b ≤ n → IsMovedWithin states reduces shifts g table cap a x y
        → IsMovedWithin states reduces shifts g table cap b y z → IsMovedWithin states reduces shifts g table cap n x z
    moved_more a b n x y z fits first next = record {
      count = first.count + next.count;
      moved = moved_on first.count next.count x y z first.moved next.moved;
      cost = costs_both cap a b n first.count next.count (length (states x)) (length (states y)) (length (states z)) fits first.cost next.cost;
    }

  module _ (cap t : ℕ) where
    -- reductions are moves
    reductions_move : (old : X) (prods : List ℕ) (new : X) → StackReducesBy states reduces g table t old prods new
        → IsMovedBy states reduces shifts g table (length prods) old new
    reductions_move old [] new h = subst (λ (x : X). IsMovedBy states reduces shifts g table 0 old x) h (stays old)
    reductions_move old (p ∷ prods) new h = reduced_first (length prods) old h.0 new t p h.1 (reductions_move h.0 prods new h.2)

    -- and so are all that are made at a token
    pub settled_moves : (old : X) (count : ℕ) (new : X) → IsStackSettledBy states reduces g table cap t old count new
        → IsMovedWithin states reduces shifts g table cap 1 old new
    settled_moves old count new h = record {
      count = length h.of_states.prods;
      moved = reductions_move old h.of_states.prods new h.by;
      cost = costs_one cap (length h.of_states.prods) (length (states old)) (length (states new)) (length (states new)) h.of_states.by_loss (omega arith);
    }

    -- with the shift after them
    pub fed_moves : (old : X) (fed : Bool) (new : X) → IsStackFedBy states reduces shifts g table cap t old fed new
        → IsMovedWithin states reduces shifts g table cap 1 old new
    fed_moves old true new h =
        let by = h.settles.of_states in
        let higher : length (states new) ≡ length (states h.settled) + 1 =
        ap (λ (l : List ℕ). length l) h.pushed ∙ length-append (states h.settled) (h.next ∷ []) in
        let none : length by.prods + 0 ≡ length by.prods = omega arith in
        let shift = shifted_first 0 h.settled new new t (record { next = h.next; does = h.does; pushed = h.pushed; of_rest = h.of_rest }) (stays new) in
        record {
          count = length by.prods;
          moved = subst (λ (k : ℕ). IsMovedBy states reduces shifts g table k old new) none
              (moved_on (length by.prods) 0 old h.settled new (reductions_move old by.prods h.settled h.settles.by) shift);
          cost = costs_one cap (length by.prods) (length (states old)) (length (states h.settled)) (length (states new)) by.by_loss (omega (arith, higher));
        }
    fed_moves old false new h = settled_moves old h.0.0 new h.0.1

    -- what the states say about a token that is fed
    pub stack_token_fed : (old : X) (fed : Bool) (new : X) → IsStackFedBy states reduces shifts g table cap t old fed new
        → IsTokenFed g table t (states old) (states new) fed
    stack_token_fed old true new h = (
      h.settles.of_states.prods,
      record { settled = states h.settled; settles = h.settles.of_states.settles; next = h.next; shifts = h.does; pushed = h.pushed },
    )
    stack_token_fed old false new h = λ prods next feeds.
        let by = h.0.1.of_states in
        let same = settles_one_way g table t (states old) prods by.prods feeds.settled (states new) feeds.settles by.settles in
        h.1 feeds.next (subst (λ (st : List ℕ). top_action table t st ≡ ShiftTo feeds.next) same.1 feeds.shifts)

    -- if all reductions at the end token are made, the stack accepts if its top does
    pub stack_accepts : {S : Type 0} (index : S → ℕ) (old : X) (count : ℕ) (new : X) (action : Action S) (accepts : Bool)
        → IsStackSettledBy states reduces g table cap t old count new → t ≡ end_token g
        → plain_action index action ≡ top_action table t (states new) → IsTrue accepts ↔ (plain_action index action ≡ Accepts)
        → IsTrue accepts ↔ AcceptsAtEnd g table (states old)
    stack_accepts index old count new action accepts h is read exact =
        let by = subst (λ (u : ℕ). IsStackSettledBy states reduces g table cap u old count new) is h in
        let top = subst (λ (u : ℕ). plain_action index action ≡ top_action table u (states new)) is read in (
          (λ yes_it. record {
            prods = by.of_states.prods;
            settled = states new;
            settles = by.of_states.settles;
            action = sym top ∙ exact.0 yes_it;
          }),
          (λ ends.
              let same = settles_one_way g table (end_token g) (states old) ends.prods by.of_states.prods ends.settled (states new) ends.settles by.of_states.settles in
              exact.1 (top ∙ subst (λ (st : List ℕ). top_action table (end_token g) st ≡ Accepts) same.1 ends.action)),
        )

module _ (g : Grammar) (table : Table) where
  -- moves of an overlay keep its base
  moves_keep_base : (n : ℕ) (x y : Overlaid) → IsMovedBy overlaid (λ old p r n new. OverlayReduces old n new) OverlayShifts g table n x y → y.base ≡ x.base
  moves_keep_base _ _ _ (stays x) = refl
  moves_keep_base _ _ _ (reduced_first n x y z t p first rest) = moves_keep_base n y z rest ∙ first.of_rest.base
  moves_keep_base _ _ _ (shifted_first n x y z t first rest) = moves_keep_base n y z rest ∙ first.of_rest.base

  module _ (cap : ℕ) where
    pub base_stays : (tokens : ℕ) (x y : Overlaid) → IsMovedWithin overlaid (λ old p r n new. OverlayReduces old n new) OverlayShifts g table cap tokens x y
        → y.base ≡ x.base
    base_stays tokens x y within = moves_keep_base within.count x y within.moved

    -- no sequence is tested yet
    pub untested : (most : ℕ) (o : Overlaid) → AreTestsWithin g table most o o
    untested most o = record { count = 0; tests = no_test o; cost = omega arith }

    -- an overlay that is set back has the states of its base
    whole : (o : Overlaid) → overlaid (at_base o) ≡ o.base
    whole o = append-nil (take (length o.base) o.base) ∙ take_all (length o.base) o.base (omega arith)

    -- one more was tested, from the borrowed states
    pub tested_more : {S A : Type 0} (index : S → ℕ) (k : ℕ) (start old new : Overlaid) (xs : List (Vec (RepairStep S) A)) (x : Vec (RepairStep S) A)
        (steps : List (RepairStep S)) → steps ≡ x.items
        → IsMovedWithin overlaid (λ old p r n new. OverlayReduces old n new) OverlayShifts g table cap (length steps + k) (at_base old) new
        → old.base ≡ start.base
        → AreTestsWithin g table (most_listed cap (length start.base) k (plain_sequences index xs)) start old
        → AreTestsWithin g table (most_listed cap (length start.base) k (plain_sequences index (xs ++ x ∷ []))) start new
    tested_more {S} {A} index k start old new xs x steps items here base before =
        let height = length start.base in
        let most = λ (s : List PlainStep). most_tested cap height (length s) k in
        let plain_of = λ (v : Vec (RepairStep S) A). plain_steps index v.items in
        let same_height : length (overlaid (at_base old)) ≡ height = ap (λ (l : List ℕ). length l) (whole old ∙ base) in
        let this : here.count ≤ most_tested cap height (length steps) k =
        costs_test cap height (length steps) k here.count (length (overlaid new))
        (subst (λ (h : ℕ). here.count + cap * length (overlaid new) ≤ cap * (h + (length steps + k) * (cap + 3))) same_height here.cost) in
        let long : length steps ≡ length (plain_of x) = ap (λ (l : List (RepairStep S)). length l) items ∙ sym (length-map x.items (plain_step index)) in
        let both = ap (λ ys. sum_by most ys) (map-append plain_of xs (x ∷ [])) ∙ sum_by-append most (plain_sequences index xs) (plain_of x ∷ []) in
        let all : most_listed cap height k (plain_sequences index (xs ++ x ∷ [])) ≡ most_listed cap height k (plain_sequences index xs) + most (plain_of x) =
        omega (arith, both) in
        let one : here.count ≤ most (plain_of x) = subst (λ (n : ℕ). here.count ≤ most_tested cap height n k) long this in
        record {
          count = before.count + here.count;
          tests = one_more_test before.count here.count start old new before.tests here.moved;
          cost = omega (arith, all, one, before.cost);
        }
