-- What reductions of an overlay keep of its base, after all of them, and after an allocation failed.
use Rattle.std.proofs.Common.{◌≡◌, ◌≤◌, ◌+◌, ◌-◌, ◌∙◌, ◌⊎◌, inl, inr, sym, subst, ap, arith, ℕ, List, [], ◌∷◌, Bool, true, false, length, refl, length-append}
use Rattle.std.proofs.lemmas.List.{length-take-le}
use Rattle.lrpar_grammar.specs.Grammar.{Grammar, prod_len}
use Rattle.lrpar_table_rows.specs.Table.{Table, ShiftTo}
use Rattle.lrpar_table_stacks.specs.Chain.{most_reductions}
use Rattle.lrpar_table_stacks.specs.Overlay.{IsFedOver, IsShortOfMemoryOver, IsSettledOver, IsShiftShortOfMemoryOver, KeepsBy, Overlaid, OverlayFails, OverlayReduces, OverlayShifts, OverlayStays, kept_by, overlaid}
use Rattle.lrpar_table_stacks.specs.Reduction.{Reduces, Settles, left_by, top_action}
use Rattle.lrpar_table_stacks.specs.Stack.{IsStack}
use Rattle.lrpar_table_stacks.specs.StackReduction.{IsStackFedBy, IsStackShortOfMemory, IsStackSettledBy, IsStackShiftShortOfMemory, StackReducesBy}
use Rattle.lrpar_table_stacks.proofs.StackReductionLemmas.{states_reduce_by}

-- the height of the stack after a reduction
height_after : (g : Grammar) (table : Table) (t : ℕ) (st : List ℕ) (p : ℕ) (after : List ℕ) → Reduces g table t st p after
    → length after ≡ length st - prod_len g p + 1
height_after g table t st p after reduces =
    let left : length (left_by g p st) ≡ length st - prod_len g p = length-take-le (length st - prod_len g p) st (omega arith) in
    ap (λ (l : List ℕ). length l) reduces.pushed ∙ length-append (left_by g p st) (reduces.state ∷ []) ∙ ap (λ (n : ℕ). n + 1) left

-- what an overlay's reductions do to the rest, beside its states
abbrev pub rest_of : Overlaid → ℕ → ℕ → ℕ → Overlaid → Type 0
rest_of old p r symbols new = OverlayReduces old symbols new

module _ (g : Grammar) (table : Table) (t : ℕ) where
  -- reductions keep the right states of the base
  pub keeps_by : (old : Overlaid) (prods : List ℕ) (new : Overlaid) → StackReducesBy overlaid rest_of g table t old prods new → KeepsBy g prods old new
  keeps_by old [] new same =
      subst (λ (o : Overlaid). KeepsBy g [] old o) same (record { base = refl; kept = refl; room = omega arith })
  keeps_by old (p ∷ prods) new all =
      let more = keeps_by all.0 prods new all.2 in
      let rest = all.1.of_rest in
      let height = height_after g table t (overlaid old) p (overlaid all.0) all.1.of_states in
      record {
        base = more.base ∙ rest.base;
        kept = more.kept ∙ ap (λ (n : ℕ). kept_by g prods n all.0.kept) height
            ∙ ap (λ (n : ℕ). kept_by g prods (length (overlaid old) - prod_len g p + 1) n) rest.kept;
        room = omega (arith, more.room, rest.room);
      }

  pub settled_over : (cap : ℕ) (old : Overlaid) (count : ℕ) (new : Overlaid) → IsStackSettledBy overlaid rest_of g table cap t old count new
      → IsSettledOver g table cap t old count new
  settled_over cap old count new h = record { states = h.of_states; keeps = keeps_by old h.of_states.prods new h.by }

  -- an overlay that stays as it is after an allocation failed keeps what the reductions so far kept
  keeps_still : (prods : List ℕ) (old mid new : Overlaid) → KeepsBy g prods old mid → OverlayStays mid new → KeepsBy g prods old new
  keeps_still prods old mid new keeps stays = record {
    base = stays.base ∙ keeps.base;
    kept = stays.kept ∙ keeps.kept;
    room = omega (arith, keeps.room, stays.room);
  }

  pub short_of_memory_over : (old new : Overlaid) → IsStackShortOfMemory overlaid rest_of OverlayFails g table t old new → IsShortOfMemoryOver g table t old new
  short_of_memory_over old new h =
      let keeps = keeps_by old h.prods h.mid h.by in
      let stays = h.next.of_rest.stays in
      record {
        prods = h.prods;
        reduced = rw h.next.stays (states_reduce_by overlaid rest_of g table t old h.prods h.mid h.by);
        keeps = keeps_still h.prods old h.mid new keeps stays;
        prod = h.next.prod;
        next = h.next.after;
        due = subst (λ (st : List ℕ). Reduces g table t st h.next.prod h.next.after) (sym h.next.stays) h.next.due;
        longer = elim h.next.of_rest.longer as (λ _. (prod_len g h.next.prod ≡ 0) ⊎ (new.tail ≡ [])) [ inl none ↦ inl none | inr empty ↦ inr (stays.tail ∙ empty) ];
        full = stays.full;
      }

  shift_short_of_memory_over : (cap : ℕ) (old new : Overlaid) → IsStackShiftShortOfMemory overlaid rest_of OverlayStays g table cap t old new
      → IsShiftShortOfMemoryOver g table cap t old new
  shift_short_of_memory_over cap old new h =
      let prods = h.settles.of_states.prods in
      let keeps = keeps_by old prods h.settled h.settles.by in
      let by = h.settles.of_states in
      let same = sym h.stays in
      record {
        count = h.count;
        settled = record {
          states = record {
            prods = prods;
            settles = subst (λ (st : List ℕ). Settles g table t (overlaid old) prods st) same by.settles;
            counted = by.counted;
            stack = subst (λ (st : List ℕ). IsStack table st) same by.stack;
            by_height = by.by_height;
            by_loss = subst (λ (st : List ℕ). length prods + most_reductions cap (length st) ≤ most_reductions cap (length (overlaid old) + cap + 2)) same by.by_loss;
          };
          keeps = keeps_still prods old h.settled new keeps h.of_rest;
        };
        next = h.next;
        due = subst (λ (st : List ℕ). top_action table t st ≡ ShiftTo h.next) same h.due;
        full = h.of_rest.full;
      }

  pub fed_over : (cap : ℕ) (old : Overlaid) (shifted : Bool) (new : Overlaid) → IsStackFedBy overlaid rest_of OverlayShifts g table cap t old shifted new
      → IsFedOver g table cap t old shifted new
  fed_over cap old true new h =
      let prods = h.settles.of_states.prods in
      let keeps = keeps_by old prods h.settled h.settles.by in
      record {
        prods = prods;
        states = record { settled = overlaid h.settled; settles = h.settles.of_states.settles; next = h.next; shifts = h.does; pushed = h.pushed };
        keeps = record {
          base = h.of_rest.base ∙ keeps.base;
          kept = h.of_rest.kept ∙ keeps.kept;
          room = omega (arith, keeps.room, h.of_rest.room);
        };
      }
  fed_over cap old false new h = ((h.0.0, settled_over cap old h.0.0 new h.0.1), h.1)

  pub feed_short_of_memory_over : (cap : ℕ) (old new : Overlaid)
      → IsStackShortOfMemory overlaid rest_of OverlayFails g table t old new ⊎ IsStackShiftShortOfMemory overlaid rest_of OverlayStays g table cap t old new
      → IsShortOfMemoryOver g table t old new ⊎ IsShiftShortOfMemoryOver g table cap t old new
  feed_short_of_memory_over cap old new (inl h) = inl (short_of_memory_over old new h)
  feed_short_of_memory_over cap old new (inr h) = inr (shift_short_of_memory_over cap old new h)
