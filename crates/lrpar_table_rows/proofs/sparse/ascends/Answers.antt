use Rattle.std.proofs.Common.{◌≡◌, ◌<◌, ◌≤◌, ◌+◌, ◌-◌, ℕ, List, length, map, slice_index, slice_index_or, inl, inr, refl, arith}
use Rattle.std.proofs.lemmas.Bool.{cases_lt}
use Rattle.std.proofs.lemmas.List.{get_or-map, length-map}
use Rattle.lrpar_table_rows.proofs.sparse.ascends.Goals as goal

-- the numbers of the two keys that are compared
compared : {X : Type 0} (number : X → ℕ) (row : List X) (place : ℕ) (x y : X) → place < length row
    → (slice_index (map number row) place ≡ number (slice_index_or row place x)) × (slice_index (map number row) (place - 1) ≡ number (slice_index_or row (place - 1) y))
compared number row place x y below = (get_or-map number row place x 0 below, get_or-map number row (place - 1) y 0 (omega (arith, below)))

pub returns-then-to_number : goal.returns-then-to_number
returns-then-to_number g c =
    let number = λ (entry : g.row.K.Denot × g.row.V.Denot). g.K.Key.number entry.0 in
    let place = c.loop-place.place in
    let one : 1 ≤ place = c.loop-place.auto.place in
    let below : place < length c.args.row.now = omega (arith, c.loop-place-test.true) in
    let read = compared number c.args.row.now place c.index-row-place.result c.index-row-place-in-loop-place.result below in (
      λ h. absurd cc,
      λ up.
          let next : place - 1 + 1 ≡ place = omega (arith, one) in
          let inside : place - 1 + 1 < length (map number c.args.row.now) = rw (next, length-map) below in
          let less = up (place - 1) inside in
          let less_here = rw next at less in
          absurd (omega (arith, less_here, read.0, read.1, c.to_number.ensures.value, c.to_number-in-loop-place.ensures.value, c.if-to_number.true)),
    )

pub loop-place-preserved : goal.loop-place-preserved
loop-place-preserved g c =
    let number = λ (entry : g.row.K.Denot × g.row.V.Denot). g.K.Key.number entry.0 in
    let place = c.loop-place.place in
    let one : 1 ≤ place = c.loop-place.auto.place in
    let below : place < length c.args.row.now = omega (arith, c.loop-place-test.true) in
    let read = compared number c.args.row.now place c.index-row-place.result c.index-row-place-in-loop-place.result below in
    λ k inside.
    elim (cases_lt (k + 1) place) as (λ _. slice_index (map number c.args.row.now) k < slice_index (map number c.args.row.now) (k + 1)) [
      | inl earlier ↦ c.loop-place.invariant k earlier
      | inr last ↦
          let at : k ≡ place - 1 = omega (arith, inside, last) in
          let next : place - 1 + 1 ≡ place = omega (arith, one) in
          rw (at, next) (omega (arith, read.0, read.1, c.to_number.ensures.value, c.to_number-in-loop-place.ensures.value, c.if-to_number.false))
    ]

pub returns : goal.returns
returns g c = (
  λ h k inside.
      let below : k + 1 < length c.args.row.now = rw length-map at inside in
      c.loop-place.invariant k (omega (arith, below, c.loop-place-test.false)),
  λ up. refl,
)
