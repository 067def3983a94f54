use Rattle.std.proofs.Common.{◌≡◌, ◌∙◌, ◌<◌, ◌+◌, ◌-◌, ◌/◌, ℕ, length, map, slice_index, subst, sym, arith}
use Rattle.std.proofs.lemmas.List.{length-map}
use Rattle.lrpar_table_rows.proofs.SearchLemmas.{IsSearched, number_read, searched_down, searched_first, searched_out, searched_up}
use Rattle.lrpar_table_rows.proofs.entries.searched.Goals as goal
use Rattle.lrpar_table_rows.proofs.entries.searched.Goals.{then-to_number-sought, else-to_number-sought, else-size-eq1-via-then-size-eq1+else-to_number-sought-2, else-size-eq1-via-else-size-eq1}

pub loop-size-init : goal.loop-size-init
loop-size-init g c = searched_first g.K.Key.number c.args.keys.now c.args.sought

pub loop-size-smaller : goal.loop-size-smaller
loop-size-smaller g c = omega (arith, c.loop-size-test.true)

pub bounds-keys-middle : goal.bounds-keys-middle
bounds-keys-middle g c = omega (arith, simp length-map at c.loop-size.invariant.within, c.loop-size-test.true)

pub loop-size-preserved : goal.loop-size-preserved
loop-size-preserved g c =
    let ns = map g.K.Key.number c.args.keys.now in
    let base = c.loop-size.base in
    let size = c.loop-size.size in
    let half = c.loop-size.size / 2 in
    let inside : base + half < length c.args.keys.now =
    omega (arith, simp length-map at c.loop-size.invariant.within, c.loop-size-test.true) in
    let here : slice_index ns (base + half) ≡ c.to_number.result =
    subst (λ (n : ℕ). slice_index ns (base + half) ≡ n) (sym c.to_number.ensures.value)
    (number_read g.K.Key.number c.args.keys.now (base + half) c.index-keys-middle.result inside c.index-keys-middle.is) in
    elim c.if-to_number-sought.branch [
      | then-to_number-sought w ↦
          subst (λ (b : ℕ). IsSearched ns c.args.sought b (size - half)) (sym w.base-is)
          (searched_up ns c.args.sought base size half c.requires c.loop-size.invariant (omega (arith, c.loop-size-test.true))
          (omega (arith, here, w.if-to_number-sought.true)))
      | else-to_number-sought w ↦
          subst (λ (b : ℕ). IsSearched ns c.args.sought b (size - half)) (sym w.base-is)
          (searched_down ns c.args.sought base size half c.requires c.loop-size.invariant (omega (arith, c.loop-size-test.true))
          (omega (arith, here, w.if-to_number-sought.false)))
    ]

pub returns-else-size-eq1 : goal.returns-else-size-eq1
returns-else-size-eq1 g c =
    let ns = map g.K.Key.number c.args.keys.now in
    let base = c.loop-size.base in
    searched_out ns c.args.sought base c.loop-size.size c.loop-size.invariant (omega (arith, c.loop-size-test.false))
    (λ one is.
    elim c.else-size-eq1.branch [
      | else-size-eq1-via-then-size-eq1+else-to_number-sought-2 w ↦
          let inside : base < length c.args.keys.now = omega (arith, simp length-map at c.loop-size.invariant.within, one) in
          let here = number_read g.K.Key.number c.args.keys.now base w.index-keys-base.result inside w.index-keys-base.is in
          absurd (omega (arith, here, is, w.to_number-then-size-eq1.ensures.value, w.if-to_number-sought-2.false))
      | else-size-eq1-via-else-size-eq1 w ↦ absurd (omega (arith, one, w.if-size-eq1.false))
    ])

pub bounds-keys-base : goal.bounds-keys-base
bounds-keys-base g c = omega (arith, simp length-map at c.loop-size.invariant.within, c.if-size-eq1.true)

pub returns-then-to_number-sought-2 : goal.returns-then-to_number-sought-2
returns-then-to_number-sought-2 g c =
    let inside : c.loop-size.base < length c.args.keys.now =
    omega (arith, simp length-map at c.loop-size.invariant.within, c.if-size-eq1.true) in
    let here = number_read g.K.Key.number c.args.keys.now c.loop-size.base c.index-keys-base.result inside c.index-keys-base.is in
    (inside, here ∙ (sym c.to_number-then-size-eq1.ensures.value ∙ c.if-to_number-sought-2.true))
