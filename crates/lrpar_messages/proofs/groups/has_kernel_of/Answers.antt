use Rattle.std.proofs.Common.{◌≡◌, ◌<◌, ◌∙◌, ap, arith, inl, inr, refl, subst, sym, ℕ, get_or, length, map}
use Rattle.std.proofs.lemmas.Bool.{cases_eq, false≢true}
use Rattle.std.proofs.lemmas.List.{get_or-map, length-map}
use Rattle.lrpar_table_rows.specs.Graph.{HasCore}
use Rattle.lrpar_table_rows.specs.PlainItems.{core_of}
use Rattle.lrpar_messages.proofs.groups.has_kernel_of.Goals as goal

pub loop-core-init : goal.loop-core-init
loop-core-init g c = λ j p k low. absurd (omega (arith, low))

pub loop-core-preserved : goal.loop-core-preserved
loop-core-preserved g c =
    let index = g.StorageT.StorageIndex.index in
    let cores = c.begun_cores-core-items.result.now in
    let i = c.loop-core.core-index in
    λ j p k low read.
    elim (cases_eq j i) as (λ _. HasCore c.args.sgraph.now (index c.args.other.0) p k) [
      | inl same ↦
          let here : get_or (map (core_of index) cores) i (p, k) ≡ core_of index c.core-item.result =
          get_or-map (core_of index) cores i c.core-item.result (p, k) c.loop-core-test.true ∙ ap (core_of index) (sym c.core-item.is) in
          let is : core_of index c.core-item.result ≡ (p, k) = sym here ∙ subst (λ n. get_or (map (core_of index) cores) n (p, k) ≡ (p, k)) same read in
          subst (λ (x : ℕ × ℕ). HasCore c.args.sgraph.now (index c.args.other.0) x.0 x.1) is (c.has_core.ensures.found.0 c.if-not-has_core.false)
      | inr other ↦ c.loop-core.invariant j p k (omega (arith, low, other)) read
    ]

pub returns-then-not-has_core : goal.returns-then-not-has_core
returns-then-not-has_core g c =
    let index = g.StorageT.StorageIndex.index in
    let cores = c.begun_cores-core-items.result.now in
    let i = c.loop-core.core-index in
    let core = core_of index c.core-item.result in
    let low : i < length (map (core_of index) cores) = let count = length-map cores (core_of index) in omega (arith, count, c.loop-core-test.true) in
    let read : get_or (map (core_of index) cores) i core ≡ core =
    get_or-map (core_of index) cores i c.core-item.result core c.loop-core-test.true ∙ ap (core_of index) (sym c.core-item.is) in
    let own = (c.begun_cores-core-items.ensures.all core.0 core.1).1 (i, low, read) in (
      λ no. absurd (false≢true no),
      λ all. absurd (false≢true (sym c.if-not-has_core.true ∙ c.has_core.ensures.found.1 (all core.0 core.1 own.0 own.1))),
    )

pub returns : goal.returns
returns g c =
    let index = g.StorageT.StorageIndex.index in
    let cores = c.begun_cores-core-items.result.now in (
      λ _ p k has begun.
          let there = (c.begun_cores-core-items.ensures.all p k).0 (has, begun) in
          c.loop-core.invariant there.0 p k
          (let low = there.1 in let count = length-map cores (core_of index) in omega (arith, low, count, c.loop-core-test.false)) there.2,
      λ _. refl,
    )
