use Rattle.std.proofs.Common.{Bool, Vec, Global, ◌≡◌, ◌<◌, ◌∙◌, ◌∷◌, ◌++◌, ◌+◌, [], ap, arith, subst, sym}
use Rattle.std.proofs.lemmas.List.{map_push}
use Rattle.lrpar_grammar_places.specs.declared.span.StIdx.{StIdx}
use Rattle.lrpar_table_rows.specs.Graph.{Graph, graph_len}
use Rattle.lrpar_table_sentences.proofs.FixLemmas.{index_back}
use Rattle.lrpar_messages.specs.Groups.{IsFirst, IsNoFirst, TellsFirst, numbers_of}
use Rattle.lrpar_messages.proofs.KernelLemmas.{AreFirstsBelow, no_first, no_firsts, one_first}
use Rattle.lrpar_messages.proofs.groups.error_groups.Goals as goal
use Rattle.lrpar_messages.proofs.groups.error_groups.Goals.{then-is_first+in_ok-push, else-is_first}

pub loop-number-init : goal.loop-number-init
loop-number-init g c =
    let index = g.StorageT.StorageIndex.index in
    subst (λ xs. AreFirstsBelow c.args.data.now.graph c.args.stops.now (numbers_of index xs) 0) (sym c.new-firsts.ensures.items)
    (no_firsts c.args.data.now.graph c.args.stops.now)

pub loop-number-preserved : goal.loop-number-preserved
loop-number-preserved g c =
    let index = g.StorageT.StorageIndex.index in
    let graph = c.args.data.now.graph in
    let stops = c.args.stops.now in
    let n = c.loop-number.number in
    let old = c.loop-number.firsts.items in
    let tells = λ (b : Bool). TellsFirst index c.sgraph-in-loop-number.result.now stops c.deref.result.now (record { 0 = c.unwrap.result }) b in
    let at = index_back index c.from_index.result c.unwrap.result n c.from_index.ensures.back c.unwrap.ensures in
    elim c.if-is_first.branch as (λ _. AreFirstsBelow graph stops (numbers_of index c.if-is_first.firsts.items) (n + 1)) [
      | then-is_first+in_ok-push w ↦
          let first : IsFirst graph stops (numbers_of index old) n =
          subst (λ k. IsFirst graph stops (numbers_of index old) k) at
          (subst (λ xs. IsFirst graph stops (numbers_of index xs) (index c.unwrap.result)) c.deref.ensures.value
          (subst (λ x. IsFirst x stops (numbers_of index c.deref.result.now) (index c.unwrap.result)) c.sgraph-in-loop-number.ensures
          (subst tells w.if-is_first.true c.is_first.ensures))) in
          let pushed : numbers_of index c.if-is_first.firsts.items ≡ numbers_of index old ++ n ∷ [] =
          ap (λ (v : Vec (StIdx g.row.StorageT.Denot) Global). numbers_of index v.items) w.firsts-is
          ∙ ap (λ xs. numbers_of index xs) w.in_ok-push.ensures.items
          ∙ map_push (λ state. index state.0) old (record { 0 = c.unwrap.result })
          ∙ ap (λ k. numbers_of index old ++ k ∷ []) at in
          subst (λ firsts. AreFirstsBelow graph stops firsts (n + 1)) (sym pushed) (one_first graph stops (numbers_of index old) n c.loop-number.invariant first)
      | else-is_first w ↦
          let none : IsNoFirst graph stops (numbers_of index old) n =
          subst (λ k. IsNoFirst graph stops (numbers_of index old) k) at
          (subst (λ xs. IsNoFirst graph stops (numbers_of index xs) (index c.unwrap.result)) c.deref.ensures.value
          (subst (λ x. IsNoFirst x stops (numbers_of index c.deref.result.now) (index c.unwrap.result)) c.sgraph-in-loop-number.ensures
          (subst tells w.if-is_first.false c.is_first.ensures))) in
          let same : numbers_of index c.if-is_first.firsts.items ≡ numbers_of index old =
          ap (λ (v : Vec (StIdx g.row.StorageT.Denot) Global). numbers_of index v.items) w.firsts-is in
          subst (λ firsts. AreFirstsBelow graph stops firsts (n + 1)) (sym same) (no_first graph stops (numbers_of index old) n c.loop-number.invariant none)
    ]

pub returns : goal.returns
returns g c =
    let count = c.states_len-number-end.ensures.states in
    record {
      each = c.loop-number.invariant.0;
      all = λ s low marked.
          let within : s < c.loop-number.number =
          (let below : s < c.states_len-number-end.result = subst (λ n. s < n) (sym count) (subst (λ (x : Graph). s < graph_len x) (sym c.sgraph.ensures) low) in omega (arith, below, c.loop-number-test.false)) in
          c.loop-number.invariant.1 s within marked;
      apart = c.loop-number.invariant.2;
    }
