use Rattle.std.proofs.Common.{◌≡◌, ◌<◌, ◌⊎◌, [], inl, inr, ap, arith, length, subst, suc, sym, ℕ}
use Rattle.std.proofs.lemmas.Bool.{eqb-true}
use Rattle.std.proofs.lemmas.List.{length_push, nil_from_length}
use Rattle.lrpar_parse_cpctplus.specs.Counted.{IsLayer}
use Rattle.lrpar_parse_cpctplus.specs.NodesView.{links_of, rests_of}
use Rattle.lrpar_parse_cpctplus.proofs.CountLemmas.{are_layers, layers_more}
use Rattle.lrpar_parse_cpctplus.proofs.nodes.Nodes.layers.Goals as goal
use Rattle.lrpar_parse_cpctplus.proofs.nodes.Nodes.layers.Goals.{then-steps-test+else-not-is_empty, else-steps-test}

pub steps-init : goal.steps-init
steps-init g c =
    rw c.new-layers.ensures.items
    (record { each = λ s d within. absurd (omega (arith, within)); few = omega arith; next = c.in_ok-layer.ensures })

pub steps-preserved : goal.steps-preserved
steps-preserved g c =
    let begin = rests_of g.StorageT.StorageIndex.index c.args.self.now in
    let l = c.steps in
    let pushed = c.in_ok-push.ensures.items in
    let long : suc (length l.layers.items) ≡ length c.push.new.self.items = omega (arith, length_push l.layers.items l.layer, ap length pushed) in
    record {
      each = layers_more begin l.layers.items c.push.new.self.items l.layer pushed l.invariant.each l.invariant.next;
      few = omega (arith, long, c.steps-test.true, c.len.ensures, l.layers.ok);
      next = subst (λ (n : ℕ). IsLayer (begin n) c.in_ok-next.next) long (c.in_ok-next.ensures (length l.layers.items) l.invariant.next);
    }

pub returns : goal.returns
returns g c =
    let nodes = c.args.self.now in
    let l = c.steps in
    let ended : (c.args.self.now.end < length l.layers.items) ⊎ (l.layer.nodes.items ≡ []) =
    elim c.steps-test.branch as (λ _. (c.args.self.now.end < length l.layers.items) ⊎ (l.layer.nodes.items ≡ [])) [
      | then-steps-test+else-not-is_empty w ↦
          let none : l.layer.nodes.len ≡ 0 = eqb-true l.layer.nodes.len 0 (sym w.if-not-is_empty.ensures) in
          inr (nil_from_length l.layer.nodes.items (omega (arith, none, l.layer.nodes.ok)))
      | else-steps-test w ↦ inl (omega (arith, w.steps-test.false, c.len.ensures))
    ] in
    are_layers nodes.avoided.now nodes.end (links_of g.StorageT.StorageIndex.index nodes) c.args.self.now.end l.layers.items l.layer l.invariant.each l.invariant.few
    l.invariant.next ended
