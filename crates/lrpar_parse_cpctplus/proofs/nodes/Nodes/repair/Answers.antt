use Rattle.std.proofs.Common.{◌≡◌, ◌<◌, ◌-◌, arith, false, length, subst, suc, ℕ}
use Rattle.lrpar_parse_cpctplus.specs.Forming.{form_of}
use Rattle.lrpar_parse_cpctplus.specs.NodesView.{links_of, rests_of}
use Rattle.lrpar_parse_cpctplus.proofs.ChoiceLemmas.{ends_there, goes_on, layer_at}
use Rattle.lrpar_parse_cpctplus.proofs.nodes.Nodes.repair.Goals as goal

pub unreachable-requires : goal.unreachable-requires
unreachable-requires g c =
    let begin = rests_of g.StorageT.StorageIndex.index c.args.self.now in
    let l = c.steps in
    let one : l.left ≡ suc (l.left - 1) = omega (arith, c.steps-test.true) in
    let inside : l.left - 1 < length c.args.layers.now = omega (arith, c.requires.steps, l.invariant.fewer, c.steps-test.true) in
    let here = layer_at begin c.args.layers.now (l.left - 1) c.index-layers-left.result c.requires.layers inside c.index-layers-left.is in
    let past = c.in_default.ensures (l.left - 1) here in
    let within = subst (λ (n : ℕ). l.place < length (begin n l.form l.node)) one l.invariant.within in
    omega (arith, past, within)

pub steps-preserved : goal.steps-preserved
steps-preserved g c =
    let index = g.StorageT.StorageIndex.index in
    let begin = rests_of index c.args.self.now in
    let l = c.steps in
    let one : l.left ≡ suc (l.left - 1) = omega (arith, c.steps-test.true) in
    let inside : l.left - 1 < length c.args.layers.now = omega (arith, c.requires.steps, l.invariant.fewer, c.steps-test.true) in
    let here = layer_at begin c.args.layers.now (l.left - 1) c.index-layers-left.result c.requires.layers inside c.index-layers-left.is in
    let is = c.in-Some.ensures (l.left - 1) here in
    record {
      within = is.within;
      fits = omega (arith, is.no_more, l.invariant.fits);
      fewer = omega (arith, l.invariant.fewer);
      is = goes_on index begin (begin c.args.steps (form_of c.args.class false) 0) c.args.place l.left (l.left - 1) l.form l.node l.place c.in-Some.choice l.repair.items
          c.push.new.self.items one c.in_ok-push.ensures.items is l.invariant.is;
    }

pub returns : goal.returns
returns g c =
    let index = g.StorageT.StorageIndex.index in
    let nodes = c.args.self.now in
    let l = c.steps in
    ends_there index nodes.avoided.now nodes.end (links_of index nodes) (rests_of index nodes c.args.steps (form_of c.args.class false) 0) c.args.place l.left l.form l.node
    l.place l.repair.items (omega (arith, c.steps-test.false)) l.invariant.within l.invariant.is
