use Rattle.std.proofs.Common.{◌≡◌, Bool, true, false, subst}
use Rattle.lrpar_table_shared_stacks.proofs.SharedStacksLemmas.{extends_then}
use Rattle.lrpar_parse_suggestions.specs.TrialView.{PutsIn}
use Rattle.lrpar_parse_suggestions.proofs.StackLemmas.{extends_same}
use Rattle.lrpar_parse_suggestions.proofs.TrialLemmas.{change_fed, tried_helps, tried_no_help, tried_stops}
use Rattle.lrpar_parse_suggestions.proofs.trial.Trials.try_change.Goals as goal

pub returns-then-not-branch-clause-tried : goal.returns-then-not-branch-clause-tried
returns-then-not-branch-clause-tried g c =
    let index = g.StorageT.StorageIndex.index in
    let trials = c.args.self.now in
    let none = subst (λ (b : Bool). PutsIn index trials c.args.change c.go_to.new.self c.put_in.new.stacks b) c.if-not-branch.true c.in_ok-put_in.ensures.puts in
    tried_stops index trials c.args.place c.args.change c.args.stacks.now c.go_to.new.self c.args.from c.requires.before c.go_to.ensures.current
    c.put_in.new.stacks none

pub feed_far-requires-clause-fed : goal.feed_far-requires-clause-fed
feed_far-requires-clause-fed g c =
    let index = g.StorageT.StorageIndex.index in
    let trials = c.args.self.now in
    let puts = subst (λ (b : Bool). PutsIn index trials c.args.change c.go_to.new.self c.put_in.new.stacks b) c.if-not-branch.false c.in_ok-put_in.ensures.puts in
    record {
      stack = c.in_ok-put_in.ensures.stack;
      fed = change_fed index trials c.args.place c.args.change c.args.stacks.now c.go_to.new.self c.args.from c.requires.before c.go_to.ensures.current
          c.put_in.new.stacks (c.can_change.ensures.0 c.if-not-can_change.false) puts;
    }

pub returns-then-not-helps-clause-tried : goal.returns-then-not-helps-clause-tried
returns-then-not-helps-clause-tried g c =
    let no : c.helps.result ≡ false = c.if-not-helps.true in
    tried_no_help g.StorageT.StorageIndex.index c.args.self.now c.args.place c.args.change c.feed_far.new.stacks c.in_ok-stop.stop c.in_ok-accepts.accepts
    c.in_ok-stop.ensures.far c.in_ok-accepts.ensures.accepts (λ helps. let yes_it : c.helps.result ≡ true = c.helps.ensures.1 helps in absurd (let none : ⊥ = cc in none))

pub returns-then-not-helps-clause-extends : goal.returns-then-not-helps-clause-extends
returns-then-not-helps-clause-extends g c =
    let old = c.args.stacks.now in
    let put = extends_same old c.go_to.new.self c.put_in.new.stacks c.go_to.ensures.stacks c.in_ok-put_in.ensures.extends in
    let far = extends_then old c.put_in.new.stacks c.feed_far.new.stacks put c.in_ok-stop.ensures.extends in
    extends_then old c.feed_far.new.stacks c.accepts.new.stacks far c.in_ok-accepts.ensures.extends

pub returns-clause-tried : goal.returns-clause-tried
returns-clause-tried g c =
    tried_helps g.StorageT.StorageIndex.index c.args.self.now c.args.place c.args.change c.feed_far.new.stacks c.in_ok-stop.stop c.in_ok-accepts.accepts
    c.in_ok-stop.ensures.far c.in_ok-accepts.ensures.accepts c.saturating_sub.result c.saturating_sub.ensures c.requires.near
    (c.can_change.ensures.0 c.if-not-can_change.false) (c.helps.ensures.0 c.if-not-helps.false)

pub returns-clause-extends : goal.returns-clause-extends
returns-clause-extends g c =
    let old = c.args.stacks.now in
    let put = extends_same old c.go_to.new.self c.put_in.new.stacks c.go_to.ensures.stacks c.in_ok-put_in.ensures.extends in
    let far = extends_then old c.put_in.new.stacks c.feed_far.new.stacks put c.in_ok-stop.ensures.extends in
    extends_then old c.feed_far.new.stacks c.accepts.new.stacks far c.in_ok-accepts.ensures.extends
