use Rattle.std.proofs.Common.{◌≡◌, ℕ, arith, subst}
use Rattle.lrpar_parse_suggestions.specs.TrialView.{ListsAhead, changes_of}
use Rattle.lrpar_parse_suggestions.proofs.AddLemmas.{ahead_begun, ahead_ended}
use Rattle.lrpar_parse_suggestions.proofs.StackLemmas.{extends_none}
use Rattle.lrpar_parse_suggestions.proofs.trial.Trials.add_changes.Goals as goal

pub changes-init : goal.changes-init
changes-init g c = record {
  listed = ahead_begun g.StorageT.StorageIndex.index c.args.self.now c.args.place c.args.suggestions.now.items c.requires.listed;
  extends = extends_none c.args.stacks.now;
}

pub returns-clause-listed : goal.returns-clause-listed
returns-clause-listed g c =
    let index = g.StorageT.StorageIndex.index in
    let trials = c.args.self.now in
    let l = c.changes in
    let all : l.number ≡ changes_of trials = omega (arith, c.changes-test.false, l.auto.number-end, c.changes_len-number-end.ensures) in
    ahead_ended index trials c.args.place l.suggestions.items
    (subst (λ (k : ℕ). ListsAhead index trials c.args.place k l.suggestions.items) all l.invariant.listed)
