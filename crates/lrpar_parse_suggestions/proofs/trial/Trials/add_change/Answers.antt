use Rattle.std.proofs.Common.{◌+◌, subst, sym}
use Rattle.lrpar_parse_suggestions.specs.TrialView.{IsTried, ListsAhead}
use Rattle.lrpar_parse_suggestions.proofs.AddLemmas.{ahead_with, ahead_without}
use Rattle.lrpar_parse_suggestions.proofs.trial.Trials.add_change.Goals as goal

pub returns-in-None-clause-listed : goal.returns-in-None-clause-listed
returns-in-None-clause-listed g c =
    let index = g.StorageT.StorageIndex.index in
    let trials = c.args.self.now in
    let change = c.change_at-change.result in
    let tried = subst (IsTried index trials c.args.place change) c.in-None.is c.in_ok-try_change.ensures.tried in
    ahead_without index trials c.args.place c.args.number change c.change_at-change.ensures c.args.suggestions.now.items c.requires.listed tried

pub returns-in_ok-push-in-Some-clause-listed : goal.returns-in_ok-push-in-Some-clause-listed
returns-in_ok-push-in-Some-clause-listed g c =
    let index = g.StorageT.StorageIndex.index in
    let trials = c.args.self.now in
    let change = c.change_at-change.result in
    let tried = subst (IsTried index trials c.args.place change) c.in-Some.is c.in_ok-try_change.ensures.tried in
    let more =
    ahead_with index trials c.args.place c.args.number change c.change_at-change.ensures c.args.suggestions.now.items c.requires.listed c.in-Some.suggestion tried in
    subst (ListsAhead index trials c.args.place (c.args.number + 1)) (sym c.in_ok-push-in-Some.ensures.items) more
