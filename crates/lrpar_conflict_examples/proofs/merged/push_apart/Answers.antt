use Rattle.std.proofs.Common.{◌++◌, ◌∙◌, map, refl, subst, sym}
use Rattle.std.proofs.lemmas.Bool.{false≢true}
use Rattle.lrpar_conflict_examples.specs.Conflicts.{ConflictExampleOf, unmet_in, unmet_of}
use Rattle.lrpar_conflict_examples.specs.Merged.{ToMerged, ToUnmet}
use Rattle.lrpar_conflict_examples.specs.Pairs.{HasSomePair, rows_in}
use Rattle.lrpar_conflict_examples.proofs.DealtLemmas.{behind, to_end, to_front}
use Rattle.lrpar_conflict_examples.proofs.merged.push_apart.Goals as goal

pub returns-in_ok-push-clause-all : goal.returns-in_ok-push-clause-all
returns-in_ok-push-clause-all g c =
    let index = g.StorageT.StorageIndex.index in
    let old = c.args.found.now in
    let x = unmet_of index c.args.conflict in
    let unmet = unmet_in index old.unmet.items in
    behind (map (λ (e : ConflictExampleOf). e.conflict) old.examples.items) (unmet ++ unmet_in index old.merged.items) _ x
    (behind unmet (unmet_in index old.merged.items) _ x
    (to_end (unmet_of index) old.merged.items c.push.new.self.items c.args.conflict c.in_ok-push.ensures.items))

pub returns-in_ok-push-2-clause-all : goal.returns-in_ok-push-2-clause-all
returns-in_ok-push-2-clause-all g c =
    let index = g.StorageT.StorageIndex.index in
    let old = c.args.found.now in
    let merged = unmet_in index old.merged.items in
    behind (map (λ (e : ConflictExampleOf). e.conflict) old.examples.items) (unmet_in index old.unmet.items ++ merged) _ (unmet_of index c.args.conflict)
    (to_front (unmet_of index) old.unmet.items c.push-else-is_paired.new.self.items c.args.conflict c.in_ok-push-2.ensures.items merged)

pub returns-in_ok-push-clause-apart : goal.returns-in_ok-push-clause-apart
returns-in_ok-push-clause-apart g c =
    ToMerged (subst (HasSomePair (rows_in c.args.canonical.now.pairs)) c.from.ensures (c.is_paired.ensures.0 c.if-is_paired.true)) c.in_ok-push.ensures.items refl refl

pub returns-in_ok-push-2-clause-apart : goal.returns-in_ok-push-2-clause-apart
returns-in_ok-push-2-clause-apart g c =
    ToUnmet
    (λ has. false≢true (sym c.if-is_paired.false ∙ c.is_paired.ensures.1 (subst (HasSomePair (rows_in c.args.canonical.now.pairs)) (sym c.from.ensures) has)))
    c.in_ok-push-2.ensures.items refl refl
