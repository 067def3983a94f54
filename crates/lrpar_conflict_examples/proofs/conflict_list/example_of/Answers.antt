use Rattle.std.proofs.Common.{◌∙◌, sym, ap, subst}
use Rattle.lrpar_table_build.specs.BuilderLaws.{lists_in}
use Rattle.lrpar_table_sentences.specs.Moves.{Makes, Takes, move_of}
use Rattle.lrpar_conflict_derivations.specs.Example.{IsExample}
use Rattle.lrpar_conflict_examples.specs.Conflicts.{unmet_of}
use Rattle.lrpar_conflict_examples.proofs.ListedLemmas.{first_made, if_ok_all, reductions_listed, shift_listed}
use Rattle.lrpar_conflict_examples.proofs.conflict_list.example_of.Goals as goal

pub of_reduce_reduce-requires-clause-member : goal.of_reduce_reduce-requires-clause-member
of_reduce_reduce-requires-clause-member g c =
    let index = g.StorageT.StorageIndex.index in
    reductions_listed (lists_in c.args.stable.now.conflicts) (unmet_of index c.args.conflict) c.requires.listed (index c.in-Make-Make.first.0)
    (index c.in-Make-Make.second.0) (ap (move_of index) c.in-Make-Make.is-0) (ap (move_of index) c.in-Make-Make.is-1)

pub of_shift_reduce-requires-clause-member : goal.of_shift_reduce-requires-clause-member
of_shift_reduce-requires-clause-member g c =
    let index = g.StorageT.StorageIndex.index in
    (shift_listed (lists_in c.args.stable.now.conflicts) (unmet_of index c.args.conflict) c.requires.listed (index c.in-Make-Take.prod.0)
    (index c.in-Make-Take.field-0-1.0) (ap (move_of index) c.in-Make-Take.is-0) (ap (move_of index) c.in-Make-Take.is-1)).0

pub unreachable-requires : goal.unreachable-requires
unreachable-requires g c =
    let index = g.StorageT.StorageIndex.index in
    first_made (lists_in c.args.stable.now.conflicts) (unmet_of index c.args.conflict) c.requires.listed (index c.in-Take-default.field-0-0.0)
    (ap (move_of index) c.in-Take-default.is-0)

pub returns-in-Make-Make : goal.returns-in-Make-Make
returns-in-Make-Make g c =
    let index = g.StorageT.StorageIndex.index in
    let own = unmet_of index c.args.conflict in
    let first = ap (move_of index) c.in-Make-Make.is-0 in
    let second = ap (move_of index) c.in-Make-Make.is-1 in
    if_ok_all c.of_reduce_reduce.result _ _ _ _
    (λ x example searched bound. (
      subst (λ m. IsExample c.args.grm.now c.args.sgraph.now own.state own.token m own.second x) (sym first)
          (subst (λ m. IsExample c.args.grm.now c.args.sgraph.now own.state own.token (Makes (index c.in-Make-Make.first.0)) m x) (sym second) example),
      bound,
      searched,
    )) c.of_reduce_reduce.ensures.example c.of_reduce_reduce.ensures.searched c.of_reduce_reduce.ensures.bound

pub returns-in-Make-Take : goal.returns-in-Make-Take
returns-in-Make-Take g c =
    let index = g.StorageT.StorageIndex.index in
    let own = unmet_of index c.args.conflict in
    let prod = index c.in-Make-Take.prod.0 in
    let first = ap (move_of index) c.in-Make-Take.is-0 in
    let second = ap (move_of index) c.in-Make-Take.is-1 in
    let token =
    (shift_listed (lists_in c.args.stable.now.conflicts) own c.requires.listed prod (index c.in-Make-Take.field-0-1.0) first second).1 in
    if_ok_all c.of_shift_reduce.result _ _ _ _
    (λ x example searched bound. (
      subst (λ m. IsExample c.args.grm.now c.args.sgraph.now own.state own.token m own.second x) (sym first)
          (subst (λ m. IsExample c.args.grm.now c.args.sgraph.now own.state own.token (Makes prod) m x) (sym (second ∙ ap Takes token)) example),
      bound,
      searched,
    )) c.of_shift_reduce.ensures.example c.of_shift_reduce.ensures.searched c.of_shift_reduce.ensures.bound
