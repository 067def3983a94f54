use Rattle.std.proofs.Common.{[], ◌++◌, ◌∙◌, ◌∷◌, List, ap, subst, sym}
use Rattle.lrpar_table_rows.specs.Table.{Table}
use Rattle.lrpar_table_pops.specs.Searched.{AreStacks}
use Rattle.lrpar_table_pops.specs.declared.searched.Stack.{Stack}
use Rattle.lrpar_table_pops.proofs.SearchLemmas.{stacks_start}
use Rattle.lrpar_table_pops.specs.Searched.{AreAllGood}
use Rattle.lrpar_table_pops.proofs.StuckLemmas.{all_good_start}
use Rattle.lrpar_table_pops.proofs.searched.Searched.new.Goals as goal

pub returns-clause-stacks : goal.returns-clause-stacks
returns-clause-stacks g c =
    let index = g.StorageT.StorageIndex.index in
    let gr = c.args.checked.now.grammar in
    let table = c.args.checked.now.table in
    let first : Stack g.row.StorageT.Denot = record { below = 0; top = c.start_state.result; good = c.in_ok-good.good } in
    let start = c.start_state.ensures.start ∙ ap (λ (t : Table). t.start) c.stable-stable.ensures.table in
    let are = c.in_ok-push-2.ensures ∙ ap (λ (l : List (Stack g.row.StorageT.Denot)). l ++ first ∷ []) c.new-stacks.ensures.items in
    subst (λ (l : List (Stack g.row.StorageT.Denot)). AreStacks index gr table l) (sym are)
    (stacks_start index gr table first start c.stable-stable.ensures.sound.closed.start_within c.in_ok-good.ensures.good)

pub returns-clause-all_good : goal.returns-clause-all_good
returns-clause-all_good g c =
    let index = g.StorageT.StorageIndex.index in
    let d = c.args.checked.now in
    let first : Stack g.row.StorageT.Denot = record { below = 0; top = c.start_state.result; good = c.in_ok-good.good } in
    let are = c.in_ok-push-2.ensures ∙ ap (λ (l : List (Stack g.row.StorageT.Denot)). l ++ first ∷ []) c.new-stacks.ensures.items in
    subst (λ (l : List (Stack g.row.StorageT.Denot)). AreAllGood index d.grammar d.graph d.table l) (sym are)
    (all_good_start index d.grammar d.graph d.table first c.in_ok-good.ensures.all)
