use Rattle.std.proofs.Common.{◌∙◌, ◌++◌, None, Some, ap, refl, subst}
use Rattle.lrpar_grammar_places.specs.declared.span.StIdx.{StIdx}
use Rattle.lrpar_table_stacks.specs.Stack.{states_of}
use Rattle.lrpar_parse.specs.ExpectedAnswer.{FeedsTo}
use Rattle.lrpar_parse.proofs.ExpectedLemmas.{fed_list}
use Rattle.lrpar_parse.proofs.expected.feed_if_expected.Goals as goal

pub returns-in_default : goal.returns-in_default
returns-in_default g c =
    let index = g.StorageT.StorageIndex.index in
    let d = c.args.checked.now in
    let t = index c.args.token.0 in
    let above = states_of index c.feed_above.new.above.items in
    let no = rw c.in_default.is at c.in_ok-kept.ensures in
    (refl, subst (λ states. FeedsTo d.grammar d.table t (states_of index states) None above) c.deref.ensures.value no)

pub returns : goal.returns
returns g c =
    let index = g.StorageT.StorageIndex.index in
    let d = c.args.checked.now in
    let t = index c.args.token.0 in
    let old = c.args.stack.now.items in
    let cut = c.truncate.new.self.items in
    let above = c.feed_above.new.above.items in
    let to = rw c.in-Some.is at c.in_ok-kept.ensures in
    let fed = subst (λ states. FeedsTo d.grammar d.table t (states_of index states) (Some c.in-Some.kept) (states_of index above)) c.deref.ensures.value to in
    let number = λ (x : StIdx g.row.StorageT.Denot). index x.0 in
    fed_list number d.grammar d.table t old cut c.extend_from_slice.new.self.items above c.in-Some.kept c.truncate.ensures.items
    (c.in_ok-extend_from_slice.ensures.items ∙ ap (λ states. cut ++ states) c.deref-2.ensures.value) fed
