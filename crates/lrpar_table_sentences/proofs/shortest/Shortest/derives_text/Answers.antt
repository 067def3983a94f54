use Rattle.std.proofs.Common.{◌≡◌, ◌^◌, ◌-◌, rules}
use Rattle.std.specs.Option.{is_some}
use Rattle.lrpar_table_sentences.specs.Choices.{choice_at}
use Rattle.lrpar_table_sentences.proofs.ReachableLemmas.{kept_exact}
use Rattle.lrpar_table_sentences.proofs.shortest.Shortest.derives_text.Goals as goal

pub returns-clause-exact : goal.returns-clause-exact
returns-clause-exact g c = λ grm shortest.
    let r = g.StorageT.StorageIndex.index c.args.rule.0 in
    let is : c.is_some.result ≡ is_some (choice_at c.args.self.now r) = search rules in
    kept_exact grm (2 ^ 64 - 1) c.args.self.now shortest r c.is_some.result is
