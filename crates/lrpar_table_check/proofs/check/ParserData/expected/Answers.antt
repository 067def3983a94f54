use Rattle.std.proofs.Common.{List, ℕ, subst}
use Rattle.std.specs.Result.{OnErr}
use Rattle.lrpar_table_stacks.specs.Expected.{IsListShortOfMemory}
use Rattle.lrpar_table_check.proofs.check.ParserData.expected.Goals as goal

pub returns-clause-short_of_memory : goal.returns-clause-short_of_memory
returns-clause-short_of_memory g c =
    let d = c.args.self.now in
    subst (λ (st : List ℕ). OnErr c.expected_over.result (IsListShortOfMemory d.grammar d.table st)) c.new-overlay.ensures.states
    c.expected_over.ensures.short_of_memory
