use Rattle.std.proofs.Common.{◌≡◌}
use Rattle.lrpar_table_stacks.specs.Expected.{IsExpected, tokens_of}
use Rattle.lrpar_table_stacks.specs.Overlay.{overlaid}
use Rattle.lrpar_table_check.proofs.ExpectedLemmas.{AreListed}
use Rattle.lrpar_table_check.proofs.check.ParserData.expected_over.Given as goal

-- the probe's base stays, and of the tokens so far those that may come next are listed
abbrev pub invariant-loop-token : goal.invariant-loop-token
invariant-loop-token g l =
    let index = g.StorageT.StorageIndex.index in
    let st = overlaid l.overlay in
    record {
      base : l.probe.base ≡ st;
      listed : AreListed (IsExpected l.self.grammar l.self.table st) (tokens_of index l.tokens) l.token-index (tokens_of index l.expected.items);
    }
