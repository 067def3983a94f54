use Rattle.std.proofs.Common.{ap}
use Rattle.lrpar_diagnostics.proofs.ConflictLemmas.{prod_parts}
use Rattle.lrpar_diagnostics.proofs.formatter.SpannedDiagnosticFormatter.push_symbols.Goals as goal

pub push_reduced-requires-clause-symbols : goal.push_reduced-requires-clause-symbols
push_reduced-requires-clause-symbols g c =
    rw (ap (λ v. v.text) c.self.view_is, c.symbol_spans.ensures)
    (prod_parts c.args.grm.now c.args.self.now.text (g.StorageT.StorageIndex.index c.args.prod.0) c.requires.spans c.requires.prod).1
