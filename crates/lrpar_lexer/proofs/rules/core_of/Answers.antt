use Rattle.std.proofs.Common.{◌∙◌, ap}
use Rattle.lrpar_lexer.specs.RuleLines.{is_margin, without_end}
use Rattle.lrpar_lexer.proofs.MarginLemmas.{margin_end, margin_front}
use Rattle.lrpar_lexer.proofs.TrimLemmas.{cut_is_all}
use Rattle.lrpar_lexer.proofs.rules.core_of.Goals as goal

pub returns : goal.returns
returns c =
    let front = c.trim_start_matches.result.now in
    let core = c.trim_end_matches.result.now in
    let cut = margin_end front core c.trim_end_matches.ensures.matches in
    cut_is_all is_margin front core cut.0 cut.1
    ∙ ap (without_end is_margin) (margin_front c.args.line.now front c.trim_start_matches.ensures.matches)
