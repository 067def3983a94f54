use Rattle.std.proofs.Common.{refl}
use Rattle.lrpar_lexer_lrlex.specs.Flags.{flags_of, set, set_all}
use Rattle.lrpar_lexer_lrlex.specs.Parts.{placed}
use Rattle.lrpar_lexer_lrlex.proofs.FaultLemmas.{match_fault}
use Rattle.lrpar_lexer_lrlex.proofs.PieceLemmas.{goes_on, goes_out, smaller}
use Rattle.lrpar_lexer_lrlex.proofs.flags.flags_of.Goals as goal

pub returns-in_err-flags : goal.returns-in_err-flags
returns-in_err-flags c =
    match_fault (flags_of (placed c.args.inside)) c.in_err-flags.field-0.0 _ c.from_residual.result c.from_residual.ensures.1
    (goes_out 44 set_all set c.flags.flags c.flags.left c.cut.result.1 c.in-Some.part c.cut.result.0 c.trimmed.result (flags_of (placed c.args.inside))
    c.in-Some.is c.cut.ensures.before c.cut.ensures.after c.trimmed.ensures refl c.flags.invariant c.in_err-flags.field-0.0 c.in_err-flags.ensures)

pub flags-smaller : goal.flags-smaller
flags-smaller c = smaller 44 c.flags.left c.cut.result.1 c.in-Some.part c.in-Some.is c.cut.ensures.after

pub flags-preserved : goal.flags-preserved
flags-preserved c =
    goes_on 44 set_all set c.flags.flags c.flags.left c.cut.result.1 c.in-Some.part c.cut.result.0 c.trimmed.result (flags_of (placed c.args.inside))
    c.in-Some.is c.cut.ensures.before c.cut.ensures.after c.trimmed.ensures refl c.flags.invariant c.in_ok-flags.flags c.in_ok-flags.ensures
