use Rattle.std.proofs.Common.{refl}
use Rattle.lrpar_lexer_lrlex.specs.Declarations.{declare_all, declare_each, declare_one}
use Rattle.lrpar_lexer_lrlex.specs.Parts.{placed}
use Rattle.lrpar_lexer_lrlex.specs.States.{plain_names}
use Rattle.lrpar_lexer_lrlex.proofs.FaultLemmas.{keeps_fault}
use Rattle.lrpar_lexer_lrlex.proofs.PieceLemmas.{goes_on, goes_out}
use Rattle.lrpar_lexer_lrlex.proofs.declarations.declare_all.Goals as goal

pub returns-in_err-declare_one : goal.returns-in_err-declare_one
returns-in_err-declare_one c =
    let total = declare_all (plain_names c.args.states.now.items) (placed c.args.line) (placed c.args.names) c.args.exclusive in
    keeps_fault total c.in_err-declare_one.field-0.0 _ c.from_residual.result c.from_residual.ensures.1
    (λ other. goes_out 32 (λ s ps. declare_each s ps c.args.exclusive) (λ s p. declare_one s p c.args.exclusive) (plain_names c.names.states.items)
    c.names.left c.cut-in-Some.result.1 c.in-Some.part c.cut-in-Some.result.0 c.trimmed.result total c.in-Some.is c.cut-in-Some.ensures.before
    c.cut-in-Some.ensures.after c.trimmed.ensures refl c.names.invariant c.in_err-declare_one.field-0.0 (c.in_err-declare_one.ensures other))

pub names-preserved : goal.names-preserved
names-preserved c =
    let total = declare_all (plain_names c.args.states.now.items) (placed c.args.line) (placed c.args.names) c.args.exclusive in
    goes_on 32 (λ s ps. declare_each s ps c.args.exclusive) (λ s p. declare_one s p c.args.exclusive) (plain_names c.names.states.items)
    c.names.left c.cut-in-Some.result.1 c.in-Some.part c.cut-in-Some.result.0 c.trimmed.result total c.in-Some.is c.cut-in-Some.ensures.before
    c.cut-in-Some.ensures.after c.trimmed.ensures refl c.names.invariant (plain_names c.declare_one.new.states.items) c.in_ok-declare_one.ensures
