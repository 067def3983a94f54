use Rattle.std.proofs.Common.{◌∷◌, ◌++◌, [], Ok, sym, ◌∙◌, ap, refl, option_map}
use Rattle.lrpar_lexer_lrlex.specs.Faults.{◌>>=◌}
use Rattle.lrpar_lexer_lrlex.specs.Names.{numbers_of, states_of, with_number_of}
use Rattle.lrpar_lexer_lrlex.specs.Parts.{placed}
use Rattle.lrpar_lexer_lrlex.specs.States.{plain_names}
use Rattle.lrpar_lexer_lrlex.proofs.FaultLemmas.{gives_fault}
use Rattle.lrpar_lexer_lrlex.proofs.PieceLemmas.{goes_on, goes_out}
use Rattle.lrpar_lexer_lrlex.proofs.names.states_of.Goals as goal

pub returns-in_err-state_of : goal.returns-in_err-state_of
returns-in_err-state_of c =
    let states = plain_names c.args.states.now in
    let total = states_of states (option_map (λ p. placed p) c.args.names) in
    gives_fault total c.in_err-state_of.field-0.0 _ c.from_residual.result c.from_residual.ensures.1
    (λ _. goes_out 44 (numbers_of states) (with_number_of states) c.names.numbers.items c.names.left c.cut.result.1 c.in-Some.part c.cut.result.0
    c.trimmed.result total c.in-Some.is c.cut.ensures.before c.cut.ensures.after c.trimmed.ensures refl c.names.invariant c.in_err-state_of.field-0.0
    (ap (λ r. r >>= λ n. Ok (c.names.numbers.items ++ n ∷ [])) (sym c.state_of.ensures ∙ c.in_err-state_of.was)))

pub names-preserved : goal.names-preserved
names-preserved c =
    let states = plain_names c.args.states.now in
    let total = states_of states (option_map (λ p. placed p) c.args.names) in
    goes_on 44 (numbers_of states) (with_number_of states) c.names.numbers.items c.names.left c.cut.result.1 c.in-Some.part c.cut.result.0
    c.trimmed.result total c.in-Some.is c.cut.ensures.before c.cut.ensures.after c.trimmed.ensures refl c.names.invariant c.push.new.self.items
    (ap (λ r. r >>= λ n. Ok (c.names.numbers.items ++ n ∷ [])) (sym c.state_of.ensures ∙ c.in_ok-state_of.was) ∙ ap Ok (sym c.in_ok-push.ensures.items))
