use Rattle.std.proofs.Common.{◌≡◌, true, false, Ok, option_map, sym, ◌∙◌, ap}
use Rattle.std.proofs.lemmas.Bool.{cond-false, cond-true}
use Rattle.lrpar_lexer_lrlex.specs.Declarations.{declarations, declare, declared, is_rules_sign}
use Rattle.lrpar_lexer_lrlex.specs.Parts.{before_cut, pieces, pieces_left, placed, trimmed}
use Rattle.lrpar_lexer_lrlex.specs.States.{plain_names}
use Rattle.lrpar_lexer_lrlex.proofs.FaultLemmas.{gives_fault}
use Rattle.lrpar_lexer_lrlex.proofs.PieceLemmas.{goes_on, goes_out, pieces_step}
use Rattle.lrpar_lexer_lrlex.proofs.declarations.declarations.Goals as goal

pub returns-then-is_rules_sign : goal.returns-then-is_rules_sign
returns-then-is_rules_sign c =
    let states = plain_names c.lines.states.items in
    let line = before_cut 10 (placed c.in-Some.part) in
    let test : is_rules_sign (trimmed line) ≡ true =
    ap is_rules_sign (sym (c.trimmed-core.ensures ∙ ap trimmed c.cut.ensures.before)) ∙ sym c.is_rules_sign.ensures ∙ c.if-is_rules_sign.true in
    sym c.lines.invariant ∙ ap (λ o. declared states (pieces_left 10 (option_map (λ p. placed p) o))) c.in-Some.is
    ∙ ap (declared states) (pieces_step 10 (placed c.in-Some.part)) ∙ cond-true (is_rules_sign (trimmed line)) _ _ test
    ∙ ap (λ o. Ok (states, pieces_left 10 o)) (sym c.cut.ensures.after)

pub returns-in_err-declare : goal.returns-in_err-declare
returns-in_err-declare c =
    let total = declarations (pieces 10 (placed c.args.text)) in
    let line = before_cut 10 (placed c.in-Some.part) in
    let test : is_rules_sign (trimmed line) ≡ false =
    ap is_rules_sign (sym (c.trimmed-core.ensures ∙ ap trimmed c.cut.ensures.before)) ∙ sym c.is_rules_sign.ensures ∙ c.if-is_rules_sign.false in
    gives_fault total c.in_err-declare.field-0.0 _ c.from_residual-in_err-declare.result c.from_residual-in_err-declare.ensures.1
    (λ other. goes_out 10 declared declare (plain_names c.lines.states.items) c.lines.left c.cut.result.1 c.in-Some.part c.cut.result.0
    c.trimmed-core.result total c.in-Some.is c.cut.ensures.before c.cut.ensures.after c.trimmed-core.ensures
    (cond-false (is_rules_sign (trimmed line)) _ _ test) c.lines.invariant c.in_err-declare.field-0.0 (c.in_err-declare.ensures other))

pub lines-preserved : goal.lines-preserved
lines-preserved c =
    let total = declarations (pieces 10 (placed c.args.text)) in
    let line = before_cut 10 (placed c.in-Some.part) in
    let test : is_rules_sign (trimmed line) ≡ false =
    ap is_rules_sign (sym (c.trimmed-core.ensures ∙ ap trimmed c.cut.ensures.before)) ∙ sym c.is_rules_sign.ensures ∙ c.if-is_rules_sign.false in
    goes_on 10 declared declare (plain_names c.lines.states.items) c.lines.left c.cut.result.1 c.in-Some.part c.cut.result.0
    c.trimmed-core.result total c.in-Some.is c.cut.ensures.before c.cut.ensures.after c.trimmed-core.ensures
    (cond-false (is_rules_sign (trimmed line)) _ _ test) c.lines.invariant (plain_names c.declare.new.states.items) c.in_ok-declare.ensures
