use Rattle.std.proofs.Common.{◌≡◌, true, false, option_map, sym, ◌∙◌, ap}
use Rattle.std.proofs.lemmas.Bool.{cond-false, cond-true}
use Rattle.lrpar_names.specs.Messages.{add_line, add_lines, is_end_sign, read_names}
use Rattle.lrpar_names.specs.Parts.{before_cut, pieces_left, plain, trimmed}
use Rattle.lrpar_names.proofs.FaultLemmas.{gives_fault}
use Rattle.lrpar_names.proofs.PieceLemmas.{goes_on, goes_out, pieces_step, smaller}
use Rattle.lrpar_names.proofs.names.Names.read.Goals as goal

pub returns-then-is_end_sign : goal.returns-then-is_end_sign
returns-then-is_end_sign g c =
    let grammar = c.args.grm.now in
    let line = before_cut 10 (plain c.in-Some.part) in
    let test : is_end_sign (trimmed line) ≡ true =
    ap is_end_sign (sym (c.trimmed-core.ensures ∙ ap trimmed c.cut.ensures.before)) ∙ sym c.is_end_sign.ensures ∙ c.if-is_end_sign.true in
    sym c.lines.invariant ∙ ap (λ o. add_lines grammar c.lines.names (pieces_left 10 (option_map (λ p. plain p) o))) c.in-Some.is
    ∙ ap (add_lines grammar c.lines.names) (pieces_step 10 (plain c.in-Some.part)) ∙ cond-true (is_end_sign (trimmed line)) _ _ test

pub returns-in_err-add_line : goal.returns-in_err-add_line
returns-in_err-add_line g c =
    let grammar = c.args.grm.now in
    let total = read_names grammar c.args.text.now in
    let line = before_cut 10 (plain c.in-Some.part) in
    let test : is_end_sign (trimmed line) ≡ false =
    ap is_end_sign (sym (c.trimmed-core.ensures ∙ ap trimmed c.cut.ensures.before)) ∙ sym c.is_end_sign.ensures ∙ c.if-is_end_sign.false in
    gives_fault total c.in_err-add_line.field-0.0 c.from_residual-in_err-add_line.result c.from_residual-in_err-add_line.ensures.1
    (λ other. goes_out 10 (add_lines grammar) (add_line grammar) c.lines.names c.lines.left c.cut.result.1 c.in-Some.part c.cut.result.0
    c.trimmed-core.result total c.in-Some.is c.cut.ensures.before c.cut.ensures.after c.trimmed-core.ensures
    (cond-false (is_end_sign (trimmed line)) _ _ test) c.lines.invariant c.in_err-add_line.field-0.0 (c.in_err-add_line.ensures other))

pub lines-preserved : goal.lines-preserved
lines-preserved g c =
    let grammar = c.args.grm.now in
    let total = read_names grammar c.args.text.now in
    let line = before_cut 10 (plain c.in-Some.part) in
    let test : is_end_sign (trimmed line) ≡ false =
    ap is_end_sign (sym (c.trimmed-core.ensures ∙ ap trimmed c.cut.ensures.before)) ∙ sym c.is_end_sign.ensures ∙ c.if-is_end_sign.false in
    goes_on 10 (add_lines grammar) (add_line grammar) c.lines.names c.lines.left c.cut.result.1 c.in-Some.part c.cut.result.0
    c.trimmed-core.result total c.in-Some.is c.cut.ensures.before c.cut.ensures.after c.trimmed-core.ensures
    (cond-false (is_end_sign (trimmed line)) _ _ test) c.lines.invariant c.add_line.new.names c.in_ok-add_line.ensures

pub lines-smaller : goal.lines-smaller
lines-smaller g c = smaller 10 c.lines.left c.cut.result.1 c.in-Some.part c.in-Some.is c.cut.ensures.after
