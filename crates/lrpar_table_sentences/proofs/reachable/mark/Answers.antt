use Rattle.std.proofs.Common.{◌∙◌, ap, arith, subst, sym}
use Rattle.lrpar_grammar.specs.Grammar.{Nonterminal}
use Rattle.lrpar_grammar.specs.Symbols.{symbol_of}
use Rattle.lrpar_table_sentences.specs.Reachable.{IsReachableSymbol, is_marked}
use Rattle.lrpar_table_sentences.proofs.ReachableLemmas.{mark_less, mark_right}
use Rattle.lrpar_table_sentences.proofs.reachable.mark.Goals as goal

pub bounds-marks-from : goal.bounds-marks-from
bounds-marks-from g c =
    let index = g.StorageT.StorageIndex.index in
    let low = c.requires (index c.in-Rule.rule.0) (ap (symbol_of index) c.in-Rule.is) in
    omega (arith, low, c.from.ensures)

pub bounds-marks-from-in-Rule : goal.bounds-marks-from-in-Rule
bounds-marks-from-in-Rule g c =
    let index = g.StorageT.StorageIndex.index in
    let low = c.requires (index c.in-Rule.rule.0) (ap (symbol_of index) c.in-Rule.is) in
    omega (arith, low, c.from-in-Rule.ensures)

pub returns-else-marks-from-clause-marks : goal.returns-else-marks-from-clause-marks
returns-else-marks-from-clause-marks g c =
    let index = g.StorageT.StorageIndex.index in
    let marks = c.args.marks.now in
    let low = c.requires (index c.in-Rule.rule.0) (ap (symbol_of index) c.in-Rule.is) in
    let again = c.from.ensures ∙ sym c.from-in-Rule.ensures in
    λ own are reached.
    mark_right marks c.from-in-Rule.result (omega (arith, low, c.from-in-Rule.ensures)) (ap (is_marked marks) (sym again) ∙ c.if-marks-from.false) own are
    (subst (λ r. IsReachableSymbol own r) (ap (symbol_of index) c.in-Rule.is ∙ ap (λ n. Nonterminal n) (sym c.from-in-Rule.ensures)) reached)

pub returns-else-marks-from-clause-grown : goal.returns-else-marks-from-clause-grown
returns-else-marks-from-clause-grown g c =
    let index = g.StorageT.StorageIndex.index in
    let marks = c.args.marks.now in
    let low = c.requires (index c.in-Rule.rule.0) (ap (symbol_of index) c.in-Rule.is) in
    let again = c.from.ensures ∙ sym c.from-in-Rule.ensures in
    mark_less marks c.from-in-Rule.result (omega (arith, low, c.from-in-Rule.ensures)) (ap (is_marked marks) (sym again) ∙ c.if-marks-from.false)
