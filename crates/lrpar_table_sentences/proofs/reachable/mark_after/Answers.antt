use Rattle.std.proofs.Common.{◌∙◌, ap, arith, length, sym, List, IsTrue}
use Rattle.std.proofs.lemmas.Bool.{OnFalse_at, OnFalse_from}
use Rattle.std.proofs.lemmas.List.{length-map}
use Rattle.lrpar_grammar.specs.Grammar.{GrammarSymbol, rule_of, symbols_of}
use Rattle.lrpar_grammar.specs.Symbols.{symbol_of}
use Rattle.lrpar_table_sentences.specs.Reachable.{is_marked, unmarked}
use Rattle.lrpar_table_sentences.proofs.GrowthLemmas.{pass_grows, pass_stays}
use Rattle.lrpar_table_sentences.proofs.ReachableLemmas.{MarkedAt, all_symbols, marked_at, symbol_at, symbol_low, symbol_reached}
use Rattle.lrpar_table_sentences.proofs.reachable.mark_after.Goals as goal
use Rattle.lrpar_table_sentences.proofs.reachable.mark_after.Goals.{then-mark, else-mark}

pub mark-requires : goal.mark-requires
mark-requires g c =
    let index = g.StorageT.StorageIndex.index in
    let grm = c.args.grm.now in
    let p = index c.args.pidx.0 in
    let k = c.loop-symbol.symbol-index in
    let at = symbol_at index c.prod-symbol-items.result.now (symbols_of grm p) k c.symbol-item.result c.prod-symbol-items.ensures c.loop-symbol-test.true c.symbol-item.is in
    symbol_low grm c.start_prod-lemma.ensures.well_formed p c.requires.prod k (symbol_of index c.symbol-item.result) at c.loop-symbol.marks c.loop-symbol.invariant.0

pub loop-symbol-preserved : goal.loop-symbol-preserved
loop-symbol-preserved g c =
    let index = g.StorageT.StorageIndex.index in
    let grm = c.args.grm.now in
    let p = index c.args.pidx.0 in
    let k = c.loop-symbol.symbol-index in
    let s = symbol_of index c.symbol-item.result in
    let symbols = symbols_of grm p in
    let at = symbol_at index c.prod-symbol-items.result.now symbols k c.symbol-item.result c.prod-symbol-items.ensures c.loop-symbol-test.true c.symbol-item.is in
    let rule : IsTrue (is_marked c.args.marks.now (rule_of grm p)) =
    ap (is_marked c.args.marks.now) (sym (c.from.ensures ∙ c.prod_to_rule-rule.ensures.rule)) ∙ c.if-not-marks-from.false in
    let reached = symbol_reached grm c.start_prod-lemma.ensures.well_formed p c.requires.prod k s at (c.requires.marks.reached (rule_of grm p) rule) in
    let right = c.mark.ensures.marks grm c.loop-symbol.invariant.0 reached in
    let done = MarkedAt symbols in
    let here = OnFalse_from c.mark.result _ (λ h. marked_at symbols c.mark.new.marks k s at (OnFalse_at h c.mark.ensures.closed)) in
    elim c.if-mark.branch [
      | then-mark w ↦
          let both = pass_grows unmarked done c.args.marks.now c.loop-symbol.marks c.mark.new.marks k c.loop-symbol.grown c.mark.result c.if-mark.grown
          c.loop-symbol.invariant.1 c.loop-symbol.invariant.2 c.mark.ensures.grown c.mark.ensures.same here w.if-mark.true w.grown-is in
          (right, both.0, both.1)
      | else-mark w ↦
          let both = pass_stays unmarked done c.args.marks.now c.loop-symbol.marks c.mark.new.marks k c.loop-symbol.grown c.mark.result c.if-mark.grown
          c.loop-symbol.invariant.1 c.loop-symbol.invariant.2 c.mark.ensures.grown c.mark.ensures.same here w.if-mark.false w.grown-is in
          (right, both.0, both.1)
    ]

pub returns-clause-closed : goal.returns-clause-closed
returns-clause-closed g c =
    let index = g.StorageT.StorageIndex.index in
    let p = index c.args.pidx.0 in
    let symbols = symbols_of c.args.grm.now p in
    let count = sym (length-map c.prod-symbol-items.result.now (symbol_of index)) ∙ ap (λ (w : List GrammarSymbol). length w) c.prod-symbol-items.ensures in
    OnFalse_from c.loop-symbol.grown _ (λ h marked.
    all_symbols symbols c.loop-symbol.marks (λ k low. (OnFalse_at h c.loop-symbol.invariant.2).1 k (omega (arith, low, count, c.loop-symbol-test.false))))
