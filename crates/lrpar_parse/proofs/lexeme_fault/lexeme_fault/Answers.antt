use Rattle.std.proofs.Common.{◌≡◌, length, map, ap, ◌∙◌, arith}
use Rattle.std.proofs.lemmas.List.{length-map}
use Rattle.lrpar_parse_lexemes.specs.Views.{facts_by}
use Rattle.lrpar_parse.proofs.LexemeLemmas.{bad_here, no_fault_here, starts_early, valid_has_no_fault}
use Rattle.lrpar_parse.proofs.lexeme_fault.lexeme_fault.Goals as goal

pub returns-then-end-to_index : goal.returns-then-end-to_index
returns-then-end-to_index g c =
    let index = g.StorageT.StorageIndex.index in
    let facts = facts_by index g.LexemeT.Lexeme.parts in
    let so_far = c.loop-i.invariant in
    let number : c.to_index.result ≡ (facts c.index-lexemes-i.result).token = c.to_index.ensures.value ∙ ap index c.tok_id.ensures.token in
    bad_here c.args.grm.now facts c.args.lexemes.now c.loop-i.i c.loop-i.previous c.index-lexemes-i.result (omega arith) c.index-lexemes-i.is
    so_far.tokens so_far.starts so_far.previous (omega arith)

pub returns-then-start-previous : goal.returns-then-start-previous
returns-then-start-previous g c =
    let index = g.StorageT.StorageIndex.index in
    let facts = facts_by index g.LexemeT.Lexeme.parts in
    let so_far = c.loop-i.invariant in
    let number : c.to_index.result ≡ (facts c.index-lexemes-i.result).token = c.to_index.ensures.value ∙ ap index c.tok_id.ensures.token in
    let start : c.start-start.result ≡ (facts c.index-lexemes-i.result).span.start = c.start-start.ensures.start ∙ ap (λ s. s.start) c.span.ensures.span in
    starts_early c.args.grm.now facts c.args.lexemes.now c.loop-i.i c.loop-i.previous c.index-lexemes-i.result (omega arith) c.index-lexemes-i.is
    so_far.tokens so_far.starts so_far.previous (omega arith) (omega arith)

pub loop-i-preserved : goal.loop-i-preserved
loop-i-preserved g c =
    let index = g.StorageT.StorageIndex.index in
    let facts = facts_by index g.LexemeT.Lexeme.parts in
    let x = c.index-lexemes-i.result in
    let l = c.loop-i in
    let number : c.to_index.result ≡ (facts x).token = c.to_index.ensures.value ∙ ap index c.tok_id.ensures.token in
    let start : c.start-start.result ≡ (facts x).span.start = c.start-start.ensures.start ∙ ap (λ s. s.start) c.span.ensures.span in
    let more = no_fault_here c.args.grm.now facts c.args.lexemes.now l.i l.previous x (omega arith) c.index-lexemes-i.is l.invariant.tokens l.invariant.starts l.invariant.previous
    c.start-start.result start (omega arith) (omega arith) in
    record { tokens = more.0; starts = more.1; previous = more.2 }

pub returns : goal.returns
returns g c =
    let facts = facts_by g.StorageT.StorageIndex.index g.LexemeT.Lexeme.parts in
    let lexemes = c.args.lexemes.now in
    let count : length (map facts lexemes) ≡ length lexemes = length-map lexemes facts in
    valid_has_no_fault c.args.grm.now (map facts lexemes) (record {
      tokens = λ i x below at. c.loop-i.invariant.tokens i x (omega arith) at;
      starts = λ i x y below at after. c.loop-i.invariant.starts i x y (omega arith) at after;
    })
