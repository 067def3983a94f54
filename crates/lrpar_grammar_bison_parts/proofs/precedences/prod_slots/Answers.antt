use Rattle.std.proofs.Common.{◌≡◌, map, option_map, get_or, None, ap, sym, ◌∙◌, arith}
use Rattle.std.proofs.Math.ListN.{get_or-map}
use Rattle.std.proofs.lemmas.List.{get_or_past, take_all}
use Rattle.lrpar_grammar_reader.specs.Parts.{prod_of}
use Rattle.lrpar_grammar_words.specs.Words.{placed as text_placed}
use Rattle.lrpar_grammar_bison_parts.specs.Precedences.{prod_slots, ranking_by, symbols_in}
use Rattle.lrpar_grammar_bison_parts.proofs.PrecedenceLemmas.{slot_more}
use Rattle.lrpar_grammar_bison_parts.proofs.precedences.prod_slots.Goals as goal
use Rattle.lrpar_grammar_bison_parts.proofs.precedences.prod_slots.Goals.{then-i-words, else-i-words}

pub loop-i-preserved : goal.loop-i-preserved
loop-i-preserved g c =
    let index = g.StorageT.StorageIndex.index in
    let words = c.args.words.now in
    let prods = c.args.prods.now in
    let i = c.loop-i.i in
    let here : c.if-i-words.word ≡ get_or words i None =
    elim c.if-i-words.branch [
      | then-i-words w ↦ w.word-is
      | else-i-words w ↦ w.word-is ∙ sym (get_or_past words i None (omega (arith, w.if-i-words.false)))
    ] in
    let word : option_map text_placed c.if-i-words.word ≡ get_or (map (option_map text_placed) words) i None =
    ap (option_map text_placed) here ∙ sym (get_or-map (option_map text_placed) words i None) in
    λ ranks maps.
    slot_more (prod_of index) (ranking_by c.args.ranks ranks) (map (option_map text_placed) words) prods i c.index-prods-i.result (symbols_in index c.deref.result.now) (option_map text_placed c.if-i-words.word)
    c.loop-i.slots.items c.push.new.self.items c.prod_slot.result c.loop-i-test.true c.index-prods-i.is (ap (symbols_in index) c.deref.ensures.value) word (c.prod_slot.ensures ranks maps)
    c.in_ok-push.ensures.items (c.loop-i.invariant ranks maps)

pub returns : goal.returns
returns g c = λ ranks maps.
    c.loop-i.invariant ranks maps
    ∙ ap (λ ps. prod_slots (ranking_by c.args.ranks ranks) (map (option_map text_placed) c.args.words.now) (map (prod_of g.StorageT.StorageIndex.index) ps))
    (take_all c.loop-i.i c.args.prods.now (omega (arith, c.loop-i-test.false)))
