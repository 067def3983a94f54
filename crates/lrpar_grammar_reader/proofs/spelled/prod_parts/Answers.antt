use Rattle.std.proofs.Common.{◌≡◌, sym, subst, arith}
use Rattle.lrpar_grammar_words.specs.Outline.{AreWordsInOrder, TextAlternative, alternative_of}
use Rattle.lrpar_grammar_reader.specs.Parts.{prod_of}
use Rattle.lrpar_grammar_reader.specs.Spells.{prod_of_alternative}
use Rattle.lrpar_grammar_reader.specs.TextNames.{AreNumbered, numbering_by}
use Rattle.lrpar_grammar_reader.proofs.GrowthLemmas.{all_at, made_more}
use Rattle.lrpar_grammar_reader.proofs.spelled.prod_parts.Goals as goal

pub prod_part-requires-clause-known : goal.prod_part-requires-clause-known
prod_part-requires-clause-known g c =
    let x = c.alternative-item.result in
    subst (λ y. AreNumbered (numbering_by c.args.tables.now) (alternative_of y)) (sym c.alternative-item.is)
    (all_at (AreNumbered (numbering_by c.args.tables.now)) alternative_of c.args.alternatives.now c.loop-alternative.alternative-index x (omega arith) c.requires.known)

pub prod_part-requires-clause-order : goal.prod_part-requires-clause-order
prod_part-requires-clause-order g c =
    let x = c.alternative-item.result in
    subst (λ y. AreWordsInOrder (alternative_of y).symbols) (sym c.alternative-item.is)
    (all_at (λ (y : TextAlternative). AreWordsInOrder y.symbols) alternative_of c.args.alternatives.now c.loop-alternative.alternative-index x (omega arith) c.requires.order)

pub loop-alternative-preserved : goal.loop-alternative-preserved
loop-alternative-preserved g c =
    let x = c.alternative-item.result in
    let prod = prod_of_alternative (numbering_by c.args.tables.now) in
    made_more alternative_of prod (prod_of g.StorageT.StorageIndex.index) c.loop-alternative.parts.items c.push.new.self.items c.in_ok-prod_part.field-0 c.args.alternatives.now c.loop-alternative.alternative-index x (omega arith)
    c.in_ok-push.ensures.items (subst (λ y. prod_of g.StorageT.StorageIndex.index c.in_ok-prod_part.field-0 ≡ prod (alternative_of y)) c.alternative-item.is c.in_ok-prod_part.ensures) c.loop-alternative.invariant
