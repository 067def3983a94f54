use Rattle.std.proofs.Common.{ap, sym, subst}
use Rattle.std.proofs.lemmas.Result.{IfErr-weaker, IfOk-weaker}
use Rattle.lrpar_grammar_words.specs.Outline.{outline_of}
use Rattle.lrpar_grammar_reader.specs.Parts.{AreSound, grammar_of, parts_of}
use Rattle.lrpar_grammar_reader.specs.SpansFit.{SpansFit}
use Rattle.lrpar_grammar_reader.specs.Spells.{IsGrammarFaultOf, Spells}
use Rattle.lrpar_grammar_reader.specs.TextNames.{AreSpelled, IsRefusedAs}
use Rattle.lrpar_grammar_reader.proofs.FaultTextLemmas.{refusal_of_text}
use Rattle.lrpar_grammar_reader.proofs.SpellsFitLemmas.{outline_fits}
use Rattle.lrpar_grammar_reader.proofs.reader.read_parts.Goals as goal

pub checked_parts-requires : goal.checked_parts-requires
checked_parts-requires g c = record { rules = c.in_ok-outline.ensures.rules; order = c.in_ok-outline.ensures.order }

pub returns : goal.returns
returns g c =
    let limit = g.StorageT.StorageIndex.limit in
    let index = g.StorageT.StorageIndex.index in
    let text = c.args.text.now in
    let o = outline_of c.in_ok-outline.outline in
    let spelled = c.checked_parts.ensures.parts in
    record {
      spelled = IfOk-weaker c.checked_parts.result (λ parts. AreSpelled limit o (parts_of index parts)) (λ parts. Spells text (grammar_of (parts_of index parts)))
          (λ parts made. record { outline = o; reads = c.in_ok-outline.ensures.outline; clean = made.clean; is = ap grammar_of made.is }) spelled;
      sound = IfOk-weaker c.checked_parts.result (λ parts. AreSpelled limit o (parts_of index parts)) (λ parts. AreSound limit (parts_of index parts))
          (λ parts made. made.sound) spelled;
      fits = IfOk-weaker c.checked_parts.result (λ parts. AreSpelled limit o (parts_of index parts)) (λ parts. SpansFit (grammar_of (parts_of index parts)) text)
          (λ parts made. subst (λ x. SpansFit (grammar_of x) text) (sym made.is)
          (outline_fits text o c.utf8.text c.in_ok-outline.ensures.outline c.in_ok-outline.ensures.order)) spelled;
      faulty = IfErr-weaker c.checked_parts.result (IsRefusedAs limit o) (IsGrammarFaultOf limit text)
          (refusal_of_text limit text o c.in_ok-outline.ensures.outline) c.checked_parts.ensures.err;
    }
