use Rattle.std.proofs.Common.{◌≡◌, ◌≤◌, ◌∙◌, Some, ap, length, map, refl, sym}
use Rattle.std.proofs.lemmas.List.{take_rest}
use Rattle.std.proofs.lemmas.Bool.{ltb-false, ltb-true}
use Rattle.std.proofs.lemmas.Option.{slice_get_past, slice_get_read}
use Rattle.lrpar_grammar.specs.Grammar.{end_token}
use Rattle.lrpar_parse_lexemes.specs.Views.{facts_by}
use Rattle.lrpar_parse_repair.specs.Repaired.{repairs_over}
use Rattle.lrpar_parse_repair.specs.PlainSteps.{plain_sequences}
use Rattle.lrpar_parse_run.specs.RunAnswer.{IsLexemeAt}
use Rattle.lrpar_parse_run.proofs.ReadLemmas.{lexeme_none, lexeme_there}
use Rattle.lrpar_parse_run.proofs.whole_run.WholeRun.error.Goals as goal
use Rattle.lrpar_parse_run.proofs.whole_run.WholeRun.error.Goals.{in-None, in-Some}

pub returns : goal.returns
returns g c =
    let index = g.StorageT.StorageIndex.index in
    let facts = facts_by index g.LexerTypesT.LexemeT.Lexeme.parts in
    let self = c.args.self.now in
    let grammar = self.run.checked.now.grammar in
    let lexemes = self.lexemes.now in
    let i = c.args.place in
    let failure = c.new.result in
    record {
      state = c.top.ensures ∙ ap Some (sym c.new.ensures.state);
      lexeme = elim c.match-get.branch as (λ _. IsLexemeAt facts grammar lexemes i failure.lexeme) [
        | in-Some w ↦
            let y = w.in-Some.lexeme.now in
            let is = slice_get_read lexemes (length lexemes) i y refl (ltb-true i (length lexemes) (sym w.in-Some.ensures.lookup.0)) w.in-Some.ensures.lookup.1 in
            lexeme_there facts grammar lexemes i failure.lexeme y is (c.new.ensures.lexeme ∙ w.lexeme-is)
        | in-None w ↦
            let past : length lexemes ≤ i = ltb-false i (length lexemes) (sym w.in-None.ensures.lookup.0) in
            let end : index w.eof_token_idx.result.0 ≡ end_token grammar = rw w.grm.ensures at w.eof_token_idx.ensures in
            lexeme_none facts grammar lexemes i failure.lexeme (slice_get_past lexemes i past)
            (ap facts (c.new.ensures.lexeme ∙ w.lexeme-is) ∙ (rw end at w.end_lexeme-lexeme.ensures))
      ];
      repairs = c.new.ensures.repairs ∙ (c.in_ok-repairs.ensures.repairs ∙ ap (λ left. map (repairs_over left) (plain_sequences index c.args.listed.now)) (take_rest lexemes i));
    }
