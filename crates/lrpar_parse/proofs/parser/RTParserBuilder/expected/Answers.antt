use Rattle.std.proofs.Common.{◌≡◌, ap, inr}
use Rattle.lrpar_parse_lexemes.specs.Views.{facts_by}
use Rattle.lrpar_parse.proofs.ExpectedLemmas.{after_is_answer, fault_is_answer}
use Rattle.lrpar_parse.proofs.parser.RTParserBuilder.expected.Goals as goal

pub returns-in-Some : goal.returns-in-Some
returns-in-Some g c =
    let index = g.StorageT.StorageIndex.index in
    let facts = facts_by index g.LexerTypesT.LexemeT.Lexeme.parts in
    let d = c.args.self.now.checked in
    let grammar : c.self.inside.checked.now.grammar ≡ d.grammar = ap (λ v. v.checked.grammar) c.self.view_is in
    record {
      expected = inr (
        c.in_ok-answers.answers.items,
        c.in_ok-answers.ensures.allowed,
        fault_is_answer index facts d c.in_ok-answers.answers.items c.in_ok-lexemes.lexemes.items c.in_ok-lexemes.ensures.lexemes c.in-Some.fault
            (rw (c.deref.ensures.value, c.grm.ensures, grammar) at c.in-Some.ensures),
      );
    }

pub returns : goal.returns
returns g c =
    let index = g.StorageT.StorageIndex.index in
    let facts = facts_by index g.LexerTypesT.LexemeT.Lexeme.parts in
    let d = c.args.self.now.checked in
    let grammar : c.self.inside.checked.now.grammar ≡ d.grammar = ap (λ v. v.checked.grammar) c.self.view_is in
    let checked : c.self.inside.checked.now ≡ d = ap (λ v. v.checked) c.self.view_is in
    record {
      expected = inr (
        c.in_ok-answers.answers.items,
        c.in_ok-answers.ensures.allowed,
        after_is_answer index facts d c.in_ok-answers.answers.items c.in_ok-lexemes.lexemes.items c.in_ok-lexemes.ensures.lexemes _ c.in_ok-lexemes.ensures.error
            (rw (c.in_default.is, c.deref.ensures.value, c.grm.ensures, grammar) at c.lexeme_fault.ensures)
            (rw (c.deref-2.ensures.value, checked) at c.in_ok-place.ensures),
      );
    }
