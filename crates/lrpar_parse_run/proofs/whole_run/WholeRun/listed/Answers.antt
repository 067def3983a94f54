use Rattle.std.proofs.Common.{◌≡◌, subst}
use Rattle.lrpar_parse_repair.specs.Asked.{HaveTokens, asked_at}
use Rattle.lrpar_parse_run.specs.WholeRunView.{subject}
use Rattle.lrpar_parse_lexemes.specs.Views.{facts_by, token_by}
use Rattle.lrpar_parse_repair.specs.PlainSteps.{plain_sequences}
use Rattle.lrpar_parse_repair.proofs.TokenLemmas.{good_token}
use Rattle.lrpar_parse_run.proofs.AskedLemmas.{stop_of}
use Rattle.lrpar_parse_run.proofs.WholeRunLemmas.{listed_ok}
use Rattle.lrpar_parse_run.proofs.whole_run.WholeRun.listed.Goals as goal

pub new-point-requires : goal.new-point-requires
new-point-requires g c =
    let index = g.StorageT.StorageIndex.index in
    let parts = g.LexerTypesT.LexemeT.Lexeme.parts in
    let self = c.args.self.now in
    let d = self.run.checked.now in
    let made = stop_of (facts_by index parts) d self.shifts self.lexemes.now c.args.place c.args.stack.now.states c.stable-lemma.ensures.checked c.requires.shifts
    c.requires.valid c.requires.stack c.requires.within c.requires.fails in
    record { stop = rw c.states-states.ensures made }

pub listed-requires-clause-tokens : goal.listed-requires-clause-tokens
listed-requires-clause-tokens g c =
    let index = g.StorageT.StorageIndex.index in
    let parts = g.LexerTypesT.LexemeT.Lexeme.parts in
    let self = c.args.self.now in
    let tokens : HaveTokens (token_by index parts) self.run.checked.now.grammar self.lexemes.now =
    λ i x at. good_token (facts_by index parts) self.run.checked.now.grammar self.lexemes.now i x c.requires.valid at in
    rw (c.new.ensures.checked, c.new.ensures.lexemes) tokens

pub returns : goal.returns
returns g c =
    let index = g.StorageT.StorageIndex.index in
    let self = c.args.self.now in
    let about = subject index g.LexerTypesT.LexemeT.Lexeme.parts g.R.Recoverer.allows self in
    let answer = plain_sequences index c.in_ok-answer.answer.items in
    let point : c.new-point.result ≡ asked_at self.run.checked.now self.shifts (record { lexemes = self.lexemes.now; place = c.args.place; stack = c.args.stack.now.states }) =
    rw c.states-states.ensures at c.new-point.ensures in
    let allowed = subst (λ p. g.R.Recoverer.allows self.recoverer.now p answer) point c.in_ok-answer.ensures.allowed in
    let those = rw (c.new.ensures.checked, c.new.ensures.lexemes, c.new.ensures.shifts, c.states-states.ensures) at c.listed.ensures.listed in
    listed_ok about self.lexemes.now index c.args.stack.now.states c.args.place answer c.listed.result allowed those
