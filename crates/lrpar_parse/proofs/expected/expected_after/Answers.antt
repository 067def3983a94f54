use Rattle.std.proofs.Common.{List, ℕ, ap, subst}
use Rattle.lrpar_table_stacks.specs.Expected.{AreExpected, tokens_of}
use Rattle.lrpar_table_stacks.specs.Stack.{states_of}
use Rattle.lrpar_parse_lexemes.specs.Views.{token_by}
use Rattle.lrpar_parse.proofs.ExpectedLemmas.{expected_after}
use Rattle.lrpar_parse.proofs.expected.expected_after.Goals as goal

pub returns : goal.returns
returns g c =
    let index = g.StorageT.StorageIndex.index in
    let d = c.args.checked.now in
    let tokens = tokens_of index c.in_ok-tokens.tokens.items in
    let expected = subst (λ (st : List ℕ). AreExpected d.grammar d.table st tokens) (ap (states_of index) c.deref.ensures.value) c.in_ok-tokens.ensures.expected in
    expected_after (token_by index g.LexemeT.Lexeme.parts) d c.args.lexemes.now c.stable-lemma.ensures.checked c.in_ok-place.place
    (states_of index c.in_ok-place.stack.items) tokens c.in_ok-place.ensures.furthest expected
