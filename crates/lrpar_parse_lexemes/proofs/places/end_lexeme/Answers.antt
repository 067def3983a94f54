use Rattle.std.proofs.Common.{◌≡◌, ◌+◌, ◌∙◌, ℕ, ap, arith, true}
use Rattle.lrpar_grammar_places.specs.Facts.{LexemeFacts}
use Rattle.lrpar_parse_lexemes.specs.Lexemes.{facts_of}
use Rattle.lrpar_parse_lexemes.proofs.places.end_lexeme.Goals as goal

pub returns : goal.returns
returns g c =
    let index = g.StorageT.StorageIndex.index in
    let end = c.end_of-place.result in
    let zero : end + 0 ≡ end = omega arith in
    let made : ℕ → ℕ → LexemeFacts = λ a b. record { token = index c.args.end.0; span = record { start = a; end = b }; faulty = true } in
    ap (facts_of index) c.new_faulty.ensures.parts ∙ (ap (made end) zero ∙ ap (λ n. made n n) c.end_of-place.ensures)
