use Rattle.std.proofs.Common.{◌≡◌, true, sym, ap, ◌∙◌, arith}
use Rattle.std.proofs.lemmas.Str.{IsCharBoundary-after_ascii}
use Rattle.lrpar_grammar_bison_parts.specs.Unquoted.{is_in_quotes}
use Rattle.lrpar_grammar_bison_parts.proofs.UnquotedLemmas.{quotes}
use Rattle.lrpar_grammar_bison_parts.proofs.unquoted.unquoted.Goals as goal

pub range-requires-clause-start_boundary : goal.range-requires-clause-start_boundary
range-requires-clause-start_boundary c =
    let quoted : is_in_quotes c.args.text.now ≡ true = ap is_in_quotes (sym c.as_bytes.ensures.value) ∙ sym c.is_in_quotes.ensures ∙ c.if-is_in_quotes.true in
    let found = quotes c.args.text.now quoted in
    λ _. IsCharBoundary-after_ascii c.args.text.now 0 c.utf8.text (omega arith) found.1
