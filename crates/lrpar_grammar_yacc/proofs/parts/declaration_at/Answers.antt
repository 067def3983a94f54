use Rattle.std.proofs.Common.{◌≡◌, codes, get_or, sym, ◌∙◌, arith}
use Rattle.lrpar_grammar_yacc.proofs.EndLemmas.{sign_byte}
use Rattle.lrpar_grammar_yacc.proofs.parts.declaration_at.Goals as goal

pub names_part-requires-then-starts_with-5-clause-ascii : goal.names_part-requires-then-starts_with-5-clause-ascii
names_part-requires-then-starts_with-5-clause-ascii c =
    let last : get_or c.args.rest.now 13 0 ≡ 100 =
    sign_byte c.args.rest.now (codes "%expect-unused") 13 (sym c.starts_with-else-starts_with-4.ensures.value ∙ c.if-starts_with-5.true) (omega arith) in
    omega (arith, last)
