use Rattle.std.proofs.Common.{◌==◌, ◌||◌, ◌∙◌, refl, ap, arith}
use Rattle.lrpar_table_items.proofs.states.start_core.Goals as goal

pub returns-clause-core : goal.returns-clause-core
returns-clause-core g c = record {
  production = c.start_prod-prod.ensures.number;
  known = omega (arith, c.start_prod-prod.ensures.within, c.start_prod-prod.ensures.number);
  at_start = refl;
  wide = omega (arith, c.insert.ensures.room, c.in_ok-tokens.ensures.room, c.tokens_len.ensures.len);
  only_end = λ t.
      c.insert.ensures.tokens t ∙ ap (λ b. b || t == c.from.result) (c.in_ok-tokens.ensures.none t)
      ∙ ap (λ n. t == n) (c.from.ensures ∙ c.eof_token_idx.ensures);
}
