use Rattle.std.proofs.Common.{◌≡◌, ◌<◌, ◌≤◌, refl, sym, ◌∙◌, inl, inr, arith}
use Rattle.std.proofs.lemmas.Bool.{cases_lt}
use Rattle.lrpar_grammar.specs.Grammar.{prods_len}
use Rattle.lrpar_table_rows.specs.Table.{ReduceBy, Fails, states_len}
use Rattle.lrpar_table_conditions.proofs.checkable.Checkable.reduces_are_in_range.Goals as goal

pub returns : goal.returns
returns g c =
    let states = c.states_len-s-end.ensures in (
      λ h s t p at.
          elim (cases_lt s c.loop-s.s) as (λ _. p < prods_len c.args.self.now.grm.now) [
            | inl before ↦ c.loop-s.invariant s t p before at
            | inr past ↦
                let after : states_len c.args.self.now.stable.now ≤ s = omega (arith, past, c.loop-s-test.false, states.states) in
                let none : ReduceBy p ≡ Fails = sym at ∙ states.no_action s t after in
                absurd cc
          ],
      λ each. refl,
    )
