use Rattle.std.proofs.Common.{◌≡◌, refl, sym, ◌∙◌, arith}
use Rattle.lrpar_grammar_unmatched.proofs.NameLemmas.{rule_has, rules_lack}
use Rattle.lrpar_grammar_unmatched.proofs.names.has_rule.Goals as goal

pub returns-then-eq : goal.returns-then-eq
returns-then-eq g c =
    let number = g.StorageT.StorageIndex.index c.unwrap.result in
    let is : number ≡ c.loop-number.number = rw c.unwrap.ensures at c.from_index.ensures.back in (
      λ passes. rule_has c.args.grm.now c.loop-number.number number c.args.name.now c.rule_name_str.result.now (omega arith) is
          c.rule_name_str.ensures (sym c.eq.ensures ∙ c.if-eq.true),
      λ has. refl,
    )

pub returns : goal.returns
returns g c = (
  λ fails. absurd (cc),
  λ has. absurd (rules_lack c.args.grm.now c.args.name.now (λ n within. c.loop-number.invariant n (omega arith)) has),
)
