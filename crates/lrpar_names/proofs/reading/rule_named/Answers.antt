use Rattle.std.proofs.Common.{◌≡◌, ◌<◌, ◌≤◌, ℕ, Bool, Some, true, false, sym, ◌∙◌, ap, arith}
use Rattle.std.specs.Str.{bytes_eq}
use Rattle.lrpar_grammar.specs.Grammar.{rule_name, rules_len}
use Rattle.lrpar_names.proofs.RangeLemmas.{find_here, find_later, find_none}
use Rattle.lrpar_names.proofs.reading.rule_named.Goals as goal

pub returns-then-eq : goal.returns-then-eq
returns-then-eq g c =
    let test : ℕ → Bool = λ r. bytes_eq (rule_name c.args.grm.now r) c.args.name.now in
    let is : g.StorageT.StorageIndex.index c.unwrap.result ≡ c.rules.number = rw c.unwrap.ensures at c.from_index.ensures.back in
    let passes : test c.rules.number ≡ true =
    ap test (sym is) ∙ ap (λ name. bytes_eq name c.args.name.now) (sym c.rule_name_str.ensures) ∙ sym c.eq.ensures ∙ c.if-eq.true in
    let less : c.rules.number < rules_len c.args.grm.now = omega (arith, c.rules_len-number-end.ensures.len) in
    ap Some is ∙ sym (find_here test c.rules.number (rules_len c.args.grm.now) less passes) ∙ c.rules.invariant

pub rules-preserved : goal.rules-preserved
rules-preserved g c =
    let test : ℕ → Bool = λ r. bytes_eq (rule_name c.args.grm.now r) c.args.name.now in
    let is : g.StorageT.StorageIndex.index c.unwrap.result ≡ c.rules.number = rw c.unwrap.ensures at c.from_index.ensures.back in
    let fails : test c.rules.number ≡ false =
    ap test (sym is) ∙ ap (λ name. bytes_eq name c.args.name.now) (sym c.rule_name_str.ensures) ∙ sym c.eq.ensures ∙ c.if-eq.false in
    let less : c.rules.number < rules_len c.args.grm.now = omega (arith, c.rules_len-number-end.ensures.len) in
    sym (find_later test c.rules.number (rules_len c.args.grm.now) less fails) ∙ c.rules.invariant

pub returns : goal.returns
returns g c =
    let over : rules_len c.args.grm.now ≤ c.rules.number = omega (arith, c.rules_len-number-end.ensures.len) in
    sym (find_none (λ r. bytes_eq (rule_name c.args.grm.now r) c.args.name.now) c.rules.number (rules_len c.args.grm.now) over) ∙ c.rules.invariant
