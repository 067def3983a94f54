use Rattle.std.proofs.Common.{◌≡◌, ◌<◌, ◌∙◌, sym, ap, subst, arith, Some, length}
use Rattle.std.proofs.lemmas.Result.{on_ok_weaker}
use Rattle.lrpar_grammar.specs.Grammar.{Nonterminal, Terminal, rules_len, tokens_len}
use Rattle.lrpar_grammar.specs.Symbols.{symbol_of}
use Rattle.lrpar_table_items.specs.Cores.{core_set}
use Rattle.lrpar_table_first.specs.FirstRows.{IsSymbolBelow}
use Rattle.lrpar_table_items.specs.Next.{symbol_after}
use Rattle.lrpar_table_items.proofs.SuccessorLemmas.{put_rule, put_token}
use Rattle.lrpar_table_items.proofs.successors.put_next.Goals as goal

pub returns-in-Some-Rule-clause-rules : goal.returns-in-Some-Rule-clause-rules
returns-in-Some-Rule-clause-rules g c =
    let index = g.StorageT.StorageIndex.index in
    let grm = c.args.grm.now in
    let core = core_set index c.args.core.now in
    let target = c.from-target.result in
    let here = c.in-Some-Rule in
    let is : symbol_of index here.field-0 ≡ Nonterminal target = ap (symbol_of index) here.field-0-is ∙ ap (λ n. Nonterminal n) (sym c.from-target.ensures) in
    let after : symbol_after grm core ≡ Some (Nonterminal target) = ◌∙◌ {a = symbol_after grm core} (sym here.ensures.symbol) (ap (λ s. Some s) is) in
    let below = subst (IsSymbolBelow (rules_len grm) (tokens_len grm)) is here.ensures.listed in
    let count = c.requires.rules in
    let low : target < length c.args.rules.now = omega (arith, below, count) in
    on_ok_weaker c.push_advanced.result
    (put_rule index grm core c.args.rules.now target c.index-rules-target.result c.push_advanced.new.kernel after low)
    c.push_advanced.ensures

pub returns-in-Some-Token-clause-tokens : goal.returns-in-Some-Token-clause-tokens
returns-in-Some-Token-clause-tokens g c =
    let index = g.StorageT.StorageIndex.index in
    let grm = c.args.grm.now in
    let core = core_set index c.args.core.now in
    let target = c.from-target-in-Some-Token.result in
    let here = c.in-Some-Token in
    let is : symbol_of index here.field-0 ≡ Terminal target = ap (symbol_of index) here.field-0-is ∙ ap (λ n. Terminal n) (sym c.from-target-in-Some-Token.ensures) in
    let after : symbol_after grm core ≡ Some (Terminal target) = ◌∙◌ {a = symbol_after grm core} (sym here.ensures.symbol) (ap (λ s. Some s) is) in
    let below = subst (IsSymbolBelow (rules_len grm) (tokens_len grm)) is here.ensures.listed in
    let count = c.requires.tokens in
    let low : target < length c.args.tokens.now = omega (arith, below, count) in
    on_ok_weaker c.push_advanced-in-Some-Token.result
    (put_token index grm core c.args.tokens.now target c.index-tokens-target.result c.push_advanced-in-Some-Token.new.kernel after low)
    c.push_advanced-in-Some-Token.ensures
