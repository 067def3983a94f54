use Rattle.std.proofs.Common.{◌≡◌, ◌∙◌, ◌+◌, ◌<◌, ◌++◌, ℕ, List, [], ◌∷◌, length, get_or, take, map, ap, sym, add_comm, arith}
use Rattle.std.specs.List.{enumerate_from, flat_map}
use Rattle.std.proofs.lemmas.List.{append-nil, take_all, take_more}
use Rattle.std.proofs.lemmas.List.Concat.{flat_map-append}
use Rattle.std.proofs.lemmas.List.FromFn.{get_or-enumerate_from, length-enumerate_from}
use Rattle.lrpar_grammar_typed.specs.PartsOf.{production_of, productions_of}
use Rattle.lrpar_grammar_typed.specs.declared.typed.TypedRule.{TypedRule}
use Rattle.lrpar_grammar_typed.proofs.typed.prod_parts.Goals as goal

-- the productions of one rule more
one_rule_more : (rules : List TypedRule) (i number : ℕ) (rule : TypedRule) → i < length rules → rule ≡ get_or rules i rule → number ≡ i + 1
    → flat_map productions_of (take (i + 1) (enumerate_from 1 rules)) ≡ flat_map productions_of (take i (enumerate_from 1 rules)) ++ map (production_of number) rule.prods.items
one_rule_more rules i number rule within is numbered =
    let numbered_rules = enumerate_from 1 rules in
    let front = flat_map productions_of (take i numbered_rules) in
    let last : get_or numbered_rules i (0, rule) ≡ (number, rule) =
    get_or-enumerate_from 1 rules i (0, rule) within ∙ ap (λ r. (1 + i, r)) (sym is) ∙ ap (λ n. (n, rule)) (add_comm 1 i ∙ sym numbered) in
    ap (flat_map productions_of) (take_more numbered_rules i (0, rule) (omega (arith, length-enumerate_from 1 rules)))
    ∙ flat_map-append productions_of (take i numbered_rules) (get_or numbered_rules i (0, rule) ∷ [])
    ∙ ap (λ r. front ++ flat_map productions_of (r ∷ [])) last
    ∙ ap (λ ps. front ++ ps) (append-nil (map (production_of number) rule.prods.items))

pub loop-index-preserved : goal.loop-index-preserved
loop-index-preserved c = λ few.
    let numbered : c.saturated_number.result ≡ c.loop-index.index + 1 = c.saturated_number.ensures (omega arith) in
    let more = one_rule_more c.args.rules.now c.loop-index.index c.saturated_number.result c.index-rules-index.result (omega arith) c.index-rules-index.is numbered in
    let before = c.loop-index.invariant few in
    let pushed = c.in_ok-push_prods.ensures {u = tt} in
    let prods = c.deref.ensures.value in
    cc

pub returns : goal.returns
returns c = λ few.
    c.loop-index.invariant few
    ∙ ap (flat_map productions_of) (take_all c.loop-index.index (enumerate_from 1 c.args.rules.now) (omega (arith, length-enumerate_from 1 c.args.rules.now)))
