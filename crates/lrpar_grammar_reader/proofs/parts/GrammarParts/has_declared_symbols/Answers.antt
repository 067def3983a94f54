use Rattle.std.proofs.Common.{rules, arith, ◌+◌, ◌≡◌, ◌∙◌, length, map, refl}
use Rattle.std.specs.List.{All}
use Rattle.std.proofs.lemmas.List.{length-map}
use Rattle.std.proofs.lemmas.List.Elements.{All-map}
use Rattle.lrpar_grammar_reader.specs.Parts.{IsDeclaredProd, prod_of, rule_name_of, token_name_of}
use Rattle.lrpar_grammar_places.proofs.ListLemmas.{All-map-fails, holds_more}
use Rattle.lrpar_grammar_reader.proofs.parts.GrammarParts.has_declared_symbols.Goals as goal

pub loop-prod-preserved : goal.loop-prod-preserved
loop-prod-preserved g c =
    holds_more (λ prod. IsDeclaredProd (c.len-rules.result + 1) c.len-tokens.result (prod_of g.StorageT.StorageIndex.index prod))
    c.args.self.now.prods.items c.loop-prod.prod-index c.prod-item.result c.loop-prod.invariant (omega arith)
    (rw c.deref-prod-items.ensures.value at c.prod-item.is) (c.is_declared.ensures.0 c.if-not-is_declared.false)

pub returns-then-not-is_declared : goal.returns-then-not-is_declared
returns-then-not-is_declared g c =
    let rules_are : length (map rule_name_of c.args.self.now.rules.items) ≡ c.len-rules.result = length-map c.args.self.now.rules.items rule_name_of ∙ search rules in
    let tokens_are : length (map token_name_of c.args.self.now.tokens.items) ≡ c.len-tokens.result = length-map c.args.self.now.tokens.items token_name_of ∙ search rules in (
      search rules,
      λ listed. absurd (All-map-fails (IsDeclaredProd (c.len-rules.result + 1) c.len-tokens.result) (prod_of g.StorageT.StorageIndex.index)
          c.args.self.now.prods.items c.loop-prod.prod-index c.prod-item.result (omega arith)
          (rw c.deref-prod-items.ensures.value at c.prod-item.is) (search rules) (rw (← rules_are, ← tokens_are) listed)),
    )

pub returns : goal.returns
returns g c =
    let rules_are : length (map rule_name_of c.args.self.now.rules.items) ≡ c.len-rules.result = length-map c.args.self.now.rules.items rule_name_of ∙ search rules in
    let tokens_are : length (map token_name_of c.args.self.now.tokens.items) ≡ c.len-tokens.result = length-map c.args.self.now.tokens.items token_name_of ∙ search rules in
    let listed : All (IsDeclaredProd (c.len-rules.result + 1) c.len-tokens.result) (map (prod_of g.StorageT.StorageIndex.index) c.args.self.now.prods.items) =
    All-map (IsDeclaredProd (c.len-rules.result + 1) c.len-tokens.result) (prod_of g.StorageT.StorageIndex.index) c.args.self.now.prods.items
    (λ k d within. c.loop-prod.invariant k d (omega arith)) in
    (λ _. rw (rules_are, tokens_are) listed, λ _. refl)
