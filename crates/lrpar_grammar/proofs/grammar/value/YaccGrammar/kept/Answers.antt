use Rattle.std.proofs.Common.{◌≡◌, length, map, Some, subst, sym, ap, ◌∙◌, arith, rules}
use Rattle.std.specs.List.{slice_get}
use Rattle.std.proofs.lemmas.List.{length-map}
use Rattle.lrpar_grammar_reader.specs.Grammar.{IsWellFormed}
use Rattle.lrpar_grammar.specs.Kept.{split_prod_of}
use Rattle.lrpar_grammar.proofs.PartsLemmas.{kept_prod_at, kept_rule_within}
use Rattle.lrpar_grammar.proofs.grammar.value.YaccGrammar.kept.Goals as goal

pub index-requires : goal.index-requires
index-requires g c =
    let index = g.StorageT.StorageIndex.index in
    let prods = c.self.inside.prods.items in
    let are : map (split_prod_of index) prods ≡ c.args.self.now.prods = ap (λ v. v.prods) c.self.view_is in
    let count : length c.args.self.now.prods ≡ length prods = sym (ap length are) ∙ length-map prods (split_prod_of index) in
    search rules

pub returns-clause-prod : goal.returns-clause-prod
returns-clause-prod g c =
    let index = g.StorageT.StorageIndex.index in
    let prods = c.self.inside.prods.items in
    let are : map (split_prod_of index) prods ≡ c.args.self.now.prods = ap (λ v. v.prods) c.self.view_is in
    let count : length c.args.self.now.prods ≡ length prods = sym (ap length are) ∙ length-map prods (split_prod_of index) in
    let place : c.from.result ≡ index c.args.pidx.0 = c.from.ensures in
    subst (λ p. slice_get c.args.self.now.prods p ≡ Some (split_prod_of index c.index.result.now)) place
    (subst (λ ps. slice_get ps c.from.result ≡ Some (split_prod_of index c.index.result.now)) are
    (kept_prod_at index prods c.from.result c.index.result.now (omega (arith, c.requires)) c.index.ensures))

pub returns-clause-within : goal.returns-clause-within
returns-clause-within g c =
    let index = g.StorageT.StorageIndex.index in
    let prods = c.self.inside.prods.items in
    let are : map (split_prod_of index) prods ≡ c.args.self.now.prods = ap (λ v. v.prods) c.self.view_is in
    let count : length c.args.self.now.prods ≡ length prods = sym (ap length are) ∙ length-map prods (split_prod_of index) in
    let place : c.from.result ≡ index c.args.pidx.0 = c.from.ensures in
    let formed : IsWellFormed c.args.self.now = subst IsWellFormed c.self.view_is c.self.invariant.well_formed in
    kept_rule_within index c.args.self.now prods c.from.result c.index.result.now formed are (omega (arith, c.requires)) c.index.ensures
