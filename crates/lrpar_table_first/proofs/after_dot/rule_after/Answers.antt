use Rattle.std.proofs.Common.{◌≡◌, ◌∷◌, drop, map}
use Rattle.lrpar_grammar.specs.Grammar.{Nonterminal, symbols_of}
use Rattle.lrpar_grammar.specs.Symbols.{symbol_of}
use Rattle.lrpar_table_first.proofs.SymbolLemmas.{after_by, after_listed, nothing_after, token_after}
use Rattle.lrpar_table_first.proofs.after_dot.rule_after.Goals as goal

pub returns-in-None-clause-rule : goal.returns-in-None-clause-rule
returns-in-None-clause-rule g c =
    nothing_after g.StorageT.StorageIndex.index c.prod.result.now _ c.args.dot c.prod.ensures c.in-None.ensures.cases

pub returns-in-Rule : goal.returns-in-Rule
returns-in-Rule g c =
    let index = g.StorageT.StorageIndex.index in
    let grm = c.args.grm.now in
    let p = index c.args.pidx.0 in
    let begins : drop c.args.dot (symbols_of grm p) ≡ Nonterminal (index c.in-Rule.rule.0) ∷ map (symbol_of index) c.in-Some.rest.now =
    after_by index c.prod.result.now c.in-Some.rest.now _ _ _ c.args.dot c.prod.ensures c.in-Some.ensures.cases c.in-Rule.is in
    let listed = after_listed grm c.requires.well_formed p c.args.dot _ _ c.requires.prod begins in
    record { rule = begins; within = listed.0; rest = listed.1 }

pub returns-in-Token-clause-rule : goal.returns-in-Token-clause-rule
returns-in-Token-clause-rule g c =
    token_after c.args.dot _ _ _
    (after_by g.StorageT.StorageIndex.index c.prod.result.now c.in-Some.rest.now _ _ _ c.args.dot c.prod.ensures c.in-Some.ensures.cases c.in-Token.is)
