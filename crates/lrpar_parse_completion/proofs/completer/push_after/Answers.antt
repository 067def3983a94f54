use Rattle.std.proofs.Common.{◌+◌, List, subst}
use Rattle.std.proofs.lemmas.Result.{IfOk-weaker}
use Rattle.lrpar_grammar.specs.Grammar.{GrammarSymbol, symbols_of}
use Rattle.lrpar_grammar.specs.Symbols.{symbol_of}
use Rattle.lrpar_table_stacks.specs.Expected.{tokens_of}
use Rattle.lrpar_parse_completion.specs.Opening.{IsPushed}
use Rattle.lrpar_parse_completion.proofs.OpenLemmas.{rest_of}
use Rattle.lrpar_parse_completion.proofs.completer.push_after.Goals as goal

pub returns : goal.returns
returns g c =
    let index = g.StorageT.StorageIndex.index in
    let grm = c.args.grm.now in
    let link = c.args.link in
    let old = tokens_of index c.args.tokens.now.items in
    let new = tokens_of index c.push_rest.new.tokens.items in
    let rest = rest_of (symbol_of index) (link.dot + 1) c.prod.result.now (symbols_of grm (index link.prod.0)) c.prod.ensures in
    IfOk-weaker c.push_rest.result _ _ (λ some h. subst (λ (ss : List GrammarSymbol). IsPushed grm ss old new some) rest h) c.push_rest.ensures
