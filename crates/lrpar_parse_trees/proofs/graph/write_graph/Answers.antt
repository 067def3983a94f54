use Rattle.std.proofs.lemmas.Result.{on_ok_weaker}
use Rattle.lrpar_parse_lexemes.specs.Lexemes.{facts_of}
use Rattle.lrpar_parse_trees.proofs.GraphLemmas.{graph_appends}
use Rattle.lrpar_parse_trees.proofs.graph.write_graph.Goals as goal

pub returns : goal.returns
returns g c =
    let index = g.StorageT.StorageIndex.index in
    let facts = λ (x : g.row.LexemeT.Denot). facts_of index (g.LexemeT.Lexeme.parts x) in
    let contents = g.W.Write.contents in
    on_ok_weaker c.write_all-2.result
    (λ ended. graph_appends facts index c.args.grm.now c.args.input.now (contents c.args.out.now) (contents c.write_all.new.self) (contents c.write_node.new.out)
    (contents c.write_below.new.out) (contents c.write_all-2.new.self) c.args.tree.now c.in_ok-write_all.ensures.bytes c.in_ok-write_node.ensures
    (rw c.children.ensures at c.in_ok-write_below.ensures) ended)
    c.write_all-2.ensures.bytes
