use Rattle.std.proofs.Common.{◌≡◌, true, sym, subst, ◌∙◌}
use Rattle.std.specs.Io.KnownBytes.{Appends}
use Rattle.std.proofs.lemmas.Result.{on_ok_weaker}
use Rattle.lrpar_parse_lexemes.specs.Lexemes.{facts_of}
use Rattle.lrpar_parse_trees.specs.Walks.{children}
use Rattle.lrpar_parse_trees.proofs.WriteLemmas.{appends_both}
use Rattle.lrpar_parse_trees.specs.Fronts.{front_text, is_rule, trees_text}
use Rattle.lrpar_parse_trees.proofs.NestedLemmas.{tree_begins}
use Rattle.lrpar_parse_trees.proofs.nested.write_nested.Goals as goal

pub returns-then-is_rule : goal.returns-then-is_rule
returns-then-is_rule g c =
    let index = g.StorageT.StorageIndex.index in
    let facts = λ (x : g.row.LexemeT.Denot). facts_of index (g.LexemeT.Lexeme.parts x) in
    let contents = g.W.Write.contents in
    let grm = c.args.grm.now in
    let input = c.args.input.now in
    let tree = c.args.tree.now in
    let rule : is_rule tree ≡ true = sym c.is_rule.ensures ∙ c.if-is_rule.true in
    on_ok_weaker c.write_trees.result (λ more.
    let rest : Appends (contents c.write_front.new.out) (contents c.write_trees.new.out) (trees_text c.args.form facts index grm input (children tree)) =
    (rw c.children.ensures at more) in
    subst (Appends (contents c.args.out.now) (contents c.write_trees.new.out)) (tree_begins c.args.form facts index grm input tree rule)
    (appends_both (contents c.args.out.now) (contents c.write_front.new.out) (contents c.write_trees.new.out)
    (front_text c.args.form facts index grm input tree) (trees_text c.args.form facts index grm input (children tree)) c.in_ok-write_front.ensures rest))
    c.write_trees.ensures
