use Rattle.std.proofs.Common.{◌≡◌, ◌++◌, ◌∙◌, OnOk, ap, length, replicate, subst, sym, take}
use Rattle.std.specs.Io.KnownBytes.{Appends}
use Rattle.std.specs.String.{string_bytes}
use Rattle.lrpar_parse_lexemes.specs.Lexemes.{facts_of}
use Rattle.lrpar_parse_trees.specs.TreeText.{MetFits, met_line, root_at}
use Rattle.lrpar_parse_trees.proofs.IndentLemmas.{if_done, indent_stays, line_indented}
use Rattle.lrpar_parse_trees.proofs.tree_write.write_line.Goals as goal

pub push_node-requires : goal.push_node-requires
push_node-requires g c = (c.root_fits.ensures 0).0 c.if-not-root_fits.false

pub returns-clause-text : goal.returns-clause-text
returns-clause-text g c =
    let index = g.StorageT.StorageIndex.index in
    let facts = λ (x : g.row.LexemeT.Denot). facts_of index (g.LexemeT.Lexeme.parts x) in
    let line = met_line facts index c.args.grm.now c.args.input.now in
    let old = string_bytes c.args.line.now in
    let contents = g.W.Write.contents in
    let whole : c.as_bytes.result.now ≡ line (root_at (length old) c.args.node.now) =
    c.as_bytes.ensures.value ∙ c.in_ok-push_node.ensures ∙ ap (λ s. s ++ line (root_at 0 c.args.node.now)) c.requires
    ∙ sym (line_indented facts index c.args.grm.now c.args.input.now c.args.node.now (length old)) in
    subst (λ bytes. OnOk c.write_all.result (Appends (contents c.args.out.now) (contents c.write_all.new.self) bytes)) whole c.write_all.ensures.bytes

pub returns-clause-fits : goal.returns-clause-fits
returns-clause-fits g c =
    let index = g.StorageT.StorageIndex.index in
    let facts = λ (x : g.row.LexemeT.Denot). facts_of index (g.LexemeT.Lexeme.parts x) in
    let level = length (string_bytes c.args.line.now) in
    if_done c.write_all.result (MetFits facts index c.args.grm.now c.args.input.now (root_at level c.args.node.now))
    ((c.root_fits.ensures level).0 c.if-not-root_fits.false)

pub returns-clause-indent : goal.returns-clause-indent
returns-clause-indent g c =
    let index = g.StorageT.StorageIndex.index in
    let facts = λ (x : g.row.LexemeT.Denot). facts_of index (g.LexemeT.Lexeme.parts x) in
    let line = met_line facts index c.args.grm.now c.args.input.now in
    let old = string_bytes c.args.line.now in
    let new = string_bytes c.push_node.new.out in
    if_done c.write_all.result (take (length old) new ≡ replicate (length old) 32)
    (indent_stays old new (line (root_at 0 c.args.node.now)) (length old) c.requires c.in_ok-push_node.ensures)
