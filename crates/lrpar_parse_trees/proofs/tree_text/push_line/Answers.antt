use Rattle.std.proofs.Common.{replicate}
use Rattle.std.specs.String.{string_bytes}
use Rattle.lrpar_grammar_places.proofs.FaultLemmas.{nothing_done}
use Rattle.lrpar_parse_lexemes.specs.Lexemes.{facts_of}
use Rattle.lrpar_parse_trees.specs.TreeText.{met_line, root_at}
use Rattle.lrpar_parse_trees.proofs.FitsLemmas.{fits_level}
use Rattle.lrpar_parse_trees.proofs.IndentLemmas.{line_after_spaces, line_indented}
use Rattle.lrpar_parse_trees.proofs.tree_text.push_line.Goals as goal

pub push_node-requires : goal.push_node-requires
push_node-requires g c =
    fits_level (λ x. facts_of g.StorageT.StorageIndex.index (g.LexemeT.Lexeme.parts x)) g.StorageT.StorageIndex.index c.args.grm.now c.args.input.now
    c.args.node.now c.args.level 0 c.requires

pub returns-in_err-push_spaces : goal.returns-in_err-push_spaces
returns-in_err-push_spaces g c = nothing_done c.from_residual.result _ _ c.from_residual.ensures.1

pub returns : goal.returns
returns g c =
    let index = g.StorageT.StorageIndex.index in
    let facts = λ (x : g.row.LexemeT.Denot). facts_of index (g.LexemeT.Lexeme.parts x) in
    let line = met_line facts index c.args.grm.now c.args.input.now in
    line_after_spaces c.push_node.result (string_bytes c.args.out.now) (string_bytes c.push_spaces.new.out) (string_bytes c.push_node.new.out)
    (replicate c.args.level 32) (line (root_at 0 c.args.node.now)) (line (root_at c.args.level c.args.node.now))
    c.push_node.ensures c.in_ok-push_spaces.ensures (line_indented facts index c.args.grm.now c.args.input.now c.args.node.now c.args.level)
