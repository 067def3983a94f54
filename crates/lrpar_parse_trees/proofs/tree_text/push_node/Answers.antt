use Rattle.lrpar_parse_lexemes.specs.Lexemes.{facts_of}
use Rattle.lrpar_grammar_places.proofs.FaultLemmas.{nothing_done}
use Rattle.lrpar_parse_trees.proofs.FitsLemmas.{leaf_fits, part_ends, part_starts, rule_fits}
use Rattle.lrpar_parse_trees.proofs.tree_text.push_node.Goals as goal

pub returns-in_err-push_str-in-Term : goal.returns-in_err-push_str-in-Term
returns-in_err-push_str-in-Term g c = nothing_done c.from_residual.result _ _ c.from_residual.ensures.1

pub returns-in_err-push-in-Term : goal.returns-in_err-push-in-Term
returns-in_err-push-in-Term g c = nothing_done c.from_residual-in_err-push-in-Term.result _ _ c.from_residual-in_err-push-in-Term.ensures.1

pub returns-in_err-push_str-in-Term-2 : goal.returns-in_err-push_str-in-Term-2
returns-in_err-push_str-in-Term-2 g c = nothing_done c.from_residual-in_err-push_str-in-Term-2.result _ _ c.from_residual-in_err-push_str-in-Term-2.ensures.1

pub returns-in_err-push_str-in-Nonterm : goal.returns-in_err-push_str-in-Nonterm
returns-in_err-push_str-in-Nonterm g c = nothing_done c.from_residual-in_err-push_str-in-Nonterm.result _ _ c.from_residual-in_err-push_str-in-Nonterm.ensures.1

pub rule_name_str-requires : goal.rule_name_str-requires
rule_name_str-requires g c =
    rule_fits (λ x. facts_of g.StorageT.StorageIndex.index (g.LexemeT.Lexeme.parts x)) g.StorageT.StorageIndex.index c.args.grm.now c.args.input.now 0
    c.args.node.now c.in-Nonterm.ridx c.in-Nonterm.nodes c.in-Nonterm.is c.requires

pub range-requires-clause-start_le_end : goal.range-requires-clause-start_le_end
range-requires-clause-start_le_end g c = rw (c.start.ensures.start, c.end.ensures.end) c.start.ensures.ordered

pub range-requires-clause-start_boundary : goal.range-requires-clause-start_boundary
range-requires-clause-start_boundary g c = λ _.
    part_starts c.args.input.now (g.LexemeT.Lexeme.parts c.in-Term.lexeme).span c.span-span.result c.start.result
    (leaf_fits (λ x. facts_of g.StorageT.StorageIndex.index (g.LexemeT.Lexeme.parts x)) g.StorageT.StorageIndex.index c.args.grm.now c.args.input.now 0
    c.args.node.now c.in-Term.lexeme c.in-Term.is c.requires).1 c.span-span.ensures.span c.start.ensures.start

pub range-requires-clause-end_boundary : goal.range-requires-clause-end_boundary
range-requires-clause-end_boundary g c =
    part_ends c.args.input.now (g.LexemeT.Lexeme.parts c.in-Term.lexeme).span c.span-span.result c.end.result
    (leaf_fits (λ x. facts_of g.StorageT.StorageIndex.index (g.LexemeT.Lexeme.parts x)) g.StorageT.StorageIndex.index c.args.grm.now c.args.input.now 0
    c.args.node.now c.in-Term.lexeme c.in-Term.is c.requires).1 c.span-span.ensures.span c.end.ensures.end
