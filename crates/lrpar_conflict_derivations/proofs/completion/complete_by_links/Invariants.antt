use Rattle.std.proofs.Common.{◌≡◌, ◌<◌, length}
use Rattle.lrpar_grammar.specs.Grammar.{prods_len, rule_of}
use Rattle.lrpar_table_sentences.specs.Moves.{moves_in}
use Rattle.lrpar_conflict_derivations.specs.ClosureLinks.{link_at, links_of}
use Rattle.lrpar_conflict_derivations.proofs.UpLemmas.{IsPathUp}
use Rattle.lrpar_conflict_derivations.proofs.completion.complete_by_links.Given as goal

-- the moves so far lead up to the production, by whose link the path goes on
abbrev pub invariant-up : goal.invariant-up
invariant-up g l =
    let index = g.StorageT.StorageIndex.index in
    let link = link_at (links_of index l.links) l.number in
    (l.number < length (links_of index l.links))
    × (index l.node.0 < prods_len l.grm)
    × (link.rule ≡ rule_of l.grm (index l.node.0))
    × IsPathUp l.grm (index l.token.0) (index l.fn.prod.0) l.fn.asked (moves_in index l.fn.out.items) (moves_in index l.out.items) (index l.node.0) link.asked

abbrev pub decreases-up : goal.decreases-up
decreases-up g l = l.number
