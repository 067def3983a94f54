use Rattle.std.proofs.Common.{arith}
use Rattle.lrpar_lexer.specs.Matchers.{programs_of}
use Rattle.lrpar_lexer.proofs.MarkLemmas.{unmarked_has_none}
use Rattle.lrpar_lexer.proofs.matching.Matchers.match_if_marked.Goals as goal

pub returns-then-not-is_marked-clause-found : goal.returns-then-not-is_marked-clause-found
returns-then-not-is_marked-clause-found c program pattern is finds =
    let self = c.args.self.now in
    unmarked_has_none self.tree.nodes.items (programs_of self) self.marks.marks.items c.args.rest.now c.args.index program pattern self.met
    c.requires (c.is_marked.ensures c.if-not-is_marked.true) c.utf8.rest (omega (arith, c.type_inv.rest 0)) is finds
