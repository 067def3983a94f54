use Rattle.std.proofs.Common.{[], Ok, ap, refl, sym, ◌∙◌}
use Rattle.std.specs.Fmt.{◌++?◌, debug_items}
use Rattle.lrpar_parse_trees.specs.Shown.{shown, shown_end, shown_rule}
use Rattle.lrpar_parse_trees.proofs.ShownLemmas.{displays_two, shown_nonterm}
use Rattle.lrpar_parse_trees.proofs.node.shown.NodeDebug.fmt.Goals as goal

pub returns-in_ok-write_rule-in-Nonterm : goal.returns-in_ok-write_rule-in-Nonterm
returns-in_ok-write_rule-in-Nonterm g c =
    let lexeme = g.LexemeT.Debug.debug_output in
    let number = g.StorageT.Debug.debug_output in
    let text = shown lexeme number in
    let rule = shown_rule (number c.in-Nonterm.ridx.0) in
    record {
      writes = displays_two g.W.Write.write_str_gives c.args.f.now c.write_rule.new.f c.write_nodes.new.f (Ok c.in_ok-write_rule-in-Nonterm.field-0)
          c.write_nodes.result (text c.args.self.now) rule (debug_items text [] c.deref.result.now ++? shown_end)
          (shown_nonterm lexeme number c.args.self.now c.in-Nonterm.ridx c.in-Nonterm.nodes c.in-Nonterm.is
          ∙ ap (λ ns. rule ++? (debug_items text [] ns ++? shown_end)) (sym c.deref.ensures.value))
          c.in_ok-write_rule-in-Nonterm.ensures refl c.write_nodes.ensures;
    }
