use Rattle.std.proofs.Common.{◌++◌, ◌∙◌, ap}
use Rattle.std.proofs.lemmas.List.{append_assoc}
use Rattle.lrpar_grammar.specs.Grammar.{Nonterminal}
use Rattle.lrpar_table_rows.specs.PlainRows.{plain_action}
use Rattle.lrpar_table_rows.specs.Table.{actions_at, gotos_at}
use Rattle.lrpar_table_sentences.specs.AccessLens.{edge_if, edges_of, goto_edges, shift_edge, shift_edges}
use Rattle.lrpar_table_sentences.specs.Lens.{len_at}
use Rattle.lrpar_table_sentences.proofs.EdgeLemmas.{entry_all, entry_more}
use Rattle.lrpar_table_sentences.proofs.edges.push_edges.Goals as goal

pub shifts-preserved : goal.shifts-preserved
shifts-preserved g c =
    let index = g.StorageT.StorageIndex.index in
    let s = index c.args.s.0 in
    let at = c.actions_of.ensures in
    entry_more (λ t. index t.0) (plain_action index) c.actions_of.result.0.now c.actions_of.result.1.now (actions_at c.args.stable.now s) at.actions at.entries
    (λ entry. shift_edge c.args.shortest.now s entry.0 entry.1) (edges_of index c.args.edges.now.items) c.shifts.place c.index-tokens-place.result
    c.index-actions-place.result (edges_of index c.shifts.edges.items) (edges_of index c.push_shift.new.edges.items) c.shifts-test.true
    c.index-tokens-place.is c.index-actions-place.is c.shifts.invariant c.in_ok-push_shift.ensures

pub gotos-preserved : goal.gotos-preserved
gotos-preserved g c =
    let index = g.StorageT.StorageIndex.index in
    let s = index c.args.s.0 in
    let at = c.gotos_of.ensures in
    entry_more (λ r. index r.0) (λ next. index next.0) c.gotos_of.result.0.now c.gotos_of.result.1.now (gotos_at c.args.stable.now s) at.states at.entries
    (λ entry. edge_if (len_at c.args.shortest.now (Nonterminal entry.0)) s (Nonterminal entry.0) entry.1) (edges_of index c.shifts.edges.items) c.gotos.place
    c.index-rules-place.result c.index-states-place.result (edges_of index c.gotos.edges.items) (edges_of index c.push_edge.new.edges.items) c.gotos-test.true
    c.index-rules-place.is c.index-states-place.is c.gotos.invariant c.in_ok-push_edge.ensures

pub returns-clause-edges : goal.returns-clause-edges
returns-clause-edges g c =
    let index = g.StorageT.StorageIndex.index in
    let s = index c.args.s.0 in
    let choices = c.args.shortest.now in
    let es = actions_at c.args.stable.now s in
    let more = gotos_at c.args.stable.now s in
    let old = edges_of index c.args.edges.now.items in
    let shifts =
    entry_all (λ t. index t.0) (plain_action index) c.actions_of.result.0.now c.actions_of.result.1.now es c.actions_of.ensures.actions c.actions_of.ensures.entries
    (λ entry. shift_edge choices s entry.0 entry.1) old c.shifts.place (edges_of index c.shifts.edges.items) c.shifts-test.false c.shifts.invariant in
    let gotos =
    entry_all (λ r. index r.0) (λ next. index next.0) c.gotos_of.result.0.now c.gotos_of.result.1.now more c.gotos_of.ensures.states c.gotos_of.ensures.entries
    (λ entry. edge_if (len_at choices (Nonterminal entry.0)) s (Nonterminal entry.0) entry.1) (edges_of index c.shifts.edges.items) c.gotos.place
    (edges_of index c.gotos.edges.items) c.gotos-test.false c.gotos.invariant in
    gotos ∙ ap (λ first. first ++ goto_edges choices s more) shifts ∙ append_assoc old (shift_edges choices s es) (goto_edges choices s more)

pub returns-clause-stored : goal.returns-clause-stored
returns-clause-stored g c = record { actions = c.actions_of.ensures.exact; gotos = c.gotos_of.ensures.exact }
