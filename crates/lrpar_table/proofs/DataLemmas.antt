-- What is checked of what is built of a grammar.
use Rattle.std.proofs.Common.{◌≡◌, ◌≤◌, ap, subst, sym, ℕ}
use Rattle.lrpar_grammar.specs.Grammar.{Grammar}
use Rattle.lrpar_table_rows.specs.Graph.{Graph, graph_len}
use Rattle.lrpar_table_rows.specs.Table.{Table}
use Rattle.lrpar_table_build.specs.Built.{IsBuilt}
use Rattle.lrpar_table_check.specs.Checked.{Checked, IsChecked}
use Rattle.lrpar_table.specs.ParserData.{IsParserDataOf}
use Rattle.lrpar_table.proofs.CompleteLemmas.{built_tables_are_complete_without_conflicts}

-- the checked table is that of the grammar
pub parser_data_of : (g : Grammar) (most bound : ℕ) (graph : Graph) (table : Table) (d : Checked) → IsBuilt g graph table → graph_len graph ≤ most
    → d ≡ record { grammar = g; graph = graph; table = table; cap = bound } → IsChecked d → IsParserDataOf g most bound d
parser_data_of g most bound graph table d built room made checked =
    let same_g : d.grammar ≡ g = ap (λ (x : Checked). x.grammar) made in
    let same_graph : d.graph ≡ graph = ap (λ (x : Checked). x.graph) made in
    let here : IsBuilt g d.graph d.table = subst (λ (x : Checked). IsBuilt g x.graph x.table) (sym made) built in
    let there : IsBuilt d.grammar d.graph d.table = subst (λ (x : Grammar). IsBuilt x d.graph d.table) (sym same_g) here in record {
      grammar = same_g;
      cap_is = ap (λ (x : Checked). x.cap) made;
      built = here;
      room = subst (λ (x : Graph). graph_len x ≤ most) (sym same_graph) room;
      checked = checked;
      complete = built_tables_are_complete_without_conflicts d.grammar d.graph d.table checked.well_formed there;
    }
