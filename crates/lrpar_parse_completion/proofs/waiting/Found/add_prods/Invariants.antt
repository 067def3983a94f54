use Rattle.std.proofs.Common.{◌<◌, ℕ, get_or}
use Rattle.std.specs.List.{Contains}
use Rattle.lrpar_table_rows.specs.Graph.{Graph}
use Rattle.lrpar_table_rows.specs.Table.{Table}
use Rattle.lrpar_parse_completion.specs.Waiting.{AreCounted, AreFound, Grows, HasRuleAfter, IsOwnCore, links_of, rules_in}
use Rattle.lrpar_parse_completion.proofs.waiting.Found.add_prods.Given as goal

-- the list grows, and has the rules that the productions so far begin with
abbrev pub invariant-loop-prod : goal.invariant-loop-prod
invariant-loop-prod g l =
    let index = g.StorageT.StorageIndex.index in
    let before = links_of index l.fn.self.links.items in
    let links = links_of index l.self.links.items in
    record {
      counted : AreCounted l.grm links l.self.marks.items;
      grows : (graph : Graph) (table : Table) (s : ℕ) → AreFound l.grm (IsOwnCore l.grm graph table s) before l.fn.self.marks.items
          → Contains (rules_in before) (index l.fn.rule.0) → Grows l.grm (IsOwnCore l.grm graph table s) before links l.self.marks.items;
      begun : (graph : Graph) (table : Table) (s : ℕ) → AreFound l.grm (IsOwnCore l.grm graph table s) before l.fn.self.marks.items
          → Contains (rules_in before) (index l.fn.rule.0) → (k : ℕ) (d : _) → k < l.prod-index
          → HasRuleAfter l.grm links (index (get_or l.prod-items k d).0) 0;
    }
