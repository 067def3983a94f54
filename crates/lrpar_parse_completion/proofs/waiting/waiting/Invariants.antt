use Rattle.std.proofs.Common.{◌≡◌, ◌<◌, ◌≤◌, ◌-◌, ℕ, Some, length, slice_get}
use Rattle.lrpar_grammar.specs.Grammar.{rules_len}
use Rattle.lrpar_parse_completion.specs.Waiting.{AreCounted, AreFound, HasRuleAfter, IsClosedAt, IsOwnCore, LinkOf, links_of}
use Rattle.lrpar_parse_completion.proofs.waiting.waiting.Given as goal

-- the productions of the rules before the place are closed
abbrev pub invariant-found : goal.invariant-found
invariant-found g l =
    let index = g.StorageT.StorageIndex.index in
    let grm = l.checked.grammar in
    let own = IsOwnCore grm l.checked.graph l.checked.table (index l.fn.state.0) in
    let links = links_of index l.found.links.items in
    record {
      counted : AreCounted grm links l.found.marks.items;
      found : AreFound grm own links l.found.marks.items;
      begun : (p k : ℕ) → own p k → HasRuleAfter grm links p k;
      closed : (i : ℕ) (x : LinkOf) → i < l.place → slice_get links i ≡ Some x → IsClosedAt grm links x.rule;
      within : l.place ≤ length links;
    }

-- each rule of the grammar is found once
abbrev pub decreases-found : goal.decreases-found
decreases-found g l = rules_len l.checked.grammar - l.place
