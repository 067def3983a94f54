use Rattle.std.proofs.Common.{◌<◌, ℕ, get_or}
use Rattle.lrpar_parse_completion.specs.Waiting.{AreCounted, AreFound, Grows, HasRuleAfter, IsOwnCore, links_of}
use Rattle.lrpar_parse_completion.proofs.waiting.Found.add_kernel.Given as goal

-- the list grows, and has the rules after the dots of the kernel items so far
abbrev pub invariant-loop-prod : goal.invariant-loop-prod
invariant-loop-prod g l =
    let index = g.StorageT.StorageIndex.index in
    let grm = l.checked.grammar in
    let own = IsOwnCore grm l.checked.graph l.checked.table (index l.fn.state.0) in
    let before = links_of index l.fn.self.links.items in
    let links = links_of index l.self.links.items in
    record {
      counted : AreCounted grm links l.self.marks.items;
      grows : AreFound grm own before l.fn.self.marks.items → Grows grm own before links l.self.marks.items;
      begun : AreFound grm own before l.fn.self.marks.items → (k : ℕ) (d : _) → k < l.prod-index
          → HasRuleAfter grm links (index (get_or l.prod-items k d).0.0) (get_or l.prod-items k d).1;
    }
