use Rattle.std.proofs.Common.{◌≡◌, ◌+◌, ◌++◌, length, take, drop, reverse}
use Rattle.std.specs.List.{AllZip}
use Rattle.lrpar_parse_run.proofs.top.pop_mapped.Given as goal

-- the entries that are left are in reverse, and the values so far are made of the others
abbrev pub invariant-loop-i : goal.invariant-loop-i
invariant-loop-i g l = record {
  whole : l.at + l.count ≡ length l.fn.entries.items;
  turned : l.entries.items ≡ take l.at l.fn.entries.items ++ reverse (drop l._i (drop l.at l.fn.entries.items));
  made_of : AllZip (λ e v. g.F.Fn.post l.make (e, tt) v) (take l._i (drop l.at l.fn.entries.items)) l.made.items;
}
