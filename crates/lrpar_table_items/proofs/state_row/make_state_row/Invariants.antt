use Rattle.std.proofs.Common.{◌≡◌, ◌≤◌, ℕ, map, nat_eq}
use Rattle.std.specs.Map.{keys_of, lookup}
use Rattle.lrpar_table_items.specs.Cores.{core_set}
use Rattle.lrpar_table_items.specs.Resolution.{AscendFrom, shift_entry}
use Rattle.lrpar_table_items.proofs.StateRowLemmas.{IsRowBelow}
use Rattle.lrpar_table_items.proofs.state_row.make_state_row.Given as goal

-- the actions and conflicts of the tokens so far were appended, none of them is refused, and the shifts that are left are by later
-- tokens
abbrev pub invariant-loop-token : goal.invariant-loop-token
invariant-loop-token g l =
    let index = g.StorageT.StorageIndex.index in
    let shifts = map (shift_entry index) l.shifts in
    let rest = map (shift_entry index) l.rest in record {
      row : IsRowBelow index l.precedences l.grm (index l.state.0) (map (core_set index) l.cores) shifts l.initial.found l.found l.row l.token;
      ascend : AscendFrom l.token (keys_of rest);
      later : (t : ℕ) → l.token ≤ t → lookup (nat_eq t) rest ≡ lookup (nat_eq t) shifts;
    }
