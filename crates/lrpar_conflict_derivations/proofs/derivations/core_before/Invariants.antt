use Rattle.std.proofs.Common.{◌≡◌, ℕ, Some, map, slice_get, take}
use Rattle.std.specs.List.{Contains}
use Rattle.lrpar_grammar.specs.Grammar.{Terminal, symbols_of}
use Rattle.lrpar_table_rows.specs.PlainItems.{core_of}
use Rattle.lrpar_conflict_derivations.proofs.derivations.core_before.Given as goal

-- none of the cores so far has the token after its dot
abbrev pub invariant-loop-core : goal.invariant-loop-core
invariant-loop-core g l =
    let index = g.StorageT.StorageIndex.index in
    (p k : ℕ) → Contains (map (core_of index) (take l.core-index l.core-items)) (p, k)
    → slice_get (symbols_of l.grm p) k ≡ Some (Terminal (index l.token.0)) → ⊥
