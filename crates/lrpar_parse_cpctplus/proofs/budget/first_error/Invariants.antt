use Rattle.std.proofs.Common.{ℕ, List, [], ◌∷◌}
use Rattle.lrpar_table_stacks.specs.Run.{Comes}
use Rattle.lrpar_table_stacks.specs.Stack.{IsStack, states_of}
use Rattle.lrpar_parse_lexemes.specs.Views.{token_by}
use Rattle.lrpar_parse_cpctplus.proofs.budget.first_error.Given as goal

-- it is a stack; and to which a run comes from it, the run comes from the start
abbrev pub invariant-feeding : goal.invariant-feeding
invariant-feeding g l =
    let index = g.StorageT.StorageIndex.index in
    let token = token_by index g.LexemeT.Lexeme.parts in
    let at = l.point in
    record {
      stack : IsStack at.checked.table (states_of index l.states.items);
      comes : (after : List ℕ) (k : ℕ) (ps : List ℕ)
          → Comes token at.checked.grammar at.checked.table at.lexemes (states_of index l.states.items) l.place ps after k
          → (qs : List ℕ) × Comes token at.checked.grammar at.checked.table at.lexemes (at.checked.table.start ∷ []) 0 qs after k;
    }
