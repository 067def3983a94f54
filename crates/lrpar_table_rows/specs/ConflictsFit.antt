-- Conflicts fit a grammar: their tokens and productions are the grammar's. Which states they name doesn't matter.
use Rattle.std.specs.Prelude.{◌<◌, All}
use Rattle.lrpar_grammar.specs.Grammar.{Grammar, end_token, prods_len, tokens_len}
use Rattle.lrpar_table_rows.specs.Table.{ConflictLists, ReduceReduce, ShiftReduce}

-- a reduce/reduce conflict fits: a token, and two productions, all of the grammar
pub record ReductionsFit (g : Grammar) (x : ReduceReduce) : Type 0 where
  pub token : x.token < tokens_len g
  pub first : x.first < prods_len g
  pub second : x.second < prods_len g

-- a shift/reduce conflict fits: a token other than the end token, and a production, both of the grammar
pub record ShiftFits (g : Grammar) (x : ShiftReduce) : Type 0 where
  pub token : x.token < end_token g
  pub prod : x.prod < prods_len g

-- all reduce/reduce conflicts fit
abbrev pub AllReductionsFit : Grammar → ConflictLists → Type 0
AllReductionsFit g conflicts = All (ReductionsFit g) conflicts.reduce_reduce

-- all shift/reduce conflicts fit
abbrev pub AllShiftsFit : Grammar → ConflictLists → Type 0
AllShiftsFit g conflicts = All (ShiftFits g) conflicts.shift_reduce

-- all conflicts fit
pub record ConflictsFit (g : Grammar) (conflicts : ConflictLists) : Type 0 where
  pub reduce_reduce : AllReductionsFit g conflicts
  pub shift_reduce : AllShiftsFit g conflicts
