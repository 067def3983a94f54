use Rattle.std.proofs.Common.{◌∙◌, sym}
use Rattle.lrpar_table_rows.proofs.sparse.is_sparse_table.Goals as goal
use Rattle.lrpar_table_rows.proofs.sparse.is_sparse_table.Goals.{then-has_sparse_numbers, else-has_sparse_numbers}

pub returns-then-has_right_actions : goal.returns-then-has_right_actions
returns-then-has_right_actions g c =
    elim c.if-has_sparse_numbers.branch [
      | then-has_sparse_numbers w ↦
          let numbers = c.has_sparse_numbers.ensures.0 w.if-has_sparse_numbers.true in (
            λ h. record {
              actions_len = numbers.0;
              gotos_len = numbers.1;
              states_fit = numbers.3;
              tokens_fit = numbers.4;
              rules_fit = numbers.5;
              start_within = numbers.2;
              actions = w.has_right_actions.ensures.0 (sym w.value-is ∙ c.if-has_right_actions.true);
              gotos = c.has_right_gotos.ensures.0 h;
            },
            λ is. c.has_right_gotos.ensures.1 is.gotos,
          )
      | else-has_sparse_numbers w ↦ absurd cc
    ]
