use Rattle.std.proofs.Common.{◌≡◌, ◌<◌, ◌∙◌, ℕ, true, arith, sym}
use Rattle.std.proofs.lemmas.Bool.{both_ways, eqb-true}
use Rattle.lrpar_grammar.specs.Grammar.{prods_len, rules_len, tokens_len}
use Rattle.lrpar_table_rows.specs.Graph.{graph_len}
use Rattle.lrpar_table_rows.specs.Table.{ReduceBy, action_of, states_len}
use Rattle.lrpar_table_conditions.proofs.checkable.Checkable.has_shape.Goals as goal
use Rattle.lrpar_table_conditions.proofs.checkable.Checkable.has_shape.Goals.{then-states_len, else-states_len, then-tokens_len, else-tokens_len, then-rules_len, else-rules_len}

pub returns-then-reduces_are_in_range : goal.returns-then-reduces_are_in_range
returns-then-reduces_are_in_range g c =
    let grm = c.args.self.now.grm.now in
    let graph = c.args.self.now.sgraph.now in
    let table = c.args.self.now.stable.now in
    let Reduces : Type 0 = (c.if-tokens_len.value ≡ true) × ((s t p : ℕ) → action_of table s t ≡ ReduceBy p → p < prods_len grm) in
    let Rules : Type 0 = (c.if-states_len.value ≡ true) × (table.rules ≡ rules_len grm) in
    let Tokens : Type 0 = (graph_len graph ≡ states_len table) × (table.tokens ≡ tokens_len grm) in
    let reduces : Reduces =
    elim c.if-rules_len.branch as (λ _. Reduces) [
      | then-rules_len w ↦ (w.if-rules_len.true, w.reduces_are_in_range.ensures.0 (sym w.value-is ∙ c.if-reduces_are_in_range.true))
      | else-rules_len w ↦ absurd (both_ways c.if-tokens_len.value w.if-rules_len.false (sym w.value-is ∙ c.if-reduces_are_in_range.true))
    ] in
    let rules : Rules =
    elim c.if-tokens_len.branch as (λ _. Rules) [
      | then-tokens_len w ↦
          let same = eqb-true w.rules_len.result w.rules_len-then-tokens_len.result (sym w.value-is ∙ reduces.0) in
          (w.if-tokens_len.true, sym w.rules_len.ensures.rules ∙ same ∙ w.rules_len-then-tokens_len.ensures.len)
      | else-tokens_len w ↦ absurd (both_ways c.if-states_len.value w.if-tokens_len.false (sym w.value-is ∙ reduces.0))
    ] in
    let tokens : Tokens =
    elim c.if-states_len.branch as (λ _. Tokens) [
      | then-states_len w ↦
          let same = eqb-true w.tokens_len.result w.tokens_len-then-states_len.result (sym w.value-is ∙ rules.0) in (
            sym c.states_len.ensures.states ∙ w.if-states_len.true ∙ c.states_len-2.ensures.states,
            sym w.tokens_len.ensures.tokens ∙ same ∙ w.tokens_len-then-states_len.ensures.len,
          )
      | else-states_len w ↦ absurd (w.if-states_len.false (eqb-true c.states_len.result c.states_len-2.result (sym w.value-is ∙ rules.0)))
    ] in
    let start : table.start < states_len table = c.states_len-2.ensures.closed.start_within in (
      λ h. record {
        states = tokens.0;
        some = omega (arith, start);
        tokens = tokens.1;
        rules = rules.1;
        reduces = reduces.1;
        items = c.items_are_in_range.ensures.0 h;
      },
      λ shape. c.items_are_in_range.ensures.1 shape.items,
    )
