use Rattle.std.proofs.Common.{ap, sym, ◌∙◌, ◌≡◌, ◌+◌, ◌∷◌, drop, get_or, length, map, arith}
use Rattle.lrpar_grammar_bison_rules.specs.Rules.{item_of}
use Rattle.lrpar_grammar_bison_parts.specs.Midrules.{actions_in, is_action}
use Rattle.lrpar_grammar_bison_parts.proofs.MidruleLemmas.{action_words, actions_after, any_action, counted_end, next_item, no_item, one_if, symbols_skip}
use Rattle.lrpar_grammar_bison_parts.proofs.midrules.action_count.Goals as goal
use Rattle.lrpar_grammar_bison_parts.proofs.midrules.action_count.Goals.{then-ends_action, then-is_open, else-is_open, else-ends_action}

pub loop-item-preserved : goal.loop-item-preserved
loop-item-preserved c =
    let items = c.args.items.now in
    let i = c.loop-item.item-index in
    let x = get_or items i no_item in
    let rest = map item_of (drop (i + 1) items) in
    let all = length (actions_in (map item_of items)) in
    let so_far : c.loop-item.count + length (actions_after (any_action c.loop-item.is_open) (item_of x ∷ rest)) ≡ all =
    ap (λ xs. c.loop-item.count + length (actions_after (any_action c.loop-item.is_open) xs)) (sym (next_item items i c.loop-item-test.true)) ∙ c.loop-item.invariant.counted in
    elim c.if-ends_action.branch [
      | then-ends_action w ↦
          let one : length (actions_after (any_action c.loop-item.is_open) (item_of x ∷ rest)) ≡ one_if c.loop-item.is_open + length (actions_after (any_action (is_action x.kind)) rest) =
          counted_end c.loop-item.is_open (item_of x) rest (sym c.ends_action.ensures ∙ w.if-ends_action.true) in
          let next : c.if-ends_action.is_open ≡ is_action x.kind = w.is_open-is ∙ w.is_action-is_open.ensures in
          let left : length (actions_after (any_action c.if-ends_action.is_open) rest) ≡ length (actions_after (any_action (is_action x.kind)) rest) =
          ap (λ b. length (actions_after (any_action b) rest)) next in
          elim w.if-is_open.branch [
            | then-is_open w' ↦ let here : one_if c.loop-item.is_open ≡ 1 = ap one_if w'.if-is_open.true in record { counted = omega arith; within = omega arith }
            | else-is_open w' ↦ let here : one_if c.loop-item.is_open ≡ 0 = ap one_if w'.if-is_open.false in record { counted = omega arith; within = omega arith }
          ]
      | else-ends_action w ↦
          let skip = ap (λ xs. length (action_words xs)) (symbols_skip (any_action c.loop-item.is_open) (item_of x) rest (sym c.ends_action.ensures ∙ w.if-ends_action.false)) in
          let left = ap (λ b. length (actions_after (any_action b) rest)) w.is_open-is in
          record { counted = omega arith; within = omega arith }
    ]
