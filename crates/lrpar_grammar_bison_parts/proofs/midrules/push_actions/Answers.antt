use Rattle.std.proofs.Common.{ap, sym, ◌∙◌, ◌≡◌, ◌++◌, ◌+◌, ◌∷◌, drop, get_or, map}
use Rattle.lrpar_grammar_bison.specs.Words.{placed}
use Rattle.lrpar_grammar_bison_rules.specs.Rules.{item_of}
use Rattle.lrpar_grammar_bison_parts.specs.Midrules.{actions_in}
use Rattle.lrpar_grammar_bison_parts.proofs.MidruleLemmas.{action_words, actions_after, last_action, next_item, no_item, pushed_last, symbols_skip}
use Rattle.lrpar_grammar_bison_parts.proofs.midrules.push_actions.Goals as goal
use Rattle.lrpar_grammar_bison_parts.proofs.midrules.push_actions.Goals.{then-ends_action+in_ok-push_some, else-ends_action}

pub loop-item-preserved : goal.loop-item-preserved
loop-item-preserved c =
    let items = c.args.items.now in
    let i = c.loop-item.item-index in
    let x = get_or items i no_item in
    let rest = map item_of (drop (i + 1) items) in
    let old = c.loop-item.actions.items in
    let all = map placed c.args.actions.now.items ++ actions_in (map item_of items) in
    let so_far : map placed old ++ actions_after (last_action c.loop-item.last) (item_of x ∷ rest) ≡ all =
    ap (λ xs. map placed old ++ actions_after (last_action c.loop-item.last) xs) (sym (next_item items i c.loop-item-test.true)) ∙ c.loop-item.invariant in
    elim c.if-ends_action.branch [
      | then-ends_action+in_ok-push_some w ↦
          pushed_last old c.if-ends_action.actions.items c.loop-item.last c.if-ends_action.last x rest all (sym c.ends_action.ensures ∙ w.if-ends_action.true)
          (ap (λ v. v.items) w.actions-is ∙ w.in_ok-push_some.ensures) (w.last-is ∙ w.action_word-last.ensures) so_far
      | else-ends_action w ↦
          ap (λ v. map placed v.items ++ actions_after (last_action c.if-ends_action.last) rest) w.actions-is
          ∙ ap (λ last. map placed old ++ actions_after (last_action last) rest) w.last-is
          ∙ ap (λ xs. map placed old ++ action_words xs) (sym (symbols_skip (last_action c.loop-item.last) (item_of x) rest (sym c.ends_action.ensures ∙ w.if-ends_action.false)))
          ∙ so_far
    ]
