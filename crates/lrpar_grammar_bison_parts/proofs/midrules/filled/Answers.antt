use Rattle.std.proofs.Common.{ap, sym, ◌∙◌, ◌≡◌, ◌≤◌, ◌+◌, ◌++◌, ◌∷◌, drop, get_or, length, map, arith}
use Rattle.lrpar_grammar_words.specs.Words.{placed as text_placed}
use Rattle.lrpar_grammar_bison_rules.specs.Rules.{item_of}
use Rattle.lrpar_grammar_bison_parts.specs.Midrules.{filled, is_action, symbol_at, symbols_after, symbols_in}
use Rattle.lrpar_grammar_bison_parts.proofs.MidruleLemmas.{action_words, actions_after, any_action, counted_end, filled_begin, filled_end, filled_from, filled_other, filled_skip, filled_symbol, next_item, no_item, one_if, symbols_skip}
use Rattle.lrpar_grammar_bison_parts.proofs.midrules.filled.Goals as goal
use Rattle.lrpar_grammar_bison_parts.proofs.midrules.filled.Goals.{then-ends_action, then-is_open+in_ok-push, else-is_open, else-ends_action, then-is_symbol+in_ok-push-2, else-is_symbol}

pub bounds-midrules-used : goal.bounds-midrules-used
bounds-midrules-used c =
    let items = c.args.items.now in
    let i = c.loop-item.item-index in
    let x = get_or items i no_item in
    let rest = map item_of (drop (i + 1) items) in
    let left : length (actions_after (any_action c.loop-item.is_open) (map item_of (drop i items))) ≡ one_if c.loop-item.is_open + length (actions_after (any_action (is_action x.kind)) rest) =
    ap (λ xs. length (actions_after (any_action c.loop-item.is_open) xs)) (next_item items i c.loop-item-test.true)
    ∙ counted_end c.loop-item.is_open (item_of x) rest (sym c.ends_action.ensures ∙ c.if-ends_action.true) in
    let here : one_if c.loop-item.is_open ≡ 1 = ap one_if c.if-is_open.true in
    omega arith

pub loop-item-preserved : goal.loop-item-preserved
loop-item-preserved c =
    let items = c.args.items.now in
    let i = c.loop-item.item-index in
    let x = get_or items i no_item in
    let rest = map item_of (drop (i + 1) items) in
    let midrules = c.args.midrules.now in
    let is_open = c.loop-item.is_open in
    let next = c.if-ends_action.is_open in
    let used = c.if-ends_action.used in
    let left : length (actions_after (any_action is_open) (map item_of (drop i items))) ≡ length (actions_after (any_action is_open) (item_of x ∷ rest)) =
    ap (λ xs. length (actions_after (any_action is_open) xs)) (next_item items i c.loop-item-test.true) in
    let enough : used + length (actions_after (any_action next) rest) ≤ length midrules =
    elim c.if-ends_action.branch [
      | then-ends_action w ↦
          let one : length (actions_after (any_action is_open) (item_of x ∷ rest)) ≡ one_if is_open + length (actions_after (any_action (is_action x.kind)) rest) =
          counted_end is_open (item_of x) rest (sym c.ends_action.ensures ∙ w.if-ends_action.true) in
          let same : length (actions_after (any_action next) rest) ≡ length (actions_after (any_action (is_action x.kind)) rest) =
          ap (λ b. length (actions_after (any_action b) rest)) (w.is_open-is ∙ w.is_action-is_open.ensures) in
          elim w.if-is_open.branch [
            | then-is_open+in_ok-push w' ↦ let here : one_if is_open ≡ 1 = ap one_if w'.if-is_open.true in omega arith
            | else-is_open w' ↦ let here : one_if is_open ≡ 0 = ap one_if w'.if-is_open.false in omega arith
          ]
      | else-ends_action w ↦
          let skip : length (actions_after (any_action is_open) (item_of x ∷ rest)) ≡ length (actions_after (any_action is_open) rest) =
          ap (λ xs. length (action_words xs)) (symbols_skip (any_action is_open) (item_of x) rest (sym c.ends_action.ensures ∙ w.if-ends_action.false)) in
          let same : length (actions_after (any_action next) rest) ≡ length (actions_after (any_action is_open) rest) = ap (λ b. length (actions_after (any_action b) rest)) w.is_open-is in
          omega arith
    ] in
    record {
      enough = enough;
      filled = λ aliases maps.
          let all = filled aliases (map text_placed midrules) (symbols_in (map item_of items)) in
          let so_far : map text_placed c.loop-item.symbols.items ++ filled_from aliases midrules c.loop-item.used (symbols_after (any_action is_open) (item_of x ∷ rest)) ≡ all =
          ap (λ xs. map text_placed c.loop-item.symbols.items ++ filled aliases (map text_placed (drop c.loop-item.used midrules)) (symbols_after (any_action is_open) xs)) (sym (next_item items i c.loop-item-test.true))
          ∙ c.loop-item.invariant.filled aliases maps in
          let after : map text_placed c.if-ends_action.symbols.items ++ filled_from aliases midrules used (symbol_at (item_of x) ++ symbols_after (any_action next) rest) ≡ all =
          elim c.if-ends_action.branch [
            | then-ends_action w ↦
                let next_is = w.is_open-is ∙ w.is_action-is_open.ensures in
                elim w.if-is_open.branch [
                  | then-is_open+in_ok-push w' ↦
                      filled_end aliases midrules (item_of x) rest all is_open next c.loop-item.symbols.items c.if-ends_action.symbols.items c.loop-item.used used
                      (sym c.ends_action.ensures ∙ w.if-ends_action.true) w'.if-is_open.true next_is
                      (ap (λ v. v.items) (w.symbols-is ∙ w'.symbols-is) ∙ w'.in_ok-push.ensures.items) (w.used-is ∙ w'.used-is) enough so_far
                  | else-is_open w' ↦
                      filled_begin aliases midrules (item_of x) rest all is_open next c.loop-item.symbols.items c.if-ends_action.symbols.items c.loop-item.used used
                      (sym c.ends_action.ensures ∙ w.if-ends_action.true) w'.if-is_open.false next_is
                      (ap (λ v. v.items) (w.symbols-is ∙ w'.symbols-is)) (w.used-is ∙ w'.used-is) enough so_far
                ]
            | else-ends_action w ↦
                filled_skip aliases midrules (item_of x) rest all is_open next c.loop-item.symbols.items c.if-ends_action.symbols.items c.loop-item.used used
                (sym c.ends_action.ensures ∙ w.if-ends_action.false) w.is_open-is (ap (λ v. v.items) w.symbols-is) w.used-is so_far
          ] in
          elim c.if-is_symbol.branch [
            | then-is_symbol+in_ok-push-2 w ↦
                filled_symbol aliases midrules (item_of x) rest all c.if-ends_action.symbols.items c.if-is_symbol.symbols.items w.symbol_word.result used (any_action next)
                (sym c.is_symbol.ensures ∙ w.if-is_symbol.true) (ap (λ v. v.items) w.symbols-is ∙ w.in_ok-push-2.ensures.items) (w.symbol_word.ensures aliases maps) after
            | else-is_symbol w ↦
                filled_other aliases midrules (item_of x) rest all c.if-ends_action.symbols.items c.if-is_symbol.symbols.items used (any_action next)
                (sym c.is_symbol.ensures ∙ w.if-is_symbol.false) (ap (λ v. v.items) w.symbols-is) after
          ];
    }
