use Rattle.std.proofs.Common.{◌≡◌, ◌<◌, ◌+◌, ◌∙◌, ◌∷◌, [], ap, arith, Bool, length, length-append, List, subst, sym, ℕ}
use Rattle.lrpar_grammar.specs.Grammar.{tokens_len}
use Rattle.lrpar_table_pops.specs.Sets.{HaveNoTokens, tokens_by}
use Rattle.lrpar_table_pops.proofs.SetLemmas.{none_pushed, room_pushed}
use Rattle.lrpar_table_pops.proofs.sets.empty_sets.Goals as goal

pub rules-preserved : goal.rules-preserved
rules-preserved g c =
    let sets = c.rules.sets.items in
    let bits = c.in_ok-set.set in
    let pushed = sym c.in_ok-push.ensures.items in
    let before = c.rules.invariant in
    record {
      none = subst HaveNoTokens pushed (none_pushed sets bits before.none c.in_ok-set.ensures.none);
      long =
          let now = ap (λ (l : List (List Bool)). length l) c.in_ok-push.ensures.items in
          let more = length-append sets (bits ∷ []) in
          omega (arith, now, more, before.long);
      room = subst (λ (l : List (List Bool)). (r : ℕ) → r < c.rules.counter + 1 → length (tokens_by l r) ≡ tokens_len c.args.grm.now) pushed
          (room_pushed sets bits (tokens_len c.args.grm.now) c.rules.counter before.long before.room (c.in_ok-set.ensures.room ∙ c.tokens_len.ensures.len));
    }
