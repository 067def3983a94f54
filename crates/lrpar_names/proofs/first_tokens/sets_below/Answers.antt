use Rattle.std.proofs.Common.{◌≡◌, ◌+◌, length, sym, subst, ◌∙◌, ap}
use Rattle.std.specs.List.{All}
use Rattle.std.proofs.lemmas.List.{length_push}
use Rattle.std.proofs.lemmas.List.Elements.{All-push}
use Rattle.lrpar_names.proofs.RowLemmas.{SameBelow, same_more}
use Rattle.lrpar_names.proofs.first_tokens.sets_below.Goals as goal

pub sets-preserved : goal.sets-preserved
sets-preserved c =
    let below = c.sets.below.items in
    let cut = c.in_ok-set_below.field-0 in
    record {
      rules = ap length c.in_ok-push.ensures.items ∙ length_push below cut ∙ ap (λ n. n + 1) c.sets.invariant.rules;
      room = subst (All (λ row. length row ≡ c.args.end)) (sym c.in_ok-push.ensures.items)
          (All-push (λ row. length row ≡ c.args.end) below cut c.sets.invariant.room c.in_ok-set_below.ensures.room);
      same = subst (λ rows. SameBelow c.args.sets.now c.args.end rows (c.sets.set-index + 1)) (sym c.in_ok-push.ensures.items)
          (same_more c.args.sets.now below c.args.end c.sets.set-index c.set-item.result cut c.sets-test.true c.sets.invariant.rules c.set-item.is
          c.in_ok-set_below.ensures c.sets.invariant.same);
    }
