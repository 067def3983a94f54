use Rattle.std.proofs.Common.{◌≡◌, ◌++◌, ◌+◌, ◌∷◌, [], arith, subst, sym, take}
use Rattle.std.proofs.lemmas.List.{take_all, take_more}
use Rattle.lrpar_table_rows.specs.Ascending.{HaveSame}
use Rattle.lrpar_table_rows.specs.Runs.{run_items, tokens_of}
use Rattle.lrpar_table_rows.proofs.ItemLemmas.{HaveSame-push}
use Rattle.lrpar_table_rows.proofs.RunLemmas.{core_known, runs_made}
use Rattle.lrpar_table_rows.proofs.runs.runs_of.Goals as goal

pub loop-item-init : goal.loop-item-init
loop-item-init g c =
    let paired = rw c.as_slice.ensures.all at c.in_ok-runs.ensures.paired in
    let none = rw c.as_slice.ensures.all at c.in_ok-runs.ensures.none in
    (paired, λ x. (λ h. absurd (none x h), λ h. absurd (omega (arith, h.1))))

pub put_token-requires-clause-known : goal.put_token-requires-clause-known
put_token-requires-clause-known g c =
    core_known c.args.items.now c.args.cores.now c.requires c.loop-item.item-index c.item-item.result c.loop-item-test.true c.item-item.is

pub loop-item-preserved : goal.loop-item-preserved
loop-item-preserved g c =
    let items = c.args.items.now in
    let i = c.loop-item.item-index in
    let item = c.item-item.result in
    let new = run_items c.args.cores.now (tokens_of c.put_token.new.runs.items) in
    let more : take (i + 1) items ≡ take i items ++ item ∷ [] = rw (← c.item-item.is) at (take_more items i item c.loop-item-test.true) in (
      c.in_ok-put_token.ensures.paired,
      subst (HaveSame new) (sym more)
          (HaveSame-push (run_items c.args.cores.now (tokens_of c.loop-item.runs.items)) (take i items) new item c.loop-item.invariant.1
          c.in_ok-put_token.ensures.same),
    )

pub returns : goal.returns
returns g c =
    let all = take_all c.loop-item.item-index c.args.items.now c.loop-item-test.false in
    let made =
    runs_made c.args.cores.now c.loop-item.runs c.in_ok-made.made.items c.args.items.now c.in_ok-made.ensures.same c.loop-item.invariant.0 (rw all at c.loop-item.invariant.1) in
    record { paired = made.0; sorted = c.in_ok-made.ensures.sorted; same = made.1 }
