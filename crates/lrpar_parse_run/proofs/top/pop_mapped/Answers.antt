use Rattle.std.proofs.Common.{rules, ◌≡◌, ◌<◌, ◌∷◌, [], ◌++◌, length, take, drop, arith, length-drop}
use Rattle.std.specs.List.{AllZip}
use Rattle.lrpar_parse_run.proofs.ReversedLemmas.{all_taken, last_reversed, zip_take_more}
use Rattle.lrpar_parse_run.proofs.top.pop_mapped.Goals as goal

pub loop-i-preserved : goal.loop-i-preserved
loop-i-preserved g c =
    let of = λ (e : g.row.E.Denot) (v : g.row.V.Denot). g.F.Fn.post c.args.make.now (e, tt) v in
    let entry = c.unwrap-entry.result in
    let all = drop (c.turn_top-at.result) c.args.entries.now.items in
    let more : c.loop-i._i < length all = omega (arith, length-drop (c.turn_top-at.result) c.args.entries.now.items) in
    let popped : c.loop-i.entries.items ≡ c.pop.new.self.items ++ entry ∷ [] = search rules in
    let last = last_reversed (take (c.turn_top-at.result) c.args.entries.now.items) all c.loop-i.entries.items c.pop.new.self.items c.loop-i._i entry
    c.loop-i.invariant.turned more popped in
    record {
      whole = c.loop-i.invariant.whole;
      turned = last.0;
      made_of = rw c.in_ok-push.ensures.items (zip_take_more of all c.loop-i.made.items c.loop-i._i entry c.make.result more last.1 c.loop-i.invariant.made_of c.make.ensures);
    }

pub returns : goal.returns
returns g c =
    let of = λ (e : g.row.E.Denot) (v : g.row.V.Denot). g.F.Fn.post c.args.make.now (e, tt) v in
    let l = c.loop-i in
    let taken = all_taken (λ entries. AllZip of entries l.made.items) c.args.entries.now.items l.entries.items (c.turn_top-at.result) c.args.count l._i
    l.invariant.whole c.loop-i-test.false l.invariant.turned l.invariant.made_of in
    record { kept = taken.0; made = taken.1 }
