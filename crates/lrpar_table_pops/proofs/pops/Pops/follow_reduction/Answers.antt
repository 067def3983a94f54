use Rattle.std.proofs.Common.{◌-◌, ◌∙◌, sym}
use Rattle.lrpar_table_pops.proofs.StepLemmas.{reduce_pops, same_dropping}
use Rattle.lrpar_table_rows.specs.declared.rows.Action.TheVariants.{Reduce}
use Rattle.lrpar_table_pops.specs.Pops.{Dropping}
use Rattle.lrpar_table_pops.proofs.FollowAllLemmas.{dropped_follows, kept_follows, same_finds}
use Rattle.lrpar_table_pops.proofs.pops.Pops.follow_reduction.Goals as goal

pub returns-then-len-eq0-clause-follows : goal.returns-then-len-eq0-clause-follows
returns-then-len-eq0-clause-follows g c = c.follow_kept.ensures.follows (Reduce c.args.prod)

pub returns-else-len-eq0-clause-follows : goal.returns-else-len-eq0-clause-follows
returns-else-len-eq0-clause-follows g c = λ table s at action leads are alone found.
    let index = g.StorageT.StorageIndex.index in
    let p = index c.args.prod.0 in
    let t = index c.args.token.0 in
    let len = c.in-Some.len in
    c.reduce.ensures.stays table s at
    (λ q is.
    leads q (reduce_pops c.args.grm.now table (index c.args.next.0) t p len action c.in-Some.ensures.len c.if-len-eq0.false q
    (is ∙ same_dropping c.from.result p (len - 1) c.from-else-len-eq0.result t c.from.ensures c.from-else-len-eq0.ensures))) found

pub returns-then-len-eq0-clause-all : goal.returns-then-len-eq0-clause-all
returns-then-len-eq0-clause-all g c = λ right.
    let index = g.StorageT.StorageIndex.index in
    kept_follows c.args.grm.now c.args.self.now (index c.args.next.0) (index c.args.token.0) (index c.args.prod.0) c.in-Some.len c.args.found.now c.follow_kept.new.found
    c.in-Some.ensures.len c.if-len-eq0.true c.follow_kept.ensures.all

pub returns-else-len-eq0-clause-all : goal.returns-else-len-eq0-clause-all
returns-else-len-eq0-clause-all g c = λ right.
    let index = g.StorageT.StorageIndex.index in
    let gr = c.args.grm.now in
    let p = index c.args.prod.0 in
    let t = index c.args.token.0 in
    let len = c.in-Some.len in
    let found = c.args.found.now in
    let new = c.reduce.new.self in
    dropped_follows gr c.args.self.now (index c.args.next.0) t p len found new c.in-Some.ensures.len c.if-len-eq0.false
    (same_finds gr (Dropping c.from.result (len - 1) c.from-else-len-eq0.result) (Dropping p (len - 1) t) found new
    (sym (same_dropping c.from.result p (len - 1) c.from-else-len-eq0.result t c.from.ensures c.from-else-len-eq0.ensures)) c.reduce.ensures.all)
