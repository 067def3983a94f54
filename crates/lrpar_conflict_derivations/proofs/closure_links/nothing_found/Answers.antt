use Rattle.std.proofs.Common.{List, ap, subst, sym}
use Rattle.lrpar_conflict_derivations.specs.ClosureLinks.{AreMarks, LinkOf, links_of}
use Rattle.lrpar_conflict_derivations.proofs.MarkLemmas.{no_marks}
use Rattle.lrpar_conflict_derivations.proofs.closure_links.nothing_found.Goals as goal

pub returns-clause-marks : goal.returns-clause-marks
returns-clause-marks g c =
    let any = c.in_ok-unmarked.field-0.items in
    let asked = c.in_ok-unmarked-2.field-0.items in
    subst (λ (links : List LinkOf). AreMarks c.args.rules links any asked) (sym (ap (links_of g.StorageT.StorageIndex.index) c.new.ensures.items))
    (no_marks c.args.rules any asked c.in_ok-unmarked.ensures.room c.in_ok-unmarked-2.ensures.room c.in_ok-unmarked.ensures.none c.in_ok-unmarked-2.ensures.none)
