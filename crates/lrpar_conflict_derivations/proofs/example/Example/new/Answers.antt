use Rattle.std.proofs.Common.{◌↔◌, IsTrue, refl, subst}
use Rattle.lrpar_conflict_derivations.specs.Stored.{HaveOneText}
use Rattle.lrpar_conflict_derivations.proofs.example.Example.new.Goals as goal

pub returns : goal.returns
returns g c =
    let index = g.StorageT.StorageIndex.index in
    let flag = c.in_ok-ambiguous.ambiguous in record {
      before = c.in_ok-before.ensures;
      first = refl;
      second = refl;
      ambiguous =
          subst (λ xs. IsTrue flag ↔ HaveOneText index c.args.first.items xs) c.deref-2.ensures.value
          (subst (λ xs. IsTrue flag ↔ HaveOneText index xs c.deref-2.result.now) c.deref.ensures.value c.in_ok-ambiguous.ensures);
      shortest = refl;
      bound = refl;
    }
