use Rattle.std.proofs.Common.{refl, lit<}
use Rattle.lrpar_grammar.proofs.laws.sum_tree_fits.Goals as goal

pub returns : goal.returns
returns c = record {
  fits = (lit< tt, refl, ((lit< tt, refl, (refl, tt)), (refl, ((lit< tt, refl, ((lit< tt, refl, (refl, tt)), tt)), tt))));
  lexemes = refl;
  prods = refl;
  other_rule = λ h. let other = h.1 in absurd (cc);
}
