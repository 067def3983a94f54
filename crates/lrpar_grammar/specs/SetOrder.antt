-- Sets of tokens are ordered as lists of bits are.
use Rattle.std.specs.Prelude.{◌≡◌, Bool, true, false, List, Some}
use Rattle.std.specs.Cmp.{IsPartialOrder, bool_cmp_total, partial_order_from_agreeing_total}
use Rattle.std.specs.Cmp.Lexicographic.{lists_ties, lists_total, pointwise, slice_cmp}
use Rattle.std.specs.Ordering.{bool_cmp, eq_by_cmp}
use Rattle.std.proofs.Common.{refl}
use Rattle.std.proofs.Math.Bool.{beq}

bits_tie : (x y : Bool) → beq x y ≡ eq_by_cmp bool_cmp x y
bits_tie true true = refl
bits_tie true false = refl
bits_tie false true = refl
bits_tie false false = refl

-- sets are equal exactly if they compare as equal
pub sets_tie : (bits others : List Bool) → pointwise beq bits others ≡ eq_by_cmp (slice_cmp bool_cmp) bits others
sets_tie = lists_ties bool_cmp bits_tie

pub order_of_sets : IsPartialOrder (pointwise beq) (λ bits others. Some (slice_cmp bool_cmp bits others))
order_of_sets = partial_order_from_agreeing_total (slice_cmp bool_cmp) (lists_total bool_cmp_total) (λ x y. refl) sets_tie
