-- Columns of an empty text.
use Rattle.std.proofs.Common.{◌≡◌, ◌≤◌, ℕ, zero, suc, [], refl, arith}
use Rattle.std.specs.Str.{chars}
use Rattle.lrpar_grammar_places.specs.Lines.{column_of}

-- there is only the first
pub column_of_nothing : (i : ℕ) → i ≤ 0 → column_of [] i ≡ 1
unfolding chars
column_of_nothing zero h = refl
column_of_nothing (suc n) h = absurd (omega (arith, h))
