-- Characters that are repeated.
use Rattle.std.proofs.Common.{◌≡◌, ◌+◌, ◌∙◌, ℕ, zero, suc, ap, sym, arith, ◌++◌, append_assoc, append-nil}
use Rattle.std.specs.Prelude.{encode_utf8}
use Rattle.lrpar_report_columns.specs.Columns.{repeated}

-- one time more
pub repeated_more : (n c : ℕ) → repeated (n + 1) c ≡ repeated n c ++ encode_utf8 c
repeated_more zero c = append-nil (encode_utf8 c)
repeated_more (suc n) c =
    let next : suc n + 1 ≡ suc (n + 1) = omega arith in
    ap (λ m. repeated m c) next ∙ ap (λ s. encode_utf8 c ++ s) (repeated_more n c) ∙ sym (append_assoc (encode_utf8 c) (repeated n c) (encode_utf8 c))
