use Rattle.std.proofs.Common.{◌≡◌, ◌==◌, ◌+◌, ◌-◌, Bool, true, false, ℕ, length, length-drop, take, drop, nat_eq, codes, sym, ap, ◌∙◌, arith}
use Rattle.std.specs.List.{starts_with}
use Rattle.std.proofs.lemmas.Bool.Decides.{nat_tests}
use Rattle.std.proofs.lemmas.List.{take_all}
use Rattle.lrpar_grammar_code.specs.Code.{more, nested_len}
use Rattle.lrpar_grammar_code.proofs.CodeLemmas.{nested_close, nested_paired, nested_plain, nested_start}
use Rattle.lrpar_grammar_code.proofs.code.nested_len.Goals as goal
use Rattle.lrpar_grammar_code.proofs.code.nested_len.Goals.{then-paired, else-paired+then-starts_with+else-depth-eq0, else-paired+else-starts_with+then-starts_with-2, else-paired+else-starts_with+else-starts_with-2}

-- a number that isn't 0
eqb_no : (n : ℕ) → (n ≡ 0 → ⊥) → (n == 0) ≡ false
eqb_no n some = grind (arith, nat_tests)

pub loop-i-preserved : goal.loop-i-preserved
loop-i-preserved c =
    let text = c.args.text.now in
    let i = c.loop-i.i in
    let d = c.loop-i.depth in
    let p = c.loop-i.paired in
    let within = c.loop-i-test.true in
    let now = c.if-paired in
    let rest : take (length text - i) (drop i text) ≡ drop i text = take_all _ _ (omega (arith, length-drop i text)) in
    let shuts = ap (λ s. starts_with nat_eq s (codes "*/")) (sym rest) in
    let starts = ap (λ s. starts_with nat_eq s (codes "/*")) (sym rest) in
    let after : ℕ → Bool → Type 0 = λ d p. nested_len 0 false text ≡ more (i + 1) (nested_len d p (drop (i + 1) text)) in
    let is_now : (d : ℕ) (p : Bool) → now.depth ≡ d → now.paired ≡ p → nested_len 0 false text ≡ more (i + 1) (nested_len d p (drop (i + 1) text)) → after now.depth now.paired =
    λ d p same_d same_p is. is ∙ ap (λ d. more (i + 1) (nested_len d p (drop (i + 1) text))) (sym same_d) ∙ ap (λ p. more (i + 1) (nested_len now.depth p (drop (i + 1) text))) (sym same_p) in
    elim now.branch [
      | then-paired w ↦ record {
        few = omega (arith, w.depth-is, c.loop-i.invariant.few);
        len = is_now d false w.depth-is w.paired-is (c.loop-i.invariant.len ∙ nested_paired d p text i within w.if-paired.true);
      }
      | else-paired+then-starts_with+else-depth-eq0 w ↦ record {
        few = omega (arith, w.depth-is, c.loop-i.invariant.few);
        len = is_now (d - 1) true w.depth-is w.paired-is (c.loop-i.invariant.len
            ∙ nested_close d p text i within w.if-paired.false (shuts ∙ sym w.starts_with.ensures.value ∙ w.if-starts_with.true) (eqb_no d w.if-depth-eq0.false));
      }
      | else-paired+else-starts_with+then-starts_with-2 w ↦ record {
        few = omega (arith, w.depth-is, c.loop-i.invariant.few);
        len = is_now (d + 1) true w.depth-is w.paired-is (c.loop-i.invariant.len
            ∙ nested_start d p text i within w.if-paired.false (shuts ∙ sym w.starts_with.ensures.value ∙ w.if-starts_with.false)
            (starts ∙ sym w.starts_with-else-starts_with.ensures.value ∙ w.if-starts_with-2.true));
      }
      | else-paired+else-starts_with+else-starts_with-2 w ↦ record {
        few = omega (arith, w.depth-is, c.loop-i.invariant.few);
        len = is_now d p w.depth-is w.paired-is (c.loop-i.invariant.len
            ∙ nested_plain d p text i within w.if-paired.false (shuts ∙ sym w.starts_with.ensures.value ∙ w.if-starts_with.false)
            (starts ∙ sym w.starts_with-else-starts_with.ensures.value ∙ w.if-starts_with-2.false)
            ∙ ap (λ p. more (i + 1) (nested_len d p (drop (i + 1) text))) (sym w.if-paired.false));
      }
    ]
