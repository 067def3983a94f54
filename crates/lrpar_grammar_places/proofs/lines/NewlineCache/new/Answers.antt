use Rattle.std.proofs.Common.{◌≡◌, ◌+◌, [], ◌∷◌, ◌++◌, length, sym, ap, ◌∙◌, arith}
use Rattle.lrpar_grammar_places.specs.Lines.{chars_before}
use Rattle.lrpar_grammar_places.proofs.ColumnLemmas.{chars_more, counts_more, counts_same, counts_to}
use Rattle.lrpar_grammar_places.proofs.LineLemmas.{starts_among, starts_among_feed, starts_among_other, starts_positive}
use Rattle.lrpar_grammar_places.proofs.lines.NewlineCache.new.Goals as goal
use Rattle.lrpar_grammar_places.proofs.lines.NewlineCache.new.Goals.{then-byte-eq10+in_ok-push, else-byte-eq10, then-at-eq0+in_ok-push-2, else-at-eq0}

pub invariant_of-result : goal.invariant_of-result
invariant_of-result c = rw c.loop-at.invariant.starts (starts_positive c.as_bytes-byte-items.result.now c.loop-at.at)

pub loop-at-preserved : goal.loop-at-preserved
loop-at-preserved c =
    let text = c.as_bytes-byte-items.result.now in
    let chars : c.loop-at.chars + c.from-chars.result ≡ chars_before text (c.loop-at.at + 1) =
    grind (arith, c.loop-at.invariant.chars, chars_more text c.loop-at.at c.loop-at-test.true, c.begins_char.ensures, c.from-chars.ensures) in
    record {
      starts = elim c.if-byte-eq10.branch [
        | then-byte-eq10+in_ok-push w ↦ ap (λ v. v.items) w.starts-is ∙ w.in_ok-push.ensures.items
            ∙ ap (λ s. s ++ (c.loop-at.at + 1) ∷ []) c.loop-at.invariant.starts ∙ sym (starts_among_feed text c.loop-at.at w.if-byte-eq10.true)
        | else-byte-eq10 w ↦ ap (λ v. v.items) w.starts-is ∙ c.loop-at.invariant.starts ∙ sym (starts_among_other text c.loop-at.at w.if-byte-eq10.false)
      ];
      counts = elim c.if-at-eq0.branch [
        | then-at-eq0+in_ok-push-2 w ↦ ap (λ v. v.items) w.counts-is ∙ w.in_ok-push-2.ensures.items
            ∙ ap (λ s. s ++ (c.loop-at.chars + c.from-chars.result) ∷ []) c.loop-at.invariant.counts
            ∙ ap (λ n. counts_to text c.loop-at.at ++ n ∷ []) chars ∙ sym (counts_more text c.loop-at.at w.if-at-eq0.true)
        | else-at-eq0 w ↦ ap (λ v. v.items) w.counts-is ∙ c.loop-at.invariant.counts ∙ sym (counts_same text c.loop-at.at w.if-at-eq0.false)
      ];
      chars = chars;
    }

pub returns : goal.returns
returns c =
    let at : c.loop-at.at ≡ length c.as_bytes-byte-items.result.now = omega arith in
    let starts : c.loop-at.starts.items ≡ starts_among c.args.src.now 1 (length c.args.src.now) =
    c.loop-at.invariant.starts ∙ rw (at, c.as_bytes-byte-items.ensures.value) in
    let counts : c.loop-at.counts.items ≡ counts_to c.args.src.now (length c.args.src.now) =
    c.loop-at.invariant.counts ∙ rw (at, c.as_bytes-byte-items.ensures.value) in
    λ k. record { starts = starts k; counts = counts k; len = length c.args.src.now }
