use Rattle.std.proofs.Common.{◌≡◌, [], ◌∷◌, ◌++◌, sym, ap, ◌∙◌, append-nil}
use Rattle.std.specs.List.{flat_map, join_by}
use Rattle.std.specs.String.{string_bytes}
use Rattle.lrpar_diagnostics.specs.Underline.{marked_line, printed_after, printed_lines}
use Rattle.lrpar_diagnostics.proofs.TextLemmas.{closed}
use Rattle.lrpar_diagnostics.proofs.source.Source.push_block.Goals as goal

pub returns : goal.returns
returns c =
    let src = c.args.self.now.lines in
    let marked = marked_line src c.args.prefix.now c.args.span c.args.underline_c in
    let none : printed_after src c.loop-next.start c.args.span.end ≡ [] = rw (sym c.end.ensures.end) c.in_default.ensures.next in
    closed c.push_str.result (string_bytes c.args.out.now) (string_bytes c.loop-next.out) (string_bytes c.push-2.new.self) (string_bytes c.push_str.new.self)
    (join_by marked (10 ∷ []) (printed_lines src c.args.span)) c.args.message.now
    (sym (append-nil (string_bytes c.loop-next.out))
    ∙ ap (λ lines. string_bytes c.loop-next.out ++ flat_map (λ b. 10 ∷ marked b) lines) (sym none) ∙ c.loop-next.invariant.whole)
    c.in_ok-push-2.ensures.bytes c.push_str.ensures.bytes
