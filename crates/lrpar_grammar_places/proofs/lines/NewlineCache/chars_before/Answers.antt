use Rattle.std.proofs.Common.{◌≡◌, ◌+◌, ◌*◌, ◌/◌, length, get_or, ap, ◌∙◌, arith}
use Rattle.std.specs.List.{count_by, slice_range}
use Rattle.lrpar_grammar_places.specs.Lines.{begins_char, char_counts, chars_before}
use Rattle.lrpar_grammar_places.proofs.ColumnLemmas.{chars_bound, chars_parted, count_found, counts_reach}
use Rattle.lrpar_grammar_places.proofs.lines.NewlineCache.chars_before.Goals as goal

pub index-requires : goal.index-requires
index-requires c =
    let counts : c.self.inside.counts.items ≡ char_counts c.args.src.now = ap (λ v. v.counts) (c.self.view_is ∙ c.requires.table) in
    omega (arith, ap length counts, counts_reach c.args.src.now c.args.byte c.requires.within)

-- the count of whole steps, and the characters after them
whole : (c : goal.After-chars_begun) → c.index.result.now + c.chars_begun.result ≡ chars_before c.args.src.now c.args.byte
whole c =
    let text = c.args.src.now in
    let byte = c.args.byte in
    let counts : c.self.inside.counts.items ≡ char_counts text = ap (λ v. v.counts) (c.self.view_is ∙ c.requires.table) in
    let found : c.index.result.now ≡ chars_before text (byte / 128 * 128) =
    c.index.ensures ∙ ap (λ s. get_or s (byte / 128) c.index.result.now) counts ∙ count_found text byte c.index.result.now c.requires.within in
    let after : c.chars_begun.result ≡ count_by begins_char (slice_range text (byte / 128 * 128) byte) =
    c.chars_begun.ensures ∙ ap (λ l. count_by begins_char (slice_range l (byte / 128 * 128) byte)) c.as_bytes.ensures.value in
    omega (arith, found, after, chars_parted text (byte / 128 * 128) byte (omega arith))

pub overflow_add-result : goal.overflow_add-result
overflow_add-result c = omega (arith, whole c, chars_bound c.args.src.now c.args.byte, c.ranges.byte.fits)

pub returns : goal.returns
returns c = whole c
