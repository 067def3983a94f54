-- Blocks and groups of places, written one after another.
use Rattle.std.proofs.Common.{◌≡◌, ◌∙◌, ◌+◌, ℕ, List, [], ◌∷◌, ◌++◌, ap, sym, lit<, append_assoc}
use Rattle.std.specs.Prelude.{encode_utf8}
use Rattle.std.proofs.lemmas.Str.{encode_ascii}
use Rattle.lrpar_grammar_places.specs.Span.{Extent}
use Rattle.lrpar_grammar_places.specs.declared.span.SpansKind.{SpansKind}
use Rattle.lrpar_diagnostics.specs.Blocks.{blocks_after, dots, label}
use Rattle.lrpar_diagnostics.specs.ConflictText.{by_line, group_label, groups_text}
use Rattle.lrpar_diagnostics.specs.Underline.{block_text, on_line_text}
use Rattle.lrpar_diagnostics.proofs.TextLemmas.{two_pieces}

-- the block of one more place
pub next_block : (src : List ℕ) (kind : SpansKind) (m number next : ℕ) (span : Extent) (others : List Extent) (out new whole : List ℕ) → m ≡ number → m + 1 ≡ next
    → new ≡ out ++ 10 ∷ block_text src (dots src span others) span (label kind number) 94 → out ++ blocks_after src kind m (span ∷ others) ≡ whole
    → new ++ blocks_after src kind next others ≡ whole
next_block src kind m number next span others out new whole is follows written all =
    let block = λ (n : ℕ). 10 ∷ block_text src (dots src span others) span (label kind n) 94 in
    ap (λ o. o ++ blocks_after src kind next others) written
    ∙ append_assoc out (block number) (blocks_after src kind next others)
    ∙ ap (λ n. out ++ (block n ++ blocks_after src kind next others)) (sym is)
    ∙ ap (λ n. out ++ (block m ++ blocks_after src kind n others)) (sym follows) ∙ all

-- the line of one more group
pub next_group : (src : List ℕ) (rest group others : List Extent) (out first second said whole : List ℕ) → by_line src rest ≡ group ∷ by_line src others
    → said ≡ group_label (by_line src others) → first ≡ out ++ on_line_text src group said 45 → second ≡ first ++ encode_utf8 10
    → out ++ groups_text src (by_line src rest) ≡ whole → second ++ groups_text src (by_line src others) ≡ whole
next_group src rest group others out first second said whole parted is e₁ e₂ all =
    let after = groups_text src (by_line src others) in
    two_pieces out first second (on_line_text src group said 45) (10 ∷ []) after whole e₁ (e₂ ∙ ap (λ c. first ++ c) (encode_ascii 10 (lit< tt)))
    (ap (λ l. out ++ (on_line_text src group l 45 ++ 10 ∷ [] ++ after)) is ∙ sym (ap (λ groups. out ++ groups_text src groups) parted) ∙ all)
