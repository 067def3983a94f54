-- The places of a grammar fit the text that it was read from.
use Rattle.std.proofs.Common.{◌≡◌, ◌<◌, ◌≤◌, ◌+◌, ◌-◌, ℕ, List, [], ◌∷◌, ◌++◌, length, length-take, map, fold, drop, get_or, Option, Some, None, sym, subst, arith}
use Rattle.std.specs.List.{All, filter, slice_get}
use Rattle.std.specs.Str.{IsUtf8}
use Rattle.std.proofs.lemmas.Bool.{cond_both}
use Rattle.std.proofs.lemmas.List.{get_or-map, length-map}
use Rattle.std.proofs.lemmas.List.Elements.{All-append, All-cons, All-filter, All-head, All-map, All-nil, All-push, All-tail, All-weaker}
use Rattle.std.proofs.lemmas.Option.{get_or_from_slice_get, slice_get_within}
use Rattle.std.proofs.lemmas.Str.{IsCharBoundary-start}
use Rattle.lrpar_grammar_places.specs.Span.{Extent, nowhere, IsPartOf}
use Rattle.lrpar_grammar_words.specs.declared.words.WordKind.TheVariants.{Name}
use Rattle.lrpar_grammar_words.specs.Words.{PlacedWord}
use Rattle.lrpar_grammar_words.specs.Outline.{AreWordsInOrder, HasOrderedSymbols, IsOutlineOf, TextAlternative, TextOutline}
use Rattle.lrpar_grammar_words.proofs.PlaceLemmas.{AllOfAlternative, AllOfOutline, LiesInLine, outline_in_line}
use Rattle.lrpar_grammar_reader.specs.Grammar.{added_prod, added_rule}
use Rattle.lrpar_grammar_reader.specs.Names.{first_of_each, is_among, with_name}
use Rattle.lrpar_grammar_reader.specs.Parts.{grammar_of}
use Rattle.lrpar_grammar_reader.specs.Spells.{Numbering, declared_words, is_token, numbering_of, prod_of_alternative, rule_of_word, rule_words, span_between, spelled_parts, symbol_of_word, token_of_word, token_words, used_tokens}
use Rattle.lrpar_grammar_reader.specs.SpansFit as fits
use Rattle.lrpar_grammar_reader.specs.SpansFit.{IsPartOfLine, ProductionFits, SpansFit}

-- what holds of all words holds of those that are kept
fold_all : (P : PlacedWord → Type 0) (ws known : List PlacedWord) → All P known → All P ws → All P (fold with_name known ws)
fold_all P [] known holds more = holds
fold_all P (w ∷ ws) known holds more =
    fold_all P ws (with_name known w)
    (cond_both (is_among w.name known) known (known ++ w ∷ []) (All P) (λ _. holds) (λ _. All-push P known w holds (All-head P w ws more)))
    (All-tail P w ws more)

-- and so of the first word of each name
first_all : (P : PlacedWord → Type 0) (ws : List PlacedWord) → All P ws → All P (first_of_each ws)
unfolding first_of_each
first_all P ws holds = fold_all P ws [] (All-nil P) holds

-- and of the tokens that alternatives use
used_all : (P : PlacedWord → Type 0) (declared : List PlacedWord) (xs : List TextAlternative) → All (AllOfAlternative P) xs → All P (used_tokens declared xs)
used_all P declared [] holds = All-nil P
used_all P declared (x ∷ xs) holds =
    All-append P (filter (is_token declared) x.symbols) (used_tokens declared xs)
    (All-filter (is_token declared) P x.symbols (All-head (AllOfAlternative P) x xs holds).symbols)
    (used_all P declared xs (All-tail (AllOfAlternative P) x xs holds))

-- a part of one line, by the other record
in_line : (src : List ℕ) (span : Extent) → LiesInLine src span → IsPartOfLine src span
in_line src span lies = record { part = record { start = lies.start; end = lies.end }; line = lies.line }

-- the empty part at the start of a word
nothing_fits : (src : List ℕ) (span : Extent) → LiesInLine src span → IsPartOfLine src (record { start = span.start; end = span.start })
nothing_fits src span lies = record {
  part = record { start = lies.start; end = lies.start };
  line = λ k d within. absurd (omega (arith, length-take (span.start - span.start) (drop span.start src)));
}

-- the empty part at the start of every text
nowhere_fits : (src : List ℕ) → IsUtf8 src → IsPartOfLine src nowhere
nowhere_fits src utf8 = record {
  part = record { start = IsCharBoundary-start src utf8; end = IsCharBoundary-start src utf8 };
  line = λ k d within. absurd (omega (arith, length-take 0 (drop 0 src)));
}

-- what holds of all words holds of the one at a place
at_place : (P : PlacedWord → Type 0) (ws : List PlacedWord) (k : ℕ) (w : PlacedWord) → All P ws → slice_get ws k ≡ Some w → P w
at_place P ws k w all is = subst P (get_or_from_slice_get ws k w w is) (all k w (slice_get_within ws k w is))

-- the part from the start of a word to the end of another
between_fits : (src : List ℕ) (first last : Option PlacedWord) (nothing : Extent) → ((w : PlacedWord) → first ≡ Some w → LiesInLine src w.span)
    → ((w : PlacedWord) → last ≡ Some w → LiesInLine src w.span) → IsPartOf src nothing → IsPartOf src (span_between first last nothing)
between_fits src (Some a) (Some b) nothing first last fit = let x = first a (λ _. Some a) in let y = last b (λ _. Some b) in record { start = x.start; end = y.end }
between_fits src (Some a) None nothing first last fit = fit
between_fits src None last' nothing first last fit = fit

-- the same, without symbols
empty_fits : (n : Numbering) (src : List ℕ) (ws : List PlacedWord) (nothing : Extent) → IsPartOfLine src nothing → map (symbol_of_word n) ws ≡ []
    → IsPartOfLine src (span_between (slice_get ws 0) (slice_get ws (length ws - 1)) nothing)
empty_fits n src [] nothing fit none = fit
empty_fits n src (w ∷ ws) nothing fit none = absurd (cc)

-- the places of words in order are in order
order_fits : (ws : List PlacedWord) → AreWordsInOrder ws → fits.AreSpansInOrder (map (λ w. w.span) ws)
order_fits ws order = λ k d within.
    let w : PlacedWord = record { kind = Name; name = []; span = d } in
    let within' : k + 1 < length ws = omega (arith, length-map ws (λ (x : PlacedWord). x.span)) in
    let here = get_or-map (λ (x : PlacedWord). x.span) ws k w d (omega arith) in
    let next = get_or-map (λ (x : PlacedWord). x.span) ws (k + 1) w d within' in
    subst (λ (x : Extent). (get_or (map (λ v. v.span) ws) k d).end ≤ x.start) (sym next)
    (subst (λ (x : Extent). x.end ≤ (get_or ws (k + 1) w).span.start) (sym here) (order k (k + 1) w (omega arith) within'))

-- the places of an alternative fit
alternative_fits : (n : Numbering) (src : List ℕ) (x : TextAlternative) → AllOfAlternative (λ w. LiesInLine src w.span) x → AreWordsInOrder x.symbols
    → ProductionFits src (prod_of_alternative n x)
alternative_fits n src x lies order =
    let P : PlacedWord → Type 0 = λ w. LiesInLine src w.span in
    let nothing = nothing_fits src x.end.span lies.end in
    record {
      span = between_fits src (slice_get x.symbols 0) (slice_get x.symbols (length x.symbols - 1)) (record { start = x.end.span.start; end = x.end.span.start })
          (λ w is. at_place P x.symbols 0 w lies.symbols is) (λ w is. at_place P x.symbols (length x.symbols - 1) w lies.symbols is) nothing.part;
      empty = empty_fits n src x.symbols (record { start = x.end.span.start; end = x.end.span.start }) nothing;
      symbols = All-map (IsPartOfLine src) (λ (w : PlacedWord). w.span) x.symbols
          (All-weaker P (λ (w : PlacedWord). IsPartOfLine src w.span) (λ w h. in_line src w.span h) x.symbols lies.symbols);
      order = order_fits x.symbols order;
    }

-- the places of the added production fit
added_fits : (src : List ℕ) (start : ℕ) → IsUtf8 src → ProductionFits src (added_prod start)
added_fits src start utf8 =
    let none = nowhere_fits src utf8 in
    record {
      span = none.part;
      empty = λ is. absurd (cc);
      symbols = All-cons (IsPartOfLine src) nowhere [] none (All-nil (IsPartOfLine src));
      order = λ k d within. absurd (omega arith);
    }

-- the places of the grammar of a text fit the text
pub outline_fits : (text : List ℕ) (o : TextOutline) → IsUtf8 text → IsOutlineOf text o → HasOrderedSymbols o → SpansFit (grammar_of (spelled_parts o)) text
outline_fits text o utf8 outlined order =
    let P : PlacedWord → Type 0 = λ w. LiesInLine text w.span in
    let all : AllOfOutline P o = outline_in_line text o utf8 outlined in
    let part : (w : PlacedWord) → P w → IsPartOf text w.span = λ w h. record { start = h.start; end = h.end } in
    let n = numbering_of o in
    let tokens : All P (token_words o) = first_all P (o.declared ++ used_tokens (declared_words o) o.alternatives)
    (All-append P o.declared (used_tokens (declared_words o) o.alternatives) all.declared (used_all P (declared_words o) o.alternatives all.alternatives)) in
    record {
      names = record {
        rules = All-cons (λ r. IsPartOf text r.span) added_rule (map rule_of_word (rule_words o)) (nowhere_fits text utf8).part
            (All-map (λ r. IsPartOf text r.span) rule_of_word (rule_words o)
            (All-weaker P (λ (w : PlacedWord). IsPartOf text w.span) part (rule_words o) (first_all P o.defined all.defined)));
        tokens = All-map (λ t. IsPartOf text t.span) (token_of_word o) (token_words o)
            (All-weaker P (λ (w : PlacedWord). IsPartOf text w.span) part (token_words o) tokens);
      };
      prods = All-push (ProductionFits text) (map (prod_of_alternative n) o.alternatives) (added_prod (spelled_parts o).start)
          (All-map (ProductionFits text) (prod_of_alternative n) o.alternatives
          (λ k d within. alternative_fits n text (get_or o.alternatives k d) (all.alternatives k d within) (order k d within)))
          (added_fits text (spelled_parts o).start utf8);
    }
