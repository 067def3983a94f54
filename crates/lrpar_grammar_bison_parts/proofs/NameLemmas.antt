-- Rules for actions, one after another.
use Rattle.std.proofs.Common.{◌≡◌, ◌<◌, ◌+◌, ◌++◌, [], ◌∷◌, ℕ, zero, suc, List, map, take, get_or, length, length-take-le, refl, ap, sym, ◌∙◌, arith, add-one}
use Rattle.std.proofs.lemmas.List.{get_or-map, length-map, map-append, map_more}
use Rattle.lrpar_grammar_words.specs.declared.words.WordKind.TheVariants.{Name}
use Rattle.lrpar_grammar_words.specs.declared.words.Word.{Word as TextWord}
use Rattle.lrpar_grammar_words.specs.Words.{placed as text_placed}
use Rattle.lrpar_grammar_bison.specs.declared.words.Word.{Word}
use Rattle.lrpar_grammar_bison.specs.Words.{PlacedWord, placed}
use Rattle.lrpar_grammar_bison_parts.specs.Midrules.{midrule_name, midrule_names, midrules_from}
use Rattle.lrpar_grammar_bison_parts.proofs.MidruleLemmas.{no_word}

-- one more name, for lemmas by clauses
names_suc : (number count : ℕ) → midrule_names number (suc count) ≡ midrule_names number count ++ midrule_name (number + count) ∷ []
names_suc number zero = ap (λ n. midrule_name n ∷ []) (omega arith)
names_suc number (suc count) =
    let same : (number + 1) + count ≡ number + suc count = omega arith in
    ap (λ ns. midrule_name number ∷ ns) (names_suc (number + 1) count ∙ ap (λ n. midrule_names (number + 1) count ++ midrule_name n ∷ []) same)

-- one more name
pub names_more : (number count : ℕ) → midrule_names number (count + 1) ≡ midrule_names number count ++ midrule_name (number + count) ∷ []
names_more number count = rw add-one (names_suc number count)

-- as many names
pub names_length : (number count : ℕ) → length (midrule_names number count) ≡ count
names_length number zero = refl
names_length number (suc count) = ap suc (names_length (number + 1) count)

-- one of the names
pub name_at : (number count i : ℕ) (d : List ℕ) → i < count → get_or (midrule_names number count) i d ≡ midrule_name (number + i)
name_at number zero i d within = absurd (omega arith)
name_at number (suc count) zero d within = ap midrule_name (omega arith)
name_at number (suc count) (suc i) d within = name_at (number + 1) count i d (omega arith) ∙ ap midrule_name (omega arith)

-- one more rule
pub midrules_more : (number : ℕ) (ws : List PlacedWord) (w : PlacedWord)
    → midrules_from number (ws ++ w ∷ []) ≡ midrules_from number ws ++ record { kind = Name; name = midrule_name (number + length ws); span = w.span } ∷ []
midrules_more number [] w = ap (λ n. record { kind = Name; name = midrule_name n; span = w.span } ∷ []) (omega arith)
midrules_more number (v ∷ ws) w =
    let same : (number + 1) + length ws ≡ number + suc (length ws) = omega arith in
    ap (λ ms. record { kind = Name; name = midrule_name number; span = v.span } ∷ ms)
    (midrules_more (number + 1) ws w ∙ ap (λ n. midrules_from (number + 1) ws ++ record { kind = Name; name = midrule_name n; span = w.span } ∷ []) same)

-- the name of a rule that is stored
pub named : {X : Type 0} (f : X → List ℕ) (names : List X) (count i : ℕ) (r : X) → map f names ≡ midrule_names 1 count → i < count → r ≡ get_or names i r
    → f r ≡ midrule_name (1 + i)
named f names count i r are within is =
    let len : length names ≡ count = sym (length-map names f) ∙ ap length are ∙ names_length 1 count in
    ap f is ∙ sym (get_or-map f names i r (f r) (omega arith)) ∙ ap (λ ns. get_or ns i (f r)) are ∙ name_at 1 count i (f r) within

-- one more rule that is stored
pub rule_more : (old new : List TextWord) (w : TextWord) (actions : List Word) (i : ℕ) → i < length actions → new ≡ old ++ w ∷ []
    → text_placed w ≡ record { kind = Name; name = midrule_name (1 + i); span = (placed (get_or actions i no_word)).span }
    → map text_placed old ≡ midrules_from 1 (map placed (take i actions)) → map text_placed new ≡ midrules_from 1 (map placed (take (i + 1) actions))
rule_more old new w actions i within pushed is so_far =
    let before = map placed (take i actions) in
    let len : length before ≡ i = length-map (take i actions) placed ∙ length-take-le i actions (omega arith) in
    ap (map text_placed) pushed ∙ map-append text_placed old (w ∷ []) ∙ ap (λ ws. ws ++ text_placed w ∷ []) so_far ∙ ap (λ m. midrules_from 1 before ++ m ∷ []) is
    ∙ ap (λ n. midrules_from 1 before ++ record { kind = Name; name = midrule_name (1 + n); span = (placed (get_or actions i no_word)).span } ∷ []) (sym len)
    ∙ sym (ap (midrules_from 1) (map_more placed actions i no_word within) ∙ midrules_more 1 before (placed (get_or actions i no_word)))
