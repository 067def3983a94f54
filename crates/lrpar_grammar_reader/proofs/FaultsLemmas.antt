-- Words that have a fault, and lists in which no word has one.
use Rattle.std.proofs.Common.{◌≡◌, ◌<◌, ◌≤◌, ◌+◌, ℕ, zero, suc, Bool, true, false, cond, not, Bor, List, [], ◌∷◌, ◌++◌, length, length-take, map, take, get_or, Option, Some, None, option_map, nat_cmp, inl, inr, refl, ap, sym, subst, ◌∙◌, arith}
use Rattle.std.specs.BTreeMap.{BTreeMap, get_by}
use Rattle.std.specs.Cmp.Lexicographic.{slice_cmp}
use Rattle.std.specs.List.{All, find, flat_map, slice_get}
use Rattle.std.specs.Option.{IsNone, is_some, option_or}
use Rattle.std.proofs.lemmas.Bool.{cases_lt}
use Rattle.std.proofs.lemmas.List.{get_or-map, get_or-take, length-map, take-take, take_all}
use Rattle.std.proofs.lemmas.List.Elements.{All-cons, All-head, All-nil, All-tail, All-weaker}
use Rattle.std.proofs.lemmas.List.Folds.{find-append}
use Rattle.std.proofs.lemmas.Option.{get_or_from_slice_get, slice_get-get_or, slice_get_within}
use Rattle.lrpar_grammar_places.specs.Span.{Extent}
use Rattle.lrpar_grammar_words.specs.declared.words.Word.{Word}
use Rattle.lrpar_grammar_words.specs.Words.{PlacedWord, placed}
use Rattle.lrpar_grammar_words.specs.Outline.{TextAlternative, TextOutline}
use Rattle.lrpar_grammar_reader.specs.Names.{AreNumbers, is_among, with_name}
use Rattle.lrpar_grammar_reader.specs.Spells.{AreDistinct, IsRepeatedAt, Numbering, LiesAt, is_known, token_rule, unknown_rule}
use Rattle.lrpar_grammar_reader.proofs.GrowthLemmas.{take_map_more}
use Rattle.lrpar_grammar_reader.proofs.SpanLemmas.{placed_at}

-- if none passes, none is found
pub none_found : {X : Type 0} (p : X → Bool) (xs : List X) → All (λ x. p x ≡ false) xs → IsNone (find p xs)
none_found p [] none = refl
none_found p (x ∷ xs) none =
    ap (λ b. is_some (cond b (Some x) (find p xs))) (All-head (λ y. p y ≡ false) x xs none) ∙ none_found p xs (All-tail (λ y. p y ≡ false) x xs none)

-- the places of the words that are found
placed_if : (b : Bool) (w : Word) (rest : Option Word) (others : Option PlacedWord) → option_map placed rest ≡ others
    → option_map placed (cond b (Some w) rest) ≡ cond b (Some (placed w)) others
placed_if true w rest others same = refl
placed_if false w rest others same = same

find_placed : (p : PlacedWord → Bool) (words : List Word) → option_map placed (find (λ w. p (placed w)) words) ≡ find p (map placed words)
find_placed p [] = refl
find_placed p (w ∷ ws) = placed_if (p (placed w)) w (find (λ v. p (placed v)) ws) (find p (map placed ws)) (find_placed p ws)

-- the word that is found lies at its place
pub lies_at : (p : PlacedWord → Bool) (words : List Word) (found : Option (Bor Word)) (word : Bor Word) (span : Extent)
    → option_map (λ w. w.now) found ≡ find (λ w. p (placed w)) words → found ≡ Some word → span ≡ (placed word.now).span → LiesAt (find p (map placed words)) span
lies_at p words found word span is some at =
    let word_found : find (λ w. p (placed w)) words ≡ Some word.now = sym is ∙ ap (option_map (λ w. w.now)) some in
    ap (option_map (λ w. w.span)) (sym (find_placed p words) ∙ ap (option_map placed) word_found) ∙ ap Some (sym at)

-- if none is found, none passes
fails_if : {X : Type 0} (p : X → Bool) (x : X) (xs : List X) (b : Bool) → p x ≡ b → cond b (Some x) (find p xs) ≡ None
    → (find p xs ≡ None → All (λ y. p y ≡ false) xs) → All (λ y. p y ≡ false) (x ∷ xs)
fails_if p x xs true is none more = absurd (cc)
fails_if p x xs false is none more = All-cons (λ y. p y ≡ false) x xs is (more none)

none_passes : {X : Type 0} (p : X → Bool) (xs : List X) → find p xs ≡ None → All (λ x. p x ≡ false) xs
none_passes p [] none = All-nil (λ x. p x ≡ false)
none_passes p (x ∷ xs) none = fails_if p x xs (p x) refl none (none_passes p xs)

pub none_lies : (p : PlacedWord → Bool) (words : List Word) (found : Option (Bor Word)) → option_map (λ w. w.now) found ≡ find (λ w. p (placed w)) words → found ≡ None
    → All (λ w. p w ≡ false) (map placed words)
none_lies p words found is none =
    none_passes p (map placed words)
    (sym (find_placed p words) ∙ ap (option_map placed) (sym is ∙ ap (option_map (λ w. w.now)) none))

-- if none fails, each passes
not_false : (b : Bool) → not b ≡ false → b ≡ true
not_false true is = refl
not_false false is = absurd (cc)

pub all_pass : {X : Type 0} (p : X → Bool) (xs : List X) → All (λ x. not (p x) ≡ false) xs → All (λ x. p x ≡ true) xs
all_pass p xs none = All-weaker (λ x. not (p x) ≡ false) (λ x. p x ≡ true) (λ x. not_false (p x)) xs none

-- the first of two lies there, or the second, if there is no first
pub lies_at_first : (a b : Option PlacedWord) (span : Extent) → LiesAt a span → LiesAt (option_or a b) span
lies_at_first None b span at = absurd (cc)
lies_at_first (Some w) b span at = at

pub lies_at_second : (a b : Option PlacedWord) (span : Extent) → IsNone a → LiesAt b span → LiesAt (option_or a b) span
lies_at_second None b span none at = at
lies_at_second (Some w) b span none at = absurd (cc)

-- there is neither of two
pub neither : (a b : Option PlacedWord) → IsNone a → IsNone b → IsNone (option_or a b)
neither None b none other = other
neither (Some w) b none other = absurd (cc)

-- the first word that passes, among those that the elements give
pub lies_at_in : {X : Type 0} (p : PlacedWord → Bool) (f : X → List PlacedWord) (xs : List X) (i : ℕ) (d : X) (span : Extent) → i < length xs
    → All (λ x. All (λ w. p w ≡ false) (f x)) (take i xs) → LiesAt (find p (f (get_or xs i d))) span → LiesAt (find p (flat_map f xs)) span
lies_at_in p f [] i d span within none at = absurd (omega arith)
lies_at_in p f (x ∷ xs) zero d span within none at =
    subst (λ r. LiesAt r span) (sym (find-append p (f x) (flat_map f xs))) (lies_at_first (find p (f x)) (find p (flat_map f xs)) span at)
lies_at_in p f (x ∷ xs) (suc i) d span within none at =
    let before = none_found p (f x) (All-head (λ y. All (λ w. p w ≡ false) (f y)) x (take i xs) none) in
    let rest = lies_at_in p f xs i d span (omega arith) (All-tail (λ y. All (λ w. p w ≡ false) (f y)) x (take i xs) none) at in
    subst (λ r. LiesAt r span) (sym (find-append p (f x) (flat_map f xs))) (lies_at_second (find p (f x)) (find p (flat_map f xs)) span before rest)

-- none of the words that the elements give is found
pub none_in : {X : Type 0} (p : PlacedWord → Bool) (f : X → List PlacedWord) (xs : List X) → All (λ x. All (λ w. p w ≡ false) (f x)) xs → IsNone (find p (flat_map f xs))
none_in p f [] none = refl
none_in p f (x ∷ xs) none =
    subst IsNone (sym (find-append p (f x) (flat_map f xs)))
    (neither (find p (f x)) (find p (flat_map f xs)) (none_found p (f x) (All-head (λ y. All (λ w. p w ≡ false) (f y)) x xs none))
    (none_in p f xs (All-tail (λ y. All (λ w. p w ≡ false) (f y)) x xs none)))

-- words that pass a test fail its opposite
pub none_fails : {X : Type 0} (p : X → Bool) (xs : List X) → All (λ x. p x ≡ true) xs → All (λ x. not (p x) ≡ false) xs
none_fails p xs all = All-weaker (λ x. p x ≡ true) (λ x. not (p x) ≡ false) (λ x is. ap not is) xs all

-- the same for words that the elements give
pub none_fails_in : {X Y : Type 0} (p : Y → Bool) (f : X → List Y) (xs : List X) → All (λ x. All (λ y. p y ≡ true) (f x)) xs → All (λ x. All (λ y. not (p y) ≡ false) (f x)) xs
none_fails_in p f xs all = All-weaker (λ x. All (λ y. p y ≡ true) (f x)) (λ x. All (λ y. not (p y) ≡ false) (f x)) (λ x. none_fails p (f x)) xs all

-- no rule has the name of a declared token
pub no_token_rule : (n : Numbering) (rules : List PlacedWord) → rules ≡ n.rules → All (λ w. is_among w.name n.declared ≡ false) rules → IsNone (token_rule n)
no_token_rule n rules same none =
    none_found (λ w. is_among w.name n.declared) n.rules (subst (All (λ w. is_among w.name n.declared ≡ false)) same none)

-- the first name after `%start` that is no rule
pub start_unknown : (n : Numbering) (o : TextOutline) (starts : List PlacedWord) (span : Extent) → starts ≡ o.starts
    → LiesAt (find (λ w. not (is_among w.name n.rules)) starts) span → LiesAt (unknown_rule n o) span
start_unknown n o starts span same at =
    lies_at_first (find (λ w. not (is_among w.name n.rules)) o.starts) (find (λ w. not (is_known n w)) (flat_map (λ x. x.symbols) o.alternatives)) span
    (subst (λ ws. LiesAt (find (λ w. not (is_among w.name n.rules)) ws) span) same at)

-- each name after `%start` is the name of a rule
starts_known : (n : Numbering) (o : TextOutline) (starts : List PlacedWord) → starts ≡ o.starts → All (λ w. is_among w.name n.rules ≡ true) starts
    → IsNone (find (λ w. not (is_among w.name n.rules)) o.starts)
starts_known n o starts same known =
    none_found (λ w. not (is_among w.name n.rules)) o.starts
    (subst (All (λ w. not (is_among w.name n.rules) ≡ false)) same (none_fails (λ (w : PlacedWord). is_among w.name n.rules) starts known))

-- the first symbol that is neither a token nor a rule, if the names after `%start` are known
pub symbol_unknown : (n : Numbering) (o : TextOutline) (starts : List PlacedWord) (alternatives : List TextAlternative) (span : Extent) → starts ≡ o.starts → alternatives ≡ o.alternatives
    → All (λ w. is_among w.name n.rules ≡ true) starts → LiesAt (find (λ w. not (is_known n w)) (flat_map (λ x. x.symbols) alternatives)) span → LiesAt (unknown_rule n o) span
symbol_unknown n o starts alternatives span same alike known at =
    lies_at_second (find (λ w. not (is_among w.name n.rules)) o.starts) (find (λ w. not (is_known n w)) (flat_map (λ x. x.symbols) o.alternatives)) span
    (starts_known n o starts same known)
    (subst (λ (xs : List TextAlternative). LiesAt (find (λ w. not (is_known n w)) (flat_map (λ x. x.symbols) xs)) span) alike at)

-- no such name and no such symbol
pub no_unknown_rule : (n : Numbering) (o : TextOutline) (starts : List PlacedWord) (alternatives : List TextAlternative) → starts ≡ o.starts → alternatives ≡ o.alternatives
    → All (λ w. is_among w.name n.rules ≡ true) starts → All (λ x. All (λ w. is_known n w ≡ true) x.symbols) alternatives → IsNone (unknown_rule n o)
no_unknown_rule n o starts alternatives same alike starts_are symbols_are =
    neither (find (λ w. not (is_among w.name n.rules)) o.starts) (find (λ w. not (is_known n w)) (flat_map (λ x. x.symbols) o.alternatives))
    (starts_known n o starts same starts_are)
    (none_in (λ w. not (is_known n w)) (λ (x : TextAlternative). x.symbols) o.alternatives
    (none_fails_in (is_known n) (λ (x : TextAlternative). x.symbols) o.alternatives
    (subst (All (λ (x : TextAlternative). All (λ w. is_known n w ≡ true) x.symbols)) alike symbols_are)))

-- what holds of the first elements holds of all, if there are no others
pub all_of : {X Y : Type 0} (P : Y → Type 0) (f : X → Y) (xs : List X) (i : ℕ) → length xs ≤ i → All P (take i (map f xs)) → All P (map f xs)
all_of P f xs i past so_far = subst (All P) (take_all i (map f xs) (omega (arith, length-map xs f))) so_far

-- one more word whose name no earlier one has
pub unrepeated_more : (words items : List Word) (i : ℕ) (w : Word) → items ≡ words → i < length items → is_among (get_or items i w).name.now (take i (map placed words)) ≡ false
    → ((k : ℕ) (d : PlacedWord) → k < i → is_among (get_or (map placed words) k d).name (take k (map placed words)) ≡ false)
    → (k : ℕ) (d : PlacedWord) → k < i + 1 → is_among (get_or (map placed words) k d).name (take k (map placed words)) ≡ false
unrepeated_more words items i w same within new before k d below =
    let ws = map placed words in
    let within' : i < length words = omega (arith, ap length same) in
    let new' : is_among (get_or words i w).name.now (take i ws) ≡ false = subst (λ s. is_among (get_or s i w).name.now (take i ws) ≡ false) same new in
    elim (cases_lt k i) [
      | inl earlier ↦ before k d earlier
      | inr last ↦
          let here : i ≡ k = omega arith in
          let at : get_or ws i d ≡ placed (get_or words i w) = get_or-map placed words i w d within' in
          subst (λ j. is_among (get_or ws j d).name (take j ws) ≡ false) here (subst (λ y. is_among y.name (take i ws) ≡ false) (sym at) new')
    ]

-- whether a name is known, by the map of its numbers
pub known_is : (numbers : BTreeMap (Bor (List ℕ)) ℕ) (words front : List PlacedWord) (q : List ℕ) (found b : Bool) → AreNumbers numbers words → words ≡ front
    → found ≡ is_some (get_by (λ k. slice_cmp nat_cmp q k.now) numbers) → found ≡ b → is_among q front ≡ b
known_is numbers words front q found b all same asked is = sym (ap is_some (all q) ∙ ap (is_among q) same) ∙ sym asked ∙ is

-- the words so far are distinct, if none has the name of an earlier one
distinct_front : (words : List PlacedWord) (i : ℕ) → i < length words → ((k : ℕ) (d : PlacedWord) → k < i → is_among (get_or words k d).name (take k words) ≡ false)
    → AreDistinct (take i words)
distinct_front words i within before k d below =
    let below' : k < i = omega (arith, length-take i words) in
    subst (λ s. is_among (get_or (take i words) k d).name s ≡ false) (sym (take-take k i words (omega arith)))
    (subst (λ w. is_among w.name (take k words) ≡ false) (sym (get_or-take i words k d below')) (before k d below'))

-- the first word with the name of an earlier one
pub repeated_at : (words items : List Word) (i : ℕ) (d : Word) (span : Extent) → items ≡ words → i < length items
    → is_among (get_or items i d).name.now (take i (map placed words)) ≡ true → span ≡ (placed (get_or items i d)).span
    → ((k : ℕ) (e : PlacedWord) → k < i → is_among (get_or (map placed words) k e).name (take k (map placed words)) ≡ false) → IsRepeatedAt (map placed words) span
repeated_at words items i d span same within again at before = record {
  word = placed (get_or items i d);
  place = i;
  found = placed_at words items i i (get_or items i d) same refl (sym (slice_get-get_or items i d within));
  again = again;
  first = distinct_front (map placed words) i (omega (arith, ap length same, length-map words placed)) before;
  at = sym at;
}

-- a new word is appended
pub new_more : (words items before after : List Word) (i : ℕ) (d : Word) → items ≡ words → i < length items → map placed before ≡ take i (map placed words)
    → is_among (get_or items i d).name.now (take i (map placed words)) ≡ false → map placed after ≡ with_name (map placed before) (placed (get_or items i d))
    → map placed after ≡ take (i + 1) (map placed words)
new_more words items before after i d same within so_far new is =
    let front = take i (map placed words) in
    let w = placed (get_or items i d) in
    let within' : i < length words = omega (arith, ap length same) in
    is ∙ ap (λ ws. with_name ws w) so_far ∙ ap (λ b. cond b front (front ++ w ∷ [])) new
    ∙ ap (λ s. front ++ placed (get_or s i d) ∷ []) same ∙ sym (take_map_more placed words i d within')

-- a start rule that is defined
pub known_start : (starts items : List Word) (rules : List PlacedWord) (w : Word) → items ≡ starts → ◌≡◌ {A = Option Word} (Some w) (slice_get items 0)
    → All (λ (x : PlacedWord). is_among x.name rules ≡ true) (map placed starts) → is_among w.name.now rules ≡ true
known_start starts items rules w same is all =
    let at = placed_at starts items 0 0 w same refl is in
    subst (λ (x : PlacedWord). is_among x.name rules ≡ true) (get_or_from_slice_get (map placed starts) 0 (placed w) (placed w) at)
    (all 0 (placed w) (slice_get_within (map placed starts) 0 (placed w) at))
