-- The alternatives of an outline, one after another; each is of a defined rule, and has its symbols in the order of the text.
use Rattle.std.proofs.Common.{◌≡◌, ◌<◌, ◌≤◌, ◌+◌, ◌-◌, ◌++◌, [], ◌∷◌, ℕ, suc, List, Bool, true, false, map, take, drop, get_or, length, append_assoc, Option, Some, None, refl, ap, sym, subst, ◌∙◌, arith}
use Rattle.std.specs.List.{All, AllPairs, Contains, slice_range}
use Rattle.std.specs.Option.{option_to_list}
use Rattle.std.proofs.lemmas.List.{drop-drop, drop-map, drop_at, drop_more, get_or-map, get_or_default, length-map, map-append, map_more, take-map, take_at}
use Rattle.std.proofs.lemmas.List.Elements.{All-append, All-cons, All-drop, All-head, All-map, All-nil, All-tail, All-take, All-weaker, Contains-append_left, Contains-append_right}
use Rattle.std.proofs.lemmas.List.Kept.{AllPairs-cons}
use Rattle.lrpar_grammar_places.specs.Span.{Extent}
use Rattle.lrpar_grammar_words.specs.declared.outline.Alternative.{Alternative as TextRule}
use Rattle.lrpar_grammar_words.specs.declared.words.Word.{Word as TextWord}
use Rattle.lrpar_grammar_words.specs.declared.words.WordKind.TheVariants.{Name}
use Rattle.lrpar_grammar_words.specs.Outline.{AreOfDefinedRules as HasDefinedRules, AreWordsInOrder, HasOrderedSymbols, TextAlternative, alternative_of as text_alternative_of}
use Rattle.lrpar_grammar_words.specs.Words.{PlacedWord as PlacedTextWord, placed as text_placed}
use Rattle.lrpar_grammar_bison.specs.Words.{PlacedWord, placed}
use Rattle.lrpar_grammar_bison_rules.specs.declared.rules.Alternative.{Alternative}
use Rattle.lrpar_grammar_bison_rules.specs.declared.rules.RankedWord.{RankedWord}
use Rattle.lrpar_grammar_bison_rules.specs.declared.word_order.ItemKind.{ItemKind}
use Rattle.lrpar_grammar_bison_rules.specs.declared.word_order.ItemKind.TheVariants.{Symbol, Action, Prec, Empty}
use Rattle.lrpar_grammar_bison_rules.specs.Aliases.{FileAlias}
use Rattle.lrpar_grammar_bison_rules.specs.Rules.{AreOfDefinedRules, HaveOrderedItems, FileAlternative, FileItem, FileRank, Rules, alternative_of, rank_of}
use Rattle.lrpar_grammar_bison_parts.specs.Midrules.{action_at, actions_in, actions_of, ends_action, filled, midrule_name, midrules_from, symbol_at, symbols_after, symbols_in}
use Rattle.lrpar_grammar_bison_parts.specs.Outline.{file_outline, midrule_alternative, midrules_of, text_alternative, text_alternatives}
use Rattle.lrpar_grammar_bison_parts.specs.Symbols.{symbol_word, text_word}
use Rattle.lrpar_grammar_bison_parts.proofs.MidruleLemmas.{action_words, filled_first, symbols_end, symbols_skip}

-- one more word with a precedence
pub ranked_more : (aliases : List FileAlias) (old new : List TextWord) (base : List PlacedTextWord) (w : TextWord) (xs : List RankedWord) (i : ℕ) (d : RankedWord) → i < length xs
    → new ≡ old ++ w ∷ [] → text_placed w ≡ symbol_word aliases (placed (get_or xs i d).word)
    → map text_placed old ≡ base ++ map (symbol_word aliases) (map (λ (x : FileRank). x.word) (map rank_of (take i xs)))
    → map text_placed new ≡ base ++ map (symbol_word aliases) (map (λ (x : FileRank). x.word) (map rank_of (take (i + 1) xs)))
ranked_more aliases old new base w xs i d within pushed is so_far =
    let word : FileRank → PlacedWord = λ x. x.word in
    let before = map word (map rank_of (take i xs)) in
    let x = get_or xs i d in
    let all : map (symbol_word aliases) (map word (map rank_of (take (i + 1) xs))) ≡ map (symbol_word aliases) before ++ symbol_word aliases (placed x.word) ∷ [] =
    ap (λ rs. map (symbol_word aliases) (map word rs)) (map_more rank_of xs i d within)
    ∙ ap (map (symbol_word aliases)) (map-append word (map rank_of (take i xs)) (rank_of x ∷ []))
    ∙ map-append (symbol_word aliases) before (placed x.word ∷ []) in
    ap (map text_placed) pushed ∙ map-append text_placed old (w ∷ []) ∙ ap (λ ws. ws ++ text_placed w ∷ []) so_far
    ∙ ap (λ v. (base ++ map (symbol_word aliases) before) ++ v ∷ []) is
    ∙ append_assoc base (map (symbol_word aliases) before) (symbol_word aliases (placed x.word) ∷ []) ∙ ap (λ ws. base ++ ws) (sym all)

-- one more alternative, and the rules for its actions
pub alternative_more : (aliases : List FileAlias) (midrules : List TextWord) (old mid new : List TextRule) (x : FileAlternative) (t : TextRule) (done count : ℕ)
    (rest : List FileAlternative) (all : List TextAlternative) → count ≡ length (actions_in x.items)
    → map text_alternative_of mid ≡ map text_alternative_of old ++ map midrule_alternative (map text_placed (slice_range midrules done (done + count)))
    → new ≡ mid ++ t ∷ [] → text_alternative_of t ≡ text_alternative aliases (map text_placed (slice_range midrules done (done + count))) x
    → map text_alternative_of old ++ text_alternatives aliases (map text_placed (drop done midrules)) (x ∷ rest) ≡ all
    → map text_alternative_of new ++ text_alternatives aliases (map text_placed (drop (done + count) midrules)) rest ≡ all
alternative_more aliases midrules old mid new x t done count rest all counted begun pushed is so_far =
    let ms = map text_placed (drop done midrules) in
    let here : map text_placed (slice_range midrules done (done + count)) ≡ take (length (actions_in x.items)) ms =
    ap (λ n. map text_placed (take n (drop done midrules))) (let same : (done + count) - done ≡ count = omega arith in same ∙ counted)
    ∙ sym (take-map text_placed (length (actions_in x.items)) (drop done midrules)) in
    let left : map text_placed (drop (done + count) midrules) ≡ drop (length (actions_in x.items)) ms =
    ap (map text_placed) (sym (drop-drop count done midrules)) ∙ ap (λ n. map text_placed (drop n (drop done midrules))) counted
    ∙ sym (drop-map text_placed (length (actions_in x.items)) (drop done midrules)) in
    let before = map text_alternative_of old in
    let begin = map midrule_alternative (take (length (actions_in x.items)) ms) in
    let one = text_alternative aliases (take (length (actions_in x.items)) ms) x in
    let onward = text_alternatives aliases (drop (length (actions_in x.items)) ms) rest in
    ap (λ ts. map text_alternative_of ts ++ text_alternatives aliases (map text_placed (drop (done + count) midrules)) rest) pushed
    ∙ ap (λ ns. map text_alternative_of (mid ++ t ∷ []) ++ text_alternatives aliases ns rest) left
    ∙ ap (λ ts. ts ++ onward) (map-append text_alternative_of mid (t ∷ []) ∙ ap (λ y. map text_alternative_of mid ++ y ∷ []) (is ∙ ap (λ ns. text_alternative aliases ns x) here))
    ∙ ap (λ ts. (ts ++ one ∷ []) ++ onward) (begun ∙ ap (λ ns. before ++ map midrule_alternative ns) here)
    ∙ append_assoc (before ++ begin) (one ∷ []) onward ∙ append_assoc before begin (one ∷ onward) ∙ so_far

-- the next of the alternatives that are left
pub next_alternative : (xs : List Alternative) (i : ℕ) (x : Alternative) → i < length xs → x ≡ get_or xs i x
    → map alternative_of (drop i xs) ≡ alternative_of x ∷ map alternative_of (drop (i + 1) xs)
next_alternative xs i x within is = ap (map alternative_of) (drop_more xs i x within ∙ ap (λ y. y ∷ drop (i + 1) xs) (sym is))

-- what holds of the rules for actions, and of the rule of each alternative, holds of the rule of each alternative of the outline
alternatives_defined : (P : PlacedTextWord → Type 0) (aliases : List FileAlias) (midrules : List PlacedTextWord) (xs : List FileAlternative) → All P midrules
    → All (λ x. P (text_word x.rule)) xs → All (λ y. P y.rule) (text_alternatives aliases midrules xs)
alternatives_defined P aliases midrules [] known all = All-nil (λ (y : TextAlternative). P y.rule)
alternatives_defined P aliases midrules (x ∷ xs) known all =
    let Q : TextAlternative → Type 0 = λ y. P y.rule in
    let R : FileAlternative → Type 0 = λ y. P (text_word y.rule) in
    let n = length (actions_in x.items) in
    let rest = text_alternatives aliases (drop n midrules) xs in
    All-append Q (map midrule_alternative (take n midrules)) (text_alternative aliases (take n midrules) x ∷ rest)
    (All-map Q midrule_alternative (take n midrules) (All-take P n midrules known))
    (All-cons Q (text_alternative aliases (take n midrules) x) rest (All-head R x xs all)
    (alternatives_defined P aliases (drop n midrules) xs (All-drop P n midrules known) (All-tail R x xs all)))

-- an element of a list, in that list mapped
contains_mapped : {X Y : Type 0} (f : X → Y) (xs : List X) (x : X) → Contains xs x → Contains (map f xs) (f x)
contains_mapped f xs x (k, within, at) =
    let long : k < length (map f xs) = omega (arith, length-map xs f) in
    (k, long, get_or-map f xs k x (f x) within ∙ ap f at)

-- each element of a list is in it
all_contained : {X : Type 0} (xs : List X) → All (Contains xs) xs
all_contained xs k d within = (k, within, get_or_default xs k (get_or xs k d) d within)

-- each alternative of a file's outline is of a rule that is defined
pub outline_defined : (r : Rules) → AreOfDefinedRules r → HasDefinedRules (file_outline r)
outline_defined r known =
    let defined = map text_word r.defined in
    let midrules = midrules_of r in
    alternatives_defined (Contains (defined ++ midrules)) r.aliases midrules r.alternatives
    (All-weaker (Contains midrules) (Contains (defined ++ midrules)) (λ w. Contains-append_right defined midrules w) midrules (all_contained midrules))
    (All-weaker (λ (x : FileAlternative). Contains r.defined x.rule) (λ (x : FileAlternative). Contains (defined ++ midrules) (text_word x.rule))
    (λ x has. Contains-append_left defined midrules (text_word x.rule) (contains_mapped text_word r.defined x.rule has)) r.alternatives known)

-- what comes first goes with all others
pairs_head : {X : Type 0} (R : X → X → Type 0) (x : X) (xs : List X) → AllPairs R (x ∷ xs) → All (R x) xs
pairs_head R x xs all k d within = all 0 (suc k) d (omega arith) (omega arith)

-- the others go with each other
pairs_tail : {X : Type 0} (R : X → X → Type 0) (x : X) (xs : List X) → AllPairs R (x ∷ xs) → AllPairs R xs
pairs_tail R x xs all i j d before within = all (suc i) (suc j) d (omega arith) (omega arith)

-- no pairs
pairs_none : {X : Type 0} (R : X → X → Type 0) → AllPairs R []
pairs_none R i j d before within = absurd (omega arith)

module _ (P : FileItem → Type 0) where
  -- what holds of all parts, but for the first of those after an action
  all_skip : (last : Option FileItem) (x : FileItem) (xs : List FileItem) → All P (option_to_list last ++ x ∷ xs) → All P (option_to_list last ++ xs)
  all_skip None x xs all = All-tail P x xs all
  all_skip (Some l) x xs all = All-cons P l xs (All-head P l (x ∷ xs) all) (All-tail P x xs (All-tail P l (x ∷ xs) all))

  -- what holds of all parts holds of the symbols among them, from a part on
  all_at : (kind : ItemKind) (w : PlacedWord) (xs : List FileItem) → ((last : Option FileItem) → All P (option_to_list last ++ xs) → All P (symbols_after last xs))
      → All P (record { kind = kind; word = w } ∷ xs)
      → All P (symbol_at (record { kind = kind; word = w }) ++ symbols_after (action_at (record { kind = kind; word = w })) xs)
  all_at Symbol w xs kept all =
      let x : FileItem = record { kind = Symbol; word = w } in
      All-cons P x (symbols_after None xs) (All-head P x xs all) (kept None (All-tail P x xs all))
  all_at Action w xs kept all = kept (Some (record { kind = Action; word = w })) all
  all_at Prec w xs kept all = kept None (All-tail P (record { kind = Prec; word = w }) xs all)
  all_at Empty w xs kept all = kept None (All-tail P (record { kind = Empty; word = w }) xs all)

  -- the same with the action before it
  all_begin : (last : Option FileItem) (x : FileItem) (xs : List FileItem)
      → ((last : Option FileItem) → All P (option_to_list last ++ xs) → All P (symbols_after last xs)) → All P (option_to_list last ++ x ∷ xs)
      → All P (option_to_list last ++ (symbol_at x ++ symbols_after (action_at x) xs))
  all_begin None x xs kept all = all_at x.kind x.word xs kept all
  all_begin (Some l) x xs kept all =
      All-cons P l (symbol_at x ++ symbols_after (action_at x) xs) (All-head P l (x ∷ xs) all) (all_at x.kind x.word xs kept (All-tail P l (x ∷ xs) all))

  -- what holds of all parts holds of the symbols among them
  all_after : (last : Option FileItem) (xs : List FileItem) → All P (option_to_list last ++ xs) → All P (symbols_after last xs)
  all_after last [] all = All-nil P
  all_after last (x ∷ xs) all = step (λ next kept. all_after next xs kept) (ends_action x.kind) refl
    where
      step : ((last : Option FileItem) → All P (option_to_list last ++ xs) → All P (symbols_after last xs)) → (b : Bool) → ends_action x.kind ≡ b
          → All P (symbols_after last (x ∷ xs))
      step kept true met = subst (All P) (sym (symbols_end last x xs met)) (all_begin last x xs kept all)
      step kept false unmet = subst (All P) (sym (symbols_skip last x xs unmet)) (kept last (all_skip last x xs all))

module _ (R : FileItem → FileItem → Type 0) where
  -- what holds of each part and each later one, but for the first of those after an action
  pairs_skip : (last : Option FileItem) (x : FileItem) (xs : List FileItem) → AllPairs R (option_to_list last ++ x ∷ xs) → AllPairs R (option_to_list last ++ xs)
  pairs_skip None x xs all = pairs_tail R x xs all
  pairs_skip (Some l) x xs all =
      AllPairs-cons R l xs (All-tail (R l) x xs (pairs_head R l (x ∷ xs) all)) (pairs_tail R x xs (pairs_tail R l (x ∷ xs) all))

  -- the same of the symbols among the parts, from a part on
  pairs_at : (kind : ItemKind) (w : PlacedWord) (xs : List FileItem)
      → ((last : Option FileItem) → AllPairs R (option_to_list last ++ xs) → AllPairs R (symbols_after last xs)) → AllPairs R (record { kind = kind; word = w } ∷ xs)
      → AllPairs R (symbol_at (record { kind = kind; word = w }) ++ symbols_after (action_at (record { kind = kind; word = w })) xs)
  pairs_at Symbol w xs kept all =
      let x : FileItem = record { kind = Symbol; word = w } in
      AllPairs-cons R x (symbols_after None xs) (all_after (R x) None xs (pairs_head R x xs all)) (kept None (pairs_tail R x xs all))
  pairs_at Action w xs kept all = kept (Some (record { kind = Action; word = w })) all
  pairs_at Prec w xs kept all = kept None (pairs_tail R (record { kind = Prec; word = w }) xs all)
  pairs_at Empty w xs kept all = kept None (pairs_tail R (record { kind = Empty; word = w }) xs all)

  -- the same with the action before it
  pairs_begin : (last : Option FileItem) (x : FileItem) (xs : List FileItem)
      → ((last : Option FileItem) → AllPairs R (option_to_list last ++ xs) → AllPairs R (symbols_after last xs)) → AllPairs R (option_to_list last ++ x ∷ xs)
      → AllPairs R (option_to_list last ++ (symbol_at x ++ symbols_after (action_at x) xs))
  pairs_begin None x xs kept all = pairs_at x.kind x.word xs kept all
  pairs_begin (Some l) x xs kept all =
      AllPairs-cons R l (symbol_at x ++ symbols_after (action_at x) xs)
      (all_at (R l) x.kind x.word xs (λ next held. all_after (R l) next xs held) (pairs_head R l (x ∷ xs) all))
      (pairs_at x.kind x.word xs kept (pairs_tail R l (x ∷ xs) all))

  -- parts that are in order have their symbols in order
  pairs_after : (last : Option FileItem) (xs : List FileItem) → AllPairs R (option_to_list last ++ xs) → AllPairs R (symbols_after last xs)
  pairs_after last [] all = pairs_none R
  pairs_after last (x ∷ xs) all = step (λ next kept. pairs_after next xs kept) (ends_action x.kind) refl
    where
      step : ((last : Option FileItem) → AllPairs R (option_to_list last ++ xs) → AllPairs R (symbols_after last xs)) → (b : Bool) → ends_action x.kind ≡ b
          → AllPairs R (symbols_after last (x ∷ xs))
      step kept true met = subst (AllPairs R) (sym (symbols_end last x xs met)) (pairs_begin last x xs kept all)
      step kept false unmet = subst (AllPairs R) (sym (symbols_skip last x xs unmet)) (kept last (pairs_skip last x xs all))

-- the place of a first symbol, with a rule for it if it is an action
place_first : (aliases : List FileAlias) (kind : ItemKind) (w : PlacedWord) (number : ℕ) (xs : List FileItem)
    → ((n : ℕ) → map (λ (v : PlacedTextWord). v.span) (filled aliases (midrules_from n (action_words xs)) xs) ≡ map (λ (x : FileItem). x.word.span) xs)
    → map (λ (v : PlacedTextWord). v.span) (filled aliases (midrules_from number (action_words (record { kind = kind; word = w } ∷ xs))) (record { kind = kind; word = w } ∷ xs))
    ≡ w.span ∷ map (λ (x : FileItem). x.word.span) xs
place_first aliases Symbol w number xs rest =
    ap (map (λ (v : PlacedTextWord). v.span)) (filled_first aliases (midrules_from number (action_words xs)) (record { kind = Symbol; word = w }) xs refl) ∙ ap (λ ss. w.span ∷ ss) (rest number)
place_first aliases Action w number xs rest = ap (λ ss. w.span ∷ ss) (rest (number + 1))
place_first aliases Prec w number xs rest =
    ap (map (λ (v : PlacedTextWord). v.span)) (filled_first aliases (midrules_from number (action_words xs)) (record { kind = Prec; word = w }) xs refl) ∙ ap (λ ss. w.span ∷ ss) (rest number)
place_first aliases Empty w number xs rest =
    ap (map (λ (v : PlacedTextWord). v.span)) (filled_first aliases (midrules_from number (action_words xs)) (record { kind = Empty; word = w }) xs refl) ∙ ap (λ ss. w.span ∷ ss) (rest number)

-- symbols with rules in place of the actions are where the symbols are
places_filled : (aliases : List FileAlias) (number : ℕ) (xs : List FileItem)
    → map (λ (v : PlacedTextWord). v.span) (filled aliases (midrules_from number (action_words xs)) xs) ≡ map (λ (x : FileItem). x.word.span) xs
places_filled aliases number [] = refl
places_filled aliases number (x ∷ xs) = place_first aliases x.kind x.word number xs (λ n. places_filled aliases n xs)

-- one place ends at or before the start of another
abbrev IsBefore : Extent → Extent → Type 0
IsBefore a b = a.end ≤ b.start

-- what holds of each thing's place and each later one's, of the list of these places
pairs_places : {X : Type 0} (R : Extent → Extent → Type 0) (f : X → Extent) (xs : List X) → AllPairs (λ a b. R (f a) (f b)) xs → AllPairs R (map f xs)
pairs_places R f [] all i j d before within = absurd (omega arith)
pairs_places R f (x ∷ xs) all i j d before within =
    let long : j < length (x ∷ xs) = omega (arith, length-map (x ∷ xs) f) in
    subst (λ b. R (get_or (map f (x ∷ xs)) i d) b) (sym (get_or-map f (x ∷ xs) j x d long))
    (subst (λ a. R a (f (get_or (x ∷ xs) j x))) (sym (get_or-map f (x ∷ xs) i x d (omega arith))) (all i j x before long))

-- the other way round
placed_pairs : {X : Type 0} (R : Extent → Extent → Type 0) (f : X → Extent) (xs : List X) → AllPairs R (map f xs) → AllPairs (λ a b. R (f a) (f b)) xs
placed_pairs R f xs all i j d before within =
    let long : j < length (map f xs) = omega (arith, length-map xs f) in
    subst (λ b. R (f (get_or xs i d)) b) (get_or-map f xs j d (f d) within)
    (subst (λ a. R a (get_or (map f xs) j (f d))) (get_or-map f xs i d (f d) (omega arith)) (all i j (f d) before long))

-- the symbols of an alternative whose parts are in order
words_ordered : (aliases : List FileAlias) (number : ℕ) (items : List FileItem) → AllPairs (λ a b. IsBefore a.word.span b.word.span) items
    → AreWordsInOrder (filled aliases (midrules_from number (actions_in items)) (symbols_in items))
words_ordered aliases number items ordered =
    let words = filled aliases (midrules_from number (actions_in items)) (symbols_in items) in
    placed_pairs IsBefore (λ (w : PlacedTextWord). w.span) words
    (subst (AllPairs IsBefore) (sym (places_filled aliases number (symbols_in items)))
    (pairs_places IsBefore (λ (x : FileItem). x.word.span) (symbols_in items) (pairs_after (λ a b. IsBefore a.word.span b.word.span) None items ordered)))

-- rules for the actions of two lists
midrules_append : (number : ℕ) (ws vs : List PlacedWord) → midrules_from number (ws ++ vs) ≡ midrules_from number ws ++ midrules_from (number + length ws) vs
midrules_append number [] vs = ap (λ n. midrules_from n vs) (omega arith)
midrules_append number (w ∷ ws) vs =
    let next : (number + 1) + length ws ≡ number + suc (length ws) = omega arith in
    ap (λ ms. record { kind = Name; name = midrule_name number; span = w.span } ∷ ms) (midrules_append (number + 1) ws vs ∙ ap (λ n. midrules_from (number + 1) ws ++ midrules_from n vs) next)

-- as many rules
pub midrules_length : (number : ℕ) (ws : List PlacedWord) → length (midrules_from number ws) ≡ length ws
midrules_length number [] = refl
midrules_length number (w ∷ ws) = ap suc (midrules_length (number + 1) ws)

-- the alternatives of an outline have their symbols in order
alternatives_ordered : (aliases : List FileAlias) (number : ℕ) (xs : List FileAlternative) → All (λ x. AllPairs (λ a b. IsBefore a.word.span b.word.span) x.items) xs
    → All (λ y. AreWordsInOrder y.symbols) (text_alternatives aliases (midrules_from number (actions_of xs)) xs)
alternatives_ordered aliases number [] all = All-nil (λ (y : TextAlternative). AreWordsInOrder y.symbols)
alternatives_ordered aliases number (x ∷ xs) all =
    let Q : TextAlternative → Type 0 = λ y. AreWordsInOrder y.symbols in
    let P : FileAlternative → Type 0 = λ y. AllPairs (λ a b. IsBefore a.word.span b.word.span) y.items in
    let here = actions_in x.items in
    let n = length here in
    let midrules = midrules_from number (here ++ actions_of xs) in
    let first : take n midrules ≡ midrules_from number here =
    ap (take n) (midrules_append number here (actions_of xs)) ∙ take_at (midrules_from number here) (midrules_from (number + n) (actions_of xs)) n (midrules_length number here) in
    let others : drop n midrules ≡ midrules_from (number + n) (actions_of xs) =
    ap (drop n) (midrules_append number here (actions_of xs)) ∙ drop_at (midrules_from number here) (midrules_from (number + n) (actions_of xs)) n (midrules_length number here) in
    let rest = text_alternatives aliases (drop n midrules) xs in
    All-append Q (map midrule_alternative (take n midrules)) (text_alternative aliases (take n midrules) x ∷ rest)
    (All-map Q midrule_alternative (take n midrules) (λ k d within. pairs_none (λ (a b : PlacedTextWord). IsBefore a.span b.span)))
    (All-cons Q (text_alternative aliases (take n midrules) x) rest
    (subst (λ ms. AreWordsInOrder (filled aliases ms (symbols_in x.items))) (sym first) (words_ordered aliases number x.items (All-head P x xs all)))
    (subst (λ ms. All Q (text_alternatives aliases ms xs)) (sym others) (alternatives_ordered aliases (number + n) xs (All-tail P x xs all))))

-- the symbols of each alternative of a file's outline are in the order of the text
pub outline_ordered : (r : Rules) → HaveOrderedItems r → HasOrderedSymbols (file_outline r)
outline_ordered r ordered = alternatives_ordered r.aliases 1 r.alternatives ordered
