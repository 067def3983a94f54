-- Actions among the symbols of an alternative, one part after another.
use Rattle.std.proofs.Common.{◌≡◌, ◌<◌, ◌≤◌, ◌+◌, ◌++◌, [], ◌∷◌, ℕ, List, Bool, true, false, cond, map, drop, get_or, length, length-append, length-drop, append_assoc, Option, None, Some, option_map, refl, ap, sym, subst, ◌∙◌, arith}
use Rattle.std.specs.List.{filter}
use Rattle.std.specs.Option.{option_to_list}
use Rattle.std.proofs.lemmas.List.{drop_more, length-map, map-append}
use Rattle.std.proofs.lemmas.List.Elements.{filter-append}
use Rattle.lrpar_grammar_words.specs.declared.words.Word.{Word as TextWord}
use Rattle.lrpar_grammar_words.specs.declared.words.WordKind.TheVariants.{Name as TextName}
use Rattle.lrpar_grammar_words.specs.Words.{PlacedWord as PlacedTextWord, placed as text_placed}
use Rattle.lrpar_grammar_bison.specs.declared.words.Word.{Word}
use Rattle.lrpar_grammar_bison.specs.declared.words.WordKind.TheVariants.{Name}
use Rattle.lrpar_grammar_bison.specs.Words.{PlacedWord, placed}
use Rattle.lrpar_grammar_bison_rules.specs.declared.rules.Item.{Item}
use Rattle.lrpar_grammar_bison_rules.specs.declared.word_order.ItemKind.{ItemKind}
use Rattle.lrpar_grammar_bison_rules.specs.declared.word_order.ItemKind.TheVariants.{Symbol, Action, Prec, Empty}
use Rattle.lrpar_grammar_bison_rules.specs.Aliases.{FileAlias}
use Rattle.lrpar_grammar_bison_rules.specs.Rules.{FileItem, item_of}
use Rattle.lrpar_grammar_bison_parts.specs.Midrules.{action_at, action_word, ends_action, filled, is_action, is_symbol, symbol_at, symbols_after}
use Rattle.lrpar_grammar_bison_parts.specs.Symbols.{symbol_word}

-- the words of the actions among some parts
abbrev pub action_words : List FileItem → List PlacedWord
action_words xs = map (λ (x : FileItem). x.word) (filter (λ (x : FileItem). is_action x.kind) xs)

-- the actions of some parts, but for the last one
abbrev pub actions_after : Option FileItem → List FileItem → List PlacedWord
actions_after last xs = action_words (symbols_after last xs)

-- an action of that word
abbrev pub action_of : PlacedWord → FileItem
action_of w = record { kind = Action; word = w }

-- the last action, by its word
abbrev pub last_action : Option Word → Option FileItem
last_action last = option_map (λ (w : Word). action_of (placed w)) last

-- any word
abbrev pub no_word : Word
no_word = record { kind = Name; name = record { ref_ptr = (0, 0); now = [] }; len = 0; end = 0 }

-- any word of a grammar text
abbrev pub no_rule : TextWord
no_rule = record { kind = TextName; name = record { ref_ptr = (0, 0); now = [] }; len = 0; end = 0 }

-- any part
abbrev pub no_item : Item
no_item = record { kind = Symbol; word = no_word }

-- some action, if there is one
abbrev pub any_action : Bool → Option FileItem
any_action is_open = cond is_open (Some (action_of (placed no_word))) None

-- one, if there is an action
abbrev pub one_if : Bool → ℕ
one_if is_open = cond is_open 1 0

-- the next of the parts that are left
pub next_item : (items : List Item) (i : ℕ) → i < length items → map item_of (drop i items) ≡ item_of (get_or items i no_item) ∷ map item_of (drop (i + 1) items)
next_item items i within = ap (map item_of) (drop_more items i no_item within)

-- a part that no action is before
pub symbols_skip : (last : Option FileItem) (x : FileItem) (xs : List FileItem) → ends_action x.kind ≡ false → symbols_after last (x ∷ xs) ≡ symbols_after last xs
symbols_skip last x xs unmet = ap (λ b. cond b (option_to_list last ++ (symbol_at x ++ symbols_after (action_at x) xs)) (symbols_after last xs)) unmet

-- a part that an action may be before
pub symbols_end : (last : Option FileItem) (x : FileItem) (xs : List FileItem) → ends_action x.kind ≡ true
    → symbols_after last (x ∷ xs) ≡ option_to_list last ++ (symbol_at x ++ symbols_after (action_at x) xs)
symbols_end last x xs met = ap (λ b. cond b (option_to_list last ++ (symbol_at x ++ symbols_after (action_at x) xs)) (symbols_after last xs)) met

-- the actions of two lists
words_append : (xs ys : List FileItem) → action_words (xs ++ ys) ≡ action_words xs ++ action_words ys
words_append xs ys =
    ap (map (λ (x : FileItem). x.word)) (filter-append (λ (x : FileItem). is_action x.kind) xs ys)
    ∙ map-append (λ (x : FileItem). x.word) (filter (λ (x : FileItem). is_action x.kind) xs) (filter (λ (x : FileItem). is_action x.kind) ys)

-- no part is both a symbol and an action: the symbol that a part is, if it is one, has no action
no_words : (kind : ItemKind) (w : PlacedWord) → action_words (symbol_at (record { kind = kind; word = w })) ≡ []
no_words Symbol w = refl
no_words Action w = refl
no_words Prec w = refl
no_words Empty w = refl

-- the actions from a part on that an action may be before
pub actions_end : (last : Option FileItem) (x : FileItem) (xs : List FileItem) → ends_action x.kind ≡ true
    → actions_after last (x ∷ xs) ≡ action_words (option_to_list last) ++ actions_after (action_at x) xs
actions_end last x xs met =
    ap action_words (symbols_end last x xs met) ∙ words_append (option_to_list last) (symbol_at x ++ symbols_after (action_at x) xs)
    ∙ ap (λ ws. action_words (option_to_list last) ++ ws)
    (words_append (symbol_at x) (symbols_after (action_at x) xs) ∙ ap (λ ws. ws ++ actions_after (action_at x) xs) (no_words x.kind x.word))

-- the action that a part is, if it is one, by its word
is_last : (kind : ItemKind) (w : Word) → action_at (item_of (record { kind = kind; word = w })) ≡ last_action (action_word (record { kind = kind; word = w }))
is_last Symbol w = refl
is_last Action w = refl
is_last Prec w = refl
is_last Empty w = refl

-- the word of a last action
last_word : (last : Option Word) → action_words (option_to_list (last_action last)) ≡ map placed (option_to_list last)
last_word None = refl
last_word (Some w) = refl

-- the action before a part is appended
pub pushed_last : (old new : List Word) (last next : Option Word) (x : Item) (xs : List FileItem) (all : List PlacedWord) → ends_action x.kind ≡ true
    → new ≡ old ++ option_to_list last → next ≡ action_word x → map placed old ++ actions_after (last_action last) (item_of x ∷ xs) ≡ all
    → map placed new ++ actions_after (last_action next) xs ≡ all
pushed_last old new last next x xs all met pushed is so_far =
    let rest = actions_after (last_action next) xs in
    let here : actions_after (last_action last) (item_of x ∷ xs) ≡ map placed (option_to_list last) ++ rest =
    actions_end (last_action last) (item_of x) xs met ∙ ap (λ ws. ws ++ actions_after (action_at (item_of x)) xs) (last_word last)
    ∙ ap (λ a. map placed (option_to_list last) ++ actions_after a xs) (is_last x.kind x.word ∙ ap last_action (sym is)) in
    ap (λ ws. map placed ws ++ rest) pushed ∙ ap (λ ws. ws ++ rest) (map-append placed old (option_to_list last))
    ∙ append_assoc (map placed old) (map placed (option_to_list last)) rest ∙ ap (λ ws. map placed old ++ ws) (sym here) ∙ so_far

-- what reads the word of no action that may be the last, reads all such actions alike
any_pending : {Z : Type 0} (F : List FileItem → Z) (P : List FileItem → Type 0) (x y : FileItem) → ((zs : List FileItem) → P (x ∷ zs) → F (x ∷ zs) ≡ F (y ∷ zs))
    → (xs : List FileItem) → P (symbols_after (Some x) xs) → F (symbols_after (Some x) xs) ≡ F (symbols_after (Some y) xs)
any_pending F P x y same [] holds = refl
any_pending F P x y same (z ∷ zs) holds = step (λ held. any_pending F P x y same zs held) (ends_action z.kind) refl
  where
    step : (P (symbols_after (Some x) zs) → F (symbols_after (Some x) zs) ≡ F (symbols_after (Some y) zs))
        → (b : Bool) → ends_action z.kind ≡ b → F (symbols_after (Some x) (z ∷ zs)) ≡ F (symbols_after (Some y) (z ∷ zs))
    step rest true met =
        let zs' = symbol_at z ++ symbols_after (action_at z) zs in
        ap F (symbols_end (Some x) z zs met) ∙ same zs' (subst P (symbols_end (Some x) z zs met) holds) ∙ sym (ap F (symbols_end (Some y) z zs met))
    step rest false unmet =
        ap F (symbols_skip (Some x) z zs unmet) ∙ rest (subst P (symbols_skip (Some x) z zs unmet) holds) ∙ sym (ap F (symbols_skip (Some y) z zs unmet))

-- the same of the action that a part is
any_at : {Z : Type 0} (F : List FileItem → Z) (P : List FileItem → Type 0)
    → ((v w : PlacedWord) (zs : List FileItem) → P (action_of v ∷ zs) → F (action_of v ∷ zs) ≡ F (action_of w ∷ zs))
    → (kind : ItemKind) (w : PlacedWord) (xs : List FileItem) → P (symbols_after (action_at (record { kind = kind; word = w })) xs)
    → F (symbols_after (action_at (record { kind = kind; word = w })) xs) ≡ F (symbols_after (any_action (is_action kind)) xs)
any_at F P same Symbol w xs holds = refl
any_at F P same Action w xs holds = any_pending F P (action_of w) (action_of (placed no_word)) (same w (placed no_word)) xs holds
any_at F P same Prec w xs holds = refl
any_at F P same Empty w xs holds = refl

-- the number of actions, whatever the word of the one that may be the last
any_counted : (x : FileItem) (xs : List FileItem) → length (actions_after (action_at x) xs) ≡ length (actions_after (any_action (is_action x.kind)) xs)
any_counted x xs = any_at (λ zs. length (action_words zs)) (λ _. Unit {0}) (λ v w zs _. refl) x.kind x.word xs tt

-- the number of actions from a part on that an action may be before
pub counted_end : (is_open : Bool) (x : FileItem) (xs : List FileItem) → ends_action x.kind ≡ true
    → length (actions_after (any_action is_open) (x ∷ xs)) ≡ one_if is_open + length (actions_after (any_action (is_action x.kind)) xs)
counted_end is_open x xs met =
    ap length (actions_end (any_action is_open) x xs met) ∙ length-append (action_words (option_to_list (any_action is_open))) (actions_after (action_at x) xs)
    ∙ ap (λ n. n + length (actions_after (action_at x) xs)) (one is_open) ∙ ap (λ n. one_if is_open + n) (any_counted x xs)
  where
    one : (is_open : Bool) → length (action_words (option_to_list (any_action is_open))) ≡ one_if is_open
    one true = refl
    one false = refl

-- a symbol comes first
pub filled_first : (aliases : List FileAlias) (midrules : List PlacedTextWord) (x : FileItem) (xs : List FileItem) → is_action x.kind ≡ false
    → filled aliases midrules (x ∷ xs) ≡ symbol_word aliases x.word ∷ filled aliases midrules xs
filled_first aliases [] x xs unmet = refl
filled_first aliases (m ∷ ms) x xs unmet = ap (λ b. cond b (m ∷ filled aliases ms xs) (symbol_word aliases x.word ∷ filled aliases (m ∷ ms) xs)) unmet

-- what comes in place of actions, whatever the word of the one that may be the last
any_filled : (aliases : List FileAlias) (midrules : List PlacedTextWord) (v w : PlacedWord) (zs : List FileItem) → length (action_words (action_of v ∷ zs)) ≤ length midrules
    → filled aliases midrules (action_of v ∷ zs) ≡ filled aliases midrules (action_of w ∷ zs)
any_filled aliases [] v w zs enough = absurd (omega arith)
any_filled aliases (m ∷ ms) v w zs enough = refl

-- a part that an action may be before: the symbol, if it is one, and what comes after it
pub filled_at : (aliases : List FileAlias) (midrules : List PlacedTextWord) (kind : ItemKind) (w : PlacedWord) (xs : List FileItem)
    → length (actions_after (any_action (is_action kind)) xs) ≤ length midrules
    → filled aliases midrules (symbol_at (record { kind = kind; word = w }) ++ symbols_after (action_at (record { kind = kind; word = w })) xs)
    ≡ filled aliases midrules (symbol_at (record { kind = kind; word = w }) ++ symbols_after (any_action (is_action kind)) xs)
filled_at aliases midrules Symbol w xs enough = refl
filled_at aliases midrules Action w xs enough =
    any_at (filled aliases midrules) (λ zs. length (action_words zs) ≤ length midrules) (any_filled aliases midrules) Action w xs
    (omega (arith, any_counted (action_of w) xs))
filled_at aliases midrules Prec w xs enough = refl
filled_at aliases midrules Empty w xs enough = refl

-- a part that no action is before is no symbol
no_symbol : (kind : ItemKind) (w : PlacedWord) → ends_action kind ≡ false → symbol_at (record { kind = kind; word = w }) ≡ []
no_symbol Symbol w unmet = absurd (cc)
no_symbol Action w unmet = absurd (cc)
no_symbol Prec w unmet = refl
no_symbol Empty w unmet = refl

-- a symbol is no action
not_both : (kind : ItemKind) → is_symbol kind ≡ true → is_action kind ≡ false
not_both Symbol met = refl
not_both Action met = absurd (cc)
not_both Prec met = absurd (cc)
not_both Empty met = absurd (cc)

-- the rules from one on, in place of actions
abbrev pub filled_from : List FileAlias → List TextWord → ℕ → List FileItem → List PlacedTextWord
filled_from aliases midrules used zs = filled aliases (map text_placed (drop used midrules)) zs

module _ (aliases : List FileAlias) (midrules : List TextWord) (x : FileItem) (xs : List FileItem) (all : List PlacedTextWord) where
  -- what comes from a part on, whatever the word of an action that may be the last
  filled_next : (next : Bool) (now : ℕ) → next ≡ is_action x.kind → now + length (actions_after (any_action next) xs) ≤ length midrules
      → filled_from aliases midrules now (symbol_at x ++ symbols_after (action_at x) xs) ≡ filled_from aliases midrules now (symbol_at x ++ symbols_after (any_action next) xs)
  filled_next next now is enough =
      let same : length (actions_after (any_action (is_action x.kind)) xs) ≡ length (actions_after (any_action next) xs) = ap (λ b. length (actions_after (any_action b) xs)) (sym is) in
      filled_at aliases (map text_placed (drop now midrules)) x.kind x.word xs (omega (arith, length-map (drop now midrules) text_placed, length-drop now midrules))
      ∙ ap (λ b. filled_from aliases midrules now (symbol_at x ++ symbols_after (any_action b) xs)) (sym is)

  -- at a part that an action may be before, what comes after that action is left
  pub filled_end : (is_open next : Bool) (old new : List TextWord) (used now : ℕ) → ends_action x.kind ≡ true → is_open ≡ true → next ≡ is_action x.kind
      → new ≡ old ++ get_or midrules used no_rule ∷ [] → now ≡ used + 1 → now + length (actions_after (any_action next) xs) ≤ length midrules
      → map text_placed old ++ filled_from aliases midrules used (symbols_after (any_action is_open) (x ∷ xs)) ≡ all
      → map text_placed new ++ filled_from aliases midrules now (symbol_at x ++ symbols_after (any_action next) xs) ≡ all
  filled_end is_open next old new used now met opened is pushed more enough so_far =
      let m = text_placed (get_or midrules used no_rule) in
      let zs = symbol_at x ++ symbols_after (action_at x) xs in
      let rest = filled_from aliases midrules now (symbol_at x ++ symbols_after (any_action next) xs) in
      let left : map text_placed (drop used midrules) ≡ m ∷ map text_placed (drop now midrules) =
      ap (map text_placed) (drop_more midrules used no_rule (omega arith) ∙ ap (λ n. get_or midrules used no_rule ∷ drop n midrules) (sym more)) in
      let here : filled_from aliases midrules used (symbols_after (any_action is_open) (x ∷ xs)) ≡ m ∷ rest =
      ap (filled_from aliases midrules used) (symbols_end (any_action is_open) x xs met ∙ ap (λ b. option_to_list (any_action b) ++ zs) opened)
      ∙ ap (λ ms. filled aliases ms (action_of (placed no_word) ∷ zs)) left ∙ ap (λ ws. m ∷ ws) (filled_next next now is enough) in
      ap (λ ws. map text_placed ws ++ rest) pushed ∙ ap (λ ws. ws ++ rest) (map-append text_placed old (get_or midrules used no_rule ∷ []))
      ∙ append_assoc (map text_placed old) (m ∷ []) rest ∙ ap (λ ws. map text_placed old ++ ws) (sym here) ∙ so_far

  -- the same if no action is before it
  pub filled_begin : (is_open next : Bool) (old new : List TextWord) (used now : ℕ) → ends_action x.kind ≡ true → is_open ≡ false → next ≡ is_action x.kind
      → new ≡ old → now ≡ used → now + length (actions_after (any_action next) xs) ≤ length midrules
      → map text_placed old ++ filled_from aliases midrules used (symbols_after (any_action is_open) (x ∷ xs)) ≡ all
      → map text_placed new ++ filled_from aliases midrules now (symbol_at x ++ symbols_after (any_action next) xs) ≡ all
  filled_begin is_open next old new used now met closed is same here enough so_far =
      let zs = symbol_at x ++ symbols_after (any_action next) xs in
      ap (λ ws. map text_placed ws ++ filled_from aliases midrules now zs) same
      ∙ ap (λ ws. map text_placed old ++ ws)
      (sym (filled_next next now is enough) ∙ ap (λ n. filled_from aliases midrules n (symbol_at x ++ symbols_after (action_at x) xs)) here
      ∙ ap (filled_from aliases midrules used) (sym (symbols_end (any_action is_open) x xs met ∙ ap (λ b. option_to_list (any_action b) ++ (symbol_at x ++ symbols_after (action_at x) xs)) closed)))
      ∙ so_far

  -- the same at another part
  pub filled_skip : (is_open next : Bool) (old new : List TextWord) (used now : ℕ) → ends_action x.kind ≡ false → next ≡ is_open → new ≡ old → now ≡ used
      → map text_placed old ++ filled_from aliases midrules used (symbols_after (any_action is_open) (x ∷ xs)) ≡ all
      → map text_placed new ++ filled_from aliases midrules now (symbol_at x ++ symbols_after (any_action next) xs) ≡ all
  filled_skip is_open next old new used now unmet is same here so_far =
      let zs = symbol_at x ++ symbols_after (any_action next) xs in
      let next_symbols : zs ≡ symbols_after (any_action is_open) (x ∷ xs) =
      ap (λ ys. ys ++ symbols_after (any_action next) xs) (no_symbol x.kind x.word unmet) ∙ ap (λ b. symbols_after (any_action b) xs) is
      ∙ sym (symbols_skip (any_action is_open) x xs unmet) in
      ap (λ ws. map text_placed ws ++ filled_from aliases midrules now zs) same ∙ ap (λ n. map text_placed old ++ filled_from aliases midrules n zs) here
      ∙ ap (λ ys. map text_placed old ++ filled_from aliases midrules used ys) next_symbols ∙ so_far

  -- the symbol that a part is
  pub filled_symbol : (old new : List TextWord) (w : TextWord) (used : ℕ) (last : Option FileItem) → is_symbol x.kind ≡ true → new ≡ old ++ w ∷ []
      → text_placed w ≡ symbol_word aliases x.word
      → map text_placed old ++ filled_from aliases midrules used (symbol_at x ++ symbols_after last xs) ≡ all → map text_placed new ++ filled_from aliases midrules used (symbols_after last xs) ≡ all
  filled_symbol old new w used last met pushed is so_far =
      let rest = filled_from aliases midrules used (symbols_after last xs) in
      let here : filled_from aliases midrules used (symbol_at x ++ symbols_after last xs) ≡ text_placed w ∷ rest =
      ap (λ b. filled_from aliases midrules used (cond b (x ∷ []) [] ++ symbols_after last xs)) met
      ∙ filled_first aliases (map text_placed (drop used midrules)) x (symbols_after last xs) (not_both x.kind met) ∙ ap (λ s. s ∷ rest) (sym is) in
      ap (λ ws. map text_placed ws ++ rest) pushed ∙ ap (λ ws. ws ++ rest) (map-append text_placed old (w ∷ []))
      ∙ append_assoc (map text_placed old) (text_placed w ∷ []) rest ∙ ap (λ ws. map text_placed old ++ ws) (sym here) ∙ so_far

  -- a part that is none
  pub filled_other : (old new : List TextWord) (used : ℕ) (last : Option FileItem) → is_symbol x.kind ≡ false → new ≡ old
      → map text_placed old ++ filled_from aliases midrules used (symbol_at x ++ symbols_after last xs) ≡ all → map text_placed new ++ filled_from aliases midrules used (symbols_after last xs) ≡ all
  filled_other old new used last unmet same so_far =
      ap (λ ws. map text_placed ws ++ filled_from aliases midrules used (symbols_after last xs)) same
      ∙ ap (λ b. map text_placed old ++ filled_from aliases midrules used (cond b (x ∷ []) [] ++ symbols_after last xs)) (sym unmet) ∙ so_far
