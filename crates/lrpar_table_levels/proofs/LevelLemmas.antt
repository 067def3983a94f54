-- Levels: numbers within range, the entries of their tokens, and the last token of a list of symbols.
use Rattle.std.proofs.Common.{◌≡◌, ◌<◌, ◌+◌, ◌++◌, ◌∷◌, ◌∙◌, ◌↔◌, ℕ, zero, suc, Bool, true, false, IsTrue, List, [], Option, Some, None, All, Result, Ok, Err, IfErr, IsErrAnd, refl, sym, ap, subst, arith, get_or, length, map, nat_eq, option_map, take, unwrap_or, slice_index_or}
use Rattle.std.specs.List.{flat_map, range_with_len}
use Rattle.std.specs.Map.{keys_of, lookup}
use Rattle.std.specs.Option.{option_and_then, option_or}
use Rattle.std.proofs.lemmas.List.{append-nil, get_or-map, length-map}
use Rattle.std.proofs.lemmas.List.Concat.{flat_map-append}
use Rattle.std.proofs.lemmas.List.Elements.{All-append, All-map, All-nil}
use Rattle.lrpar_grammar_places.specs.declared.span.PIdx.{PIdx}
use Rattle.lrpar_grammar_places.specs.declared.span.Symbol.{Symbol}
use Rattle.lrpar_grammar_places.specs.declared.span.Symbol.TheVariants.{Rule, Token}
use Rattle.lrpar_grammar_places.specs.declared.span.RIdx.{RIdx}
use Rattle.lrpar_grammar_places.specs.declared.span.TIdx.{TIdx}
use Rattle.lrpar_grammar_places.proofs.ListLemmas.{map-take_more, range_more}
use Rattle.lrpar_grammar.specs.Grammar.{Grammar, GrammarSymbol, Nonterminal, Terminal, prods_len, symbols_of, tokens_len}
use Rattle.lrpar_grammar.specs.Symbols.{symbol_of}
use Rattle.lrpar_table_levels.specs.declared.levels.Level.{Level}
use Rattle.lrpar_table_precedence.specs.declared.precedence.Precedence.{Precedence}
use Rattle.lrpar_table_precedence.specs.Precedence.{slot_at}
use Rattle.lrpar_table_levels.specs.Filled.{AreFilled}
use Rattle.lrpar_table_levels.specs.Levels.{AreWithin, LevelOf, declared_prod, declared_token, entries_at, last_token, level_at, level_of, named_of, precedence_at, prod_entries, token_entries}

-- what holds of an error holds after it is returned by `?`
pub error_same : {T E : Type 0} (result : Result T E) (P : E → Type 0) (e : E) → IsErrAnd result (λ f. f ≡ e) → P e → IfErr result P
error_same (Ok x) P e is holds = tt
error_same (Err f) P e is holds = subst P (sym is) holds

-- an image of an image
pub map-map : {X Y Z : Type 0} (f : X → Y) (h : Y → Z) (xs : List X) → map h (map f xs) ≡ map (λ x. h (f x)) xs
map-map f h [] = refl
map-map f h (x ∷ xs) = ap (λ ys. h (f x) ∷ ys) (map-map f h xs)

-- what is true of each image is true of the image of each element
pub All-unmap : {X Y : Type 0} (P : Y → Type 0) (f : X → Y) (xs : List X) → All P (map f xs) → All (λ x. P (f x)) xs
All-unmap P f xs all k d below =
    let inside : k < length (map f xs) = omega (arith, below, length-map xs f) in
    subst P (get_or-map f xs k d (f d) below) (all k (f d) inside)

-- one more symbol that is a token
last_more_token : (w : List GrammarSymbol) (t : ℕ) → last_token (w ++ Terminal t ∷ []) ≡ Some t
last_more_token [] t = refl
last_more_token (Nonterminal r ∷ w) t = last_more_token w t
last_more_token (Terminal s ∷ w) t = ap (λ o. Some (unwrap_or o s)) (last_more_token w t)

-- one more symbol that is a rule
last_more_rule : (w : List GrammarSymbol) (r : ℕ) → last_token (w ++ Nonterminal r ∷ []) ≡ last_token w
last_more_rule [] r = refl
last_more_rule (Nonterminal q ∷ w) r = last_more_rule w r
last_more_rule (Terminal s ∷ w) r = ap (λ o. Some (unwrap_or o s)) (last_more_rule w r)

-- the lists of each number below an end, joined, with one more number
pub flat_more : {Y : Type 0} (f : ℕ → List Y) (n : ℕ) → flat_map f (range_with_len 0 (n + 1)) ≡ flat_map f (range_with_len 0 n) ++ f n
flat_more f n =
    let last : 0 + n ≡ n = omega arith in
    ap (flat_map f) (sym (range_more 0 n)) ∙ flat_map-append f (range_with_len 0 n) ((0 + n) ∷ [])
    ∙ ap (λ s. flat_map f (range_with_len 0 n) ++ s) (append-nil (f (0 + n))) ∙ ap (λ k. flat_map f (range_with_len 0 n) ++ f k) last

module _ {S : Type 0} (index : S → ℕ) where
  module _ (symbols : List (Symbol S)) (i : ℕ) (x : Symbol S) (within : i < length symbols) (is : x ≡ get_or symbols i x) where
    -- the last token of the symbols so far and of the next one
    pub last_at_token : (t : TIdx S) (last : Option (TIdx S)) → x ≡ Token t → last ≡ Some t
        → option_map (λ k. index k.0) last ≡ last_token (map (symbol_of index) (take (i + 1) symbols))
    last_at_token t last token found =
        let front = map (symbol_of index) (take i symbols) in
        ap (option_map (λ k. index k.0)) found
        ∙ sym (ap last_token (map-take_more (symbol_of index) symbols i x within is ∙ ap (λ s. front ++ s ∷ []) (ap (symbol_of index) token))
        ∙ last_more_token front (index t.0))

    pub last_at_rule : (r : RIdx S) (last before : Option (TIdx S)) → x ≡ Rule r → last ≡ before
        → option_map (λ k. index k.0) before ≡ last_token (map (symbol_of index) (take i symbols))
        → option_map (λ k. index k.0) last ≡ last_token (map (symbol_of index) (take (i + 1) symbols))
    last_at_rule r last before rule kept so_far =
        let front = map (symbol_of index) (take i symbols) in
        ap (option_map (λ k. index k.0)) kept ∙ so_far
        ∙ sym (ap last_token (map-take_more (symbol_of index) symbols i x within is ∙ ap (λ s. front ++ s ∷ []) (ap (symbol_of index) rule))
        ∙ last_more_rule front (index r.0))

  -- tokens within range, of levels of the code
  tokens_up : (n : ℕ) (levels : List (Level S)) → All (λ level. All (λ t. index t.0 < n) level.tokens.items) levels
      → All (λ (level : LevelOf). All (λ t. t < n) level.tokens) (map (level_of index) levels)
  tokens_up n levels all =
      All-map (λ (level : LevelOf). All (λ t. t < n) level.tokens) (level_of index) levels
      (λ k d below. All-map (λ t. t < n) (λ t. index t.0) (slice_index_or levels k d).tokens.items (all k d below))

  tokens_down : (n : ℕ) (levels : List (Level S)) → All (λ (level : LevelOf). All (λ t. t < n) level.tokens) (map (level_of index) levels)
      → All (λ level. All (λ t. index t.0 < n) level.tokens.items) levels
  tokens_down n levels all k d below =
      All-unmap (λ t. t < n) (λ t. index t.0) (slice_index_or levels k d).tokens.items
      (All-unmap (λ (level : LevelOf). All (λ t. t < n) level.tokens) (level_of index) levels all k d below)

  module _ (g : Grammar) (levels : List (Level S)) (named : List (PIdx S × ℕ)) (tokens : ℕ) (tokens_are : tokens ≡ tokens_len g) where
    -- if the tokens are within range, the second test decides
    pub within_test : (prods : ℕ) (b : Bool) → prods ≡ prods_len g → All (λ level. All (λ t. index t.0 < tokens) level.tokens.items) levels
        → IsTrue b ↔ All (λ entry. (index entry.0.0 < prods) × (entry.1 < length levels)) named
        → IsTrue b ↔ AreWithin g (map (level_of index) levels) (map (named_of index) named)
    within_test prods b prods_are all test =
        let len = length-map levels (level_of index) in (
          λ h.
              let both = test.0 h in
              record {
                tokens = subst (λ n. All (λ (level : LevelOf). All (λ t. t < n) level.tokens) (map (level_of index) levels)) tokens_are (tokens_up tokens levels all);
                prods = All-map (λ entry. entry.0 < prods_len g) (named_of index) named
                    (λ k d below. let low = (both k d below).0 in omega (arith, low, prods_are));
                levels_known = All-map (λ entry. entry.1 < length (map (level_of index) levels)) (named_of index) named
                    (λ k d below. let low = (both k d below).1 in omega (arith, low, len));
              },
          λ is. test.1 (λ k d below.
              let low = All-unmap (λ entry. entry.0 < prods_len g) (named_of index) named is.prods k d below in
              let known = All-unmap (λ entry. entry.1 < length (map (level_of index) levels)) (named_of index) named is.levels_known k d below in
              (omega (arith, low, prods_are), omega (arith, known, len))),
        )

    -- otherwise the first one does
    pub beyond_test : (a : Bool) → a ≡ false → IsTrue a ↔ All (λ level. All (λ t. index t.0 < tokens) level.tokens.items) levels
        → IsTrue a ↔ AreWithin g (map (level_of index) levels) (map (named_of index) named)
    beyond_test a failed test = (
      λ h. absurd cc,
      λ is. test.1 (subst (λ n. All (λ level. All (λ t. index t.0 < n) level.tokens.items) levels) (sym tokens_are) (tokens_down (tokens_len g) levels is.tokens)),
    )

  -- the levels that productions name are there
  pub known_levels : (levels : List (Level S)) (named : List (PIdx S × ℕ))
      → All (λ entry. entry.1 < length (map (level_of index) levels)) (map (named_of index) named) → All (λ entry. entry.1 < length levels) named
  known_levels levels named all k d below =
      let known = All-unmap (λ entry. entry.1 < length (map (level_of index) levels)) (named_of index) named all k d below in
      let len = length-map levels (level_of index) in omega (arith, known, len)

  -- one more level's entries
  pub entries_more : (levels : List (Level S)) (n : ℕ) (level : Level S) (x : Precedence) (tokens : List (TIdx S)) (made pushed : List (ℕ × Precedence))
      → n < length levels → level ≡ get_or levels n level → x ≡ precedence_at (map (level_of index) levels) n → tokens ≡ level.tokens.items
      → made ≡ flat_map (entries_at (map (level_of index) levels)) (range_with_len 0 n) → pushed ≡ made ++ map (λ t. (index t.0, x)) tokens
      → pushed ≡ flat_map (entries_at (map (level_of index) levels)) (range_with_len 0 (n + 1))
  entries_more levels n level x tokens made pushed within is precedence tokens_are so_far more =
      let plain = map (level_of index) levels in
      let here : level_at plain n ≡ level_of index level = get_or-map (level_of index) levels n level _ within ∙ ap (level_of index) (sym is) in
      let own : map (λ t. (index t.0, x)) tokens ≡ entries_at plain n =
      ap (λ p. map (λ (t : TIdx S). (index t.0, p)) tokens) precedence
      ∙ ap (map (λ (t : TIdx S). (index t.0, precedence_at plain n))) tokens_are
      ∙ sym (map-map (λ (t : TIdx S). index t.0) (λ t. (t, precedence_at plain n)) level.tokens.items)
      ∙ ap (λ (l : LevelOf). map (λ t. (t, precedence_at plain n)) l.tokens) (sym here) in
      more ∙ ap (λ s. s ++ map (λ t. (index t.0, x)) tokens) so_far ∙ ap (λ s. flat_map (entries_at plain) (range_with_len 0 n) ++ s) own
      ∙ sym (flat_more (entries_at plain) n)

-- what holds of the elements of lists holds of those of the lists joined
joined_all : {X Y : Type 0} (P : Y → Type 0) (f : X → List Y) (xs : List X) → ((x : X) → All P (f x)) → All P (flat_map f xs)
joined_all P f [] each = All-nil P
joined_all P f (x ∷ xs) each = All-append P (f x) (flat_map f xs) (each x) (joined_all P f xs each)

-- if the tokens of each level are within range, so are the entries
level_within : (n : ℕ) (levels : List LevelOf) → All (λ (level : LevelOf). All (λ t. t < n) level.tokens) levels → (k : ℕ) → All (λ t. t < n) (level_at levels k).tokens
level_within n [] all k = All-nil (λ t. t < n)
level_within n (level ∷ levels) all zero = all 0 level (omega arith)
level_within n (level ∷ levels) all (suc k) = level_within n levels (λ j d below. all (suc j) d (omega (arith, below))) k

pub entries_within : (n : ℕ) (levels : List LevelOf) → All (λ (level : LevelOf). All (λ t. t < n) level.tokens) levels
    → All (λ (entry : ℕ × Precedence). entry.0 < n) (token_entries levels)
entries_within n levels all =
    joined_all (λ (entry : ℕ × Precedence). entry.0 < n) (entries_at levels) (range_with_len 0 (length levels))
    (λ k. All-map (λ (entry : ℕ × Precedence). entry.0 < n) (λ t. (t, precedence_at levels k)) (level_at levels k).tokens (level_within n levels all k))

pub prods_within : (n : ℕ) (levels : List LevelOf) (named : List (ℕ × ℕ)) → All (λ entry. entry.0 < n) named
    → All (λ (entry : ℕ × Precedence). entry.0 < n) (prod_entries levels named)
prods_within n levels named all = All-map (λ (entry : ℕ × Precedence). entry.0 < n) (λ entry. (entry.0, precedence_at levels entry.1)) named all

-- entries within range, by another name
pub within_as : (entries others : List (ℕ × Precedence)) (n len : ℕ) → entries ≡ others → len ≡ n → All (λ (entry : ℕ × Precedence). entry.0 < n) others
    → All (λ (entry : ℕ × Precedence). entry.0 < len) entries
within_as entries others n len same is all =
    subst (λ es. All (λ (entry : ℕ × Precedence). entry.0 < len) es) (sym same) (subst (λ k. All (λ (entry : ℕ × Precedence). entry.0 < k) others) (sym is) all)

-- what a value leads to
pub and_then_same : (f h : ℕ → Option Precedence) → ((n : ℕ) → f n ≡ h n) → (o : Option ℕ) → option_and_then f o ≡ option_and_then h o
and_then_same f h same None = refl
and_then_same f h same (Some n) = same n

-- the precedence of a production, by the slots of the tokens and of the productions
pub declared_is : (g : Grammar) (levels : List LevelOf) (named : List (ℕ × ℕ)) (tokens slots read old after : List (Option Precedence)) → read ≡ tokens → old ≡ slots
    → AreFilled (token_entries levels) tokens → AreFilled (prod_entries levels named) slots → (p : ℕ)
    → slot_at after p ≡ option_or (slot_at old p) (option_and_then (slot_at read) (last_token (symbols_of g p))) → slot_at after p ≡ declared_prod g levels named p
declared_is g levels named tokens slots read old after read_is old_is filled others p made =
    let last = last_token (symbols_of g p) in
    made ∙ ap (λ s. option_or (slot_at s p) (option_and_then (slot_at read) last)) old_is
    ∙ ap (λ s. option_or (slot_at slots p) (option_and_then (slot_at s) last)) read_is
    ∙ ap (λ o. option_or o (option_and_then (slot_at tokens) last)) (others.found p)
    ∙ ap (option_or (lookup (nat_eq p) (prod_entries levels named))) (and_then_same (slot_at tokens) (declared_token levels) filled.found last)

-- the numbers of the productions that name a level
pub prod_keys : (levels : List LevelOf) (named : List (ℕ × ℕ)) → keys_of (prod_entries levels named) ≡ keys_of named
prod_keys levels named = map-map (λ (entry : ℕ × ℕ). (entry.0, precedence_at levels entry.1)) (λ (entry : ℕ × Precedence). entry.0) named
