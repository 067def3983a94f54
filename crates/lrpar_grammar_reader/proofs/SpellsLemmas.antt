-- The parts that the declarations and rules of a text make, if they have no fault.
use Rattle.std.proofs.Common.{◌≡◌, ◌≢◌, ◌<◌, ◌+◌, ◌||◌, ℕ, zero, suc, Bool, true, false, cond, List, [], ◌∷◌, ◌++◌, length, map, fold, get_or, Option, Some, None, option_map, unwrap_or, refl, ap, sym, subst, ◌∙◌, arith}
use Rattle.std.specs.List.{All, Contains, filter, flat_map, slice_get}
use Rattle.std.specs.Option.{is_some, option_map_or}
use Rattle.std.proofs.lemmas.List.{length-map}
use Rattle.std.proofs.lemmas.List.Elements.{All-contains_itself, All-map, All-weaker, Contains-append_left, Contains-append_right}
use Rattle.std.proofs.lemmas.Option.{get_or_from_slice_get, slice_get_within}
use Rattle.lrpar_grammar_words.specs.Words.{PlacedWord}
use Rattle.lrpar_grammar_words.specs.Outline.{AreOfDefinedRules, OutlineIsOne, TextAlternative, TextOutline}
use Rattle.lrpar_grammar_reader.specs.Grammar.{IsDeclaredSymbol, Nonterminal, Terminal}
use Rattle.lrpar_grammar_reader.specs.Names.{first_of_each, is_among, number_of, with_name}
use Rattle.lrpar_grammar_reader.specs.Parts.{AreSound, FitStorage, IsDeclaredProd, grammar_of}
use Rattle.lrpar_grammar_reader.specs.Spells.{IsClean, Numbering, SpellsOne, is_token, numbering_of, prod_of_alternative, rule_number, rule_of_word, rule_words, spelled_parts, symbol_of_word, token_number, token_of_word, token_words, used_tokens}
use Rattle.lrpar_grammar_reader.specs.TextNames.{FitAll, AreNumbered, has_number}
use Rattle.lrpar_grammar_reader.proofs.NamesLemmas.{not_found, number_of_last, number_within}
use Rattle.std.proofs.lemmas.Slice.Eq.{bytes_eq-Decides}

-- a name that is found in the rest
keep_step : (b : Bool) (r s : Option ℕ) → (is_some r ≡ true → is_some s ≡ true)
    → is_some (cond b (Some 0) (option_map (λ n. n + 1) r)) ≡ true → is_some (cond b (Some 0) (option_map (λ n. n + 1) s)) ≡ true
keep_step true r s keep found = refl
keep_step false None s keep found = absurd (cc)
keep_step false (Some k) None keep found = let none : false ≡ true = keep refl in absurd (cc)
keep_step false (Some k) (Some j) keep found = refl

-- a known name stays known
is_among_push : (ws : List PlacedWord) (w : PlacedWord) (q : List ℕ) → is_among q ws ≡ true → is_among q (ws ++ w ∷ []) ≡ true
is_among_push [] w q found = absurd (cc)
is_among_push (x ∷ ws) w q found = keep_step _ (number_of q ws) (number_of q (ws ++ w ∷ [])) (is_among_push ws w q) found

-- a name among the words is among them still, whether the new word is appended or not
with_step : (b : Bool) (ws : List PlacedWord) (w : PlacedWord) (q : List ℕ) → is_among q ws ≡ true → is_among q (cond b ws (ws ++ w ∷ [])) ≡ true
with_step true ws w q found = found
with_step false ws w q found = is_among_push ws w q found

-- the names that were known before stay known
fold_keeps : (ws known : List PlacedWord) (q : List ℕ) → is_among q known ≡ true → is_among q (fold with_name known ws) ≡ true
fold_keeps [] known q found = found
fold_keeps (w ∷ ws) known q found = fold_keeps ws (with_name known w) q (with_step (is_among w.name known) known w q found)

-- the new word's name is known then, by whether it was known
new_step : (b : Bool) (known : List PlacedWord) (w : PlacedWord) → is_among w.name known ≡ b → is_among w.name (cond b known (known ++ w ∷ [])) ≡ true
new_step true known w is = is
new_step false known w is =
    ap is_some (number_of_last known w w.name ((bytes_eq-Decides w.name w.name).1 refl) (not_found (number_of w.name known) is))

-- each word's name is known at the end
fold_knows : (ws known : List PlacedWord) (w : PlacedWord) (k : ℕ) → k < length ws → get_or ws k w ≡ w → is_among w.name (fold with_name known ws) ≡ true
fold_knows [] known w k within is = absurd (omega arith)
fold_knows (x ∷ ws) known w zero within is =
    subst (λ y. is_among y.name (fold with_name known (x ∷ ws)) ≡ true) is
    (fold_keeps ws (with_name known x) x.name (new_step (is_among x.name known) known x refl))
fold_knows (x ∷ ws) known w (suc k) within is = fold_knows ws (with_name known x) w k (omega arith) is

-- each word's name is one of the distinct ones
pub among_first : (ws : List PlacedWord) (w : PlacedWord) → Contains ws w → is_among w.name (first_of_each ws) ≡ true
unfolding first_of_each
among_first ws w contains = fold_knows ws [] w contains.0 contains.1 contains.2

-- an element of a list is one of a longer list
contains_cons : {X : Type 0} (x : X) (xs : List X) (w : X) → Contains xs w → Contains (x ∷ xs) w
contains_cons x xs w (k, within, is) = (suc k, omega arith, is)

-- what a filter keeps, by whether the first element passes
filter_step : {X : Type 0} (b : Bool) (x : X) (xs : List X) (w : X) → Contains xs w → Contains (cond b (x ∷ xs) xs) w
filter_step true x xs w h = contains_cons x xs w h
filter_step false x xs w h = h

-- an element that passes is kept
contains_filter : {X : Type 0} (p : X → Bool) (xs : List X) (w : X) (k : ℕ) → k < length xs → get_or xs k w ≡ w → p w ≡ true → Contains (filter p xs) w
contains_filter p [] w k within is passes = absurd (omega arith)
contains_filter p (x ∷ xs) w zero within is passes =
    let passes' : p x ≡ true = ap p is ∙ passes in
    subst (λ b. Contains (cond b (x ∷ filter p xs) (filter p xs)) w) (sym passes') (zero, omega arith, is)
contains_filter p (x ∷ xs) w (suc k) within is passes = filter_step (p x) x (filter p xs) w (contains_filter p xs w k (omega arith) is passes)

-- an element of what one element gives
contains_flat_map : {X Y : Type 0} (f : X → List Y) (xs : List X) (x : X) (y : Y) (k : ℕ) → k < length xs → get_or xs k x ≡ x → Contains (f x) y → Contains (flat_map f xs) y
contains_flat_map f [] x y k within is has = absurd (omega arith)
contains_flat_map f (z ∷ xs) x y zero within is has = Contains-append_left (f z) (flat_map f xs) y (subst (λ v. Contains (f v) y) (sym is) has)
contains_flat_map f (z ∷ xs) x y (suc k) within is has = Contains-append_right (f z) (flat_map f xs) y (contains_flat_map f xs x y k (omega arith) is has)

-- a token that an alternative uses is one of the tokens
token_known : (o : TextOutline) (x : TextAlternative) (w : PlacedWord) → Contains o.alternatives x → Contains x.symbols w
    → is_token (numbering_of o).declared w ≡ true → is_among w.name (token_words o) ≡ true
token_known o x w of has is =
    let declared = (numbering_of o).declared in
    let kept : Contains (filter (is_token declared) x.symbols) w = contains_filter (is_token declared) x.symbols w has.0 has.1 has.2 is in
    let used : Contains (used_tokens declared o.alternatives) w = contains_flat_map (λ y. filter (is_token declared) y.symbols) o.alternatives x w of.0 of.1 of.2 kept in
    among_first (o.declared ++ used_tokens declared o.alternatives) w (Contains-append_right o.declared (used_tokens declared o.alternatives) w used)

-- a known symbol has a number
number_step : (b among_tokens among_rules : Bool) → (b ≡ true → among_tokens ≡ true) → (b || among_rules) ≡ true → cond b among_tokens among_rules ≡ true
number_step true t r token known = token refl
number_step false t r token known = known

-- if nothing is unknown, everything has a number
pub clean_numbers : (o : TextOutline) → AreOfDefinedRules o → IsClean o → All (AreNumbered (numbering_of o)) o.alternatives
clean_numbers o of clean = λ k d within.
    let x = get_or o.alternatives k d in
    let has_x : Contains o.alternatives x = All-contains_itself o.alternatives k d within in
    record {
      rule = among_first o.defined x.rule (of k d within);
      symbols = λ j e inside.
          let w = get_or x.symbols j e in
          number_step (is_token (numbering_of o).declared w) (is_among w.name (token_words o)) (is_among w.name (rule_words o))
          (token_known o x w has_x (All-contains_itself x.symbols j e inside)) (clean.names_known.symbols_known k d within j e inside);
    }

-- a rule that is found has a listed number
found_rule : (r : Option ℕ) (len : ℕ) → ((n : ℕ) → r ≡ Some n → n < len) → is_some r ≡ true → (0 < option_map_or (λ n. n + 1) r 0) × (option_map_or (λ n. n + 1) r 0 < len + 1)
found_rule None len within found = absurd (cc)
found_rule (Some n) len within found = let below : n < len = within n refl in (omega arith, omega arith)

-- the same for a token
found_token : (r : Option ℕ) (len : ℕ) → ((n : ℕ) → r ≡ Some n → n < len) → is_some r ≡ true → unwrap_or r 0 < len
found_token None len within found = absurd (cc)
found_token (Some n) len within found = within n refl

-- a known rule's number is one of a listed rule
rule_listed : (rules : List PlacedWord) (name : List ℕ) → is_among name rules ≡ true → (0 < rule_number rules name) × (rule_number rules name < length rules + 1)
rule_listed rules name known = found_rule (number_of name rules) (length rules) (number_within rules name) known

-- a symbol with a number is a listed one
symbol_listed : (b : Bool) (n : Numbering) (w : PlacedWord) → cond b (is_among w.name n.tokens) (is_among w.name n.rules) ≡ true
    → IsDeclaredSymbol (length n.rules + 1) (length n.tokens) (cond b (Terminal (token_number n.tokens w.name)) (Nonterminal (rule_number n.rules w.name)))
symbol_listed true n w known = found_token (number_of w.name n.tokens) (length n.tokens) (number_within n.tokens w.name) known
symbol_listed false n w known = rule_listed n.rules w.name known

-- an alternative with numbers is a production of a listed rule with listed symbols
prod_listed : (n : Numbering) (x : TextAlternative) → AreNumbered n x → IsDeclaredProd (length n.rules + 1) (length n.tokens) (prod_of_alternative n x)
prod_listed n x has = record {
  rule_added = (rule_listed n.rules x.rule.name has.rule).0;
  rule_within = (rule_listed n.rules x.rule.name has.rule).1;
  symbols = All-map (IsDeclaredSymbol (length n.rules + 1) (length n.tokens)) (symbol_of_word n) x.symbols
      (All-weaker (λ (w : PlacedWord). has_number n w ≡ true) (λ (w : PlacedWord). IsDeclaredSymbol (length n.rules + 1) (length n.tokens) (symbol_of_word n w))
      (λ w known. symbol_listed (is_token n.declared w) n w known) x.symbols has.symbols);
}

-- a name can be found only among at least one word
some_among : (ws : List PlacedWord) (q : List ℕ) → is_among q ws ≡ true → 0 < length ws
some_among [] q found = absurd (cc)
some_among (w ∷ ws) q found = omega arith

-- if a rule is defined, there is one
pub some_rules : (ws : List PlacedWord) → ws ≢ [] → 0 < length (first_of_each ws)
some_rules [] some = absurd (some refl)
some_rules (w ∷ ws) some = some_among (first_of_each (w ∷ ws)) w.name (among_first (w ∷ ws) w (zero, omega arith, refl))

-- the start rule is a listed one
start_step : (n : Numbering) (r : Option PlacedWord) → 0 < length n.rules → ((w : PlacedWord) → r ≡ Some w → is_among w.name n.rules ≡ true)
    → (0 < option_map_or (λ w. rule_number n.rules w.name) r 1) × (option_map_or (λ w. rule_number n.rules w.name) r 1 < length n.rules + 1)
start_step n None some known = (omega arith, omega arith)
start_step n (Some w) some known = rule_listed n.rules w.name (known w refl)

-- a mapped list isn't empty if the list has an element
pub mapped_some : {X Y : Type 0} (f : X → Y) (xs : List X) → 0 < length xs → map f xs ≢ []
mapped_some f [] some is = absurd (omega arith)
mapped_some f (x ∷ xs) some is = absurd (cc)

-- if the lists fit the storage type, the parts do
pub parts_fit : (limit : ℕ) (o : TextOutline) → FitAll limit (numbering_of o) o → FitStorage limit (spelled_parts o)
parts_fit limit o fit = record {
  rules = let few : length (rule_words o) < limit = fit.rules in omega (arith, length-map (rule_words o) rule_of_word);
  tokens = let few : length (token_words o) < limit = fit.tokens in omega (arith, length-map (token_words o) (token_of_word o));
  prods = let few : length o.alternatives < limit = fit.prods in omega (arith, length-map o.alternatives (prod_of_alternative (numbering_of o)));
}

-- and the other way round
pub fit_parts : (limit : ℕ) (o : TextOutline) → FitStorage limit (spelled_parts o) → FitAll limit (numbering_of o) o
fit_parts limit o fit = record {
  rules = let few : length (map rule_of_word (rule_words o)) < limit = fit.rules in omega (arith, length-map (rule_words o) rule_of_word);
  tokens = let few : length (map (token_of_word o) (token_words o)) < limit = fit.tokens in omega (arith, length-map (token_words o) (token_of_word o));
  prods = let few : length (map (prod_of_alternative (numbering_of o)) o.alternatives) < limit = fit.prods in omega (arith, length-map o.alternatives (prod_of_alternative (numbering_of o)));
}

-- the start rule of clean declarations is defined
clean_start : (o : TextOutline) → IsClean o → (w : PlacedWord) → slice_get o.starts 0 ≡ Some w → is_among w.name (rule_words o) ≡ true
clean_start o clean w is =
    subst (λ y. is_among y.name (rule_words o) ≡ true) (get_or_from_slice_get o.starts 0 w w is)
    (clean.names_known.start_defined 0 w (slice_get_within o.starts 0 w is))

-- clean declarations and rules that fit the storage type make a grammar
pub clean_sound : (limit : ℕ) (o : TextOutline) → AreOfDefinedRules o → IsClean o → FitAll limit (numbering_of o) o → AreSound limit (spelled_parts o)
clean_sound limit o of clean fit =
    let n = numbering_of o in
    let some : 0 < length (rule_words o) = some_rules o.defined clean.some_rule in
    let rules_len : length (map rule_of_word (rule_words o)) ≡ length (rule_words o) = length-map (rule_words o) rule_of_word in
    let tokens_len : length (map (token_of_word o) (token_words o)) ≡ length (token_words o) = length-map (token_words o) (token_of_word o) in
    let start = start_step n (slice_get o.starts 0) some (λ w is. clean_start o clean w is) in
    record {
      rules = mapped_some rule_of_word (rule_words o) some;
      storage = parts_fit limit o fit;
      start = record { added = start.0; within = omega (arith, start.1) };
      symbols = subst (λ r. All (IsDeclaredProd (r + 1) (length (map (token_of_word o) (token_words o)))) (spelled_parts o).prods) (sym rules_len)
          (subst (λ t. All (IsDeclaredProd (length (rule_words o) + 1) t) (spelled_parts o).prods) (sym tokens_len)
          (All-map (IsDeclaredProd (length (rule_words o) + 1) (length (token_words o))) (prod_of_alternative n) o.alternatives
          (All-weaker (AreNumbered n) (λ (x : TextAlternative). IsDeclaredProd (length (rule_words o) + 1) (length (token_words o)) (prod_of_alternative n x))
          (prod_listed n) o.alternatives (clean_numbers o of clean))));
    }

-- a text spells one grammar
pub spells_one : OutlineIsOne → SpellsOne
spells_one one text g h a b =
    a.is ∙ ap (λ o. grammar_of (spelled_parts o)) (one text a.outline b.outline a.reads b.reads) ∙ sym b.is
