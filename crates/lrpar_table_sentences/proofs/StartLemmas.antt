-- How rules can begin with a token. What is kept is right (there is a tree that begins so), and once each production that can begin lets
-- its rule begin, all is kept: by induction on a tree whose first token it is.
use Rattle.std.proofs.Common.{◌≡◌, ◌<◌, ◌≤◌, ◌+◌, ◌⊎◌, ◌∙◌, if◌then◌else◌, refl, sym, ap, subst, inl, inr, arith, ℕ, zero, suc, Bool, true, false, cond, nat_eq, not, List, [], ◌∷◌, ◌++◌, Option, Some, None, drop, get_or, length, map, set}
use Rattle.std.specs.Option.{is_none, is_some, option_eq, option_map, option_map_or}
use Rattle.std.proofs.lemmas.Bool.{cases_eq, eq-eqb, eqb-true, false≢true}
use Rattle.std.proofs.lemmas.List.{get_or-set_other, get_or-set_same, length-set, map-set}
use Rattle.std.proofs.lemmas.List.Sums.{sum_by-set}
use Rattle.lrpar_grammar_places.specs.declared.span.PIdx.{PIdx}
use Rattle.lrpar_grammar_places.specs.declared.span.Symbol.{Symbol}
use Rattle.lrpar_grammar.specs.Grammar.{Grammar, GrammarSymbol, Nonterminal, Terminal, prods_len, rule_of, rules_len, symbols_of}
use Rattle.lrpar_grammar.specs.Symbols.{symbol_of}
use Rattle.lrpar_grammar.specs.Tree.{Tree, Forest, Leaf, Branch, Nil, Cons, leaves, forest_leaves}
use Rattle.lrpar_table_first.proofs.RowLemmas.{symbols_from}
use Rattle.lrpar_table_sentences.specs.Choices.{AreRight, AreShortest, ChoiceOf}
use Rattle.lrpar_table_sentences.specs.Lens.{len_at, sum_of_lens}
use Rattle.lrpar_table_sentences.specs.Starts.{AreStarts, CanStart, ForestStarts, StartOf, Starts, begins, further, is_zero, index_if, begin_index, start_at, start_of, starts_of, starts_open}
use Rattle.lrpar_table_sentences.specs.Texts.{AreTreesOf, IsTreeOf, width}
use Rattle.lrpar_table_sentences.specs.declared.begins.Start.{Start}
use Rattle.lrpar_table_sentences.proofs.LenLemmas.{added_parts, have_len, option_cases, symbol_least, symbol_none, tree_kept, trees_kept}

-- one of two
bool_cases : (b : Bool) → (b ≡ true) ⊎ (b ≡ false)
bool_cases true = inl refl
bool_cases false = inr refl

module _ (choices : List (Option ChoiceOf)) (starts : List (Option StartOf)) (first : ℕ) (s : GrammarSymbol) (ss : List GrammarSymbol) where
  -- the place in a list with one symbol more at its head
  rest_place : Bool → Bool → Option ℕ
  rest_place here none = if here then Some 0 else (if none then further (begin_index choices starts first ss) else None)

  pub place_begins : begins starts first s ≡ true → begin_index choices starts first (s ∷ ss) ≡ Some 0
  place_begins here =
      ap (λ (b : Bool). if b then Some 0 else (if is_zero (len_at choices s) then further (begin_index choices starts first ss) else None)) here

  pub place_stops : begins starts first s ≡ false → is_zero (len_at choices s) ≡ false → begin_index choices starts first (s ∷ ss) ≡ None
  place_stops not_here none =
      ap (λ (b : Bool). if b then Some 0 else (if is_zero (len_at choices s) then further (begin_index choices starts first ss) else None)) not_here
      ∙ ap (λ (b : Bool). if b then further (begin_index choices starts first ss) else None) none

  pub place_on : begins starts first s ≡ false → is_zero (len_at choices s) ≡ true
      → begin_index choices starts first (s ∷ ss) ≡ further (begin_index choices starts first ss)
  place_on not_here none =
      ap (λ (b : Bool). if b then Some 0 else (if is_zero (len_at choices s) then further (begin_index choices starts first ss) else None)) not_here
      ∙ ap (λ (b : Bool). if b then further (begin_index choices starts first ss) else None) none

zero_is : (o : Option ℕ) → is_zero o ≡ option_eq nat_eq o (Some 0)
zero_is None = refl
zero_is (Some n) = refl

-- places as a loop goes on from place i
abbrev from_place : ℕ → Option ℕ → Option ℕ
from_place i o = option_map (λ n. i + n) o

module _ (choices : List (Option ChoiceOf)) (starts : List (Option StartOf)) (first : ℕ) (i : ℕ) (rest : List GrammarSymbol) (all : Option ℕ)
    (so_far : option_map (λ n. i + n) (begin_index choices starts first rest) ≡ all) where
  pub place_ends : rest ≡ [] → None ≡ all
  place_ends is = ap (λ (w : List GrammarSymbol). option_map (λ n. i + n) (begin_index choices starts first w)) (sym is) ∙ so_far

  module _ (s : GrammarSymbol) (more : List GrammarSymbol) (is : rest ≡ s ∷ more) (b : Bool) (fact : b ≡ begins starts first s) where
    place_found : b ≡ true → Some i ≡ all
    place_found here =
        let same : i ≡ i + 0 = omega arith in
        ap (λ (n : ℕ). Some n) same ∙ ap (option_map (λ n. i + n)) (sym (place_begins choices starts first s more (sym fact ∙ here)))
        ∙ ap (λ (w : List GrammarSymbol). option_map (λ n. i + n) (begin_index choices starts first w)) (sym is) ∙ so_far

    place_none : b ≡ false → option_eq nat_eq (len_at choices s) (Some 0) ≡ false → None ≡ all
    place_none not_here some =
        ap (option_map (λ n. i + n)) (sym (place_stops choices starts first s more (sym fact ∙ not_here) (zero_is (len_at choices s) ∙ some)))
        ∙ ap (λ (w : List GrammarSymbol). option_map (λ n. i + n) (begin_index choices starts first w)) (sym is) ∙ so_far

    shift : (o : Option ℕ) → option_map (λ n. (i + 1) + n) o ≡ option_map (λ n. i + n) (further o)
    shift None = refl
    shift (Some n) = let same : (i + 1) + n ≡ i + (n + 1) = omega arith in ap (λ (m : ℕ). Some m) same

    place_more : b ≡ false → option_eq nat_eq (len_at choices s) (Some 0) ≡ true → option_map (λ n. (i + 1) + n) (begin_index choices starts first more) ≡ all
    place_more not_here none =
        shift (begin_index choices starts first more)
        ∙ ap (option_map (λ n. i + n)) (sym (place_on choices starts first s more (sym fact ∙ not_here) (zero_is (len_at choices s) ∙ none)))
        ∙ ap (λ (w : List GrammarSymbol). option_map (λ n. i + n) (begin_index choices starts first w)) (sym is) ∙ so_far

-- the same of symbols of code, at the place that was read
module _ {S : Type 0} (index : S → ℕ) (choices : List (Option ChoiceOf)) (starts : List (Option StartOf)) (first : ℕ) (symbols : List (Symbol S)) (i : ℕ)
    (all : Option ℕ) (so_far : option_map (λ n. i + n) (begin_index choices starts first (drop i (map (symbol_of index) symbols))) ≡ all) (symbol : Symbol S)
    (within : i < length symbols) (read : symbol ≡ get_or symbols i symbol) (b : Bool) (fact : b ≡ begins starts first (symbol_of index symbol)) where
  pub found_at : b ≡ true → Some i ≡ all
  found_at =
      place_found choices starts first i (drop i (map (symbol_of index) symbols)) all so_far (symbol_of index symbol) (drop (i + 1) (map (symbol_of index) symbols))
      (symbols_from index symbols i symbol within read) b fact

  pub none_from : b ≡ false → option_eq nat_eq (len_at choices (symbol_of index symbol)) (Some 0) ≡ false → None ≡ all
  none_from =
      place_none choices starts first i (drop i (map (symbol_of index) symbols)) all so_far (symbol_of index symbol) (drop (i + 1) (map (symbol_of index) symbols))
      (symbols_from index symbols i symbol within read) b fact

  pub more_after : b ≡ false → option_eq nat_eq (len_at choices (symbol_of index symbol)) (Some 0) ≡ true
      → option_map (λ n. (i + 1) + n) (begin_index choices starts first (drop (i + 1) (map (symbol_of index) symbols))) ≡ all
  more_after =
      place_more choices starts first i (drop i (map (symbol_of index) symbols)) all so_far (symbol_of index symbol) (drop (i + 1) (map (symbol_of index) symbols))
      (symbols_from index symbols i symbol within read) b fact

-- a place is one of the symbols
further_parts : (o : Option ℕ) (k : ℕ) → further o ≡ Some k → (n : ℕ) × (o ≡ Some n) × (n + 1 ≡ k)
further_parts None k is = absurd (cc)
further_parts (Some n) k is = let same : n + 1 ≡ k = cc in (n, refl, same)

-- the cases in which there is a place
place_cases : (choices : List (Option ChoiceOf)) (starts : List (Option StartOf)) (first : ℕ) (s : GrammarSymbol) (ss : List GrammarSymbol) (k : ℕ)
    → begin_index choices starts first (s ∷ ss) ≡ Some k
    → ((begins starts first s ≡ true) × (k ≡ 0)) ⊎ ((is_zero (len_at choices s) ≡ true) × ((n : ℕ) × (begin_index choices starts first ss ≡ Some n) × (n + 1 ≡ k)))
place_cases choices starts first s ss k is =
    elim (bool_cases (begins starts first s)) [
      | inl here ↦
          let zero_place = sym (place_begins choices starts first s ss here) ∙ is in
          let same : 0 ≡ k = cc in inl (here, sym same)
      | inr not_here ↦
          elim (bool_cases (is_zero (len_at choices s))) [
            | inl none ↦ inr (none, further_parts (begin_index choices starts first ss) k (sym (place_on choices starts first s ss not_here none) ∙ is))
            | inr some ↦ let never = sym (place_stops choices starts first s ss not_here some) ∙ is in absurd (cc)
          ]
    ]

pub place_within : (choices : List (Option ChoiceOf)) (starts : List (Option StartOf)) (first : ℕ) (ss : List GrammarSymbol) (k : ℕ)
    → begin_index choices starts first ss ≡ Some k → k < length ss
place_within choices starts first [] k is = absurd (cc)
place_within choices starts first (s ∷ ss) k is =
    elim (place_cases choices starts first s ss k is) as (λ _. k < length (s ∷ ss)) [
      | inl here ↦ let same = here.1 in omega (arith, same)
      | inr later ↦
          let rest = later.1 in
          let low = place_within choices starts first ss rest.0 rest.1 in
          let same = rest.2 in omega (arith, low, same)
    ]

-- a symbol without tokens
zero_len : (o : Option ℕ) → is_zero o ≡ true → o ≡ Some 0
zero_len None is = absurd (false≢true is)
zero_len (Some n) is = ap (λ (m : ℕ). Some m) (eqb-true n 0 is)

module _ (g : Grammar) (most : ℕ) (choices : List (Option ChoiceOf)) (right : AreRight g most choices) (first : ℕ) where
  module _ (starts : List (Option StartOf)) (trees : (r : ℕ) (x : StartOf) → start_at starts r ≡ Some x → (tree : Tree ℕ) × Starts g choices starts first tree (Nonterminal r)) where
    -- a symbol that begins with the token has a tree that does
    pub begin_tree : (s : GrammarSymbol) → begins starts first s ≡ true → (tree : Tree ℕ) × Starts g choices starts first tree s
    begin_tree (Terminal t) here = (Leaf t, (refl, eqb-true t first here))
    begin_tree (Nonterminal r) here =
        elim (option_cases (start_at starts r)) [
          | inl none ↦ absurd (false≢true (sym (ap is_some none) ∙ here))
          | inr some ↦ trees r some.0 some.1
        ]

    -- and so have symbols with a length and a place
    pub place_trees : 1 ≤ most → (ss : List GrammarSymbol) (len k : ℕ) → sum_of_lens most choices ss ≡ Some len → begin_index choices starts first ss ≡ Some k
        → (ts : Forest ℕ) × ForestStarts g choices starts first k ts ss
    place_trees positive [] len k total is = absurd (cc)
    place_trees positive (s ∷ ss) len k total is =
        let parts = added_parts most (len_at choices s) (sum_of_lens most choices ss) len total in
        elim (place_cases choices starts first s ss k is) [
          | inl here ↦
              let one = begin_tree s here.0 in
              let others = trees_kept g most choices right ss parts.1 parts.3 in
              (Cons one.0 others.0, subst (λ (n : ℕ). ForestStarts g choices starts first n (Cons one.0 others.0) (s ∷ ss)) (sym here.1) (one.1, others.1))
          | inr later ↦
              let one = tree_kept g most choices right s 0 (zero_len (len_at choices s) later.0) in
              let rest = later.1 in
              let others = place_trees positive ss parts.1 rest.0 parts.3 rest.1 in
              let wide = one.2 in
              let none : width one.0 ≡ 0 = omega (arith, wide, positive) in
              let next : suc rest.0 ≡ k = let same = rest.2 in omega (arith, same) in
              (Cons one.0 others.0, subst (λ (n : ℕ). ForestStarts g choices starts first n (Cons one.0 others.0) (s ∷ ss)) next (one.1, none, others.1))
        ]

  module _ (old new : List (Option StartOf)) (keeps : (r : ℕ) (x : StartOf) → start_at old r ≡ Some x → start_at new r ≡ Some x) where
    mutual
      pub starts_more : (t : Tree ℕ) (s : GrammarSymbol) → Starts g choices old first t s → Starts g choices new first t s
      starts_more (Leaf x) (Terminal t) h = h
      starts_more (Leaf x) (Nonterminal r) h = absurd h
      starts_more (Branch p children) (Terminal t) h = absurd h
      starts_more (Branch p children) (Nonterminal r) h = (h.0, keeps r _ h.1, forest_starts_more h.0 children (symbols_of g p) h.2)

      pub forest_starts_more : (k : ℕ) (ts : Forest ℕ) (ss : List GrammarSymbol) → ForestStarts g choices old first k ts ss → ForestStarts g choices new first k ts ss
      forest_starts_more k Nil ss h = absurd h
      forest_starts_more k (Cons t ts) [] h = absurd h
      forest_starts_more zero (Cons t ts) (s ∷ ss) h = (starts_more t s h.0, h.1)
      forest_starts_more (suc k) (Cons t ts) (s ∷ ss) h = (h.0, h.1, forest_starts_more k ts ss h.2)

  -- one more rule can begin
  module _ (starts : List (Option StartOf)) (are : AreStarts g choices first starts) (p k len : ℕ) (known : p < prods_len g) (low : rule_of g p < rules_len g)
      (none : start_at starts (rule_of g p) ≡ None) (total : sum_of_lens most choices (symbols_of g p) ≡ Some len)
      (place : begin_index choices starts first (symbols_of g p) ≡ Some k) where
    abbrev grown : List (Option StartOf)
    grown = set starts (rule_of g p) (Some (record { prod = p; place = k }))

    here : start_at grown (rule_of g p) ≡ Some (record { prod = p; place = k })
    here = let count = are.rules in get_or-set_same starts (rule_of g p) _ None (omega (arith, low, count))

    there : (r : ℕ) → (r ≡ rule_of g p → ⊥) → start_at grown r ≡ start_at starts r
    there r other = get_or-set_other starts (rule_of g p) r _ None other

    keeps : (r : ℕ) (x : StartOf) → start_at starts r ≡ Some x → start_at grown r ≡ Some x
    keeps r x at =
        elim (cases_eq r (rule_of g p)) [
          | inl same ↦ let own = ap (start_at starts) same in absurd (cc)
          | inr other ↦ there r other ∙ at
        ]

    pub grown_right : 1 ≤ most → AreStarts g choices first grown
    grown_right positive =
        let made = place_trees starts are.trees positive (symbols_of g p) len k total place in
        let inside = place_within choices starts first (symbols_of g p) k place in
        record {
          rules = length-set starts (rule_of g p) _ ∙ are.rules;
          within = λ r x at.
              elim (cases_eq r (rule_of g p)) [
                | inl same ↦
                    let own : Some (record { prod = p; place = k }) ≡ Some x = sym here ∙ ap (start_at grown) (sym same) ∙ at in
                    let is : record { prod = p; place = k } ≡ x = ap (λ (o : Option StartOf). option_map_or (λ (y : StartOf). y) o x) own in
                    subst (λ (y : StartOf). (y.prod < prods_len g) × (y.place < length (symbols_of g y.prod)) × (rule_of g y.prod ≡ r)) is (known, inside, sym same)
                | inr other ↦ are.within r x (sym (there r other) ∙ at)
              ];
          trees = λ r x at.
              elim (cases_eq r (rule_of g p)) [
                | inl same ↦
                    (Branch p made.0, (k, ap (start_at grown) same ∙ here, forest_starts_more starts grown keeps k made.0 (symbols_of g p) made.1))
                | inr other ↦
                    let one = are.trees r x (sym (there r other) ∙ at) in (one.0, starts_more starts grown keeps one.0 (Nonterminal r) one.1)
              ];
        }

-- fewer rules can't begin if one more can
pub starts_less : (starts : List (Option StartOf)) (r : ℕ) (x : StartOf) → r < length starts → start_at starts r ≡ None
    → starts_open (set starts r (Some x)) < starts_open starts
starts_less starts r x low none =
    let f : Option StartOf → ℕ = λ o. cond (is_none o) 1 0 in
    let sums = sum_by-set f starts r (Some x) None low in
    let one : f (start_at starts r) ≡ 1 = ap f none in
    omega (arith, sums, one)

-- a joined list that begins with a token
joined_first : (xs ys : List ℕ) (x : ℕ) (rest : List ℕ) → xs ++ ys ≡ x ∷ rest → ((xs ≡ []) × (ys ≡ x ∷ rest)) ⊎ ((more : List ℕ) × (xs ≡ x ∷ more))
joined_first [] ys x rest is = inl (refl, is)
joined_first (z ∷ zs) ys x rest is = let same : z ≡ x = cc in inr (zs, ap (λ y. y ∷ zs) same)

module _ (g : Grammar) (most : ℕ) (choices : List (Option ChoiceOf)) (shortest : AreShortest g most choices) (first : ℕ) (starts : List (Option StartOf))
    (closed : (p : ℕ) → p < prods_len g → CanStart g most choices first starts p) where
  mutual
    -- if a tree's first token is the token, its symbol begins with it
    tree_begins : (t : Tree ℕ) (s : GrammarSymbol) (rest : List ℕ) → IsTreeOf g s t → leaves t ≡ first ∷ rest → begins starts first s ≡ true
    tree_begins (Leaf x) (Terminal t) rest fit is = let same : x ≡ first = cc in eq-eqb t first (sym fit ∙ same)
    tree_begins (Leaf x) (Nonterminal r) rest fit is = absurd fit
    tree_begins (Branch p children) (Terminal t) rest fit is = absurd fit
    tree_begins (Branch p children) (Nonterminal r) rest fit is =
        let place = forest_begins children (symbols_of g p) rest fit.2 is in
        let len = have_len g most choices shortest (symbols_of g p) (children, fit.2) in
        let start = closed p fit.0 len.0 place.0 len.1 place.1 in
        ap is_some (ap (start_at starts) (sym fit.1) ∙ start.1)

    pub forest_begins : (ts : Forest ℕ) (ss : List GrammarSymbol) (rest : List ℕ) → AreTreesOf g ss ts → forest_leaves ts ≡ first ∷ rest
        → (k : ℕ) × (begin_index choices starts first ss ≡ Some k)
    forest_begins Nil ss rest fit is = absurd (cc)
    forest_begins (Cons t ts) [] rest fit is = absurd fit
    forest_begins (Cons t ts) (s ∷ ss) rest fit is =
        elim (joined_first (leaves t) (forest_leaves ts) first rest is) [
          | inr own ↦ (0, place_begins choices starts first s ss (tree_begins t s own.0 fit.0 own.1))
          | inl later ↦
              let others = forest_begins ts ss rest fit.1 later.1 in
              elim (bool_cases (begins starts first s)) [
                | inl here ↦ (0, place_begins choices starts first s ss here)
                | inr not_here ↦
                    elim (option_cases (len_at choices s)) [
                      | inl none ↦ absurd (symbol_none g most choices shortest s t none fit.0)
                      | inr some ↦
                          let least = symbol_least g most choices shortest.right s some.0 t some.1 fit.0 in
                          let empty : width t ≡ 0 = ap (λ (xs : List ℕ). length xs) later.0 in
                          let nothing : is_zero (len_at choices s) ≡ true = ap is_zero some.1 ∙ eq-eqb some.0 0 (omega (arith, least, empty)) in
                          (others.0 + 1, place_on choices starts first s ss not_here nothing ∙ ap further others.1)
                    ]
              ]
        ]

-- whether a length isn't zero, as it was tested
pub zero_by : (o len : Option ℕ) (b c : Bool) → o ≡ len → b ≡ not (option_eq nat_eq o (Some 0)) → b ≡ c → option_eq nat_eq len (Some 0) ≡ not c
zero_by o len b c is fact at =
    ap (λ (x : Option ℕ). option_eq nat_eq x (Some 0)) (sym is) ∙ twice (option_eq nat_eq o (Some 0)) ∙ ap not (sym fact ∙ at)
  where
    twice : (x : Bool) → x ≡ not (not x)
    twice true = refl
    twice false = refl

-- if a rule can begin, or the production has no length or no place, nothing is missing
pub starts_already : (g : Grammar) (most : ℕ) (choices : List (Option ChoiceOf)) (first : ℕ) (starts : List (Option StartOf)) (p r : ℕ) → r ≡ rule_of g p
    → is_some (start_at starts r) ≡ true → CanStart g most choices first starts p
starts_already g most choices first starts p r is some len k total place =
    elim (option_cases (start_at starts r)) [
      | inl none ↦ absurd (false≢true (sym (ap is_some none) ∙ some))
      | inr found ↦ (found.0, ap (start_at starts) (sym is) ∙ found.1)
    ]

pub starts_nowhere : (g : Grammar) (most : ℕ) (choices : List (Option ChoiceOf)) (first : ℕ) (starts : List (Option StartOf)) (p : ℕ)
    → index_if (sum_of_lens most choices (symbols_of g p)) (begin_index choices starts first (symbols_of g p)) ≡ None → CanStart g most choices first starts p
starts_nowhere g most choices first starts p none len k total place =
    let both = ap (λ (o : Option ℕ). index_if o (begin_index choices starts first (symbols_of g p))) (sym total) ∙ none in
    let never = sym place ∙ both in absurd (cc)

-- if there is a place there is a length
pub place_if_parts : (len place : Option ℕ) (k : ℕ) → index_if len place ≡ Some k → (n : ℕ) × (len ≡ Some n) × (place ≡ Some k)
place_if_parts None place k is = absurd (cc)
place_if_parts (Some n) place k is = (n, refl, is)

module _ {S : Type 0} (index : S → ℕ) (g : Grammar) (most : ℕ) (choices : List (Option ChoiceOf)) (right : AreRight g most choices) (first : ℕ)
    (starts : List (Option (Start S))) (are : AreStarts g choices first (starts_of index starts)) (prod : PIdx S) (k r : ℕ) (known : index prod.0 < prods_len g)
    (is : r ≡ rule_of g (index prod.0)) (low : r < rules_len g) (none : start_at (starts_of index starts) r ≡ None)
    (found : index_if (sum_of_lens most choices (symbols_of g (index prod.0))) (begin_index choices (starts_of index starts) first (symbols_of g (index prod.0))) ≡ Some k)
  where
    grown_list : starts_of index (set starts r (Some (record { prod = prod; place = k })))
        ≡ set (starts_of index starts) (rule_of g (index prod.0)) (Some (record { prod = index prod.0; place = k }))
    grown_list =
        map-set (option_map (start_of index)) starts r (Some (record { prod = prod; place = k }))
        ∙ ap (λ (n : ℕ). set (starts_of index starts) n (Some (record { prod = index prod.0; place = k }))) is

    pub grown_starts : 1 ≤ most → AreStarts g choices first (starts_of index (set starts r (Some (record { prod = prod; place = k }))))
    grown_starts positive =
        let parts = place_if_parts (sum_of_lens most choices (symbols_of g (index prod.0))) (begin_index choices (starts_of index starts) first (symbols_of g (index prod.0))) k found in
        subst (AreStarts g choices first) (sym grown_list)
        (grown_right g most choices right first (starts_of index starts) are (index prod.0) k parts.0 known (subst (λ (n : ℕ). n < rules_len g) is low)
        (ap (start_at (starts_of index starts)) (sym is) ∙ none) parts.1 parts.2 positive)

    pub grown_less : starts_open (starts_of index (set starts r (Some (record { prod = prod; place = k })))) < starts_open (starts_of index starts)
    grown_less =
        let count = are.rules in
        subst (λ (xs : List (Option StartOf)). starts_open xs < starts_open (starts_of index starts)) (sym grown_list)
        (starts_less (starts_of index starts) (rule_of g (index prod.0)) _ (omega (arith, count, is, low)) (ap (start_at (starts_of index starts)) (sym is) ∙ none))

-- nothing, as it was tested
pub is_none_by : {A : Type 0} (o : Option A) → is_some o ≡ false → o ≡ None
is_none_by None is = refl
is_none_by (Some x) is = absurd (false≢true (sym is))

-- if no rule can begin, all is right
pub starts_none : (g : Grammar) (choices : List (Option ChoiceOf)) (first : ℕ) (starts : List (Option StartOf)) → length starts ≡ rules_len g
    → ((r : ℕ) → start_at starts r ≡ None) → AreStarts g choices first starts
starts_none g choices first starts count none = record {
  rules = count;
  within = λ r x at. let never = none r in absurd (cc);
  trees = λ r x at. let never = none r in absurd (cc);
}
