-- Marks of the reachable rules. Once the right side of each production whose rule is marked is marked, all reachable rules are.
use Rattle.std.proofs.Common.{◌≡◌, ◌<◌, ◌≤◌, ◌+◌, ◌↔◌, ◌∙◌, sym, ap, subst, inl, inr, arith, ℕ, Bool, true, false, cond, not, IsTrue, List, Option, Some, None, get_or, length, map, replicate, set, slice_get}
use Rattle.std.specs.List.{Contains}
use Rattle.std.specs.Option.{is_some, option_map}
use Rattle.std.proofs.lemmas.Bool.{cases_eq, cases_lt, false≢true}
use Rattle.std.proofs.lemmas.List.{get_or-map, get_or-replicate, get_or-set_other, get_or-set_same, get_or_past, length-map, length-replicate, length-set}
use Rattle.std.proofs.lemmas.List.Sums.{sum_by-set}
use Rattle.std.proofs.lemmas.Option.{get_or_from_slice_get, slice_get-get_or, slice_get_within}
use Rattle.lrpar_grammar.specs.Grammar.{Grammar, GrammarSymbol, IsWellFormed, Nonterminal, Terminal, prods_len, rule_of, rules_len, symbols_of, tokens_len}
use Rattle.lrpar_grammar.specs.Symbols.{symbol_of}
use Rattle.lrpar_grammar_places.specs.declared.span.Symbol.{Symbol}
use Rattle.lrpar_table_first.specs.FirstRows.{IsSymbolBelow}
use Rattle.lrpar_table_first.proofs.SymbolLemmas.{prod_symbols}
use Rattle.lrpar_table_sentences.specs.Choices.{AreShortest, ChoiceOf, choice_at, choice_of}
use Rattle.lrpar_table_sentences.specs.Reachable.{Added, AreAllMarked, AreMarked, EachReachableHasTree, HasTree, IsFirstUnproductive, IsMarkedSymbol, IsReachableRule, IsReachableSymbol, MarksOn, OnRight, is_marked, unmarked}
use Rattle.lrpar_table_sentences.specs.declared.minimal_sentences.Choice.{Choice}
use Rattle.lrpar_table_sentences.proofs.LenLemmas.{follows_fits, option_cases}

-- one rule more is marked
module _ (marks : List Bool) (r : ℕ) (low : r < length marks) (fresh : is_marked marks r ≡ false) where
  here : is_marked (set marks r true) r ≡ true
  here = get_or-set_same marks r true false low

  there : (other : ℕ) → (other ≡ r → ⊥) → is_marked (set marks r true) other ≡ is_marked marks other
  there other apart = get_or-set_other marks r other true false apart

  pub mark_less : unmarked (set marks r true) < unmarked marks
  mark_less =
      let f : Bool → ℕ = λ b. cond (not b) 1 0 in
      let sums = sum_by-set f marks r true false low in
      let one : f (is_marked marks r) ≡ 1 = ap f fresh in
      omega (arith, sums, one)

  pub mark_right : (g : Grammar) → AreMarked g marks → IsReachableRule g r → AreMarked g (set marks r true)
  mark_right g are reached = record {
    rules = length-set marks r true ∙ are.rules;
    added =
        elim (cases_eq 0 r) as (λ _. IsTrue (is_marked (set marks r true) 0)) [
          | inl same ↦ subst (λ (n : ℕ). IsTrue (is_marked (set marks r true) n)) (sym same) here
          | inr other ↦ there 0 other ∙ are.added
        ];
    reached = λ n marked.
        elim (cases_eq n r) as (λ _. IsReachableRule g n) [
          | inl same ↦ subst (IsReachableRule g) (sym same) reached
          | inr other ↦ are.reached n (sym (there n other) ∙ marked)
        ];
  }

-- at first the added rule alone is marked
pub added_marked : (g : Grammar) (r : ℕ) (marks : List Bool) → r ≡ 0 → r < rules_len g → marks ≡ set (replicate (rules_len g) false) r true → AreMarked g marks
added_marked g r marks zero_rule low are =
    let none = replicate (rules_len g) false in
    let long : r < length none = let count = length-replicate (rules_len g) false in omega (arith, low, count) in
    subst (AreMarked g) (sym are)
    (record {
      rules = length-set none r true ∙ length-replicate (rules_len g) false;
      added = subst (λ (n : ℕ). IsTrue (is_marked (set none r true) n)) zero_rule (get_or-set_same none r true false long);
      reached = λ n marked.
          elim (cases_eq n r) as (λ _. IsReachableRule g n) [
            | inl same ↦ subst (IsReachableRule g) (sym (same ∙ zero_rule)) Added
            | inr other ↦ absurd (false≢true (sym (none_marked n) ∙ sym (get_or-set_other none r n true false other) ∙ marked))
          ];
    })
  where
    none_marked : (n : ℕ) → is_marked (replicate (rules_len g) false) n ≡ false
    none_marked n =
        elim (cases_lt n (rules_len g)) [
          | inl within ↦ get_or-replicate (rules_len g) n false false within
          | inr past ↦ get_or_past (replicate (rules_len g) false) n false (let count = length-replicate (rules_len g) false in omega (arith, past, count))
        ]

-- the symbol in a place is marked
abbrev pub MarkedAt : List GrammarSymbol → List Bool → ℕ → Type 0
MarkedAt symbols marks k = (s : GrammarSymbol) → slice_get symbols k ≡ Some s → IsMarkedSymbol marks s

pub marked_at : (symbols : List GrammarSymbol) (marks : List Bool) (k : ℕ) (s : GrammarSymbol) → slice_get symbols k ≡ Some s → IsMarkedSymbol marks s
    → MarkedAt symbols marks k
marked_at symbols marks k s at marked other is =
    let same : Some s ≡ Some other = sym at ∙ is in
    subst (IsMarkedSymbol marks) (some_same s other same) marked
  where
    some_same : (x y : GrammarSymbol) → ◌≡◌ {A = Option GrammarSymbol} (Some x) (Some y) → x ≡ y
    some_same x y both = cc

-- the symbol in a place of a production, as it is looked at
pub symbol_at : {S : Type 0} (index : S → ℕ) (symbols : List (Symbol S)) (all : List GrammarSymbol) (k : ℕ) (symbol : Symbol S) → map (symbol_of index) symbols ≡ all
    → k < length symbols → symbol ≡ get_or symbols k symbol → slice_get all k ≡ Some (symbol_of index symbol)
symbol_at index symbols all k symbol are low is =
    let long : k < length (map (symbol_of index) symbols) = let count = length-map symbols (symbol_of index) in omega (arith, low, count) in
    subst (λ (w : List GrammarSymbol). slice_get w k ≡ Some (symbol_of index symbol)) are
    (slice_get-get_or (map (symbol_of index) symbols) k (symbol_of index symbol) long
    ∙ ap (λ (x : GrammarSymbol). Some x) (get_or-map (symbol_of index) symbols k symbol (symbol_of index symbol) low ∙ ap (symbol_of index) (sym is)))

-- all symbols are, if those in each place are
pub all_symbols : (symbols : List GrammarSymbol) (marks : List Bool) → ((k : ℕ) → k < length symbols → MarkedAt symbols marks k)
    → (s : GrammarSymbol) → Contains symbols s → IsMarkedSymbol marks s
all_symbols symbols marks each s has =
    each has.0 has.1 s (slice_get-get_or symbols has.0 s has.1 ∙ ap (λ (x : GrammarSymbol). Some x) has.2)

module _ (g : Grammar) (well : IsWellFormed g) (p : ℕ) (known : p < prods_len g) (k : ℕ) (s : GrammarSymbol) (at : slice_get (symbols_of g p) k ≡ Some s) where
  -- a rule on the right side of a production has a mark
  pub symbol_low : (marks : List Bool) → AreMarked g marks → (r : ℕ) → s ≡ Nonterminal r → r < length marks
  symbol_low marks are r is =
      let within = slice_get_within (symbols_of g p) k s at in
      let Below = IsSymbolBelow (rules_len g) (tokens_len g) in
      let own : Below s = subst Below (get_or_from_slice_get (symbols_of g p) k s s at) (prod_symbols g well p known k s within) in
      let low : r < rules_len g = subst Below is own in
      let count = are.rules in
      omega (arith, low, count)

  -- and is reachable, if the production's rule is
  pub symbol_reached : IsReachableRule g (rule_of g p) → IsReachableSymbol g s
  symbol_reached reached = reached_as s at
    where
      reached_as : (x : GrammarSymbol) → slice_get (symbols_of g p) k ≡ Some x → IsReachableSymbol g x
      reached_as (Terminal t) is = tt
      reached_as (Nonterminal r) is =
          OnRight p r known reached (k, slice_get_within (symbols_of g p) k (Nonterminal r) is, get_or_from_slice_get (symbols_of g p) k (Nonterminal r) (Nonterminal r) is)

-- a rule that isn't marked marks none
pub not_marked_on : (g : Grammar) (marks : List Bool) (p : ℕ) → is_marked marks (rule_of g p) ≡ false → MarksOn g marks p
not_marked_on g marks p none marked s has = absurd (false≢true (sym none ∙ marked))

-- if nothing is missing, all reachable rules are marked
pub all_marked : (g : Grammar) (marks : List Bool) → AreMarked g marks → ((p : ℕ) → p < prods_len g → MarksOn g marks p) → AreAllMarked g marks
all_marked g marks are closed = record { rules = are.rules; exact = λ r. (are.reached r, marked_if r) }
  where
    marked_if : (r : ℕ) → IsReachableRule g r → IsTrue (is_marked marks r)
    marked_if r Added = are.added
    marked_if r (OnRight p s known reached has) = closed p known (marked_if (rule_of g p) reached) (Nonterminal s) has

module _ (g : Grammar) (most : ℕ) (choices : List (Option ChoiceOf)) (shortest : AreShortest g most choices) where
  -- a rule with something kept has a tree
  pub kept_tree : (r : ℕ) (x : ChoiceOf) → choice_at choices r ≡ Some x → HasTree g r
  kept_tree r x at =
      let tree = shortest.right.trees r x at in (tree.0, follows_fits g most choices shortest.right tree.0 (Nonterminal r) tree.1)

  -- so the rules with something kept are the productive ones
  pub kept_exact : (r : ℕ) (kept : Bool) → kept ≡ is_some (choice_at choices r) → IsTrue kept ↔ HasTree g r
  kept_exact r kept is =
      elim (option_cases (choice_at choices r)) [
        | inl none ↦
            let no : kept ≡ false = is ∙ ap is_some none in
            (λ yes. absurd (false≢true (sym no ∙ yes)), λ has. absurd (shortest.all r none has.0 has.1))
        | inr some ↦ (λ yes. kept_tree r some.0 some.1, λ has. is ∙ ap is_some some.1)
      ]

  pub kept_by : {S : Type 0} (index : S → ℕ) (o : Option (Choice S)) (r n : ℕ) → option_map (choice_of index) o ≡ choice_at choices r → r ≡ n
      → is_some o ≡ true → HasTree g n
  kept_by index None r n is same some = absurd (false≢true some)
  kept_by index (Some x) r n is same some = subst (HasTree g) same (kept_tree r (choice_of index x) (sym is))

  -- one with nothing kept is unproductive
  pub first_unproductive : (marks : List Bool) → AreAllMarked g marks → (r : ℕ) → ((other : ℕ) → other < r → IsReachableRule g other → HasTree g other)
      → is_marked marks r ≡ true → choice_at choices r ≡ None → IsFirstUnproductive g r
  first_unproductive marks are r before marked none =
      record { unproductive = record { reached = (are.exact r).0 marked; none = λ has. shortest.all r none has.0 has.1 }; first = before }

-- a rule that isn't marked isn't reachable
pub not_reached : (g : Grammar) (marks : List Bool) → AreAllMarked g marks → (r : ℕ) → is_marked marks r ≡ false → IsReachableRule g r → HasTree g r
not_reached g marks are r none reached = absurd (false≢true (sym none ∙ (are.exact r).1 reached))

-- one rule more
pub one_more : (g : Grammar) (n : ℕ) → ((r : ℕ) → r < n → IsReachableRule g r → HasTree g r) → (IsReachableRule g n → HasTree g n)
    → (r : ℕ) → r < n + 1 → IsReachableRule g r → HasTree g r
one_more g n before here r low =
    elim (cases_eq r n) as (λ _. IsReachableRule g r → HasTree g r) [
      | inl same ↦ subst (λ (x : ℕ). IsReachableRule g x → HasTree g x) (sym same) here
      | inr other ↦ before r (omega (arith, low, other))
    ]

-- all of them
pub all_rules : (g : Grammar) (marks : List Bool) (n : ℕ) → AreAllMarked g marks → rules_len g ≤ n → ((r : ℕ) → r < n → IsReachableRule g r → HasTree g r)
    → EachReachableHasTree g
all_rules g marks n are past before r reached =
    elim (cases_lt r n) as (λ _. HasTree g r) [
      | inl low ↦ before r low reached
      | inr beyond ↦
          let count = are.rules in
          absurd (false≢true (sym (get_or_past marks r false (omega (arith, count, past, beyond))) ∙ (are.exact r).1 reached))
    ]
