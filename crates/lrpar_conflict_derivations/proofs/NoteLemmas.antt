-- The links of a rule that comes after a dot.
use Rattle.std.proofs.Common.{◌≡◌, ◌∙◌, sym, ap, subst, ℕ, Bool, true, false, IsTrue, List, [], ◌∷◌, All, drop}
use Rattle.std.proofs.lemmas.Bool.{false≢true}
use Rattle.lrpar_grammar.specs.Grammar.{Grammar, GrammarSymbol, IsWellFormed, Nonterminal, rules_len, symbols_of, tokens_len}
use Rattle.lrpar_table_first.specs.FirstRows.{AreFirsts, IsSymbolBelow, begins, dummy_lookahead}
use Rattle.lrpar_table_first.proofs.BeforeLemmas.{begins_is, symbols_below}
use Rattle.lrpar_table_items.proofs.SpreadLemmas.{same_rest, same_rule}
use Rattle.lrpar_conflict_derivations.specs.ClosureLinks.{AreNoted, ArePut, HasLink, IsStep, LinkOf, PassesOn}
use Rattle.lrpar_conflict_derivations.proofs.MarkLemmas.{put_then, put_weaker}

-- the link of a rule after the dot of production q at j
abbrev pub link_with : ℕ → Bool → ℕ → ℕ → Bool → ℕ → LinkOf
link_with r asked q j further above = record { rule = r; asked = asked; prod = q; dot = j; further = further; above = above }

-- such a link is a step
step_by : (g : Grammar) (token q j r : ℕ) (w : List GrammarSymbol) (asked further : Bool) (above : ℕ) (x : LinkOf) → x ≡ link_with r asked q j further above
    → drop j (symbols_of g q) ≡ Nonterminal r ∷ w → PassesOn g token w asked further → IsStep g token q j further above x
step_by g token q j r w asked further above x is before passes = record {
  prod = ap (λ (y : LinkOf). y.prod) is;
  dot = ap (λ (y : LinkOf). y.dot) is;
  further_is = ap (λ (y : LinkOf). y.further) is;
  above_is = ap (λ (y : LinkOf). y.above) is;
  rest = w;
  before = before ∙ ap (λ (n : ℕ). Nonterminal n ∷ w) (sym (ap (λ (y : LinkOf). y.rule) is));
  passes = subst (λ (b : Bool). PassesOn g token w b further) (sym (ap (λ (y : LinkOf). y.asked) is)) passes;
}

-- if no rule comes after the dot, nothing is to be linked
pub noted_nothing : (g : Grammar) (token q j : ℕ) (links : List LinkOf) (further : Bool)
    → ((r : ℕ) (w : List GrammarSymbol) → drop j (symbols_of g q) ≡ Nonterminal r ∷ w → ⊥) → AreNoted g token links q j further
noted_nothing g token q j links further none r w asked before passes = absurd (none r w before)

module _ (g : Grammar) (well : IsWellFormed g) (rows : List (List Bool)) (firsts : AreFirsts g rows) (token q j r : ℕ) (w : List GrammarSymbol)
    (before : drop j (symbols_of g q) ≡ Nonterminal r ∷ w) (listed : All (IsSymbolBelow (rules_len g) (tokens_len g)) w) (links : List LinkOf) where
  -- w begins with a token if it does by the FIRST sets
  passes_by : (t dummy : ℕ) (b : Bool) → dummy ≡ dummy_lookahead g → b ≡ begins dummy rows w t → b ≡ true → IsTrue (begins (dummy_lookahead g) rows w t)
  passes_by t dummy b marked is true_is = sym (ap (λ (n : ℕ). begins n rows w t) marked) ∙ sym is ∙ true_is

  fails_by : (t dummy : ℕ) (b : Bool) → dummy ≡ dummy_lookahead g → b ≡ begins dummy rows w t → b ≡ false → begins (dummy_lookahead g) rows w t ≡ false
  fails_by t dummy b marked is false_is = sym (ap (λ (n : ℕ). begins n rows w t) marked) ∙ sym is ∙ false_is

  first_by : (t dummy : ℕ) (b : Bool) → dummy ≡ dummy_lookahead g → b ≡ begins dummy rows w t → b ≡ true → PassesOn g t w true false
  first_by t dummy b marked is true_is =
      (begins_is g well rows firsts w (symbols_below (rules_len g) (tokens_len g) w listed) t).0 (passes_by t dummy b marked is true_is)

  -- the token is asked for on, if w begins with it
  passes_token : (t dummy : ℕ) (b : Bool) → t ≡ token → dummy ≡ dummy_lookahead g → b ≡ begins dummy rows w t → b ≡ true → PassesOn g token w true false
  passes_token t dummy b same marked is true_is = subst (λ (n : ℕ). PassesOn g n w true false) same (first_by t dummy b marked is true_is)

  -- and further up, if w derives nothing
  passes_through : (dummy : ℕ) (b : Bool) → dummy ≡ dummy_lookahead g → b ≡ begins dummy rows w dummy → b ≡ true → PassesOn g token w true true
  passes_through dummy b marked is true_is =
      subst (λ (n : ℕ). PassesOn g n w true false) marked (first_by dummy dummy b marked is true_is)

  own_rest : (s : ℕ) (v : List GrammarSymbol) → drop j (symbols_of g q) ≡ Nonterminal s ∷ v → v ≡ w
  own_rest s v also = same_rest s r v w (sym also ∙ before)

  own_link : (s : ℕ) (v : List GrammarSymbol) (asked : Bool) → drop j (symbols_of g q) ≡ Nonterminal s ∷ v → HasLink links asked r → HasLink links asked s
  own_link s v asked also has_one = subst (HasLink links asked) (sym (same_rule s r v w (sym also ∙ before))) has_one

  contrary : (t : ℕ) (v : List GrammarSymbol) → v ≡ w → begins (dummy_lookahead g) rows w t ≡ false → PassesOn g t v true false → ⊥
  contrary t v same none passes =
      let free = symbols_below (rules_len g) (tokens_len g) w listed in
      let passed = (begins_is g well rows firsts w free t).1 (subst (λ (u : List GrammarSymbol). PassesOn g t u true false) same passes) in
      false≢true (sym none ∙ passed)

  -- all is linked: if the token is asked for further up
  noted_further : (asked : Bool) → HasLink links true r → (s : ℕ) (v : List GrammarSymbol) → drop j (symbols_of g q) ≡ Nonterminal s ∷ v
      → PassesOn g token v asked true → HasLink links asked s
  noted_further true has_one s v also passes = own_link s v true also has_one
  noted_further false has_one s v also passes = absurd passes

  pub noted_asked : (further : Bool) → further ≡ true → HasLink links further r → AreNoted g token links q j further
  noted_asked further is has_one s v asked also passes =
      noted_further asked (subst (λ (b : Bool). HasLink links b r) is has_one) s v also (subst (λ (b : Bool). PassesOn g token v asked b) is passes)

  stopped_further : (asked : Bool) → begins (dummy_lookahead g) rows w (dummy_lookahead g) ≡ false → (s : ℕ) (v : List GrammarSymbol)
      → drop j (symbols_of g q) ≡ Nonterminal s ∷ v → PassesOn g token v asked true → HasLink links asked s
  stopped_further true none s v also passes = absurd (contrary (dummy_lookahead g) v (own_rest s v also) none passes)
  stopped_further false none s v also passes = absurd passes

  pub noted_stopped : (dummy : ℕ) (b further : Bool) → further ≡ true → dummy ≡ dummy_lookahead g → b ≡ begins dummy rows w dummy → b ≡ false
      → AreNoted g token links q j further
  noted_stopped dummy b further is marked by false_is s v asked also passes =
      let none = subst (λ (n : ℕ). begins (dummy_lookahead g) rows w n ≡ false) marked (fails_by dummy dummy b marked by false_is) in
      stopped_further asked none s v also (subst (λ (c : Bool). PassesOn g token v asked c) is passes)

  -- and if it isn't
  both_here : (asked : Bool) → HasLink links false r → HasLink links true r → (s : ℕ) (v : List GrammarSymbol)
      → drop j (symbols_of g q) ≡ Nonterminal s ∷ v → HasLink links asked s
  both_here true any_one asked_one s v also = own_link s v true also asked_one
  both_here false any_one asked_one s v also = own_link s v false also any_one

  pub noted_both : (further : Bool) → further ≡ false → HasLink links further r → HasLink links true r → AreNoted g token links q j further
  noted_both further is any_one asked_one s v asked also passes = both_here asked (subst (λ (b : Bool). HasLink links b r) is any_one) asked_one s v also

  any_here : (asked : Bool) → HasLink links false r → begins (dummy_lookahead g) rows w token ≡ false → (s : ℕ) (v : List GrammarSymbol)
      → drop j (symbols_of g q) ≡ Nonterminal s ∷ v → PassesOn g token v asked false → HasLink links asked s
  any_here true any_one none s v also passes = absurd (contrary token v (own_rest s v also) none passes)
  any_here false any_one none s v also passes = own_link s v false also any_one

  pub noted_any : (t dummy : ℕ) (b further : Bool) → further ≡ false → t ≡ token → dummy ≡ dummy_lookahead g → b ≡ begins dummy rows w t → b ≡ false
      → HasLink links further r → AreNoted g token links q j further
  noted_any t dummy b further is same marked by false_is any_one s v asked also passes =
      let none = subst (λ (n : ℕ). begins (dummy_lookahead g) rows w n ≡ false) same (fails_by t dummy b marked by false_is) in
      any_here asked (subst (λ (c : Bool). HasLink links c r) is any_one) none s v also (subst (λ (c : Bool). PassesOn g token v asked c) is passes)

-- the links that are put are steps
module _ (g : Grammar) (well : IsWellFormed g) (rows : List (List Bool)) (firsts : AreFirsts g rows) (token q j r : ℕ) (w : List GrammarSymbol)
    (before : drop j (symbols_of g q) ≡ Nonterminal r ∷ w) (listed : All (IsSymbolBelow (rules_len g) (tokens_len g)) w) (further : Bool) (above : ℕ) where
  steps_put : (asked : Bool) (old new : List LinkOf) → PassesOn g token w asked further → ArePut (λ x. x ≡ link_with r asked q j further above) old new
      → ArePut (IsStep g token q j further above) old new
  steps_put asked old new passes put =
      put_weaker (λ x. x ≡ link_with r asked q j further above) (IsStep g token q j further above) old new
      (λ x is. step_by g token q j r w asked further above x is before passes) put

  -- if the token is asked for further up, and w derives nothing
  pub put_through : further ≡ true → (dummy : ℕ) (b : Bool) → dummy ≡ dummy_lookahead g → b ≡ begins dummy rows w dummy → b ≡ true → (old new : List LinkOf)
      → ArePut (λ x. x ≡ link_with r further q j further above) old new → ArePut (IsStep g token q j further above) old new
  put_through asks dummy b marked is true_is old new put =
      let through = passes_through g well rows firsts token q j r w before listed [] dummy b marked is true_is in
      steps_put further old new (subst (λ (c : Bool). PassesOn g token w c c) (sym asks) through) put

  -- for any lookahead
  pub put_any : further ≡ false → (old new : List LinkOf) → ArePut (λ x. x ≡ link_with r further q j further above) old new
      → ArePut (IsStep g token q j further above) old new
  put_any asks old new put = steps_put further old new (subst (λ (c : Bool). PassesOn g token w c c) (sym asks) tt) put

  -- and for the token, if w begins with it
  pub put_both : further ≡ false → (t dummy : ℕ) (b : Bool) → t ≡ token → dummy ≡ dummy_lookahead g → b ≡ begins dummy rows w t → b ≡ true
      → (old middle new : List LinkOf) → ArePut (λ x. x ≡ link_with r further q j further above) old middle
      → ArePut (λ x. x ≡ link_with r true q j further above) middle new → ArePut (IsStep g token q j further above) old new
  put_both asks t dummy b same marked is true_is old middle new first second =
      let begun = passes_token g well rows firsts token q j r w before listed [] t dummy b same marked is true_is in
      put_then (IsStep g token q j further above) old middle new (put_any asks old middle first)
      (steps_put true middle new (subst (λ (c : Bool). PassesOn g token w true c) (sym asks) begun) second)

-- symbols of a grammar, by the numbers of its sets and tokens
pub below_by : (rules tokens len dummy : ℕ) (w : List GrammarSymbol) → len ≡ rules → dummy ≡ tokens → All (IsSymbolBelow rules tokens) w
    → All (IsSymbolBelow len dummy) w
below_by rules tokens len dummy w is marked listed =
    subst (λ (n : ℕ). All (IsSymbolBelow n dummy) w) (sym is) (subst (λ (n : ℕ). All (IsSymbolBelow rules n) w) (sym marked) listed)
