-- Trees of an operator grammar, by their form; and what holds along their spines. The right spine of a tree is its root, its root's last
-- child, and so on; the left spine goes by first children. If a tree respects the precedences, and its root against a token reduces, so
-- does each node of its right spine; and if a production against its root's operator shifts, so it does against each one of its left spine.
use Rattle.std.proofs.Common.{◌≡◌, ◌≢◌, ◌<◌, ◌∙◌, inl, inr, refl, sym, ap, subst, arith, ℕ, List, [], ◌∷◌, length, None, Option, Some, slice_get}
use Rattle.std.proofs.lemmas.Bool.{cases_lt}
use Rattle.lrpar_grammar.specs.Grammar.{Grammar, GrammarSymbol, IsWellFormed, Nonterminal, Terminal, prods_len, rule_of, start_prod, symbols_of}
use Rattle.lrpar_grammar.specs.Tree.{Branch, Cons, Fits, Forest, ForestFits, Leaf, Nil, Tree}
use Rattle.lrpar_table_precedence.specs.Precedence.{PrecedenceLists, against, decided, prod_precedence, resolution_of, token_precedence}
use Rattle.lrpar_table_precedence.specs.declared.precedence.Precedence.{Precedence}
use Rattle.lrpar_table_precedence.specs.declared.precedence.Resolution.{Resolution}
use Rattle.lrpar_table_precedence.specs.declared.precedence.Resolution.TheVariants.{Error, Reduce, Shift}
use Rattle.lrpar_table_build.specs.KeptApart.{BeginsWithItsRule, EndsInItsRule, ReducesOrFails, ShiftsOrFails}
use Rattle.lrpar_parse_precedences.specs.OperatorGrammars.{IsAtom, IsBrackets, IsInfix, IsOperatorGrammar, IsOperatorProd, IsRespectful}
use Rattle.lrpar_parse_precedences.specs.PrecedenceTrees.{IsNodeOf}
use Rattle.lrpar_parse_precedences.proofs.LevelLemmas.{decides_some, reduces_too, shifts_too}

-- what isn't a shift or an error is a reduction, and what isn't a reduction or an error is a shift
reduce_left : (r : Option Resolution) → r ≢ None → ¬ (ShiftsOrFails r) → r ≡ Some Reduce
reduce_left None some says = absurd (some refl)
reduce_left (Some Shift) some says = absurd (says tt)
reduce_left (Some Reduce) some says = refl
reduce_left (Some Error) some says = absurd (says tt)

shift_left : (r : Option Resolution) → r ≢ None → ¬ (ReducesOrFails r) → r ≡ Some Shift
shift_left None some says = absurd (some refl)
shift_left (Some Shift) some says = refl
shift_left (Some Reduce) some says = absurd (says tt)
shift_left (Some Error) some says = absurd (says tt)

-- an infix production: its operator, and the precedence of both
pub record IsInfixOf (g : Grammar) (precedences : PrecedenceLists) (q b : ℕ) : Type 0 where
  pub precedence : Precedence
  pub symbols : symbols_of g q ≡ Nonterminal g.start ∷ Terminal b ∷ Nonterminal g.start ∷ []
  pub of_prod : prod_precedence precedences q ≡ Some precedence
  pub of_token : token_precedence precedences b ≡ Some precedence

module _ (g : Grammar) (precedences : PrecedenceLists) (well : IsWellFormed g) (operators : IsOperatorGrammar g precedences) where
  -- a production with a second symbol is a listed one
  pub listed_by : (q : ℕ) (s : GrammarSymbol) → q < prods_len g → slice_get (symbols_of g q) 1 ≡ Some s → q < start_prod g
  listed_by q s known second =
      elim (cases_lt q (start_prod g)) as (λ _. q < start_prod g) [
        | inl low ↦ low
        | inr past ↦
            let is : q ≡ start_prod g = omega (arith, known, past) in
            let none : slice_get (symbols_of g q) 1 ≡ None = ap (λ (w : List GrammarSymbol). slice_get w 1) (ap (symbols_of g) is ∙ well.last_symbols) in
            absurd (cc)
      ]

  infix_by : (q b : ℕ) → IsOperatorProd g precedences q → slice_get (symbols_of g q) 0 ≡ Some (Nonterminal g.start)
      → slice_get (symbols_of g q) 1 ≡ Some (Terminal b) → IsInfixOf g precedences q b
  infix_by q b (IsAtom a is) first second =
      let other : slice_get (symbols_of g q) 0 ≡ Some (Terminal a) = ap (λ (w : List GrammarSymbol). slice_get w 0) is in absurd (cc)
  infix_by q b (IsBrackets l c is) first second =
      let other : slice_get (symbols_of g q) 0 ≡ Some (Terminal l) = ap (λ (w : List GrammarSymbol). slice_get w 0) is in absurd (cc)
  infix_by q b (IsInfix a x is of_prod of_token) first second =
      let there : slice_get (symbols_of g q) 1 ≡ Some (Terminal a) = ap (λ (w : List GrammarSymbol). slice_get w 1) is in
      let same : a ≡ b = cc in
      record {
        precedence = x;
        symbols = subst (λ (n : ℕ). symbols_of g q ≡ Nonterminal g.start ∷ Terminal n ∷ Nonterminal g.start ∷ []) same is;
        of_prod = of_prod;
        of_token = subst (λ (n : ℕ). token_precedence precedences n ≡ Some x) same of_token;
      }

  pub infix_of : (q b : ℕ) → BeginsWithItsRule g q g.start b → IsInfixOf g precedences q b
  infix_of q b begins = infix_by q b (operators.prods q (listed_by q (Terminal b) begins.known begins.second)) begins.first begins.second

  pub begins_infix : (q b : ℕ) → q < start_prod g → symbols_of g q ≡ Nonterminal g.start ∷ Terminal b ∷ Nonterminal g.start ∷ [] → BeginsWithItsRule g q g.start b
  begins_infix q b low is = record {
    known = omega (arith, low);
    of_rule = operators.one_rule q low;
    first = ap (λ (w : List GrammarSymbol). slice_get w 0) is;
    second = ap (λ (w : List GrammarSymbol). slice_get w 1) is;
  }

  pub ends_infix : (q b : ℕ) → BeginsWithItsRule g q g.start b → EndsInItsRule g q g.start
  ends_infix q b begins =
      let is = (infix_of q b begins).symbols in
      record {
        known = begins.known;
        of_rule = begins.of_rule;
        before = 2;
        len = ap (λ (w : List GrammarSymbol). length w) is;
        last = ap (λ (w : List GrammarSymbol). slice_get w 2) is;
      }

  -- what an infix production against an operator says
  decides : (p b q t : ℕ) (p_is : IsInfixOf g precedences p b) (q_is : IsInfixOf g precedences q t)
      → resolution_of precedences p t ≡ against p_is.precedence q_is.precedence
  decides p b q t p_is q_is =
      ap (λ (o : Option Precedence). decided o (token_precedence precedences t)) p_is.of_prod
      ∙ ap (λ (o : Option Precedence). decided (Some p_is.precedence) o) q_is.of_token

  module _ {X : Type 0} (token : X → ℕ) where
    -- the trees by their form
    pub data IsOperatorTree : Tree X → Type 0 where
      AtomTree : (q a : ℕ) (x : X) → q < start_prod g → symbols_of g q ≡ Terminal a ∷ [] → token x ≡ a → IsOperatorTree (Branch q (Cons (Leaf x) Nil))
      BracketsTree : (q l c : ℕ) (x y : X) (inner : Tree X) → q < start_prod g → symbols_of g q ≡ Terminal l ∷ Nonterminal g.start ∷ Terminal c ∷ [] → token x ≡ l → token y ≡ c
          → IsOperatorTree inner → IsOperatorTree (Branch q (Cons (Leaf x) (Cons inner (Cons (Leaf y) Nil))))
      InfixTree : (q b : ℕ) (x : X) (left right : Tree X) → q < start_prod g → BeginsWithItsRule g q g.start b → token x ≡ b → IsOperatorTree left
          → IsOperatorTree right → IsOperatorTree (Branch q (Cons left (Cons (Leaf x) (Cons right Nil))))

    listed_root : (q : ℕ) → q < prods_len g → rule_of g q ≡ g.start → q < start_prod g
    listed_root q known by =
        elim (cases_lt q (start_prod g)) as (λ _. q < start_prod g) [
          | inl low ↦ low
          | inr past ↦
              let is : q ≡ start_prod g = omega (arith, known, past) in
              let zero : g.start ≡ 0 = sym by ∙ ap (rule_of g) is ∙ well.last_rule in
              let added = well.start_added in absurd (omega (arith, zero, added))
        ]

    -- each of the trees has a form, if it is one of the rule
    abbrev AreTrees : Forest X → Type 0
    AreTrees Nil = Unit {0}
    AreTrees (Cons t ts) = (Fits token g t (Nonterminal g.start) → IsOperatorTree t) × AreTrees ts

    atom : (q a : ℕ) (children : Forest X) → q < start_prod g → symbols_of g q ≡ Terminal a ∷ [] → ForestFits token g children (Terminal a ∷ [])
        → IsOperatorTree (Branch q children)
    atom q a Nil low is fits = absurd fits
    atom q a (Cons (Leaf x) Nil) low is fits = AtomTree q a x low is fits.0
    atom q a (Cons (Leaf x) (Cons u us)) low is fits = absurd fits.1
    atom q a (Cons (Branch p cs) us) low is fits = absurd fits.0

    brackets : (q l c : ℕ) (children : Forest X) → AreTrees children → q < start_prod g → symbols_of g q ≡ Terminal l ∷ Nonterminal g.start ∷ Terminal c ∷ []
        → ForestFits token g children (Terminal l ∷ Nonterminal g.start ∷ Terminal c ∷ []) → IsOperatorTree (Branch q children)
    brackets q l c Nil trees low is fits = absurd fits
    brackets q l c (Cons (Branch p cs) us) trees low is fits = absurd fits.0
    brackets q l c (Cons (Leaf x) Nil) trees low is fits = absurd fits.1
    brackets q l c (Cons (Leaf x) (Cons t Nil)) trees low is fits = absurd fits.1.1
    brackets q l c (Cons (Leaf x) (Cons t (Cons (Branch p cs) us))) trees low is fits = absurd fits.1.1.0
    brackets q l c (Cons (Leaf x) (Cons t (Cons (Leaf y) (Cons u us)))) trees low is fits = absurd fits.1.1.1
    brackets q l c (Cons (Leaf x) (Cons t (Cons (Leaf y) Nil))) trees low is fits =
        BracketsTree q l c x y t low is fits.0 fits.1.1.0 (trees.1.0 fits.1.0)

    between : (q b : ℕ) (children : Forest X) → AreTrees children → q < start_prod g → BeginsWithItsRule g q g.start b
        → ForestFits token g children (Nonterminal g.start ∷ Terminal b ∷ Nonterminal g.start ∷ []) → IsOperatorTree (Branch q children)
    between q b Nil trees low begins fits = absurd fits
    between q b (Cons t Nil) trees low begins fits = absurd fits.1
    between q b (Cons t (Cons (Branch p cs) us)) trees low begins fits = absurd fits.1.0
    between q b (Cons t (Cons (Leaf x) Nil)) trees low begins fits = absurd fits.1.1
    between q b (Cons t (Cons (Leaf x) (Cons u (Cons v vs)))) trees low begins fits = absurd fits.1.1.1
    between q b (Cons t (Cons (Leaf x) (Cons u Nil))) trees low begins fits =
        InfixTree q b x t u low begins fits.1.0 (trees.0 fits.0) (trees.1.1.0 fits.1.1.0)

    by_form : (q : ℕ) (children : Forest X) → AreTrees children → q < start_prod g → IsOperatorProd g precedences q
        → ForestFits token g children (symbols_of g q) → IsOperatorTree (Branch q children)
    by_form q children trees low (IsAtom a is) fits = atom q a children low is (subst (ForestFits token g children) is fits)
    by_form q children trees low (IsBrackets l c is) fits = brackets q l c children trees low is (subst (ForestFits token g children) is fits)
    by_form q children trees low (IsInfix b x is of_prod of_token) fits =
        between q b children trees low (begins_infix q b low is) (subst (ForestFits token g children) is fits)

    mutual
      pub operator_tree : (tree : Tree X) → Fits token g tree (Nonterminal g.start) → IsOperatorTree tree
      operator_tree (Leaf x) fits = absurd fits
      operator_tree (Branch q children) fits =
          let low = listed_root q fits.0 fits.1 in by_form q children (operator_trees children) low (operators.prods q low) fits.2

      operator_trees : (children : Forest X) → AreTrees children
      operator_trees Nil = tt
      operator_trees (Cons t ts) = (λ fits. operator_tree t fits, operator_trees ts)

    -- the root reduces at t, if it is infix and t is an operator; and production p shifts the root's operator
    abbrev pub RootReduces : ℕ → Tree X → Type 0
    RootReduces t tree = (q b other : ℕ) → IsNodeOf q tree → BeginsWithItsRule g q g.start b → BeginsWithItsRule g other g.start t
        → resolution_of precedences q t ≡ Some Reduce

    abbrev pub RootShifts : ℕ → Tree X → Type 0
    RootShifts p tree = (q b : ℕ) → IsNodeOf q tree → BeginsWithItsRule g q g.start b → resolution_of precedences p b ≡ Some Shift

    -- along the spines
    abbrev mutual
      pub RightReduces : ℕ → Tree X → Type 0
      RightReduces t (Leaf x) = Unit {0}
      RightReduces t (Branch q children) = RootReduces t (Branch q children) × RightReducesIn t children

      pub RightReducesIn : ℕ → Forest X → Type 0
      RightReducesIn t Nil = Unit {0}
      RightReducesIn t (Cons u Nil) = RightReduces t u
      RightReducesIn t (Cons u (Cons v vs)) = RightReducesIn t (Cons v vs)

    abbrev mutual
      pub LeftShifts : ℕ → Tree X → Type 0
      LeftShifts p (Leaf x) = Unit {0}
      LeftShifts p (Branch q children) = RootShifts p (Branch q children) × LeftShiftsIn p children

      pub LeftShiftsIn : ℕ → Forest X → Type 0
      LeftShiftsIn p Nil = Unit {0}
      LeftShiftsIn p (Cons u us) = LeftShifts p u

    -- so do the children of a tree that respects the precedences
    pub free_left : (q : ℕ) (x : X) (left right : Tree X) → IsRespectful g precedences (Branch q (Cons left (Cons (Leaf x) (Cons right Nil)))) → IsRespectful g precedences left
    free_left q x left right free = record {
      last = λ p n b ends begins says. (free.last p n b ends begins says).1.0;
      first = λ p n b ends begins says. (free.first p n b ends begins says).1.0;
    }

    pub free_right : (q : ℕ) (x : X) (left right : Tree X) → IsRespectful g precedences (Branch q (Cons left (Cons (Leaf x) (Cons right Nil)))) → IsRespectful g precedences right
    free_right q x left right free = record {
      last = λ p n b ends begins says. (free.last p n b ends begins says).1.1.1.0;
      first = λ p n b ends begins says. (free.first p n b ends begins says).1.1.1.0;
    }

    pub free_inner : (q : ℕ) (x y : X) (inner : Tree X) → IsRespectful g precedences (Branch q (Cons (Leaf x) (Cons inner (Cons (Leaf y) Nil)))) → IsRespectful g precedences inner
    free_inner q x y inner free = record {
      last = λ p n b ends begins says. (free.last p n b ends begins says).1.1.0;
      first = λ p n b ends begins says. (free.first p n b ends begins says).1.1.0;
    }

    -- the root of the left child reduces at the operator, and the operator's production shifts the operator of the right child's root
    pub left_root : (q b : ℕ) (x : X) (left right : Tree X) → BeginsWithItsRule g q g.start b → IsRespectful g precedences (Branch q (Cons left (Cons (Leaf x) (Cons right Nil))))
        → RootReduces b left
    left_root q b x left right begins free n a other node node_begins op =
        let n_is = infix_of n a node_begins in
        let q_is = infix_of q b begins in
        let is = decides n a q b n_is q_is in
        let not_first : ¬ (ShiftsOrFails (against n_is.precedence q_is.precedence)) = λ says.
        (free.first n q b (ends_infix n a node_begins) begins (subst ShiftsOrFails (sym is) says)).0 refl node in
        let some = decides_some n_is.precedence q_is.precedence (operators.declared b q_is.precedence q_is.of_token) in
        is ∙ reduce_left (against n_is.precedence q_is.precedence) some not_first

    pub right_root : (q b : ℕ) (x : X) (left right : Tree X) → BeginsWithItsRule g q g.start b → IsRespectful g precedences (Branch q (Cons left (Cons (Leaf x) (Cons right Nil))))
        → RootShifts q right
    right_root q b x left right begins free n a node node_begins =
        let n_is = infix_of n a node_begins in
        let q_is = infix_of q b begins in
        let is = decides q b n a q_is n_is in
        let not_last : ¬ (ReducesOrFails (against q_is.precedence n_is.precedence)) = λ says.
        (free.last q n a (ends_infix q b begins) node_begins (subst ReducesOrFails (sym is) says)).0 refl node in
        let some = decides_some q_is.precedence n_is.precedence (operators.declared a n_is.precedence n_is.of_token) in
        is ∙ shift_left (against q_is.precedence n_is.precedence) some not_last

    -- what is decided
    decided_is : (p b q t : ℕ) (p_is : IsInfixOf g precedences p b) (q_is : IsInfixOf g precedences q t) (r : Resolution)
        → resolution_of precedences p t ≡ Some r → against p_is.precedence q_is.precedence ≡ Some r
    decided_is p b q t p_is q_is r is = sym (decides p b q t p_is q_is) ∙ is

    pub right_spine : (tree : Tree X) → IsOperatorTree tree → IsRespectful g precedences tree → (t : ℕ) → RootReduces t tree → RightReduces t tree
    right_spine _ (AtomTree q a x low is here) free t root = (root, tt)
    right_spine _ (BracketsTree q l c x y inner low is opens closes within) free t root = (root, tt)
    right_spine _ (InfixTree q b x left right low begins here left_is right_is) free t root = (
      root,
      right_spine right right_is (free_right q x left right free) t
          (λ n a other node node_begins op.
          let q_is = infix_of q b begins in
          let n_is = infix_of n a node_begins in
          let t_is = infix_of other t op in
          let shifts = decided_is q b n a q_is n_is Shift (right_root q b x left right begins free n a node node_begins) in
          let reduces = decided_is q b other t q_is t_is Reduce (root q b other refl begins op) in
          decides n a other t n_is t_is
          ∙ reduces_too q_is.precedence n_is.precedence t_is.precedence (operators.leveled a t n_is.precedence t_is.precedence n_is.of_token t_is.of_token) shifts reduces),
    )

    pub left_spine : (tree : Tree X) → IsOperatorTree tree → IsRespectful g precedences tree → (p c : ℕ) → BeginsWithItsRule g p g.start c → RootShifts p tree → LeftShifts p tree
    left_spine _ (AtomTree q a x low is here) free p c p_begins root = (root, tt)
    left_spine _ (BracketsTree q l e x y inner low is opens closes within) free p c p_begins root = (root, tt)
    left_spine _ (InfixTree q b x left right low begins here left_is right_is) free p c p_begins root = (
      root,
      left_spine left left_is (free_left q x left right free) p c p_begins
          (λ n a node node_begins.
          let p_is = infix_of p c p_begins in
          let q_is = infix_of q b begins in
          let n_is = infix_of n a node_begins in
          let shifts = decided_is p c q b p_is q_is Shift (root q b refl begins) in
          let reduces = decided_is n a q b n_is q_is Reduce (left_root q b x left right begins free n a q node node_begins begins) in
          decides p c n a p_is n_is
          ∙ shifts_too p_is.precedence n_is.precedence q_is.precedence shifts reduces),
    )

    -- at a token that is no operator, nothing is asked of the right spine
    mutual
      pub right_free : (t : ℕ) → ((q : ℕ) → ¬ (BeginsWithItsRule g q g.start t)) → (tree : Tree X) → RightReduces t tree
      right_free t none (Leaf x) = tt
      right_free t none (Branch q children) = (λ n b other node begins op. absurd (none other op), right_free_in t none children)

      right_free_in : (t : ℕ) → ((q : ℕ) → ¬ (BeginsWithItsRule g q g.start t)) → (children : Forest X) → RightReducesIn t children
      right_free_in t none Nil = tt
      right_free_in t none (Cons u Nil) = right_free t none u
      right_free_in t none (Cons u (Cons v vs)) = right_free_in t none (Cons v vs)
