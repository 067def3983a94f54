-- The trees that a run's stack represents, from the start to the end: the effect of a shift and of a reduction.
use Rattle.std.proofs.Common.{◌≡◌, ◌-◌, ◌+◌, ◌∙◌, ℕ, List, [], ◌∷◌, ◌++◌, None, Option, Some, length, take, drop, ap, arith, refl, subst, sym}
use Rattle.std.specs.List.{AllZip, last_or}
use Rattle.std.proofs.lemmas.List.{append_assoc, append-nil, length-append}
use Rattle.lrpar_grammar.specs.Grammar.{Grammar, GrammarSymbol, Nonterminal, Terminal, symbols_of, prod_len, rule_of}
use Rattle.lrpar_grammar.specs.Tree.{Tree, Forest, Leaf, Branch, Nil, Cons, Fits, ForestFits, leaves, forest_leaves, productions, forest_productions}
use Rattle.lrpar_table_rows.specs.Table.{Table}
use Rattle.lrpar_table_check.specs.Checked.{Checked}
use Rattle.lrpar_table_stacks.specs.Path.{IsPath, ReducesAlong, NeverSticks}
use Rattle.lrpar_table_stacks.proofs.Reductions.{reduces_to_one}
use Rattle.std.proofs.lemmas.Slice.Zip.{AllZip-long}
use Rattle.lrpar_parse_run.specs.Building.{Building}
use Rattle.lrpar_parse_run.specs.End.{IsOfTree}
use Rattle.lrpar_parse_run.specs.RunAnswer.{IsValueOf}
use Rattle.lrpar_parse_run.specs.RunStack.{AllRepresent, Represents, Stacked, ReducesTo, ReducesAllTo, kept_by, popped_by}
use Rattle.lrpar_parse_run.specs.ZipLaws.{zip_push, zip_take}
use Rattle.lrpar_parse_run.proofs.ListLemmas.{zip_one}

-- one more tree, at the end
abbrev pub with_last : {X : Type 0} → Forest X → Tree X → Forest X
with_last Nil u = Cons u Nil
with_last (Cons t ts) u = Cons t (with_last ts u)

-- its leaves come last
with_last_leaves : {X : Type 0} (trees : Forest X) (u : Tree X) → forest_leaves (with_last trees u) ≡ forest_leaves trees ++ leaves u
with_last_leaves Nil u = append-nil (leaves u)
with_last_leaves (Cons t ts) u = ap (λ w. leaves t ++ w) (with_last_leaves ts u) ∙ sym (append_assoc (leaves t) (forest_leaves ts) (leaves u))

-- and so do its productions
with_last_productions : {X : Type 0} (trees : Forest X) (u : Tree X) → forest_productions (with_last trees u) ≡ forest_productions trees ++ productions u
with_last_productions Nil u = append-nil (productions u)
with_last_productions (Cons t ts) u =
    ap (λ w. productions t ++ w) (with_last_productions ts u) ∙ sym (append_assoc (productions t) (forest_productions ts) (productions u))

module _ {X E : Type 0} (token : X → ℕ) (leaf : X → E → Type 0) (node : ℕ → Option E → List E → E → Type 0) (suits : GrammarSymbol → E → Type 0) (g : Grammar) (table : Table) where
  -- one more tree fits one more symbol
  with_last_fits : (trees : Forest X) (symbols : List GrammarSymbol) (u : Tree X) (s : GrammarSymbol)
      → ForestFits token g trees symbols → Fits token g u s → ForestFits token g (with_last trees u) (symbols ++ s ∷ [])
  with_last_fits Nil [] u s fits last = (last, tt)
  with_last_fits Nil (x ∷ xs) u s fits last = absurd fits
  with_last_fits (Cons t ts) [] u s fits last = absurd fits
  with_last_fits (Cons t ts) (x ∷ xs) u s fits last = (fits.0, with_last_fits ts xs u s fits.1 last)

  -- one more entry represents it
  with_last_represents : (before : Option E) (trees : Forest X) (entries : List E) (u : Tree X) (e : E)
      → AllRepresent leaf node before trees entries → Represents leaf node (last_or before entries) u e → AllRepresent leaf node before (with_last trees u) (entries ++ e ∷ [])
  with_last_represents before Nil [] u e represents last = (last, tt)
  with_last_represents before Nil (x ∷ xs) u e represents last = absurd represents
  with_last_represents before (Cons t ts) [] u e represents last = absurd represents
  with_last_represents before (Cons t ts) (x ∷ xs) u e represents last = (represents.0, with_last_represents (Some x) ts xs u e represents.1 last)

  -- Trees that fit `below ++ top`, cut between the two.
  record IsCut (before : Option E) (trees : Forest X) (below top : List GrammarSymbol) (entries : List E) : Type 0 where
    pub front : Forest X
    pub back : Forest X
    pub front_fits : ForestFits token g front below
    pub back_fits : ForestFits token g back top
    pub front_represents : AllRepresent leaf node before front (take (length below) entries)
    pub back_represents : AllRepresent leaf node (last_or before (take (length below) entries)) back (drop (length below) entries)
    pub leaves_are : forest_leaves front ++ forest_leaves back ≡ forest_leaves trees
    pub productions_are : forest_productions front ++ forest_productions back ≡ forest_productions trees

  -- such trees can be cut there
  cut : (before : Option E) (trees : Forest X) (below top : List GrammarSymbol) (entries : List E)
      → ForestFits token g trees (below ++ top) → AllRepresent leaf node before trees entries → IsCut before trees below top entries
  cut before trees [] top entries fits represents = record {
    front = Nil;
    back = trees;
    front_fits = tt;
    back_fits = fits;
    front_represents = tt;
    back_represents = represents;
    leaves_are = refl;
    productions_are = refl;
  }
  cut before Nil (s ∷ below) top entries fits represents = absurd fits
  cut before (Cons t ts) (s ∷ below) top [] fits represents = absurd represents
  cut before (Cons t ts) (s ∷ below) top (e ∷ entries) fits represents =
      let more = cut (Some e) ts below top entries fits.1 represents.1 in
      record {
        front = Cons t more.front;
        back = more.back;
        front_fits = (fits.0, more.front_fits);
        back_fits = more.back_fits;
        front_represents = (represents.0, more.front_represents);
        back_represents = more.back_represents;
        leaves_are = append_assoc (leaves t) (forest_leaves more.front) (forest_leaves more.back) ∙ ap (λ w. leaves t ++ w) more.leaves_are;
        productions_are = append_assoc (productions t) (forest_productions more.front) (forest_productions more.back) ∙ ap (λ w. productions t ++ w) more.productions_are;
      }

  -- Symbols lead from state to state. A tree fits each symbol, and an entry suits it. The entries represent these trees, whose leaves are
  -- the lexemes consumed so far, and whose productions are those of the reductions made so far.
  pub record IsRepresented (stack : Stacked E) (consumed : List X) (prods : List ℕ) : Type 0 where
    pub symbols : List GrammarSymbol
    pub trees : Forest X
    pub path : IsPath table symbols stack.states
    pub suit : AllZip suits symbols stack.entries
    pub fits : ForestFits token g trees symbols
    pub represents : AllRepresent leaf node None trees stack.entries
    pub leaves_are : forest_leaves trees ≡ consumed
    pub productions_are : forest_productions trees ≡ prods

  -- at the start the start state is alone, with nothing consumed
  pub represented_start : (stack : Stacked E) → stack.states ≡ table.start ∷ [] → stack.entries ≡ [] → IsRepresented stack [] []
  represented_start stack states entries = record {
    symbols = [];
    trees = Nil;
    path = subst (IsPath table []) (sym states) (refl, tt);
    suit = subst (AllZip suits []) (sym entries) tt;
    fits = tt;
    represents = subst (AllRepresent leaf node None Nil) (sym entries) tt;
    leaves_are = refl;
    productions_are = refl;
  }

  -- a lexeme is shifted
  pub represented_shift : (old new : Stacked E) (consumed : List X) (prods : List ℕ) (x : X) (e : E) (next : ℕ)
      → (h : IsRepresented old consumed prods) → IsPath table (h.symbols ++ Terminal (token x) ∷ []) (old.states ++ next ∷ [])
      → leaf x e → suits (Terminal (token x)) e → new.states ≡ old.states ++ next ∷ [] → new.entries ≡ old.entries ++ e ∷ []
      → IsRepresented new (consumed ++ x ∷ []) prods
  represented_shift old new consumed prods x e next h path made suit states entries = record {
    symbols = h.symbols ++ Terminal (token x) ∷ [];
    trees = with_last h.trees (Leaf x);
    path = subst (IsPath table (h.symbols ++ Terminal (token x) ∷ [])) (sym states) path;
    suit = subst (AllZip suits (h.symbols ++ Terminal (token x) ∷ [])) (sym entries) (zip_push suits h.symbols old.entries (Terminal (token x)) e h.suit suit);
    fits = with_last_fits h.trees h.symbols (Leaf x) (Terminal (token x)) h.fits refl;
    represents = subst (AllRepresent leaf node None (with_last h.trees (Leaf x))) (sym entries) (with_last_represents None h.trees old.entries (Leaf x) e h.represents made);
    leaves_are = with_last_leaves h.trees (Leaf x) ∙ ap (λ w. w ++ x ∷ []) h.leaves_are;
    productions_are = with_last_productions h.trees (Leaf x) ∙ append-nil (forest_productions h.trees) ∙ h.productions_are;
  }

  -- a reduction is made
  pub represented_reduce : (old new : Stacked E) (consumed : List X) (prods : List ℕ) (t p : ℕ)
      → (h : IsRepresented old consumed prods) → (along : ReducesAlong g table h.symbols old.states t p)
      → ReducesTo node suits g table t old p new → IsRepresented new consumed (prods ++ p ∷ [])
  represented_reduce old new consumed prods t p h along r =
      let split_suit : AllZip suits (along.below ++ symbols_of g p) old.entries = subst (λ (symbols : List GrammarSymbol). AllZip suits symbols old.entries) along.split h.suit in
      let len : length old.entries ≡ length along.below + prod_len g p =
      AllZip-long suits (along.below ++ symbols_of g p) old.entries split_suit ∙ length-append along.below (symbols_of g p) in
      let at_cut : length along.below ≡ length old.entries - prod_len g p = omega (arith, len) in
      let parts = cut None h.trees along.below (symbols_of g p) old.entries (subst (ForestFits token g h.trees) along.split h.fits) h.represents in
      let u : Tree X = Branch p parts.back in
      let kept = kept_by g p old.entries in
      let front : AllRepresent leaf node None parts.front kept = subst (λ n. AllRepresent leaf node None parts.front (take n old.entries)) at_cut parts.front_represents in
      let back : AllRepresent leaf node (last_or None kept) parts.back (popped_by g p old.entries) =
      subst (λ n. AllRepresent leaf node (last_or None (take n old.entries)) parts.back (drop n old.entries)) at_cut parts.back_represents in
      let below_suit : AllZip suits along.below kept = subst (λ n. AllZip suits along.below (take n old.entries)) at_cut (zip_take suits along.below (symbols_of g p) old.entries split_suit) in
      let same : along.after ≡ new.states = reduces_to_one g table t old.states p p along.after new.states along.reduces r.of_states in
      let symbols : List GrammarSymbol = along.below ++ Nonterminal (rule_of g p) ∷ [] in
      record {
        symbols = symbols;
        trees = with_last parts.front u;
        path = subst (IsPath table symbols) same along.path;
        suit = subst (AllZip suits symbols) (sym r.of_entries) (zip_push suits along.below kept (Nonterminal (rule_of g p)) r.entry below_suit r.suit);
        fits = with_last_fits parts.front along.below u (Nonterminal (rule_of g p)) parts.front_fits (along.reduces.known, refl, parts.back_fits);
        represents = subst (AllRepresent leaf node None (with_last parts.front u)) (sym r.of_entries)
            (with_last_represents None parts.front kept u r.entry front (popped_by g p old.entries, back, r.made));
        leaves_are = with_last_leaves parts.front u ∙ parts.leaves_are ∙ h.leaves_are;
        productions_are = with_last_productions parts.front u
            ∙ (sym (append_assoc (forest_productions parts.front) (forest_productions parts.back) (p ∷ []))
            ∙ ap (λ w. w ++ p ∷ []) (parts.productions_are ∙ h.productions_are));
      }

  -- and so are several
  pub represented_reduce_all : NeverSticks g table → (t : ℕ) (old : Stacked E) (ps : List ℕ) (new : Stacked E) (consumed : List X) (prods : List ℕ)
      → IsRepresented old consumed prods → ReducesAllTo node suits g table t old ps new → IsRepresented new consumed (prods ++ ps)
  represented_reduce_all never t old [] new consumed prods h e =
      subst (IsRepresented new consumed) (sym (append-nil prods)) (subst (λ (stack : Stacked E). IsRepresented stack consumed prods) e h)
  represented_reduce_all never t old (p ∷ ps) new consumed prods h all =
      let along = never.reduces h.symbols old.states t p h.path all.1.of_states.action in
      subst (IsRepresented new consumed) (append_assoc prods (p ∷ []) ps)
      (represented_reduce_all never t all.0 ps new consumed (prods ++ p ∷ []) (represented_reduce old all.0 consumed prods t p h along all.1) all.2)

-- one tree that fits one symbol
abbrev pub IsOneTree : {X E : Type 0} → (X → ℕ) → (X → E → Type 0) → (ℕ → Option E → List E → E → Type 0) → Grammar → GrammarSymbol → Forest X → List E → Type 0
IsOneTree {X} {E} token leaf node g s trees entries =
    (u : Tree X) × (e : E) × (trees ≡ Cons u Nil) × (entries ≡ e ∷ []) × Fits token g u s × Represents leaf node None u e

-- if trees fit one symbol, there is one tree
one_tree : {X E : Type 0} (token : X → ℕ) (leaf : X → E → Type 0) (node : ℕ → Option E → List E → E → Type 0) (g : Grammar) (s : GrammarSymbol) (trees : Forest X) (entries : List E)
    → ForestFits token g trees (s ∷ []) → AllRepresent leaf node None trees entries → IsOneTree token leaf node g s trees entries
one_tree token leaf node g s Nil entries fits represents = absurd fits
one_tree token leaf node g s (Cons u (Cons v us)) entries fits represents = absurd fits.1
one_tree token leaf node g s (Cons u Nil) [] fits represents = absurd represents
one_tree token leaf node g s (Cons u Nil) (e ∷ []) fits represents = (u, e, refl, refl, fits.0, represents.0)
one_tree token leaf node g s (Cons u Nil) (e ∷ x ∷ entries) fits represents = absurd represents.1

-- the run accepts, with the start rule alone on the stack
pub represented_accept : {X E : Type 0} (token : X → ℕ) (builds : Building X E) (d : Checked) (stack : Stacked E) (consumed : List X) (prods : List ℕ)
    → (h : IsRepresented token builds.leaf (builds.node d.grammar) builds.suits d.grammar d.table stack consumed prods) → h.symbols ≡ Nonterminal d.grammar.start ∷ []
    → (e : E) × (stack.entries ≡ e ∷ []) × IsValueOf token d.grammar (IsOfTree builds d) consumed prods e
represented_accept {X} {E} token builds d stack consumed prods h alone =
    let one = one_tree token builds.leaf (builds.node d.grammar) d.grammar (Nonterminal d.grammar.start) h.trees stack.entries (subst (ForestFits token d.grammar h.trees) alone h.fits) h.represents in
    let suit = zip_one builds.suits (Nonterminal d.grammar.start) stack.entries (subst (λ (symbols : List GrammarSymbol). AllZip builds.suits symbols stack.entries) alone h.suit) in
    let same : suit.0 ≡ one.1 = let e : suit.0 ∷ [] ≡ one.1 ∷ [] = sym suit.1 ∙ one.3 in cc in (
      one.1,
      one.3,
      record {
        tree = one.0;
        fits = one.4;
        leaves_are = sym (append-nil (leaves one.0)) ∙ ap forest_leaves (sym one.2) ∙ h.leaves_are;
        productions_are = sym (append-nil (productions one.0)) ∙ ap forest_productions (sym one.2) ∙ h.productions_are;
        evaluates = record { represents = one.5; suit = subst (builds.suits (Nonterminal d.grammar.start)) same suit.2 };
      },
    )
