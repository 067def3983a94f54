-- Moves that are replayed make trees of the symbols on the stack.
use Rattle.std.proofs.Common.{◌≡◌, ◌<◌, ◌-◌, ◌∙◌, refl, sym, ap, subst, arith, ℕ, List, [], ◌∷◌, ◌++◌, drop, get_or, length, map, take}
use Rattle.std.proofs.lemmas.List.{append_assoc, append-nil, get_or-map, map-append, take-append-drop, take_rest}
use Rattle.lrpar_grammar_places.specs.declared.span.Symbol.{Symbol}
use Rattle.lrpar_grammar.specs.Symbols.{symbol_of}
use Rattle.lrpar_grammar.specs.Grammar.{Grammar, GrammarSymbol, Nonterminal, Terminal, prods_len, rule_of, symbols_of}
use Rattle.lrpar_grammar.specs.Tree.{Forest, Branch, Cons, Leaf, Nil}
use Rattle.lrpar_grammar.proofs.ForestLemmas.{joined, joined_fits, splits}
use Rattle.lrpar_table_sentences.specs.Moves.{Makes, MoveOf, Takes, forest_moves, moves_of}
use Rattle.lrpar_table_sentences.specs.Texts.{AreTreesOf}
use Rattle.lrpar_conflict_derivations.specs.Replay.{AreOfTree, Replays}
use Rattle.lrpar_conflict_derivations.proofs.CompletionLemmas.{joined_moves, one_tree}

-- the moves so far made trees of the symbols
pub record HasMade (g : Grammar) (symbols : List GrammarSymbol) (moves : List MoveOf) : Type 0 where
  pub trees : Forest ℕ
  pub fit : AreTreesOf g symbols trees
  pub made : moves ≡ forest_moves trees

pub made_more : (g : Grammar) (move : MoveOf) (old new : List GrammarSymbol) (moves more : List MoveOf) → HasMade g old moves → Replays g move old new
    → more ≡ moves ++ move ∷ [] → HasMade g new more
made_more g (Takes t) old new moves more has replays is = record {
  trees = joined has.trees (Cons (Leaf t) Nil);
  fit =
      subst (λ (w : List GrammarSymbol). AreTreesOf g w (joined has.trees (Cons (Leaf t) Nil))) (sym replays)
      (joined_fits (λ (x : ℕ). x) g has.trees (Cons (Leaf t) Nil) old (Terminal t ∷ []) has.fit (refl, tt));
  made = is ∙ ap (λ ms. ms ++ Takes t ∷ []) has.made ∙ sym (joined_moves has.trees (Cons (Leaf t) Nil));
}
made_more g (Makes p) old new moves more has replays is =
    let front = replays.0 in
    let parts = splits (λ (x : ℕ). x) g has.trees front (symbols_of g p) (subst (λ (w : List GrammarSymbol). AreTreesOf g w has.trees) replays.2 has.fit) in
    let node = Branch p parts.others in
    let moves_is : moves ≡ forest_moves parts.first ++ forest_moves parts.others = has.made ∙ ap forest_moves parts.both ∙ joined_moves parts.first parts.others in record {
      trees = joined parts.first (Cons node Nil);
      fit =
          subst (λ (w : List GrammarSymbol). AreTreesOf g w (joined parts.first (Cons node Nil))) (sym replays.3)
          (joined_fits (λ (x : ℕ). x) g parts.first (Cons node Nil) front (Nonterminal (rule_of g p) ∷ []) parts.first_fits ((replays.1, refl, parts.others_fit), tt));
      made =
          is ∙ ap (λ ms. ms ++ Makes p ∷ []) moves_is ∙ append_assoc (forest_moves parts.first) (forest_moves parts.others) (Makes p ∷ [])
          ∙ ap (λ ms. forest_moves parts.first ++ ms) (sym (append-nil (moves_of node)))
          ∙ sym (joined_moves parts.first (Cons node Nil));
    }

-- one symbol, the start rule
pub made_all : (g : Grammar) (symbols : List GrammarSymbol) (moves : List MoveOf) → HasMade g symbols moves → symbols ≡ Nonterminal g.start ∷ []
    → AreOfTree g moves
made_all g symbols moves has is =
    let one = one_tree g has.trees (Nonterminal g.start) (subst (λ (w : List GrammarSymbol). AreTreesOf g w has.trees) is has.fit) in
    (one.0, one.1, has.made ∙ ap forest_moves one.2 ∙ append-nil (moves_of one.0))

-- a symbol of code in its place
pub symbol_at : {S : Type 0} (index : S → ℕ) (symbols : List (Symbol S)) (i : ℕ) (symbol : Symbol S) (d : GrammarSymbol) → i < length symbols
    → symbol ≡ get_or symbols i symbol → get_or (map (symbol_of index) symbols) i d ≡ symbol_of index symbol
symbol_at index symbols i symbol d low is = get_or-map (symbol_of index) symbols i symbol d low ∙ ap (symbol_of index) (sym is)

-- if the top of a stack is the symbols of a production
pub made_rule : {S : Type 0} (index : S → ℕ) (g : Grammar) (p from : ℕ) (stack rest new : List (Symbol S)) (top : Symbol S) (r : ℕ) → p < prods_len g
    → map (symbol_of index) (take (length stack - from) (drop from stack)) ≡ symbols_of g p → rest ≡ take from stack → new ≡ rest ++ top ∷ []
    → symbol_of index top ≡ Nonterminal r → r ≡ rule_of g p → Replays g (Makes p) (map (symbol_of index) stack) (map (symbol_of index) new)
made_rule index g p from stack rest new top r known same cut put is rule =
    let front = map (symbol_of index) (take from stack) in
    let back : map (symbol_of index) (drop from stack) ≡ symbols_of g p = ap (map (symbol_of index)) (sym (take_rest stack from)) ∙ same in
    let old : map (symbol_of index) stack ≡ front ++ symbols_of g p =
    ap (map (symbol_of index)) (sym (take-append-drop from stack)) ∙ map-append (symbol_of index) (take from stack) (drop from stack) ∙ ap (λ w. front ++ w) back in
    let more : map (symbol_of index) new ≡ front ++ Nonterminal (rule_of g p) ∷ [] =
    ap (map (symbol_of index)) put ∙ map-append (symbol_of index) rest (top ∷ []) ∙ ap (λ w. map (symbol_of index) w ++ symbol_of index top ∷ []) cut
    ∙ ap (λ s. front ++ s ∷ []) (is ∙ ap (λ (n : ℕ). Nonterminal n) rule) in
    (front, known, old, more)

-- at first nothing is made
pub made_none : (g : Grammar) (symbols : List GrammarSymbol) → symbols ≡ [] → HasMade g symbols []
made_none g symbols is = record { trees = Nil; fit = subst (λ (w : List GrammarSymbol). AreTreesOf g w Nil) (sym is) tt; made = refl }

-- one symbol
pub one_symbol : {S : Type 0} (index : S → ℕ) (symbols : List (Symbol S)) (symbol : Symbol S) (s : GrammarSymbol) → length symbols ≡ 1
    → symbol ≡ get_or symbols 0 symbol → symbol_of index symbol ≡ s → map (symbol_of index) symbols ≡ s ∷ []
one_symbol index [] symbol s one is same = absurd (omega arith)
one_symbol index (x ∷ []) symbol s one is same = ap (λ y. symbol_of index y ∷ []) (sym is) ∙ ap (λ t. t ∷ []) same
one_symbol index (x ∷ y ∷ xs) symbol s one is same = absurd (omega arith)
