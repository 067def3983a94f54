-- The trees along a stack. Let p end in its rule r, and q begin with r and then token b. A state above a node of q shifts b, since the node
-- was made over the symbols of q, and the goto by r leads to the same state again. So if p is reduced over a node of q as its last
-- child, the state in which p is complete shifts b. And a node of p that is followed by a leaf of b was reduced with lookahead b.
use Rattle.std.proofs.Common.{◌≡◌, ◌≢◌, ◌<◌, ◌≤◌, ◌+◌, ◌∙◌, refl, sym, ap, subst, arith, ℕ, zero, suc, List, [], ◌∷◌, ◌++◌, drop, length, slice_get, Some, None, Option}
use Rattle.std.proofs.lemmas.List.{append-nil, append_assoc}
use Rattle.std.specs.Option.{option_map_or}
use Rattle.lrpar_grammar.specs.Grammar.{Grammar, GrammarSymbol, Nonterminal, Terminal, end_token, rule_of, symbols_of}
use Rattle.lrpar_grammar.specs.Tree.{Tree, Forest, Leaf, Branch, Nil, Cons, leaves, forest_leaves, productions, forest_productions, Fits, ForestFits}
use Rattle.lrpar_grammar.proofs.ForestLemmas.{joined, joined_fits, joined_leaves, splits, split_leaves}
use Rattle.lrpar_table_rows.specs.Table.{Table, ReduceBy, ShiftTo, action_of, goto_of}
use Rattle.lrpar_table_build.specs.KeptApart.{BeginsWithItsRule, EndsInItsRule}
use Rattle.lrpar_table_build.proofs.KeptApartLemmas.{two_first}
use Rattle.lrpar_parse_precedences.specs.PrecedenceTrees.{BeginsWithNode, EachNode, EachNodeIn, EndsWithNode, IsNodeOf}
use Rattle.lrpar_parse_precedences.proofs.ReducedLemmas.{cut}
use Rattle.lrpar_table_stacks.specs.Path.{IsPath, Leads, NeverSticks}
use Rattle.lrpar_table_stacks.specs.Reduction.{Feeds, Reduces, Settles, top_action}
use Rattle.lrpar_table_stacks.specs.Run.{Far, FarEnd, Accepted, Stopped, goes_on, accepts, stops, token_at}
use Rattle.lrpar_table_stacks.proofs.PathLemmas.{action_at_last, as_many, last_of, leads_more}

-- one lexeme more
next_suc : {X : Type 0} (lexemes : List X) (i : ℕ) → i < length lexemes
    → (x : X) × (slice_get lexemes i ≡ Some x) × (drop i lexemes ≡ x ∷ drop (suc i) lexemes)
next_suc [] i within = absurd (omega arith)
next_suc (x ∷ xs) zero within = (x, refl, refl)
next_suc (x ∷ xs) (suc i) within = let next = next_suc xs i (omega arith) in (next.0, next.1, next.2)

pub next_at : {X : Type 0} (lexemes : List X) (i : ℕ) → i < length lexemes
    → (x : X) × (slice_get lexemes i ≡ Some x) × (drop i lexemes ≡ x ∷ drop (i + 1) lexemes)
next_at lexemes i within =
    let next = next_suc lexemes i within in
    let same : suc i ≡ i + 1 = omega arith in
    (next.0, next.1, subst (λ (k : ℕ). drop i lexemes ≡ next.0 ∷ drop k lexemes) same next.2)

-- nothing is left of a list
drop_all : {X : Type 0} (xs : List X) (i : ℕ) → length xs ≤ i → drop i xs ≡ []
drop_all [] zero past = refl
drop_all [] (suc i) past = refl
drop_all (x ∷ xs) zero past = absurd (omega (arith, past))
drop_all (x ∷ xs) (suc i) past = drop_all xs i (omega (arith, past))

-- the productions of two lists of trees
joined_productions : {X : Type 0} (first others : Forest X) → forest_productions (joined first others) ≡ forest_productions first ++ forest_productions others
joined_productions Nil others = refl
joined_productions (Cons t ts) others =
    ap (λ xs. productions t ++ xs) (joined_productions ts others)
    ∙ sym (append_assoc (productions t) (forest_productions ts) (forest_productions others))

-- what holds of each node of two lists of trees
each_first : {X : Type 0} (H : ℕ → Forest X → Type 0) (first others : Forest X) → EachNodeIn H (joined first others) → EachNodeIn H first
each_first H Nil others each = tt
each_first H (Cons t ts) others each = (each.0, each_first H ts others each.1)

each_other : {X : Type 0} (H : ℕ → Forest X → Type 0) (first others : Forest X) → EachNodeIn H (joined first others) → EachNodeIn H others
each_other H Nil others each = each
each_other H (Cons t ts) others each = each_other H ts others each.1

each_joined : {X : Type 0} (H : ℕ → Forest X → Type 0) (first others : Forest X) → EachNodeIn H first → EachNodeIn H others → EachNodeIn H (joined first others)
each_joined H Nil others each more = more
each_joined H (Cons t ts) others each more = (each.0, each_joined H ts others each.1 more)

module _ {X : Type 0} (token : X → ℕ) (g : Grammar) (table : Table) (never : NeverSticks g table) (p q r b : ℕ) (ends : EndsInItsRule g p r)
    (begins : BeginsWithItsRule g q r b) where
  -- the state right above each node of q shifts b
  abbrev AreShifted : Forest X → List ℕ → Type 0
  AreShifted Nil [] = Unit {0}
  AreShifted Nil (n ∷ st) = ⊥
  AreShifted (Cons t ts) [] = ⊥
  AreShifted (Cons t ts) (n ∷ st) = (IsNodeOf q t → (next : ℕ) × (action_of table n b ≡ ShiftTo next)) × AreShifted ts st

  -- the token that comes next, if it does: before trees, and then a lookahead
  abbrev next_token : Forest X → ℕ → Option ℕ
  next_token Nil t = Some t
  next_token (Cons (Leaf x) ts) t = Some (token x)
  next_token (Cons (Branch n children) ts) t = None

  -- if the next token after a node of p is b, some state reduces by p at b
  abbrev AreFollowed : Forest X → ℕ → Type 0
  AreFollowed Nil t = Unit {0}
  AreFollowed (Cons u us) t =
      (IsNodeOf p u → next_token us t ≡ Some b → (s : ℕ) × (action_of table s b ≡ ReduceBy p)) × AreFollowed us t

  -- the same facts of parts of the trees
  shifted_first : (first others : Forest X) (ss : List GrammarSymbol) (lower upper : List ℕ) → ForestFits token g first ss → length lower ≡ length ss
      → AreShifted (joined first others) (lower ++ upper) → AreShifted first lower
  shifted_first Nil others [] [] upper fits len all = tt
  shifted_first Nil others [] (n ∷ lower) upper fits len all = absurd (omega (arith, len))
  shifted_first Nil others (s ∷ ss) lower upper fits len all = absurd fits
  shifted_first (Cons t ts) others [] lower upper fits len all = absurd fits
  shifted_first (Cons t ts) others (s ∷ ss) [] upper fits len all = absurd (omega (arith, len))
  shifted_first (Cons t ts) others (s ∷ ss) (n ∷ lower) upper fits len all =
      (all.0, shifted_first ts others ss lower upper fits.1 (omega (arith, len)) all.1)

  shifted_other : (first others : Forest X) (ss : List GrammarSymbol) (lower upper : List ℕ) → ForestFits token g first ss → length lower ≡ length ss
      → AreShifted (joined first others) (lower ++ upper) → AreShifted others upper
  shifted_other Nil others [] [] upper fits len all = all
  shifted_other Nil others [] (n ∷ lower) upper fits len all = absurd (omega (arith, len))
  shifted_other Nil others (s ∷ ss) lower upper fits len all = absurd fits
  shifted_other (Cons t ts) others [] lower upper fits len all = absurd fits
  shifted_other (Cons t ts) others (s ∷ ss) [] upper fits len all = absurd (omega (arith, len))
  shifted_other (Cons t ts) others (s ∷ ss) (n ∷ lower) upper fits len all = shifted_other ts others ss lower upper fits.1 (omega (arith, len)) all.1

  shifted_joined : (first others : Forest X) (lower upper : List ℕ) → AreShifted first lower → AreShifted others upper
      → AreShifted (joined first others) (lower ++ upper)
  shifted_joined Nil others [] upper left right = right
  shifted_joined Nil others (n ∷ lower) upper left right = absurd left
  shifted_joined (Cons t ts) others [] upper left right = absurd left
  shifted_joined (Cons t ts) others (n ∷ lower) upper left right = (left.0, shifted_joined ts others lower upper left.1 right)

  -- if the last tree is a node of q, the top state shifts b
  last_shifts : (ts : Forest X) (st : List ℕ) (s : ℕ) → AreShifted ts st → EndsWithNode q ts → (next : ℕ) × (action_of table (last_of s st) b ≡ ShiftTo next)
  last_shifts Nil st s all last = absurd last
  last_shifts (Cons t ts) [] s all last = absurd all
  last_shifts (Cons t Nil) (n ∷ []) s all last = all.0 last
  last_shifts (Cons t Nil) (n ∷ m ∷ st) s all last = absurd all.1
  last_shifts (Cons t (Cons u us)) (n ∷ st) s all last = last_shifts (Cons u us) st n all.1 last

  followed_other : (first others : Forest X) (t : ℕ) → AreFollowed (joined first others) t → AreFollowed others t
  followed_other Nil others t all = all
  followed_other (Cons u us) others t all = followed_other us others t all.1

  -- a node in place of the last trees
  followed_node : (first others : Forest X) (t n : ℕ) (children : Forest X) → (n ≡ p → t ≡ b → (s : ℕ) × (action_of table s b ≡ ReduceBy p))
      → AreFollowed (joined first others) t → AreFollowed (joined first (Cons (Branch n children) Nil)) t
  followed_node Nil others t n children here all = (λ same next. here same (let token_is : t ≡ b = cc in token_is), tt)
  followed_node (Cons u Nil) others t n children here all = (λ same next. absurd (cc), followed_node Nil others t n children here all.1)
  followed_node (Cons u (Cons (Leaf x) us)) others t n children here all =
      (all.0, followed_node (Cons (Leaf x) us) others t n children here all.1)
  followed_node (Cons u (Cons (Branch m cs) us)) others t n children here all =
      (all.0, followed_node (Cons (Branch m cs) us) others t n children here all.1)

  -- a leaf of the lookahead after them
  followed_leaf : (first : Forest X) (t next : ℕ) (x : X) → t ≡ token x → AreFollowed first t → AreFollowed (joined first (Cons (Leaf x) Nil)) next
  followed_leaf Nil t next x is all = (λ same after. absurd same, tt)
  followed_leaf (Cons u Nil) t next x is all =
      (λ same after. all.0 same (ap (λ (k : ℕ). Some k) is ∙ after), followed_leaf Nil t next x is all.1)
  followed_leaf (Cons u (Cons (Leaf y) us)) t next x is all = (all.0, followed_leaf (Cons (Leaf y) us) t next x is all.1)
  followed_leaf (Cons u (Cons (Branch m cs) us)) t next x is all = (all.0, followed_leaf (Cons (Branch m cs) us) t next x is all.1)

  -- the children of a node of q: a tree of r, and then a leaf of b; so if the first is a node of p, some state reduces by p at b
  first_reduced : (children : Forest X) (v : List GrammarSymbol) (t : ℕ) → ForestFits token g children (Nonterminal r ∷ Terminal b ∷ v) → AreFollowed children t
      → BeginsWithNode p children → (s : ℕ) × (action_of table s b ≡ ReduceBy p)
  first_reduced Nil v t fits all first = absurd first
  first_reduced (Cons u Nil) v t fits all first = absurd fits.1
  first_reduced (Cons u (Cons (Leaf x) us)) v t fits all first = all.0 first (ap (λ (k : ℕ). Some k) fits.1.0)
  first_reduced (Cons u (Cons (Branch m cs) us)) v t fits all first = absurd fits.1.0

  -- the state above a node of q shifts b
  node_shifts : (s state : ℕ) (v : List GrammarSymbol) (upper : List ℕ) → Leads table s (Nonterminal r ∷ Terminal b ∷ v) upper → goto_of table s r ≡ Some state
      → (next : ℕ) × (action_of table state b ≡ ShiftTo next)
  node_shifts s state v [] leads goto = absurd leads
  node_shifts s state v (one ∷ []) leads goto = absurd leads.1
  node_shifts s state v (one ∷ two ∷ upper) leads goto =
      let goes : goto_of table s r ≡ Some one = leads.0 in
      let same : one ≡ state = cc in
      (two, subst (λ (n : ℕ). action_of table n b ≡ ShiftTo two) same leads.1.0)

  module _ (LastSays FirstSays : Type 0) (no_shift : LastSays → (s t next : ℕ) → action_of table s t ≡ ReduceBy p → action_of table s b ≢ ShiftTo next)
      (no_reduction : FirstSays → (s : ℕ) → action_of table s b ≢ ReduceBy p) where
    -- a node respects the precedences
    abbrev pub IsGood : ℕ → Forest X → Type 0
    IsGood n children = (LastSays → n ≡ p → ¬ (EndsWithNode q children)) × (FirstSays → n ≡ q → ¬ (BeginsWithNode p children))

    -- trees along the symbols of a stack, with these leaves and productions, before lookahead t
    pub record HasTrees (st : List ℕ) (xs : List X) (ps : List ℕ) (t : ℕ) : Type 0 where
      pub symbols : List GrammarSymbol
      pub above : List ℕ
      pub stack : st ≡ table.start ∷ above
      pub leads : Leads table table.start symbols above
      pub trees : Forest X
      pub fits : ForestFits token g trees symbols
      pub leaves_are : forest_leaves trees ≡ xs
      pub productions_are : forest_productions trees ≡ ps
      pub good : EachNodeIn IsGood trees
      pub shifted : AreShifted trees above
      pub followed : FirstSays → AreFollowed trees t

    -- a reduction makes a node
    trees_reduced : (t n : ℕ) (st after : List ℕ) (xs : List X) (ps : List ℕ) → HasTrees st xs ps t → Reduces g table t st n after
        → HasTrees after xs (ps ++ n ∷ []) t
    trees_reduced t n st after xs ps has reduces =
        let start = table.start in
        let along = cut g table never t n has.symbols has.above st after has.stack has.leads reduces in
        let below = along.below in
        let lower = along.lower in
        let upper = along.upper in
        let bottom = last_of start lower in
        let fits = subst (λ (ss : List GrammarSymbol). ForestFits token g has.trees ss) along.split has.fits in
        let parts = splits token g has.trees below (symbols_of g n) fits in
        let children = parts.others in
        let node : Forest X = Cons (Branch n children) Nil in
        let good = subst (EachNodeIn IsGood) parts.both has.good in
        let count : length lower ≡ length below = as_many table start below lower along.lower_leads in
        let shifted : AreShifted (joined parts.first children) (lower ++ upper) =
        subst (AreShifted (joined parts.first children)) along.both (subst (λ (ts : Forest X). AreShifted ts has.above) parts.both has.shifted) in
        let above_children = shifted_other parts.first children below lower upper parts.first_fits count shifted in
        let followed : FirstSays → AreFollowed (joined parts.first children) t = λ says.
        subst (λ (ts : Forest X). AreFollowed ts t) parts.both (has.followed says) in
        let parts_q = two_first (symbols_of g q) (Nonterminal r) (Terminal b) begins.first begins.second in
        let symbols_q : n ≡ q → symbols_of g n ≡ Nonterminal r ∷ Terminal b ∷ parts_q.0 = λ is. ap (symbols_of g) is ∙ parts_q.1 in
        record {
          symbols = below ++ Nonterminal (rule_of g n) ∷ [];
          above = lower ++ along.state ∷ [];
          stack = along.pushed;
          leads = leads_more table start below lower (Nonterminal (rule_of g n)) along.state along.lower_leads along.goto;
          trees = joined parts.first node;
          fits = joined_fits token g parts.first node below (Nonterminal (rule_of g n) ∷ []) parts.first_fits ((reduces.known, refl, parts.others_fit), tt);
          leaves_are = joined_leaves parts.first node
              ∙ ap (λ (ys : List X). forest_leaves parts.first ++ ys) (append-nil (forest_leaves children))
              ∙ sym (split_leaves token g has.trees below (symbols_of g n) parts) ∙ has.leaves_are;
          productions_are = joined_productions parts.first node
              ∙ ap (λ (ys : List ℕ). forest_productions parts.first ++ ys) (append-nil (forest_productions children ++ n ∷ []))
              ∙ sym (append_assoc (forest_productions parts.first) (forest_productions children) (n ∷ []))
              ∙ ap (λ (ys : List ℕ). ys ++ n ∷ []) (sym (ap forest_productions parts.both ∙ joined_productions parts.first children) ∙ has.productions_are);
          good = each_joined IsGood parts.first node (each_first IsGood parts.first children good) (
            (
              (
                λ says is last.
                    let shift = last_shifts children upper bottom above_children last in
                    no_shift says (last_of bottom upper) t shift.0 (along.action ∙ ap (λ (k : ℕ). ReduceBy k) is) shift.1,
                λ says is first.
                    let reduced = first_reduced children parts_q.0 t
                    (subst (λ (ss : List GrammarSymbol). ForestFits token g children ss) (symbols_q is) parts.others_fit)
                    (followed_other parts.first children t (followed says)) first in
                    no_reduction says reduced.0 reduced.1,
              ),
              each_other IsGood parts.first children good,
            ),
            tt,
          );
          shifted = shifted_joined parts.first node lower (along.state ∷ []) (shifted_first parts.first children below lower upper parts.first_fits count shifted) (
            λ is. node_shifts bottom along.state parts_q.0 upper
                (subst (λ (ss : List GrammarSymbol). Leads table bottom ss upper) (symbols_q is) along.upper_leads)
                (ap (goto_of table bottom) (sym (ap (rule_of g) is ∙ begins.of_rule)) ∙ along.goto),
            tt,
          );
          followed = λ says. followed_node parts.first children t n children
              (λ is at. (last_of bottom upper, sym (ap (λ (k : ℕ). action_of table (last_of bottom upper) k) at) ∙ along.action ∙ ap (λ (k : ℕ). ReduceBy k) is))
              (followed says);
        }

    pub trees_settled : (t : ℕ) (st ps after : List ℕ) (xs : List X) (done : List ℕ) → HasTrees st xs done t → Settles g table t st ps after
        → HasTrees after xs (done ++ ps) t
    trees_settled t st [] after xs done has settles =
        subst (λ (l : List ℕ). HasTrees l xs (done ++ []) t) settles.0 (subst (λ (ns : List ℕ). HasTrees st xs ns t) (sym (append-nil done)) has)
    trees_settled t st (n ∷ ps) after xs done has settles =
        subst (λ (ns : List ℕ). HasTrees after xs ns t) (append_assoc done (n ∷ []) ps)
        (trees_settled t settles.0 ps after xs (done ++ n ∷ []) (trees_reduced t n st settles.0 xs done has settles.1) settles.2)

    -- a shift makes a leaf
    pub trees_fed : (t : ℕ) (x : X) (st ps after : List ℕ) (xs : List X) (done : List ℕ) → t ≡ token x → HasTrees st xs done t → Feeds g table t st ps after
        → (next : ℕ) → HasTrees after (xs ++ x ∷ []) (done ++ ps) next
    trees_fed t x st ps after xs done is has feeds next =
        let start = table.start in
        let settled = trees_settled t st ps feeds.settled xs done has feeds.settles in
        let leaf : Forest X = Cons (Leaf x) Nil in
        let shifts : action_of table (last_of start settled.above) t ≡ ShiftTo feeds.next =
        action_at_last table start t settled.above (ShiftTo feeds.next) (sym (ap (top_action table t) settled.stack) ∙ feeds.shifts) in
        record {
          symbols = settled.symbols ++ Terminal t ∷ [];
          above = settled.above ++ feeds.next ∷ [];
          stack = feeds.pushed ∙ ap (λ (ss : List ℕ). ss ++ feeds.next ∷ []) settled.stack;
          leads = leads_more table start settled.symbols settled.above (Terminal t) feeds.next settled.leads shifts;
          trees = joined settled.trees leaf;
          fits = joined_fits token g settled.trees leaf settled.symbols (Terminal t ∷ []) settled.fits (sym is, tt);
          leaves_are = joined_leaves settled.trees leaf ∙ ap (λ (ys : List X). ys ++ x ∷ []) settled.leaves_are;
          productions_are = joined_productions settled.trees leaf ∙ append-nil (forest_productions settled.trees) ∙ settled.productions_are;
          good = each_joined IsGood settled.trees leaf settled.good (tt, tt);
          shifted = shifted_joined settled.trees leaf settled.above (feeds.next ∷ []) settled.shifted (λ is_node. absurd is_node, tt);
          followed = λ says. followed_leaf settled.trees t next x is (settled.followed says);
        }

    -- a tree of the start rule, with these leaves and productions, whose nodes respect the precedences
    pub record HasGoodTree (xs : List X) (ps : List ℕ) : Type 0 where
      pub tree : Tree X
      pub fits : Fits token g tree (Nonterminal g.start)
      pub leaves_are : leaves tree ≡ xs
      pub productions_are : productions tree ≡ ps
      pub good : EachNode IsGood tree

    -- the trees before another lookahead, if nothing follows from the lookahead
    pub trees_before : (¬ FirstSays) → (st : List ℕ) (xs : List X) (ps : List ℕ) (t u : ℕ) → HasTrees st xs ps t → HasTrees st xs ps u
    trees_before silent st xs ps t u has = record {
      symbols = has.symbols;
      above = has.above;
      stack = has.stack;
      leads = has.leads;
      trees = has.trees;
      fits = has.fits;
      leaves_are = has.leaves_are;
      productions_are = has.productions_are;
      good = has.good;
      shifted = has.shifted;
      followed = λ says. absurd (silent says);
    }

    -- there are none over the start state
    pub no_trees : (t : ℕ) → HasTrees (table.start ∷ []) [] [] t
    no_trees t = record {
      symbols = [];
      above = [];
      stack = refl;
      leads = tt;
      trees = Nil;
      fits = tt;
      leaves_are = refl;
      productions_are = refl;
      good = tt;
      shifted = tt;
      followed = λ says. tt;
    }

    -- trees of one rule are one tree
    one_of_rule : (ts : Forest X) (xs : List X) (ps : List ℕ) → ForestFits token g ts (Nonterminal g.start ∷ []) → forest_leaves ts ≡ xs
        → forest_productions ts ≡ ps → EachNodeIn IsGood ts → HasGoodTree xs ps
    one_of_rule Nil xs ps fits leaves_are prods good = absurd fits
    one_of_rule (Cons t Nil) xs ps fits leaves_are prods good = record {
      tree = t;
      fits = fits.0;
      leaves_are = sym (append-nil (leaves t)) ∙ leaves_are;
      productions_are = sym (append-nil (productions t)) ∙ prods;
      good = good.0;
    }
    one_of_rule (Cons t (Cons u us)) xs ps fits leaves_are prods good = absurd fits.1

    -- a run that accepts makes such a tree
    pub accepted_is_good : (lexemes : List X) (st : List ℕ) (i : ℕ) (ps : List ℕ) (end : FarEnd) → Far token g table lexemes st i ps end → end ≡ Accepted
        → (xs : List X) (done : List ℕ) → ((t : ℕ) → HasTrees st xs done t) → HasGoodTree (xs ++ drop i lexemes) (done ++ ps)
    accepted_is_good lexemes _ _ _ _ (goes_on st i ps qs next end within feeds rest) is xs done has =
        let more = next_at lexemes i within in
        let t = token_at token g lexemes i in
        let token_is : t ≡ token more.0 = ap (λ (o : Option X). option_map_or token o (end_token g)) more.1 in
        let taken : (xs ++ more.0 ∷ []) ++ drop (i + 1) lexemes ≡ xs ++ drop i lexemes =
        append_assoc xs (more.0 ∷ []) (drop (i + 1) lexemes) ∙ ap (λ (ys : List X). xs ++ ys) (sym more.2) in
        subst (λ (ys : List X). HasGoodTree ys (done ++ (ps ++ qs))) taken
        (subst (HasGoodTree ((xs ++ more.0 ∷ []) ++ drop (i + 1) lexemes)) (append_assoc done ps qs)
        (accepted_is_good lexemes next (i + 1) qs end rest is (xs ++ more.0 ∷ []) (done ++ ps)
        (λ u. trees_fed t more.0 st ps next xs done token_is (has t) feeds u)))
    accepted_is_good lexemes _ _ _ _ (accepts st i ps settled at_end settles accepted) is xs done has =
        let none : drop i lexemes ≡ [] = drop_all lexemes i (omega (arith, at_end)) in
        let all : xs ≡ xs ++ drop i lexemes = sym (append-nil xs) ∙ ap (λ (ys : List X). xs ++ ys) (sym none) in
        let t = end_token g in
        let trees = trees_settled t st ps settled xs done (has t) settles in
        let path : IsPath table trees.symbols settled = subst (IsPath table trees.symbols) (sym trees.stack) (refl, trees.leads) in
        let alone = never.accepts trees.symbols settled t path accepted in
        let fits = subst (λ (ss : List GrammarSymbol). ForestFits token g trees.trees ss) alone.1 trees.fits in
        one_of_rule trees.trees (xs ++ drop i lexemes) (done ++ ps) fits (trees.leaves_are ∙ all) trees.productions_are trees.good
    accepted_is_good lexemes _ _ _ _ (stops st i ps settled fits settles stuck) is xs done has =
        let no : Stopped (record { stack = settled; place = i }) ≡ Accepted = is in absurd (let none : ⊥ = cc in none)

    -- so does one from the start
    pub run_is_good : (lexemes : List X) (ps : List ℕ) → Far token g table lexemes (table.start ∷ []) 0 ps Accepted → HasGoodTree lexemes ps
    run_is_good lexemes ps run = accepted_is_good lexemes (table.start ∷ []) 0 ps Accepted run refl [] [] no_trees
