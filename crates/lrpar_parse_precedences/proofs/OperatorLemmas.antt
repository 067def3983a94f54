-- Runs over an operator grammar follow the trees that respect the precedences. Let the top state have an item with the rule after its
-- dot, and let the leaves of such a tree be next among the lexemes. Then the run feeds them, makes the tree's productions, and comes to
-- the stack with one state more. The recursion is on the tree. Only two actions are open to a choice. In the state after a left child
-- the operator is shifted: another reduction there is by the production below the tree, if that ends in the rule; and it shifts the
-- operators of the left spine. In the state after a right child the production is reduced: if another shift is open, the token is an
-- operator, and against it each production of the right spine reduces.
use Rattle.std.proofs.Common.{◌≡◌, ◌≢◌, ◌<◌, ◌+◌, ◌∙◌, inl, inr, refl, sym, ap, subst, arith, ℕ, List, [], ◌∷◌, ◌++◌, drop, length, Some, slice_get}
use Rattle.std.proofs.lemmas.List.{append-nil, append_assoc}
use Rattle.std.proofs.lemmas.Option.{slice_get_within}
use Rattle.lrpar_grammar.specs.Grammar.{Grammar, GrammarSymbol, IsWellFormed, Nonterminal, Terminal, end_token, prod_len, prods_len, rule_of, start_prod, symbols_of, tokens_len}
use Rattle.lrpar_grammar.specs.Tree.{Fits, Tree, leaves, productions}
use Rattle.lrpar_table_precedence.specs.Precedence.{PrecedenceLists, resolution_of}
use Rattle.lrpar_table_precedence.specs.declared.precedence.Resolution.TheVariants.{Reduce, Shift}
use Rattle.lrpar_table_rows.specs.Graph.{Graph, HasItem, graph_len, item_at}
use Rattle.lrpar_table_rows.specs.Table.{Accepts, IsClosed, ReduceBy, ShiftTo, Table, action_of, goto_of, states_len}
use Rattle.lrpar_table_first.specs.First.{Empty, IsFirst, Token}
use Rattle.lrpar_table_items.specs.Canonical.{HasAfterDot, HasReduce, LeadsTo, sets_of}
use Rattle.lrpar_table_items.specs.ItemSets.{Own}
use Rattle.lrpar_table_build.specs.Built.{IsBuiltBy}
use Rattle.lrpar_table_build.specs.KeptApart.{BeginsWithItsRule}
use Rattle.lrpar_table_build.proofs.ReachedLemmas.{known_by_symbol, no_end_token, reached_items, start_is_fresh}
use Rattle.lrpar_table_conditions.proofs.FirstTokenLemmas.{AreBetween, between_all, between_split, between_token, between_within}
use Rattle.lrpar_table_check.proofs.CompleteLemmas.{reduces_upper, reduction_first, top_more}
use Rattle.lrpar_table_check.proofs.OneTreeLemmas.{same_tree}
use Rattle.lrpar_table_sentences.proofs.AfterLemmas.{drop_at_get}
use Rattle.lrpar_table_stacks.specs.Reduction.{Feeds, IsSettled, top_action}
use Rattle.lrpar_table_stacks.specs.Run.{Accepted, Far, FarEnd, accepts, goes_on, token_at}
use Rattle.lrpar_table_stacks.specs.Stack.{top_of}
use Rattle.lrpar_table_stacks.proofs.RunLemmas.{runs_one_way, token_at_end}
use Rattle.lrpar_table_stacks.proofs.StepLemmas.{action_by_top}
use Rattle.lrpar_parse_precedences.specs.OperatorGrammars.{IsOperatorGrammar, IsRespectful, RespectfulTreesAreOne, RespectfulTreesAreTaken}
use Rattle.lrpar_parse_precedences.proofs.CalledLemmas.{reached_more}
use Rattle.lrpar_parse_precedences.proofs.KernelLemmas.{HasKernel, IsAfterRule, after_goto, after_reduces, goto_step, kernel_reduces, kernel_shifted, reduce_step, shift_step}
use Rattle.lrpar_parse_precedences.proofs.SpineLemmas.{AtomTree, BracketsTree, InfixTree, IsOperatorTree, LeftShifts, RightReduces, free_inner, free_left, free_right, infix_of, left_root, left_spine, listed_by, operator_tree, right_free, right_root, right_spine}

module _ {X : Type 0} (token : X → ℕ) (g : Grammar) (precedences : PrecedenceLists) (graph : Graph) (table : Table) (well : IsWellFormed g)
    (closed : IsClosed table) (built : IsBuiltBy g precedences graph table) (operators : IsOperatorGrammar g precedences) (lexemes : List X) where
  abbrev Runs : List ℕ → ℕ → List ℕ → FarEnd → Type 0
  Runs st i prods end = Far token g table lexemes st i prods end

  abbrev Kernel : ℕ → ℕ → ℕ → Type 0
  Kernel = HasKernel g precedences graph table well built operators

  -- a tree of the rule is followed from a stack at place i to place j, with these productions
  record TreeRun (st : List ℕ) (s : ℕ) (prods : List ℕ) (i j : ℕ) : Type 0 where
    pub next : ℕ
    pub within : next < states_len table
    pub goes : goto_of table s g.start ≡ Some next
    pub leads : LeadsTo g (sets_of graph) s (Nonterminal g.start) next
    pub far : (qs : List ℕ) (end : FarEnd) → Runs (st ++ next ∷ []) j qs end → Runs st i (prods ++ qs) end

  -- a leaf is shifted
  leaf_far : (x : X) (a : ℕ) (st : List ℕ) (s next i j : ℕ) → token x ≡ a → top_of st ≡ Some s → AreBetween lexemes (x ∷ []) i j → action_of table s a ≡ ShiftTo next
      → (qs : List ℕ) (end : FarEnd) → Runs (st ++ next ∷ []) j qs end → Runs st i qs end
  leaf_far x a st s next i j fits top between shifts qs end rest =
      let t = token_at token g lexemes i in
      let is : t ≡ a = between_token token g lexemes (x ∷ []) i j between ∙ fits in
      let action : top_action table t st ≡ ShiftTo next = action_by_top table t st s top ∙ ap (action_of table s) is ∙ shifts in
      let settled : IsSettled table t st = λ q reduces. let wrong : ShiftTo next ≡ ReduceBy q = sym action ∙ reduces in cc in
      let feeds : Feeds g table t st [] (st ++ next ∷ []) = record { settled = st; settles = (refl, settled); next = next; shifts = action; pushed = refl } in
      goes_on st i [] qs (st ++ next ∷ []) end (between_within lexemes x [] i j between) feeds
      (subst (λ (m : ℕ). Runs (st ++ next ∷ []) m qs end) between.past rest)

  -- a node is reduced over the states of its symbols
  node_far : (q s top next j : ℕ) (st ups : List ℕ) → q < start_prod g → length ups ≡ prod_len g q → top_of st ≡ Some s → top_of (st ++ ups) ≡ Some top
      → action_of table top (token_at token g lexemes j) ≡ ReduceBy q → goto_of table s g.start ≡ Some next
      → (qs : List ℕ) (end : FarEnd) → Runs (st ++ next ∷ []) j qs end → Runs (st ++ ups) j (q ∷ qs) end
  node_far q s top next j st ups low many is_top is_upper action goto qs end rest =
      let goes : goto_of table s (rule_of g q) ≡ Some next = ap (goto_of table s) (operators.one_rule q low) ∙ goto in
      let known : q < prods_len g = omega (arith, low) in
      reduction_first token g table lexemes (st ++ ups) j q (st ++ next ∷ []) qs end
      (reduces_upper g table (token_at token g lexemes j) q s top next st ups known many is_top is_upper action goes) rest

  -- an item moved on is where its symbol leads
  moved : (s q k t next : ℕ) (x : GrammarSymbol) → HasItem graph s q k t → slice_get (symbols_of g q) k ≡ Some x → LeadsTo g (sets_of graph) s x next
      → HasItem graph next q (k + 1) t
  moved s q k t next x has at leads = (leads (item_at q (k + 1) t)).1 (Own (item_at q (k + 1) t) (item_at q k t, has, at, refl))

  -- an item with the rule after its dot adds those of its productions
  begun : (s p k t0 q t : ℕ) → s < states_len table → q < start_prod g → HasItem graph s p k t0 → slice_get (symbols_of g p) k ≡ Some (Nonterminal g.start)
      → IsFirst g t0 (drop (k + 1) (symbols_of g p)) t → HasItem graph s q 0 t × (t < tokens_len g)
  begun s p k t0 q t within low has at first =
      let count = built.resolution.states in
      let inside : s < graph_len graph = omega (arith, count, within) in
      let reached = built.canonical.reached s inside in
      let x = item_at p k t0 in
      let y = item_at q 0 t in
      let here = reached_more g reached.0 x y ((reached.1 x).0 has)
      (record {
        rule = g.start;
        rest = drop (k + 1) (symbols_of g p);
        before = drop_at_get (symbols_of g p) k (Nonterminal g.start) at;
        known = omega (arith, low);
        of_rule = operators.one_rule q low;
        fresh = refl;
        first = first;
      }) in
      ((reached.1 y).1 here, (reached_items g well reached.0 y here).token)

  -- nothing is reduced in a state whose core isn't complete
  open_shifts : (s p k a : ℕ) → s < states_len table → Kernel s p k → k < prod_len g p → HasAfterDot g (sets_of graph) s (Terminal a)
      → (next : ℕ) × (action_of table s a ≡ ShiftTo next) × LeadsTo g (sets_of graph) s (Terminal a) next
  open_shifts s p k a within kernel unfinished before =
      shift_step g precedences graph table well built operators s a within before
      (λ q first.
      let same = kernel_reduces g precedences graph table well built operators s p k a q within kernel first.0 in
      let len : prod_len g q ≡ prod_len g p = ap (prod_len g) same.0 in
      let at = same.1 in absurd (omega (arith, at, unfinished, len)))

  -- a state whose core is complete reduces by it, if nothing else is there
  done_reduces : (s q t k : ℕ) → s < states_len table → t < tokens_len g → q < start_prod g → Kernel s q k → k ≡ prod_len g q → HasItem graph s q k t
      → action_of table s t ≡ ReduceBy q
  done_reduces s q t k within low listed kernel done has =
      let whole : HasItem graph s q (prod_len g q) t = subst (λ (n : ℕ). HasItem graph s q n t) done has in
      let other : q ≢ start_prod g = λ is. omega (arith, is, listed) in
      reduce_step g precedences graph table well built operators s t q within low (other, whole)
      (λ p reduces. (kernel_reduces g precedences graph table well built operators s q k t p within kernel reduces).0)
      (λ before.
      let none : (y : GrammarSymbol) → slice_get (symbols_of g q) k ≡ Some y → ⊥ = λ y at.
      let inside = slice_get_within (symbols_of g q) k y at in omega (arith, inside, done) in
      elim (kernel before.0 before.1) as (λ _. resolution_of precedences q t ≡ Some Reduce) [
        | inl same ↦
            absurd (none (Terminal t)
            (subst (λ (n : ℕ). slice_get (symbols_of g q) n ≡ Some (Terminal t)) same.1
            (subst (λ (p : ℕ). slice_get (symbols_of g p) before.0.dot ≡ Some (Terminal t)) same.0 before.2)))
        | inr fresh ↦ absurd (none (Nonterminal fresh.1.0) fresh.1.1)
      ])

  goto_within : (s next : ℕ) → goto_of table s g.start ≡ Some next → next < states_len table
  goto_within s next goes = closed.gotos_within s g.start next goes

  -- in a state after a right child a token after a dot is an operator; so the production reduces, if it does at operators
  reduces_at : (q b t three : ℕ) → BeginsWithItsRule g q g.start b → prod_len g q ≡ 3 → IsAfterRule g precedences graph table well built operators three q 2
      → HasAfterDot g (sets_of graph) three (Terminal t)
      → ((n a o : ℕ) → q ≡ n → BeginsWithItsRule g n g.start a → BeginsWithItsRule g o g.start t → resolution_of precedences n t ≡ Some Reduce)
      → resolution_of precedences q t ≡ Some Reduce
  reduces_at q b t three begins len after before reduces =
      let x = before.0 in
      let place = after x before.1 in
      elim place.3 as (λ _. resolution_of precedences q t ≡ Some Reduce) [
        | inl same ↦
            let there : slice_get (symbols_of g q) x.dot ≡ Some (Terminal t) =
            subst (λ (n : ℕ). slice_get (symbols_of g n) x.dot ≡ Some (Terminal t)) same.0 before.2 in
            let inside = slice_get_within (symbols_of g q) x.dot (Terminal t) there in
            let dot = place.1 in
            let core = same.1 in absurd (omega (arith, inside, dot, core, len))
        | inr front ↦
            let second : slice_get (symbols_of g x.prod) 1 ≡ Some (Terminal t) =
            subst (λ (n : ℕ). slice_get (symbols_of g x.prod) n ≡ Some (Terminal t)) (place.1 ∙ ap (λ (n : ℕ). n + 1) front) before.2 in
            let known = known_by_symbol g well x.prod 1 (Terminal t) second in
            let operator : BeginsWithItsRule g x.prod g.start t =
            record {
              known = known;
              of_rule = operators.one_rule x.prod (listed_by g precedences well operators x.prod (Terminal t) known second);
              first = subst (λ (n : ℕ). slice_get (symbols_of g x.prod) n ≡ Some (Nonterminal g.start)) front place.2;
              second = second;
            } in
            reduces q b x.prod refl begins operator
      ]

  tree_run : (tree : Tree X) → IsOperatorTree g precedences well operators token tree → IsRespectful g precedences tree
      → (st : List ℕ) (s : ℕ) → top_of st ≡ Some s → s < states_len table → (p k t0 : ℕ) → HasItem graph s p k t0
      → slice_get (symbols_of g p) k ≡ Some (Nonterminal g.start) → (kp kk : ℕ) → Kernel s kp kk → kk < prod_len g kp
      → (kk + 1 ≡ prod_len g kp → kp ≢ start_prod g → LeftShifts g precedences well operators token kp tree)
      → (i j : ℕ) → AreBetween lexemes (leaves tree) i j → IsFirst g t0 (drop (k + 1) (symbols_of g p)) (token_at token g lexemes j)
      → RightReduces g precedences well operators token (token_at token g lexemes j) tree → TreeRun st s (productions tree) i j
  tree_run _ (AtomTree q a x low is here) free st s top within p k t0 has at kp kk kernel unfinished shifts i j between first right =
      let t = token_at token g lexemes j in
      let start = begun s p k t0 q t within low has at first in
      let step = goto_step g precedences graph table well built operators s within (item_at p k t0, has, at) in
      let a_at : slice_get (symbols_of g q) 0 ≡ Some (Terminal a) = ap (λ (w : List GrammarSymbol). slice_get w 0) is in
      let len : prod_len g q ≡ 1 = ap (λ (w : List GrammarSymbol). length w) is in
      let one = open_shifts s kp kk a within kernel unfinished (item_at q 0 t, start.0, a_at) in
      let inside = closed.shifts_within s a one.0 one.1 in
      let core = kernel_shifted g precedences graph table well built operators s q 0 a one.0 a_at one.2 in
      let action = done_reduces one.0 q t (0 + 1) inside start.1 low core (omega (arith, len)) (moved s q 0 t one.0 (Terminal a) start.0 a_at one.2) in
      record {
        next = step.0;
        within = goto_within s step.0 step.1;
        goes = step.1;
        leads = step.2;
        far = λ qs end rest.
            leaf_far x a st s one.0 i j here top between one.1 (q ∷ qs) end
            (node_far q s one.0 step.0 j st (one.0 ∷ []) low (sym len) top (top_more st one.0) action step.1 qs end rest);
      }
  tree_run _ (BracketsTree q l c x y inner low is here there within_is) free st s top within p k t0 has at kp kk kernel unfinished shifts i j between first right =
      let t = token_at token g lexemes j in
      let start = begun s p k t0 q t within low has at first in
      let step = goto_step g precedences graph table well built operators s within (item_at p k t0, has, at) in
      let l_at : slice_get (symbols_of g q) 0 ≡ Some (Terminal l) = ap (λ (w : List GrammarSymbol). slice_get w 0) is in
      let r_at : slice_get (symbols_of g q) 1 ≡ Some (Nonterminal g.start) = ap (λ (w : List GrammarSymbol). slice_get w 1) is in
      let c_at : slice_get (symbols_of g q) 2 ≡ Some (Terminal c) = ap (λ (w : List GrammarSymbol). slice_get w 2) is in
      let len : prod_len g q ≡ 3 = ap (λ (w : List GrammarSymbol). length w) is in
      let first_part = between_split lexemes (x ∷ []) (leaves inner ++ y ∷ []) i j between in
      let m = i + length (x ∷ []) in
      let last_part = between_split lexemes (leaves inner) (y ∷ []) m j first_part.1 in
      let n = m + length (leaves inner) in
      let closing : token_at token g lexemes n ≡ c = between_token token g lexemes (y ∷ []) n j last_part.1 ∙ there in
      let one = open_shifts s kp kk l within kernel unfinished (item_at q 0 t, start.0, l_at) in
      let inside = closed.shifts_within s l one.0 one.1 in
      let one_core : Kernel one.0 q 1 = kernel_shifted g precedences graph table well built operators s q 0 l one.0 l_at one.2 in
      let one_has : HasItem graph one.0 q 1 t = moved s q 0 t one.0 (Terminal l) start.0 l_at one.2 in
      let no_operator : (o : ℕ) → ¬ (BeginsWithItsRule g o g.start c) = λ o begins.
      let place = operators.apart o q 1 2 c begins.second c_at in let wrong = place.1 in omega (arith, wrong) in
      let run = tree_run inner within_is (free_inner g precedences well operators token q x y inner free) (st ++ one.0 ∷ []) one.0 (top_more st one.0) inside
      q 1 t one_has r_at q 1 one_core (omega (arith, len)) (λ full other. absurd (omega (arith, full, len))) m n last_part.0
      (subst (λ (w : List GrammarSymbol). IsFirst g t w (token_at token g lexemes n)) (sym (ap (λ (w : List GrammarSymbol). drop 2 w) is))
      (subst (λ (u : ℕ). IsFirst g t (Terminal c ∷ []) u) (sym closing) (Token c [])))
      (subst (λ (u : ℕ). RightReduces g precedences well operators token u inner) (sym closing) (right_free g precedences well operators token c no_operator inner)) in
      let two = run.next in
      let two_after = after_goto g precedences graph table well built operators one.0 q 1 two one_core run.leads in
      let two_has : HasItem graph two q 2 t = moved one.0 q 1 t two (Nonterminal g.start) one_has r_at run.leads in
      let three = shift_step g precedences graph table well built operators two c run.within (item_at q 2 t, two_has, c_at)
      (λ o reduces.
      let same = after_reduces g precedences graph table well built operators two q 1 c o run.within two_after reduces.0 in
      let short : prod_len g o ≡ prod_len g q = ap (prod_len g) same.0 in
      let long = same.1 in absurd (omega (arith, long, short, len))) in
      let three_in = closed.shifts_within two c three.0 three.1 in
      let three_core : Kernel three.0 q 3 = kernel_shifted g precedences graph table well built operators two q 2 c three.0 c_at three.2 in
      let action = done_reduces three.0 q t 3 three_in start.1 low three_core (sym len) (moved two q 2 t three.0 (Terminal c) two_has c_at three.2) in
      let ups = one.0 ∷ two ∷ three.0 ∷ [] in
      let seam : ((st ++ one.0 ∷ []) ++ two ∷ []) ++ three.0 ∷ [] ≡ st ++ ups =
      append_assoc (st ++ one.0 ∷ []) (two ∷ []) (three.0 ∷ []) ∙ append_assoc st (one.0 ∷ []) (two ∷ three.0 ∷ []) in
      record {
        next = step.0;
        within = goto_within s step.0 step.1;
        goes = step.1;
        leads = step.2;
        far = λ qs end rest.
            let whole : productions inner ++ q ∷ qs ≡ ((productions inner ++ []) ++ q ∷ []) ++ qs =
            ap (λ (ps : List ℕ). ps ++ q ∷ qs) (sym (append-nil (productions inner))) ∙ sym (append_assoc (productions inner ++ []) (q ∷ []) qs) in
            subst (λ (ps : List ℕ). Runs st i ps end) whole
            (leaf_far x l st s one.0 i m here top first_part.0 one.1 (productions inner ++ q ∷ qs) end
            (run.far (q ∷ qs) end
            (leaf_far y c ((st ++ one.0 ∷ []) ++ two ∷ []) two three.0 n j there (top_more (st ++ one.0 ∷ []) two) last_part.1 three.1 (q ∷ qs) end
            (subst (λ (v : List ℕ). Runs v j (q ∷ qs) end) (sym seam)
            (node_far q s three.0 step.0 j st ups low (sym len) top (sym (ap top_of seam) ∙ top_more ((st ++ one.0 ∷ []) ++ two ∷ []) three.0) action step.1 qs end rest)))));
      }
  tree_run _ (InfixTree q b x left right low begins here left_is right_is) free st s top within p k t0 has at kp kk kernel unfinished shifts i j between first right_spine_is =
      let t = token_at token g lexemes j in
      let is = (infix_of g precedences well operators q b begins).symbols in
      let start = begun s p k t0 q t within low has at first in
      let step = goto_step g precedences graph table well built operators s within (item_at p k t0, has, at) in
      let r_at : slice_get (symbols_of g q) 2 ≡ Some (Nonterminal g.start) = ap (λ (w : List GrammarSymbol). slice_get w 2) is in
      let len : prod_len g q ≡ 3 = ap (λ (w : List GrammarSymbol). length w) is in
      let first_part = between_split lexemes (leaves left) (x ∷ (leaves right ++ [])) i j between in
      let m = i + length (leaves left) in
      let last_part = between_split lexemes (x ∷ []) (leaves right ++ []) m j first_part.1 in
      let n = m + length (x ∷ []) in
      let right_between : AreBetween lexemes (leaves right) n j =
      subst (λ (l : List X). AreBetween lexemes l n j) (append-nil (leaves right)) last_part.1 in
      let operator : token_at token g lexemes m ≡ b = between_token token g lexemes (x ∷ []) m n last_part.0 ∙ here in
      let run = tree_run left left_is (free_left g precedences well operators token q x left right free) st s top within q 0 t start.0 begins.first kp kk kernel unfinished
      (λ full other. (shifts full other).1) i m first_part.0
      (subst (λ (w : List GrammarSymbol). IsFirst g t w (token_at token g lexemes m)) (sym (ap (λ (w : List GrammarSymbol). drop 1 w) is))
      (subst (λ (u : ℕ). IsFirst g t (Terminal b ∷ Nonterminal g.start ∷ []) u) (sym operator) (Token b (Nonterminal g.start ∷ []))))
      (subst (λ (u : ℕ). RightReduces g precedences well operators token u left) (sym operator)
      (right_spine g precedences well operators token left left_is (free_left g precedences well operators token q x left right free) b
      (left_root g precedences well operators token q b x left right begins free))) in
      let one = run.next in
      let one_after = after_goto g precedences graph table well built operators s kp kk one kernel run.leads in
      let one_has : HasItem graph one q 1 t = moved s q 0 t one (Nonterminal g.start) start.0 begins.first run.leads in
      let two = shift_step g precedences graph table well built operators one b run.within (item_at q 1 t, one_has, begins.second)
      (λ o reduces.
      let same = after_reduces g precedences graph table well built operators one kp kk b o run.within one_after reduces.0 in
      let full : kk + 1 ≡ prod_len g kp = sym same.1 ∙ ap (prod_len g) same.0 in
      let other : kp ≢ start_prod g = λ last. reduces.0.0 (same.0 ∙ last) in
      subst (λ (u : ℕ). resolution_of precedences u b ≡ Some Shift) (sym same.0) ((shifts full other).0 q b refl begins)) in
      let two_in = closed.shifts_within one b two.0 two.1 in
      let two_core : Kernel two.0 q 2 = kernel_shifted g precedences graph table well built operators one q 1 b two.0 begins.second two.2 in
      let two_has : HasItem graph two.0 q 2 t = moved one q 1 t two.0 (Terminal b) one_has begins.second two.2 in
      let st_two = (st ++ one ∷ []) ++ two.0 ∷ [] in
      let later = tree_run right right_is (free_right g precedences well operators token q x left right free) st_two two.0 (top_more (st ++ one ∷ []) two.0) two_in
      q 2 t two_has r_at q 2 two_core (omega (arith, len))
      (λ full other. left_spine g precedences well operators token right right_is (free_right g precedences well operators token q x left right free) q b begins
      (right_root g precedences well operators token q b x left right begins free))
      n j right_between
      (subst (λ (w : List GrammarSymbol). IsFirst g t w t) (sym (ap (λ (w : List GrammarSymbol). drop 3 w) is)) Empty)
      right_spine_is.1 in
      let three = later.next in
      let three_after = after_goto g precedences graph table well built operators two.0 q 2 three two_core later.leads in
      let three_has : HasItem graph three q 3 t = moved two.0 q 2 t three (Nonterminal g.start) two_has r_at later.leads in
      let whole_item : HasItem graph three q (prod_len g q) t = subst (λ (d : ℕ). HasItem graph three q d t) (sym len) three_has in
      let other : q ≢ start_prod g = λ last. omega (arith, last, low) in
      let action = reduce_step g precedences graph table well built operators three t q later.within start.1 (other, whole_item)
      (λ o reduces. (after_reduces g precedences graph table well built operators three q 2 t o later.within three_after reduces).0)
      (λ before. reduces_at q b t three begins len three_after before right_spine_is.0) in
      let ups = one ∷ two.0 ∷ three ∷ [] in
      let seam : st_two ++ three ∷ [] ≡ st ++ ups =
      append_assoc (st ++ one ∷ []) (two.0 ∷ []) (three ∷ []) ∙ append_assoc st (one ∷ []) (two.0 ∷ three ∷ []) in
      record {
        next = step.0;
        within = goto_within s step.0 step.1;
        goes = step.1;
        leads = step.2;
        far = λ qs end rest.
            let ls = productions left in
            let rs = productions right in
            let whole : ls ++ (rs ++ q ∷ qs) ≡ ((ls ++ (rs ++ [])) ++ q ∷ []) ++ qs =
            sym (append_assoc ls rs (q ∷ qs)) ∙ ap (λ (v : List ℕ). (ls ++ v) ++ q ∷ qs) (sym (append-nil rs))
            ∙ sym (append_assoc (ls ++ (rs ++ [])) (q ∷ []) qs) in
            subst (λ (ps : List ℕ). Runs st i ps end) whole
            (run.far (rs ++ q ∷ qs) end
            (leaf_far x b (st ++ one ∷ []) one two.0 m n here (top_more st one) last_part.0 two.1 (rs ++ q ∷ qs) end
            (later.far (q ∷ qs) end
            (subst (λ (v : List ℕ). Runs v j (q ∷ qs) end) (sym seam)
            (node_far q s three step.0 j st ups low (sym len) top (sym (ap top_of seam) ∙ top_more st_two three) action step.1 qs end rest)))));
      }

  -- the run from the start over the leaves of such a tree accepts
  sentence_run : (tree : Tree X) → Fits token g tree (Nonterminal g.start) → IsRespectful g precedences tree → leaves tree ≡ lexemes
      → Runs (table.start ∷ []) 0 (productions tree) Accepted
  sentence_run tree fits free are =
      let n = length lexemes in
      let end : token_at token g lexemes n ≡ end_token g = token_at_end token g lexemes n (omega arith) in
      let item = item_at (start_prod g) 0 (end_token g) in
      let zero = built.resolution.start in
      let has_zero : HasItem graph 0 (start_prod g) 0 (end_token g) = (built.canonical.start item).1 (Own item refl) in
      let has : HasItem graph table.start (start_prod g) 0 (end_token g) = subst (λ (s : ℕ). HasItem graph s (start_prod g) 0 (end_token g)) (sym zero) has_zero in
      let at : slice_get (symbols_of g (start_prod g)) 0 ≡ Some (Nonterminal g.start) = ap (λ (w : List GrammarSymbol). slice_get w 0) well.last_symbols in
      let kernel : Kernel table.start (start_prod g) 0 = λ x there.
      inr (start_is_fresh g well x ((built.canonical.start x).0 (subst (λ (s : ℕ). sets_of graph s x) zero there)), (g.start, at)) in
      let len : prod_len g (start_prod g) ≡ 1 = ap (λ (w : List GrammarSymbol). length w) well.last_symbols in
      let no_operator : (o : ℕ) → ¬ (BeginsWithItsRule g o g.start (end_token g)) = λ o begins. no_end_token g well o 1 (end_token g) refl begins.second in
      let between : AreBetween lexemes (leaves tree) 0 n = subst (λ (xs : List X). AreBetween lexemes xs 0 n) (sym are) (between_all lexemes) in
      let run = tree_run tree (operator_tree g precedences well operators token tree fits) free (table.start ∷ []) table.start refl closed.start_within
      (start_prod g) 0 (end_token g) has at (start_prod g) 0 kernel (omega (arith, len)) (λ full other. absurd (other refl)) 0 n between
      (subst (λ (w : List GrammarSymbol). IsFirst g (end_token g) w (token_at token g lexemes n)) (sym (ap (λ (w : List GrammarSymbol). drop 1 w) well.last_symbols))
      (subst (λ (u : ℕ). IsFirst g (end_token g) [] u) (sym end) Empty))
      (subst (λ (u : ℕ). RightReduces g precedences well operators token u tree) (sym end) (right_free g precedences well operators token (end_token g) no_operator tree)) in
      let after = after_goto g precedences graph table well built operators table.start (start_prod g) 0 run.next kernel run.leads in
      let accept : HasItem graph run.next (start_prod g) 1 (end_token g) = moved table.start (start_prod g) 0 (end_token g) run.next (Nonterminal g.start) has at run.leads in
      let no_shift : ¬ (HasAfterDot g (sets_of graph) run.next (Terminal (end_token g))) = λ before. no_end_token g well before.0.prod before.0.dot (end_token g) refl before.2 in
      let no_reduction : (p : ℕ) → ¬ (HasReduce g (sets_of graph) run.next (end_token g) p) = λ p reduces.
      reduces.0 (after_reduces g precedences graph table well built operators run.next (start_prod g) 0 (end_token g) p run.within after reduces).0 in
      let acts = built.resolution.acts run.next (end_token g) run.within (omega arith) in
      let accepted_at : action_of table run.next (end_token g) ≡ Accepts = acts.accepts no_shift no_reduction accept in
      let st = table.start ∷ run.next ∷ [] in
      let accepted : top_action table (end_token g) st ≡ Accepts = action_by_top table (end_token g) st run.next refl ∙ accepted_at in
      let settled : IsSettled table (end_token g) st = λ q reduces. let wrong : Accepts ≡ ReduceBy q = sym accepted ∙ reduces in cc in
      subst (λ (ps : List ℕ). Runs (table.start ∷ []) 0 ps Accepted) (append-nil (productions tree))
      (run.far [] Accepted (accepts st n [] st refl (refl, settled) accepted))

pub respectful_trees_are_taken : {X : Type 0} → RespectfulTreesAreTaken X
respectful_trees_are_taken {X} token precedences g graph table well closed built operators tree fits respects =
    sentence_run token g precedences graph table well closed built operators (leaves tree) tree fits respects refl

pub respectful_trees_are_one : {X : Type 0} → RespectfulTreesAreOne X
respectful_trees_are_one {X} token precedences g graph table well closed built operators tree other fits other_fits respects other_respects same =
    let run = respectful_trees_are_taken token precedences g graph table well closed built operators tree fits respects in
    let other_run = respectful_trees_are_taken token precedences g graph table well closed built operators other other_fits other_respects in
    let there : Far token g table (leaves tree) (table.start ∷ []) 0 (productions other) Accepted =
    subst (λ (xs : List X). Far token g table xs (table.start ∷ []) 0 (productions other) Accepted) (sym same) other_run in
    let prods = runs_one_way token g table (leaves tree) (table.start ∷ []) 0 (productions tree) (productions other) Accepted Accepted run there in
    same_tree token g tree other (Nonterminal g.start) fits other_fits prods.0 same
