-- Trees of rules grow, and a walk along a text meets the rules that were added.
use Rattle.std.proofs.Common.{◌≡◌, ◌⊎◌, ℕ, ◌+◌, ◌-◌, ◌<◌, ◌≤◌, ◌==◌, true, false, List, [], ◌∷◌, ◌++◌, drop, get_or, length, map, set, take, Option, Some, None, option_and_then, slice_get, refl, sym, ap, ◌∙◌, subst, inl, inr, ⊎_elim, arith, zero, suc, drop-cons, eq-eqb, length-drop, ne_eqb}
use Rattle.std.specs.List.{Contains}
use Rattle.std.specs.Option.{IfSome, IsSomeAnd}
use Rattle.std.proofs.lemmas.Bool.{cases_Bool, cases_lt, cond-false, cond-true}
use Rattle.std.proofs.lemmas.List.{length-append, length-map, length-set, length-take-le, map-append, take_all, take_more}
use Rattle.std.proofs.lemmas.List.Elements.{Contains-append_left, Contains-push}
use Rattle.std.proofs.lemmas.Option.{none-some, same_Some, slice_get_read}
use Rattle.regex_hir.proofs.AttemptLemmas.{option_and_then_some}
use Rattle.regex_meta.specs.Programs.{pattern_of}
use Rattle.regex_meta.specs.declared.program.Program.{Program}
use Rattle.lrpar_lexer.specs.Anchored.{HasNothingAtStart}
use Rattle.lrpar_lexer.specs.Rules.{anchored_of}
use Rattle.lrpar_lexer.specs.RuleTrees.{AreMet, Grows, IsBranchPushed, IsMet, IsNodePushed, IsRulePushed, IsTree, Meets, MeetsBelow, branch_to, branches_at, branches_of, next_of, rules_at, rules_of}
use Rattle.lrpar_lexer.specs.declared.rule.LexRule.{LexRule}
use Rattle.lrpar_lexer.specs.declared.rule_tree.Branch.{Branch}
use Rattle.lrpar_lexer.specs.declared.rule_tree.Node.{Node}

-- what is so of no node and of one more node alike is so of each place as before
at_pushed : {B : Type 0} (f : Option Node → B) (old : List Node) (node : Node) (n : ℕ) → f (Some node) ≡ f None
    → f (slice_get (old ++ node ∷ []) n) ≡ f (slice_get old n)
at_pushed f [] node zero same = same
at_pushed f [] node (suc n) same = refl
at_pushed f (x ∷ old) node zero same = refl
at_pushed f (x ∷ old) node (suc n) same = at_pushed f old node n same

-- what a changed node keeps is kept at each place
after_set : (P : Option Node → Type 0) (old : List Node) (n m : ℕ) (node : Node) → (P (slice_get old n) → P (Some node))
    → P (slice_get old m) → P (slice_get (set old n node) m)
after_set P [] zero m node keeps has = has
after_set P [] (suc n) m node keeps has = has
after_set P (x ∷ old) zero zero node keeps has = keeps has
after_set P (x ∷ old) zero (suc m) node keeps has = has
after_set P (x ∷ old) (suc n) zero node keeps has = has
after_set P (x ∷ old) (suc n) (suc m) node keeps has = after_set P old n m node keeps has

-- the changed node
at_set : (old : List Node) (n : ℕ) (node : Node) → n < length old → slice_get (set old n node) n ≡ Some node
at_set [] n node within = absurd (omega arith)
at_set (x ∷ old) zero node within = refl
at_set (x ∷ old) (suc n) node within = at_set old n node (omega arith)

-- one more branch
branch_more : (all : List Branch) (b : Branch) (byte next : ℕ) → branch_to all byte ≡ Some next → branch_to (all ++ b ∷ []) byte ≡ Some next
branch_more [] b byte next is = absurd (none-some next is)
branch_more (x ∷ all) b byte next is = ⊎_elim
    (λ (same : (x.byte == byte) ≡ true).
    cond-true (x.byte == byte) (Some x.node) (branch_to (all ++ b ∷ []) byte) same ∙ sym (cond-true (x.byte == byte) (Some x.node) (branch_to all byte) same) ∙ is)
    (λ (other : (x.byte == byte) ≡ false).
    cond-false (x.byte == byte) (Some x.node) (branch_to (all ++ b ∷ []) byte) other
    ∙ branch_more all b byte next (sym (cond-false (x.byte == byte) (Some x.node) (branch_to all byte) other) ∙ is))
    (cases_Bool (x.byte == byte))

-- leads where the others lead, or to its node
branch_cases : (all : List Branch) (b : Branch) (byte next : ℕ) → branch_to (all ++ b ∷ []) byte ≡ Some next
    → (branch_to all byte ≡ Some next) ⊎ (b.node ≡ next)
branch_cases [] b byte next is = ⊎_elim
    (λ (same : (b.byte == byte) ≡ true). inr (same_Some b.node next (sym (cond-true (b.byte == byte) (Some b.node) None same) ∙ is)))
    (λ (other : (b.byte == byte) ≡ false). absurd (none-some next (sym (cond-false (b.byte == byte) (Some b.node) None other) ∙ is)))
    (cases_Bool (b.byte == byte))
branch_cases (x ∷ all) b byte next is = ⊎_elim
    (λ (same : (x.byte == byte) ≡ true).
    inl (cond-true (x.byte == byte) (Some x.node) (branch_to all byte) same ∙ sym (cond-true (x.byte == byte) (Some x.node) (branch_to (all ++ b ∷ []) byte) same) ∙ is))
    (λ (other : (x.byte == byte) ≡ false).
    ⊎_elim
    (λ (before : branch_to all byte ≡ Some next). inl (cond-false (x.byte == byte) (Some x.node) (branch_to all byte) other ∙ before))
    (λ (last : b.node ≡ next). inr last)
    (branch_cases all b byte next (sym (cond-false (x.byte == byte) (Some x.node) (branch_to (all ++ b ∷ []) byte) other) ∙ is)))
    (cases_Bool (x.byte == byte))

-- and leads to its node if no other has its byte
branch_last : (all : List Branch) (b : Branch) (byte : ℕ) → (b.byte == byte) ≡ true → branch_to all byte ≡ None
    → branch_to (all ++ b ∷ []) byte ≡ Some b.node
branch_last [] b byte same none = cond-true (b.byte == byte) (Some b.node) None same
branch_last (x ∷ all) b byte same none = ⊎_elim
    (λ (taken : (x.byte == byte) ≡ true).
    absurd (none-some x.node (sym none ∙ cond-true (x.byte == byte) (Some x.node) (branch_to all byte) taken)))
    (λ (other : (x.byte == byte) ≡ false).
    cond-false (x.byte == byte) (Some x.node) (branch_to (all ++ b ∷ []) byte) other
    ∙ branch_last all b byte same (sym (cond-false (x.byte == byte) (Some x.node) (branch_to all byte) other) ∙ none))
    (cases_Bool (x.byte == byte))

-- the branches from place i on, of which the first has another byte, or that byte, or which are none
pub branch_past : (all : List Branch) (i byte : ℕ) (d : Branch) → i < length all → ((get_or all i d).byte ≡ byte → ⊥)
    → branch_to (drop i all) byte ≡ branch_to (drop (i + 1) all) byte
branch_past all i byte d within other =
    let next : suc i ≡ i + 1 = omega arith in
    ap (λ bs. branch_to bs byte) (drop-cons all i d within)
    ∙ cond-false ((get_or all i d).byte == byte) (Some (get_or all i d).node) (branch_to (drop (suc i) all) byte) (ne_eqb (get_or all i d).byte byte other)
    ∙ ap (λ k. branch_to (drop k all) byte) next

pub branch_here : (all : List Branch) (i byte : ℕ) (d : Branch) → i < length all → (get_or all i d).byte ≡ byte
    → branch_to (drop i all) byte ≡ Some (get_or all i d).node
branch_here all i byte d within same =
    ap (λ bs. branch_to bs byte) (drop-cons all i d within)
    ∙ cond-true ((get_or all i d).byte == byte) (Some (get_or all i d).node) (branch_to (drop (suc i) all) byte) (eq-eqb (get_or all i d).byte byte same)

pub branch_end : (all : List Branch) (i byte : ℕ) → length all ≤ i → branch_to (drop i all) byte ≡ None
branch_end [] zero byte long = refl
branch_end [] (suc i) byte long = refl
branch_end (x ∷ all) zero byte long = absurd (omega arith)
branch_end (x ∷ all) (suc i) byte long = branch_end all i byte (omega arith)

-- no nodes lead anywhere
pub no_next : (nodes : List Node) (n byte next : ℕ) → nodes ≡ [] → next_of nodes n byte ≡ Some next → ⊥
no_next nodes n byte next none is = none-some next (sym (ap (λ ns. next_of ns n byte) none) ∙ is)

-- one more node
pub pushed_len : (old new : List Node) → IsNodePushed old new → length new ≡ length old + 1
pushed_len old new it = ap length it.is ∙ length-append old (it.node ∷ [])

-- the rules and the branches of a node that was read
pub rules_read : (nodes : List Node) (n : ℕ) (node : Node) → n < length nodes → node ≡ get_or nodes n node → rules_at nodes n ≡ node.rules.items
rules_read nodes n node within read = ap rules_of (slice_get_read nodes (length nodes) n node refl within read)

pub branches_read : (nodes : List Node) (n : ℕ) (node : Node) → n < length nodes → node ≡ get_or nodes n node → branches_at nodes n ≡ node.branches.items
branches_read nodes n node within read = ap branches_of (slice_get_read nodes (length nodes) n node refl within read)

-- the branches lead to nodes
abbrev LeadsWithin : ℕ → Option Node → Type 0
LeadsWithin bound node = (byte next : ℕ) → branch_to (branches_of node) byte ≡ Some next → next < bound

tree_set : (old new : List Node) (n : ℕ) (node : Node) → new ≡ set old n node → (LeadsWithin (length old) (slice_get old n) → LeadsWithin (length old) (Some node))
    → IsTree old → IsTree new
tree_set old new n node is keeps tree =
    let len : length new ≡ length old = ap length is ∙ length-set old n node in
    record {
      first = omega (arith, len, tree.first);
      within = λ m byte next leads.
          let below : next < length old =
          after_set (LeadsWithin (length old)) old n m node keeps (tree.within m) byte next
          (subst (λ ns. next_of ns m byte ≡ Some next) is leads) in
          omega (arith, len, below);
    }

-- nothing is lost
pub grows_same : (nodes : List Node) → Grows nodes nodes
grows_same nodes = record { rules = λ n rule has. has; branches = λ n byte next is. is; tree = λ t. t }

pub grows_both : (a b c : List Node) → Grows a b → Grows b c → Grows a c
grows_both a b c first second = record {
  rules = λ n rule has. second.rules n rule (first.rules n rule has);
  branches = λ n byte next is. second.branches n byte next (first.branches n byte next is);
  tree = λ t. second.tree (first.tree t);
}

pub node_grows : (old new : List Node) → IsNodePushed old new → Grows old new
node_grows old new it =
    let rules : (n : ℕ) → rules_at new n ≡ rules_at old n =
    λ n. ap (λ ns. rules_at ns n) it.is ∙ at_pushed rules_of old it.node n it.no_rules in
    let branches : (n : ℕ) → branches_at new n ≡ branches_at old n =
    λ n. ap (λ ns. branches_at ns n) it.is ∙ at_pushed branches_of old it.node n it.no_branches in
    let len : length new ≡ length old + 1 = ap length it.is ∙ length-append old (it.node ∷ []) in
    record {
      rules = λ n rule has. subst (λ rs. Contains rs rule) (sym (rules n)) has;
      branches = λ n byte next is. ap (λ bs. branch_to bs byte) (branches n) ∙ is;
      tree = λ t. record {
        first = omega (arith, len, t.first);
        within = λ n byte next is.
            let below : next < length old = t.within n byte next (sym (ap (λ bs. branch_to bs byte) (branches n)) ∙ is) in
            omega (arith, len, below);
      };
    }

pub rule_grows : (old new : List Node) (n rule : ℕ) → IsRulePushed old n rule new → Grows old new
rule_grows old new n rule it = record {
  rules = λ m r has.
      subst (λ ns. Contains (rules_at ns m) r) (sym it.is)
      (after_set (λ node. Contains (rules_of node) r) old n m it.node
      (λ had. subst (λ rs. Contains rs r) (sym it.rules) (Contains-append_left (rules_at old n) (rule ∷ []) r had)) has);
  branches = λ m byte next is.
      subst (λ ns. next_of ns m byte ≡ Some next) (sym it.is)
      (after_set (λ node. branch_to (branches_of node) byte ≡ Some next) old n m it.node
      (λ led. ap (λ bs. branch_to bs byte) it.branches ∙ led) is);
  tree = tree_set old new n it.node it.is (λ led byte next is. led byte next (sym (ap (λ bs. branch_to bs byte) it.branches) ∙ is));
}

pub branch_grows : (old new : List Node) (n : ℕ) (b : Branch) → b.node < length old → IsBranchPushed old n b new → Grows old new
branch_grows old new n b within it = record {
  rules = λ m r has.
      subst (λ ns. Contains (rules_at ns m) r) (sym it.is)
      (after_set (λ node. Contains (rules_of node) r) old n m it.node (λ had. subst (λ rs. Contains rs r) (sym it.rules) had) has);
  branches = λ m byte next is.
      subst (λ ns. next_of ns m byte ≡ Some next) (sym it.is)
      (after_set (λ node. branch_to (branches_of node) byte ≡ Some next) old n m it.node
      (λ led. ap (λ bs. branch_to bs byte) it.branches ∙ branch_more (branches_at old n) b byte next led) is);
  tree = tree_set old new n it.node it.is (λ led byte next is. ⊎_elim
      (λ (before : branch_to (branches_at old n) byte ≡ Some next). led byte next before)
      (λ (last : b.node ≡ next). subst (λ k. k < length old) last within)
      (branch_cases (branches_at old n) b byte next (sym (ap (λ bs. branch_to bs byte) it.branches) ∙ is)));
}

-- a rule that was added to a node is there
pub rule_is_there : (old new : List Node) (n rule : ℕ) → n < length old → IsRulePushed old n rule new → Contains (rules_at new n) rule
rule_is_there old new n rule within it =
    let there : rules_at new n ≡ rules_at old n ++ rule ∷ [] =
    ap (λ ns. rules_at ns n) it.is ∙ ap rules_of (at_set old n it.node within) ∙ it.rules in
    subst (λ rs. Contains rs rule) (sym there) (Contains-push (rules_at old n) rule)

-- a branch that was added leads to its node
pub branch_is_there : (old new : List Node) (n : ℕ) (b : Branch) (byte : ℕ) → n < length old → (b.byte == byte) ≡ true
    → next_of old n byte ≡ None → IsBranchPushed old n b new → next_of new n byte ≡ Some b.node
branch_is_there old new n b byte within same none it =
    ap (λ ns. next_of ns n byte) it.is ∙ ap (λ node. branch_to (branches_of node) byte) (at_set old n it.node within)
    ∙ ap (λ bs. branch_to bs byte) it.branches ∙ branch_last (branches_at old n) b byte same none

-- one more node leads nowhere else than before
pub next_pushed : (old new : List Node) (n byte : ℕ) → IsNodePushed old new → next_of new n byte ≡ next_of old n byte
next_pushed old new n byte it =
    ap (λ ns. next_of ns n byte) it.is ∙ ap (λ bs. branch_to bs byte) (at_pushed branches_of old it.node n it.no_branches)

-- the node at the end of the walk along a text from node n
abbrev pub walk : List Node → ℕ → List ℕ → Option ℕ
walk nodes n [] = Some n
walk nodes n (byte ∷ text) = option_and_then (λ next. walk nodes next text) (next_of nodes n byte)

-- stays while the tree grows
pub walk_grows : (old new : List Node) → Grows old new → (n : ℕ) (text : List ℕ) (end : ℕ) → walk old n text ≡ Some end → walk new n text ≡ Some end
walk_grows old new grows n [] end is = is
walk_grows old new grows n (byte ∷ text) end is =
    let step = option_and_then_some (λ next. walk old next text) (next_of old n byte) end is in
    ap (option_and_then (λ next. walk new next text)) (grows.branches n byte step.0 step.1) ∙ walk_grows old new grows step.0 text end step.2

-- one byte more
pub walk_more : (nodes : List Node) (n : ℕ) (text : List ℕ) (end byte next : ℕ) → walk nodes n text ≡ Some end → next_of nodes end byte ≡ Some next
    → walk nodes n (text ++ byte ∷ []) ≡ Some next
walk_more nodes n [] end byte next is leads =
    let same : n ≡ end = same_Some n end is in
    ap (option_and_then (λ k. Some k)) (subst (λ k. next_of nodes k byte ≡ Some next) (sym same) leads)
walk_more nodes n (first ∷ text) end byte next is leads =
    let step = option_and_then_some (λ k. walk nodes k text) (next_of nodes n first) end is in
    ap (option_and_then (λ k. walk nodes k (text ++ byte ∷ []))) step.1 ∙ walk_more nodes step.0 text end byte next step.2 leads

-- the next byte of a text after its first
pub walk_next : (nodes : List Node) (n : ℕ) (text : List ℕ) (k end byte next : ℕ) → k < length (take (length text - 1) (drop 1 text))
    → byte ≡ get_or (take (length text - 1) (drop 1 text)) k 0 → walk nodes n (take k (drop 1 text)) ≡ Some end → next_of nodes end byte ≡ Some next
    → walk nodes n (take (k + 1) (drop 1 text)) ≡ Some next
walk_next nodes n text k end byte next within read is leads =
    let whole : take (length text - 1) (drop 1 text) ≡ drop 1 text = take_all (length text - 1) (drop 1 text) (omega (arith, length-drop 1 text)) in
    let inside : k < length (drop 1 text) = subst (λ l. k < length l) whole within in
    let here : byte ≡ get_or (drop 1 text) k 0 = read ∙ ap (λ l. get_or l k 0) whole in
    ap (walk nodes n) (take_more (drop 1 text) k 0 inside)
    ∙ walk_more nodes n (take k (drop 1 text)) end (get_or (drop 1 text) k 0) next is (subst (λ b. next_of nodes end b ≡ Some next) here leads)

pub if_some : {A : Type 0} {P : A → Type 0} (o : Option A) → ((x : A) → o ≡ Some x → P x) → IfSome o P
if_some None so = tt
if_some (Some x) so = so x refl

some_and : {A : Type 0} (P : A → Type 0) (o : Option A) (x : A) → o ≡ Some x → P x → IsSomeAnd o P
some_and P o x is has = subst (λ o. IsSomeAnd o P) (sym is) has

the_some : {A : Type 0} (P : A → Type 0) (o : Option A) → IsSomeAnd o P → (x : A) × (o ≡ Some x) × P x
the_some P None has = absurd has
the_some P (Some x) has = (x, refl, has)

-- the walk along a text meets the rule at the end of the walk along its first bytes
pub met_after_walk : (nodes : List Node) (n : ℕ) (text after : List ℕ) (end rule : ℕ) → walk nodes n text ≡ Some end → Contains (rules_at nodes end) rule
    → Meets nodes n (text ++ after) rule
met_after_walk nodes n [] after end rule is there = inl (subst (λ k. Contains (rules_at nodes k) rule) (sym (same_Some n end is)) there)
met_after_walk nodes n (byte ∷ text) after end rule is there =
    let step = option_and_then_some (λ next. walk nodes next text) (next_of nodes n byte) end is in
    inr (some_and (λ next. Meets nodes next (text ++ after) rule) (next_of nodes n byte) step.0 step.1
    (met_after_walk nodes step.0 text after end rule step.2 there))

-- a rule that was added at the end of the walk along a text is met by each text that begins with that one
pub text_meets : (old new : List Node) (text : List ℕ) (k node rule : ℕ) → length (take (length text - 1) (drop 1 text)) ≤ k
    → walk old (get_or text 0 0) (take k (drop 1 text)) ≡ Some node → node < length old → IsRulePushed old node rule new
    → (byte : ℕ) (before after : List ℕ) → text ≡ byte ∷ before → Meets new byte (before ++ after) rule
text_meets old new text k node rule long walks within it byte before after is =
    let whole : take (length text - 1) (drop 1 text) ≡ drop 1 text = take_all (length text - 1) (drop 1 text) (omega (arith, length-drop 1 text)) in
    let all : take k (drop 1 text) ≡ drop 1 text = take_all k (drop 1 text) (subst (λ l. length l ≤ k) whole long) in
    let first : get_or text 0 0 ≡ byte = ap (λ l. get_or l 0 0) is in
    let rest : drop 1 text ≡ before = ap (drop 1) is in
    let led : walk old byte before ≡ Some node =
    subst (λ b. walk old b before ≡ Some node) first (subst (λ l. walk old (get_or text 0 0) l ≡ Some node) (all ∙ rest) walks) in
    met_after_walk new byte before after node rule (walk_grows old new (rule_grows old new node rule it) byte before node led)
    (rule_is_there old new node rule within it)

module _ (old new : List Node) (grows : Grows old new) where
  below_grows : (n : ℕ) (text : List ℕ) (rule : ℕ) → MeetsBelow old n text rule → MeetsBelow new n text rule
  below_grows n [] rule below = absurd below
  below_grows n (byte ∷ text) rule below =
      let step = the_some (λ next. Meets old next text rule) (next_of old n byte) below in
      some_and (λ next. Meets new next text rule) (next_of new n byte) step.0 (grows.branches n byte step.0 step.1)
      (⊎_elim (λ (here : Contains (rules_at old step.0) rule). inl (grows.rules step.0 rule here))
      (λ (further : MeetsBelow old step.0 text rule). inr (below_grows step.0 text rule further)) step.2)

  -- what is met is met in a tree that has grown
  pub meets_grows : (n : ℕ) (text : List ℕ) (rule : ℕ) → Meets old n text rule → Meets new n text rule
  meets_grows n text rule (inl here) = inl (grows.rules n rule here)
  meets_grows n text rule (inr below) = inr (below_grows n text rule below)

  pub is_met_grows : (program : Program) (rule : ℕ) → IsMet old program rule → IsMet new program rule
  is_met_grows program rule met byte text within not = met byte text within (λ meets. not (meets_grows byte text rule meets))

-- the program finds nothing at the start of a text that begins with a byte below a bound and doesn't meet the rule
abbrev pub AreStartsMet : List Node → Program → ℕ → ℕ → Type 0
AreStartsMet nodes program rule bound =
    (byte : ℕ) (text : List ℕ) → byte < bound → ¬ (Meets nodes byte text rule) → HasNothingAtStart (pattern_of program) (byte ∷ text)

-- and with one more byte
pub starts_more : (old new : List Node) (program : Program) (rule bound : ℕ) → Grows old new → AreStartsMet old program rule bound
    → ((text : List ℕ) → ¬ (Meets new bound text rule) → HasNothingAtStart (pattern_of program) (bound ∷ text))
    → AreStartsMet new program rule (bound + 1)
starts_more old new program rule bound grows before last byte text below not = ⊎_elim
    (λ (less : byte < bound). before byte text less (λ meets. not (meets_grows old new grows byte text rule meets)))
    (λ (more : bound ≤ byte).
    let same : bound ≡ byte = omega (arith, below, more) in
    subst (λ b. ¬ (Meets new b text rule) → HasNothingAtStart (pattern_of program) (b ∷ text)) same (last text) not)
    (cases_lt byte bound)

get_push_cases : (xs : List Program) (x : Program) (i : ℕ) (y : Program) → slice_get (xs ++ x ∷ []) i ≡ Some y
    → (slice_get xs i ≡ Some y) ⊎ ((length xs ≡ i) × (x ≡ y))
get_push_cases [] x zero y is = inr (refl, same_Some x y is)
get_push_cases [] x (suc i) y is = absurd (none-some y is)
get_push_cases (z ∷ xs) x zero y is = inl is
get_push_cases (z ∷ xs) x (suc i) y is = ⊎_elim
    (λ (before : slice_get xs i ≡ Some y). inl before)
    (λ (last : (length xs ≡ i) × (x ≡ y)). inr (ap suc last.0, last.1))
    (get_push_cases xs x i y is)

-- one more rule is met
pub are_met_more : {S : Type 0} (old new : List Node) (rules : List (LexRule S)) (i : ℕ) (d : LexRule S) → i < length rules → Grows old new
    → AreMet old (map anchored_of (take i rules)) → IsMet new (anchored_of (get_or rules i d)) i → AreMet new (map anchored_of (take (i + 1) rules))
are_met_more old new rules i d within grows before last r program is =
    let front = map anchored_of (take i rules) in
    let rule = get_or rules i d in
    let len : length front ≡ i = length-map (take i rules) anchored_of ∙ length-take-le i rules (omega arith) in
    let more : map anchored_of (take (i + 1) rules) ≡ front ++ anchored_of rule ∷ [] =
    ap (map anchored_of) (take_more rules i d within) ∙ map-append anchored_of (take i rules) (rule ∷ []) in
    ⊎_elim
    (λ (earlier : slice_get front r ≡ Some program). is_met_grows old new grows program r (before r program earlier))
    (λ (now : (length front ≡ r) × (anchored_of rule ≡ program)).
    subst (λ k. IsMet new program k) (sym len ∙ now.0) (subst (λ p. IsMet new p i) now.1 last))
    (get_push_cases front (anchored_of rule) r program (ap (λ ps. slice_get ps r) (sym more) ∙ is))
