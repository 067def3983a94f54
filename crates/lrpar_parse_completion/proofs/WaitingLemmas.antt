-- The rules that items of a state wait for. Each is reachable, so the symbols after it have minimal sentences. In a viable table, each
-- core of a state comes by closure from its kernel cores, or from that of the start item; so the rule of each core with its dot at the
-- start is one for which an item of the state waits, but for the start item. And the rules of the cores are reachable, if the table goes
-- from its start to the state: a kernel core comes from one of the state before (S4), of which the start state has none (S2).
use Rattle.std.proofs.Common.{◌≡◌, ◌≢◌, ◌<◌, ◌+◌, ◌⊎◌, inl, inr, refl, sym, ap, subst, arith, add-one, ℕ, zero, suc, List, [], ◌∷◌, length, drop, take, get_or, slice_get, Some}
use Rattle.std.specs.List.{Contains}
use Rattle.lrpar_grammar.specs.Grammar.{Grammar, GrammarSymbol, IsWellFormed, Nonterminal, rule_of, start_prod, symbols_of}
use Rattle.lrpar_table_rows.specs.Graph.{Graph, HasCore}
use Rattle.lrpar_table_rows.specs.Safe.{IsSafe}
use Rattle.lrpar_table_rows.specs.Table.{Table, states_len}
use Rattle.lrpar_table_rows.specs.declared.condition.SafetyCondition.TheVariants.{S2, S4}
use Rattle.lrpar_table_rows.proofs.ItemLemmas.{Contains-preimage}
use Rattle.lrpar_table_conditions.proofs.FirstTokenLemmas.{at_drop}
use Rattle.lrpar_table_sentences.specs.AccessLens.{Goes, IsWalk, Starts}
use Rattle.lrpar_table_sentences.specs.Reachable.{Added, EachReachableHasTree, IsReachableRule}
use Rattle.lrpar_table_sentences.specs.Texts.{HaveTrees}
use Rattle.lrpar_table_sentences.proofs.AfterLemmas.{after_reached, have_trees, rest_reached}
use Rattle.lrpar_table_viable.specs.Viable.{Begins, Closes, IsJustified, IsViable, Kernel}
use Rattle.lrpar_parse_completion.specs.Opening.{IsWalkedTo}
use Rattle.lrpar_parse_completion.specs.Waiting.{AreLinks, AreWaiting, HasRuleAfter, LinkOf, rules_in}

-- an element of the first ones is in its place in the list
pub take_get : {A : Type 0} (xs : List A) (n i : ℕ) (x : A) → i < length (take n xs) → get_or (take n xs) i x ≡ x → (i < n) × (slice_get xs i ≡ Some x)
take_get [] zero i x low is = absurd (omega (arith, low))
take_get [] (suc n) i x low is = absurd (omega (arith, low))
take_get (y ∷ ys) zero i x low is = absurd (omega (arith, low))
take_get (y ∷ ys) (suc n) zero x low is = (omega arith, ap (λ z. Some z) is)
take_get (y ∷ ys) (suc n) (suc i) x low is = let more = take_get ys n i x (omega (arith, low)) is in (omega (arith, more.0), more.1)

module _ (g : Grammar) (well : IsWellFormed g) (own : ℕ → ℕ → Type 0) (own_reached : (p k : ℕ) → own p k → IsReachableRule g (rule_of g p))
    (links : List LinkOf) (are : AreLinks g own links) where
  -- the productions of the items are reachable
  link_reached : (n i : ℕ) (x : LinkOf) → i < n → slice_get links i ≡ Some x → IsReachableRule g (rule_of g x.prod)
  link_reached zero i x low at = absurd (omega (arith, low))
  link_reached (suc n) i x low at =
      let link = are i x at in
      elim link.from as (λ _. IsReachableRule g (rule_of g x.prod)) [
        | inl mine ↦ own_reached x.prod x.dot mine
        | inr later ↦
            let found = Contains-preimage (λ (y : LinkOf). y.rule) (take i links) (rule_of g x.prod) later.1 in
            let before = take_get links i found.1.0 found.0 found.1.1 found.1.2 in
            let other = are found.1.0 found.0 before.1 in
            let reached = link_reached n found.1.0 found.0 (omega (arith, low, before.0)) before.1 in
            subst (IsReachableRule g) found.2 (after_reached g well found.0.prod found.0.dot found.0.rule other.rest other.waits reached)
      ]

  -- so the symbols after the rule have minimal sentences
  pub links_have_trees : EachReachableHasTree g → (i : ℕ) (x : LinkOf) → slice_get links i ≡ Some x → HaveTrees g (drop (x.dot + 1) (symbols_of g x.prod))
  links_have_trees each i x at =
      let link = are i x at in
      let reached = link_reached (i + 1) i x (omega arith) at in
      let rest : drop (x.dot + 1) (symbols_of g x.prod) ≡ link.rest = rw add-one (at_drop (symbols_of g x.prod) x.dot (Nonterminal x.rule) link.rest link.waits).1 in
      subst (HaveTrees g) (sym rest)
      (have_trees g each link.rest (rest_reached g well x.prod x.dot (Nonterminal x.rule) link.rest link.waits reached))

-- a state has a kernel item, or the start item, if one of its cores is justified
begun_by : (g : Grammar) (graph : Graph) (table : Table) (s p k : ℕ) → IsJustified g graph table s p k
    → ((q j : ℕ) × HasCore graph s q j × (0 < j)) ⊎ ((s ≡ table.start) × HasCore graph s (start_prod g) 0)
begun_by g graph table s _ _ (Kernel p k has) = inl (p, k + 1, has, omega arith)
begun_by g graph table s _ _ (Begins is has) = inr (is, has)
begun_by g graph table s _ _ (Closes p k q from adds has) = begun_by g graph table s p k from

module _ (g : Grammar) (well : IsWellFormed g) (graph : Graph) (table : Table) where
  -- rules of justified cores are reachable, if those of the kernel cores are
  justified_reached : (s : ℕ) → ((p k : ℕ) → HasCore graph s p (k + 1) → IsReachableRule g (rule_of g p)) → (p k : ℕ)
      → IsJustified g graph table s p k → IsReachableRule g (rule_of g p)
  justified_reached s moved _ _ (Kernel p k has) = moved p k has
  justified_reached s moved _ _ (Begins is has) = subst (IsReachableRule g) (sym well.last_rule) Added
  justified_reached s moved _ _ (Closes p k q from adds has) =
      subst (IsReachableRule g) (sym adds.of_rule) (after_reached g well p k adds.rule adds.rest adds.before (justified_reached s moved p k from))

  module _ (viable : IsViable g graph table) where
    -- so they are in each state to which the table goes from its start
    walk_reached : IsSafe g graph table → (s : ℕ) (path : List GrammarSymbol) → IsWalk table s path → s < states_len table → (p k : ℕ)
        → HasCore graph s p k → IsReachableRule g (rule_of g p)
    walk_reached safe _ _ Starts low p k core =
        justified_reached table.start
        (λ q j has. let fresh : j + 1 ≡ 0 = safe.each S2 table.start low refl q (j + 1) has in absurd (omega (arith, fresh)))
        p k ((viable.each table.start low).justified p k core)
    walk_reached safe _ _ (Goes from s x path walk before goes) low p k core =
        justified_reached s
        (λ q j has. walk_reached safe from path walk before q j (safe.each S4 from before x s goes q j has).1)
        p k ((viable.each s low).justified p k core)

    pub core_reached : IsSafe g graph table → (s : ℕ) → IsWalkedTo table s → s < states_len table → (p k : ℕ) → HasCore graph s p k
        → IsReachableRule g (rule_of g p)
    core_reached safe s walked = walk_reached safe s walked.0 walked.1

    module _ (s : ℕ) (low : s < states_len table) where
      -- a state has a kernel item, or the start item
      pub kernel_or_start : ((p k : ℕ) × HasCore graph s p k × (0 < k)) ⊎ ((s ≡ table.start) × HasCore graph s (start_prod g) 0)
      kernel_or_start =
          let at = viable.each s low in let some = at.some in
          begun_by g graph table s some.0 some.1 (at.justified some.0 some.1 some.2)

      module _ (links : List LinkOf) (waiting : AreWaiting g graph table s links) where
        -- the rule after a core's dot is in the list; and so is the core's own rule, if its dot is at the start
        abbrev IsListed : ℕ → ℕ → Type 0
        IsListed p k = HasRuleAfter g links p k × (p ≢ start_prod g → k ≡ 0 → Contains (rules_in links) (rule_of g p))

        justified_listed : (p k : ℕ) → IsJustified g graph table s p k → IsListed p k
        justified_listed _ _ (Kernel p k has) =
            (waiting.own p (k + 1) (inl (has, omega arith)), λ apart fresh. absurd (omega (arith, fresh)))
        justified_listed _ _ (Begins is has) = (waiting.own (start_prod g) 0 (inr (is, refl, refl)), λ apart fresh. absurd (apart refl))
        justified_listed _ _ (Closes p k q from adds has) =
            let has_rule = (justified_listed p k from).0 adds.rule adds.rest adds.before in (
              waiting.closed adds.rule has_rule q adds.known adds.of_rule,
              λ apart fresh. subst (Contains (rules_in links)) (sym adds.of_rule) has_rule,
            )

        -- so each core with its dot at the start is waited for, other than that of the start item
        pub waited_for : (q : ℕ) → HasCore graph s q 0 → q ≢ start_prod g → Contains (rules_in links) (rule_of g q)
        waited_for q core other = (justified_listed q 0 ((viable.each s low).justified q 0 core)).1 other refl
