-- The closure of a list of cores: the items of the cores; and each production of each rule that the closure adds, with the rule's
-- lookaheads.
use Rattle.std.proofs.Common.{◌≡◌, ◌<◌, ◌↔◌, ◌⊎◌, ◌∙◌, refl, sym, ap, subst, inl, inr, ℕ, List, ◌∷◌, drop}
use Rattle.lrpar_grammar.specs.Grammar.{Grammar, Nonterminal, prods_len, rule_of, symbols_of}
use Rattle.lrpar_table_rows.specs.Graph.{ItemOf}
use Rattle.lrpar_table_items.specs.ItemSets.{Adds, IsInClosure, Own, Added}
use Rattle.lrpar_table_items.specs.Brought.{IsBrought, Given, Brought}
use Rattle.lrpar_table_items.specs.Cores.{AreBringing, Brings, CoreSet, IsAmong}

-- an item that the closure adds: its dot is at the start, and its lookahead is one that the closure adds for its rule
pub record IsOfBrought (g : Grammar) (cores : List CoreSet) (x : ItemOf) : Type 0 where
  pub fresh : x.dot ≡ 0
  pub known : x.prod < prods_len g
  pub comes : IsBrought g (AreBringing g cores) (rule_of g x.prod) x.token

module _ (g : Grammar) (cores : List CoreSet) where
  -- what an item of a core adds is of a rule that the core brings
  added_by_core : (x y : ItemOf) → IsAmong cores x → Adds g x y → IsOfBrought g cores y
  added_by_core x y among adds =
      let core = among.0 in
      let at : drop core.dot (symbols_of g core.prod) ≡ Nonterminal adds.rule ∷ adds.rest =
      ap (λ n. drop n (symbols_of g core.prod)) among.2.1 ∙ ap (λ p. drop x.dot (symbols_of g p)) among.2.0 ∙ adds.before in
      let brings : Brings g core adds.rule y.token = (adds.rest, at, (x.token, among.2.2, adds.first)) in
      record {
        fresh = adds.fresh;
        known = adds.known;
        comes = subst (λ r. IsBrought g (AreBringing g cores) r y.token) (sym adds.of_rule) (Given adds.rule y.token (core, among.1, brings));
      }

  -- what an added item adds is of a rule that the closure adds
  added_by_rule : (x y : ItemOf) → IsOfBrought g cores x → Adds g x y → IsOfBrought g cores y
  added_by_rule x y of adds =
      let at : symbols_of g x.prod ≡ Nonterminal adds.rule ∷ adds.rest = ap (λ n. drop n (symbols_of g x.prod)) (sym of.fresh) ∙ adds.before in
      record {
        fresh = adds.fresh;
        known = adds.known;
        comes = subst (λ r. IsBrought g (AreBringing g cores) r y.token) (sym adds.of_rule) (Brought x.prod adds.rule x.token y.token adds.rest of.known at of.comes adds.first);
      }

  -- so the closure has no other items
  pub closure_parts : (x : ItemOf) → IsInClosure g (IsAmong cores) x → IsAmong cores x ⊎ IsOfBrought g cores x
  closure_parts x (Own y h) = inl h
  closure_parts x (Added y z h adds) =
      elim (closure_parts y h) [
        | inl own ↦ inr (added_by_core y z own adds)
        | inr of ↦ inr (added_by_rule y z of adds)
      ]

  -- and it has all of these
  pub brought_in_closure : (r t : ℕ) → IsBrought g (AreBringing g cores) r t
      → (q : ℕ) → q < prods_len g → rule_of g q ≡ r → IsInClosure g (IsAmong cores) (record { prod = q; dot = 0; token = t })
  brought_in_closure r t (Given r' t' bringing) q known of =
      let core = bringing.0 in
      let brings = bringing.2 in
      let first = brings.2 in
      let x : ItemOf = record { prod = core.prod; dot = core.dot; token = first.0 } in
      let y : ItemOf = record { prod = q; dot = 0; token = t' } in
      Added x y (Own x (core, bringing.1, (refl, refl, first.1)))
      (record { rule = r'; rest = brings.0; before = brings.1; known = known; of_rule = of; fresh = refl; first = first.2 })
  brought_in_closure r t (Brought p r' s t' w before begins h first) q known of =
      let x : ItemOf = record { prod = p; dot = 0; token = s } in
      let y : ItemOf = record { prod = q; dot = 0; token = t' } in
      Added x y (brought_in_closure (rule_of g p) s h p before refl)
      (record { rule = r'; rest = w; before = begins; known = known; of_rule = of; fresh = refl; first = first })

  pub closure_is : (x : ItemOf) → IsInClosure g (IsAmong cores) x ↔ (IsAmong cores x ⊎ IsOfBrought g cores x)
  closure_is x = (
    λ h. closure_parts x h,
    λ h. elim h [
      | inl own ↦ Own x own
      | inr of ↦
          let here = brought_in_closure (rule_of g x.prod) x.token of.comes x.prod of.known refl in
          subst (λ n. IsInClosure g (IsAmong cores) (record { prod = x.prod; dot = n; token = x.token })) (sym of.fresh) here
    ],
  )
