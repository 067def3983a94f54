-- The rules that a list of cores brings by closure, added to sets one core after the other.
use Rattle.std.proofs.Common.{◌≡◌, ◌≢◌, ◌<◌, ◌+◌, ◌↔◌, ◌⊎◌, ◌∙◌, sym, ap, subst, inl, inr, arith, ℕ, Bool, List, [], ◌∷◌, ◌++◌, drop, get_or, length, map, set, IsTrue}
use Rattle.std.proofs.lemmas.Bool.{cases_eq, false≢true}
use Rattle.std.proofs.lemmas.List.{get_or-map, get_or-set_other, get_or-set_same, length-map}
use Rattle.std.proofs.lemmas.List.Elements.{Contains-append_left, Contains-push, Contains-push_cases}
use Rattle.lrpar_grammar.specs.Grammar.{Grammar, GrammarSymbol, Nonterminal, rules_len, symbols_of}
use Rattle.lrpar_table_first.specs.FirstRows.{HaveRoom, HoldNothing, IsFirstBefore, dummy_lookahead, row_at, rows_of}
use Rattle.lrpar_grammar.specs.Tokens.{has}
use Rattle.lrpar_table_items.specs.Brought.{HasIn, IsBrought, Given}
use Rattle.lrpar_table_items.specs.Cores.{AreBringing, Brings, CoreSet}
use Rattle.lrpar_grammar.specs.declared.token_set.TokenSet.{TokenSet}
use Rattle.lrpar_table_items.proofs.BroughtLemmas.{brought_twice}
use Rattle.lrpar_table_first.proofs.GrowthLemmas.{room_set, row_in, rows-set, sets_len}
use Rattle.lrpar_table_items.proofs.SpreadLemmas.{same_rest, same_rule}

-- emptied sets keep their room
pub cleared_room : (g : Grammar) (before after : List (List Bool)) → HaveRoom g before → map (λ row. length row) after ≡ map (λ row. length row) before
    → HaveRoom g after
cleared_room g before after room same =
    let lens = λ (rows : List (List Bool)). length-map rows (λ row. length row) in
    let count : length after ≡ length before = sym (lens after) ∙ ap length same ∙ lens before in
    record {
      rules = count ∙ room.rules;
      wide = λ k d within.
          let inside : k < length before = omega (arith, within, count) in
          sym (get_or-map (λ row. length row) after k d 0 within) ∙ ap (λ ls. get_or ls k 0) same ∙ get_or-map (λ row. length row) before k d 0 inside
          ∙ room.wide k d inside;
    }

-- empty sets have what an empty list of cores brings
pub none_brought : (g : Grammar) (rows : List (List Bool)) → HoldNothing rows → (r t : ℕ) → HasIn rows r t ↔ AreBringing g [] r t
none_brought g rows none r t = (
  λ h. absurd (false≢true (sym (none r t) ∙ h)),
  λ h. let low = h.1.1 in absurd (omega (arith, low)),
)

-- what a list with one more core brings
pub bringing_more : (g : Grammar) (cores : List CoreSet) (core : CoreSet) (r t : ℕ)
    → AreBringing g (cores ++ core ∷ []) r t ↔ (AreBringing g cores r t ⊎ Brings g core r t)
bringing_more g cores core r t = (
  λ h. elim (Contains-push_cases cores core h.0 h.1) [
    | inl before ↦ inl (h.0, before, h.2)
    | inr last ↦ inr (subst (λ c. Brings g c r t) (sym last) h.2)
  ],
  λ h. elim h [
    | inl before ↦ (before.0, Contains-append_left cores (core ∷ []) before.0 before.1, before.2)
    | inr last ↦ (core, Contains-push cores core, last)
  ],
)

pub brought_more : (g : Grammar) (cores more : List CoreSet) (core : CoreSet) (before after : List (List Bool)) → more ≡ cores ++ core ∷ []
    → ((r t : ℕ) → HasIn before r t ↔ AreBringing g cores r t) → ((r t : ℕ) → HasIn after r t ↔ (HasIn before r t ⊎ Brings g core r t))
    → (r t : ℕ) → HasIn after r t ↔ AreBringing g more r t
brought_more g cores more core before after is so_far one r t =
    let all = subst (λ cs. AreBringing g cs r t ↔ (AreBringing g cores r t ⊎ Brings g core r t)) (sym is) (bringing_more g cores core r t) in (
      λ h. elim ((one r t).0 h) [
        | inl old ↦ all.1 (inl ((so_far r t).0 old))
        | inr new ↦ all.1 (inr new)
      ],
      λ h. elim (all.0 h) [
        | inl old ↦ (one r t).1 (inl ((so_far r t).1 old))
        | inr new ↦ (one r t).1 (inr new)
      ],
    )

-- if the sets had what the cores bring, their closure is that of what the cores bring
pub brought_by_cores : (g : Grammar) (cores : List CoreSet) (before after : List (List Bool))
    → ((r t : ℕ) → HasIn before r t ↔ AreBringing g cores r t) → ((r t : ℕ) → HasIn after r t ↔ IsBrought g (HasIn before) r t)
    → (r t : ℕ) → HasIn after r t ↔ IsBrought g (AreBringing g cores) r t
brought_by_cores g cores before after own all r t = (
  λ h. brought_twice g (AreBringing g cores) (HasIn before) (λ q s has_q. Given q s ((own q s).0 has_q)) r t ((all r t).0 h),
  λ h. (all r t).1 (brought_twice g (HasIn before) (AreBringing g cores) (λ q s brings. Given q s ((own q s).1 brings)) r t h),
)

-- a core with no rule after its dot brings nothing
pub brings_nothing : (g : Grammar) (core : CoreSet) (rows : List (List Bool)) → ((r : ℕ) (w : List GrammarSymbol) → drop core.dot (symbols_of g core.prod) ≡ Nonterminal r ∷ w → ⊥)
    → (r t : ℕ) → HasIn rows r t ↔ (HasIn rows r t ⊎ Brings g core r t)
brings_nothing g core rows never r t = (
  λ h. inl h,
  λ h. elim h [
    | inl old ↦ old
    | inr brings ↦ absurd (never r brings.0 brings.1)
  ],
)

module _ (g : Grammar) (brought : List TokenSet) (target : ℕ) (low : target < rules_len g) (room : HaveRoom g (rows_of brought)) (d new : TokenSet)
    (at_d : d ≡ get_or brought target d) (core : CoreSet)
    (w : List GrammarSymbol) (begins : drop core.dot (symbols_of g core.prod) ≡ Nonterminal target ∷ w)
    (came : (t : ℕ) → IsTrue (has new t) ↔ (IsTrue (has d t) ⊎ IsFirstBefore g core.tokens w t)) where
  at_target : d ≡ row_at (rows_of brought) target
  at_target =
      let count = sets_len g brought room in
      at_d ∙ row_in brought target d (omega (arith, count, low))

  now_at : row_at (set (rows_of brought) target new) target ≡ new
  now_at = let count = room.rules in get_or-set_same (rows_of brought) target new [] (omega (arith, count, low))

  pub bring_room : length new ≡ dummy_lookahead g + 1 → HaveRoom g (rows_of (set brought target new))
  bring_room wide = subst (HaveRoom g) (sym (rows-set brought target new)) (room_set g (rows_of brought) target new room wide)

  pub bring_exact : (r t : ℕ) → HasIn (rows_of (set brought target new)) r t ↔ (HasIn (rows_of brought) r t ⊎ Brings g core r t)
  bring_exact r t =
      let after = set (rows_of brought) target new in
      subst (λ rows. HasIn rows r t ↔ (HasIn (rows_of brought) r t ⊎ Brings g core r t)) (sym (rows-set brought target new)) (
        λ h. elim (cases_eq r target) as (λ _. HasIn (rows_of brought) r t ⊎ Brings g core r t) [
          | inl same ↦
              let there = subst (λ n. HasIn after n t) same h in
              let now = subst (λ b. IsTrue (has b t)) now_at there in
              elim ((came t).0 now) [
                | inl old ↦ inl (subst (λ n. HasIn (rows_of brought) n t) (sym same) (subst (λ b. IsTrue (has b t)) at_target old))
                | inr first ↦ inr (w, begins ∙ ap (λ n. Nonterminal n ∷ w) (sym same), first)
              ]
          | inr other ↦ inl (subst (λ b. IsTrue (has b t)) (get_or-set_other (rows_of brought) target r new [] other) h)
        ],
        λ h. elim h [
          | inl old ↦
              elim (cases_eq r target) as (λ _. HasIn after r t) [
                | inl same ↦
                    let old' = subst (λ b. IsTrue (has b t)) (sym at_target) (subst (λ n. HasIn (rows_of brought) n t) same old) in
                    subst (λ n. HasIn after n t) (sym same) (subst (λ b. IsTrue (has b t)) (sym now_at) ((came t).1 (inl old')))
                | inr other ↦ subst (λ b. IsTrue (has b t)) (sym (get_or-set_other (rows_of brought) target r new [] other)) old
              ]
          | inr brings ↦
              let alike = sym begins ∙ brings.1 in
              let first = subst (λ v. IsFirstBefore g core.tokens v t) (sym (same_rest target r w brings.0 alike)) brings.2 in
              subst (λ n. HasIn after n t) (same_rule target r w brings.0 alike) (subst (λ b. IsTrue (has b t)) (sym now_at) ((came t).1 (inr first)))
        ],
      )

  -- the sets of other rules are as before
  pub bring_other : (n : ℕ) → n ≢ target → row_at (rows_of (set brought target new)) n ≡ row_at (rows_of brought) n
  bring_other n other = ap (λ rows. row_at rows n) (rows-set brought target new) ∙ get_or-set_other (rows_of brought) target n new [] other
