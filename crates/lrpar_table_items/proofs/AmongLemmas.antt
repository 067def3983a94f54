-- Items among the cores of a list, one core after the other.
use Rattle.std.proofs.Common.{◌≡◌, ◌<◌, ◌+◌, ◌↔◌, ◌⊎◌, ◌∙◌, sym, ap, subst, inl, inr, arith, ℕ, Bool, List, [], ◌∷◌, ◌++◌, IsTrue}
use Rattle.std.proofs.lemmas.Bool.{cases_lt}
use Rattle.std.proofs.lemmas.List.Elements.{Contains-append_cases, Contains-append_left, Contains-append_right, Contains-push, Contains-push_cases}
use Rattle.lrpar_grammar.specs.Grammar.{Grammar, rule_of}
use Rattle.lrpar_table_rows.specs.Graph.{ItemOf}
use Rattle.lrpar_table_first.specs.FirstRows.{row_at}
use Rattle.lrpar_grammar.specs.Tokens.{has}
use Rattle.lrpar_table_items.specs.Brought.{HasIn, IsBrought}
use Rattle.lrpar_table_items.specs.Cores.{AreBringing, CoreSet, IsAmong, IsOfCore, IsOfRows, IsOfRule}
use Rattle.lrpar_table_items.specs.ItemSets.{IsInClosure}
use Rattle.lrpar_table_items.proofs.ClosureLemmas.{IsOfBrought, closure_is}

-- one more core adds its items
pub among_more : (cores more : List CoreSet) (core : CoreSet) (x : ItemOf) → more ≡ cores ++ core ∷ [] → IsAmong more x ↔ (IsAmong cores x ⊎ IsOfCore core x)
among_more cores more core x is =
    subst (λ cs. IsAmong cs x ↔ (IsAmong cores x ⊎ IsOfCore core x)) (sym is) (
      λ h. elim (Contains-push_cases cores core h.0 h.1) [
        | inl before ↦ inl (h.0, before, h.2)
        | inr last ↦ inr (subst (λ c. IsOfCore c x) (sym last) h.2)
      ],
      λ h. elim h [
        | inl before ↦ (before.0, Contains-append_left cores (core ∷ []) before.0 before.1, before.2)
        | inr last ↦ (core, Contains-push cores core, last)
      ],
    )

-- what is among two lists is among one or the other
pub among_append : (cores more : List CoreSet) (x : ItemOf) → IsAmong (cores ++ more) x ↔ (IsAmong cores x ⊎ IsAmong more x)
among_append cores more x = (
  λ h. elim (Contains-append_cases cores more h.0 h.1) [
    | inl before ↦ inl (h.0, before, h.2)
    | inr further ↦ inr (h.0, further, h.2)
  ],
  λ h. elim h [
    | inl before ↦ (before.0, Contains-append_left cores more before.0 before.1, before.2)
    | inr further ↦ (further.0, Contains-append_right cores more further.0 further.1, further.2)
  ],
)

-- the items of one more rule
pub rows_more : (g : Grammar) (rows : List (List Bool)) (first before after : ItemOf → Type 0) (n : ℕ) (tokens : List Bool) (x : ItemOf)
    → tokens ≡ row_at rows n → (before x ↔ (first x ⊎ (IsOfRows g rows x × (rule_of g x.prod < n)))) → (after x ↔ (before x ⊎ IsOfRule g n tokens x))
    → after x ↔ (first x ⊎ (IsOfRows g rows x × (rule_of g x.prod < n + 1)))
rows_more g rows first before after n tokens x row so_far one = (
  λ h. elim (one.0 h) [
    | inl old ↦
        elim (so_far.0 old) [
          | inl own ↦ inl own
          | inr of ↦ let low = of.1 in inr (of.0, omega (arith, low))
        ]
    | inr of ↦
        let rule = of.2 in
        let in_row = subst (λ b. IsTrue (has b x.token)) (row ∙ ap (row_at rows) (sym rule)) of.3 in
        inr ((of.0, of.1, in_row), omega (arith, rule))
  ],
  λ h. elim h [
    | inl own ↦ one.1 (inl (so_far.1 (inl own)))
    | inr of ↦
        let low = of.1 in
        elim (cases_lt (rule_of g x.prod) n) [
          | inl early ↦ one.1 (inl (so_far.1 (inr (of.0, early))))
          | inr late ↦
              let rule : rule_of g x.prod ≡ n = omega (arith, late, low) in
              one.1 (inr (of.0.0, of.0.1, rule, subst (λ b. IsTrue (has b x.token)) (ap (row_at rows) rule ∙ sym row) of.0.2))
        ]
  ],
)

-- a list with the items of the cores, and of all rules that the closure adds, has the closure
pub closure_among : (g : Grammar) (cores after : List CoreSet) (rows : List (List Bool))
    → ((r t : ℕ) → HasIn rows r t ↔ IsBrought g (AreBringing g cores) r t)
    → ((x : ItemOf) → IsAmong after x ↔ (IsAmong cores x ⊎ IsOfRows g rows x))
    → (x : ItemOf) → IsAmong after x ↔ IsInClosure g (IsAmong cores) x
closure_among g cores after rows exact all x = (
  λ h. (closure_is g cores x).1 (elim ((all x).0 h) as (λ _. IsAmong cores x ⊎ IsOfBrought g cores x) [
    | inl own ↦ inl own
    | inr of ↦ inr (record { fresh = of.0; known = of.1; comes = (exact (rule_of g x.prod) x.token).0 of.2 })
  ]),
  λ h. (all x).1 (elim ((closure_is g cores x).0 h) as (λ _. IsAmong cores x ⊎ IsOfRows g rows x) [
    | inl own ↦ inl own
    | inr of ↦ inr (of.fresh, of.known, (exact (rule_of g x.prod) x.token).1 of.comes)
  ]),
)
