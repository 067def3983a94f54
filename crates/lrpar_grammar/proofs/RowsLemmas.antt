-- The rows of productions by rule, as the productions grow by one at a time.
use Rattle.std.proofs.Common.{◌≡◌, ◌<◌, ◌+◌, ℕ, suc, true, false, cond, eqb, List, [], ◌∷◌, ◌++◌, length, map, set, get_or, refl, subst, sym, ap, ◌∙◌, arith, rules, Vec, inl, inr, zero-add}
use Rattle.std.specs.declared.alloc.Global.{Global}
use Rattle.std.proofs.lemmas.List.{length-set, length-append, get_or_at, get_or_append_left, get_or-set_same, get_or-set_other, map-append, append-nil}
use Rattle.std.proofs.lemmas.Bool.{cases_eq, cases_lt, eq-eqb, ne_eqb}
use Rattle.lrpar_grammar_places.specs.declared.span.PIdx.{PIdx}
use Rattle.lrpar_grammar_reader.specs.Grammar.{Production, prods_from}
use Rattle.lrpar_grammar.specs.Kept.{AreRowsOf}

-- a production at the end is the last of its rule, and changes no other rule's
pub prods_from-push : (r p : ℕ) (xs : List Production) (y : Production) → prods_from r p (xs ++ y ∷ []) ≡ prods_from r p xs ++ cond (eqb y.rule r) ((p + length xs) ∷ []) []
prods_from-push r p [] y = grind arith
prods_from-push r p (x ∷ xs) y =
    let ih = prods_from-push r (p + 1) xs y in
    let same : (p + 1) + length xs ≡ p + suc (length xs) = omega arith in
    elim (eqb x.rule r) as (λ b. cond b (p ∷ prods_from r (p + 1) (xs ++ y ∷ [])) (prods_from r (p + 1) (xs ++ y ∷ []))
    ≡ cond b (p ∷ prods_from r (p + 1) xs) (prods_from r (p + 1) xs) ++ cond (eqb y.rule r) ((p + suc (length xs)) ∷ []) []) [
      | true ↦ ap (λ s. p ∷ s) (ih ∙ ap (λ n. prods_from r (p + 1) xs ++ cond (eqb y.rule r) (n ∷ []) []) same)
      | false ↦ ih ∙ ap (λ n. prods_from r (p + 1) xs ++ cond (eqb y.rule r) (n ∷ []) []) same
    ]

-- the rows stay right if one more production is put into its rule's row
pub AreRowsOf-push : {S : Type 0} (index : S → ℕ) (rules : ℕ) (prods : List Production) (rows : List (Vec (PIdx S) Global)) (y : Production) (row row' : Vec (PIdx S) Global) (p : PIdx S)
    → AreRowsOf index rules prods rows → y.rule < rules → row ≡ get_or rows y.rule row → row'.items ≡ row.items ++ p ∷ [] → index p.0 ≡ length prods
    → AreRowsOf index rules (prods ++ y ∷ []) (set rows y.rule row')
AreRowsOf-push index rules prods rows y row row' p before within read pushed number = record {
  len = length-set rows y.rule row' ∙ before.len;
  each = λ r d r_within.
      let inside : y.rule < length rows = omega (arith, before.len) in
      let was : map (λ q. index q.0) row.items ≡ prods_from y.rule 0 prods = subst (λ w. map (λ q. index q.0) w.items ≡ prods_from y.rule 0 prods) (sym read) (before.each y.rule row within) in
      let now : map (λ q. index q.0) row'.items ≡ prods_from y.rule 0 prods ++ length prods ∷ [] =
      ap (map (λ q. index q.0)) pushed ∙ map-append (λ q. index q.0) row.items (p ∷ []) ∙ ap (λ w. w ++ index p.0 ∷ []) was ∙ ap (λ n. prods_from y.rule 0 prods ++ n ∷ []) number in
      elim (cases_eq y.rule r) [
        | inl same ↦
            let here : map (λ q. index q.0) (get_or (set rows y.rule row') y.rule d).items ≡ prods_from y.rule 0 (prods ++ y ∷ []) =
            ap (λ w. map (λ q. index q.0) w.items) (get_or-set_same rows y.rule row' d inside) ∙ now
            ∙ sym (prods_from-push y.rule 0 prods y ∙ ap (λ b. prods_from y.rule 0 prods ++ cond b ((0 + length prods) ∷ []) []) (eq-eqb y.rule y.rule refl) ∙ ap (λ n. prods_from y.rule 0 prods ++ n ∷ []) (zero-add (length prods))) in
            subst (λ r. map (λ q. index q.0) (get_or (set rows y.rule row') r d).items ≡ prods_from r 0 (prods ++ y ∷ [])) same here
        | inr other ↦
            ap (λ w. map (λ q. index q.0) w.items) (get_or-set_other rows y.rule r row' d (λ e. other (sym e))) ∙ before.each r d r_within
            ∙ sym (prods_from-push r 0 prods y ∙ ap (λ b. prods_from r 0 prods ++ cond b ((0 + length prods) ∷ []) []) (ne_eqb y.rule r other) ∙ append-nil (prods_from r 0 prods))
      ];
}

-- with one more empty row, all rows are empty
pub AreRowsOf-more : {S : Type 0} (index : S → ℕ) (n : ℕ) (rows : List (Vec (PIdx S) Global)) (row : Vec (PIdx S) Global)
    → AreRowsOf index n [] rows → row.items ≡ [] → AreRowsOf index (n + 1) [] (rows ++ row ∷ [])
AreRowsOf-more index n rows row before empty = record {
  len = length-append rows (row ∷ []) ∙ ap (λ k. k + 1) before.len;
  each = λ r d within.
      elim (cases_lt r n) [
        | inl below ↦ ap (λ w. map (λ q. index q.0) w.items) (get_or_append_left rows (row ∷ []) d r (omega (arith, before.len))) ∙ before.each r d below
        | inr last ↦ ap (λ w. map (λ q. index q.0) w.items) (get_or_at rows row [] d r (let len = before.len in omega arith)) ∙ ap (map (λ q. index q.0)) empty
      ];
}
