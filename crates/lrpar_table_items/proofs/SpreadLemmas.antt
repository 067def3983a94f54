-- One production brings the rule that it begins with: the lookaheads are added to the set of that rule.
use Rattle.std.proofs.Common.{◌≡◌, ◌≢◌, ◌<◌, ◌+◌, ◌||◌, ◌&&◌, ◌↔◌, ◌⊎◌, ◌∙◌, sym, ap, subst, inl, inr, arith, ℕ, Bool, false, List, [], ◌∷◌, All, length, set, get_or, drop, nat_lt, IsTrue}
use Rattle.std.proofs.lemmas.Bool.{cases_eq, false≢true}
use Rattle.std.proofs.lemmas.List.{get_or-set_other, get_or-set_same, set-get_or}
use Rattle.std.proofs.lemmas.List.Elements.{All-contains, All-get_or}
use Rattle.lrpar_grammar.specs.Grammar.{Grammar, GrammarSymbol, Nonterminal, Terminal, prods_len, prods_of, rule_of, rules_len, symbols_of}
use Rattle.lrpar_table_first.specs.First.{IsFirst}
use Rattle.lrpar_table_first.specs.FirstRows.{HaveRoom, IsFirstBefore, dummy_lookahead, row_at, rows_of, total_missing}
use Rattle.lrpar_grammar.specs.Tokens.{has, missing}
use Rattle.lrpar_table_items.specs.Brought.{IsBrought, Given, Brought, AreBroughtFrom, HasIn, IsSpreadAt, IsSpreadOf, Keeps}
use Rattle.lrpar_grammar.specs.declared.token_set.TokenSet.{TokenSet}
use Rattle.lrpar_table_first.proofs.BeforeLemmas.{united}
use Rattle.lrpar_table_items.proofs.ProdLemmas.{in_prods}
use Rattle.lrpar_table_items.proofs.BroughtLemmas.{brought_twice, closed_brought}
use Rattle.lrpar_table_first.proofs.GrowthLemmas.{has_room, missing_set, room_set, row_in, rows-set, sets_len}

-- what was given is in the closure
pub brought_itself : (g : Grammar) (rows : List (List Bool)) → AreBroughtFrom g rows rows
brought_itself g rows r t h = Given r t h

first_rule : List GrammarSymbol → ℕ
first_rule [] = 0
first_rule (Terminal t ∷ w) = 0
first_rule (Nonterminal r ∷ w) = r

-- if two lists that begin with rules are the same, so are the rules and the rests
pub same_rule : (r s : ℕ) (v w : List GrammarSymbol) → Nonterminal r ∷ v ≡ Nonterminal s ∷ w → r ≡ s
unfolding first_rule
same_rule r s v w e = ap first_rule e

pub same_rest : (r s : ℕ) (v w : List GrammarSymbol) → Nonterminal r ∷ v ≡ Nonterminal s ∷ w → v ≡ w
same_rest r s v w e = ap (drop 1) e

-- what holds after the lookaheads that a production brings were added to the set of the rule that it begins with
pub record IsSpreadTo (g : Grammar) (sets : List TokenSet) (p target : ℕ) (old new : TokenSet) : Type 0 where
  pub room : HaveRoom g (rows_of (set sets target new))
  pub kept : Keeps (rows_of sets) (rows_of (set sets target new))
  pub sound : AreBroughtFrom g (rows_of sets) (rows_of (set sets target new))
  pub grown : missing new < missing old → total_missing (rows_of (set sets target new)) < total_missing (rows_of sets)
  pub same : new ≡ old → rows_of (set sets target new) ≡ rows_of sets
  pub closed : row_at (rows_of (set sets target new)) (rule_of g p) ≡ row_at (rows_of sets) (rule_of g p) → IsSpreadAt g (rows_of (set sets target new)) p
  pub other : (n : ℕ) → n ≢ target → row_at (rows_of (set sets target new)) n ≡ row_at (rows_of sets) n

module _ (g : Grammar) (sets : List TokenSet) (p rule target dummy : ℕ) (w : List GrammarSymbol) (known : p < prods_len g) (is : rule ≡ rule_of g p)
    (rule_low : rule_of g p < rules_len g) (begins : symbols_of g p ≡ Nonterminal target ∷ w) (low : target < rules_len g) (marked : dummy ≡ dummy_lookahead g)
    (room : HaveRoom g (rows_of sets)) (d d' new : TokenSet) (at_rule : d ≡ get_or sets rule d)
    (at_target : d' ≡ get_or sets target d') (fresh cleared : List Bool) (none : (t : ℕ) → has cleared t ≡ false)
    (came : (t : ℕ) → IsTrue (has fresh t) ↔ (IsTrue (has cleared t) ⊎ IsFirstBefore g d w t))
    (long : length fresh ≡ dummy_lookahead g + 1) (wide : length new ≡ length d')
    (put : (t : ℕ) → has new t ≡ (has d' t || (nat_lt t (dummy + 1) && has fresh t))) where
  inside : target < length (rows_of sets)
  inside = let count = room.rules in omega (arith, count, low)

  old_row : d' ≡ row_at (rows_of sets) target
  old_row =
      let count = sets_len g sets room in
      at_target ∙ row_in sets target d' (omega (arith, count, low))

  from_row : d ≡ row_at (rows_of sets) (rule_of g p)
  from_row =
      let count = sets_len g sets room in
      at_rule ∙ row_in sets rule d (omega (arith, count, is, rule_low)) ∙ ap (row_at (rows_of sets)) is

  new_rows : rows_of (set sets target new) ≡ set (rows_of sets) target new
  new_rows = rows-set sets target new

  new_row : row_at (set (rows_of sets) target new) target ≡ new
  new_row = get_or-set_same (rows_of sets) target new [] inside

  new_has : (t : ℕ) → IsTrue (has new t) ↔ (HasIn (rows_of sets) target t ⊎ ((t < dummy + 1) × IsTrue (has fresh t)))
  new_has t = united (row_at (rows_of sets) target) fresh new (dummy + 1) t
      (put t ∙ ap (λ b. has b t || (nat_lt t (dummy + 1) && has fresh t)) old_row)

  fresh_is : (t : ℕ) → IsTrue (has fresh t) ↔ IsFirstBefore g (row_at (rows_of sets) (rule_of g p)) w t
  fresh_is t = (
    λ h. elim ((came t).0 h) [
      | inl before ↦ absurd (false≢true (sym (none t) ∙ before))
      | inr first ↦ subst (λ b. IsFirstBefore g b w t) from_row first
    ],
    λ first. (came t).1 (inr (subst (λ b. IsFirstBefore g b w t) (sym from_row) first)),
  )

  spread_room : HaveRoom g (rows_of (set sets target new))
  spread_room =
      let old_wide = All-get_or (λ row. length row ≡ dummy_lookahead g + 1) (rows_of sets) target [] inside room.wide in
      subst (HaveRoom g) (sym new_rows) (room_set g (rows_of sets) target new room (wide ∙ ap length old_row ∙ old_wide))

  spread_keeps : Keeps (rows_of sets) (rows_of (set sets target new))
  spread_keeps r t h =
      subst (λ rows. HasIn rows r t) (sym new_rows)
      (elim (cases_eq r target) as (λ _. HasIn (set (rows_of sets) target new) r t) [
        | inl same ↦
            let now = (new_has t).1 (inl (subst (λ n. HasIn (rows_of sets) n t) same h)) in
            subst (λ n. HasIn (set (rows_of sets) target new) n t) (sym same) (subst (λ b. IsTrue (has b t)) (sym new_row) now)
        | inr other ↦ subst (λ b. IsTrue (has b t)) (sym (get_or-set_other (rows_of sets) target r new [] other)) h
      ])

  spread_sound : AreBroughtFrom g (rows_of sets) (rows_of (set sets target new))
  spread_sound r t h =
      let h' = subst (λ rows. HasIn rows r t) new_rows h in
      elim (cases_eq r target) as (λ _. IsBrought g (HasIn (rows_of sets)) r t) [
        | inl same ↦
            let there = subst (λ n. HasIn (set (rows_of sets) target new) n t) same h' in
            let now = subst (λ b. IsTrue (has b t)) new_row there in
            subst (λ n. IsBrought g (HasIn (rows_of sets)) n t) (sym same)
            (elim ((new_has t).0 now) as (λ _. IsBrought g (HasIn (rows_of sets)) target t) [
              | inl before ↦ Given target t before
              | inr came ↦ let first = (fresh_is t).0 came.1 in Brought p target first.0 t w known begins (Given (rule_of g p) first.0 first.1) first.2
            ])
        | inr other ↦ Given r t (subst (λ b. IsTrue (has b t)) (get_or-set_other (rows_of sets) target r new [] other) h')
      ]

  spread_less : missing new < missing d' → total_missing (rows_of (set sets target new)) < total_missing (rows_of sets)
  spread_less less =
      let less' = subst (λ b. missing new < missing b) old_row less in
      subst (λ rows. total_missing rows < total_missing (rows_of sets)) (sym new_rows) (missing_set (rows_of sets) target new inside less')

  spread_same : new ≡ d' → rows_of (set sets target new) ≡ rows_of sets
  spread_same same = new_rows ∙ ap (set (rows_of sets) target) (same ∙ old_row) ∙ set-get_or (rows_of sets) target []

  spread_closed : row_at (rows_of (set sets target new)) (rule_of g p) ≡ row_at (rows_of sets) (rule_of g p) → IsSpreadAt g (rows_of (set sets target new)) p
  spread_closed same r s t v begins' has_s first =
      let alike = sym begins ∙ begins' in
      let first' = subst (λ u. IsFirst g s u t) (sym (same_rest target r w v alike)) first in
      let in_fresh = (fresh_is t).1 (s, subst (λ b. IsTrue (has b s)) same has_s, first') in
      let room_t = has_room fresh t in_fresh in
      let low_t : t < dummy + 1 = omega (arith, room_t, long, marked) in
      let now = (new_has t).1 (inr (low_t, in_fresh)) in
      let there = subst (λ b. IsTrue (has b t)) (sym new_row) now in
      subst (λ rows. HasIn rows r t) (sym new_rows) (subst (λ n. HasIn (set (rows_of sets) target new) n t) (same_rule target r w v alike) there)

  spread_other : (n : ℕ) → n ≢ target → row_at (rows_of (set sets target new)) n ≡ row_at (rows_of sets) n
  spread_other n other = ap (λ rows. row_at rows n) new_rows ∙ get_or-set_other (rows_of sets) target n new [] other

  pub spread_to : IsSpreadTo g sets p target d' new
  spread_to = record { room = spread_room; kept = spread_keeps; sound = spread_sound; grown = spread_less; same = spread_same; closed = spread_closed; other = spread_other }

-- one step of the closure after another
pub brought_on : (g : Grammar) (one two three : List (List Bool)) → AreBroughtFrom g one two → AreBroughtFrom g two three → AreBroughtFrom g one three
brought_on g one two three before after r t h = brought_twice g (HasIn one) (HasIn two) before r t (after r t h)

pub keeps_on : (one two three : List (List Bool)) → Keeps one two → Keeps two three → Keeps one three
keeps_on one two three before after r t h = after r t (before r t h)

pub keeps_itself : (rows : List (List Bool)) → Keeps rows rows
keeps_itself rows r t h = h

-- if the sets kept what they had, have nothing but its closure, and are closed at each production, they are exactly that closure
pub exact_spread : (g : Grammar) (before after : List (List Bool)) → Keeps before after → AreBroughtFrom g before after
    → ((p : ℕ) → p < prods_len g → IsSpreadAt g after p) → (r t : ℕ) → HasIn after r t ↔ IsBrought g (HasIn before) r t
exact_spread g before after kept sound closed r t = (λ h. sound r t h, λ h. closed_brought g (HasIn before) after kept closed r t h)

-- sets that are closed at all listed productions of a rule are closed at the rule
pub spread_of : (g : Grammar) (rows : List (List Bool)) (n : ℕ) → All (IsSpreadAt g rows) (prods_of g n) → IsSpreadOf g rows n
spread_of g rows n all p known is = All-contains (IsSpreadAt g rows) (prods_of g n) p all (in_prods g n p known is)
