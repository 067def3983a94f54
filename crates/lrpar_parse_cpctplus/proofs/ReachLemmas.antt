-- How far a parse goes on: there is one answer, and what is known of it once lexemes were fed.
use Rattle.std.proofs.Common.{◌≡◌, ◌<◌, ◌≤◌, ◌+◌, ◌↔◌, ℕ, List, Bool, true, false, IsTrue, Option, Some, None, length, min, refl, sym, subst, arith}
use Rattle.std.specs.Int.{from_bool}
use Rattle.lrpar_grammar.specs.Grammar.{Grammar}
use Rattle.lrpar_table_rows.specs.Table.{Table}
use Rattle.lrpar_table_stacks.specs.Expected.{AcceptsAtEnd}
use Rattle.lrpar_table_stacks.specs.Run.{token_at}
use Rattle.lrpar_table_stacks.proofs.RunLemmas.{feeds_one_way}
use Rattle.lrpar_parse_repair.specs.Asked.{Asked}
use Rattle.lrpar_parse_repair.proofs.ReplayLemmas.{replay_one_way}
use Rattle.lrpar_parse_repair.specs.Sequences.{PlainStep, PlainShift, IsStepTaken}
use Rattle.lrpar_parse_cpctplus.specs.Reaching.{GoesAsFar, Reaches, accepts_at, ends_at, fails_at, feeds_on, is_far}

module _ {X : Type 0} (token : X → ℕ) (g : Grammar) (table : Table) (lexemes : List X) (most : ℕ) where
  -- from a stack a parse reaches one place only
  pub reaches_one_way : (st : List ℕ) (i a b : ℕ) → Reaches token g table lexemes most st i a → Reaches token g table lexemes most st i b → a ≡ b
  reaches_one_way _ _ _ _ (feeds_on st i prods next far within inside feeds rest) (feeds_on st' i' prods' next' far' within' inside' feeds' rest') =
      let same = feeds_one_way g table (token_at token g lexemes i) st prods next prods' next' feeds feeds' in
      reaches_one_way next (i + 1) far far' rest (subst (λ (l : List ℕ). Reaches token g table lexemes most l (i + 1) far') (sym same.1) rest')
  reaches_one_way _ _ _ _ (feeds_on st i prods next far within inside feeds rest) (fails_at st' i' within' inside' none) = absurd (none prods next feeds)
  reaches_one_way _ _ _ _ (feeds_on st i prods next far within inside feeds rest) (is_far st' i' past inside') = absurd (omega arith)
  reaches_one_way _ _ _ _ (feeds_on st i prods next far within inside feeds rest) (ends_at st' i' past none) = absurd (omega arith)
  reaches_one_way _ _ _ _ (feeds_on st i prods next far within inside feeds rest) (accepts_at st' i' past accepts) = absurd (omega arith)
  reaches_one_way _ _ _ _ (fails_at st i within inside none) (feeds_on st' i' prods next far within' inside' feeds rest) = absurd (none prods next feeds)
  reaches_one_way _ _ _ _ (fails_at st i within inside none) (fails_at st' i' within' inside' none') = refl
  reaches_one_way _ _ _ _ (fails_at st i within inside none) (is_far st' i' past inside') = absurd (omega arith)
  reaches_one_way _ _ _ _ (fails_at st i within inside none) (ends_at st' i' past none') = absurd (omega arith)
  reaches_one_way _ _ _ _ (fails_at st i within inside none) (accepts_at st' i' past accepts) = absurd (omega arith)
  reaches_one_way _ _ _ _ (is_far st i past inside) (feeds_on st' i' prods next far within inside' feeds rest) = absurd (omega arith)
  reaches_one_way _ _ _ _ (is_far st i past inside) (fails_at st' i' within inside' none) = absurd (omega arith)
  reaches_one_way _ _ _ _ (is_far st i past inside) (is_far st' i' past' inside') = refl
  reaches_one_way _ _ _ _ (is_far st i past inside) (ends_at st' i' past' none) = absurd (omega arith)
  reaches_one_way _ _ _ _ (is_far st i past inside) (accepts_at st' i' past' accepts) = absurd (omega arith)
  reaches_one_way _ _ _ _ (ends_at st i past none) (feeds_on st' i' prods next far within inside feeds rest) = absurd (omega arith)
  reaches_one_way _ _ _ _ (ends_at st i past none) (fails_at st' i' within inside none') = absurd (omega arith)
  reaches_one_way _ _ _ _ (ends_at st i past none) (is_far st' i' past' inside) = absurd (omega arith)
  reaches_one_way _ _ _ _ (ends_at st i past none) (ends_at st' i' past' none') = refl
  reaches_one_way _ _ _ _ (ends_at st i past none) (accepts_at st' i' past' accepts) = absurd (none accepts)
  reaches_one_way _ _ _ _ (accepts_at st i past accepts) (feeds_on st' i' prods next far within inside feeds rest) = absurd (omega arith)
  reaches_one_way _ _ _ _ (accepts_at st i past accepts) (fails_at st' i' within inside none) = absurd (omega arith)
  reaches_one_way _ _ _ _ (accepts_at st i past accepts) (is_far st' i' past' inside) = absurd (omega arith)
  reaches_one_way _ _ _ _ (accepts_at st i past accepts) (ends_at st' i' past' none) = absurd (none accepts)
  reaches_one_way _ _ _ _ (accepts_at st i past accepts) (accepts_at st' i' past' accepts') = refl

  -- a lexeme was fed: a parse reaches as far from here as from the place after it
  pub reach_fed : (st next : List ℕ) (i j : ℕ) (o : Option ℕ) → i < most → IsStepTaken token g table lexemes st i PlainShift next o → o ≡ Some j
      → (far : ℕ) → Reaches token g table lexemes most next (i + 1) far → Reaches token g table lexemes most st i far
  reach_fed st next i j o within by is far rest =
      let step = subst (λ (p : Option ℕ). IsStepTaken token g table lexemes st i PlainShift next p) is by in
      feeds_on st i step.0 next far within step.1.0 step.1.1 rest

  -- it can't be fed: the parse reaches this place
  pub reach_fails : (st next : List ℕ) (i : ℕ) (o : Option ℕ) → i < most → i < length lexemes → IsStepTaken token g table lexemes st i PlainShift next o → o ≡ None
      → Reaches token g table lexemes most st i i
  reach_fails st next i o within inside by is =
      let fails = subst (λ (p : Option ℕ). IsStepTaken token g table lexemes st i PlainShift next p) is by in
      fails_at st i within inside (λ prods after feeds. fails prods after (i + 1) (inside, feeds, refl))

  -- none is left
  pub reach_ends : (st : List ℕ) (i : ℕ) (accepts : Bool) → length lexemes ≤ i → IsTrue accepts ↔ AcceptsAtEnd g table st
      → Reaches token g table lexemes most st i (min i most + from_bool accepts)
  reach_ends st i true past agrees = accepts_at st i past (agrees.0 refl)
  reach_ends st i false past agrees =
      let sum : min i most ≡ min i most + 0 = omega arith in
      subst (λ (n : ℕ). Reaches token g table lexemes most st i n) sum (ends_at st i past (λ accepts. let f : false ≡ true = agrees.1 accepts in cc))

-- after steps at an error point a parse goes on to one place only
pub goes_one_far : {X : Type 0} (token : X → ℕ) (at : Asked X) (steps : List PlainStep) (m n : ℕ) → GoesAsFar token at steps m → GoesAsFar token at steps n → m ≡ n
goes_one_far token at steps m n one other =
    let g = at.checked.grammar in
    let table = at.checked.table in
    let same = replay_one_way token g table at.lexemes at.stack at.place steps one.2.0 one.0 one.1 other.2.0 other.0 other.1 one.2.1 other.2.1 in
    let here = subst (λ (l : List ℕ). Reaches token g table at.lexemes (at.place + 250) l one.1 m) same.1
    one.3 in
    let there = subst (λ (j : ℕ). Reaches token g table at.lexemes (at.place + 250) other.0 j m) same.2 here in
    reaches_one_way token g table at.lexemes (at.place + 250) other.0 other.1 m n there other.3
