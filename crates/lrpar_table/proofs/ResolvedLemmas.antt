-- A table in which precedences resolved a conflict isn't complete.
use Rattle.std.proofs.Common.{◌≡◌, ◌≢◌, ◌<◌, ◌∷◌, refl, arith, List, []}
use Rattle.std.specs.List.{Contains}
use Rattle.lrpar_grammar.specs.Grammar.{prod_len}
use Rattle.lrpar_table_rows.specs.Table.{ReduceBy, ShiftTo, action_of, states_len}
use Rattle.lrpar_table_conditions.specs.declared.completeness.CompletenessCondition.TheVariants.{C3, C5}
use Rattle.lrpar_table.specs.TableLaws.{ResolvedTablesAreIncomplete}

-- a list that isn't empty has an element
some_member : {X : Type 0} (xs : List X) → xs ≢ [] → (x : X) × Contains xs x
some_member [] some = absurd (some refl)
some_member (x ∷ xs) some = (x, (0, omega arith, refl))

-- at a resolved conflict, C3 wants the shift, and C5 the reduction
pub resolved_tables_are_incomplete : ResolvedTablesAreIncomplete
resolved_tables_are_incomplete g precedences graph table built some complete =
    let one = some_member table.resolved some in
    let x = one.0 in
    let s = x.conflict.state in
    let t = x.conflict.token in
    let p = x.conflict.prod in
    let found = (built.resolved x).0 one.1 in
    let before = found.2.0.0 in
    let first = found.2.0.1 in
    let within = found.0 in
    let states = built.resolution.states in
    let here : s < states_len table = omega (arith, within, states) in
    let shift = complete.each C3 s here before.0.prod before.0.dot before.0.token before.1 t before.2 in
    let shifts : action_of table s t ≡ ShiftTo shift.0 = shift.1 in
    let reduces : action_of table s t ≡ ReduceBy p = (complete.each C5 s here p (prod_len g p) t first.0.1).reduces refl first.0.0 in
    absurd (cc)
