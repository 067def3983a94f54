-- What two decisions say of a third one, by levels. If x against y shifts, and x against z reduces, y against z reduces: y's level is at
-- least x's, and z's at most; and if all three are the same, their tokens would associate to the right and to the left. If x against z
-- shifts, and y against z reduces, x against y shifts.
use Rattle.std.proofs.Common.{◌≡◌, ◌≢◌, ◌<◌, ◌≤◌, ◌∙◌, inl, inr, refl, sym, ap, arith, None, Option, Some}
use Rattle.std.specs.Cmp.{nat_cmp_is}
use Rattle.std.specs.declared.cmp.Ordering.{Ordering}
use Rattle.std.specs.declared.cmp.Ordering.TheVariants.{Equal, Greater, Less}
use Rattle.std.proofs.lemmas.Bool.{cases_lt}
use Rattle.lrpar_table_precedence.specs.declared.precedence.AssocKind.{AssocKind}
use Rattle.lrpar_table_precedence.specs.declared.precedence.AssocKind.TheVariants.{Left, Nonassoc, Right, Undeclared}
use Rattle.lrpar_table_precedence.specs.Precedence.{against, by_kind, by_levels}
use Rattle.lrpar_table_precedence.specs.declared.precedence.Precedence.{Precedence}
use Rattle.lrpar_table_precedence.specs.declared.precedence.Resolution.{Resolution}
use Rattle.lrpar_table_precedence.specs.declared.precedence.Resolution.TheVariants.{Reduce, Shift}

less_is : (x z : Precedence) → x.level < z.level → against x z ≡ Some Shift
less_is x z low = ap (λ (o : Ordering). by_levels o z.kind) (sym (nat_cmp_is x.level z.level Less low))

more_is : (x z : Precedence) → z.level < x.level → against x z ≡ Some Reduce
more_is x z high = ap (λ (o : Ordering). by_levels o z.kind) (sym (nat_cmp_is x.level z.level Greater high))

same_is : (x z : Precedence) → x.level ≡ z.level → against x z ≡ by_kind z.kind
same_is x z same = ap (λ (o : Ordering). by_levels o z.kind) (sym (nat_cmp_is x.level z.level Equal same))

right_of : (kind : AssocKind) → by_kind kind ≡ Some Shift → kind ≡ Right
right_of Left is = absurd (cc)
right_of Right is = refl
right_of Nonassoc is = absurd (cc)
right_of Undeclared is = absurd (cc)

left_of : (kind : AssocKind) → by_kind kind ≡ Some Reduce → kind ≡ Left
left_of Left is = refl
left_of Right is = absurd (cc)
left_of Nonassoc is = absurd (cc)
left_of Undeclared is = absurd (cc)

says_some : (kind : AssocKind) → kind ≢ Undeclared → by_kind kind ≢ None
says_some Left declared none = absurd (cc)
says_some Right declared none = absurd (cc)
says_some Nonassoc declared none = absurd (cc)
says_some Undeclared declared none = declared refl

-- something is decided, if the level says how its tokens associate
pub decides_some : (x z : Precedence) → z.kind ≢ Undeclared → against x z ≢ None
decides_some x z declared none =
    elim (cases_lt x.level z.level) [
      | inl low ↦ let wrong : ◌≡◌ {A = Option Resolution} (Some Shift) None = sym (less_is x z low) ∙ none in absurd (cc)
      | inr within ↦
          elim (cases_lt z.level x.level) [
            | inl high ↦ let wrong : ◌≡◌ {A = Option Resolution} (Some Reduce) None = sym (more_is x z high) ∙ none in absurd (cc)
            | inr past ↦ says_some z.kind declared (sym (same_is x z (omega (arith, within, past))) ∙ none)
          ]
    ]

-- what is shifted has no lower level; and at the same level its tokens associate to the right
shift_low : (x z : Precedence) → against x z ≡ Some Shift → x.level ≤ z.level
shift_low x z is =
    elim (cases_lt z.level x.level) [
      | inl high ↦ let wrong : ◌≡◌ {A = Option Resolution} (Some Reduce) (Some Shift) = sym (more_is x z high) ∙ is in absurd (cc)
      | inr within ↦ within
    ]

shift_right : (x z : Precedence) → against x z ≡ Some Shift → x.level ≡ z.level → z.kind ≡ Right
shift_right x z is same = right_of z.kind (sym (same_is x z same) ∙ is)

-- and the other way round for what is reduced
reduce_high : (x z : Precedence) → against x z ≡ Some Reduce → z.level ≤ x.level
reduce_high x z is =
    elim (cases_lt x.level z.level) [
      | inl low ↦ let wrong : ◌≡◌ {A = Option Resolution} (Some Shift) (Some Reduce) = sym (less_is x z low) ∙ is in absurd (cc)
      | inr within ↦ within
    ]

reduce_left : (x z : Precedence) → against x z ≡ Some Reduce → x.level ≡ z.level → z.kind ≡ Left
reduce_left x z is same = left_of z.kind (sym (same_is x z same) ∙ is)

pub reduces_too : (x y z : Precedence) → (y.level ≡ z.level → y.kind ≡ z.kind) → against x y ≡ Some Shift → against x z ≡ Some Reduce → against y z ≡ Some Reduce
reduces_too x y z alike shifts reduces =
    let low = shift_low x y shifts in
    let high = reduce_high x z reduces in
    elim (cases_lt z.level y.level) [
      | inl below ↦ more_is y z below
      | inr past ↦
          let right = shift_right x y shifts (omega (arith, low, high, past)) in
          let left = reduce_left x z reduces (omega (arith, low, high, past)) in
          let wrong : Right ≡ Left = sym right ∙ alike (omega (arith, low, high, past)) ∙ left in absurd (cc)
    ]

pub shifts_too : (x y z : Precedence) → against x z ≡ Some Shift → against y z ≡ Some Reduce → against x y ≡ Some Shift
shifts_too x y z shifts reduces =
    let low = shift_low x z shifts in
    let high = reduce_high y z reduces in
    elim (cases_lt x.level y.level) [
      | inl below ↦ less_is x y below
      | inr past ↦
          let right = shift_right x z shifts (omega (arith, low, high, past)) in
          let wrong : Right ≡ Left = sym right ∙ reduce_left y z reduces (omega (arith, low, high, past)) in absurd (cc)
    ]
