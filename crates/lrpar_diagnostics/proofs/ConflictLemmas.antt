-- Parts of a text by the lines on which they start, and the places of a grammar.
use Rattle.std.proofs.Common.{◌≡◌, ◌<◌, ◌≤◌, ◌+◌, ℕ, zero, suc, true, false, cond, refl, sym, ap, ◌∙◌, arith, List, [], ◌∷◌, ◌++◌, length, take, drop, get_or, Option, Some, None, option_map, codes, append_assoc}
use Rattle.std.specs.Prelude.{◌==◌, IfSome, slice_get, position, option_and_then}
use Rattle.std.specs.List.{All}
use Rattle.std.specs.Option.{option_map_or}
use Rattle.std.specs.Str.{bytes_eq}
use Rattle.std.proofs.lemmas.Bool.Decides.{nat_tests}
use Rattle.lrpar_grammar_places.specs.Lines.{line_start}
use Rattle.lrpar_grammar_places.specs.Span.{Extent, nowhere}
use Rattle.lrpar_grammar.specs.Grammar.{Grammar, RuleName, TokenName, Production, added_prod, rules_len, prods_len, rule_span, token_span, prod_span_of, symbol_spans_of}
use Rattle.lrpar_grammar.specs.SpansFit.{AreSpansInOrder, IsPartOf, IsPartOfLine, NamesFit, ProductionFits, SpansFit}
use Rattle.lrpar_diagnostics.specs.Subject.{Subject}
use Rattle.lrpar_diagnostics.specs.Location.{place_text}
use Rattle.lrpar_diagnostics.specs.Underline.{FollowInOrder}
use Rattle.lrpar_diagnostics.specs.ConflictText.{ahead_of, by_line, group_label, dollar_span, own_or, shown_span}

same_line : (a b : ℕ) → a ≡ b → (a == b) ≡ true
same_line a b h = grind (arith, nat_tests)

other_line : (a b : ℕ) → ¬ (a ≡ b) → (a == b) ≡ false
other_line a b h = grind (arith, nat_tests)

-- the first group begins with the part that was added before the others
head_of : (src : List ℕ) (a : Extent) (groups : List (List Extent)) → (group : List Extent) × (rest : List (List Extent)) × (ahead_of src a groups ≡ (a ∷ group) ∷ rest)
head_of src a [] = ([], [], refl)
head_of src a ([] ∷ groups) = ([], groups, refl)
head_of src a ((b ∷ group) ∷ groups) =
    elim (line_start src a.start == line_start src b.start)
    as (λ v. (g : List Extent) × (rest : List (List Extent)) × (cond v ((a ∷ b ∷ group) ∷ groups) ((a ∷ []) ∷ (b ∷ group) ∷ groups) ≡ (a ∷ g) ∷ rest)) [
      | true ↦ (b ∷ group, groups, refl)
      | false ↦ ([], (b ∷ group) ∷ groups, refl)
    ]

-- if parts follow, a group has no label
pub some_label : (src : List ℕ) (spans : List Extent) → 0 < length spans → [] ≡ group_label (by_line src spans)
some_label src [] some = absurd (omega (arith, some))
some_label src (a ∷ spans) some = sym (ap group_label (head_of src a (by_line src spans)).2)

-- the parts on the line of the first one are the first group
first_group : (src : List ℕ) (line n : ℕ) (spans : List Extent) → n < length spans → ((k : ℕ) (d : Extent) → k < suc n → line_start src (get_or spans k d).start ≡ line)
    → (suc n < length spans → (d : Extent) → ¬ (line_start src (get_or spans (suc n) d).start ≡ line))
    → by_line src spans ≡ take (suc n) spans ∷ by_line src (drop (suc n) spans)
first_group src line n [] within same other = absurd (omega (arith, within))
first_group src line zero (a ∷ []) within same other = refl
first_group src line zero (a ∷ b ∷ spans) within same other =
    let h = head_of src b (by_line src spans) in
    let here = same 0 a (omega arith) in
    let there = other (omega arith) b in
    let apart : (line_start src a.start == line_start src b.start) ≡ false = other_line (line_start src a.start) (line_start src b.start) (λ e. there (sym e ∙ here)) in
    ap (ahead_of src a) h.2 ∙ ap (λ v. cond v ((a ∷ b ∷ h.0) ∷ h.1) ((a ∷ []) ∷ (b ∷ h.0) ∷ h.1)) apart ∙ ap (λ gs. (a ∷ []) ∷ gs) (sym h.2)
first_group src line (suc n) (a ∷ []) within same other = absurd (omega (arith, within))
first_group src line (suc n) (a ∷ b ∷ spans) within same other =
    let rest = by_line src (drop (suc n) (b ∷ spans)) in
    let next = first_group src line n (b ∷ spans) (omega (arith, within)) (λ k d h. same (suc k) d (omega (arith, h))) (λ h d. other (omega (arith, h)) d) in
    let together : (line_start src a.start == line_start src b.start) ≡ true =
    same_line (line_start src a.start) (line_start src b.start) (same 0 a (omega arith) ∙ sym (same 1 b (omega arith))) in
    ap (ahead_of src a) next ∙ ap (λ v. cond v ((a ∷ b ∷ take n spans) ∷ rest) ((a ∷ []) ∷ (b ∷ take n spans) ∷ rest)) together

pub group_of : (src : List ℕ) (line i : ℕ) (spans : List Extent) → 0 < i → i ≤ length spans → ((k : ℕ) (d : Extent) → k < i → line_start src (get_or spans k d).start ≡ line)
    → (i < length spans → (d : Extent) → ¬ (line_start src (get_or spans i d).start ≡ line)) → by_line src spans ≡ take i spans ∷ by_line src (drop i spans)
group_of src line zero spans some within same other = absurd (omega (arith, some))
group_of src line (suc n) spans some within same other = first_group src line n spans (omega (arith, within)) same other

-- each of parts in order is a part
pub part_at : (src : List ℕ) (i : ℕ) (spans : List Extent) (k : ℕ) (d : Extent) → FollowInOrder src i spans → k < length spans → IsPartOf src (get_or spans k d)
part_at src i [] k d order within = absurd (omega (arith, within))
part_at src i (a ∷ spans) zero d order within = order.1
part_at src i (a ∷ spans) (suc k) d order within = part_at src a.end spans k d order.2 (omega (arith, within))

-- so are the first of them, and the others
pub first_follow : (src : List ℕ) (i n : ℕ) (spans : List Extent) → FollowInOrder src i spans → FollowInOrder src i (take n spans)
first_follow src i zero [] order = tt
first_follow src i zero (a ∷ spans) order = tt
first_follow src i (suc n) [] order = tt
first_follow src i (suc n) (a ∷ spans) order = (order.0, order.1, first_follow src a.end n spans order.2)

pub others_follow : (src : List ℕ) (i n : ℕ) (spans : List Extent) → FollowInOrder src i spans → FollowInOrder src 0 (drop n spans)
others_follow src i zero [] order = tt
others_follow src i zero (a ∷ spans) order = (omega arith, order.1, order.2)
others_follow src i (suc n) [] order = tt
others_follow src i (suc n) (a ∷ spans) order = others_follow src a.end n spans order.2

-- the places of a production's symbols follow in order
follow : (src : List ℕ) (i : ℕ) (spans : List Extent) → All (IsPartOfLine src) spans → AreSpansInOrder spans
    → (0 < length spans → (d : Extent) → i ≤ (get_or spans 0 d).start) → FollowInOrder src i spans
follow src i [] all order low = tt
follow src i (a ∷ spans) all order low = (
  low (omega arith) a,
  (all 0 a (omega arith)).part,
  follow src a.end spans (λ k d h. all (suc k) d (omega (arith, h)))
      (λ k d h. let next : suc k + 1 ≡ suc (k + 1) = omega arith in rw next at (order (suc k) d (omega (arith, h))))
      (λ some d. order 0 d (omega (arith, some))),
)

pub symbols_follow : (src : List ℕ) (spans : List Extent) → All (IsPartOfLine src) spans → AreSpansInOrder spans → FollowInOrder src 0 spans
symbols_follow src spans all order = follow src 0 spans all order (λ some d. omega arith)

-- a place after a text and a message
pub place_after : (f : Subject) (old message out : List ℕ) (byte : ℕ) → out ≡ old ++ message → place_text f out byte ≡ old ++ place_text f message byte
place_after f old message out byte e = rw e (search append_assoc)

-- a part on another line than the first one isn't the first
pub not_first : (src : List ℕ) (line i : ℕ) (spans : List Extent) (first other : Extent) → 0 < length spans → line ≡ line_start src (get_or spans 0 first).start
    → ¬ (line_start src (get_or spans i other).start ≡ line) → 0 < i
not_first src line i [] first other some is apart = absurd (omega (arith, some))
not_first src line zero (a ∷ spans) first other some is apart = absurd (apart (sym is))
not_first src line (suc i) (a ∷ spans) first other some is apart = omega arith

-- the element at a place of a list, whatever is used for places outside of it
pub same_item : {A : Type 0} (xs : List A) (i : ℕ) (x y : A) → i < length xs → get_or xs i x ≡ get_or xs i y
same_item [] i x y within = absurd (omega (arith, within))
same_item (z ∷ xs) zero x y within = refl
same_item (z ∷ xs) (suc i) x y within = same_item xs i x y (omega (arith, within))

-- the place of a rule
rule_at : (src : List ℕ) (rules : List RuleName) (r : ℕ) → r < length rules → All (λ x. IsPartOf src x.span) rules
    → IsPartOf src (option_map_or (λ x. x.span) (slice_get rules r) nowhere)
rule_at src [] r within all = absurd (omega (arith, within))
rule_at src (x ∷ rules) zero within all = all 0 x (omega arith)
rule_at src (x ∷ rules) (suc r) within all = rule_at src rules r (omega (arith, within)) (λ k d h. all (suc k) d (omega (arith, h)))

pub rule_part : (g : Grammar) (src : List ℕ) (r : ℕ) → NamesFit g src → r < rules_len g → IsPartOf src (rule_span g r)
rule_part g src r names within = rule_at src g.rules r within names.rules

-- and of a token, if it has one
token_at : (src : List ℕ) (tokens : List TokenName) (t : ℕ) → All (λ x. IsPartOf src x.span) tokens → IfSome (option_map (λ x. x.span) (slice_get tokens t)) (IsPartOf src)
token_at src [] t all = tt
token_at src (x ∷ tokens) zero all = all 0 x (omega arith)
token_at src (x ∷ tokens) (suc t) all = token_at src tokens t (λ k d h. all (suc k) d (omega (arith, h)))

pub token_part : (g : Grammar) (src : List ℕ) (t : ℕ) → NamesFit g src → IfSome (token_span g t) (IsPartOf src)
token_part g src t names = token_at src g.tokens t names.tokens

-- and that of `$`
found_part : (g : Grammar) (src : List ℕ) (found : Option ℕ) → NamesFit g src → IfSome (option_and_then (token_span g) found) (IsPartOf src)
found_part g src None names = tt
found_part g src (Some t) names = token_part g src t names

either_part : (src : List ℕ) (own other : Option Extent) → IfSome own (IsPartOf src) → IfSome other (IsPartOf src) → IfSome (own_or own other) (IsPartOf src)
either_part src None other first second = second
either_part src (Some span) other first second = first

pub shown_part : (g : Grammar) (src : List ℕ) (t : ℕ) → NamesFit g src → IfSome (shown_span g t) (IsPartOf src)
shown_part g src t names =
    either_part src (token_span g t) (dollar_span g) (token_part g src t names)
    (found_part g src (position (λ token. bytes_eq token.name (codes "$")) g.tokens) names)

-- and those of a production
prod_at : (src : List ℕ) (prods : List Production) (p : ℕ) (d : Production) → p < length prods → All (ProductionFits src) prods
    → ProductionFits src (get_or prods p d) × (slice_get prods p ≡ Some (get_or prods p d))
prod_at src [] p d within all = absurd (omega (arith, within))
prod_at src (x ∷ prods) zero d within all = (all 0 d (omega arith), refl)
prod_at src (x ∷ prods) (suc p) d within all = prod_at src prods p d (omega (arith, within)) (λ k e h. all (suc k) e (omega (arith, h)))

pub prod_parts : (g : Grammar) (src : List ℕ) (p : ℕ) → SpansFit g src → p < prods_len g
    → IsPartOf src (prod_span_of g p) × FollowInOrder src 0 (symbol_spans_of g p)
prod_parts g src p fits within =
    let at = prod_at src g.prods p (added_prod 0) within fits.prods in
    rw at.1 (at.0.span, symbols_follow src (get_or g.prods p (added_prod 0)).symbol_spans at.0.symbols at.0.order)
