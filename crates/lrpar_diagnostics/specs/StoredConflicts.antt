-- The texts of conflicts as they are stored: productions, rules and tokens by their indexes.
use Rattle.std.specs.Prelude.{◌≡◌, ◌∷◌, ◌++◌, ℕ, List, [], Option, String, drop, map, option_map, string_bytes, take, unwrap_or}
use Rattle.std.specs.Borrow.{Bor}
use Rattle.std.specs.List.{AllByRecursion, flat_map}
use Rattle.lrpar_grammar_places.specs.declared.span.PIdx.{PIdx}
use Rattle.lrpar_grammar_places.specs.declared.span.RIdx.{RIdx}
use Rattle.lrpar_grammar_places.specs.declared.span.StIdx.{StIdx}
use Rattle.lrpar_grammar_places.specs.declared.span.TIdx.{TIdx}
use Rattle.lrpar_grammar_places.specs.Span.{Extent, nowhere}
use Rattle.lrpar_grammar.specs.Grammar.{Grammar, rule_span, token_span}
use Rattle.lrpar_table_rows.specs.ConflictsFit.{ReductionsFit, ShiftFits}
use Rattle.lrpar_table_rows.specs.PlainConflicts.{reduce_reduce_of, shift_reduce_of}
use Rattle.lrpar_diagnostics.specs.ConflictText.{by_line, dollar_span, groups_text, labelled, lookahead_text, reduce_reduce_line, reduce_reduce_text, reduced_spans, rules_text, shift_reduce_line, shift_reduce_text, shift_text, shown_span}
use Rattle.lrpar_diagnostics.specs.Location.{place_text}
use Rattle.lrpar_diagnostics.specs.Subject.{Subject}

-- the place is that of the first token of the name `$`, if there is one
abbrev pub IsDollarSpan : Grammar → Option (Bor Extent) → Type 0
IsDollarSpan g span = option_map (λ span. span.now) span ≡ dollar_span g

-- each conflict between two reductions is one of the grammar's
abbrev pub AllReductionsFit : {S : Type 0} → (S → ℕ) → Grammar → List (TIdx S × PIdx S × PIdx S × StIdx S) → Type 0
AllReductionsFit index g conflicts = AllByRecursion (ReductionsFit g) (map (reduce_reduce_of index) conflicts)

-- each conflict between a shift and a reduction is one of the grammar's
abbrev pub AllShiftsFit : {S : Type 0} → (S → ℕ) → Grammar → List (TIdx S × PIdx S × StIdx S) → Type 0
AllShiftsFit index g conflicts = AllByRecursion (ShiftFits g) (map (shift_reduce_of index) conflicts)

-- conflicts between two reductions
abbrev pub reductions_texts : {S : Type 0} → (S → ℕ) → Subject → Grammar → List (TIdx S × PIdx S × PIdx S × StIdx S) → List ℕ
reductions_texts index f g conflicts = flat_map (reduce_reduce_text f g) (map (reduce_reduce_of index) conflicts)

-- a conflict between two reductions
abbrev pub reductions_text : {S : Type 0} → (S → ℕ) → Subject → Grammar → TIdx S × PIdx S × PIdx S × StIdx S → List ℕ
reductions_text index f g conflict = reduce_reduce_text f g (reduce_reduce_of index conflict)

-- a conflict between reductions by two rules at a token
abbrev pub two_rules_text : {S : Type 0} → (S → ℕ) → Subject → Grammar → RIdx S → RIdx S → TIdx S → List ℕ
two_rules_text index f g first second token = rules_text f g (index first.0) (index second.0) (index token.0)

-- the first line of a conflict between reductions by two rules at a token
abbrev pub two_rules_line : {S : Type 0} → (S → ℕ) → Subject → Grammar → RIdx S → RIdx S → TIdx S → List ℕ
two_rules_line index f g first second token = reduce_reduce_line f g (index first.0) (index second.0) (index token.0)

-- the place of a token as a lookahead, if there is one
abbrev pub token_as_lookahead : {S : Type 0} → (S → ℕ) → Subject → Grammar → TIdx S → List ℕ
token_as_lookahead index f g token = lookahead_text f.text (shown_span g (index token.0))

-- the place of a rule, underlined with a label
abbrev pub labelled_rule : {S : Type 0} → (S → ℕ) → Subject → Grammar → RIdx S → List ℕ → List ℕ
labelled_rule index f g rule label = labelled f.text (rule_span g (index rule.0)) label

-- the place of a token, underlined with a label
abbrev pub labelled_token : {S : Type 0} → (S → ℕ) → Subject → Grammar → TIdx S → List ℕ → List ℕ
labelled_token index f g token label = labelled f.text (unwrap_or (token_span g (index token.0)) nowhere) label

-- the place of a rule was appended to a message, and a line feed
abbrev pub PlacesRule : {S A : Type 0} → (S → ℕ) → Subject → Grammar → RIdx S → String A → String A → Type 0
PlacesRule index f g rule old new = string_bytes new ≡ place_text f (string_bytes old) (rule_span g (index rule.0)).start ++ 10 ∷ []

-- conflicts between a shift and a reduction
abbrev pub shifts_texts : {S : Type 0} → (S → ℕ) → Subject → Grammar → List (TIdx S × PIdx S × StIdx S) → List ℕ
shifts_texts index f g conflicts = flat_map (shift_reduce_text f g) (map (shift_reduce_of index) conflicts)

-- a conflict between a shift and a reduction
abbrev pub shift_or_reduce_text : {S : Type 0} → (S → ℕ) → Subject → Grammar → TIdx S × PIdx S × StIdx S → List ℕ
shift_or_reduce_text index f g conflict = shift_reduce_text f g (shift_reduce_of index conflict)

-- a conflict between the shift of a token and a reduction by a production of a rule
abbrev pub token_or_rule_text : {S : Type 0} → (S → ℕ) → Subject → Grammar → TIdx S → RIdx S → PIdx S → List ℕ
token_or_rule_text index f g token rule prod = shift_text f g (index token.0) (index rule.0) (index prod.0)

-- the first line of a conflict between the shift of a token and a reduction by a rule
abbrev pub token_or_rule_line : {S : Type 0} → (S → ℕ) → Subject → Grammar → TIdx S → RIdx S → List ℕ
token_or_rule_line index f g token rule = shift_reduce_line f g (index token.0) (index rule.0)

-- parts of a text on the lines on which they start
abbrev pub lines_text : List ℕ → List Extent → List ℕ
lines_text src spans = groups_text src (by_line src spans)

-- the lines with the symbols of a production
abbrev pub symbols_text : {S : Type 0} → (S → ℕ) → Subject → Grammar → PIdx S → List ℕ
symbols_text index f g prod = lines_text f.text (reduced_spans g (index prod.0))

-- the parts that start on the line of the first one are this number of parts at the front
abbrev pub IsFirstGroup : List ℕ → List Extent → ℕ → Type 0
IsFirstGroup src spans len = by_line src spans ≡ take len spans ∷ by_line src (drop len spans)
