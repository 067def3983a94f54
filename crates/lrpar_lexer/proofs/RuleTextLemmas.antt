-- The rules of the first lines of a text, and of one line more.
use Rattle.std.proofs.Common.{◌≡◌, ℕ, ◌+◌, ◌-◌, ◌<◌, cond, nat_lt, List, [], ◌∷◌, ◌++◌, length, map, take, get_or, filter, Some, slice_get, sym, subst, ◌∙◌, ap, arith, append-nil, lt-ltb, le-ltb}
use Rattle.std.specs.List.{AllZip}
use Rattle.std.proofs.lemmas.List.{map_push, take_more}
use Rattle.std.proofs.lemmas.List.Elements.{filter-append}
use Rattle.std.proofs.lemmas.Option.{slice_get-get_or}
use Rattle.std.proofs.lemmas.Slice.Zip.{all_zipped_more}
use Rattle.lrpar_grammar.specs.Grammar.{Grammar}
use Rattle.lrpar_lexer.specs.RuleLines.{core_of, cores_of}
use Rattle.lrpar_lexer.specs.RuleTexts.{AreRulesOf, IsFirstFault, IsRuleOf, SaysNoRule}
use Rattle.lrpar_lexer.specs.declared.rule.LexRule.{LexRule}
use Rattle.lrpar_lexer.specs.declared.rules.LineFault.{LineFault}

-- what one more line adds
cores_push : (lines : List (List ℕ)) (line : List ℕ)
    → cores_of (lines ++ line ∷ []) ≡ cores_of lines ++ cond (nat_lt 0 (length (core_of line))) (core_of line ∷ []) []
cores_push lines line =
    ap (filter (λ core. nat_lt 0 (length core))) (map_push core_of lines line)
    ∙ filter-append (λ core. nat_lt 0 (length core)) (map core_of lines) (core_of line ∷ [])

module _ {S : Type 0} (index : S → ℕ) (grammar : Grammar) (lines : List (List ℕ)) (number : ℕ) (line : List ℕ) (within : number < length lines)
    (is : line ≡ get_or lines number line) where
  one_more : take (number + 1) lines ≡ take number lines ++ line ∷ []
  one_more = take_more lines number line within ∙ ap (λ l. take number lines ++ l ∷ []) (sym is)

  -- a line that isn't blank gives one more rule
  pub rule_more : (rules : List (LexRule S)) (rule : LexRule S) → 0 < length (core_of line) → AreRulesOf index grammar (take number lines) rules
      → IsRuleOf index grammar (core_of line) rule → AreRulesOf index grammar (take (number + 1) lines) (rules ++ rule ∷ [])
  rule_more rules rule counts are says =
      let more : cores_of (take (number + 1) lines) ≡ cores_of (take number lines) ++ core_of line ∷ [] =
      ap cores_of one_more ∙ cores_push (take number lines) line
      ∙ ap (λ test. cores_of (take number lines) ++ cond test (core_of line ∷ []) []) (lt-ltb 0 (length (core_of line)) counts) in
      subst (λ cores. AllZip (IsRuleOf index grammar) cores (rules ++ rule ∷ [])) (sym more)
      (all_zipped_more (IsRuleOf index grammar) (cores_of (take number lines)) rules (core_of line) rule are says)

  -- a blank line gives none
  pub rules_stay : (rules : List (LexRule S)) → length (core_of line) ≡ 0 → AreRulesOf index grammar (take number lines) rules
      → AreRulesOf index grammar (take (number + 1) lines) rules
  rules_stay rules none are =
      let more : cores_of (take (number + 1) lines) ≡ cores_of (take number lines) =
      ap cores_of one_more ∙ cores_push (take number lines) line
      ∙ ap (λ test. cores_of (take number lines) ++ cond test (core_of line ∷ []) []) (le-ltb 0 (length (core_of line)) (omega arith))
      ∙ append-nil (cores_of (take number lines)) in
      subst (λ cores. AllZip (IsRuleOf index grammar) cores rules) (sym more) are

  -- a line that isn't blank and gives no rule is the first such one, if the lines before it give rules
  pub fault_here : (rules : List (LexRule S)) (why : LineFault) → 0 < length (core_of line) → AreRulesOf index grammar (take number lines) rules
      → SaysNoRule grammar (core_of line) why → IsFirstFault index grammar lines (number + 1) why
  fault_here rules why counts are says =
      let back : (number + 1) - 1 ≡ number = omega arith in
      record {
        line = line;
        from_one = omega arith;
        is = ap (slice_get lines) back ∙ slice_get-get_or lines number line within ∙ ap Some (sym is);
        counts = counts;
        says_none = says;
        rules = rules;
        before = subst (λ n. AreRulesOf index grammar (take n lines) rules) (sym back) are;
      }
