-- The rules of the first lines of a text, and of one line more.
use Rattle.std.proofs.Common.{◌≡◌, ℕ, cond, true, false, List, [], ◌∷◌, ◌++◌, Option, Some, option_map, inl, inr, sym, subst, ◌∙◌, ap, append-nil, append_assoc}
use Rattle.std.proofs.lemmas.Bool.{cond-false, cond-true}
use Rattle.lrpar_grammar.specs.Grammar.{Grammar}
use Rattle.lrpar_lexer.specs.declared.rule.LexRule.{LexRule}
use Rattle.lrpar_lexer_lrlex.specs.declared.fault.LrlexFault.{LrlexFault}
use Rattle.lrpar_lexer_lrlex.specs.declared.flags.TextFlags.{TextFlags}
use Rattle.lrpar_lexer_lrlex.specs.declared.part.Part as code
use Rattle.lrpar_lexer_lrlex.specs.declared.states.Starts.{Starts}
use Rattle.lrpar_lexer_lrlex.specs.Parts.{Part, after_cut, before_cut, pieces_left, placed, trimmed}
use Rattle.lrpar_lexer_lrlex.specs.Reading.{AreRulesOf, HasFault, IsFirstFault, IsRuleOf, counts, rule_lines}
use Rattle.lrpar_lexer_lrlex.specs.States.{StateName}
use Rattle.lrpar_lexer_lrlex.proofs.PieceLemmas.{pieces_step}

-- the lines that are left, and their first: `core` is it without what is white at its ends
module _ (flags : TextFlags) (left rest : Option code.Part) (part line core : code.Part) (is : left ≡ Some part)
    (first : placed line ≡ before_cut 10 (placed part)) (cut : option_map (λ p. placed p) rest ≡ after_cut 10 (placed part))
    (ends : placed core ≡ trimmed (placed line)) where
  next_line : rule_lines flags (pieces_left 10 (option_map (λ p. placed p) left))
      ≡ cond (counts flags (placed core)) (placed core ∷ rule_lines flags (pieces_left 10 (option_map (λ p. placed p) rest)))
      (rule_lines flags (pieces_left 10 (option_map (λ p. placed p) rest)))
  next_line =
      ap (λ (o : Option code.Part). rule_lines flags (pieces_left 10 (option_map (λ p. placed p) o))) is
      ∙ ap (rule_lines flags) (pieces_step 10 (placed part))
      ∙ ap (λ o. rule_lines flags (before_cut 10 (placed part) ∷ pieces_left 10 o)) (sym cut)
      ∙ ap (λ p. cond (counts flags p) (p ∷ rule_lines flags (pieces_left 10 (option_map (λ p. placed p) rest)))
      (rule_lines flags (pieces_left 10 (option_map (λ p. placed p) rest)))) (sym (ends ∙ ap trimmed first))

  pub next_counts : counts flags (placed core) ≡ true → rule_lines flags (pieces_left 10 (option_map (λ p. placed p) left))
      ≡ placed core ∷ rule_lines flags (pieces_left 10 (option_map (λ p. placed p) rest))
  next_counts yes_it_does = next_line ∙ cond-true (counts flags (placed core)) _ _ yes_it_does

  pub next_is_nothing : counts flags (placed core) ≡ false → rule_lines flags (pieces_left 10 (option_map (λ p. placed p) left))
      ≡ rule_lines flags (pieces_left 10 (option_map (λ p. placed p) rest))
  next_is_nothing it_does_not = next_line ∙ cond-false (counts flags (placed core)) _ _ it_does_not

module _ {S : Type 0} (index : S → ℕ) (grammar : Grammar) (flags : TextFlags) (states : List StateName) (all : List Part) where
  -- the rules so far, and then those of some lines, are the rules of all lines
  abbrev pub Leads : List Part → List (LexRule S) → List Starts → Type 0
  Leads lines rules starts = (more : List (LexRule S)) (others : List Starts) → AreRulesOf index grammar flags states lines more others
      → AreRulesOf index grammar flags states all (rules ++ more) (starts ++ others)

  -- the first fault of some lines is the first of all
  abbrev pub FaultsLead : List Part → Type 0
  FaultsLead lines = (fault : LrlexFault) → IsFirstFault index grammar flags states lines fault → IsFirstFault index grammar flags states all fault

  module _ (lines rest : List Part) (line : Part) (is : lines ≡ line ∷ rest) where
    pub leads_on : (rules after : List (LexRule S)) (starts later : List Starts) (rule : LexRule S) (start : Starts) → after ≡ rules ++ rule ∷ []
        → later ≡ starts ++ start ∷ [] → IsRuleOf index grammar flags states line rule start → Leads lines rules starts → Leads rest after later
    leads_on rules after starts later rule start puts sets one leads more others are =
        subst (λ rs. AreRulesOf index grammar flags states all rs (later ++ others))
        (sym (ap (λ l. l ++ more) puts ∙ append_assoc rules (rule ∷ []) more))
        (subst (AreRulesOf index grammar flags states all (rules ++ rule ∷ more))
        (sym (ap (λ l. l ++ others) sets ∙ append_assoc starts (start ∷ []) others))
        (leads (rule ∷ more) (start ∷ others)
        (subst (λ ls. AreRulesOf index grammar flags states ls (rule ∷ more) (start ∷ others)) (sym is) (one, are))))

    pub faults_on : (rule : LexRule S) (start : Starts) → IsRuleOf index grammar flags states line rule start → FaultsLead lines → FaultsLead rest
    faults_on rule start one lead fault first =
        lead fault (subst (λ ls. IsFirstFault index grammar flags states ls fault) (sym is) (inr (rule, start, one, first)))

    pub fault_here : (fault : LrlexFault) → HasFault grammar flags states line fault → FaultsLead lines
        → IsFirstFault index grammar flags states all fault
    fault_here fault has lead = lead fault (subst (λ ls. IsFirstFault index grammar flags states ls fault) (sym is) (inl has))

  pub leads_stay : (lines rest : List Part) (rules : List (LexRule S)) (starts : List Starts) → lines ≡ rest → Leads lines rules starts
      → Leads rest rules starts
  leads_stay lines rest rules starts is leads = subst (λ ls. Leads ls rules starts) is leads

  pub faults_stay : (lines rest : List Part) → lines ≡ rest → FaultsLead lines → FaultsLead rest
  faults_stay lines rest is lead = subst FaultsLead is lead

  pub leads_to_end : (lines : List Part) (rules : List (LexRule S)) (starts : List Starts) → lines ≡ [] → Leads lines rules starts
      → AreRulesOf index grammar flags states all rules starts
  leads_to_end lines rules starts is leads =
      subst (λ rs. AreRulesOf index grammar flags states all rs starts) (append-nil rules)
      (subst (AreRulesOf index grammar flags states all (rules ++ [])) (append-nil starts)
      (leads [] [] (subst (λ ls. AreRulesOf index grammar flags states ls [] []) (sym is) tt)))
