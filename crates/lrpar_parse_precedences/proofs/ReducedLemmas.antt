-- A reduction along symbols. It cuts the states above the start state in two: those of the production's symbols, and those below them,
-- from the top of which the goto is taken.
use Rattle.std.proofs.Common.{◌≡◌, ◌-◌, ◌∙◌, refl, sym, ap, subst, arith, ℕ, List, [], ◌∷◌, ◌++◌, length, take, Some, length-append}
use Rattle.std.proofs.Math.Seq.{take-append_seam}
use Rattle.lrpar_grammar.specs.Grammar.{Grammar, GrammarSymbol, Nonterminal, prod_len, rule_of, symbols_of}
use Rattle.lrpar_table_rows.specs.Table.{Table, ReduceBy, action_of, goto_of}
use Rattle.lrpar_table_stacks.specs.Path.{IsPath, Leads, NeverSticks}
use Rattle.lrpar_table_stacks.specs.Reduction.{Reduces, left_by, top_action, top_goto}
use Rattle.lrpar_table_stacks.proofs.PathLemmas.{action_at_last, as_many, goto_at_last, last_of, leads_more}
use Rattle.lrpar_table_stacks.proofs.RunLemmas.{HasPath}

-- the states above a state, split between two lists of symbols
record SplitsStates (table : Table) (s : ℕ) (xs ys : List GrammarSymbol) (st : List ℕ) : Type 0 where
  pub lower : List ℕ
  pub upper : List ℕ
  pub both : st ≡ lower ++ upper
  pub lower_leads : Leads table s xs lower
  pub upper_leads : Leads table (last_of s lower) ys upper

split_states : (table : Table) (s : ℕ) (xs ys : List GrammarSymbol) (st : List ℕ) → Leads table s (xs ++ ys) st → SplitsStates table s xs ys st
split_states table s [] ys st leads = record { lower = []; upper = st; both = refl; lower_leads = tt; upper_leads = leads }
split_states table s (x ∷ xs) ys [] leads = absurd leads
split_states table s (x ∷ xs) ys (next ∷ st) leads =
    let h = split_states table next xs ys st leads.1 in
    record {
      lower = next ∷ h.lower;
      upper = h.upper;
      both = ap (λ (ss : List ℕ). next ∷ ss) h.both;
      lower_leads = (leads.0, h.lower_leads);
      upper_leads = h.upper_leads;
    }

-- the elements before the last n ones
before_last : {A : Type 0} (xs ys : List A) (n : ℕ) → length ys ≡ n → take (length (xs ++ ys) - n) (xs ++ ys) ≡ xs
before_last xs ys n many =
    let e : length (xs ++ ys) - n ≡ length xs = omega (arith, length-append xs ys) in rw e (take-append_seam xs ys)

-- the top of two lists of states
pub last_joined : (s : ℕ) (lower upper : List ℕ) → last_of s (lower ++ upper) ≡ last_of (last_of s lower) upper
last_joined s [] upper = refl
last_joined s (next ∷ lower) upper = last_joined next lower upper

-- how a reduction by n at token t cuts the symbols, and the states above the start state
pub record IsCut (g : Grammar) (table : Table) (t n : ℕ) (symbols : List GrammarSymbol) (above after : List ℕ) : Type 0 where
  pub below : List GrammarSymbol
  pub split : symbols ≡ below ++ symbols_of g n
  pub lower : List ℕ
  pub upper : List ℕ
  pub both : above ≡ lower ++ upper
  pub lower_leads : Leads table table.start below lower
  pub upper_leads : Leads table (last_of table.start lower) (symbols_of g n) upper
  pub action : action_of table (last_of (last_of table.start lower) upper) t ≡ ReduceBy n
  pub state : ℕ
  pub goto : goto_of table (last_of table.start lower) (rule_of g n) ≡ Some state
  pub pushed : after ≡ table.start ∷ lower ++ state ∷ []

module _ (g : Grammar) (table : Table) (never : NeverSticks g table) where
  pub cut : (t n : ℕ) (symbols : List GrammarSymbol) (above st after : List ℕ) → st ≡ table.start ∷ above → Leads table table.start symbols above
      → Reduces g table t st n after → IsCut g table t n symbols above after
  cut t n symbols above st after stack leads reduces =
      let start = table.start in
      let path : IsPath table symbols st = subst (IsPath table symbols) (sym stack) (refl, leads) in
      let along = never.reduces symbols st t n path reduces.action in
      let states = split_states table start along.below (symbols_of g n) above
      (subst (λ (ss : List GrammarSymbol). Leads table start ss above) along.split leads) in
      let left : left_by g n st ≡ start ∷ states.lower =
      ap (left_by g n) (stack ∙ ap (λ (ss : List ℕ). start ∷ ss) states.both)
      ∙ before_last (start ∷ states.lower) states.upper (prod_len g n)
      (as_many table (last_of start states.lower) (symbols_of g n) states.upper states.upper_leads) in
      let top : last_of start above ≡ last_of (last_of start states.lower) states.upper =
      ap (last_of start) states.both ∙ last_joined start states.lower states.upper in
      record {
        below = along.below;
        split = along.split;
        lower = states.lower;
        upper = states.upper;
        both = states.both;
        lower_leads = states.lower_leads;
        upper_leads = states.upper_leads;
        action = sym (ap (λ (s : ℕ). action_of table s t) top)
            ∙ action_at_last table start t above (ReduceBy n) (sym (ap (top_action table t) stack) ∙ reduces.action);
        state = reduces.state;
        goto = sym (goto_at_last table start (rule_of g n) states.lower) ∙ sym (ap (top_goto table (rule_of g n)) left) ∙ reduces.goto;
        pushed = reduces.pushed ∙ ap (λ (ss : List ℕ). ss ++ reduces.state ∷ []) left;
      }

  -- so the stack after it has a path
  pub cut_path : (t n : ℕ) (symbols : List GrammarSymbol) (above after : List ℕ) → IsCut g table t n symbols above after → HasPath table after
  cut_path t n symbols above after c =
      let x = Nonterminal (rule_of g n) in (
        c.below ++ x ∷ [],
        subst (IsPath table (c.below ++ x ∷ [])) (sym c.pushed) (refl, leads_more table table.start c.below c.lower x c.state c.lower_leads c.goto),
      )
