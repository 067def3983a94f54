-- How far a run goes from a place: lexeme by lexeme, until it accepts or has an error point.
use Rattle.std.proofs.Common.{◌≡◌, ◌<◌, ◌≤◌, ◌+◌, ◌-◌, ◌∙◌, ℕ, List, [], ◌∷◌, ◌++◌, None, Some, drop, get_or, length, take, ap, arith, subst, sym}
use Rattle.std.proofs.lemmas.List.{get_or-drop, length-append, length-drop, take_all, take_more}
use Rattle.std.proofs.lemmas.Option.{get_or_from_slice_get, slice_get_within}
use Rattle.std.specs.List.{slice_get}
use Rattle.lrpar_grammar.specs.Grammar.{end_token}
use Rattle.lrpar_grammar.specs.Sentence.{LexemeFacts}
use Rattle.lrpar_table_rows.specs.Table.{Accepts, Fails}
use Rattle.lrpar_table_check.specs.Checked.{Checked}
use Rattle.lrpar_table_stacks.specs.Reduction.{top_action}
use Rattle.lrpar_parse_run.specs.Building.{Building}
use Rattle.lrpar_parse_run.specs.Moves.{GoesFar, Moves, and_settles, and_shifts, rests}
use Rattle.lrpar_parse_run.specs.RepairRun.{fed_between}
use Rattle.lrpar_table_stacks.specs.Run.{Comes, stays}
use Rattle.lrpar_parse_run.specs.Stacked.{SettlesTo, Shifts, Sticks}
use Rattle.lrpar_parse_run.specs.RunStack.{Stacked}
use Rattle.lrpar_parse_run.proofs.StackedLemmas.{states_settle}
use Rattle.lrpar_table_stacks.proofs.RunLemmas.{comes_by, comes_to_accept, comes_to_end, comes_to_stop}

-- no lexeme is fed between a place and itself
fed_none : {X : Type 0} (lexemes : List X) (i : ℕ) → fed_between lexemes i i ≡ []
fed_none lexemes i = let zero : i - i ≡ 0 = omega arith in ap (λ n. take n (drop i lexemes)) zero

-- one lexeme more
fed_more : {X : Type 0} (lexemes : List X) (i j : ℕ) (x : X) → i ≤ j → slice_get lexemes j ≡ Some x → fed_between lexemes i (j + 1) ≡ fed_between lexemes i j ++ x ∷ []
fed_more {X} lexemes i j x le is =
    let below : j < length lexemes = slice_get_within lexemes j x is in
    let count : length (drop i lexemes) ≡ length lexemes - i = length-drop i lexemes in
    let within : j - i < length (drop i lexemes) = omega (arith, below, count, le) in
    let on : j + 1 - i ≡ (j - i) + 1 = omega (arith, le) in
    let at : i + (j - i) ≡ j = omega (arith, le) in
    let same : get_or (drop i lexemes) (j - i) x ≡ x = get_or-drop i lexemes (j - i) x ∙ (ap (λ n. get_or lexemes n x) at ∙ get_or_from_slice_get lexemes j x x is) in
    ap (λ n. take n (drop i lexemes)) on ∙ (take_more (drop i lexemes) (j - i) x within ∙ ap (λ (y : X). take (j - i) (drop i lexemes) ++ y ∷ []) same)

-- all that are left
fed_all : {X : Type 0} (lexemes : List X) (i j : ℕ) → j ≡ length lexemes → fed_between lexemes i j ≡ drop i lexemes
fed_all lexemes i j is =
    let count : length (drop i lexemes) ≡ length lexemes - i = length-drop i lexemes in
    take_all (j - i) (drop i lexemes) (omega (arith, is, count))

module _ {X E : Type 0} (facts : X → LexemeFacts) (builds : Building X E) (d : Checked) (lexemes : List X) where
  -- the token of a lexeme
  abbrev token : X → ℕ
  token x = (facts x).token

  abbrev Moved : Stacked E → List X → List ℕ → ℕ → Stacked E → Type 0
  Moved old xs ps n new = Moves facts builds d old xs ps n new

  -- from the old stacks at place i the run has come to place j
  pub record HasCome (old : Stacked E) (i : ℕ) (stack : Stacked E) (j : ℕ) : Type 0 where
    pub prods : List ℕ
    pub comes : Comes token d.grammar d.table lexemes old.states i prods stack.states j
    pub moves : Moved old (fed_between lexemes i j) prods (length (fed_between lexemes i j)) stack

  -- at first it is at its place
  pub come_none : (stack : Stacked E) (i : ℕ) → HasCome stack i stack i
  come_none stack i = record {
    prods = [];
    comes = stays stack.states i;
    moves = subst (λ (w : List X). Moved stack w [] (length w) stack) (sym (fed_none lexemes i)) rests;
  }

  module _ (old : Stacked E) (i : ℕ) (stack : Stacked E) (j : ℕ) (come : HasCome old i stack j) where
    -- a lexeme is shifted
    pub come_more : (new : Stacked E) (x : X) → i ≤ j → slice_get lexemes j ≡ Some x → Shifts builds d (token x) x stack new → HasCome old i new (j + 1)
    come_more new x le is by =
        let qs = by.settles.prods in
        let fed = fed_between lexemes i j in
        let count : length fed + 1 ≡ length (fed ++ x ∷ []) = sym (length-append fed (x ∷ [])) in
        record {
          prods = come.prods ++ qs;
          comes = subst (λ (w : List ℕ). Comes token d.grammar d.table lexemes old.states i (come.prods ++ qs) w (j + 1)) (sym by.of_states)
              (comes_by token d.grammar d.table lexemes old.states i come.prods stack.states j x qs by.mid.states by.next come.comes is
              (states_settle builds d (token x) stack by.mid by.settles) by.shifts);
          moves = subst (λ (w : List X). Moved old w (come.prods ++ qs) (length w) new) (sym (fed_more lexemes i j x le is))
              (subst (λ (n : ℕ). Moved old (fed ++ x ∷ []) (come.prods ++ qs) n new) count
              (and_shifts fed come.prods (length fed) stack x new come.moves by));
        }

    -- it stops at a lexeme
    pub come_to_stop : (new : Stacked E) (x : X) → slice_get lexemes j ≡ Some x → Sticks builds d (token x) stack new
        → GoesFar facts builds d lexemes old i (Some j) new
    come_to_stop new x is by =
        let fed = fed_between lexemes i j in
        record {
          prods = come.prods ++ by.settles.prods;
          far = comes_to_stop token d.grammar d.table lexemes old.states i come.prods stack.states j x by.settles.prods new.states come.comes is
              (states_settle builds d (token x) stack new by.settles) by.fails;
          moves = and_settles fed come.prods (length fed) stack (token x) new come.moves by.settles;
          accepts = λ none. absurd (let no : ⊥ = cc in no);
        }

    -- it stops at the end
    pub come_to_last : (new : Stacked E) → j ≡ length lexemes → SettlesTo builds d (end_token d.grammar) stack new
        → top_action d.table (end_token d.grammar) new.states ≡ Fails → GoesFar facts builds d lexemes old i (Some j) new
    come_to_last new last settles fails =
        let fed = fed_between lexemes i j in
        record {
          prods = come.prods ++ settles.prods;
          far = comes_to_end token d.grammar d.table lexemes old.states i come.prods stack.states j settles.prods new.states come.comes last
              (states_settle builds d (end_token d.grammar) stack new settles) fails;
          moves = and_settles fed come.prods (length fed) stack (end_token d.grammar) new come.moves settles;
          accepts = λ none. absurd (let no : ⊥ = cc in no);
        }

    -- it accepts
    pub come_to_accept : (new : Stacked E) → j ≡ length lexemes → SettlesTo builds d (end_token d.grammar) stack new
        → top_action d.table (end_token d.grammar) new.states ≡ Accepts → GoesFar facts builds d lexemes old i None new
    come_to_accept new last settles accepts =
        let fed = fed_between lexemes i j in
        record {
          prods = come.prods ++ settles.prods;
          far = comes_to_accept token d.grammar d.table lexemes old.states i come.prods stack.states j settles.prods new.states come.comes last
              (states_settle builds d (end_token d.grammar) stack new settles) accepts;
          moves = subst (λ (w : List X). Moved old w (come.prods ++ settles.prods) (length w + 1) new) (fed_all lexemes i j last)
              (and_settles fed come.prods (length fed) stack (end_token d.grammar) new come.moves settles);
          accepts = λ _. accepts;
        }
