-- A reduction that is due can be made on the stacks of a run, and leaves stacks of a run, with their entries in order.
use Rattle.std.proofs.Common.{◌≡◌, ◌+◌, ◌-◌, ◌∙◌, ℕ, List, [], ◌∷◌, ◌++◌, length, take, drop, ap, arith, refl, subst, sym}
use Rattle.std.specs.List.{AllZip}
use Rattle.std.proofs.lemmas.List.{length-append, take-append-drop}
use Rattle.std.proofs.lemmas.Slice.Zip.{AllZip-long}
use Rattle.lrpar_grammar.specs.Grammar.{Grammar, GrammarSymbol, Nonterminal, prod_len, rule_of, symbols_of}
use Rattle.lrpar_table_rows.specs.Table.{Table}
use Rattle.lrpar_table_stacks.specs.Path.{IsPath, ReducesAlong}
use Rattle.lrpar_table_stacks.specs.Reduction.{Reduces}
use Rattle.lrpar_table_stacks.proofs.Reductions.{reduces_to_one}
use Rattle.lrpar_parse_run.specs.Building.{Building}
use Rattle.lrpar_parse_run.specs.Reducing.{Builds, Built, CanBuild, SuitsRun}
use Rattle.lrpar_parse_run.specs.Rising.{KeepsRising}
use Rattle.lrpar_parse_run.specs.RunStack.{IsRunStack, Stacked, kept_by, popped_by}
use Rattle.lrpar_parse_run.specs.ZipLaws.{zip_drop, zip_push, zip_take}

-- What holds for the stacks before a reduction by p at token t.
module _ {E : Type 0} (suits : GrammarSymbol → E → Type 0) (g : Grammar) (table : Table) (stack : Stacked E) (run_stack : IsRunStack suits table stack) (t p : ℕ) (along : ReducesAlong g table run_stack.symbols stack.states t p) where
  -- there is an entry for each symbol
  entries_are : length stack.entries ≡ length along.below + prod_len g p
  entries_are = AllZip-long suits run_stack.symbols stack.entries run_stack.suit ∙ ap length along.split ∙ length-append along.below (symbols_of g p)

  suit_split : AllZip suits (along.below ++ symbols_of g p) stack.entries
  suit_split = subst (λ (symbols : List GrammarSymbol). AllZip suits symbols stack.entries) along.split run_stack.suit

  below_are : length along.below ≡ length stack.entries - prod_len g p
  below_are = omega (arith, entries_are)

  -- the entries that stay suit the symbols below the production's
  kept_suit : AllZip suits along.below (kept_by g p stack.entries)
  kept_suit = subst (λ (n : ℕ). AllZip suits along.below (take n stack.entries)) below_are (zip_take suits along.below (symbols_of g p) stack.entries suit_split)

  -- the entries that are popped suit the production's symbols
  popped_suit : AllZip suits (symbols_of g p) (popped_by g p stack.entries)
  popped_suit = subst (λ (n : ℕ). AllZip suits (symbols_of g p) (drop n stack.entries)) below_are (zip_drop suits along.below (symbols_of g p) stack.entries suit_split)

module _ {B X E : Type 0} (builds : B → Building X E) (g : Grammar) (table : Table) (t : ℕ) where
  -- a reduction that is due can be built
  pub due_can_build : (s : Built B E) (p : ℕ) (after : List ℕ) → SuitsRun builds g table s → Reduces g table t s.stack.states p after
      → CanBuild builds s p (rule_of g p) (prod_len g p)
  due_can_build s p after is due =
      let along = is.runs.reduces is.run_stack.symbols s.stack.states t p is.run_stack.path due.action in
      let len = entries_are (builds s.build).suits g table s.stack is.run_stack t p along in
      let known = along.reduces.known in
      let differ = along.listed in
      let same = is.grammar in
      record {
        rule = rw same refl;
        of_top = record {
          can = rw same is.can;
          listed = rw same (omega (arith, known, differ));
          count = rw same refl;
          deep = omega (arith, len);
          suit = rw same (popped_suit (builds s.build).suits g table s.stack is.run_stack t p along);
          rises = is.rising;
        };
      }

  module _ (start : X → ℕ) (keeps : (b : B) (h : Grammar) → KeepsRising start (builds b).leaf ((builds b).node h) (builds b).rises) where
    -- a reduction leaves stacks of a run, with their entries in order
    pub builds_suit : (old : Built B E) (p : ℕ) (new : Built B E) → SuitsRun builds g table old
        → Reduces g table t old.stack.states p new.stack.states → Builds builds old p (rule_of g p) (prod_len g p) new → SuitsRun builds g table new
    builds_suit old p new is of_states by =
        let along = is.runs.reduces is.run_stack.symbols old.stack.states t p is.run_stack.path of_states.action in
        let Suits : GrammarSymbol → E → Type 0 = (builds old.build).suits in
        let kept = kept_by g p old.stack.entries in
        let popped = popped_by g p old.stack.entries in
        let symbols : List GrammarSymbol = along.below ++ Nonterminal (rule_of g p) ∷ [] in
        let made = by.of_entries in
        let pushed : AllZip Suits symbols (kept ++ made.entry ∷ []) =
        zip_push Suits along.below kept (Nonterminal (rule_of g p)) made.entry (kept_suit Suits g table old.stack is.run_stack t p along) made.suit in
        let reduced : along.after ≡ new.stack.states =
        reduces_to_one g table t old.stack.states p p along.after new.stack.states along.reduces of_states in
        let n = is.rising.0 in
        let whole : kept ++ popped ≡ old.stack.entries = take-append-drop (length old.stack.entries - prod_len g p) old.stack.entries in
        let risen : (builds old.build).rises (kept ++ made.entry ∷ []) n =
        (keeps old.build old.grammar).by_node kept popped n p made.entry (subst (λ (es : List E). (builds old.build).rises es n) (sym whole) is.rising.1) made.made in
        let same = by.same in
        record {
          grammar = same.grammar ∙ is.grammar;
          can = subst (λ (b : B). (builds b).can_build g) (sym same.build) is.can;
          runs = is.runs;
          run_stack = subst (λ (b : B). IsRunStack (builds b).suits table new.stack) (sym same.build)
              (record { symbols = symbols; path = subst (IsPath table symbols) reduced along.path; suit = subst (AllZip Suits symbols) (sym made.of_entries) pushed });
          rising = subst (λ (b : B). (from : ℕ) × (builds b).rises new.stack.entries from) (sym same.build)
              (n, subst (λ (es : List E). (builds old.build).rises es n) (sym made.of_entries) risen);
        }
