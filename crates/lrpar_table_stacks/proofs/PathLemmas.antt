-- Paths over a safe table. A path is followed from its bottom. The claim, by induction on the path's states: if its top has
-- the complete core of a production, either the production's symbols are the path's last ones, and the state below them has
-- the core with dot 0; or the path is too short for them, all its symbols are the production's last ones, and its bottom has
-- the core with the dot before them. With one more state at the bottom, the first case stays as it is; in the second, S4 moves
-- the dot back by the new symbol, and dot 0 leads to the first case. The start state's cores have dot 0 by S2, so a path that
-- begins with the start state is never too short.
use Rattle.std.proofs.Common.{◌≡◌, ◌≢◌, ◌<◌, ◌+◌, ◌-◌, ◌∙◌, ◌⊎◌, inl, inr, refl, sym, ap, subst, arith, add-one, ℕ, zero, suc, List, [], ◌∷◌, ◌++◌, length, take, drop, Option, Some, slice_get, length-append}
use Rattle.std.proofs.Math.Seq.{drop-length, take-append_seam}
use Rattle.std.proofs.lemmas.List.{drop_more}
use Rattle.std.proofs.lemmas.Option.{get_or_from_slice_get, slice_get_within}
use Rattle.std.specs.Option.{option_map_or, option_and_then}
use Rattle.lrpar_grammar.specs.Grammar.{Grammar, GrammarSymbol, Nonterminal, Terminal, IsWellFormed, end_token, start_prod, prod_len, rule_of, symbols_of}
use Rattle.lrpar_table_rows.specs.Graph.{Graph, HasCore}
use Rattle.lrpar_table_stacks.specs.Path.{Leads, IsPath, ReducesAlong, NeverSticks, CheckedRunsNeverStick}
use Rattle.lrpar_table_stacks.specs.Reduction.{top_action, top_goto, left_by}
use Rattle.lrpar_table_rows.specs.Safe.{GoesBy, IsSafe}
use Rattle.lrpar_table_stacks.specs.Stack.{top_of}
use Rattle.lrpar_table_rows.specs.Table.{Table, TableAction, ShiftTo, ReduceBy, Accepts, Fails, IsClosed, action_of, goto_of, states_len}
use Rattle.lrpar_table_rows.specs.declared.condition.SafetyCondition.TheVariants.{S2, S3, S4, S5, S6, S7, S8}

-- the top of the states of st over s
abbrev pub last_of : ℕ → List ℕ → ℕ
last_of s [] = s
last_of s (next ∷ st) = last_of next st

-- it is the stack's top
pub top_is_last : (s : ℕ) (st : List ℕ) → top_of (s ∷ st) ≡ Some (last_of s st)
top_is_last s [] = refl
top_is_last s (next ∷ st) = let e : length (s ∷ next ∷ st) - 1 ≡ suc (length (next ∷ st) - 1) = omega arith in rw e (top_is_last next st)

-- the action at the top
pub action_at_last : (table : Table) (s t : ℕ) (st : List ℕ) (action : TableAction) → top_action table t (s ∷ st) ≡ action
    → action_of table (last_of s st) t ≡ action
action_at_last table s t st action h =
    sym (ap (λ (top : Option ℕ). option_map_or (λ s. action_of table s t) top Fails) (top_is_last s st)) ∙ h

-- there are as many states as symbols
pub as_many : (table : Table) (s : ℕ) (symbols : List GrammarSymbol) (st : List ℕ) → Leads table s symbols st → length st ≡ length symbols
as_many table s [] [] leads = refl
as_many table s [] (next ∷ st) leads = absurd leads
as_many table s (x ∷ xs) [] leads = absurd leads
as_many table s (x ∷ xs) (next ∷ st) leads = ap suc (as_many table next xs st leads.1)

-- one more state at the top
pub leads_more : (table : Table) (s : ℕ) (symbols : List GrammarSymbol) (st : List ℕ) (x : GrammarSymbol) (next : ℕ)
    → Leads table s symbols st → GoesBy table (last_of s st) x next → Leads table s (symbols ++ x ∷ []) (st ++ next ∷ [])
leads_more table s [] [] x next leads goes = (goes, tt)
leads_more table s [] (above ∷ st) x next leads goes = absurd leads
leads_more table s (y ∷ ys) [] x next leads goes = absurd leads
leads_more table s (y ∷ ys) (above ∷ st) x next leads goes = (leads.0, leads_more table above ys st x next leads.1 goes)

-- the state to which a state goes is one of the table
pub goes_within : (table : Table) → IsClosed table → (s : ℕ) (x : GrammarSymbol) (next : ℕ) → GoesBy table s x next → next < states_len table
goes_within table closed s (Terminal t) next goes = closed.shifts_within s t next goes
goes_within table closed s (Nonterminal r) next goes = closed.gotos_within s r next goes

-- the top is one of the table
pub last_within : (table : Table) → IsClosed table → (s : ℕ) (symbols : List GrammarSymbol) (st : List ℕ) → s < states_len table
    → Leads table s symbols st → last_of s st < states_len table
last_within table closed s [] [] within leads = within
last_within table closed s [] (next ∷ st) within leads = absurd leads
last_within table closed s (x ∷ xs) [] within leads = absurd leads
last_within table closed s (x ∷ xs) (next ∷ st) within leads =
    last_within table closed next xs st (goes_within table closed s x next leads.0) leads.1

-- the goto at the top
pub goto_at_last : (table : Table) (s r : ℕ) (st : List ℕ) → top_goto table r (s ∷ st) ≡ goto_of table (last_of s st) r
goto_at_last table s r st = ap (λ (top : Option ℕ). option_and_then (λ s. goto_of table s r) top) (top_is_last s st)

-- the rest of a list, with one more element
one_before : {A : Type 0} (l : List A) (k : ℕ) (x : A) (xs : List A) → slice_get l k ≡ Some x → xs ≡ drop (k + 1) l → x ∷ xs ≡ drop k l
one_before l k x xs is rest =
    let more = drop_more l k x (slice_get_within l k x is) in
    let first = get_or_from_slice_get l k x x is in cc

-- the elements before the last n ones
before_last : {A : Type 0} (xs ys : List A) (n : ℕ) → length ys ≡ n → take (length (xs ++ ys) - n) (xs ++ ys) ≡ xs
before_last xs ys n many =
    let e : length (xs ++ ys) - n ≡ length xs = omega (arith, length-append xs ys) in rw e (take-append_seam xs ys)

-- the last symbols are those of production p, and the state below them has its core with dot 0
pub record EndsWith (g : Grammar) (graph : Graph) (table : Table) (s p : ℕ) (symbols : List GrammarSymbol) (st : List ℕ) : Type 0 where
  pub below : List GrammarSymbol
  pub split : symbols ≡ below ++ symbols_of g p
  pub lower : List ℕ
  pub upper : List ℕ
  pub states : st ≡ lower ++ upper
  pub many : length upper ≡ prod_len g p
  pub leads : Leads table s below lower
  pub core : HasCore graph (last_of s lower) p 0

-- the symbols are the last ones of production p, not all, and state s has its core with the dot before them
pub record IsEndOf (g : Grammar) (graph : Graph) (s p : ℕ) (symbols : List GrammarSymbol) : Type 0 where
  pub dot : ℕ
  pub rest : symbols ≡ drop (dot + 1) (symbols_of g p)
  pub core : HasCore graph s p (dot + 1)

-- the dot of s decides which case it is
by_dot : (g : Grammar) (graph : Graph) (table : Table) (s p k : ℕ) (symbols : List GrammarSymbol) (st : List ℕ) → Leads table s symbols st
    → HasCore graph s p k → symbols ≡ drop k (symbols_of g p) → EndsWith g graph table s p symbols st ⊎ IsEndOf g graph s p symbols
by_dot g graph table s p zero symbols st leads core rest =
    inl (record {
      below = [];
      split = rest;
      lower = [];
      upper = st;
      states = refl;
      many = as_many table s symbols st leads ∙ ap (λ (xs : List GrammarSymbol). length xs) rest;
      leads = tt;
      core = core;
    })
by_dot g graph table s p (suc k) symbols st leads core rest =
    inr (record { dot = k; rest = rw add-one rest; core = rw add-one core })

-- one more state at the bottom
one_below : (g : Grammar) (graph : Graph) (table : Table) (s p : ℕ) (x : GrammarSymbol) (next : ℕ) (symbols : List GrammarSymbol) (st : List ℕ)
    → GoesBy table s x next → EndsWith g graph table next p symbols st → EndsWith g graph table s p (x ∷ symbols) (next ∷ st)
one_below g graph table s p x next symbols st goes h =
    record {
      below = x ∷ h.below;
      split = ap (λ (xs : List GrammarSymbol). x ∷ xs) h.split;
      lower = next ∷ h.lower;
      upper = h.upper;
      states = ap (λ (ss : List ℕ). next ∷ ss) h.states;
      many = h.many;
      leads = (goes, h.leads);
      core = h.core;
    }

module _ (g : Grammar) (graph : Graph) (table : Table) (closed : IsClosed table) (safe : IsSafe g graph table) where
  -- the claim on paths
  ends : (s p : ℕ) (symbols : List GrammarSymbol) (st : List ℕ) → s < states_len table → Leads table s symbols st
      → HasCore graph (last_of s st) p (prod_len g p) → EndsWith g graph table s p symbols st ⊎ IsEndOf g graph s p symbols
  ends s p [] [] within leads core = by_dot g graph table s p (prod_len g p) [] [] leads core (sym (drop-length (symbols_of g p)))
  ends s p [] (next ∷ st) within leads core = absurd leads
  ends s p (x ∷ xs) [] within leads core = absurd leads
  ends s p (x ∷ xs) (next ∷ st) within leads core =
      elim (ends next p xs st (goes_within table closed s x next leads.0) leads.1 core)
      as (λ _. EndsWith g graph table s p (x ∷ xs) (next ∷ st) ⊎ IsEndOf g graph s p (x ∷ xs)) [
        | inl h ↦ inl (one_below g graph table s p x next xs st leads.0 h)
        | inr h ↦
            let from = safe.each S4 s within x next leads.0 p h.dot h.core in
            by_dot g graph table s p h.dot (x ∷ xs) (next ∷ st) leads from.1 (one_before (symbols_of g p) h.dot x xs from.0 h.rest)
      ]

  -- from the start state, a path whose top has the complete core of a production ends with its symbols
  complete : (p : ℕ) (symbols : List GrammarSymbol) (st : List ℕ) → Leads table table.start symbols st
      → HasCore graph (last_of table.start st) p (prod_len g p) → EndsWith g graph table table.start p symbols st
  complete p symbols st leads core =
      elim (ends table.start p symbols st closed.start_within leads core) as (λ _. EndsWith g graph table table.start p symbols st) [
        | inl h ↦ h
        | inr h ↦
            let fresh : h.dot + 1 ≡ 0 = safe.each S2 table.start closed.start_within refl p (h.dot + 1) h.core in
            absurd (omega (arith, fresh))
      ]

  -- the top of a path from the start state is a state of the table
  top_within : (symbols : List GrammarSymbol) (st : List ℕ) → Leads table table.start symbols st → last_of table.start st < states_len table
  top_within symbols st leads = last_within table closed table.start symbols st closed.start_within leads

  -- a path with a symbol doesn't lead to the start state
  leads_away : (s : ℕ) (x : GrammarSymbol) (next : ℕ) (xs : List GrammarSymbol) (st : List ℕ) → s < states_len table → GoesBy table s x next
      → Leads table next xs st → last_of next st ≢ table.start
  leads_away s x next [] [] within goes leads e =
      (safe.each S8 s within).never_back x (subst (λ (n : ℕ). GoesBy table s x n) e goes)
  leads_away s x next [] (above ∷ st) within goes leads e = leads
  leads_away s x next (y ∷ ys) [] within goes leads e = leads
  leads_away s x next (y ∷ ys) (above ∷ st) within goes leads e =
      leads_away next y above ys st (goes_within table closed s x next goes) leads.0 leads.1 e

  -- so a path that leads there has no symbol
  leads_nowhere : (symbols : List GrammarSymbol) (st : List ℕ) → Leads table table.start symbols st → last_of table.start st ≡ table.start
      → symbols ≡ []
  leads_nowhere [] st leads e = refl
  leads_nowhere (x ∷ xs) [] leads e = absurd leads
  leads_nowhere (x ∷ xs) (next ∷ st) leads e = absurd (leads_away table.start x next xs st closed.start_within leads.0 leads.1 e)

  -- a shift from the start state
  shifts_at : (symbols : List GrammarSymbol) (st : List ℕ) (t next : ℕ) → Leads table table.start symbols st
      → top_action table t (table.start ∷ st) ≡ ShiftTo next
      → (t ≢ end_token g) × IsPath table (symbols ++ Terminal t ∷ []) (table.start ∷ st ++ next ∷ [])
  shifts_at symbols st t next leads action =
      let here = action_at_last table table.start t st (ShiftTo next) action in
      let top = last_of table.start st in (
        λ e. safe.each S3 top (top_within symbols st leads) next (subst (λ (n : ℕ). action_of table top n ≡ ShiftTo next) e here),
        (refl, leads_more table table.start symbols st (Terminal t) next leads here),
      )

  -- a reduction
  reduces_at : (symbols : List GrammarSymbol) (st : List ℕ) (t p : ℕ) → Leads table table.start symbols st
      → top_action table t (table.start ∷ st) ≡ ReduceBy p → ReducesAlong g table symbols (table.start ∷ st) t p
  reduces_at symbols st t p leads action =
      let here = action_at_last table table.start t st (ReduceBy p) action in
      let core = safe.each S5 (last_of table.start st) (top_within symbols st leads) t p here in
      let h = complete p symbols st leads core.1 in
      let goto = safe.each S6 (last_of table.start h.lower) (top_within h.below h.lower h.leads) p h.core core.0 in
      let left : left_by g p (table.start ∷ st) ≡ table.start ∷ h.lower =
      ap (λ (ss : List ℕ). left_by g p (table.start ∷ ss)) h.states ∙ before_last (table.start ∷ h.lower) h.upper (prod_len g p) h.many in
      let parts : length st ≡ length h.lower + length h.upper = ap (λ (ss : List ℕ). length ss) h.states ∙ length-append h.lower h.upper in
      let many : length h.upper ≡ prod_len g p = h.many in
      record {
        listed = core.0;
        below = h.below;
        split = h.split;
        after = table.start ∷ h.lower ++ goto.0 ∷ [];
        reduces = record {
          action = action;
          known = safe.shape.reduces (last_of table.start st) t p here;
          deep = omega (arith, parts, many);
          state = goto.0;
          goto = ap (λ (ss : List ℕ). top_goto table (rule_of g p) ss) left ∙ goto_at_last table table.start (rule_of g p) h.lower ∙ goto.1;
          pushed = sym (ap (λ (ss : List ℕ). ss ++ goto.0 ∷ []) left);
        };
        path = (refl, leads_more table table.start h.below h.lower (Nonterminal (rule_of g p)) goto.0 h.leads goto.1);
      }

  -- an accept
  accepts_at : IsWellFormed g → (symbols : List GrammarSymbol) (st : List ℕ) (t : ℕ) → Leads table table.start symbols st
      → top_action table t (table.start ∷ st) ≡ Accepts → (t ≡ end_token g) × (symbols ≡ Nonterminal g.start ∷ [])
  accepts_at formed symbols st t leads action =
      let here = action_at_last table table.start t st Accepts action in
      let end = safe.each S7 (last_of table.start st) (top_within symbols st leads) t here in
      let one : 1 ≡ prod_len g (start_prod g) = sym (ap (λ (xs : List GrammarSymbol). length xs) formed.last_symbols) in
      let h = complete (start_prod g) symbols st leads (subst (λ (n : ℕ). HasCore graph (last_of table.start st) (start_prod g) n) one end.1) in
      let bottom = (safe.each S8 (last_of table.start h.lower) (top_within h.below h.lower h.leads)).first_core h.core in
      let none : h.below ≡ [] = leads_nowhere h.below h.lower h.leads bottom in
      (end.0, h.split ∙ ap (λ (xs : List GrammarSymbol). xs ++ symbols_of g (start_prod g)) none ∙ formed.last_symbols)

  -- the same of each path, whose bottom is the start state
  shifts_along : (symbols : List GrammarSymbol) (st : List ℕ) (t next : ℕ) → IsPath table symbols st → top_action table t st ≡ ShiftTo next
      → (t ≢ end_token g) × IsPath table (symbols ++ Terminal t ∷ []) (st ++ next ∷ [])
  shifts_along symbols [] t next path action = absurd path
  shifts_along symbols (s ∷ st) t next path action =
      let P : ℕ → Type 0 = λ b. (t ≢ end_token g) × IsPath table (symbols ++ Terminal t ∷ []) (b ∷ st ++ next ∷ []) in
      subst P (sym path.0) (shifts_at symbols st t next (subst (λ (b : ℕ). Leads table b symbols st) path.0 path.1)
      (subst (λ (b : ℕ). top_action table t (b ∷ st) ≡ ShiftTo next) path.0 action))

  reduces_along : (symbols : List GrammarSymbol) (st : List ℕ) (t p : ℕ) → IsPath table symbols st → top_action table t st ≡ ReduceBy p
      → ReducesAlong g table symbols st t p
  reduces_along symbols [] t p path action = absurd path
  reduces_along symbols (s ∷ st) t p path action =
      let P : ℕ → Type 0 = λ b. ReducesAlong g table symbols (b ∷ st) t p in
      subst P (sym path.0) (reduces_at symbols st t p (subst (λ (b : ℕ). Leads table b symbols st) path.0 path.1)
      (subst (λ (b : ℕ). top_action table t (b ∷ st) ≡ ReduceBy p) path.0 action))

  accepts_along : IsWellFormed g → (symbols : List GrammarSymbol) (st : List ℕ) (t : ℕ) → IsPath table symbols st
      → top_action table t st ≡ Accepts → (t ≡ end_token g) × (symbols ≡ Nonterminal g.start ∷ [])
  accepts_along formed symbols [] t path action = absurd path
  accepts_along formed symbols (s ∷ st) t path action =
      accepts_at formed symbols st t (subst (λ (b : ℕ). Leads table b symbols st) path.0 path.1)
      (subst (λ (b : ℕ). top_action table t (b ∷ st) ≡ Accepts) path.0 action)

  pub never_sticks : IsWellFormed g → NeverSticks g table
  never_sticks formed = record {
    shifts = shifts_along;
    reduces = reduces_along;
    accepts = accepts_along formed;
  }

pub checked_runs_never_stick : CheckedRunsNeverStick
checked_runs_never_stick g graph table formed closed safe = never_sticks g graph table closed safe formed
