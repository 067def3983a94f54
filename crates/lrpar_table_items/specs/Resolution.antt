-- The actions that an item set calls for at each token, its conflicts, and their resolution, as in Aho and Ullman, 'The Theory of
-- Parsing, Translation, and Compiling'. An item set is its cores, each with its lookaheads, and its shifts: tokens, each with the
-- next state.
use Rattle.std.specs.Prelude.{◌≡◌, ◌≢◌, ◌<◌, ◌≤◌, ◌==◌, ◌&&◌, ℕ, Bool, true, false, IsTrue, List, [], ◌∷◌, Option, Some, None, count_by, filter, map, nat_eq, ◌+◌}
use Rattle.std.specs.List.{filter_map, flat_map, list_any, range_with_len}
use Rattle.std.specs.Map.{lookup}
use Rattle.std.specs.Option.{is_none, option_map}
use Rattle.lrpar_grammar_places.specs.declared.span.TIdx.{TIdx}
use Rattle.lrpar_grammar_places.specs.declared.span.StIdx.{StIdx}
use Rattle.lrpar_grammar.specs.Grammar.{Grammar, prod_len, start_prod, tokens_len}
use Rattle.lrpar_table_precedence.specs.Precedence.{PrecedenceLists, resolution_of}
use Rattle.lrpar_table_precedence.specs.declared.precedence.Resolution.{Resolution}
use Rattle.lrpar_table_precedence.specs.declared.precedence.Resolution.TheVariants.{Shift, Reduce, Error}
use Rattle.lrpar_table_rows.specs.Table.{ReduceReduce, ResolvedOf, ShiftReduce, TableAction, ShiftTo, ReduceBy, Accepts, Fails}
use Rattle.lrpar_table_items.specs.Cores.{CoreSet}
use Rattle.lrpar_grammar.specs.Tokens.{has}
use Rattle.lrpar_table_items.specs.declared.fault.BuildFault.{BuildFault}
use Rattle.lrpar_table_items.specs.declared.fault.BuildFault.TheVariants.{AcceptReduceConflict, Memory, StorageTooSmall, TooManyStates}

-- a token with the next state
abbrev pub shift_entry : {S : Type 0} → (S → ℕ) → TIdx S × StIdx S → ℕ × ℕ
shift_entry index entry = (index entry.0.0, index entry.1.0)

-- the core is complete and of production p: the dot is after all symbols
abbrev pub is_complete : Grammar → ℕ → CoreSet → Bool
is_complete g p core = (core.prod == p) && (core.dot == prod_len g p)

-- the cores have a complete item `A: v .  {t}` of production p
abbrev pub is_complete_at : Grammar → List CoreSet → ℕ → ℕ → Bool
is_complete_at g cores t p = list_any (λ core. is_complete g p core && has core.tokens t) cores

-- R(t), the reductions before conflict resolution: the productions with a complete item at token t, ascending, without the start
-- production
abbrev pub reductions : Grammar → List CoreSet → ℕ → List ℕ
reductions g cores t = filter (is_complete_at g cores t) (range_with_len 0 (start_prod g))

-- a shift and the reduction by p: what precedences decide, if they decide anything; otherwise the shift wins
abbrev pub chosen : Option Resolution → ℕ → ℕ → TableAction
chosen None next p = ShiftTo next
chosen (Some Shift) next p = ShiftTo next
chosen (Some Reduce) next p = ReduceBy p
chosen (Some Error) next p = Fails

-- conflict resolution, where `by` says what precedences decide for a production against the token: a shift and the reduction by the
-- least production, as chosen; otherwise the shift, then that reduction, then accept
abbrev pub resolved : (ℕ → Option Resolution) → Option ℕ → List ℕ → Bool → TableAction
resolved by (Some next) [] accepts = ShiftTo next
resolved by (Some next) (p ∷ later) accepts = chosen (by p) next p
resolved by None (p ∷ later) accepts = ReduceBy p
resolved by None [] true = Accepts
resolved by None [] false = Fails

-- what the precedences decide at token t
abbrev pub decides_at : PrecedenceLists → ℕ → ℕ → Option Resolution
decides_at lists t p = resolution_of lists p t

-- the action at token t, after conflict resolution
abbrev pub resolved_at : PrecedenceLists → Grammar → List CoreSet → List (ℕ × ℕ) → ℕ → TableAction
resolved_at lists g cores shifts t =
    resolved (decides_at lists t) (lookup (nat_eq t) shifts) (reductions g cores t) (is_complete_at g cores t (start_prod g))

-- the action with its token, unless it is an error
abbrev pub entry_at : ℕ → TableAction → List (ℕ × TableAction)
entry_at t (ShiftTo next) = (t, ShiftTo next) ∷ []
entry_at t (ReduceBy p) = (t, ReduceBy p) ∷ []
entry_at t Accepts = (t, Accepts) ∷ []
entry_at t Fails = []

-- the actions at each token, after conflict resolution, tokens ascending, without the errors
abbrev pub resolved_row : PrecedenceLists → Grammar → List CoreSet → List (ℕ × ℕ) → List (ℕ × TableAction)
resolved_row lists g cores shifts = flat_map (λ t. entry_at t (resolved_at lists g cores shifts t)) (range_with_len 0 (tokens_len g))

-- the reduce/reduce conflicts at token t in state s: the first reduction with each later one
abbrev pub reduce_conflicts_at : ℕ → ℕ → List ℕ → List ReduceReduce
reduce_conflicts_at s t [] = []
reduce_conflicts_at s t (p ∷ later) = map (λ q. record { token = t; first = p; second = q; state = s }) later

-- the reduce/reduce conflicts in state s, tokens ascending
abbrev pub reduce_conflicts : Grammar → List CoreSet → ℕ → List ReduceReduce
reduce_conflicts g cores s = flat_map (λ t. reduce_conflicts_at s t (reductions g cores t)) (range_with_len 0 (tokens_len g))

-- the shift/reduce conflict at token t in state s, before it is resolved: the shift with the first reduction
abbrev pub shift_conflicts_at : ℕ → ℕ → Option ℕ → List ℕ → List ShiftReduce
shift_conflicts_at s t None prods = []
shift_conflicts_at s t (Some next) [] = []
shift_conflicts_at s t (Some next) (p ∷ later) = record { token = t; prod = p; state = s } ∷ []

-- the shift/reduce conflicts in state s, before they are resolved, tokens ascending
abbrev pub shift_conflicts : Grammar → List CoreSet → List (ℕ × ℕ) → ℕ → List ShiftReduce
shift_conflicts g cores shifts s =
    flat_map (λ t. shift_conflicts_at s t (lookup (nat_eq t) shifts) (reductions g cores t)) (range_with_len 0 (tokens_len g))

-- the conflicts that precedences don't resolve
abbrev pub unresolved : PrecedenceLists → List ShiftReduce → List ShiftReduce
unresolved lists conflicts = filter (λ (x : ShiftReduce). is_none (resolution_of lists x.prod x.token)) conflicts

-- a conflict, with how it is resolved, if it is
abbrev pub resolution_with : PrecedenceLists → ShiftReduce → Option ResolvedOf
resolution_with lists x = option_map (λ by. record { conflict = x; by = by }) (resolution_of lists x.prod x.token)

-- the conflicts that precedences resolve, and how
abbrev pub resolutions : PrecedenceLists → List ShiftReduce → List ResolvedOf
resolutions lists conflicts = filter_map (resolution_with lists) conflicts

-- an accept/reduce conflict: items call for accept and for a reduction, and for no shift
pub record AcceptsBeside (shift : Option ℕ) (prods : List ℕ) (accepts : Bool) : Type 0 where
  pub no_shift : shift ≡ None
  pub some : prods ≢ []
  pub accept : IsTrue accepts

-- the item set has an accept/reduce conflict at token t
abbrev pub IsAcceptReduce : Grammar → List CoreSet → List (ℕ × ℕ) → ℕ → Type 0
IsAcceptReduce g cores shifts t = AcceptsBeside (lookup (nat_eq t) shifts) (reductions g cores t) (is_complete_at g cores t (start_prod g))

-- the item set has an accept/reduce conflict at some token
abbrev pub HasAcceptReduce : Grammar → List CoreSet → List (ℕ × ℕ) → Type 0
HasAcceptReduce g cores shifts = (t : ℕ) × (t < tokens_len g) × IsAcceptReduce g cores shifts t

-- a fault at state s: there is this reason to refuse the state, or an allocation failed
abbrev pub IsRefusal : ℕ → Type 0 → BuildFault → Type 0
IsRefusal s reason (AcceptReduceConflict n) = (n ≡ s) × reason
IsRefusal s reason Memory = Unit {0}
IsRefusal s reason TooManyStates = ⊥
IsRefusal s reason StorageTooSmall = ⊥

-- each core is there at most once
abbrev pub AreOnce : List CoreSet → Type 0
AreOnce cores = (p k : ℕ) → count_by (λ core. (core.prod == p) && (core.dot == k)) cores ≤ 1

-- the numbers ascend, and are at least n
abbrev pub AscendFrom : ℕ → List ℕ → Type 0
AscendFrom n [] = Unit {0}
AscendFrom n (k ∷ ks) = (n ≤ k) × AscendFrom (k + 1) ks
