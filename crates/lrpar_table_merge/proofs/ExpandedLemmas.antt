-- A state whose item set is made: its kernel, the kernels to which it goes, as the code lends them, and why they can't be passed on.
use Rattle.std.proofs.Common.{Global, Vec, Result, IfErr, IsErrAnd, ◌≡◌, ◌<◌, sym, ap, subst, arith, ℕ, List, [], Option, get_or, length, map}
use Rattle.lrpar_grammar.specs.Grammar.{Grammar, GrammarSymbol, Nonterminal, Terminal}
use Rattle.lrpar_table_rows.specs.Graph.{ItemOf}
use Rattle.lrpar_table_items.specs.Canonical.{AreSame}
use Rattle.lrpar_table_items.specs.CoreOrder.{IsKernel}
use Rattle.lrpar_table_items.specs.Cores.{CoreSet, IsAmong, core_set}
use Rattle.lrpar_table_items.specs.ItemSets.{IsInClosure}
use Rattle.lrpar_table_items.specs.Next.{AreNext, kernel_rows}
use Rattle.lrpar_table_items.specs.Working.{AreSuccessors}
use Rattle.lrpar_table_items.specs.declared.cores.CoreItems.{CoreItems}
use Rattle.lrpar_table_items.specs.declared.successors.Successors.{Successors}
use Rattle.lrpar_table_merge.specs.Expansions.{IsExpanded}
use Rattle.lrpar_table_merge.specs.Held.{next_of, transitions_at}
use Rattle.lrpar_table_merge.specs.MergedStates.{all_transitions}
use Rattle.lrpar_table_merge.specs.Misfits.{HasMisfitIn}
use Rattle.lrpar_table_merge.specs.PassedOn.{AreBeginnings}
use Rattle.lrpar_table_merge.specs.Passing.{IsStuckFaultAt}
use Rattle.lrpar_table_merge.specs.Propagated.{AreAlike, AreNoneOrKernels, step_at}
use Rattle.lrpar_table_merge.specs.declared.held.HeldFault.{HeldFault}
use Rattle.lrpar_table_merge.specs.declared.held.Transitions.{Transitions}
use Rattle.lrpar_table_merge.proofs.FromLemmas.{none_or_kernels}
use Rattle.lrpar_table_merge.proofs.MisfitLemmas.{fault_is, stuck_from}
use Rattle.lrpar_table_merge.proofs.PassLemmas.{rows_len}
use Rattle.lrpar_table_merge.proofs.PropagateLemmas.{own_at}

-- the kernels that are lent are those of the gotos by rules, or by tokens
pub rules_lent : {S : Type 0} (index : S → ℕ) (g : Grammar) (successors : Successors S) (lent : List (Vec (CoreItems S) Global))
    → lent ≡ successors.rules.items → AreSuccessors index g successors
    → AreNext g (map (core_set index) successors.items.items) Nonterminal (kernel_rows index lent)
rules_lent index g successors lent value are =
    subst (λ rows. AreNext g (map (core_set index) successors.items.items) Nonterminal (kernel_rows index rows)) (sym value) are.rules

pub tokens_lent : {S : Type 0} (index : S → ℕ) (g : Grammar) (successors : Successors S) (lent : List (Vec (CoreItems S) Global))
    → lent ≡ successors.tokens.items → AreSuccessors index g successors
    → AreNext g (map (core_set index) successors.items.items) Terminal (kernel_rows index lent)
tokens_lent index g successors lent value are =
    subst (λ rows. AreNext g (map (core_set index) successors.items.items) Terminal (kernel_rows index rows)) (sym value) are.tokens

-- each of them is a kernel, if it has any core
pub kernels_lent : {S : Type 0} (index : S → ℕ) (g : Grammar) (kernel : List CoreSet) (successors : Successors S)
    → IsExpanded index g kernel successors → (symbol : ℕ → GrammarSymbol) (lent : List (Vec (CoreItems S) Global))
    → AreNext g (map (core_set index) successors.items.items) symbol (kernel_rows index lent) → AreNoneOrKernels g (kernel_rows index lent)
kernels_lent index g kernel successors expanded symbol lent next =
    none_or_kernels g kernel (map (core_set index) successors.items.items) expanded.items expanded.cores symbol (kernel_rows index lent) next

-- the cores of a state that has an item are a kernel
pub filled_kernel : {S A : Type 0} (index : S → ℕ) (g : Grammar) (state : ℕ) (kernels : List (Vec (CoreItems S) A)) (own : List (CoreItems S))
    (d : Vec (CoreItems S) A) → state < length kernels → own ≡ (get_or kernels state d).items → AreBeginnings g (kernel_rows index kernels)
    → (x : ItemOf) × IsAmong (map (core_set index) own) x → IsKernel g (map (core_set index) own)
filled_kernel index g state kernels own d low value filled some =
    let at = own_at index kernels state d own low value in
    let count = rows_len index kernels in
    let within : state < length (kernel_rows index kernels) = omega (arith, count, low) in
    subst (IsKernel g) at ((filled state [] within).filled some.0 (subst (λ cores. IsAmong cores some.0) (sym at) some.1))

-- if one of the kernels to which a state goes can't be passed on, the state is stuck
module _ {S A T : Type 0} (index : S → ℕ) (g : Grammar) (transitions : List Transitions) (state : ℕ) (kernels : List (Vec (CoreItems S) A))
    (own : List (CoreItems S)) (d : Vec (CoreItems S) A) (low : state < length kernels) (read : own ≡ (get_or kernels state d).items)
    (filled : AreBeginnings g (kernel_rows index kernels)) (some : (x : ItemOf) × IsAmong (map (core_set index) own) x) (successors : Successors S)
    (expanded : IsExpanded index g (map (core_set index) own) successors) (lent : List (Vec (CoreItems S) Global)) (r : Result T HeldFault)
    (fault : HeldFault) (is : IsErrAnd r (λ other. other ≡ fault)) (now : List (List CoreSet)) (alike : AreAlike (kernel_rows index kernels) now)
    (row : List (Option ℕ)) (found : HasMisfitIn now row (kernel_rows index lent)) where
  stuck_by : (symbol : ℕ → GrammarSymbol) → AreNext g (map (core_set index) successors.items.items) symbol (kernel_rows index lent)
      → ((i : ℕ) → step_at row i ≡ next_of (transitions_at (all_transitions transitions) state) (symbol i))
      → IfErr r (IsStuckFaultAt index g transitions kernels state)
  stuck_by symbol next steps =
      let cores = map (core_set index) successors.items.items in
      let at = own_at index kernels state d own low read in
      fault_is r (IsStuckFaultAt index g transitions kernels state) fault is
      (λ misfit.
      stuck_from g (all_transitions transitions) state (kernel_rows index kernels) now cores
      (subst (λ items. AreSame (IsAmong cores) (IsInClosure g (IsAmong items))) (sym at) expanded.items) expanded.cores symbol (kernel_rows index lent) next
      row steps (subst (IsKernel g) (sym at) (filled_kernel index g state kernels own d low read filled some)) alike found)

  pub stuck_by_rules : lent ≡ successors.rules.items → row ≡ (transitions_at (all_transitions transitions) state).rules
      → IfErr r (IsStuckFaultAt index g transitions kernels state)
  stuck_by_rules value steps = stuck_by Nonterminal (rules_lent index g successors lent value expanded.next) (λ i. ap (λ xs. step_at xs i) steps)

  pub stuck_by_tokens : lent ≡ successors.tokens.items → row ≡ (transitions_at (all_transitions transitions) state).tokens
      → IfErr r (IsStuckFaultAt index g transitions kernels state)
  stuck_by_tokens value steps = stuck_by Terminal (tokens_lent index g successors lent value expanded.next) (λ i. ap (λ xs. step_at xs i) steps)
