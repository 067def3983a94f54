use Rattle.std.proofs.Common.{◌≡◌, ◌<◌, ◌≤◌, ◌+◌, ◌∙◌, ◌++◌, ◌∷◌, [], List, ℕ, ap, inl, inr, subst, sym, length, slice_index}
use Rattle.std.proofs.lemmas.Bool.{iff_false}
use Rattle.std.proofs.lemmas.List.{get_or-map, length-map, map-append}
use Rattle.lrpar_table_stacks.specs.Expected.{IsExpected, laid_over, tokens_of}
use Rattle.lrpar_table_stacks.specs.Overlay.{IsShortOfMemoryOver, Overlaid, overlaid}
use Rattle.lrpar_table_stacks.specs.Stack.{IsStack}
use Rattle.lrpar_table_rows.specs.PlainRows.{plain_action}
use Rattle.lrpar_table_rows.specs.Table.{actions_at, states_len}
use Rattle.lrpar_table_check.proofs.ExpectedLemmas.{AreListed, acts_within, expected_acts_at, laid_over_states, listed_all, listed_more, listed_no_more, some_state, token_within, tokens_ascend, top_within}
use Rattle.lrpar_table_stacks.proofs.SettleLemmas.{on_err_always}
use Rattle.lrpar_table_check.proofs.check.ParserData.expected_over.Goals as goal
use Rattle.lrpar_table_check.proofs.check.ParserData.expected_over.Goals.{then-branch+in_ok-push, else-branch}

pub actions_of-requires : goal.actions_of-requires
actions_of-requires g c =
    let d = c.args.self.now in
    rw c.stable.ensures.table (top_within d.table c.stable.ensures.checked.closed (overlaid c.args.overlay.now) _ c.requires.stack c.top.ensures)

pub new-probe-requires : goal.new-probe-requires
new-probe-requires g c = some_state c.args.self.now.table (overlaid c.args.overlay.now) c.requires.stack

pub try_token-requires-clause-stack : goal.try_token-requires-clause-stack
try_token-requires-clause-stack g c =
    let states : overlaid c.set_back.new.self ≡ overlaid c.args.overlay.now =
    ap overlaid c.set_back.ensures ∙ laid_over_states c.loop-token.probe.base c.loop-token.probe.room ∙ c.loop-token.invariant.base in
    subst (λ (st : List ℕ). IsStack c.args.self.now.table st) (sym states) c.requires.stack

pub try_token-requires-clause-token : goal.try_token-requires-clause-token
try_token-requires-clause-token g c =
    let index = g.StorageT.StorageIndex.index in
    let d = c.args.self.now in
    let at = c.actions_of.ensures in
    let es = actions_at c.stable.result.now (index c.top.result.0) in
    let within =
    token_within (λ t. index t.0) (plain_action index) d.table (index c.top.result.0) c.actions_of.result.0.now c.actions_of.result.1.now es at.actions at.entries
    c.stable.result.now.tokens (states_len c.stable.result.now) at.within c.loop-token.token-index c.token-item.result c.loop-token-test.true c.token-item.is in
    rw c.stable.ensures.table at within

pub returns-in_err-try_token-clause-short_of_memory : goal.returns-in_err-try_token-clause-short_of_memory
returns-in_err-try_token-clause-short_of_memory g c =
    let index = g.StorageT.StorageIndex.index in
    let d = c.args.self.now in
    let t = index c.token-item.result.0 in
    let st = overlaid c.args.overlay.now in
    let from : c.set_back.new.self ≡ laid_over st c.loop-token.probe.room =
    c.set_back.ensures ∙ ap (λ (l : List ℕ). laid_over l c.loop-token.probe.room) c.loop-token.invariant.base in
    let short = subst (λ (o : Overlaid). IsShortOfMemoryOver d.grammar d.table t o c.try_token.new.states) from c.in_err-try_token.ensures.short_of_memory in
    on_err_always c.from_residual.result _ (t, inr (record { room = c.loop-token.probe.room; new = c.try_token.new.states; short = short }))

pub returns-in_err-push-clause-short_of_memory : goal.returns-in_err-push-clause-short_of_memory
returns-in_err-push-clause-short_of_memory g c =
    let index = g.StorageT.StorageIndex.index in
    let d = c.args.self.now in
    let t = index c.token-item.result.0 in
    let states : overlaid c.set_back.new.self ≡ overlaid c.args.overlay.now =
    ap overlaid c.set_back.ensures ∙ laid_over_states c.loop-token.probe.base c.loop-token.probe.room ∙ c.loop-token.invariant.base in
    let here = c.in_ok-try_token.ensures.expected.0 c.if-branch.true in
    on_err_always c.from_residual-in_err-push.result _ (t, inl (subst (λ (l : List ℕ). IsExpected d.grammar d.table l t) states here))

pub loop-token-preserved : goal.loop-token-preserved
loop-token-preserved g c =
    let index = g.StorageT.StorageIndex.index in
    let d = c.args.self.now in
    let st = overlaid c.args.overlay.now in
    let t = index c.token-item.result.0 in
    let ts = c.actions_of.result.0.now in
    let at = c.actions_of.ensures in
    let es = actions_at c.stable.result.now (index c.top.result.0) in
    let states : overlaid c.set_back.new.self ≡ st =
    ap overlaid c.set_back.ensures ∙ laid_over_states c.loop-token.probe.base c.loop-token.probe.room ∙ c.loop-token.invariant.base in
    let up = tokens_ascend (λ t. index t.0) (plain_action index) d.table (index c.top.result.0) ts c.actions_of.result.1.now es at.actions at.entries at.ascending in
    let below = c.loop-token-test.true in
    let inside : c.loop-token.token-index < length (tokens_of index ts) = rw length-map below in
    let is : slice_index (tokens_of index ts) c.loop-token.token-index ≡ t =
    get_or-map (λ t. index t.0) ts c.loop-token.token-index c.token-item.result 0 below ∙ ap (λ t. index t.0) (sym c.token-item.is) in
    let P : ℕ → Type 0 = IsExpected d.grammar d.table st in
    let numbers : List ℕ = tokens_of index ts in
    let so_far : List ℕ = tokens_of index c.loop-token.expected.items in
    let i = c.loop-token.token-index in
    record {
      base = c.in_ok-try_token.ensures.base ∙ ap (λ (o : Overlaid). o.base) c.set_back.ensures ∙ c.loop-token.invariant.base;
      listed =
          elim c.if-branch.branch [
            | then-branch+in_ok-push w ↦
                let has = subst (λ (l : List ℕ). IsExpected d.grammar d.table l t) states (c.in_ok-try_token.ensures.expected.0 w.if-branch.true) in
                let items : tokens_of index c.if-branch.expected.items ≡ so_far ++ t ∷ [] =
                ap (λ v. tokens_of index v.items) w.expected-is ∙ ap (tokens_of index) w.in_ok-push.ensures.items
                ∙ map-append (λ t. index t.0) c.loop-token.expected.items (c.token-item.result ∷ []) in
                subst (λ (xs : List ℕ). AreListed P numbers (i + 1) xs) (sym items)
                (listed_more P numbers up i inside so_far c.loop-token.invariant.listed t is has)
            | else-branch w ↦
                let lacks = λ (p : P t).
                iff_false {P = IsExpected d.grammar d.table (overlaid c.set_back.new.self) t} c.in_ok-try_token.ensures.expected w.if-branch.false
                (subst (λ (l : List ℕ). IsExpected d.grammar d.table l t) (sym states) p) in
                let items : tokens_of index c.if-branch.expected.items ≡ so_far = ap (λ v. tokens_of index v.items) w.expected-is in
                subst (λ (xs : List ℕ). AreListed P numbers (i + 1) xs) (sym items)
                (listed_no_more P numbers up i inside so_far c.loop-token.invariant.listed t is lacks)
          ];
    }

pub returns-clause-expected : goal.returns-clause-expected
returns-clause-expected g c =
    let index = g.StorageT.StorageIndex.index in
    let d = c.args.self.now in
    let st = overlaid c.args.overlay.now in
    let s = index c.top.result.0 in
    let ts = c.actions_of.result.0.now in
    let at = c.actions_of.ensures in
    let table = c.stable.result.now in
    let es = actions_at table s in
    let up = tokens_ascend (λ t. index t.0) (plain_action index) table s ts c.actions_of.result.1.now es at.actions at.entries at.ascending in
    let acts = acts_within (λ t. index t.0) (plain_action index) table s ts c.actions_of.result.1.now es at.actions at.entries at.exact in
    let same = c.stable.ensures.table in
    let within = λ (t : ℕ) (expected : IsExpected d.grammar d.table st t).
    acts t (rw same (expected_acts_at d.grammar d.table st s c.top.ensures t expected)) in
    let past_all : length (tokens_of index ts) ≤ c.loop-token.token-index = rw length-map c.loop-token-test.false in
    let all = listed_all (IsExpected d.grammar d.table st) (tokens_of index ts) up c.loop-token.token-index (tokens_of index c.loop-token.expected.items)
    past_all c.loop-token.invariant.listed within in
    record { ascending = c.loop-token.invariant.listed.ascending; exact = all }
