use Rattle.std.proofs.Common.{◌≡◌, ◌≢◌, ◌-◌, ◌∙◌, List, [], arith, length, map, refl, subst, sym}
use Rattle.std.proofs.lemmas.Bool.{both_ways, eqb-false, eqb-true, false≢true, iff_false}
use Rattle.std.proofs.lemmas.List.{length-map}
use Rattle.lrpar_grammar.specs.Grammar.{GrammarSymbol, start_prod, symbols_of}
use Rattle.lrpar_grammar.specs.Symbols.{symbol_of}
use Rattle.lrpar_table_stacks.specs.Expected.{tokens_of}
use Rattle.lrpar_table_sentences.specs.Texts.{HaveTrees}
use Rattle.lrpar_table_stacks.specs.Stack.{states_of}
use Rattle.lrpar_parse_completion.specs.Opening.{ArePushed}
use Rattle.lrpar_parse_completion.proofs.OpenLemmas.{base_at, base_lower, base_within, completing_base, completing_begun, completing_deep, completing_done, completing_first, completing_next, core_trees, no_stack, rest_of, stack_walked, state_known, top_at, top_place, top_within}
use Rattle.lrpar_parse_completion.proofs.completer.Completer.push_completion.Goals as goal

pub returns-then-is_empty : goal.returns-then-is_empty
returns-then-is_empty g c =
    let index = g.StorageT.StorageIndex.index in
    let stack = c.args.stack.now in
    let none : length stack ≡ 0 = eqb-true (length stack) 0 (sym c.is_empty.ensures ∙ c.if-is_empty.true) in
    λ can is.
    absurd (no_stack c.args.self.now.data.now.table (states_of index stack) (length-map stack (λ x. index x.0) ∙ none) is)

pub returns-then-not-has_state : goal.returns-then-not-has_state
returns-then-not-has_state g c =
    let index = g.StorageT.StorageIndex.index in
    let d = c.args.self.now.data.now in
    let stack = c.args.stack.now in
    let top = c.index-stack-place.result in
    let some = eqb-false (length stack) 0 (sym c.is_empty.ensures ∙ c.if-is_empty.false) in
    let at = top_at index stack top some c.index-stack-place.is in
    λ can is.
    absurd (iff_false c.has_state.ensures c.if-not-has_state.true
    (state_known d c.stable-lemma.ensures.checked (states_of index stack) is (length stack - 1) (index top.0) at))

pub returns-then-not-branch : goal.returns-then-not-branch
returns-then-not-branch g c =
    let index = g.StorageT.StorageIndex.index in
    let d = c.args.self.now.data.now in
    let stack = c.args.stack.now in
    let st = states_of index stack in
    let top = c.index-stack-place.result in
    let s = index top.0 in
    let some = eqb-false (length stack) 0 (sym c.is_empty.ensures ∙ c.if-is_empty.false) in
    let at = top_at index stack top some c.index-stack-place.is in
    let p = index c.kernel_core-dot.result.0.0 in
    let k = c.kernel_core-dot.result.1 in
    let symbols : map (symbol_of index) c.prod.result.now ≡ symbols_of d.grammar p = rw c.grm-grm.ensures at c.prod.ensures in
    let rest = rest_of (symbol_of index) k c.prod.result.now (symbols_of d.grammar p) symbols in
    λ can is.
    let walked = stack_walked d c.stable-lemma.ensures.checked st is (length stack - 1) s at in
    let trees = core_trees d c.stable-lemma.ensures.checked can s p k (c.has_state.ensures.0 c.if-not-has_state.false) walked (c.kernel_core-dot.ensures.kernel can).core in
    absurd (both_ways _ c.if-not-branch.true ((rw c.grm-grm.ensures at c.in_ok-push_rest.ensures.some) (subst (HaveTrees d.grammar) (sym rest) trees)))

pub items-init : goal.items-init
items-init g c =
    let index = g.StorageT.StorageIndex.index in
    let d = c.args.self.now.data.now in
    let stack = c.args.stack.now in
    let st = states_of index stack in
    let top = c.index-stack-place.result in
    let place = length stack - 1 in
    let some = eqb-false (length stack) 0 (sym c.is_empty.ensures ∙ c.if-is_empty.false) in
    let at = top_at index stack top some c.index-stack-place.is in
    let many = length-map stack (λ x. index x.0) in
    let p = index c.kernel_core-dot.result.0.0 in
    let k = c.kernel_core-dot.result.1 in
    let new = tokens_of index c.push_rest.new.tokens.items in
    let symbols : map (symbol_of index) c.prod.result.now ≡ symbols_of d.grammar p = rw c.grm-grm.ensures at c.prod.ensures in
    let rest = rest_of (symbol_of index) k c.prod.result.now (symbols_of d.grammar p) symbols in
    let first = (rw (c.grm-grm.ensures, c.requires.empty) at c.in_ok-push_rest.ensures.pushed) c.if-not-branch.false in
    let pushed = subst (λ (ss : List GrammarSymbol). ArePushed d.grammar ss [] new) rest first in
    record {
      within = top_within (length stack) st many some;
      known = c.kernel_core-dot.ensures.prod;
      dot = c.kernel_core-dot.ensures.dot;
      completing = λ can is.
          completing_first d c.stable-lemma.ensures.checked st place (index top.0) p k new (top_place (length stack) st many some) at (c.kernel_core-dot.ensures.kernel can) pushed;
    }

pub returns-then-dot-eq0 : goal.returns-then-dot-eq0
returns-then-dot-eq0 g c =
    let index = g.StorageT.StorageIndex.index in
    let d = c.args.self.now.data.now in
    let l = c.items in
    let p = index l.prod.0 in
    let other : p ≢ start_prod d.grammar = λ is. c.items-test.true (c.from.ensures ∙ is ∙ sym (c.from-start.ensures ∙ rw c.grm.ensures at c.start_prod.ensures.number)) in
    λ can is.
    absurd (completing_begun d c.stable-lemma.ensures.checked (states_of index c.args.stack.now) is l.place p l.dot (tokens_of index l.tokens.items)
    (l.invariant.completing can is) other c.if-dot-eq0.true)

pub returns-then-place-dot : goal.returns-then-place-dot
returns-then-place-dot g c =
    let index = g.StorageT.StorageIndex.index in
    let d = c.args.self.now.data.now in
    let st = states_of index c.args.stack.now in
    let l = c.items in
    let p = index l.prod.0 in
    let tokens = tokens_of index l.tokens.items in
    λ can is.
    absurd (completing_deep d c.stable-lemma.ensures.checked st is l.place p l.dot tokens (l.invariant.completing can is) c.if-place-dot.true)

pub returns-then-not-has_state-2 : goal.returns-then-not-has_state-2
returns-then-not-has_state-2 g c =
    let index = g.StorageT.StorageIndex.index in
    let d = c.args.self.now.data.now in
    let l = c.items in
    let base = c.index-stack-place-in-items.result in
    let at = base_at index c.args.stack.now l.place l.dot base l.invariant.within c.index-stack-place-in-items.is in
    λ can is.
    let known = state_known d c.stable-lemma.ensures.checked (states_of index c.args.stack.now) is (l.place - l.dot) (index base.0) at in
    absurd (iff_false c.has_state-in-items.ensures c.if-not-has_state-2.true known)

pub returns-in_default : goal.returns-in_default
returns-in_default g c =
    let index = g.StorageT.StorageIndex.index in
    let d = c.args.self.now.data.now in
    let st = states_of index c.args.stack.now in
    let l = c.items in
    let p = index l.prod.0 in
    let base = c.index-stack-place-in-items.result in
    let at = base_at index c.args.stack.now l.place l.dot base l.invariant.within c.index-stack-place-in-items.is in
    let other : p ≢ start_prod d.grammar = λ is. c.items-test.true (c.from.ensures ∙ is ∙ sym (c.from-start.ensures ∙ rw c.grm.ensures at c.start_prod.ensures.number)) in
    λ can is.
    let core = completing_base d c.stable-lemma.ensures.checked st is l.place p l.dot (tokens_of index l.tokens.items) (l.invariant.completing can is) (index base.0) at in
    let walked = stack_walked d c.stable-lemma.ensures.checked st is (l.place - l.dot) (index base.0) at in
    absurd (false≢true ((rw c.in_default.is at c.in_ok-next.ensures.some) (record { can = can; walked = walked; core = core; other = other })))

pub items-preserved : goal.items-preserved
items-preserved g c =
    let index = g.StorageT.StorageIndex.index in
    let d = c.args.self.now.data.now in
    let l = c.items in
    let base = c.index-stack-place-in-items.result in
    let at = base_at index c.args.stack.now l.place l.dot base l.invariant.within c.index-stack-place-in-items.is in
    let low = c.has_state-in-items.ensures.0 c.if-not-has_state-2.false in
    let opened = rw c.in-Some.is at c.in_ok-next.ensures.opened in
    record {
      within = base_within l.place l.dot (states_of index c.args.stack.now) l.invariant.within;
      known = opened.known;
      dot = opened.dot;
      completing = λ can is.
          completing_next d c.stable-lemma.ensures.checked (states_of index c.args.stack.now) is l.place (index l.prod.0) l.dot (tokens_of index l.tokens.items)
          (l.invariant.completing can is) can (index base.0) (index c.in-Some.next.0) c.in-Some.at (tokens_of index c.find_opener.new.tokens.items) low at
          l.invariant.known opened;
    }

pub items-smaller : goal.items-smaller
items-smaller g c = base_lower c.items.place c.items.dot c.if-dot-eq0.false c.if-place-dot.false

pub returns : goal.returns
returns g c =
    let index = g.StorageT.StorageIndex.index in
    let d = c.args.self.now.data.now in
    let st = states_of index c.args.stack.now in
    let l = c.items in
    let p = index l.prod.0 in
    let is_start : p ≡ start_prod d.grammar = sym c.from.ensures ∙ c.items-test.false ∙ c.from-start.ensures ∙ rw c.grm.ensures at c.start_prod.ensures.number in
    λ can is. (
      refl,
      completing_done d c.stable-lemma.ensures.checked st is l.place p l.dot (tokens_of index l.tokens.items) (l.invariant.completing can is) is_start,
    )

pub offset_bounds-stack-place-in-items : goal.offset_bounds-stack-place-in-items
offset_bounds-stack-place-in-items g c =
    let inside = c.items.invariant.within in omega (arith, inside, length-map c.args.stack.now (λ x. g.StorageT.StorageIndex.index x.0))

pub bounds-stack-place-in-items : goal.bounds-stack-place-in-items
bounds-stack-place-in-items g c =
    let inside = c.items.invariant.within in omega (arith, inside, length-map c.args.stack.now (λ x. g.StorageT.StorageIndex.index x.0))

pub find_opener-requires-clause-prod : goal.find_opener-requires-clause-prod
find_opener-requires-clause-prod g c = c.items.invariant.known

pub push_rest-requires : goal.push_rest-requires
push_rest-requires g c = record { shortest = rw c.grm-grm.ensures c.requires.shortest }
