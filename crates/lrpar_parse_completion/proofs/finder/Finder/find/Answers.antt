use Rattle.std.proofs.Common.{◌≡◌, ◌<◌, ◌+◌, ◌++◌, ◌∷◌, [], ◌∙◌, List, Some, ℕ, map, ap, arith, inl, inr, length, refl, slice_get, subst, sym}
use Rattle.std.proofs.lemmas.List.{length-map}
use Rattle.std.proofs.lemmas.Option.{slice_get-get_or, slice_get_within}
use Rattle.lrpar_grammar.specs.Grammar.{end_token}
use Rattle.lrpar_table_stacks.proofs.StackLemmas.{stack_has_path}
use Rattle.lrpar_table_stacks.specs.Expected.{tokens_of}
use Rattle.lrpar_table_stacks.specs.Run.{Accepted}
use Rattle.lrpar_table_stacks.specs.Stack.{states_of}
use Rattle.lrpar_parse_completion.specs.FinderView.{HasStackOf}
use Rattle.lrpar_parse_completion.specs.Reached.{IsLeft, ReachedOf, all_reached, reached_of}
use Rattle.lrpar_parse_completion.specs.declared.finder.Reached.{Reached}
use Rattle.lrpar_parse_completion.proofs.FinderLemmas.{adds_keep, at_append, find_first, image_at, left_more, never_accepts}
use Rattle.lrpar_parse_completion.proofs.finder.Finder.find.Goals as goal

pub stacks-init : goal.stacks-init
stacks-init g c =
    let index = g.StorageT.StorageIndex.index in
    let d = c.args.self.now.checked.now in
    let st = states_of index c.args.stack.now in
    let f = c.in_ok-first.first in
    let items = c.in_ok-push.ensures.items ∙ ap (λ l. l ++ f ∷ []) c.new-found.ensures.items in
    let all = ap (λ (l : List (Reached _)). map (reached_of index) l) items in
    let both =
    find_first d.grammar d.table (all_reached index c.push.new.self) (reached_of index f) st all (ap (tokens_of index) c.in_ok-first.ensures.0)
    (ap (states_of index) c.in_ok-first.ensures.1) c.requires.stack in
    record {
      stacks = λ i r is.
          let at = subst (λ (l : List (Reached _)). slice_get l i ≡ Some r) items is in
          elim (at_append [] f i r at) as (λ _. HasStackOf index c.args.self.now r) [
            | inl was ↦ absurd (let none : ⊥ = cc in none)
            | inr same ↦
                let own : HasStackOf index c.args.self.now f = rw c.in_ok-first.ensures.1 c.requires.stack in
                subst (HasStackOf index c.args.self.now) (sym same) own
          ];
      reached = both.0;
      first = both.1;
      left = λ i x low is. absurd (omega (arith, low));
    }

pub finish-requires-clause-stack : goal.finish-requires-clause-stack
finish-requires-clause-stack g c =
    let l = c.stacks in
    let long = l.found.ok.0 in
    let low : l.place < length l.found.items = omega (arith, c.stacks-test.true, c.len.ensures, long) in
    let r = c.index.result.now in
    l.invariant.stacks l.place r (slice_get-get_or l.found.items l.place r low ∙ ap (λ (x : Reached _). Some x) (sym c.index.ensures))

pub returns-in-Some : goal.returns-in-Some
returns-in-Some g c =
    let index = g.StorageT.StorageIndex.index in
    let l = c.stacks in
    let long = l.found.ok.0 in
    let low : l.place < length l.found.items = omega (arith, c.stacks-test.true, c.len.ensures, long) in
    let r = c.index.result.now in
    let there : slice_get l.found.items l.place ≡ Some r = slice_get-get_or l.found.items l.place r low ∙ ap (λ (x : Reached _). Some x) (sym c.index.ensures) in
    let image = image_at (reached_of index) l.found.items l.place r there in
    let says = rw c.in-Some.is at c.in_ok-tokens.ensures in
    says (states_of index c.args.stack.now) (l.invariant.reached l.place (reached_of index r) image)

pub add_next-requires-clause-stacks : goal.add_next-requires-clause-stacks
add_next-requires-clause-stacks g c = c.stacks.invariant.stacks

pub stacks-preserved : goal.stacks-preserved
stacks-preserved g c =
    let index = g.StorageT.StorageIndex.index in
    let d = c.args.self.now.checked.now in
    let st = states_of index c.args.stack.now in
    let l = c.stacks in
    let long = l.found.ok.0 in
    let low : l.place < length l.found.items = omega (arith, c.stacks-test.true, c.len.ensures, long) in
    let r = c.index.result.now in
    let there : slice_get l.found.items l.place ≡ Some r = slice_get-get_or l.found.items l.place r low ∙ ap (λ (x : Reached _). Some x) (sym c.index.ensures) in
    let image = image_at (reached_of index) l.found.items l.place r there in
    let a = all_reached index l.found in
    let b = all_reached index c.add_next.new.found in
    let one = c.in_ok-add_next.ensures in
    let refuses = rw c.in_default.is at c.in_ok-tokens.ensures in
    record {
      stacks = one.stacks;
      reached = one.adds.reached st l.invariant.reached;
      first = adds_keep d.grammar d.table a b st one.adds l.invariant.first;
      left = λ i x below is.
          left_more d.grammar d.table a b l.place i (reached_of index r) x image one.adds l.invariant.left refuses
          (λ t prods next under feeds. one.has (reached_of index r) image t prods next under under feeds) below is;
    }

pub unreachable-requires : goal.unreachable-requires
unreachable-requires g c =
    let index = g.StorageT.StorageIndex.index in
    let d = c.args.self.now.checked.now in
    let st = states_of index c.args.stack.now in
    let l = c.stacks in
    let all = all_reached index l.found in
    let long = l.found.ok.0 in
    let shape = c.stable.ensures.checked.safe.shape.tokens in
    let many : d.table.tokens ≡ end_token d.grammar + 1 = omega (arith, shape) in
    let past = rw c.stable.ensures.table at c.tokens_len-lemma.ensures.end in
    let left : (i : ℕ) (x : ReachedOf) → slice_get all i ≡ Some x → IsLeft d.grammar d.table all x.stack = λ i x is.
    l.invariant.left i x (let within = slice_get_within all i x is in
    omega (arith, within, length-map l.found.items (reached_of index), c.stacks-test.false, c.len.ensures, long)) is in
    let run = c.requires.all st c.requires.stack in
    never_accepts d.grammar d.table c.stable.ensures.runs past many (stack_has_path d.table) all st l.invariant.reached left run.0 st 0 run.1.0 Accepted run.1.1 refl l.invariant.first
