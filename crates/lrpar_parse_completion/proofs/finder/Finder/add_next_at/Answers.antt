use Rattle.std.proofs.Common.{◌≡◌, ◌++◌, ◌∷◌, [], ◌∙◌, Bool, List, Option, Some, true, ℕ, map, ap, inl, inr, slice_get, subst, sym}
use Rattle.std.proofs.lemmas.List.{map-append}
use Rattle.std.proofs.lemmas.Option.{slice_get-get_or}
use Rattle.lrpar_grammar_places.specs.declared.span.TIdx.{TIdx}
use Rattle.lrpar_table_stacks.specs.Expected.{tokens_of}
use Rattle.lrpar_table_stacks.specs.Reduction.{Feeds}
use Rattle.lrpar_table_stacks.specs.Stack.{states_of}
use Rattle.lrpar_parse_completion.specs.FinderView.{HasStackOf}
use Rattle.lrpar_parse_completion.specs.Reached.{AddsReached, HasReached, ReachedOf, all_reached, reached_of}
use Rattle.lrpar_parse_completion.specs.Trying.{IsInserted}
use Rattle.lrpar_parse_completion.specs.declared.finder.Reached.{Reached}
use Rattle.lrpar_parse_completion.proofs.FinderLemmas.{adds_none, at_append, image_at, next_adds, next_has}
use Rattle.lrpar_parse_completion.proofs.finder.Finder.add_next_at.Goals as goal

pub returns-then-not-branch : goal.returns-then-not-branch
returns-then-not-branch g c =
    let index = g.StorageT.StorageIndex.index in
    let d = c.args.self.now.checked.now in
    let t = index c.args.token.0 in
    let items = c.args.found.now.items in
    let all = all_reached index c.args.found.now in
    let r = c.index-from.result.now in
    let there : slice_get items c.args.place ≡ Some r = slice_get-get_or items c.args.place r c.requires.place ∙ ap (λ (x : Reached _). Some x) (sym c.index-from.ensures) in
    let image = image_at (reached_of index) items c.args.place r there in
    let old = states_of index c.in_ok-stack.stack.items in
    let same_stack = ap (states_of index) (c.in_ok-stack.ensures.items ∙ c.deref.ensures.value) in
    let refused = subst (λ (b : Bool). IsInserted d.grammar d.table t old (states_of index c.feed.new.stack.items) b) c.if-not-branch.true c.in_ok-feed.ensures.fed in
    record {
      adds = adds_none d.grammar d.table all;
      stacks = c.requires.stacks;
      has = λ reached is prods next low feeds.
          let same : reached_of index r ≡ reached = let both : ◌≡◌ {A = Option ReachedOf} (Some (reached_of index r)) (Some reached) = sym image ∙ is in cc in
          let at_old : reached.stack ≡ old = sym (ap (λ (x : ReachedOf). x.stack) same) ∙ sym same_stack in
          absurd (refused low prods next (subst (λ (st : List ℕ). Feeds d.grammar d.table t st prods next) at_old feeds));
    }

pub returns : goal.returns
returns g c =
    let index = g.StorageT.StorageIndex.index in
    let d = c.args.self.now.checked.now in
    let t = index c.args.token.0 in
    let items = c.args.found.now.items in
    let all = all_reached index c.args.found.now in
    let r = c.index-from.result.now in
    let there : slice_get items c.args.place ≡ Some r = slice_get-get_or items c.args.place r c.requires.place ∙ ap (λ (x : Reached _). Some x) (sym c.index-from.ensures) in
    let image = image_at (reached_of index) items c.args.place r there in
    let x : Reached _ = record { tokens = c.push.new.self; stack = c.feed.new.stack } in
    let same_stack = ap (states_of index) (c.in_ok-stack.ensures.items ∙ c.deref.ensures.value) in
    let new = states_of index c.feed.new.stack.items in
    let shifted =
    subst (λ (b : Bool). IsInserted d.grammar d.table t (states_of index c.in_ok-stack.stack.items) new b) c.if-not-branch.false c.in_ok-feed.ensures.fed in
    let fed = subst (λ (st : List ℕ). IsInserted d.grammar d.table t st new true) same_stack shifted in
    let tokens =
    ap (tokens_of index) (c.in_ok-push.ensures.items ∙ ap (λ l. l ++ c.args.token ∷ []) (c.in_ok-tokens.ensures.items ∙ c.deref-2.ensures.value))
    ∙ map-append (λ (y : TIdx _). index y.0) r.tokens.items (c.args.token ∷ []) in
    let more = ap (λ (l : List (Reached _)). map (reached_of index) l) c.in_ok-push-2.ensures.items ∙ map-append (reached_of index) items (x ∷ []) in
    let adds = next_adds d.grammar d.table all c.args.place t (reached_of index r) (reached_of index x) image tokens fed c.in_ok-feed.ensures.stack in
    let has = next_has d.grammar d.table all c.args.place t (reached_of index r) (reached_of index x) image tokens fed c.in_ok-feed.ensures.stack in
    record {
      adds = subst (AddsReached d.grammar d.table all) (sym more) adds;
      stacks = λ i y is.
          let at = subst (λ (l : List (Reached _)). slice_get l i ≡ Some y) c.in_ok-push-2.ensures.items is in
          elim (at_append items x i y at) as (λ _. HasStackOf index c.args.self.now y) [
            | inl was ↦ c.requires.stacks i y was
            | inr same ↦ subst (HasStackOf index c.args.self.now) (sym same) c.in_ok-feed.ensures.stack
          ];
      has = λ reached is prods next low feeds. subst (λ (l : List ReachedOf). HasReached l next) (sym more) (has reached is prods next feeds);
    }
