use Rattle.std.proofs.Common.{◌∷◌, [], ◌∙◌, Bool, List, ℕ, ap, subst, sym}
use Rattle.std.proofs.lemmas.List.{map-append}
use Rattle.lrpar_grammar_places.specs.declared.span.TIdx.{TIdx}
use Rattle.lrpar_table_stacks.specs.Expected.{tokens_of}
use Rattle.lrpar_table_stacks.specs.Stack.{states_of}
use Rattle.lrpar_parse_completion.specs.Nearest.{FeedsAll}
use Rattle.lrpar_parse_completion.specs.Trying.{IsInserted}
use Rattle.lrpar_parse_completion.proofs.FeedLemmas.{feeds_all_more}
use Rattle.lrpar_parse_completion.proofs.finder.Finder.finish_by.Goals as goal

pub more-preserved : goal.more-preserved
more-preserved g c =
    let index = g.StorageT.StorageIndex.index in
    let d = c.args.self.now.checked.now in
    let l = c.more in
    let t = index c.token-item.result.0 in
    let old = states_of index l.stack.items in
    let new = states_of index c.feed.new.stack.items in
    let fed = subst (λ (b : Bool). IsInserted d.grammar d.table t old new b) c.if-not-branch.false c.in_ok-feed.ensures.fed in
    let pushed = ap (tokens_of index) c.in_ok-push.ensures.items ∙ map-append (λ (x : TIdx _). index x.0) l.tokens.items (c.token-item.result ∷ []) in
    record {
      states = c.in_ok-feed.ensures.stack;
      fed = λ st reached.
          subst (λ (ts : List ℕ). FeedsAll d.grammar d.table st ts new) (sym pushed)
          (feeds_all_more d.grammar d.table st (tokens_of index l.tokens.items) old t fed.1.0 new (l.invariant.fed st reached) fed.0 fed.1.1);
    }
