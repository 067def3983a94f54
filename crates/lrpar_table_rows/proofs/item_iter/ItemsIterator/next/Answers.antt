use Rattle.std.proofs.Common.{◌≡◌, ◌<◌, ◌+◌, ◌∙◌, ◌∷◌, ℕ, [], ap, arith, length, map, rules, slice_index_or, subst, sym}
use Rattle.std.proofs.lemmas.List.{get_or_default}
use Rattle.lrpar_grammar_places.specs.declared.span.PIdx.{PIdx}
use Rattle.lrpar_table_rows.specs.PlainItems.{item_of}
use Rattle.lrpar_table_rows.specs.Runs.{items_left}
use Rattle.lrpar_table_rows.proofs.RunLemmas.{left_one}
use Rattle.lrpar_table_rows.proofs.item_iter.ItemsIterator.next.Goals as goal

pub returns-in-None : goal.returns-in-None
returns-in-None g c =
    let left : c.args.self.now ≡ [] = sym c.self.view_is ∙ ap (map (item_of g.StorageT.StorageIndex.index)) c.in-None.ensures in
    record { steps = (left, left); goes = rw left (search rules) }

pub returns-in-Some : goal.returns-in-Some
returns-in-Some g c =
    let index = g.StorageT.StorageIndex.index in
    let cores = c.self.inside.cores.now in
    let runs = c.self.inside.runs.now in
    let place = c.in-Some.place in
    let token = c.in-Some.token in
    let next = c.in-Some.ensures in
    let low : place < length cores = omega (arith, next.within, c.self.invariant) in
    let core = slice_index_or cores place c.index-self-place.result in
    let lookahead = c.index-run-token.result in
    let read : c.as_slice-run.result.now ≡ slice_index_or runs place [] =
    c.as_slice-run.ensures.all ∙ get_or_default runs place c.index-self-place-in-Some-2.result [] next.within in
    let rest = map (item_of index) (items_left cores runs place (token + 1)) in
    let one =
    left_one cores runs place token core lookahead c.self.invariant next.within next.below (get_or_default cores place c.index-self-place.result core low)
    (subst (λ run. lookahead ≡ slice_index_or run token lookahead) read c.index-run-token.is) in
    let same =
    ap (λ (x : PIdx g.row.StorageT.Denot × ℕ). item_of index (core.0, x.1, lookahead) ∷ rest)
    (get_or_default cores place c.index-self-place.result c.index-self-place-in-Some.result low) in
    let left = sym c.self.view_is ∙ ap (map (item_of index)) (sym next.same ∙ one) ∙ same in
    record { steps = left; goes = rw left (search rules) }
