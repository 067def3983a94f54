use Rattle.std.proofs.Common.{◌≡◌, ◌<◌, ◌+◌, ◌∷◌, ◌++◌, ◌∙◌, [], sym, ap, ℕ, Bool, List, get_or, length, map, take}
use Rattle.std.proofs.lemmas.List.{map_push}
use Rattle.lrpar_grammar_places.proofs.ListLemmas.{map-take_more}
use Rattle.lrpar_table_items.specs.Cores.{CoreSet, core_set}
use Rattle.lrpar_table_items.proofs.cores.copied.Goals as goal

-- one more is copied
copied_more : {X Y : Type 0} (f : X → Y) (copy more xs : List X) (i : ℕ) (x y : X) → more ≡ copy ++ y ∷ [] → f y ≡ f x → i < length xs
    → x ≡ get_or xs i x → map f copy ≡ map f (take i xs) → map f more ≡ map f (take (i + 1) xs)
copied_more f copy more xs i x y is same low at so_far =
    ap (map f) is ∙ map_push f copy y ∙ ap (λ ys. ys ++ f y ∷ []) so_far ∙ ap (λ z. map f (take i xs) ++ z ∷ []) same ∙ sym (map-take_more f xs i x low at)

pub loop-core-preserved : goal.loop-core-preserved
loop-core-preserved g c =
    let index = g.StorageT.StorageIndex.index in
    let core = c.core-item.result in
    let with : List Bool → CoreSet = λ bits. record { prod = index core.prod.0; dot = core.dot; tokens = bits } in
    copied_more (core_set index) c.loop-core.copy.items c.push.new.self.items c.args.cores.now c.loop-core.core-index core _ c.in_ok-push.ensures.items
    (ap with c.in_ok-tokens.ensures) c.loop-core-test.true c.core-item.is c.loop-core.invariant
