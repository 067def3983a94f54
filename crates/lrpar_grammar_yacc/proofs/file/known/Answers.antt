use Rattle.std.proofs.Common.{◌≡◌, ◌+◌, ◌++◌, ◌∷◌, [], ℕ, List, Some, Bor, get_or, map, take, subst, sym, ap, ◌∙◌}
use Rattle.std.proofs.lemmas.List.{map-append, take_more}
use Rattle.std.proofs.lemmas.Map.Text.{btree_map_updates_str}
use Rattle.lrpar_grammar_yacc.proofs.FaultLemmas.{seen_more}
use Rattle.lrpar_grammar_yacc.specs.YaccFiles.{AreNames}
use Rattle.lrpar_grammar_yacc.proofs.file.known.Goals as goal

pub loop-name-preserved : goal.loop-name-preserved
loop-name-preserved c =
    let refs : List (Bor (List ℕ)) = c.args.names.now in
    let i = c.loop-name.name-index in
    let key : Bor (List ℕ) = get_or refs i (record { ref_ptr = (0, 0); now = [] }) in
    let before = map (λ x. x.now) (take i refs) in
    let m = c.loop-name.known in
    let n = c.insert.new.self in
    let more : map (λ x. x.now) (take (i + 1) refs) ≡ before ++ key.now ∷ [] =
    ap (map (λ x. x.now)) (take_more refs i (record { ref_ptr = (0, 0); now = [] }) c.loop-name-test.true) ∙ map-append (λ x. x.now) (take i refs) (key ∷ []) in
    subst (AreNames n) (sym more) (seen_more m n before key.now c.loop-name.invariant (btree_map_updates_str key.now m n (Some tt) c.in_ok-insert.ensures.updates))
