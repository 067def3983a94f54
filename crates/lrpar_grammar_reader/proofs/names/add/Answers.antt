use Rattle.std.proofs.Common.{◌≡◌, ℕ, ◌++◌, ◌∷◌, [], length, List, map, Option, Some, None, nat_cmp, bytes_eq, ap, sym, subst, ◌∙◌, arith}
use Rattle.std.specs.Map.{update}
use Rattle.std.specs.BTreeMap.{get_by}
use Rattle.std.specs.Cmp.Lexicographic.{slice_cmp}
use Rattle.std.proofs.lemmas.List.{length-map, map-append}
use Rattle.std.proofs.lemmas.Map.Text.{btree_map_updates_str}
use Rattle.lrpar_grammar_words.specs.Words.{placed}
use Rattle.lrpar_grammar_reader.specs.Names.{AreNumbers, number_of}
use Rattle.lrpar_grammar_reader.proofs.NamesLemmas.{not_found, numbers_push}
use Rattle.lrpar_grammar_reader.proofs.names.add.Goals as goal

pub returns-in_ok-push-clause-numbers : goal.returns-in_ok-push-clause-numbers
returns-in_ok-push-clause-numbers c =
    let m = c.args.numbers.now in
    let n = c.insert.new.self in
    let first = c.args.first.now.items in
    let ws = map placed first in
    let w = placed c.args.word in
    let count : c.len.result ≡ length ws = omega (arith, c.len.ensures, c.args.first.now.ok.0, length-map first placed) in
    let put : (q : List ℕ) → get_by (λ k. slice_cmp nat_cmp q k.now) n ≡ update bytes_eq (λ ds. get_by (λ k. slice_cmp nat_cmp ds k.now) m) w.name (Some (length ws)) q =
    λ q. btree_map_updates_str w.name m n (Some c.len.result) c.in_ok-insert.ensures.updates q
    ∙ ap (λ k. update bytes_eq (λ ds. get_by (λ k. slice_cmp nat_cmp ds k.now) m) w.name (Some k) q) count in
    let new : ◌≡◌ {A = Option ℕ} (number_of w.name ws) None =
    sym (c.requires w.name) ∙ not_found (get_by (λ k. slice_cmp nat_cmp w.name k.now) m) (sym c.contains_key.ensures ∙ c.if-not-contains_key.true) in
    let pushed : map placed c.push.new.self.items ≡ ws ++ w ∷ [] = ap (map placed) c.in_ok-push.ensures.items ∙ map-append placed first (c.args.word ∷ []) in
    subst (AreNumbers n) (sym pushed) (numbers_push m n ws w c.requires new put)
