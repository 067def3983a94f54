use Rattle.std.proofs.Common.{◌≡◌, ◌<◌, ◌-◌, ◌+◌, ℕ, List, [], Some, Bor, drop, get_or, length, map, subst, sym, arith}
use Rattle.std.proofs.lemmas.List.{get_or-map, length-map}
use Rattle.std.proofs.lemmas.Map.Text.{btree_map_updates_str}
use Rattle.lrpar_grammar.specs.SymbolNames.{AreFirst}
use Rattle.lrpar_grammar.proofs.SymbolNameLemmas.{first_put}
use Rattle.lrpar_grammar.proofs.grammar.symbol_names.first_numbers.Goals as goal

pub loop-number-preserved : goal.loop-number-preserved
loop-number-preserved c =
    let refs : List (Bor (List ℕ)) = c.args.names.now in
    let names = map (λ x. x.now) refs in
    let i = c.loop-number.number - 1 in
    let key : Bor (List ℕ) = get_or refs i (record { ref_ptr = (0, 0); now = [] }) in
    let count = length-map refs (λ x. x.now) in
    let back : c.loop-number.number ≡ i + 1 = omega arith in
    let inside : i < length refs = omega arith in
    let is : key.now ≡ get_or names i [] = sym (get_or-map (λ x. x.now) refs i (record { ref_ptr = (0, 0); now = [] }) [] inside) in
    record {
      after = omega arith;
      first = first_put c.loop-number.numbers c.insert.new.self names i key.now (omega arith) is
          (subst (λ n. AreFirst c.loop-number.numbers n (drop n names)) back c.loop-number.invariant.first)
          (btree_map_updates_str key.now c.loop-number.numbers c.insert.new.self (Some i) c.in_ok-insert.ensures.updates);
    }

pub returns : goal.returns
returns c =
    let names = map (λ x. x.now) c.args.names.now in
    let same : c.loop-number.number ≡ c.args.from = omega arith in
    subst (λ n. AreFirst c.loop-number.numbers n (drop n names)) same c.loop-number.invariant.first
