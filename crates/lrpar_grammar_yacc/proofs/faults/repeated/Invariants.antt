use Rattle.std.proofs.Common.{◌≡◌, [], bytes_eq, drop, map, nat_cmp, take, List, ℕ}
use Rattle.std.specs.BTreeMap.{get_by}
use Rattle.std.specs.Cmp.Lexicographic.{slice_cmp}
use Rattle.std.specs.List.{list_any}
use Rattle.std.specs.Option.{is_some}
use Rattle.lrpar_grammar_words.specs.Words.{placed}
use Rattle.lrpar_grammar_yacc.specs.Faults.{repeated_after}
use Rattle.lrpar_grammar_yacc.proofs.faults.repeated.Given as goal

-- the words so far have distinct names, which are in the map
abbrev pub invariant-loop-word : goal.invariant-loop-word
invariant-loop-word l =
    let before = map (λ w. w.name) (map placed (take l.word-index l.words)) in
    record {
      seen : (q : List ℕ) → is_some (get_by (λ k. slice_cmp nat_cmp q k.now) l.seen) ≡ list_any (bytes_eq q) before;
      found : repeated_after [] (map placed l.words) ≡ repeated_after before (map placed (drop l.word-index l.words));
    }
