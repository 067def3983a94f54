use Rattle.std.proofs.Common.{Some, bytes_eq, take, ap, sym, ◌∙◌}
use Rattle.std.specs.List.{list_any}
use Rattle.std.proofs.lemmas.Map.Text.{btree_map_updates_str}
use Rattle.lrpar_grammar_yacc.proofs.FaultLemmas.{names_before, names_more, repeated_here, repeated_later, seen_more}
use Rattle.lrpar_grammar_yacc.proofs.faults.repeated.Goals as goal

pub returns-then-contains_key : goal.returns-then-contains_key
returns-then-contains_key c =
    let words = c.args.words.now in
    let i = c.loop-word.word-index in
    let among = sym (c.loop-word.invariant.seen _) ∙ sym c.contains_key.ensures ∙ c.if-contains_key.true in
    repeated_here words i _ (names_before (take i words)) c.span.result c.loop-word-test.true c.span.ensures among ∙ sym c.loop-word.invariant.found

pub loop-word-preserved : goal.loop-word-preserved
loop-word-preserved c =
    let words = c.args.words.now in
    let i = c.loop-word.word-index in
    let within = c.loop-word-test.true in
    let m = c.loop-word.seen in
    let n = c.insert.new.self in
    let other = sym (c.loop-word.invariant.seen _) ∙ sym c.contains_key.ensures ∙ c.if-contains_key.false in
    record {
      seen = λ q. seen_more m n (names_before (take i words)) _ c.loop-word.invariant.seen (λ q. btree_map_updates_str _ m n (Some tt) c.in_ok-insert.ensures.updates q) q
          ∙ ap (list_any (bytes_eq q)) (sym (names_more words i _ within));
      found = c.loop-word.invariant.found ∙ repeated_later words i _ within other;
    }
