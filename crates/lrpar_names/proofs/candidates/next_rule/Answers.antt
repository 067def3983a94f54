use Rattle.std.proofs.Common.{◌≡◌, ◌≤◌, length, sym, ◌∙◌, ap, arith}
use Rattle.std.proofs.lemmas.List.{length-map}
use Rattle.lrpar_grammar.specs.Grammar.{prod_len, prods_len}
use Rattle.lrpar_grammar.specs.Symbols.{symbol_of}
use Rattle.lrpar_names.proofs.CandidateLemmas.{none_past_end, none_past_prods}
use Rattle.lrpar_names.proofs.candidates.next_rule.Goals as goal
use Rattle.lrpar_names.proofs.candidates.next_rule.Goals.{then-from-prods_len-via-then-from-prods_len, then-from-prods_len-via-else-from-prods_len+then-dot-prod}

pub returns-then-from-prods_len-clause-next : goal.returns-then-from-prods_len-clause-next
returns-then-from-prods_len-clause-next g c =
    let index = g.StorageT.StorageIndex.index in
    let p = index c.args.prod.0 in
    elim c.then-from-prods_len.branch [
      | then-from-prods_len-via-then-from-prods_len w ↦
          let past : prods_len c.args.grm.now ≤ p = omega (arith, c.prods_len.ensures.len, c.from.ensures, w.if-from-prods_len.true) in
          sym (none_past_prods c.args.grm.now p c.args.dot past)
      | then-from-prods_len-via-else-from-prods_len+then-dot-prod w ↦
          let long : length w.prod.result.now ≡ prod_len c.args.grm.now p =
          sym (length-map w.prod.result.now (symbol_of index)) ∙ ap length w.prod.ensures in
          let past : prod_len c.args.grm.now p ≤ c.args.dot = omega (arith, w.if-dot-prod.true) in
          sym (none_past_end c.args.grm.now p c.args.dot past)
    ]
