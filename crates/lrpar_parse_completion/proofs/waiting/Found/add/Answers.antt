use Rattle.std.proofs.Common.{◌≡◌, ◌<◌, ◌∷◌, ◌∙◌, ap, arith, inl, inr, length, map, refl, set, sym}
use Rattle.lrpar_grammar.specs.Grammar.{Nonterminal}
use Rattle.lrpar_grammar.specs.Symbols.{symbol_of}
use Rattle.lrpar_table_sentences.specs.Reachable.{is_marked}
use Rattle.lrpar_parse_completion.proofs.FoundLemmas.{links_pushed, mark_read}
use Rattle.lrpar_parse_completion.proofs.waiting.Found.add.Goals as goal

pub returns-in_default : goal.returns-in_default
returns-in_default g c = inl (refl, refl, λ r w is. absurd (c.in_default.ensures.rule r w is))

pub returns-then-index : goal.returns-then-index
returns-then-index g c =
    let index = g.StorageT.StorageIndex.index in
    let n = index c.in-Some.rule.0 in
    let marks = c.args.self.now.marks.items in
    let low : n < length marks = let within = c.in-Some.ensures.within in omega (arith, within, c.requires.len) in
    let mark = mark_read marks c.from-number.result n c.index.result.now c.from-number.ensures low c.index.ensures in
    inl (
      refl,
      refl,
      λ r w is.
          let both : Nonterminal n ∷ map (symbol_of index) _ ≡ Nonterminal r ∷ w = sym c.in-Some.ensures.rule ∙ is in
          let same : n ≡ r = cc in
          ap (is_marked marks) (sym same) ∙ mark ∙ c.if-index.true,
    )

pub returns : goal.returns
returns g c =
    let index = g.StorageT.StorageIndex.index in
    let n = index c.in-Some.rule.0 in
    let marks = c.args.self.now.marks.items in
    let low : n < length marks = let within = c.in-Some.ensures.within in omega (arith, within, c.requires.len) in
    let mark = mark_read marks c.from-number.result n c.index.result.now c.from-number.ensures low c.index.ensures in
    inr (
      n,
      map (symbol_of index) _,
      c.in-Some.ensures.rule,
      low,
      mark ∙ c.if-index.false,
      links_pushed index c.args.self.now.links.items c.push.new.self.items _ c.in_ok-push.ensures.items,
      ap (λ i. set marks i _) c.from-number.ensures,
    )
