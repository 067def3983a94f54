use Rattle.std.proofs.Common.{◌≡◌, ◌^◌, ◌-◌, arith, map, subst, rules}
use Rattle.lrpar_grammar.specs.Symbols.{symbol_of}
use Rattle.lrpar_table_sentences.specs.Choices.{AreShortest, choices_of}
use Rattle.lrpar_table_sentences.specs.Moves.{moves_in}
use Rattle.lrpar_table_sentences.proofs.FrameLemmas.{ok_more}
use Rattle.lrpar_table_sentences.proofs.PushLemmas.{moves_low, pushed_all}
use Rattle.lrpar_table_sentences.proofs.shortest.Shortest.push_all_moves.Goals as goal

pub returns : goal.returns
returns g c =
    let index = g.StorageT.StorageIndex.index in
    let is : c.args.self.now ≡ choices_of index c.deref.result.now = search rules in
    let out = c.push_symbols.new.out in
    ok_more c.push_symbols.result _ _
    (pushed_all c.args.grm.now (2 ^ 64 - 1) _ (subst (AreShortest c.args.grm.now (2 ^ 64 - 1)) is c.requires.shortest) (map (symbol_of index) c.args.symbols.now)
    (moves_in index c.args.out.now.items) (moves_in index out.items) c.requires.some (moves_low index out.items _ (omega (arith, out.ok.0, out.ok.1, out.small))))
    c.push_symbols.ensures
