use Rattle.std.proofs.Common.{◌<◌, ◌^◌, ◌-◌, ℕ, lit≤, map, subst, sym}
use Rattle.lrpar_grammar.specs.Grammar.{prods_len}
use Rattle.lrpar_grammar.specs.Symbols.{symbol_of}
use Rattle.lrpar_table_sentences.specs.Choices.{choices_of}
use Rattle.lrpar_table_sentences.specs.Moves.{moves_in}
use Rattle.lrpar_table_sentences.specs.Starts.{AreStarts, CanStart, starts_of}
use Rattle.lrpar_table_sentences.proofs.DescendLemmas.{beginning}
use Rattle.lrpar_table_sentences.proofs.FrameLemmas.{ok_more}
use Rattle.lrpar_table_sentences.proofs.descend.push_beginning.Goals as goal

pub returns : goal.returns
returns g c =
    let index = g.StorageT.StorageIndex.index in
    let grm = c.args.grm.now in
    let choices = choices_of index c.args.choices.now in
    let first = index c.args.first.0 in
    let are = subst (λ xs. AreStarts grm choices first (starts_of index xs)) (sym c.deref.ensures.value) c.in_ok-starts.ensures.kept.starts in
    let closed = subst (λ xs. (p : ℕ) → p < prods_len grm → CanStart grm (2 ^ 64 - 1) choices first (starts_of index xs) p) (sym c.deref.ensures.value) c.in_ok-starts.ensures.closed in
    ok_more c.push_by.result _ _
    (beginning grm (2 ^ 64 - 1) choices c.requires.rules first (starts_of index c.deref.result.now) are closed (lit≤ tt) (map (symbol_of index) c.args.symbols.now)
    (moves_in index c.args.out.now.items) (moves_in index c.push_by.new.out.items) c.requires.some)
    c.push_by.ensures
