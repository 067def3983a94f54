use Rattle.std.proofs.Common.{◌<◌, ◌-◌, ◌==◌, cond, drop, get_or, subst, sym, arith}
use Rattle.lrpar_grammar_bison.proofs.WordsLemmas.{cut_after, cut_before}
use Rattle.lrpar_grammar_bison.proofs.words.word_at.Goals as goal

pub range-requires-clause-start_boundary : goal.range-requires-clause-start_boundary
range-requires-clause-start_boundary c =
    let first : get_or (drop c.args.place c.args.text.now) (c.front_len.result - 1) 0 < 128 =
    subst (λ n. get_or (drop c.args.place c.args.text.now) (n - 1) 0 < 128) (sym c.front_len.ensures.len) c.requires.word.first in
    λ _. cut_after c.args.text.now c.args.place c.front_len.result c.utf8.text (omega (arith, c.requires.within, c.requires.some))
    (omega (arith, c.requires.within, c.requires.word.room, c.front_len.ensures.len)) first

pub range-requires-clause-end_boundary : goal.range-requires-clause-end_boundary
range-requires-clause-end_boundary c =
    let last : get_or (drop c.args.place c.args.text.now) (c.args.len - cond (c.back_len.result == 0) 1 c.back_len.result) 0 < 128 =
    subst (λ n. get_or (drop c.args.place c.args.text.now) (c.args.len - cond (n == 0) 1 n) 0 < 128) (sym c.back_len.ensures.len) c.requires.word.last in
    cut_before c.args.text.now c.args.place c.args.len c.back_len.result c.utf8.text c.requires.within c.requires.some
    (omega (arith, c.requires.word.room, c.back_len.ensures.len)) last
