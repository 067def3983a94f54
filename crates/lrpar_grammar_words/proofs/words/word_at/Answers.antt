use Rattle.lrpar_grammar_words.proofs.WordsLemmas.{starts_char, ends_char}
use Rattle.lrpar_grammar_words.proofs.words.word_at.Goals as goal

pub range-requires-clause-start_boundary : goal.range-requires-clause-start_boundary
range-requires-clause-start_boundary c = λ _.
    starts_char c.args.text.now c.args.place c.args.len c.quote_len-quote.result c.utf8.text c.requires.within c.requires.some
    c.quote_len-quote.ensures.few c.requires.word.first

pub range-requires-clause-end_boundary : goal.range-requires-clause-end_boundary
range-requires-clause-end_boundary c =
    ends_char c.args.text.now c.args.place c.args.len c.quote_len-quote.result c.utf8.text c.requires.within c.requires.some
    c.quote_len-quote.ensures.few c.requires.word.last
