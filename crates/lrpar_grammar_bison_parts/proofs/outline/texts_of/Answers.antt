use Rattle.std.proofs.Common.{◌≡◌, ◌∙◌, ap, get_or, map}
use Rattle.std.specs.Option.{option_map_or}
use Rattle.lrpar_grammar_words.specs.Words.{placed as text_placed}
use Rattle.lrpar_grammar_bison_rules.specs.Aliases.{alias_of, token_with, turned}
use Rattle.lrpar_grammar_reader.proofs.GrowthLemmas.{made_more}
use Rattle.lrpar_grammar_bison_parts.specs.Outline.{text_of}
use Rattle.lrpar_grammar_bison_parts.specs.Symbols.{text_word}
use Rattle.lrpar_grammar_bison_parts.proofs.MidruleLemmas.{no_rule}
use Rattle.lrpar_grammar_bison_parts.proofs.outline.texts_of.Goals as goal

pub loop-token-preserved : goal.loop-token-preserved
loop-token-preserved c =
    let aliases = map alias_of c.args.aliases.now in
    let w = get_or c.args.tokens.now c.loop-token.token-index no_rule in
    let others : map alias_of c.deref.result.now ≡ map turned aliases = ap (map alias_of) c.deref.ensures.value ∙ c.in_ok-others.ensures in
    made_more text_placed (text_of aliases) text_placed c.loop-token.texts.items c.push.new.self.items c.text_of.result c.args.tokens.now c.loop-token.token-index no_rule c.loop-token-test.true
    c.in_ok-push.ensures.items
    (c.text_of.ensures (map alias_of c.deref.result.now) c.in_ok-found.ensures ∙ ap (λ xs. option_map_or text_word (token_with xs w.name.now) (text_placed w)) others)
    c.loop-token.invariant
