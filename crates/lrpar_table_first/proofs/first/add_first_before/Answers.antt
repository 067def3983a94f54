use Rattle.std.proofs.Common.{◌∙◌, inl, inr, sym, map}
use Rattle.std.proofs.lemmas.Bool.{false≢true}
use Rattle.lrpar_grammar.specs.Grammar.{rules_len, tokens_len}
use Rattle.lrpar_grammar.specs.Symbols.{symbol_of}
use Rattle.lrpar_table_first.specs.FirstRows.{rows_of}
use Rattle.lrpar_table_first.proofs.BeforeLemmas.{added_before, added_through, symbols_below}
use Rattle.lrpar_table_first.proofs.first.add_first_before.Goals as goal

pub returns-then-not-has_any-clause-tokens : goal.returns-then-not-has_any-clause-tokens
returns-then-not-has_any-clause-tokens g c =
    λ t. (
      λ h. inl h,
      λ h. elim h [
        | inl old ↦ old
        | inr first ↦ absurd (false≢true (sym c.if-not-has_any.true ∙ c.has_any.ensures.1 (first.0, first.1)))
      ],
    )

pub returns-else-contains-clause-tokens : goal.returns-else-contains-clause-tokens
returns-else-contains-clause-tokens g c =
    let grm = c.args.grm.now in
    let free = symbols_below (rules_len grm) (tokens_len grm) (map (symbol_of g.StorageT.StorageIndex.index) c.args.symbols.now) c.requires.symbols in
    added_before grm c.requires.firsts.0 (rows_of c.args.sets.now) c.requires.firsts.1 _ free c.args.after.now c.clear.new.self
    c.add_first.new.front c.args.set.now c.unite_below-new.new.self _ (c.has_any.ensures.0 c.if-not-has_any.false)
    c.tokens_len-dummy.ensures.len c.clear.ensures.none c.add_first.ensures.tokens c.unite_below-new.ensures.tokens (sym c.contains.ensures ∙ c.if-contains.false)

pub returns-then-contains-clause-tokens : goal.returns-then-contains-clause-tokens
returns-then-contains-clause-tokens g c =
    let grm = c.args.grm.now in
    let free = symbols_below (rules_len grm) (tokens_len grm) (map (symbol_of g.StorageT.StorageIndex.index) c.args.symbols.now) c.requires.symbols in
    added_through grm c.requires.firsts.0 (rows_of c.args.sets.now) c.requires.firsts.1 _ free c.args.after.now c.clear.new.self
    c.add_first.new.front c.args.set.now c.unite_below-new.new.self _ (c.has_any.ensures.0 c.if-not-has_any.false)
    c.tokens_len-dummy.ensures.len c.clear.ensures.none c.add_first.ensures.tokens c.unite_below-new.ensures.tokens c.unite_below-more.new.self
    c.requires.after (sym c.contains.ensures ∙ c.if-contains.true) c.unite_below-more.ensures.tokens
