use Rattle.std.proofs.Common.{◌++◌, ◌∷◌, [], get_or, map, take, sym, subst, refl, Some, ◌∙◌}
use Rattle.std.proofs.lemmas.List.{map_more}
use Rattle.std.proofs.lemmas.Map.Text.{btree_map_updates_str}
use Rattle.lrpar_grammar_bison_rules.specs.declared.aliases.Alias.{Alias}
use Rattle.lrpar_grammar_bison_rules.specs.Aliases.{MapsAliases, alias_of}
use Rattle.lrpar_grammar_bison_parts.proofs.MidruleLemmas.{no_word}
use Rattle.lrpar_grammar_bison_rules.proofs.AliasLemmas.{alias_had, alias_more}
use Rattle.lrpar_grammar_bison_parts.proofs.symbols.alias_map.Goals as goal
use Rattle.lrpar_grammar_bison_parts.proofs.symbols.alias_map.Goals.{then-not-contains_key+in_ok-insert, else-not-contains_key}

pub loop-alias-preserved : goal.loop-alias-preserved
loop-alias-preserved c =
    let aliases = c.args.aliases.now in
    let i = c.loop-alias.alias-index in
    let none : Alias = record { token = no_word; text = no_word } in
    let x = get_or aliases i none in
    let before = map alias_of (take i aliases) in
    let m = c.loop-alias.tokens in
    subst (MapsAliases c.if-not-contains_key.tokens) (sym (map_more alias_of aliases i none c.loop-alias-test.true))
    (elim c.if-not-contains_key.branch [
      | then-not-contains_key+in_ok-insert w ↦
          subst (λ n. MapsAliases n (before ++ alias_of x ∷ [])) (sym w.tokens-is)
          (alias_more m w.insert.new.self before (alias_of x) x.token refl c.loop-alias.invariant (sym c.contains_key.ensures ∙ w.if-not-contains_key.true)
          (btree_map_updates_str x.text.name.now m w.insert.new.self (Some x.token) w.in_ok-insert.ensures.updates))
      | else-not-contains_key w ↦
          subst (λ n. MapsAliases n (before ++ alias_of x ∷ [])) (sym w.tokens-is) (alias_had m before (alias_of x) c.loop-alias.invariant (sym c.contains_key.ensures ∙ w.if-not-contains_key.false))
    ])
