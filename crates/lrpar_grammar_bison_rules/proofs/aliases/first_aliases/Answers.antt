use Rattle.std.proofs.Common.{◌≡◌, ◌∙◌, ◌+◌, ◌++◌, ◌∷◌, [], true, false, drop, get_or, map, sym, subst, refl, ap, Some}
use Rattle.std.proofs.lemmas.List.{map-append}
use Rattle.std.proofs.lemmas.Map.Text.{btree_map_updates_str}
use Rattle.lrpar_grammar_bison.specs.declared.words.Word.{Word}
use Rattle.lrpar_grammar_bison.specs.declared.words.WordKind.TheVariants.{Name}
use Rattle.lrpar_grammar_bison_rules.specs.declared.aliases.Alias.{Alias}
use Rattle.lrpar_grammar_bison_rules.specs.Aliases.{MapsAliases, alias_of, is_new, turned, with_aliases}
use Rattle.lrpar_grammar_bison_rules.proofs.AliasLemmas.{alias_more, aliases_step, among_texts, text_absent, token_absent}
use Rattle.lrpar_grammar_bison_rules.proofs.aliases.first_aliases.Goals as goal
use Rattle.lrpar_grammar_bison_rules.proofs.aliases.first_aliases.Goals.{then-is_new+in_ok-push+in_ok-insert+in_ok-insert-2, else-is_new}

-- any word
abbrev no_word : Word
no_word = record { kind = Name; name = record { ref_ptr = (0, 0); now = [] }; len = 0; end = 0 }

pub loop-alias-preserved : goal.loop-alias-preserved
loop-alias-preserved c =
    let aliases = c.args.aliases.now in
    let i = c.loop-alias.alias-index in
    let none : Alias = record { token = no_word; text = no_word } in
    let x = get_or aliases i none in
    let before = c.loop-alias in
    let kept = map alias_of before.first.items in
    let rest = map alias_of (drop (i + 1) aliases) in
    let new : is_new kept (alias_of x) ≡ c.is_new.result = sym (c.is_new.ensures kept before.invariant.tokens before.invariant.texts) in
    elim c.if-is_new.branch [
      | then-is_new+in_ok-push+in_ok-insert+in_ok-insert-2 w ↦
          let yes : is_new kept (alias_of x) ≡ true = new ∙ w.if-is_new.true in
          let items : map alias_of c.if-is_new.first.items ≡ kept ++ alias_of x ∷ [] =
          ap (λ v. map alias_of v.items) w.first-is ∙ ap (map alias_of) w.in_ok-push.ensures.items ∙ map-append alias_of before.first.items (x ∷ []) in
          let others : map turned (map alias_of c.if-is_new.first.items) ≡ map turned kept ++ turned (alias_of x) ∷ [] =
          ap (map turned) items ∙ map-append turned kept (alias_of x ∷ []) in
          record {
            first = before.invariant.first ∙ aliases_step kept aliases i none true c.loop-alias-test.true yes ∙ ap (λ s. with_aliases s rest) (sym items);
            tokens = subst (MapsAliases c.if-is_new.tokens) (sym items)
                (subst (λ n. MapsAliases n (kept ++ alias_of x ∷ [])) (sym w.tokens-is)
                (alias_more before.tokens w.insert.new.self kept (alias_of x) x.token refl before.invariant.tokens
                (among_texts before.tokens kept x.text.name.now before.invariant.tokens ∙ text_absent kept (alias_of x) yes)
                (btree_map_updates_str x.text.name.now before.tokens w.insert.new.self (Some x.token) w.in_ok-insert.ensures.updates)));
            texts = subst (MapsAliases c.if-is_new.texts) (sym others)
                (subst (λ n. MapsAliases n (map turned kept ++ turned (alias_of x) ∷ [])) (sym w.texts-is)
                (alias_more before.texts w.insert-then-is_new.new.self (map turned kept) (turned (alias_of x)) x.text refl before.invariant.texts
                (among_texts before.texts (map turned kept) x.token.name.now before.invariant.texts ∙ token_absent kept (alias_of x) yes)
                (btree_map_updates_str x.token.name.now before.texts w.insert-then-is_new.new.self (Some x.text) w.in_ok-insert-2.ensures.updates)));
          }
      | else-is_new w ↦
          let no : is_new kept (alias_of x) ≡ false = new ∙ w.if-is_new.false in
          let items : map alias_of c.if-is_new.first.items ≡ kept = ap (λ v. map alias_of v.items) w.first-is in
          record {
            first = before.invariant.first ∙ aliases_step kept aliases i none false c.loop-alias-test.true no ∙ ap (λ s. with_aliases s rest) (sym items);
            tokens = subst (MapsAliases c.if-is_new.tokens) (sym items) (subst (λ n. MapsAliases n kept) (sym w.tokens-is) before.invariant.tokens);
            texts = subst (λ s. MapsAliases c.if-is_new.texts (map turned s)) (sym items) (subst (λ n. MapsAliases n (map turned kept)) (sym w.texts-is) before.invariant.texts);
          }
    ]
