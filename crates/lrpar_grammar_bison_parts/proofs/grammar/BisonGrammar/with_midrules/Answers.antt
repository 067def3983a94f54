use Rattle.std.proofs.Common.{◌≡◌, ◌∙◌, List, ap, Option, arith, length, map, option_map, subst, sym}
use Rattle.std.proofs.lemmas.List.{length-map}
use Rattle.lrpar_grammar_reader.specs.TextNames.{AreSpelled}
use Rattle.lrpar_grammar_reader.specs.Parts.{parts_of, prod_of, token_name_of}
use Rattle.lrpar_grammar_words.specs.Outline.{AreOfDefinedRules, HasOrderedSymbols, outline_of}
use Rattle.lrpar_grammar_words.specs.Words.{placed as text_placed}
use Rattle.lrpar_table_precedence.specs.declared.precedence.Precedence.{Precedence}
use Rattle.lrpar_table_precedence.specs.Precedence.{PrecedenceLists}
use Rattle.lrpar_grammar_bison_rules.specs.Aliases.{MapsAliases, alias_of}
use Rattle.lrpar_grammar_bison_rules.specs.Rules.{alternative_of, rank_of, rules_in}
use Rattle.lrpar_grammar_bison_parts.specs.Files.{file_ranks}
use Rattle.lrpar_grammar_bison_parts.specs.Midrules.{actions_of}
use Rattle.lrpar_grammar_bison_parts.specs.Outline.{file_outline, outline_by}
use Rattle.lrpar_grammar_bison_parts.specs.Precedences.{MapsRanks, Ranking, named_rank_of, named_ranks, prec_words, prod_slots, repeated_rank, token_slots}
use Rattle.lrpar_grammar_bison_parts.proofs.GrammarLemmas.{grammar_with}
use Rattle.lrpar_grammar_bison_parts.proofs.OutlineLemmas.{midrules_length, outline_defined, outline_ordered}
use Rattle.lrpar_grammar_bison_parts.proofs.grammar.BisonGrammar.with_midrules.Goals as goal

-- two lists of precedences are the same if both have the same precedences of tokens and of productions
lists_are : (x : PrecedenceLists) {tokens prods : List (Option Precedence)} → x.tokens ≡ tokens → x.prods ≡ prods
    → x ≡ record { tokens = tokens; prods = prods }
lists_are x {tokens} {prods} same others =
    let first : x ≡ record { tokens = tokens; prods = x.prods } = ap (λ (s : List (Option Precedence)). record { tokens = s; prods = x.prods }) same in
    let second : ◌≡◌ {A = PrecedenceLists} (record { tokens = tokens; prods = x.prods }) (record { tokens = tokens; prods = prods }) =
    ap (λ (s : List (Option Precedence)). record { tokens = tokens; prods = s }) others in
    first ∙ second

pub outline_of_file-requires-clause-midrules : goal.outline_of_file-requires-clause-midrules
outline_of_file-requires-clause-midrules g c =
    let r = rules_in c.args.rules.now in
    omega (
      arith,
      midrules_length 1 (actions_of r.alternatives),
      length-map c.args.midrules.now text_placed,
      ap length c.requires.midrules,
    )

pub checked_parts-requires-clause-rules : goal.checked_parts-requires-clause-rules
checked_parts-requires-clause-rules g c =
    let r = rules_in c.args.rules.now in
    let same : outline_of c.in_ok-outline.outline ≡ file_outline r = c.in_ok-outline.ensures ∙ ap (λ midrules. outline_by midrules r) c.requires.midrules in
    subst AreOfDefinedRules (sym same) (outline_defined r c.requires.defined)

pub checked_parts-requires-clause-order : goal.checked_parts-requires-clause-order
checked_parts-requires-clause-order g c =
    let r = rules_in c.args.rules.now in
    let same : outline_of c.in_ok-outline.outline ≡ file_outline r = c.in_ok-outline.ensures ∙ ap (λ midrules. outline_by midrules r) c.requires.midrules in
    subst HasOrderedSymbols (sym same) (outline_ordered r c.requires.order)

pub returns-clause-grammar : goal.returns-clause-grammar
returns-clause-grammar g c =
    let r = rules_in c.args.rules.now in
    let limit = g.StorageT.StorageIndex.limit in
    let index = g.StorageT.StorageIndex.index in
    let x = parts_of index c.in_ok-parts.parts in
    let same : outline_of c.in_ok-outline.outline ≡ file_outline r = c.in_ok-outline.ensures ∙ ap (λ midrules. outline_by midrules r) c.requires.midrules in
    let aliases : MapsAliases c.in_ok-aliases.aliases r.aliases =
    subst (λ s. MapsAliases c.in_ok-aliases.aliases (map alias_of s)) c.deref.ensures.value c.in_ok-aliases.ensures in
    let ranks : map named_rank_of c.in_ok-ranks.ranks.items ≡ file_ranks r =
    c.in_ok-ranks.ensures r.aliases aliases ∙ ap (λ s. named_ranks r.aliases (map rank_of s)) c.deref-2.ensures.value in
    let named : map named_rank_of c.deref-3.result.now ≡ file_ranks r = ap (map named_rank_of) c.deref-3.ensures.value ∙ ranks in
    let found : MapsRanks c.in_ok-by_name.by_name (file_ranks r) = subst (MapsRanks c.in_ok-by_name.by_name) named c.in_ok-by_name.ensures.found in
    let slots : c.in_ok-slots.slots.items ≡ token_slots (file_ranks r) x.tokens =
    c.in_ok-slots.ensures (file_ranks r) found ∙ ap (λ s. token_slots (file_ranks r) (map token_name_of s)) c.deref-4.ensures.value in
    let words : map (option_map text_placed) c.in_ok-words.words.items ≡ prec_words r.aliases r.alternatives =
    c.in_ok-words.ensures r.aliases aliases ∙ ap (λ s. prec_words r.aliases (map alternative_of s)) c.deref-5.ensures.value in
    let by : List (Option Precedence) → Ranking = λ s. record { ranks = file_ranks r; slots = s; is_default = r.has_default_prec } in
    let prods : c.in_ok-prods.prods.items ≡ prod_slots (by (token_slots (file_ranks r) x.tokens)) (prec_words r.aliases r.alternatives) x.prods =
    c.in_ok-prods.ensures (file_ranks r) found
    ∙ ap (λ s. prod_slots (by s) (map (option_map text_placed) c.deref-8.result.now) (map (prod_of index) c.deref-7.result.now)) (c.deref-6.ensures.value ∙ slots)
    ∙ ap (λ s. prod_slots (by (token_slots (file_ranks r) x.tokens)) (map (option_map text_placed) s) (map (prod_of index) c.deref-7.result.now)) c.deref-8.ensures.value
    ∙ ap (λ s. prod_slots (by (token_slots (file_ranks r) x.tokens)) s (map (prod_of index) c.deref-7.result.now)) words
    ∙ ap (λ s. prod_slots (by (token_slots (file_ranks r) x.tokens)) (prec_words r.aliases r.alternatives) (map (prod_of index) s)) c.deref-7.ensures.value in
    grammar_with index limit r _ x c.in_ok-check_numbers.ensures.sound (sym (ap repeated_rank named) ∙ c.in_ok-by_name.ensures.distinct)
    (subst (λ o. AreSpelled limit o x) same c.in_ok-parts.ensures.parts) c.in_ok-with_unquoted_tokens.ensures
    (lists_are c.from_slots.result (c.from_slots.ensures.tokens ∙ slots) (c.from_slots.ensures.prods ∙ prods))
