use Rattle.std.proofs.Common.{◌≡◌, ◌<◌, ◌∙◌, ℕ, List, arith, ap, bytes_eq, length, map}
use Rattle.std.specs.Map.{lookup}
use Rattle.std.specs.Option.{option_and_then, option_map_or, option_or}
use Rattle.std.specs.Vec.{with_items}
use Rattle.std.proofs.lemmas.List.{with_items_is}
use Rattle.lrpar_grammar.specs.Grammar.{symbols_of}
use Rattle.lrpar_grammar_yacc.specs.Declares.{level_of, prec_of}
use Rattle.lrpar_table_levels.specs.ByName.{name_entries, prec_of_prod, precedence_in, precedence_of_name, token_by_name}
use Rattle.lrpar_table_precedence.specs.Precedence.{slot_at}
use Rattle.lrpar_table_levels.specs.Levels.{last_token}
use Rattle.lrpar_table_levels.proofs.LevelLemmas.{and_then_same}
use Rattle.lrpar_table_levels.proofs.NameLemmas.{named_or, slot_of_token}
use Rattle.lrpar_table_levels.proofs.declared.precedences_of_declarations.Goals as goal

pub returns-clause-tokens : goal.returns-clause-tokens
returns-clause-tokens g c = λ t.
    let levels = map level_of c.args.declarations.now.levels.items in
    ap (λ s. slot_at s t) (c.from_slots.ensures.tokens ∙ c.in_ok-tokens.ensures)
    ∙ slot_of_token (precedence_in c.in_ok-names.names) (precedence_of_name levels)
    (λ q. c.in_ok-names.ensures q ∙ ap (λ ls. lookup (bytes_eq q) (name_entries (map level_of ls))) c.deref.ensures.value)
    (c.args.grm.now).tokens t

pub returns-clause-prods : goal.returns-clause-prods
returns-clause-prods g c = λ p below.
    let grm = c.args.grm.now in
    let levels = map level_of c.args.declarations.now.levels.items in
    let has : (q : List ℕ) → precedence_in c.in_ok-names.names q ≡ precedence_of_name levels q =
    λ q. c.in_ok-names.ensures q ∙ ap (λ ls. lookup (bytes_eq q) (name_entries (map level_of ls))) c.deref.ensures.value in
    let tokens : (t : ℕ) → slot_at c.deref-2.result.now t ≡ token_by_name grm levels t =
    λ t. ap (λ s. slot_at s t) (c.deref-2.ensures.value ∙ c.in_ok-tokens.ensures) ∙ slot_of_token (precedence_in c.in_ok-names.names) (precedence_of_name levels) has grm.tokens t in
    let first = c.add_last_tokens.new.prods in
    let second = c.assign_precs.new.prods in
    let inner = with_items c.in_ok-prods.prods first in
    let len : length first ≡ c.in_ok-prods.prods.len = omega (arith, c.add_last_tokens.auto.prods, c.deref_mut.ensures.len, c.in_ok-prods.prods.ok.0) in
    let room : length c.deref_mut-2.result.now ≡ length first = ap length (c.deref_mut-2.ensures.value ∙ with_items_is c.in_ok-prods.prods first len) in
    let full : c.in_ok-prods.prods.len ≡ length c.in_ok-prods.prods.items = c.in_ok-prods.prods.ok.0 in
    let len_too : length second ≡ inner.len = omega (arith, c.assign_precs.auto.prods, c.deref_mut-2.ensures.len, room, len) in
    let low : p < length c.deref_mut-2.result.now = omega (arith, below, room, len, full, c.in_ok-prods.ensures.len, c.prods_len.ensures.len) in
    let last = last_token (symbols_of grm p) in
    let slots : slot_at c.deref_mut-2.result.now p ≡ option_and_then (token_by_name grm levels) last =
    ap (λ s. slot_at s p) (c.deref_mut-2.ensures.value ∙ with_items_is c.in_ok-prods.prods first len) ∙ c.add_last_tokens.ensures p below
    ∙ ap (λ s. option_or (slot_at s p) (option_and_then (slot_at c.deref-2.result.now) last)) c.deref_mut.ensures.value
    ∙ ap (λ o. option_or o (option_and_then (slot_at c.deref-2.result.now) last)) (c.in_ok-prods.ensures.empty p)
    ∙ and_then_same (slot_at c.deref-2.result.now) (token_by_name grm levels) tokens last in
    ap (λ s. slot_at s p) (c.from_slots.ensures.prods ∙ with_items_is inner second len_too) ∙ c.assign_precs.ensures p low
    ∙ ap (λ precs. option_map_or (λ x. precedence_in c.in_ok-names.names x.name.name) (prec_of_prod (map prec_of precs) p) (slot_at c.deref_mut-2.result.now p)) c.deref-3.ensures.value
    ∙ named_or (precedence_in c.in_ok-names.names) (precedence_of_name levels) has (prec_of_prod (map prec_of c.args.declarations.now.precs.items) p) (slot_at c.deref_mut-2.result.now p)
    (option_and_then (token_by_name grm levels) last) slots
