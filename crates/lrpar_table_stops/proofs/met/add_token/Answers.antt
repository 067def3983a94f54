use Rattle.std.proofs.Common.{◌≡◌, ◌∙◌, ◌||◌, ◌==◌, ap, sym, length, [], List, Bool, false}
use Rattle.std.proofs.lemmas.List.{get_or_default}
use Rattle.lrpar_grammar.specs.Tokens.{PutsToken, has}
use Rattle.lrpar_table_first.specs.FirstRows.{row_at}
use Rattle.lrpar_table_stops.specs.Met.{is_met}
use Rattle.lrpar_table_stops.proofs.MetLemmas.{fewer, right_more}
use Rattle.lrpar_table_stops.proofs.met.add_token.Goals as goal

pub returns-clause-right : goal.returns-clause-right
returns-clause-right c =
    let row = get_or_default c.args.sets.now c.args.state c.index-sets-state-2.result [] c.requires.room.0 in
    let room : length c.insert.new.self ≡ length (row_at c.args.sets.now c.args.state) = c.insert.ensures.room ∙ ap (λ (r : List Bool). length r) row in
    let put : PutsToken (row_at c.args.sets.now c.args.state) c.insert.new.self c.args.token =
    λ t. c.insert.ensures.tokens t ∙ ap (λ r. has r t || t == c.args.token) row in
    λ g table are looks. right_more c.args.sets.now c.args.state c.args.token c.insert.new.self c.requires.room.0 room put g table are looks

pub returns-clause-grown : goal.returns-clause-grown
returns-clause-grown c =
    let row = get_or_default c.args.sets.now c.args.state c.index-sets-state-2.result [] c.requires.room.0 in
    let room : length c.insert.new.self ≡ length (row_at c.args.sets.now c.args.state) = c.insert.ensures.room ∙ ap (λ (r : List Bool). length r) row in
    let put : PutsToken (row_at c.args.sets.now c.args.state) c.insert.new.self c.args.token =
    λ t. c.insert.ensures.tokens t ∙ ap (λ r. has r t || t == c.args.token) row in
    let fresh : is_met c.args.sets.now c.args.state c.args.token ≡ false =
    ap (λ r. has r c.args.token) (sym (get_or_default c.args.sets.now c.args.state _ [] c.requires.room.0)) ∙ sym c.contains.ensures ∙ c.if-contains.false in
    fewer c.args.sets.now c.args.state c.args.token c.insert.new.self c.requires.room.0 room put fresh
