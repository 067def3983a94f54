use Rattle.std.proofs.Common.{◌≡◌, ◌<◌, ◌+◌, ◌∙◌, ap, arith, length}
use Rattle.std.proofs.lemmas.Bool.{OnFalse_at, OnFalse_from, OnTrue_at, OnTrue_from}
use Rattle.std.proofs.lemmas.List.Elements.{All-get_or}
use Rattle.lrpar_table_first.specs.FirstRows.{dummy_lookahead, row_at, rows_of}
use Rattle.lrpar_table_first.proofs.GrowthLemmas.{grown_closed, grown_less, grown_room, grown_same, grown_sound, row_in, sets_len}
use Rattle.lrpar_table_first.proofs.SymbolLemmas.{prod_symbols}
use Rattle.lrpar_table_first.proofs.first.grow.Goals as goal

pub add_first-requires-clause-rules : goal.add_first-requires-clause-rules
add_first-requires-clause-rules g c =
    let grm = c.args.grm.now in
    let p = g.StorageT.StorageIndex.index c.args.pidx.0 in
    rw (sets_len grm c.args.sets.now c.requires.room.0, c.tokens_len-dummy.ensures.len, c.prod.ensures) (prod_symbols grm c.requires.well_formed p c.requires.prod)

pub add_first-requires-clause-wide : goal.add_first-requires-clause-wide
add_first-requires-clause-wide g c = rw c.tokens_len-dummy.ensures.len c.requires.room.0.wide

pub unite_below-requires : goal.unite_below-requires
unite_below-requires g c =
    let sets = c.args.sets.now in
    let count = sets_len c.args.grm.now sets c.requires.room.0 in
    let within : c.from-rule.result < length sets = omega (arith, count, c.from-rule.ensures, c.prod_to_rule.ensures.within) in
    let row = row_in sets c.from-rule.result c.index-sets-rule.result within in
    let wide : length (row_at (rows_of sets) c.from-rule.result) ≡ dummy_lookahead c.args.grm.now + 1 =
    All-get_or (λ row. length row ≡ dummy_lookahead c.args.grm.now + 1) (rows_of sets) c.from-rule.result _ (rw c.requires.room.0.rules (omega (arith, c.from-rule.ensures, c.prod_to_rule.ensures.within))) c.requires.room.0.wide in
    rw row (omega (arith, wide, c.tokens_len-dummy.ensures.len))

pub returns-clause-room : goal.returns-clause-room
returns-clause-room g c =
    let front = c.add_first.ensures.front ∙ ap (λ n. n + 1) c.tokens_len-dummy.ensures.len in (
      grown_room c.args.grm.now c.requires.well_formed c.args.sets.now (g.StorageT.StorageIndex.index c.args.pidx.0) c.from-rule.result c.tokens_len-dummy.result
          c.requires.prod (c.from-rule.ensures ∙ c.prod_to_rule.ensures.rule) (rw (← c.prod_to_rule.ensures.rule) c.prod_to_rule.ensures.within) c.tokens_len-dummy.ensures.len c.requires.room.0 c.index-sets-rule.result
          c.unite_below.new.self c.add_first.new.front c.clear.new.self _ c.prod.ensures c.clear.ensures.none c.add_first.ensures.tokens
          front c.unite_below.ensures.room c.unite_below.ensures.tokens,
      front,
    )

pub returns-clause-sound : goal.returns-clause-sound
returns-clause-sound g c =
    grown_sound c.args.grm.now c.requires.well_formed c.args.sets.now (g.StorageT.StorageIndex.index c.args.pidx.0) c.from-rule.result c.tokens_len-dummy.result
    c.requires.prod (c.from-rule.ensures ∙ c.prod_to_rule.ensures.rule) (rw (← c.prod_to_rule.ensures.rule) c.prod_to_rule.ensures.within) c.tokens_len-dummy.ensures.len c.requires.room.0 c.index-sets-rule.result
    c.unite_below.new.self c.add_first.new.front c.clear.new.self _ c.prod.ensures c.clear.ensures.none c.add_first.ensures.tokens
    (c.add_first.ensures.front ∙ ap (λ n. n + 1) c.tokens_len-dummy.ensures.len) c.unite_below.ensures.room c.unite_below.ensures.tokens

pub returns-clause-grown : goal.returns-clause-grown
returns-clause-grown g c =
    OnTrue_from c.unite_below.result _ (λ e. grown_less c.args.grm.now c.requires.well_formed c.args.sets.now (g.StorageT.StorageIndex.index c.args.pidx.0) c.from-rule.result c.tokens_len-dummy.result
    c.requires.prod (c.from-rule.ensures ∙ c.prod_to_rule.ensures.rule) (rw (← c.prod_to_rule.ensures.rule) c.prod_to_rule.ensures.within) c.tokens_len-dummy.ensures.len c.requires.room.0 c.index-sets-rule.result
    c.unite_below.new.self c.add_first.new.front c.clear.new.self _ c.prod.ensures c.clear.ensures.none c.add_first.ensures.tokens
    (c.add_first.ensures.front ∙ ap (λ n. n + 1) c.tokens_len-dummy.ensures.len) c.unite_below.ensures.room c.unite_below.ensures.tokens
    (OnTrue_at e c.unite_below.ensures.grown))

pub returns-clause-same : goal.returns-clause-same
returns-clause-same g c =
    OnFalse_from c.unite_below.result _ (λ e. grown_same c.args.grm.now c.requires.well_formed c.args.sets.now (g.StorageT.StorageIndex.index c.args.pidx.0) c.from-rule.result c.tokens_len-dummy.result
    c.requires.prod (c.from-rule.ensures ∙ c.prod_to_rule.ensures.rule) (rw (← c.prod_to_rule.ensures.rule) c.prod_to_rule.ensures.within) c.tokens_len-dummy.ensures.len c.requires.room.0 c.index-sets-rule.result
    c.unite_below.new.self c.add_first.new.front c.clear.new.self _ c.prod.ensures c.clear.ensures.none c.add_first.ensures.tokens
    (c.add_first.ensures.front ∙ ap (λ n. n + 1) c.tokens_len-dummy.ensures.len) c.unite_below.ensures.room c.unite_below.ensures.tokens
    (OnFalse_at e c.unite_below.ensures.same))

pub returns-clause-closed : goal.returns-clause-closed
returns-clause-closed g c =
    OnFalse_from c.unite_below.result _ (λ e. grown_closed c.args.grm.now c.requires.well_formed c.args.sets.now (g.StorageT.StorageIndex.index c.args.pidx.0) c.from-rule.result c.tokens_len-dummy.result
    c.requires.prod (c.from-rule.ensures ∙ c.prod_to_rule.ensures.rule) (rw (← c.prod_to_rule.ensures.rule) c.prod_to_rule.ensures.within) c.tokens_len-dummy.ensures.len c.requires.room.0 c.index-sets-rule.result
    c.unite_below.new.self c.add_first.new.front c.clear.new.self _ c.prod.ensures c.clear.ensures.none c.add_first.ensures.tokens
    (c.add_first.ensures.front ∙ ap (λ n. n + 1) c.tokens_len-dummy.ensures.len) c.unite_below.ensures.room c.unite_below.ensures.tokens
    (OnFalse_at e c.unite_below.ensures.same))
