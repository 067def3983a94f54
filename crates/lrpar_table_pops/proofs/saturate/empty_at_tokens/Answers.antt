use Rattle.std.proofs.Common.{arith, subst, sym, ap}
use Rattle.lrpar_table_rows.specs.Table.{FailsPastTokens, Table}
use Rattle.lrpar_table_pops.specs.StoredPops.{HaveNoExits}
use Rattle.lrpar_table_pops.proofs.KeptLemmas.{ArePlacesAt, longer, places_all, places_pushed}
use Rattle.lrpar_table_pops.proofs.StoredLemmas.{no_exits_pushed}
use Rattle.lrpar_table_pops.proofs.saturate.empty_at_tokens.Goals as goal

pub tokens-preserved : goal.tokens-preserved
tokens-preserved g c =
    let d = c.args.checked.now in
    let s = g.StorageT.StorageIndex.index c.args.state.0 in
    let l = c.tokens in
    let lists = l.at.items in
    let exits = c.in_ok-exits.exits in
    let pushed = c.in_ok-push.ensures.items in
    record {
      none = subst HaveNoExits (sym pushed) (no_exits_pushed lists exits l.invariant.none c.in_ok-exits.ensures.none);
      len = longer lists c.push.new.self.items exits l.number pushed l.invariant.len;
      places = subst (ArePlacesAt d.grammar d.graph d.table s) (sym pushed)
          (places_pushed d.grammar d.graph d.table s l.number lists exits l.invariant.len c.in_ok-exits.ensures.places l.invariant.places);
    }

pub returns-clause-places : goal.returns-clause-places
returns-clause-places g c = λ is.
    let d = c.args.checked.now in
    let s = g.StorageT.StorageIndex.index c.args.state.0 in
    let end = c.tokens-test.false in
    let tokens = c.tokens_len-number-end.ensures.tokens in
    let same = ap (λ (x : Table). x.tokens) c.stable.ensures.table in
    let past = subst FailsPastTokens c.stable.ensures.table c.tokens_len-number-end.ensures.end in
    places_all d.grammar d.graph d.table s c.tokens.number c.tokens.at.items c.tokens.invariant.len (omega (arith, end, tokens, same)) past c.tokens.invariant.places
