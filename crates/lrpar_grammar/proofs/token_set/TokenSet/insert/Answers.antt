use Rattle.std.proofs.Common.{ap, arith, length}
use Rattle.lrpar_grammar.proofs.TokenSetLemmas.{bit_stays, puts_token, room_is}
use Rattle.lrpar_grammar.proofs.token_set.TokenSet.insert.Goals as goal

pub insert_bit-requires : goal.insert_bit-requires
insert_bit-requires c =
    let room = room_is c.self.inside.len c.self.inside.words.items in
    let long = ap (λ bits. length bits) c.self.view_is in
    let words = c.self.invariant.room in
    omega (arith, room, long, words, c.requires)

pub invariant_of-self : goal.invariant_of-self
invariant_of-self c = bit_stays c.self.inside.len c.self.inside.words.items c.self.invariant c.args.self.now c.self.view_is c.insert_bit.new.words.items c.args.token c.insert_bit.ensures.room c.insert_bit.ensures.bits c.requires

pub returns-clause-tokens : goal.returns-clause-tokens
returns-clause-tokens c = puts_token c.self.inside.len c.self.inside.words.items c.self.invariant c.args.self.now c.self.view_is c.insert_bit.new.words.items c.args.token c.insert_bit.ensures.room c.insert_bit.ensures.bits c.requires
