use Rattle.std.proofs.Common.{◌↔◌, ap, arith, IsTrue, length, subst}
use Rattle.lrpar_grammar.specs.Words.{AddsBelow, CoverBelow}
use Rattle.lrpar_grammar.proofs.TokenSetLemmas.{below_stays, covered_same, room_is, unites, unites_more}
use Rattle.lrpar_grammar.proofs.token_set.TokenSet.unite_below.Goals as goal

-- what the test found, of the words themselves
pub returns-then-cover_below-clause-tokens : goal.returns-then-cover_below-clause-tokens
returns-then-cover_below-clause-tokens c =
    let cover = subst (λ words. IsTrue c.cover_below.result ↔ CoverBelow words c.other.inside.words.items c.args.end) c.deref.ensures.value
    (subst (λ others. IsTrue c.cover_below.result ↔ CoverBelow c.deref.result.now others c.args.end) c.deref-2.ensures.value c.cover_below.ensures) in
    covered_same c.self.inside.len c.self.inside.words.items c.self.invariant c.args.self.now c.self.view_is c.other.inside.len c.other.inside.words.items c.other.invariant c.args.other.now c.other.view_is c.args.end (cover.0 c.if-cover_below.true)

pub add_below-requires : goal.add_below-requires
add_below-requires c =
    let room = room_is c.self.inside.len c.self.inside.words.items in
    let long = ap (λ bits. length bits) c.self.view_is in
    let words = c.self.invariant.room in
    omega (arith, room, long, words, c.requires.room)

pub invariant_of-self : goal.invariant_of-self
invariant_of-self c =
    let adds = subst (λ others. AddsBelow c.self.inside.words.items c.add_below.new.words.items others c.args.end) c.deref-3.ensures.value c.add_below.ensures.bits in
    below_stays c.self.inside.len c.self.inside.words.items c.self.invariant c.args.self.now c.self.view_is c.add_below.new.words.items c.other.inside.words.items c.args.end c.add_below.ensures.room adds c.requires.room

pub returns-clause-tokens : goal.returns-clause-tokens
returns-clause-tokens c =
    let adds = subst (λ others. AddsBelow c.self.inside.words.items c.add_below.new.words.items others c.args.end) c.deref-3.ensures.value c.add_below.ensures.bits in
    unites c.self.inside.len c.self.inside.words.items c.self.invariant c.args.self.now c.self.view_is c.add_below.new.words.items c.other.inside.words.items c.args.end c.add_below.ensures.room adds c.requires.room
    c.other.inside.len c.other.invariant c.args.other.now c.other.view_is

pub returns-clause-grown : goal.returns-clause-grown
returns-clause-grown c =
    let adds = subst (λ others. AddsBelow c.self.inside.words.items c.add_below.new.words.items others c.args.end) c.deref-3.ensures.value c.add_below.ensures.bits in
    let cover = subst (λ words. IsTrue c.cover_below.result ↔ CoverBelow words c.other.inside.words.items c.args.end) c.deref.ensures.value
    (subst (λ others. IsTrue c.cover_below.result ↔ CoverBelow c.deref.result.now others c.args.end) c.deref-2.ensures.value c.cover_below.ensures) in
    unites_more c.self.inside.len c.self.inside.words.items c.self.invariant c.args.self.now c.self.view_is c.add_below.new.words.items c.other.inside.words.items c.args.end c.add_below.ensures.room adds c.requires.room
    c.other.inside.len c.other.invariant c.args.other.now c.other.view_is
    (λ covered. let found = c.if-cover_below.false in let is = cover.1 covered in absurd (cc))
