use Rattle.std.proofs.Common.{◌≡◌, ◌∙◌, ap, map, not, refl, sym}
use Rattle.std.proofs.lemmas.Iterator.Adapters.{YieldsList-from_vec}
use Rattle.std.proofs.lemmas.Iterator.Consumers.{YieldsList-end}
use Rattle.std.proofs.lemmas.List.{append-nil, map-id}
use Rattle.lrpar_grammar.specs.Symbols.{symbol_of}
use Rattle.lrpar_table_sentences.specs.Moves.{forest_moves, moves_in}
use Rattle.lrpar_table_stacks.specs.Expected.{tokens_of}
use Rattle.lrpar_parse_completion.proofs.TakeLemmas.{all_taken, made_more, none_refuses, some_trees, taken_more}
use Rattle.lrpar_parse_completion.proofs.completer.push_rest.Goals as goal

pub returns-then-is_none : goal.returns-then-is_none
returns-then-is_none g c =
    let index = g.StorageT.StorageIndex.index in
    let grm = c.args.grm.now in
    let none = none_refuses grm _ (map (symbol_of index) c.args.symbols.now) c.len_of_all.result (c.len_of_all.ensures.shortest grm c.requires.shortest)
    (c.is_none.ensures ∙ ap not c.if-is_none.true) in
    record { pushed = λ some. absurd (cc); some = λ trees. absurd (none trees) }

pub push_all_moves-requires-clause-some : goal.push_all_moves-requires-clause-some
push_all_moves-requires-clause-some g c =
    let index = g.StorageT.StorageIndex.index in
    let grm = c.args.grm.now in
    (some_trees grm _ (map (symbol_of index) c.args.symbols.now) c.len_of_all.result (c.len_of_all.ensures.shortest grm c.requires.shortest)
    (c.is_none.ensures ∙ ap not c.if-is_none.false))

pub loop-step-init : goal.loop-step-init
loop-step-init g c = sym (append-nil (tokens_of g.StorageT.StorageIndex.index c.args.tokens.now.items))

pub loop-step-preserved : goal.loop-step-preserved
loop-step-preserved g c =
    let index = g.StorageT.StorageIndex.index in
    let l = c.loop-step in
    taken_more index (tokens_of index c.args.tokens.now.items) l.yielded l.tokens.items c.push.new.self.items c.in-Some.step c.in-Take.token c.in-Take.is
    c.in_ok-push.ensures.items l.invariant

pub loop-step-preserved-in_default : goal.loop-step-preserved-in_default
loop-step-preserved-in_default g c =
    let index = g.StorageT.StorageIndex.index in
    let l = c.loop-step in
    made_more index (tokens_of index c.args.tokens.now.items) l.yielded l.tokens.items c.in-Some.step c.in_default.not-Take l.invariant

pub returns : goal.returns
returns g c =
    let index = g.StorageT.StorageIndex.index in
    let l = c.loop-step in
    let moves = c.push_all_moves.new.out in
    let made = c.into_iter-step-iterator.ensures.into_iter_gives in
    let end =
    YieldsList-end (YieldsList-from_vec {s = c.into_iter-step-iterator.result} moves.items made.0 (made.1 ∙ moves.ok.0))
    l.yielded l.step-iterator l.yielded_by c.next.result c.next.new.self c.in-None.is c.next.ensures.steps in
    let all : l.yielded ≡ moves.items = sym (map-id l.yielded) ∙ end.0 in
    let trees = c.in_ok-push_all_moves.ensures in
    let are : moves_in index moves.items ≡ forest_moves trees.0 = rw c.new-moves.ensures.items at trees.2 in
    record {
      pushed = λ some. (trees.0, trees.1, all_taken index (tokens_of index c.args.tokens.now.items) l.yielded l.tokens.items trees.0 (ap (moves_in index) all ∙ are) l.invariant);
      some = λ trees. refl;
    }
