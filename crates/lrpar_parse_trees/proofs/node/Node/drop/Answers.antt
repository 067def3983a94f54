use Rattle.std.proofs.Common.{rules, ◌≡◌, ◌+◌, ◌<◌, [], ◌∷◌, length, ap, arith, refl}
use Rattle.lrpar_parse_trees.proofs.WeightLemmas.{weight, weights, left_weight, weight_some, weight_term, weight_nonterm, wraps, falls_fewer, weights_append, weight_unless_empty}
use Rattle.lrpar_parse_trees.proofs.node.Node.drop.Goals as goal
use Rattle.lrpar_parse_trees.proofs.node.Node.drop.Goals.{in-Term, in-Nonterm, then-is_empty, else-is_empty+in-None}

pub loop-self-smaller-in-Some : goal.loop-self-smaller-in-Some
loop-self-smaller-in-Some g c =
    let some = weight_some c.loop-self.left c.in-Some.others c.in-Some.is in
    let full : 0 < length c.in-Nonterm.nodes.items = search rules in
    let less = wraps c.in-Nonterm.ridx c.in-Nonterm.nodes c.in-Some.others _ c.loop-self.self c.replace-self.result c.replace-self.new.dest
    c.in-Nonterm.is refl c.replace-self.ensures.after (search rules) full in
    rw some less

pub loop-self-smaller : goal.loop-self-smaller
loop-self-smaller g c =
    let popped : weights c.in-Some-left.nodes.items ≡ weights c.pop.new.self.items + weight c.in-Some-pop.node =
    rw c.in-Some-pop.ensures.items (omega (arith, weights_append c.pop.new.self.items (c.in-Some-pop.node ∷ []))) in
    let left = weight_some c.match-self.left c.in-Some-left.nodes c.in-Some-left.is in
    let fewer : left_weight c.match-self.left < weight c.loop-self.self + left_weight c.loop-self.left =
    elim c.match-self.branch [
      | in-Term w ↦ let one = weight_term w.in-Term.lexeme c.loop-self.self w.in-Term.is in let same = ap left_weight w.left-is in omega arith
      | in-Nonterm w ↦
          let whole = weight_nonterm w.in-Nonterm.ridx w.in-Nonterm.nodes c.loop-self.self w.in-Nonterm.is in
          let same = ap left_weight w.left-is in
          elim w.if-is_empty.branch [
            | then-is_empty w' ↦ let kept = ap left_weight w'.left-is in omega arith
            | else-is_empty+in-None w' ↦ let some = weight_some w.if-is_empty.left w.in-Nonterm.nodes w'.left-is in omega arith
          ]
    ] in
    let kept = weight_unless_empty c.unless_empty-left.result c.pop.new.self c.unless_empty-left.ensures in
    falls_fewer (weight c.loop-self.self + left_weight c.loop-self.left) (weight c.loop-self.self)
    (weight c.in-Some-pop.node + left_weight c.unless_empty-left.result) (weight c.in-Some-pop.node) (omega arith) (omega arith)
