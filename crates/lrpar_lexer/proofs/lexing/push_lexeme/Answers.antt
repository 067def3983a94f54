use Rattle.lrpar_lexer.proofs.AnswerLemmas.{plain_push_lexeme}
use Rattle.lrpar_lexer.proofs.lexing.push_lexeme.Goals as goal

pub returns : goal.returns
returns g c =
    plain_push_lexeme g.StorageT.StorageIndex.index c.args.answers.now.items c.push.new.self.items c.args.token c.in-Some.token c.read.result
    c.args.at c.args.len c.in-Some.is c.read.ensures c.in_ok-push.ensures.items
