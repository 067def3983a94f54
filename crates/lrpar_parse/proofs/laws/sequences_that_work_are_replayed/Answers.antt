use Rattle.lrpar_parse_repair.proofs.ReplayLemmas.{replay_one_way, works_by_replay}
use Rattle.lrpar_parse.proofs.laws.sequences_that_work_are_replayed.Goals as goal

pub returns : goal.returns
returns g c = record { works = works_by_replay; one_way = replay_one_way; facts_work = works_by_replay; facts_one_way = replay_one_way }
