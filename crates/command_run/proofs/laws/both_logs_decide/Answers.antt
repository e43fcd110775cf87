use Rattle.command_run.proofs.BothLogsLemmas.{both_stop, both_text}
use Rattle.command_run.proofs.UnreadLemmas.{both_unread}
use Rattle.command_run.proofs.laws.both_logs_decide.Goals as goal

pub returns-clause-answers : goal.returns-clause-answers
returns-clause-answers g c = λ request given r orders trades the_status text later answers is.
    both_text r later orders trades (g.P.Program.command request) answers.starts (g.G.GivenByLogs.of_records given) (g.G.GivenByLogs.of_bad given) the_status text answers is

pub returns-clause-stops : goal.returns-clause-stops
returns-clause-stops g c = λ request r orders trades the_stop later starts is. both_stop r later orders trades (g.P.Program.command request) starts the_stop is

pub returns-clause-unread : goal.returns-clause-unread
returns-clause-unread g c = λ request r orders trades why result later answers is decides. both_unread r orders trades (g.P.Program.command request) why result later answers is decides
