use Rattle.symbol_offences.proofs.ReadLemmas.{kept-logs}
use Rattle.symbol_offences.proofs.reading.logs_of.Goals as goal

pub returns-clause-gives : goal.returns-clause-gives
returns-clause-gives g c = λ scope entries paired named is.
    kept-logs g.Q.QuestionGhost.symbol g.Q.QuestionGhost.keeping scope entries paired c.args.read c.kept_trades-kept.result named is (c.kept_trades-kept.ensures paired is.trades)
