use Rattle.std.proofs.Common.{refl}
use Rattle.symbol_offences.proofs.TakenLemmas.{other-trade_taken}
use Rattle.symbol_offences.proofs.trade_log.TradesOfSymbolCollector.pass_over.Goals as goal

pub returns : goal.returns
returns g c = λ trades trade other has.
    other-trade_taken g.Q.QuestionGhost.symbol g.Q.QuestionGhost.keeping c.args.self.now _ trades trade has other refl refl refl refl refl
