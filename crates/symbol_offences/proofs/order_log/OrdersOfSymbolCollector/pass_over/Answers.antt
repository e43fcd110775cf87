use Rattle.std.proofs.Common.{refl}
use Rattle.symbol_offences.proofs.TakenLemmas.{other-taken}
use Rattle.symbol_offences.proofs.order_log.OrdersOfSymbolCollector.pass_over.Goals as goal

pub returns : goal.returns
returns g c = λ entries entry other has.
    other-taken g.Q.QuestionGhost.symbol g.Q.QuestionGhost.keeping.records c.args.self.now _ entries entry has other refl refl refl refl
