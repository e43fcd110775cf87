use Rattle.symbol_offences.specs.TradeLog.{IsTradesOfSymbol}
use Rattle.symbol_offences.proofs.ReadLemmas.{kept-paired, none-paired}
use Rattle.symbol_offences.proofs.reading.kept_trades.Goals as goal

pub returns-in-Trades : goal.returns-in-Trades
returns-in-Trades g c = λ paired has.
    kept-paired (IsTradesOfSymbol g.Q.QuestionGhost.symbol g.Q.QuestionGhost.keeping) c.in-Trades.kept paired (rw c.in-Trades.is at has)

pub returns-in-Alone : goal.returns-in-Alone
returns-in-Alone g c = λ paired has.
    none-paired (IsTradesOfSymbol g.Q.QuestionGhost.symbol g.Q.QuestionGhost.keeping) c.new.result _ paired (rw c.in-Alone.is at has) c.new.ensures
