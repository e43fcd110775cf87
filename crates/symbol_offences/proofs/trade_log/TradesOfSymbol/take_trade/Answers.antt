use Rattle.std.proofs.Common.{refl, sym, ◌∙◌}
use Rattle.std.proofs.lemmas.Result.{on_ok_weaker}
use Rattle.symbol_offences.proofs.TakenLemmas.{other-trade_taken, own-trade_taken, own-trade_symbol}
use Rattle.symbol_offences.proofs.trade_log.TradesOfSymbol.take_trade.Goals as goal

pub returns-then-not-has_symbol : goal.returns-then-not-has_symbol
returns-then-not-has_symbol g c = λ trades has.
    other-trade_taken g.Q.QuestionGhost.symbol g.Q.QuestionGhost.keeping c.args.self.now _ trades c.args.trade.now has (sym c.has_symbol.ensures ∙ c.if-not-has_symbol.true) refl refl refl refl refl

pub keep_trade-requires : goal.keep_trade-requires
keep_trade-requires g c =
    own-trade_symbol g.Q.QuestionGhost.symbol g.Q.QuestionGhost.keeping c.args.self.now c.requires.entries c.args.trade.now c.requires.has (sym c.has_symbol.ensures ∙ c.if-not-has_symbol.false)

pub returns : goal.returns
returns g c = on_ok_weaker c.keep_trade.result
    (λ kept trades has. own-trade_taken g.Q.QuestionGhost.symbol g.Q.QuestionGhost.keeping c.args.self.now _ trades c.args.trade.now has (sym c.has_symbol.ensures ∙ c.if-not-has_symbol.false)
    refl refl refl c.in_ok-keep_time.ensures kept)
    c.keep_trade.ensures
