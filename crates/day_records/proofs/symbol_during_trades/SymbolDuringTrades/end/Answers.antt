use Rattle.std.proofs.Common.{Ok, length, ap, subst, ◌∙◌, arith}
use Rattle.day_records.specs.declared.symbol_during_trades.SymbolDuringTrades.{SymbolDuringTrades}
use Rattle.day_records.specs.SymbolDuringTrades.{IsSoundSymbol, IsSymbolDuringTrades}
use Rattle.day_records.proofs.SymbolDuringTradesLemmas.{gives-sound, few-deals}
use Rattle.day_records.proofs.symbol_during_trades.SymbolDuringTrades.end.Goals as goal

pub of-requires-clause-counted : goal.of-requires-clause-counted
of-requires-clause-counted c = λ none.
    let is : IsSoundSymbol c.requires.admission c.requires.entries c.requires.trades c.requires.symbol c.in-Sound.sound =
    subst (λ (symbol_trades : SymbolDuringTrades). IsSymbolDuringTrades c.requires.admission c.requires.entries c.requires.trades c.requires.symbol symbol_trades) c.in-Sound.is c.requires.is in
    omega (arith, few-deals c.in-Sound.sound.history c.requires.symbol c.requires.trades, ap length (c.end.ensures.deals none c.requires.symbol c.requires.trades is.deals_are), c.end.ensures.count, c.requires.counted)

pub returns-in-Found-clause-gives : goal.returns-in-Found-clause-gives
returns-in-Found-clause-gives c = λ admission entries trades symbol is counted.
    subst (λ (symbol_trades : SymbolDuringTrades). IsSymbolDuringTrades admission entries trades symbol symbol_trades) c.in-Found.is is (Ok trades)

pub returns-in-Sound-clause-gives : goal.returns-in-Sound-clause-gives
returns-in-Sound-clause-gives c = λ admission entries trades symbol known counted.
    let is : IsSoundSymbol admission entries trades symbol c.in-Sound.sound =
    subst (λ (x : SymbolDuringTrades). IsSymbolDuringTrades admission entries trades symbol x) c.in-Sound.is known in
    rw c.of.ensures.found
    (gives-sound admission entries trades symbol c.in-Sound.sound c.end.result is c.end.ensures.history (c.end.ensures.count ∙ counted) (c.end.ensures.finding symbol trades is.deals_are) (λ none. c.end.ensures.deals none symbol trades is.deals_are))
