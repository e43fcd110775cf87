use Rattle.day_symbols.specs.Symbols.{symbols_of_logs}
use Rattle.day_symbols.proofs.SymbolLemmas.{each-once}
use Rattle.day_symbols.proofs.laws.each_symbol_once.Goals as goal

pub returns : goal.returns
returns c = λ entries trades. each-once (symbols_of_logs entries trades)
