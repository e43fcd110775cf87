use Rattle.day_symbols.proofs.SymbolLemmas.{distinct_met}
use Rattle.std.proofs.Common.{◌≡◌, ℕ, List}
use Rattle.day_symbols.specs.Symbols.{distinct_names}
use Rattle.day_symbols.proofs.symbols.Symbols.meet.Goals as goal

-- src/symbols.rt:55:5
pub returns-clause-meets : goal.returns-clause-meets
returns-clause-meets c = λ (names : List (List ℕ)) was. let is : c.self.inside.names.keys ≡ distinct_names names = cc in distinct_met names c.self.inside.names.keys c.insert_full.new.self.keys c.args.symbol.now is c.in_ok-index.ensures.keys
