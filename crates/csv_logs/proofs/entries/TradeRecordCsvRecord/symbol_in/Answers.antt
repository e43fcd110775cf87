use Rattle.std.proofs.Common.{sym, ◌∙◌}
use Rattle.csv_logs.proofs.SymbolLemmas.{trade-symbol}
use Rattle.csv_logs.proofs.entries.TradeRecordCsvRecord.symbol_in.Goals as goal

pub returns : goal.returns
returns c = λ entry e. trade-symbol _ entry e ∙ sym c.column_text.ensures
