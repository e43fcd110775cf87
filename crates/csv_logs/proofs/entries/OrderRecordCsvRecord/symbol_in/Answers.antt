use Rattle.std.proofs.Common.{sym, ◌∙◌}
use Rattle.csv_logs.proofs.SymbolLemmas.{order-symbol}
use Rattle.csv_logs.proofs.entries.OrderRecordCsvRecord.symbol_in.Goals as goal

pub returns : goal.returns
returns c = λ entry e. order-symbol _ entry e ∙ sym c.column_text.ensures
