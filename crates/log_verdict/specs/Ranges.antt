-- That the numbers of the records of a log are in range, and that each record has bytes of its log,
-- in either form, as statements.
use Rattle.std.specs.Prelude.{ℕ, IfOk, List}
use Rattle.audit_base.specs.declared.terms.Form.{Form}
use Rattle.audit_base.specs.RecordRanges.{RecordsInRange}
use Rattle.audit_base.specs.Trades.{TradesInRange}
use Rattle.audit_base.specs.Verdicts.{paired_trades}
use Rattle.log_source.specs.Collectors.{HasNineBytesEach}
use Rattle.log_verdict.specs.LogVerdicts.{records_of_order_log, trades_of_trade_log}

-- the numbers of each record of a good order log are in range
abbrev pub OrderLogsAreInRange : Type 0
OrderLogsAreInRange =
    (form : Form) (bytes : List ℕ) → IfOk (records_of_order_log form bytes) RecordsInRange

-- the numbers of each trade of a good trade log are in range
abbrev pub TradeLogsAreInRange : Type 0
TradeLogsAreInRange = (form : Form) (bytes : List ℕ)
    → IfOk (trades_of_trade_log form bytes) (λ paired. TradesInRange (paired_trades paired))

-- each record of a good order log has at least nine bytes of it
abbrev pub OrderLogsHaveNineBytes : Type 0
OrderLogsHaveNineBytes = (form : Form) (bytes : List ℕ)
    → IfOk (records_of_order_log form bytes) (λ entries. HasNineBytesEach entries bytes)
