use Rattle.std.proofs.Common.{◌∙◌, ap, Ok}
use Rattle.log_verdict.specs.LogVerdicts.{trades_of_trade_log}
use Rattle.written_logs.proofs.ConvertLemmas.{csv-trades-made}
use Rattle.written_logs.proofs.converting.trades_as_csv.Goals as goal

pub returns-in-Ok-end-clause-read : goal.returns-in-Ok-end-clause-read
returns-in-Ok-end-clause-read g c =
    let is = rw (c.in-Ok-Trades.is ∙ ap Ok c.in-Ok-Trades.field-0-is) at c.collect_trades.ensures.read in
    record {
      bytes = is.bytes;
      read = is.read;
      holds = csv-trades-made (trades_of_trade_log c.args.source.now.form is.bytes) c.in-Ok-Trades.log c.in-Ok-end.text c.in-Ok-end.ensures is.holds;
    }
