use Rattle.std.proofs.Common.{◌∙◌, ap, Ok}
use Rattle.log_verdict.specs.LogVerdicts.{trades_of_trade_log}
use Rattle.written_logs.proofs.ConvertLemmas.{fix-trades-made}
use Rattle.written_logs.proofs.converting.trades_as_fix.Goals as goal

pub returns-in-Ok-Trades-clause-read : goal.returns-in-Ok-Trades-clause-read
returns-in-Ok-Trades-clause-read g c =
    let is = rw (c.in-Ok-Trades.is ∙ ap Ok c.in-Ok-Trades.field-0-is) at c.collect_trades.ensures.read in
    record {
      bytes = is.bytes;
      read = is.read;
      holds = fix-trades-made c.written_logs_are_read_again.ensures.trades (trades_of_trade_log c.args.source.now.form is.bytes) c.in-Ok-Trades.log is.holds;
    }
