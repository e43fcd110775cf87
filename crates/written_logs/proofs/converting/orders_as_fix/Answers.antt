use Rattle.written_logs.proofs.ConvertLemmas.{fix-orders-made}
use Rattle.written_logs.proofs.converting.orders_as_fix.Goals as goal

pub returns-in-Ok-clause-read : goal.returns-in-Ok-clause-read
returns-in-Ok-clause-read g c =
    let is = c.in-Ok.ensures.read in
    record {
      bytes = is.bytes;
      read = is.read;
      holds = fix-orders-made c.written_logs_are_read_again.ensures.orders c.args.source.now.form is.bytes c.in-Ok.log is.holds;
    }
