use Rattle.written_logs.proofs.ConvertLemmas.{csv-orders-made}
use Rattle.written_logs.proofs.converting.orders_as_csv.Goals as goal

pub returns-in-Ok-end-clause-read : goal.returns-in-Ok-end-clause-read
returns-in-Ok-end-clause-read g c =
    let is = c.in-Ok-collect_orders.ensures.read in
    record {
      bytes = is.bytes;
      read = is.read;
      holds = csv-orders-made c.args.source.now.form is.bytes c.in-Ok-collect_orders.log c.in-Ok-end.text c.in-Ok-end.ensures is.holds;
    }
