use Rattle.call_audit.proofs.AuditLemmas.{volume-finding}
use Rattle.call_audit.proofs.auditing.volume_finding.Goals as goal

pub returns : goal.returns
returns c = volume-finding c.args.orders.now c.args.totals.now c.args.count c.args.greatest c.as_slice-traded.result.now c.volume-reached.result c.short_with_due-bid.result c.short_with_due-ask.result c.finding.result
    c.as_slice-traded.ensures c.volume-reached.ensures c.short_with_due-bid.ensures.short c.short_with_due-ask.ensures.short c.finding.ensures
