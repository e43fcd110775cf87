use Rattle.std.proofs.Common.{ap, ◌∙◌, length, arith}
use Rattle.fix_messages.proofs.MeaningLemmas.{report-body}
use Rattle.fix_messages.proofs.writers.write_report.Goals as goal

pub write_frame-requires : goal.write_frame-requires
write_frame-requires c =
    let body = report-body c.args.report.now c.in_ok-write_report_fields.ensures.in_form in
    let text = ap length (c.deref.ensures.value ∙ c.in_ok-write_report_fields.ensures.appended) in
    let none = c.new-body.ensures.items in omega (arith, body.1, (rw none at text))
