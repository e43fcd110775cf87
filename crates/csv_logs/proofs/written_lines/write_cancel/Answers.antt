use Rattle.std.proofs.lemmas.Result.{on_ok_weaker}
use Rattle.csv_logs.proofs.RecordLemmas.{cancel-line}
use Rattle.csv_logs.proofs.written_lines.write_cancel.Goals as goal

pub returns-clause-line : goal.returns-clause-line
returns-clause-line g c =
    let line = cancel-line c.args.head c.args.target c.bytes.ensures.in_form c.bytes-2.ensures.in_form c.bytes-3.ensures.in_form c.bytes-4.ensures.in_form
    c.in_ok-time.ensures.unquoted c.in_ok-time.ensures.again in
    on_ok_weaker c.write_row.result (λ _. line) c.write_row.ensures.at_line
