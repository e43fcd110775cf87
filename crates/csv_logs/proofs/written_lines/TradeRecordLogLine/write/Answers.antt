use Rattle.std.proofs.Common.{◌∙◌}
use Rattle.std.proofs.lemmas.Result.{on_ok_weaker}
use Rattle.csv_logs.proofs.RecordLemmas.{name-unquoted, text-unquoted, nine-unquoted, trade-line}
use Rattle.csv_logs.proofs.written_lines.TradeRecordLogLine.write.Goals as goal

pub write_row-requires-clause-unquoted : goal.write_row-requires-clause-unquoted
write_row-requires-clause-unquoted g c =
    nine-unquoted c.bytes.result.now c.deref.result.now c.bytes-2.result.now c.bytes-3.result.now c.bytes-4.result.now c.bytes-5.result.now c.bytes-6.result.now c.deref-2.result.now c.deref-3.result.now
    (name-unquoted _ _ c.bytes.ensures.same c.bytes.ensures.in_form)
    (text-unquoted _ _ (c.deref.ensures.value ∙ c.in_ok-time.ensures.text) c.in_ok-time.ensures.unquoted)
    (name-unquoted _ _ c.bytes-2.ensures.same c.bytes-2.ensures.in_form)
    (name-unquoted _ _ c.bytes-3.ensures.same c.bytes-3.ensures.in_form)
    (name-unquoted _ _ c.bytes-4.ensures.same c.bytes-4.ensures.in_form)
    (name-unquoted _ _ c.bytes-5.ensures.same c.bytes-5.ensures.in_form)
    (name-unquoted _ _ c.bytes-6.ensures.same c.bytes-6.ensures.in_form)
    (text-unquoted _ _ (c.deref-2.ensures.value ∙ c.in_ok-quantity.ensures.text) c.in_ok-quantity.ensures.unquoted)
    (text-unquoted _ _ (c.deref-3.ensures.value ∙ c.in_ok-price.ensures.text) c.in_ok-price.ensures.unquoted)

pub returns-clause-line : goal.returns-clause-line
returns-clause-line g c =
    let line = trade-line c.args.self.now c.bytes.ensures.in_form c.bytes-2.ensures.in_form c.bytes-3.ensures.in_form c.bytes-4.ensures.in_form c.bytes-5.ensures.in_form c.bytes-6.ensures.in_form
    c.in_ok-time.ensures.unquoted c.in_ok-time.ensures.again c.in_ok-quantity.ensures.unquoted c.in_ok-quantity.ensures.again c.in_ok-price.ensures.unquoted c.in_ok-price.ensures.again in
    on_ok_weaker c.write_row.result (λ _. line) c.write_row.ensures.at_line
