use Rattle.std.proofs.Common.{◌∷◌, [], ap, sym, ◌∙◌}
use Rattle.std.proofs.lemmas.List.{append-nil}
use Rattle.std.proofs.lemmas.List.Elements.{All-cons, All-nil}
use Rattle.fix_messages.specs.Logs.{fix_report_records}
use Rattle.fix_messages.specs.Written.{IsTradeInForm, trade_message_pair}
use Rattle.fix_messages.proofs.AgainLemmas.{trades-again}
use Rattle.fix_messages.proofs.writers.write_trade.Goals as goal

pub returns-clause-again : goal.returns-clause-again
returns-clause-again c =
    ap fix_report_records (sym (append-nil (trade_message_pair c.args.trade.now)))
    ∙ trades-again (c.args.trade.now ∷ []) (All-cons IsTradeInForm c.args.trade.now [] c.in_ok-text.ensures.in_form (All-nil IsTradeInForm))

pub returns-clause-paired : goal.returns-clause-paired
returns-clause-paired c = c.reports_are_paired_again.ensures (c.args.trade.now ∷ [])
