use Rattle.std.proofs.Common.{◌∷◌, [], ap, sym, ◌∙◌, length, arith}
use Rattle.std.proofs.lemmas.List.{append-nil}
use Rattle.std.proofs.lemmas.List.Elements.{All-cons, All-nil}
use Rattle.std.proofs.lemmas.Result.{on_ok_weaker}
use Rattle.fix_messages.specs.Logs.{fix_order_records}
use Rattle.fix_messages.specs.Written.{IsWritable, order_message}
use Rattle.fix_messages.proofs.AgainLemmas.{orders-again}
use Rattle.fix_messages.proofs.MeaningLemmas.{order-body}
use Rattle.fix_messages.proofs.writers.write_order.Goals as goal

pub write_frame-requires : goal.write_frame-requires
write_frame-requires c =
    let body = order-body c.args.entry.now c.in_ok-write_order_fields.ensures.in_form in
    let text = ap length (c.deref.ensures.value ∙ c.in_ok-write_order_fields.ensures.appended) in
    let none = c.new-body.ensures.items in omega (arith, body.1, (rw none at text))

pub returns-clause-again : goal.returns-clause-again
returns-clause-again c =
    on_ok_weaker c.write_frame.result (λ _ priced.
    ap fix_order_records (sym (append-nil (order_message c.args.entry.now)))
    ∙ orders-again (c.args.entry.now ∷ []) (All-cons IsWritable c.args.entry.now [] (record { form = c.in_ok-write_order_fields.ensures.in_form; priced = priced }) (All-nil IsWritable))) c.write_frame.ensures.ok
