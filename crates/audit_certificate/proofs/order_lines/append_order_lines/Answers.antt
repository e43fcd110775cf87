use Rattle.audit_certificate.proofs.OrderLemmas.{lines-none, lines-more}
use Rattle.std.proofs.Common.{◌∙◌, ◌++◌, ℕ, ap, get_or}
use Rattle.audit_certificate.specs.Texts.{order_line_text}
use Rattle.audit_certificate.proofs.order_lines.append_order_lines.Goals as goal

pub loop-index-init : goal.loop-index-init
loop-index-init c = lines-none c.args.orders.now c.args.traded.now c.args.out.now.items

pub loop-index-preserved : goal.loop-index-preserved
loop-index-preserved c = lines-more c.args.orders.now c.args.traded.now c.loop-index.index c.args.out.now.items c.loop-index.out.items c.append_order.new.out.items c.append.new.out.items c.at.result
    c.at.ensures
    c.loop-index.invariant (c.in_ok-append_order.ensures ∙ ap (λ (p : ℕ). c.loop-index.out.items ++ order_line_text p (get_or c.args.traded.now c.loop-index.index 0)) c.place.ensures) c.in_ok-append.ensures
