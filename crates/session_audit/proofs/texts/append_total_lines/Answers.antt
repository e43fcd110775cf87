use Rattle.std.proofs.Common.{◌≡◌, ◌++◌, ◌∙◌, List, ℕ, ap, sym, get_or}
use Rattle.std.proofs.lemmas.List.{append-nil}
use Rattle.session_audit.specs.Texts.{total_line, total_lines}
use Rattle.session_audit.proofs.TextLemmas.{lines-more, lines-none, one-line}
use Rattle.audit_base.specs.declared.orders.Order.{Order}
use Rattle.audit_base.specs.Orders.{place_at}
use Rattle.session_audit.proofs.texts.append_total_lines.Goals as goal

pub loop-index-init : goal.loop-index-init
loop-index-init c = sym (ap (λ (ls : List ℕ). c.args.out.now.items ++ ls) (lines-none c.args.orders.now c.args.totals.now) ∙ append-nil c.args.out.now.items)

pub loop-index-preserved : goal.loop-index-preserved
loop-index-preserved c =
    let orders = c.args.orders.now in
    let totals = c.args.totals.now in
    let i = c.loop-index.index in
    let at : c.place.result ≡ place_at orders i = c.place.ensures ∙ ap (λ (o : Order). o.place) c.at.ensures in
    let read : c.append_total_line.new.out.items ≡ c.loop-index.out.items ++ total_line c.place.result (get_or totals i 0) = c.in_ok-append_total_line.ensures in
    one-line c.args.out.now.items c.loop-index.out.items c.append_total_line.new.out.items (total_lines orders totals i) _ c.loop-index.invariant
    (read ∙ (λ j. c.loop-index.out.items ++ total_line (at j) (get_or totals i 0)))
    ∙ ap (λ (ls : List ℕ). c.args.out.now.items ++ ls) (sym (lines-more orders totals i))
