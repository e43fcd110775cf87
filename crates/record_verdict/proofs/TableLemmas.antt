-- The lines of a table, one order more at a time.
use Rattle.std.proofs.Common.{◌≡◌, ◌∙◌, sym, ap, ℕ, ◌+◌, List, [], ◌∷◌, ◌++◌, arith}
use Rattle.std.specs.Prelude.{slice_index}
use Rattle.std.proofs.lemmas.List.FromFn.{map-range_with_len_more}
use Rattle.audit_base.specs.declared.orders.Order.{Order}
use Rattle.audit_base.specs.Orders.{order_at}
use Rattle.audit_report.specs.declared.tables.Line.{Line}
use Rattle.record_verdict.specs.Tables.{line_of_order, lines_below}

pub lines-more : (orders : List Order) (traded : List ℕ) (n : ℕ) (old new : List Line) (o : Order) → o ≡ order_at orders n → old ≡ lines_below orders traded n
    → new ≡ old ++ line_of_order o (slice_index traded n) ∷ [] → new ≡ lines_below orders traded (n + 1)
lines-more orders traded n old new o here before more =
    more ∙ ap (λ (xs : List Line). xs ++ line_of_order o (slice_index traded n) ∷ []) before ∙ ap (λ (x : Order). lines_below orders traded n ++ line_of_order x (slice_index traded n) ∷ []) here
    ∙ sym (map-range_with_len_more (λ i. line_of_order (order_at orders i) (slice_index traded i)) 0 n n (omega arith))
