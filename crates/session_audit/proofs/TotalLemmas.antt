-- What the orders trade over a day.
use Rattle.std.proofs.Common.{◌≡◌, ℕ, List, length, None, ap, ◌∙◌, arith}
use Rattle.audit_base.specs.declared.orders.Order.{Order}
use Rattle.audit_base.specs.declared.orders.Deal.{Deal}
use Rattle.audit_base.specs.Orders.{IsOrderList}
use Rattle.audit_base.specs.Deals.{traded, volume, IsDealList, number_at}
use Rattle.session_audit.specs.declared.phases.Phase.{Phase}
use Rattle.session_audit.specs.Dealing.{HaveCausesInRange}
use Rattle.session_audit.specs.Phases.{ArePhases}
use Rattle.session_audit.specs.PhaseOrders.{list_below, traded_before_phase}
use Rattle.session_audit.specs.Days.{instant_finding}
use Rattle.session_audit.specs.Audits.{IsConformingDay}
use Rattle.session_audit.specs.Progress.{IsDaySoFar}
use Rattle.session_audit.proofs.ListBelowLemmas.{length-list_below, list_below-at, list_below-same}
use Rattle.session_audit.proofs.PartLemmas.{earlier-whole}

pub day-conforms : (phases : List Phase) (are : ArePhases phases) (orders : List Order) → IsOrderList orders → (deals : List Deal) → IsDealList orders deals
    → HaveCausesInRange orders deals → instant_finding phases orders deals ≡ None → (k : ℕ) → k ≡ length phases → (traded_list rest : List ℕ) (totals : List ℕ × ℕ) → totals ≡ (traded_list, volume deals) → IsDaySoFar phases orders deals k traded_list rest
    → IsConformingDay phases orders deals totals
day-conforms phases are orders list deals dl causes none k all traded_list rest totals same so_far =
    let whole : totals.0 ≡ list_below (traded deals) (length orders) = ap (λ (t : List ℕ × ℕ). t.0) same ∙ so_far.traded_is ∙ ap (λ (n : ℕ). list_below (traded_before_phase phases orders deals n) (length orders)) all
    ∙ list_below-same (traded_before_phase phases orders deals (length phases)) (traded deals) (length orders) (λ i lt. earlier-whole phases are orders deals list dl.named causes i) in
    record {
      conforms = record { admitted = none; each = λ i lt. so_far.conformed i (omega arith) };
      totals_are = record {
        count = ap length whole ∙ length-list_below (traded deals) (length orders);
        each = λ i lt. ap (λ (ns : List ℕ). number_at ns i) whole ∙ list_below-at (traded deals) (length orders) i 0 lt;
      };
      volume_is = ap (λ (t : List ℕ × ℕ). t.1) same;
    }
