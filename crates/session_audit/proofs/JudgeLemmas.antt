-- What a phase that conforms adds to those before it, in the words of the code.
use Rattle.std.proofs.Common.{◌≡◌, ◌≤◌, ℕ, List, length, get_or, ap, sym, ◌∙◌, arith, inl, inr, All}
use Rattle.std.proofs.lemmas.List.{get_or_past}
use Rattle.std.proofs.lemmas.Bool.{cases_lt, cases_Bool, or_cases, eqb-true}
use Rattle.std.specs.Prelude.{◌==◌}
use Rattle.audit_base.specs.declared.orders.Order.{Order}
use Rattle.audit_base.specs.declared.orders.Deal.{Deal}
use Rattle.audit_base.specs.Deals.{names_order, quantity_traded_by, traded, NamesOrders, number_at}
use Rattle.audit_base.proofs.SumLemmas.{sum_by-none}
use Rattle.audit_base.proofs.OffenceLemmas.{part-away}
use Rattle.matching_core.specs.declared.outcomes.Reached.{Reached}
use Rattle.session_audit.specs.declared.phases.PhaseKind.{PhaseKind}
use Rattle.session_audit.specs.Phases.{rule_of}
use Rattle.session_audit.specs.Judging.{IsConformingPhase}
use Rattle.session_audit.specs.Leaving.{EndsBy}
use Rattle.session_audit.specs.Progress.{HasPhaseTotals, AddsNumbers, AddsPhase, left_numbers_after_phase}

-- no deal names an order past the end of the list
pub traded-past : (orders : List Order) (deals : List Deal) → All (NamesOrders orders) deals → (i : ℕ) → length orders ≤ i → traded deals i ≡ 0
traded-past orders deals named i le = sum_by-none (quantity_traded_by i) deals (λ n x lt.
    let d = get_or deals n x in
    let is = named n x lt in
    part-away i d (elim (cases_Bool (names_order i d)) [
      | inr away ↦ away
      | inl here ↦ elim (or_cases (d.bid == i) (d.ask == i) here) [
        | inl b ↦ let e : d.bid ≡ i = eqb-true _ _ b in let inside = is.bid_inside in absurd (omega arith)
        | inr a ↦ let e : d.ask ≡ i = eqb-true _ _ a in let inside = is.ask_inside in absurd (omega arith)
      ]
    ]))

pub passed : (kind : PhaseKind) (orders : List Order) (deals : List Deal) (last : ℕ) (reached : Reached) (numbers before after rest : List ℕ)
    → All (NamesOrders orders) deals → EndsBy orders deals last → IsConformingPhase (rule_of kind) orders deals reached → numbers ≡ reached.traded.0
    → (HasPhaseTotals kind orders deals last numbers → rest ≡ left_numbers_after_phase kind orders deals last) → AddsNumbers before numbers after
    → AddsPhase kind orders deals last before after rest
passed kind orders deals last reached numbers before after rest named ends is same left added = record {
  conforms = is.conforms;
  count = added.count;
  added = λ i lt.
      let e = added.each i lt in
      let m : number_at numbers i ≡ traded deals i = elim (cases_lt i (length orders)) [
        | inl inside ↦ ap (λ (ns : List ℕ). number_at ns i) same ∙ is.totals.each i inside
        | inr past ↦
            let long : length numbers ≡ length orders = ap length same ∙ is.totals.count in
            get_or_past numbers i 0 (omega arith) ∙ sym (traded-past orders deals named i past)
      ] in
      omega arith;
  left_is = left (record {
    conforms = is.conforms;
    totals = record { count = ap length same ∙ is.totals.count; each = λ i inside. ap (λ (ns : List ℕ). number_at ns i) same ∙ is.totals.each i inside };
    ends = ends;
  });
}
