-- A day has one first offence: finding 16, or that of the least phase that fails.
use Rattle.std.proofs.Common.{◌≡◌, ◌∙◌, sym, subst, ℕ, List, Option, None, Some, All, AllPairs, ◌<◌, inl, inr}
use Rattle.std.specs.Prelude.{MatchOption}
use Rattle.std.proofs.lemmas.Bool.{cases_order}
use Rattle.audit_base.specs.declared.findings.Finding.{Finding}
use Rattle.audit_base.specs.declared.orders.Deal.{Deal}
use Rattle.audit_base.specs.declared.orders.Order.{Order}
use Rattle.audit_base.specs.Deals.{DealsInRange, NamesOrders}
use Rattle.audit_base.specs.Orders.{order_past_end}
use Rattle.audit_base.specs.Verdicts.{IsFirstOffence}
use Rattle.audit_base.proofs.VerdictLemmas.{one-offence}
use Rattle.session_audit.specs.declared.phases.Phase.{Phase}
use Rattle.session_audit.specs.Days.{instant_finding, IsPhaseOffence}
use Rattle.session_audit.specs.OneOffence.{DayOffenceIsOne}
use Rattle.session_audit.specs.PhaseOrders.{phase_list_at}
use Rattle.session_audit.specs.Phases.{phase_kind, phase_deals, rule_of}
use Rattle.session_audit.proofs.PhaseDealLemmas.{deals-named}
use Rattle.session_audit.proofs.UniqueLemmas.{in-range}

module _ (phases : List Phase) (orders : List Order) (deals : List Deal) (count : ℕ) (one other : Finding)
    (rises : AllPairs (λ (o p : Order). o.place < p.place) orders) (named : All (NamesOrders orders) deals) (ranges : DealsInRange deals) where
  -- the first offences of a phase are one
  same-phase : (j k : ℕ) → j ≡ k → IsFirstOffence (rule_of (phase_kind phases j)) (phase_list_at phases orders deals j) (phase_deals phases orders deals j) count one
      → IsFirstOffence (rule_of (phase_kind phases k)) (phase_list_at phases orders deals k) (phase_deals phases orders deals k) count other → one ≡ other
  same-phase j k same x y =
      one-offence (rule_of (phase_kind phases k)) (phase_list_at phases orders deals k) (phase_deals phases orders deals k) count one other
      (deals-named phases orders (λ i m lt below. rises i m order_past_end lt below) deals k named) (in-range phases orders deals k ranges)
      (subst (λ (i : ℕ). IsFirstOffence (rule_of (phase_kind phases i)) (phase_list_at phases orders deals i) (phase_deals phases orders deals i) count one) same x) y

  -- the least phase that fails is one
  phase-offence : IsPhaseOffence phases orders deals count one → IsPhaseOffence phases orders deals count other → one ≡ other
  phase-offence x y = elim (cases_order x.phase y.phase) [
    | inl same ↦ same-phase x.phase y.phase same x.here y.here
    | inr apart ↦ elim apart [
      | inl less ↦ absurd (x.fails (y.before x.phase less))
      | inr more ↦ absurd (y.fails (x.before y.phase more))
    ]
  ]

  offence : (found : Option Finding) → MatchOption found (IsPhaseOffence phases orders deals count one) (λ f. one ≡ f)
      → MatchOption found (IsPhaseOffence phases orders deals count other) (λ f. other ≡ f) → one ≡ other
  offence None x y = phase-offence x y
  offence (Some f) x y = x ∙ sym y

pub one-day_offence : DayOffenceIsOne
one-day_offence phases orders deals count one other rises named ranges x y =
    offence phases orders deals count one other rises named ranges (instant_finding phases orders deals) x y
