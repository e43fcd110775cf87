-- The first report of those that wait: the latest one, or one of the earlier.
use Rattle.std.proofs.Common.{◌≡◌, ℕ, true, Option, Some, None, List, refl, inl, inr, ap, sym, ◌∙◌, rules}
use Rattle.std.specs.Prelude.{IfSome, nat_le}
use Rattle.std.proofs.lemmas.Bool.{cases_Bool}
use Rattle.audit_base.specs.Orders.{same_name}
use Rattle.trade_reports.specs.declared.reports.PlacedReport.{PlacedReport}
use Rattle.trade_reports.specs.Drafts.{earlier_report, latest_or_earlier}

pub same_name-itself : (a : List ℕ) → same_name a a ≡ true
same_name-itself a = search rules

pub same_name-is : (a b : List ℕ) → same_name a b ≡ true → a ≡ b
same_name-is a b h = search rules

module _ (held : List ℕ → Option PlacedReport) (latest : PlacedReport) (apart : held latest.report.trade ≡ None) where
  latest-waits : latest_or_earlier (Some latest) latest.report.trade (held latest.report.trade) ≡ Some latest
  latest-waits = rw (same_name-itself latest.report.trade) refl

  held-waits : (id : List ℕ) (first : PlacedReport) → held id ≡ Some first → latest_or_earlier (Some latest) id (held id) ≡ Some first
  held-waits id first is = elim (cases_Bool (same_name latest.report.trade id)) [
    | inl same ↦ absurd (let none : held id ≡ None = ap held (sym (same_name-is latest.report.trade id same)) ∙ apart in cc)
    | inr other ↦ rw other is
  ]

  -- the one that came first waits with its id
  pub earlier-waits : (least : Option PlacedReport) → IfSome least (λ first. (id : List ℕ) × (held id ≡ Some first))
      → (id : List ℕ) × (latest_or_earlier (Some latest) id (held id) ≡ Some (earlier_report least latest))
  earlier-waits None is = (latest.report.trade, latest-waits)
  earlier-waits (Some first) is = elim (cases_Bool (nat_le first.place latest.place)) [
    | inl low ↦ rw low (is.0, held-waits is.0 first is.1)
    | inr high ↦ rw high (latest.report.trade, latest-waits)
  ]
