-- A symbol that no record has is accepted, with no order and no trade.
use Rattle.std.proofs.Common.{◌≡◌, ◌∙◌, sym, ap, ap₂, subst, refl, ℕ, Bool, true, false, List, [], ◌∷◌, Option, None, Some, Result, length, arith}
use Rattle.std.specs.Prelude.{◌==◌, ◌&&◌}
use Rattle.audit_base.specs.declared.findings.Finding.{Finding}
use Rattle.audit_base.specs.declared.orders.Deal.{Deal}
use Rattle.audit_base.specs.declared.orders.Order.{Order}
use Rattle.audit_base.specs.declared.records.OrderRecord.{OrderRecord}
use Rattle.audit_base.specs.declared.records.TradeRecord.{TradeRecord}
use Rattle.audit_base.specs.declared.terms.Rule.{Rule}
use Rattle.audit_base.specs.declared.terms.Rule.TheVariants as rule
use Rattle.audit_base.specs.declared.terms.Side.{Side}
use Rattle.audit_base.specs.CallOffences.{best_short}
use Rattle.audit_base.specs.ContinuousOffences.{active_orders_meet, finding_at_place, spread_finding}
use Rattle.audit_base.specs.Histories.{order_list}
use Rattle.audit_base.specs.Priority.{best_order}
use Rattle.audit_base.specs.Trades.{deals_of_symbol}
use Rattle.audit_base.specs.Verdicts.{finding_before_rule, IsFirstOffence, IsRuleFinding, paired_trades}
use Rattle.audit_report.specs.declared.verdicts.Verdict.{Verdict}
use Rattle.audit_report.specs.declared.verdicts.Verdict.TheVariants as verdict
use Rattle.record_verdict.specs.declared.questions.Question.{Question}
use Rattle.record_verdict.specs.declared.scopes.Scope.{Scope}
use Rattle.record_verdict.specs.RecordVerdicts.{IsAcceptance, IsOutcomeByFinding, IsRecordVerdict}
use Rattle.record_verdict.specs.Scopes.{admission_of, finding_before_rule_in_scope}
use Rattle.symbol_offences.specs.Laws.{AbsentHasNothing, FoundIsPresent, has_nothing}
use Rattle.symbol_offences.specs.OffenceAnswers.{has_none, is_absent}
use Rattle.symbol_offences.specs.Telling.{are_none}
use Rattle.desk_filing.specs.Judging.{accepts_nothing}

-- no orders have a best one
no-short : (side : Side) (order : ℕ) → best_short [] [] side ≡ Some order → ⊥
unfolding best_short best_order
no-short side order is = cc

-- nothing is found at a place
nothing-at : (place : ℕ) (finding : Finding) → finding_at_place [] [] place ≡ Some finding → ⊥
unfolding spread_finding active_orders_meet
nothing-at place finding is = cc

-- no orders and no deals offend no rule
nothing-found : (the_rule : Rule) (count : ℕ) (finding : Finding) → IsFirstOffence the_rule [] [] count finding → ⊥
nothing-found rule.Matching count finding is = absurd is
nothing-found rule.Fair count finding is = absurd is
nothing-found rule.Uniform count finding is = no-short _ is.bid is.short_bid
nothing-found rule.Maximum count finding is = no-short _ is.bid is.short_bid
nothing-found rule.Continuous count finding is = nothing-at is.place finding is.here

-- what offends has an order or a deal
some-there : (the_rule : Rule) (orders : List Order) (deals : List Deal) (count : ℕ) (finding : Finding) → IsFirstOffence the_rule orders deals count finding → are_none orders deals ≡ false
some-there the_rule (order ∷ orders) deals count finding is = refl
some-there the_rule [] (deal ∷ deals) count finding is = refl
some-there the_rule [] [] count finding is = absurd (nothing-found the_rule count finding is)

-- none are as many as none
none-counted : {A : Type 0} (xs : List A) → (length xs == 0) ≡ has_none xs
none-counted [] = refl
none-counted (x ∷ xs) = grind arith

-- what is found before a rule is what is found in its scope
in-scope : (the_rule : Rule) (symbol : List ℕ) (entries : List OrderRecord) (paired : Result (List TradeRecord) Finding)
    → finding_before_rule_in_scope (record { symbol = symbol; admission = admission_of the_rule }) entries paired ≡ finding_before_rule the_rule symbol entries paired
in-scope rule.Matching symbol entries paired = refl
in-scope rule.Fair symbol entries paired = refl
in-scope rule.Uniform symbol entries paired = refl
in-scope rule.Maximum symbol entries paired = refl
in-scope rule.Continuous symbol entries paired = refl

module _ (found_present : FoundIsPresent) (sound_absent : AbsentHasNothing) (q : Question) (entries : List OrderRecord) (paired : Result (List TradeRecord) Finding) where
  abbrev orders : List Order
  orders = order_list q.symbol entries

  abbrev deals : List Deal
  deals = deals_of_symbol orders q.symbol (paired_trades paired)

  abbrev scope : Scope
  scope = record { symbol = q.symbol; admission = admission_of q.rule }

  rejects-something : (v : Verdict) (finding : Finding) → v ≡ verdict.Rejected finding → accepts_nothing v ≡ false
  rejects-something v finding is = ap accepts_nothing is

  accepts-by-counts : (v : Verdict) → IsAcceptance q orders deals v → accepts_nothing v ≡ are_none orders deals
  accepts-by-counts (verdict.Accepted accepted) is =
      ap₂ {C = Bool} (λ (a b : ℕ). (a == 0) && (b == 0)) is.orders_are is.trades_are
      ∙ ap₂ {C = Bool} (λ (a b : Bool). a && b) (none-counted orders) (none-counted deals)
  accepts-by-counts (verdict.Rejected finding) is = absurd is
  accepts-by-counts (verdict.Malformed log bad) is = absurd is

  by-rule : (v : Verdict) (count : ℕ) (found : Option Finding) → IsRuleFinding q.rule orders deals count found → IsOutcomeByFinding q orders deals found v → accepts_nothing v ≡ are_none orders deals
  by-rule v count None by outcome = accepts-by-counts v outcome
  by-rule v count (Some finding) by outcome = rejects-something v finding outcome ∙ sym (some-there q.rule orders deals count finding by)

  by-before : (v : Verdict) (before : Option Finding) → finding_before_rule q.rule q.symbol entries paired ≡ before → IsRecordVerdict q entries paired v → accepts_nothing v ≡ is_absent q.symbol entries paired
  by-before v (Some finding) e is =
      let found : is.found ≡ Some finding = rw e at is.by_the_rules in
      let outcome : v ≡ verdict.Rejected finding = rw found at is.outcome in
      rejects-something v finding outcome ∙ sym (found_present scope entries paired finding (in-scope q.rule q.symbol entries paired ∙ e))
  by-before v None e is =
      by-rule v (length (paired_trades paired)) is.found (rw e at is.by_the_rules) is.outcome
      ∙ sym (sound_absent scope entries paired (in-scope q.rule q.symbol entries paired ∙ e))

  -- the verdict accepts nothing exactly where the symbol is absent
  pub absent-accepted : (v : Verdict) → IsRecordVerdict q entries paired v → accepts_nothing v ≡ is_absent q.symbol entries paired
  absent-accepted v is = by-before v (finding_before_rule q.rule q.symbol entries paired) refl is
