-- Under each of the five rules there is a verdict: of a list of deals, and of two logs that have been read.
use Rattle.std.proofs.Common.{◌≡◌, Result, ℕ, suc, [], ◌∷◌, length, List, Option, Some, None, sum_by, refl, sym, inl, inr, subst, All}
use Rattle.std.specs.Prelude.{MatchOption}
use Rattle.std.proofs.lemmas.List.Sums.{get_or-le-sum_by}
use Rattle.audit_base.specs.declared.findings.Finding.{Finding}
use Rattle.audit_base.specs.declared.orders.Deal.{Deal}
use Rattle.audit_base.specs.declared.orders.Order.{Order}
use Rattle.audit_base.specs.declared.records.OrderRecord.{OrderRecord}
use Rattle.audit_base.specs.declared.records.TradeRecord.{TradeRecord}
use Rattle.audit_base.specs.declared.terms.Rule.{Rule}
use Rattle.audit_base.specs.declared.terms.Rule.TheVariants as rule
use Rattle.audit_base.specs.declared.terms.CallRule.TheVariants as call
use Rattle.audit_base.specs.declared.terms.VolumeRule.TheVariants as of_volume
use Rattle.audit_base.specs.ContinuousOffences.{finding_at_place}
use Rattle.audit_base.specs.Deals.{NamesOrders}
use Rattle.audit_base.specs.Histories.{history_finding, order_list}
use Rattle.audit_base.specs.Least.{first_answer, least_answer}
use Rattle.audit_base.specs.Orders.{order_past_end}
use Rattle.audit_base.specs.Trades.{trades_finding, deals_of_symbol}
use Rattle.audit_base.specs.Verdicts.{IsRuleFinding, instant_finding_of_rule, pairing_finding, paired_trades, finding_before_rule}
use Rattle.audit_base.proofs.ContinuousOffenceLemmas.{no_faults-conform, no_faults-conforms}
use Rattle.audit_base.proofs.HistoryLemmas.{order_list-is}
use Rattle.audit_base.proofs.LeastLemmas.{cases_Option, least-found, option_or-parts}
use Rattle.audit_base.proofs.TradeLemmas.{sound-names, deals-ranges}
use Rattle.call_laws.specs.Existence as of_call
use Rattle.verdict_laws.specs.Existence.{RuleVerdictExists, VerdictExists}

-- in continuous trading the least place with a finding decides; after the last place there is none
continuous-verdict : (orders : List Order) (deals : List Deal) (count : ℕ) → All (NamesOrders orders) deals
    → (v : Option Finding) × IsRuleFinding rule.Continuous orders deals count v
continuous-verdict orders deals count named =
    let last = sum_by (λ (o : Order). o.place) orders in
    elim (cases_Option (least_answer (finding_at_place orders deals) (suc last))) [
      | inl none ↦ (None, no_faults-conforms orders deals last named (λ x lt. get_or-le-sum_by (λ (o : Order). o.place) orders x order_past_end lt) none)
      | inr (f, some) ↦
          let at = least-found (finding_at_place orders deals) (suc last) f some in
          (Some f, record { place = at.0; before = no_faults-conform orders deals at.0 at.3; here = at.2 })
    ]

pub rule-verdict : of_call.CallVerdictExists → RuleVerdictExists
rule-verdict calls rule.Matching orders deals count list ranges named range = calls call.Matching orders deals count list ranges named range
rule-verdict calls rule.Fair orders deals count list ranges named range = calls call.Fair orders deals count list ranges named range
rule-verdict calls rule.Uniform orders deals count list ranges named range = calls (call.Greatest of_volume.Uniform) orders deals count list ranges named range
rule-verdict calls rule.Maximum orders deals count list ranges named range = calls (call.Greatest of_volume.Maximum) orders deals count list ranges named range
rule-verdict calls rule.Continuous orders deals count list ranges named range = continuous-verdict orders deals count named

module _ (symbol : List ℕ) (entries : List OrderRecord) (trades : Result (List TradeRecord) Finding) where
  abbrev orders : List Order
  orders = order_list symbol entries

  abbrev deals : List Deal
  deals = deals_of_symbol orders symbol (paired_trades trades)

  -- what the verdict is where the stages before the rule have this finding
  abbrev by_rule : Rule → Option Finding → Option Finding → Type 0
  by_rule the_rule v found = MatchOption found (IsRuleFinding the_rule orders deals (length (paired_trades trades)) v) (λ f. v ≡ Some f)

  is-sound : (the_rule : Rule) → finding_before_rule the_rule symbol entries trades ≡ None → trades_finding orders symbol (paired_trades trades) ≡ None
  is-sound the_rule none =
      let last = trades_finding orders symbol (paired_trades trades) in
      let formed = option_or-parts (history_finding symbol entries) (first_answer (instant_finding_of_rule the_rule orders ∷ pairing_finding trades ∷ last ∷ [])) none in
      let later = option_or-parts (instant_finding_of_rule the_rule orders) (first_answer (pairing_finding trades ∷ last ∷ [])) formed.1 in
      let latest = option_or-parts (pairing_finding trades) (first_answer (last ∷ [])) later.1 in
      (option_or-parts last None latest.1).0

-- two logs that have been read have the first finding before the rule, or the verdict of the rule
pub logs-verdict : RuleVerdictExists → VerdictExists
logs-verdict exists the_rule symbol entries trades few ranges range = elim (cases_Option (finding_before_rule the_rule symbol entries trades)) [
  | inr (f, some) ↦ (Some f, subst (by_rule symbol entries trades the_rule (Some f)) (sym some) refl)
  | inl none ↦
      let sound = is-sound symbol entries trades the_rule none in
      let v = exists the_rule (order_list symbol entries) (deals_of_symbol (order_list symbol entries) symbol (paired_trades trades)) (length (paired_trades trades)) (order_list-is symbol entries few) ranges
      (sound-names (order_list symbol entries) symbol (paired_trades trades) sound) (deals-ranges (order_list symbol entries) symbol (paired_trades trades) range) in
      (v.0, subst (by_rule symbol entries trades the_rule v.0) (sym none) v.1)
]
