-- A symbol has one session.
use Rattle.std.proofs.Common.{◌≡◌, ◌<◌, ◌∙◌, sym, subst, ℕ, Bool, List, length, Option, None, Some, Result, refl, arith, inl, inr, ◌∷◌, []}
use Rattle.std.specs.Prelude.{MatchOption}
use Rattle.std.proofs.lemmas.Grind.{same_number_lists}
use Rattle.audit_base.specs.declared.findings.Finding.{Finding}
use Rattle.audit_base.specs.declared.orders.Deal.{Deal}
use Rattle.audit_base.specs.declared.orders.Order.{Order}
use Rattle.audit_base.specs.declared.records.OrderRecord.{OrderRecord}
use Rattle.audit_base.specs.declared.records.TradeRecord.{TradeRecord}
use Rattle.audit_base.specs.Histories.{history_finding, order_list}
use Rattle.audit_base.specs.Least.{first_answer}
use Rattle.audit_base.specs.Trades.{TradesInRange, deals_of_symbol, trades_finding}
use Rattle.audit_base.specs.Verdicts.{paired_trades, pairing_finding}
use Rattle.audit_base.proofs.HistoryLemmas.{order_list-rising}
use Rattle.audit_base.proofs.LeastLemmas.{option_or-parts}
use Rattle.audit_base.proofs.TradeLemmas.{deals-ranges, sound-names}
use Rattle.audit_report.specs.declared.verdicts.Verdict.TheVariants.{Rejected}
use Rattle.record_verdict.specs.Scopes.{finding_before_rule_in_scope, session_scope, unadmitted_order_finding}
use Rattle.session_audit.specs.declared.phases.Phase.{Phase}
use Rattle.session_audit.specs.OneOffence.{DayOffenceIsOne}
use Rattle.session_audit.specs.Texts.{day_text}
use Rattle.session_audit.specs.VerdictLaws.{SayTheSame, SessionIsOne}
use Rattle.session_audit.specs.SessionVerdicts.{IsRejectedSession, IsSessionOfDeals, IsSessionOfRecords, IsSessionText}

text-one : (symbol : List ℕ) (phases : List Phase) (table : Bool) (orders : List Order) (deals : List Deal) (a b : List ℕ) → IsSessionText symbol phases table orders deals a → IsSessionText symbol phases table orders deals b → a ≡ b
text-one symbol phases table orders deals a b x y =
    let of_x = x.conforms.totals_are in
    let of_y = y.conforms.totals_are in
    let listed : x.totals.0 ≡ y.totals.0 = same_number_lists x.totals.0 y.totals.0 (of_x.count ∙ sym of_y.count) (λ i lt.
    let inside : i < length orders = let count = of_x.count in omega (arith, lt, count) in of_x.each i inside ∙ sym (of_y.each i inside)) in
    let whole : x.totals.1 ≡ y.totals.1 = x.conforms.volume_is ∙ sym y.conforms.volume_is in
    x.text_is ∙ (λ i. day_text symbol phases orders (listed i, whole i) (length deals) table) ∙ sym y.text_is

module _ (day : DayOffenceIsOne) (symbol : List ℕ) (phases : List Phase) (table : Bool) (entries : List OrderRecord) (paired : Result (List TradeRecord) Finding) (ranges : TradesInRange (paired_trades paired))
    (c d : Bool) (a b : List ℕ) where
  abbrev history : List Order
  history = order_list symbol entries

  abbrev deals : List Deal
  deals = deals_of_symbol history symbol (paired_trades paired)

  abbrev count : ℕ
  count = length (paired_trades paired)

  sound : finding_before_rule_in_scope (session_scope symbol) entries paired ≡ None → trades_finding history symbol (paired_trades paired) ≡ None
  sound none =
      let last = trades_finding history symbol (paired_trades paired) in
      let admitted = unadmitted_order_finding (session_scope symbol).admission history in
      let first = option_or-parts (history_finding symbol entries) (first_answer (admitted ∷ pairing_finding paired ∷ last ∷ [])) none in
      let second = option_or-parts admitted (first_answer (pairing_finding paired ∷ last ∷ [])) first.1 in
      let third = option_or-parts (pairing_finding paired) (first_answer (last ∷ [])) second.1 in
      (option_or-parts last None third.1).0

  rejected-one : (finding : Finding) → IsRejectedSession (Rejected finding) c a → IsRejectedSession (Rejected finding) d b → SayTheSame c a d b
  rejected-one finding x y = record { conforms_same = x.conforms_is ∙ sym y.conforms_is; text_same = x.text_is ∙ sym y.text_is }

  judged-one : finding_before_rule_in_scope (session_scope symbol) entries paired ≡ None → IsSessionOfDeals symbol phases table history deals count c a → IsSessionOfDeals symbol phases table history deals count d b → SayTheSame c a d b
  judged-one none (inl x) (inl y) = record { conforms_same = x.conforms_is ∙ sym y.conforms_is; text_same = text-one symbol phases table history deals a b x.is y.is }
  judged-one none (inl x) (inr y) = absurd (y.broken.fails x.is.conforms.conforms)
  judged-one none (inr x) (inl y) = absurd (x.broken.fails y.is.conforms.conforms)
  judged-one none (inr x) (inr y) =
      let same = day phases history deals count x.finding y.finding (order_list-rising symbol entries) (sound-names history symbol (paired_trades paired) (sound none))
      (deals-ranges history symbol (paired_trades paired) ranges) x.broken.offence y.broken.offence in
      rejected-one y.finding (subst (λ (f : Finding). IsRejectedSession (Rejected f) c a) same x.is) y.is

  by-finding : (found : Option Finding) → finding_before_rule_in_scope (session_scope symbol) entries paired ≡ found
      → MatchOption found (IsSessionOfDeals symbol phases table history deals count c a) (λ finding. IsRejectedSession (Rejected finding) c a)
      → MatchOption found (IsSessionOfDeals symbol phases table history deals count d b) (λ finding. IsRejectedSession (Rejected finding) d b)
      → SayTheSame c a d b
  by-finding None is x y = judged-one is x y
  by-finding (Some finding) is x y = rejected-one finding x y

pub session-is-one : DayOffenceIsOne → SessionIsOne
session-is-one day symbol phases table entries paired c d a b ranges x y =
    by-finding day symbol phases table entries paired ranges c d a b (finding_before_rule_in_scope (session_scope symbol) entries paired) refl x y
