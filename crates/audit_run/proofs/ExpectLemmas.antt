-- An audit accepts the Expected trades, beside the records of whose orders they are.
use Rattle.std.proofs.Common.{◌≡◌, ◌∙◌, sym, ap, subst, refl, ℕ, Bool, List, length, Option, Some, None, Ok}
use Rattle.audit_base.specs.declared.orders.Cut.{Cut}
use Rattle.audit_base.specs.declared.orders.Deal.{Deal}
use Rattle.audit_base.specs.declared.orders.Order.{Order}
use Rattle.audit_base.specs.declared.records.OrderRecord.{OrderRecord}
use Rattle.audit_base.specs.declared.records.TradeRecord.{TradeRecord}
use Rattle.audit_base.specs.declared.terms.Rule.{Rule}
use Rattle.audit_base.specs.declared.terms.Rule.TheVariants as rule
use Rattle.audit_base.specs.declared.terms.VolumeRule.TheVariants as of_volume
use Rattle.audit_base.specs.Bounds.{IsBoundPrice}
use Rattle.audit_base.specs.CallOffences.{IsGreatestUnder}
use Rattle.audit_base.specs.Deals.{volume, DealsInRange}
use Rattle.audit_base.specs.Expected.{IsExpected, trades_of_deals}
use Rattle.audit_base.specs.Histories.{order_list, Regular, WellFormed}
use Rattle.audit_base.specs.Orders.{OrdersInRange, HaveOwnKeys, IsOrderList}
use Rattle.audit_base.specs.Rules.{Conforms}
use Rattle.audit_base.specs.Trades.{deals_of_symbol, trades_finding}
use Rattle.audit_base.specs.Verdicts.{instant_finding_of_rule, finding_before_rule}
use Rattle.audit_base.proofs.TradeLemmas.{deals-ranges}
use Rattle.audit_base.proofs.VerdictLemmas.{one-greatest}
use Rattle.audit_report.specs.declared.verdicts.Accepted.{Accepted}
use Rattle.audit_report.specs.declared.verdicts.Verdict.TheVariants as verdict
use Rattle.call_laws.specs.Existence.{LeastCutExists}
use Rattle.call_laws.specs.Laws.{OnlyQuantities}
use Rattle.call_laws.specs.Optimum.{MaximumTradesAreExpected}
use Rattle.csv_logs.specs.Written.{csv_trades_text}
use Rattle.canonical_form.specs.Trades.{ExpectedHavePlaces, TradesAreSound, TradesGiveTheirDeals}
use Rattle.continuous_laws.specs.Laws.{OnlyPairs}
use Rattle.record_verdict.specs.declared.questions.Question.{Question}
use Rattle.audit_run.specs.Expecting.{IsConformingLog, IsLogOfOrders}
use Rattle.audit_run.specs.OtherTexts.{IsAcceptedBeside}
use Rattle.record_verdict.specs.RecordVerdicts.{question, table_lines, AreOnlyQuantities, IsReportedBound}
use Rattle.log_verdict.specs.LogVerdicts.{trades_without_pairing}
use Rattle.record_verdict.specs.Stages.{VerdictFollowsDeals}
use Rattle.record_verdict.specs.Laws.{SoundTradesHaveVerdict}

-- the laws that the answer rests on
pub record Laws : Type 0 where
  pub sound : TradesAreSound
  pub again : TradesGiveTheirDeals
  pub places : ExpectedHavePlaces
  pub least_cut : LeastCutExists
  pub maximum : MaximumTradesAreExpected
  pub quantities : OnlyQuantities
  pub pairs : OnlyPairs
  pub judged : SoundTradesHaveVerdict

-- well-formed records with sound trades have no finding before a rule that admits their orders
none-before : (the_rule : Rule) (symbol : List ℕ) (entries : List OrderRecord) (trades : List TradeRecord) → WellFormed symbol entries → instant_finding_of_rule the_rule (order_list symbol entries) ≡ None
    → trades_finding (order_list symbol entries) symbol trades ≡ None → finding_before_rule the_rule symbol entries (Ok trades) ≡ None
none-before the_rule symbol entries trades formed admits sound = rw (formed, admits, sound) refl

module _ (laws : Laws) (orders : List Order) (list : IsOrderList orders) (regular : Regular orders) (numbers : OrdersInRange orders) where
  -- Expected trades have a bound to show, where their rule shows one
  bound-shown : (the_rule : Rule) (deals : List Deal) → DealsInRange deals → IsExpected the_rule orders deals → Conforms the_rule orders deals
      → (bound : Option Cut) × IsReportedBound the_rule orders (volume deals) bound
  bound-shown rule.Uniform deals ranges is conforms =
      let greatest : IsGreatestUnder of_volume.Uniform orders (volume deals) =
      record { deals = deals; ranges = ranges; matching = conforms.matching; one_price = conforms.one_price; greatest = conforms.greatest; reached = refl } in
      let same : is.most ≡ volume deals = one-greatest of_volume.Uniform orders is.most (volume deals) is.greatest greatest in
      let shows : IsBoundPrice of_volume.Uniform orders (volume deals) is.bound = subst (λ (v : ℕ). IsBoundPrice of_volume.Uniform orders v is.bound) same is.is_bound in
      (Some (record { price = is.bound; volume = volume deals }), record { volume_is = refl; shows = shows })
  bound-shown rule.Maximum deals ranges is conforms =
      let least = laws.least_cut orders in
      let known = laws.maximum orders least.0 list numbers least.1 in
      let greatest : IsGreatestUnder of_volume.Maximum orders (volume deals) =
      record { deals = deals; ranges = ranges; matching = conforms.matching; greatest = conforms.greatest; reached = refl } in
      let same : least.0.volume ≡ volume deals = one-greatest of_volume.Maximum orders least.0.volume (volume deals) known.1 greatest in
      let shows : IsBoundPrice of_volume.Maximum orders (volume deals) least.0.price = subst (λ (v : ℕ). IsBoundPrice of_volume.Maximum orders v least.0.price) same known.2 in
      (Some (record { price = least.0.price; volume = volume deals }), record { volume_is = refl; shows = shows })
  bound-shown rule.Continuous deals ranges is conforms = (None, refl)
  bound-shown rule.Matching deals ranges is conforms = absurd is
  bound-shown rule.Fair deals ranges is conforms = absurd is

  -- what they trade is all that conforming trades can
  only-these : (the_rule : Rule) (deals : List Deal) → DealsInRange deals → Conforms the_rule orders deals → AreOnlyQuantities the_rule orders deals
  only-these rule.Uniform deals ranges conforms = λ i lt. laws.quantities of_volume.Uniform orders deals list ranges conforms i
  only-these rule.Maximum deals ranges conforms = λ i lt. laws.quantities of_volume.Maximum orders deals list ranges conforms i
  only-these rule.Continuous deals ranges conforms = laws.pairs orders deals list regular ranges conforms
  only-these rule.Matching deals ranges conforms = tt
  only-these rule.Fair deals ranges conforms = tt

  -- what is answered to them
  acceptance_of : (q : Question) → List Deal → Option Cut → Accepted
  acceptance_of q deals bound = record {
    rule = q.rule;
    symbol = q.symbol;
    orders = length orders;
    trades = length deals;
    volume = volume deals;
    bound = bound;
    table = table_lines q.rule q.table orders deals;
  }

  deals-accepted : (q : Question) (deals : List Deal) (count : ℕ) (bound : Option Cut) → DealsInRange deals → Conforms q.rule orders deals → IsReportedBound q.rule orders (volume deals) bound
      → VerdictFollowsDeals q orders deals count (verdict.Accepted (acceptance_of q deals bound))
  unfolding acceptance_of
  deals-accepted q deals count bound ranges conforms shown = record {
    found = None;
    by_the_rule = conforms;
    outcome = record {
      rule_is = refl;
      symbol_is = refl;
      orders_are = refl;
      trades_are = refl;
      volume_is = refl;
      bound_is = shown;
      table_is = refl;
      only = only-these q.rule deals ranges conforms;
    };
  }

  module _ (keys : HaveOwnKeys orders) (the_rule : Rule) (symbol : List ℕ) (admits : instant_finding_of_rule the_rule orders ≡ None) where
    -- the log of the Expected trades is one that an audit accepts
    pub log-accepted : (text : List ℕ) → IsConformingLog the_rule symbol orders text → IsLogOfOrders the_rule symbol orders text
    log-accepted text is entries formed same =
        let trades : List TradeRecord = trades_of_deals orders symbol is.deals in
        let sound = laws.sound orders is.deals symbol keys is.deal_list in
        let again : deals_of_symbol orders symbol trades ≡ is.deals = laws.again orders is.deals symbol keys is.deal_list (laws.places the_rule orders is.deals is.expected) in
        let ranges : DealsInRange is.deals = subst DealsInRange again (deals-ranges orders symbol trades is.ranges) in
        let shown = bound-shown the_rule is.deals ranges is.expected is.conforms in
        let accepted : (table : Bool) → IsAcceptedBeside (question the_rule symbol table) entries (trades_without_pairing (Ok trades)) = λ table.
        let q : Question = question the_rule symbol table in
        let of_list : VerdictFollowsDeals q orders is.deals (length trades) (verdict.Accepted (acceptance_of q is.deals shown.0)) = deals-accepted q is.deals (length trades) shown.0 ranges is.conforms shown.1 in
        let none : finding_before_rule the_rule symbol entries (Ok trades) ≡ None = none-before the_rule symbol entries trades formed (ap (instant_finding_of_rule the_rule) (sym same) ∙ admits) (subst (λ (os : List Order). trades_finding os symbol trades ≡ None) same sound) in
        record {
          trades = trades;
          says = refl;
          acceptance = acceptance_of q is.deals shown.0;
          judged = laws.judged q entries trades is.deals _ none (sym again ∙ ap (λ (os : List Order). deals_of_symbol os symbol trades) same) ranges
              (subst (λ (os : List Order). VerdictFollowsDeals q os is.deals (length trades) (verdict.Accepted (acceptance_of q is.deals shown.0))) same of_list);
        } in
        record {
          deals = is.deals;
          expected = subst (λ (os : List Order). IsExpected the_rule os is.deals) same is.expected;
          text_is = is.text_is ∙ ap (λ (os : List Order). csv_trades_text (trades_of_deals os symbol is.deals)) same;
          accepted = λ table. subst (λ s. IsAcceptedBeside (question the_rule symbol table) entries (trades_without_pairing s)) (sym is.says) (accepted table);
        }
