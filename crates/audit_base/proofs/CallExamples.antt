-- Worked examples of histories, sound trades and the rules of a call. Each theorem computes: the verdict is the stated one, with the
-- stated numbers; the rule holds; or the claim next to it is refuted.
use Rattle.std.specs.Prelude.{◌^◌, true, ◌≡◌, ◌≤◌, ℕ, ◌+◌, ◌-◌, false, List, [], ◌∷◌, None, Some, Ok, codes, refl}
use Rattle.std.proofs.Common.{ap, arith, get_or}
use Rattle.audit_base.specs.declared.terms.Side.TheVariants.{Buy, Sell}
use Rattle.audit_base.specs.declared.terms.Which.TheVariants as which
use Rattle.audit_base.specs.declared.terms.Rule.TheVariants as rule
use Rattle.audit_base.specs.declared.terms.VolumeRule.TheVariants as of_volume
use Rattle.audit_base.specs.declared.records.OrderRecord.{OrderRecord}
use Rattle.audit_base.specs.declared.records.OrderRecord.TheVariants.{New}
use Rattle.audit_base.specs.declared.terms.Life.TheVariants.{Rests}
use Rattle.audit_base.specs.declared.records.TradeRecord.{TradeRecord}
use Rattle.audit_base.specs.declared.findings.Property.TheVariants as property
use Rattle.audit_base.specs.declared.findings.Shown.TheVariants as shown
use Rattle.audit_base.specs.declared.findings.Finding.{Finding}
use Rattle.audit_base.specs.Deals.{traded, volume}
use Rattle.audit_base.specs.declared.orders.Order.{Order}
use Rattle.audit_base.specs.declared.orders.Deal.{Deal}
use Rattle.audit_base.specs.declared.terms.Side.{Side}
use Rattle.audit_base.specs.declared.findings.Shown.{Shown}
use Rattle.audit_base.proofs.VolumeLemmas.{cut-greatest, line-greatest, demand-falls, supply-under}
use Rattle.audit_base.proofs.DealLemmas.{bids-volume, asks-volume, keeps-names}
use Rattle.audit_base.specs.Calls.{Matching, Fair, Greatest}
use Rattle.audit_base.specs.Bounds.{demand, cut, supply_below, executable_volume, IsBoundPrice}
use Rattle.audit_base.specs.Shows.{finding_at_record}
use Rattle.audit_base.specs.Expected.{uniform_deals, maximum_deals}
use Rattle.audit_base.specs.Rules.{Conforms}
use Rattle.audit_base.specs.Verdicts.{IsRecordFinding}
use Rattle.audit_base.proofs.OffenceLemmas.{no_offence-matching, no_offence-one_price, no_offence-fair}
use Rattle.audit_base.proofs.ExampleLogs.{all_definitions, all_named, all_in_range, symbol, key, at, new_order, immediate_order, cancel, replace, trade, orders_in, deals_in, line, whole, half_over}

-- one-trade: the logs are accepted under `matching`
abbrev one_trade_orders : List OrderRecord
one_trade_orders = new_order Buy (codes "b1") 100 10 ∷ new_order Sell (codes "s1") 100 9 ∷ []

abbrev one_trade : List TradeRecord
one_trade = trade (codes "T1") (codes "b1") (codes "s1") 100 (half_over 9) ∷ []

pub one_trade-accepted : IsRecordFinding rule.Matching symbol one_trade_orders (Ok one_trade) None
unfolding all_definitions
one_trade-accepted = no_offence-matching false (orders_in one_trade_orders) (deals_in one_trade_orders one_trade) (all_named (orders_in one_trade_orders) (deals_in one_trade_orders one_trade) refl) refl

-- buyer-overfilled, and with a further trade that overfills as well
abbrev overfilled_orders : List OrderRecord
overfilled_orders = new_order Buy (codes "b1") 10 10 ∷ new_order Sell (codes "s1") 20 9 ∷ []

abbrev overfilled_trades : List TradeRecord
overfilled_trades = trade (codes "T1") (codes "b1") (codes "s1") 5 (whole 9) ∷ trade (codes "T2") (codes "b1") (codes "s1") 5 (whole 9) ∷ trade (codes "T3") (codes "b1") (codes "s1") 1 (whole 9) ∷ []

abbrev overfilled_more : List TradeRecord
overfilled_more = trade (codes "T1") (codes "b1") (codes "s1") 5 (whole 9) ∷ trade (codes "T2") (codes "b1") (codes "s1") 5 (whole 9) ∷ trade (codes "T3") (codes "b1") (codes "s1") 1 (whole 9)
    ∷ trade (codes "T4") (codes "b1") (codes "s1") 1 (whole 9) ∷ []

pub buyer_overfilled : IsRecordFinding rule.Matching symbol overfilled_orders (Ok overfilled_trades)
    (Some (finding_at_record property.BuyQuantity which.Trades 3 (Some (shown.Order (line 1 Buy (codes "b1") 10 10 11))) None))
unfolding all_definitions
buyer_overfilled = refl

pub buyer_overfilled_and_more : IsRecordFinding rule.Matching symbol overfilled_orders (Ok overfilled_more)
    (Some (finding_at_record property.BuyQuantity which.Trades 3 (Some (shown.Order (line 1 Buy (codes "b1") 10 10 11))) None))
unfolding all_definitions
buyer_overfilled_and_more = refl

-- the trade after it is not what the finding names, and the trades are no matching
pub buyer_overfilled-not_later : IsRecordFinding rule.Matching symbol overfilled_orders (Ok overfilled_more)
    (Some (finding_at_record property.BuyQuantity which.Trades 4 (Some (shown.Order (line 1 Buy (codes "b1") 10 10 12))) None)) → ⊥
unfolding all_definitions
buyer_overfilled-not_later e = let p : ◌≡◌ {A = ℕ} 4 3 = ap (λ (f : Finding). f.place) e in absurd (omega arith)

pub buyer_overfilled-no_matching : Matching (orders_in overfilled_orders) (deals_in overfilled_orders overfilled_trades) → ⊥
unfolding all_definitions
buyer_overfilled-no_matching m = let w : 11 ≤ 10 = m.within 0 (omega arith) in absurd (omega arith)

-- seller-overfilled
abbrev seller_overfilled_orders : List OrderRecord
seller_overfilled_orders = new_order Buy (codes "b1") 100 10 ∷ new_order Sell (codes "s1") 10 9 ∷ []

pub seller_overfilled : IsRecordFinding rule.Matching symbol seller_overfilled_orders (Ok (trade (codes "T1") (codes "b1") (codes "s1") 11 (whole 9) ∷ []))
    (Some (finding_at_record property.SellQuantity which.Trades 1 (Some (shown.Order (line 2 Sell (codes "s1") 10 9 11))) None))
unfolding all_definitions
seller_overfilled = refl

-- price-over-the-limit: 10.00000001 is above the bid's limit
pub price_over_the_limit : IsRecordFinding rule.Matching symbol one_trade_orders (Ok (trade (codes "T1") (codes "b1") (codes "s1") 100 (whole 10 + 1) ∷ []))
    (Some (finding_at_record property.Limit which.Trades 1 (Some (shown.Order (line 1 Buy (codes "b1") 100 10 100))) (Some (shown.Order (line 2 Sell (codes "s1") 100 9 100)))))
unfolding all_definitions
price_over_the_limit = refl

-- unknown-sell-order and duplicate-trade
pub unknown_sell_order : IsRecordFinding rule.Matching symbol one_trade_orders (Ok (trade (codes "T1") (codes "b1") (codes "s9") 100 (half_over 9) ∷ []))
    (Some (finding_at_record property.UnknownOrder which.Trades 1 (Some (shown.Unknown Sell (key Sell (codes "s9")))) None))
unfolding all_definitions
unknown_sell_order = refl

pub duplicate_trade : IsRecordFinding rule.Matching symbol one_trade_orders (Ok (trade (codes "T1") (codes "b1") (codes "s1") 50 (half_over 9) ∷ trade (codes "T1") (codes "b1") (codes "s1") 50 (half_over 9) ∷ []))
    (Some (finding_at_record property.DuplicateTrade which.Trades 2 (Some (shown.Place which.Trades 1)) None))
unfolding all_definitions
duplicate_trade = refl

-- duplicate-id, time-back and unknown-target
pub duplicate_id : IsRecordFinding rule.Matching symbol (new_order Buy (codes "b1") 5 10 ∷ new_order Buy (codes "b1") 6 11 ∷ []) (Ok [])
    (Some (finding_at_record property.DuplicateId which.Orders 2 (Some (shown.Place which.Orders 1)) None))
unfolding all_definitions
duplicate_id = refl

pub time_back : IsRecordFinding rule.Matching symbol (New (key Buy (codes "b1")) (at 1) symbol Buy 5 (whole 10) Rests ∷ New (key Buy (codes "b2")) (at 0) symbol Buy 5 (whole 10) Rests ∷ []) (Ok [])
    (Some (finding_at_record property.TimeBack which.Orders 2 (Some (shown.Place which.Orders 1)) None))
unfolding all_definitions
time_back = refl

pub unknown_target : IsRecordFinding rule.Matching symbol (cancel Buy (codes "x1") (codes "b9") ∷ []) (Ok []) (Some (finding_at_record property.UnknownTarget which.Orders 1 None None))
unfolding all_definitions
unknown_target = refl

-- immediate-in-a-call: an immediate order is refused under a call's rule
pub immediate_in_a_call : IsRecordFinding rule.Maximum symbol (immediate_order Buy (codes "i1") 5 10 ∷ new_order Sell (codes "s1") 5 9 ∷ []) (Ok [])
    (Some (finding_at_record property.InstantOrder which.Orders 1 None None))
unfolding all_definitions
immediate_in_a_call = refl

-- buyer-skipped, and with a third bid that is skipped as well: the best skipped bid is shown
abbrev skipped_orders : List OrderRecord
skipped_orders = new_order Buy (codes "b1") 5 10 ∷ new_order Buy (codes "b2") 5 10 ∷ new_order Sell (codes "s1") 5 9 ∷ []

abbrev skipped_trades : List TradeRecord
skipped_trades = trade (codes "T1") (codes "b2") (codes "s1") 5 (whole 10) ∷ []

pub buyer_skipped : IsRecordFinding rule.Fair symbol skipped_orders (Ok skipped_trades)
    (Some (finding_at_record property.BuyPriority which.Trades 1 (Some (shown.Order (line 1 Buy (codes "b1") 5 10 0))) (Some (shown.Order (line 2 Buy (codes "b2") 5 10 5)))))
unfolding all_definitions
buyer_skipped = refl

pub buyer_skipped_and_another : IsRecordFinding rule.Fair symbol
    (new_order Buy (codes "b1") 5 10 ∷ new_order Buy (codes "b2") 5 10 ∷ new_order Sell (codes "s1") 5 9 ∷ new_order Buy (codes "b3") 5 10 ∷ []) (Ok skipped_trades)
    (Some (finding_at_record property.BuyPriority which.Trades 1 (Some (shown.Order (line 1 Buy (codes "b1") 5 10 0))) (Some (shown.Order (line 2 Buy (codes "b2") 5 10 5)))))
unfolding all_definitions
buyer_skipped_and_another = refl

-- the trades are a matching all the same, and not a fair one
pub buyer_skipped-matching : IsRecordFinding rule.Matching symbol skipped_orders (Ok skipped_trades) None
unfolding all_definitions
buyer_skipped-matching = no_offence-matching false (orders_in skipped_orders) (deals_in skipped_orders skipped_trades) (all_named (orders_in skipped_orders) (deals_in skipped_orders skipped_trades) refl) refl

pub buyer_skipped-not_fair : Fair (orders_in skipped_orders) (deals_in skipped_orders skipped_trades) → ⊥
unfolding all_definitions
buyer_skipped-not_fair f =
    let e : ◌≡◌ {A = ℕ} 0 5 = f.fills Buy 0 1 (record { inside = omega arith; of_side = refl; uncancelled = refl }) (record { inside = omega arith; of_side = refl; uncancelled = refl }) refl (omega arith) in
    absurd (omega arith)

-- crossed-pair: under `maximum` the two trades are fair and their volume is the cut at price 0; under `uniform` their prices differ
abbrev crossed_orders : List OrderRecord
crossed_orders = new_order Buy (codes "b1") 1 10 ∷ new_order Buy (codes "b2") 1 6 ∷ new_order Sell (codes "s1") 1 5 ∷ new_order Sell (codes "s2") 1 9 ∷ []

abbrev crossed_trades : List TradeRecord
crossed_trades = trade (codes "T1") (codes "b1") (codes "s2") 1 (half_over 9) ∷ trade (codes "T2") (codes "b2") (codes "s1") 1 (half_over 5) ∷ []

-- the orders of the row
abbrev crossed_pair : List Order
crossed_pair = orders_in crossed_orders

pub crossed_pair_maximum : IsRecordFinding rule.Maximum symbol crossed_orders (Ok crossed_trades) None
unfolding all_definitions
crossed_pair_maximum =
    let deals = deals_in crossed_orders crossed_trades in
    let m : Matching crossed_pair deals = no_offence-matching false crossed_pair deals (all_named crossed_pair deals refl) refl in
    record { matching = m; fair = no_offence-fair crossed_pair deals m refl; greatest = cut-greatest crossed_pair deals 0 refl }

pub crossed_pair_maximum-bound : IsBoundPrice of_volume.Maximum (orders_in crossed_orders) 2 0
unfolding all_definitions
crossed_pair_maximum-bound = record { holds = (omega arith, refl); none_below = λ k lt. absurd (omega arith) }

-- expect-maximum: unit 2 of the bids meets unit 1 of the asks, and unit 1 unit 2
pub expect_maximum : maximum_deals (orders_in crossed_orders) 2
    ≡ record { place = 1; bid = 0; ask = 3; quantity = 1; price = whole 9 } ∷ record { place = 2; bid = 1; ask = 2; quantity = 1; price = whole 5 } ∷ []
unfolding all_definitions
expect_maximum = refl

pub crossed_pair_uniform : IsRecordFinding rule.Uniform symbol crossed_orders (Ok crossed_trades) (Some (finding_at_record property.UniformPrice which.Trades 2 (Some (shown.Place which.Trades 1)) None))
unfolding all_definitions
crossed_pair_uniform = refl

-- staircase: under `uniform` two units trade at 2, which is all that can at one price there; under `maximum` three could
abbrev staircase_orders : List OrderRecord
staircase_orders = new_order Buy (codes "b1") 1 1 ∷ new_order Buy (codes "b2") 1 2 ∷ new_order Buy (codes "b3") 1 3
    ∷ new_order Sell (codes "s1") 1 1 ∷ new_order Sell (codes "s2") 1 2 ∷ new_order Sell (codes "s3") 1 3 ∷ []

abbrev staircase_trades : List TradeRecord
staircase_trades = trade (codes "T1") (codes "b2") (codes "s1") 1 (whole 2) ∷ trade (codes "T2") (codes "b3") (codes "s2") 1 (whole 2) ∷ []

abbrev staircase_three : List TradeRecord
staircase_three = trade (codes "T1") (codes "b1") (codes "s1") 1 (whole 1) ∷ trade (codes "T2") (codes "b2") (codes "s2") 1 (whole 2) ∷ trade (codes "T3") (codes "b3") (codes "s3") 1 (whole 3) ∷ []

abbrev staircase : List Order
staircase = orders_in staircase_orders

pub staircase_uniform : IsRecordFinding rule.Uniform symbol staircase_orders (Ok staircase_trades) None
unfolding all_definitions
staircase_uniform =
    let deals = deals_in staircase_orders staircase_trades in
    let m : Matching staircase deals = no_offence-matching true staircase deals (all_named staircase deals refl) refl in
    record {
      matching = m;
      fair = no_offence-fair staircase deals m refl;
      one_price = no_offence-one_price true staircase deals refl refl;
      greatest = line-greatest staircase deals (whole 1 + 1) (omega arith) (omega arith);
    }

-- the bound is 2: below it at most one unit is offered
pub staircase_uniform-bound : IsBoundPrice of_volume.Uniform staircase 2 (whole 2)
unfolding all_definitions
staircase_uniform-bound = record {
  holds = (omega arith, refl);
  none_below = λ k lt h.
      let offered_below_two : supply_below staircase (whole 2) ≡ 1 = refl in
      let fewer = supply-under staircase k (whole 2) lt in
      let both : executable_volume staircase k ≡ 2 = h.1 in
      absurd (omega arith);
}

pub expect_uniform : uniform_deals (orders_in staircase_orders) 2 (whole 2)
    ≡ record { place = 1; bid = 1; ask = 4; quantity = 1; price = whole 2 } ∷ record { place = 2; bid = 2; ask = 3; quantity = 1; price = whole 2 } ∷ []
unfolding all_definitions
expect_uniform = refl

-- three units conform under `maximum`, and each order of a conforming list trades its one unit
pub staircase_three-conforms : Conforms rule.Maximum staircase (deals_in staircase_orders staircase_three)
unfolding all_definitions
staircase_three-conforms =
    let deals = deals_in staircase_orders staircase_three in
    let m : Matching staircase deals = no_offence-matching false staircase deals (all_named staircase deals refl) refl in
    record { matching = m; fair = no_offence-fair staircase deals m refl; greatest = cut-greatest staircase deals (whole 1 + 1) refl }

staircase-volume : (deals : List Deal) → Conforms rule.Maximum staircase deals → 3 ≤ volume deals
unfolding all_definitions
staircase-volume deals c = c.greatest (deals_in staircase_orders staircase_three) (all_in_range (deals_in staircase_orders staircase_three) refl) staircase_three-conforms.matching

staircase-bid : (deals : List Deal) → Conforms rule.Maximum staircase deals → traded deals 0 ≡ 1
unfolding all_definitions
staircase-bid deals c =
    let most = staircase-volume deals c in
    let sides : 0 + traded deals 0 + traded deals 1 + traded deals 2 + 0 + 0 + 0 ≡ volume deals = bids-volume staircase deals (λ k d lt. keeps-names staircase (get_or deals k d) (c.matching.kept k d lt)) in
    let first : traded deals 0 ≤ 1 = c.matching.within 0 (omega arith) in
    let second : traded deals 1 ≤ 1 = c.matching.within 1 (omega arith) in
    let third : traded deals 2 ≤ 1 = c.matching.within 2 (omega arith) in
    omega arith

staircase-ask : (deals : List Deal) → Conforms rule.Maximum staircase deals → traded deals 5 ≡ 1
unfolding all_definitions
staircase-ask deals c =
    let most = staircase-volume deals c in
    let sides : 0 + 0 + 0 + 0 + traded deals 3 + traded deals 4 + traded deals 5 ≡ volume deals = asks-volume staircase deals (λ k d lt. keeps-names staircase (get_or deals k d) (c.matching.kept k d lt)) in
    let first : traded deals 3 ≤ 1 = c.matching.within 3 (omega arith) in
    let second : traded deals 4 ≤ 1 = c.matching.within 4 (omega arith) in
    let third : traded deals 5 ≤ 1 = c.matching.within 5 (omega arith) in
    omega arith

abbrev due : ℕ → Side → List ℕ → ℕ → ℕ → ℕ → ℕ → Shown
due place side id quantity price traded_so_far n = shown.Due (line place side id quantity price traded_so_far) n

pub staircase_maximum : IsRecordFinding rule.Maximum symbol staircase_orders (Ok staircase_trades) (Some (record {
  property = property.Volume;
  log = which.Trades;
  place = 3;
  first = Some (due 1 Buy (codes "b1") 1 1 0 1);
  second = Some (due 6 Sell (codes "s3") 1 3 0 1);
  short = Some (record { reached = 2; greatest = 3 });
}))
unfolding all_definitions
staircase_maximum =
    let three = deals_in staircase_orders staircase_three in
    let c = staircase_three-conforms in
    record {
      most = 3;
      bid = 0;
      ask = 5;
      bid_due = 1;
      ask_due = 1;
      greatest = record { deals = three; ranges = all_in_range three refl; matching = c.matching; greatest = c.greatest; reached = refl };
      below = omega arith;
      short_bid = refl;
      short_ask = refl;
      only_bid = record { some = three; ranges = all_in_range three refl; conforms = c; each = λ deals r d. staircase-bid deals d };
      only_ask = record { some = three; ranges = all_in_range three refl; conforms = c; each = λ deals r d. staircase-ask deals d };
      shows = refl;
    }

-- the two trades are not the most that could trade
pub staircase_maximum-not_greatest : Greatest staircase (deals_in staircase_orders staircase_trades) → ⊥
unfolding all_definitions
staircase_maximum-not_greatest g = let le : 3 ≤ 2 = g (deals_in staircase_orders staircase_three) (all_in_range (deals_in staircase_orders staircase_three) refl) staircase_three-conforms.matching in absurd (omega arith)

-- two-pairings: either pairing of the same quantities is fair, of one price, and reaches what can trade at 8
abbrev pairing_orders : List OrderRecord
pairing_orders = new_order Buy (codes "b1") 10 10 ∷ new_order Buy (codes "b2") 10 9 ∷ new_order Sell (codes "s1") 10 7 ∷ new_order Sell (codes "s2") 10 8 ∷ []

abbrev first_pairing : List TradeRecord
first_pairing = trade (codes "T1") (codes "b1") (codes "s2") 10 (half_over 8) ∷ trade (codes "T2") (codes "b2") (codes "s1") 10 (half_over 8) ∷ []

abbrev second_pairing : List TradeRecord
second_pairing = trade (codes "T1") (codes "b1") (codes "s1") 10 (half_over 8) ∷ trade (codes "T2") (codes "b2") (codes "s2") 10 (half_over 8) ∷ []

abbrev pairing : List Order
pairing = orders_in pairing_orders

pub two_pairings-first : IsRecordFinding rule.Uniform symbol pairing_orders (Ok first_pairing) None
unfolding all_definitions
two_pairings-first =
    let deals = deals_in pairing_orders first_pairing in
    let m : Matching pairing deals = no_offence-matching true pairing deals (all_named pairing deals refl) refl in
    record { matching = m; fair = no_offence-fair pairing deals m refl; one_price = no_offence-one_price true pairing deals refl refl; greatest = line-greatest pairing deals 0 (omega arith) (omega arith) }

pub two_pairings-second : IsRecordFinding rule.Uniform symbol pairing_orders (Ok second_pairing) None
unfolding all_definitions
two_pairings-second =
    let deals = deals_in pairing_orders second_pairing in
    let m : Matching pairing deals = no_offence-matching true pairing deals (all_named pairing deals refl) refl in
    record { matching = m; fair = no_offence-fair pairing deals m refl; one_price = no_offence-one_price true pairing deals refl refl; greatest = line-greatest pairing deals 0 (omega arith) (omega arith) }

pub two_pairings-shown : executable_volume pairing (whole 8) ≡ 20
unfolding all_definitions
two_pairings-shown = refl

-- empty-logs: nothing conforms to `uniform` where there is nothing
pub empty_logs : IsRecordFinding rule.Uniform symbol [] (Ok []) None
unfolding all_definitions
empty_logs =
    let m : Matching [] [] = no_offence-matching true [] [] (all_named [] [] refl) refl in
    record { matching = m; fair = no_offence-fair [] [] m refl; one_price = no_offence-one_price true [] [] refl refl; greatest = line-greatest [] [] 0 (omega arith) (omega arith) }

-- untraded-maximum and untraded-uniform: no trades, though 100 could trade at one price
abbrev pair_orders : List Order
pair_orders = orders_in one_trade_orders

abbrev pair_deal : List Deal
pair_deal = deals_in one_trade_orders one_trade

pub one_trade-maximum : Conforms rule.Maximum pair_orders pair_deal
unfolding all_definitions
one_trade-maximum =
    let m : Matching pair_orders pair_deal = no_offence-matching false pair_orders pair_deal (all_named pair_orders pair_deal refl) refl in
    record { matching = m; fair = no_offence-fair pair_orders pair_deal m refl; greatest = cut-greatest pair_orders pair_deal 0 refl }

pub one_trade-uniform : Conforms rule.Uniform pair_orders pair_deal
unfolding all_definitions
one_trade-uniform =
    let m : Matching pair_orders pair_deal = no_offence-matching true pair_orders pair_deal (all_named pair_orders pair_deal refl) refl in
    record {
      matching = m;
      fair = no_offence-fair pair_orders pair_deal m refl;
      one_price = no_offence-one_price true pair_orders pair_deal refl refl;
      greatest = line-greatest pair_orders pair_deal 0 (omega arith) (omega arith);
    }

-- a matching of at least 100 trades 100 of either order
whole_bid : (deals : List Deal) → Matching pair_orders deals → 100 ≤ volume deals → traded deals 0 ≡ 100
unfolding all_definitions
whole_bid deals m le =
    let sides : 0 + traded deals 0 + 0 ≡ volume deals = bids-volume pair_orders deals (λ k d lt. keeps-names pair_orders (get_or deals k d) (m.kept k d lt)) in
    let most : traded deals 0 ≤ 100 = m.within 0 (omega arith) in
    omega arith

whole_ask : (deals : List Deal) → Matching pair_orders deals → 100 ≤ volume deals → traded deals 1 ≡ 100
unfolding all_definitions
whole_ask deals m le =
    let sides : 0 + 0 + traded deals 1 ≡ volume deals = asks-volume pair_orders deals (λ k d lt. keeps-names pair_orders (get_or deals k d) (m.kept k d lt)) in
    let most : traded deals 1 ≤ 100 = m.within 1 (omega arith) in
    omega arith

abbrev untraded : Finding
untraded = record {
  property = property.Volume;
  log = which.Trades;
  place = 1;
  first = Some (due 1 Buy (codes "b1") 100 10 0 100);
  second = Some (due 2 Sell (codes "s1") 100 9 0 100);
  short = Some (record { reached = 0; greatest = 100 });
}

pub untraded_maximum : IsRecordFinding rule.Maximum symbol one_trade_orders (Ok []) (Some untraded)
unfolding all_definitions
untraded_maximum =
    let c = one_trade-maximum in
    record {
      most = 100;
      bid = 0;
      ask = 1;
      bid_due = 100;
      ask_due = 100;
      greatest = record { deals = pair_deal; ranges = all_in_range pair_deal refl; matching = c.matching; greatest = c.greatest; reached = refl };
      below = omega arith;
      short_bid = refl;
      short_ask = refl;
      only_bid = record { some = pair_deal; ranges = all_in_range pair_deal refl; conforms = c; each = λ deals r d. whole_bid deals d.matching (d.greatest pair_deal (all_in_range pair_deal refl) c.matching) };
      only_ask = record { some = pair_deal; ranges = all_in_range pair_deal refl; conforms = c; each = λ deals r d. whole_ask deals d.matching (d.greatest pair_deal (all_in_range pair_deal refl) c.matching) };
      shows = refl;
    }

pub untraded_uniform : IsRecordFinding rule.Uniform symbol one_trade_orders (Ok []) (Some untraded)
unfolding all_definitions
untraded_uniform =
    let c = one_trade-uniform in
    record {
      most = 100;
      bid = 0;
      ask = 1;
      bid_due = 100;
      ask_due = 100;
      greatest = record { deals = pair_deal; ranges = all_in_range pair_deal refl; matching = c.matching; one_price = c.one_price; greatest = c.greatest; reached = refl };
      below = omega arith;
      short_bid = refl;
      short_ask = refl;
      only_bid = record { some = pair_deal; ranges = all_in_range pair_deal refl; conforms = c; each = λ deals r d. whole_bid deals d.matching (d.greatest pair_deal (all_in_range pair_deal refl) c.matching c.one_price) };
      only_ask = record { some = pair_deal; ranges = all_in_range pair_deal refl; conforms = c; each = λ deals r d. whole_ask deals d.matching (d.greatest pair_deal (all_in_range pair_deal refl) c.matching c.one_price) };
      shows = refl;
    }

-- accepting no trades there is refuted
pub untraded_maximum-not_accepted : IsRecordFinding rule.Maximum symbol one_trade_orders (Ok []) None → ⊥
unfolding all_definitions
untraded_maximum-not_accepted c = let le : 100 ≤ 0 = c.greatest pair_deal (all_in_range pair_deal refl) one_trade-maximum.matching in absurd (omega arith)

-- cancelled-sell-maximum: the ask that a later record cancels takes no part in the call
abbrev cancelled_orders : List OrderRecord
cancelled_orders = new_order Sell (codes "s1") 5 10 ∷ new_order Buy (codes "b1") 3 10 ∷ cancel Sell (codes "x1") (codes "s1") ∷ new_order Buy (codes "b2") 2 10 ∷ []

pub cancelled_sell_maximum : IsRecordFinding rule.Maximum symbol cancelled_orders (Ok (trade (codes "T1") (codes "b1") (codes "s1") 3 (whole 10) ∷ []))
    (Some (finding_at_record property.Inactive which.Trades 1 (Some (shown.Order (line 1 Sell (codes "s1") 5 10 3))) None))
unfolding all_definitions
cancelled_sell_maximum = refl

-- replacement-in-a-call: the replaced ask takes no part, its replacement does
abbrev replaced_orders : List OrderRecord
replaced_orders = new_order Sell (codes "s1") 10 10 ∷ new_order Buy (codes "b1") 4 10 ∷ replace Sell (codes "r1") (codes "s1") 10 11 ∷ new_order Buy (codes "b2") 9 11 ∷ []

abbrev replaced_trades : List TradeRecord
replaced_trades = trade (codes "T1") (codes "b2") (codes "r1") 9 (whole 11) ∷ []

abbrev replaced : List Order
replaced = orders_in replaced_orders

pub replacement_in_a_call : IsRecordFinding rule.Maximum symbol replaced_orders (Ok replaced_trades) None
unfolding all_definitions
replacement_in_a_call =
    let deals = deals_in replaced_orders replaced_trades in
    let m : Matching replaced deals = no_offence-matching false replaced deals (all_named replaced deals refl) refl in
    record { matching = m; fair = no_offence-fair replaced deals m refl; greatest = cut-greatest replaced deals (whole 10 + 1) refl }

-- greatest-numbers: a bid of 10^12 at the greatest price, with nobody to meet it, and its bound is 10^18
abbrev great_orders : List OrderRecord
great_orders = New (key Buy (codes "b1")) (at 0) symbol Buy (10 ^ 12) (10 ^ 18 - 1) Rests ∷ []

abbrev great : List Order
great = orders_in great_orders

pub greatest_numbers : IsRecordFinding rule.Maximum symbol great_orders (Ok []) None
unfolding all_definitions
greatest_numbers =
    let m : Matching great [] = no_offence-matching false great [] (all_named great [] refl) refl in
    record { matching = m; fair = no_offence-fair great [] m refl; greatest = cut-greatest great [] (10 ^ 18) refl }

pub greatest_numbers-bound : IsBoundPrice of_volume.Maximum great 0 (10 ^ 18)
unfolding all_definitions
greatest_numbers-bound = record {
  holds = (omega arith, refl);
  none_below = λ k lt h.
      let whole_demand : demand great (10 ^ 18 - 1) ≡ 10 ^ 12 = refl in
      let more = demand-falls great k (10 ^ 18 - 1) (omega arith) in
      let none : cut great k ≡ 0 = h.1 in
      absurd (omega arith);
}

-- table-of-a-call: 20 units trade, as many as are offered, and the third bid is left out
abbrev table_orders : List OrderRecord
table_orders = new_order Buy (codes "b1") 10 10 ∷ new_order Buy (codes "b2") 10 10 ∷ new_order Buy (codes "b3") 10 10 ∷ new_order Sell (codes "s1") 15 10 ∷ new_order Sell (codes "s2") 5 10 ∷ []

abbrev table_trades : List TradeRecord
table_trades = trade (codes "T1") (codes "b1") (codes "s1") 10 (whole 10) ∷ trade (codes "T2") (codes "b2") (codes "s1") 5 (whole 10) ∷ trade (codes "T3") (codes "b2") (codes "s2") 5 (whole 10) ∷ []

abbrev table : List Order
table = orders_in table_orders

pub table_of_a_call : IsRecordFinding rule.Maximum symbol table_orders (Ok table_trades) None
unfolding all_definitions
table_of_a_call =
    let deals = deals_in table_orders table_trades in
    let m : Matching table deals = no_offence-matching false table deals (all_named table deals refl) refl in
    record { matching = m; fair = no_offence-fair table deals m refl; greatest = cut-greatest table deals (whole 10 + 1) refl }

pub table_of_a_call-bound : IsBoundPrice of_volume.Maximum table 20 (whole 10 + 1)
unfolding all_definitions
table_of_a_call-bound = record {
  holds = (omega arith, refl);
  none_below = λ k lt h.
      let all_wanted : demand table (whole 10) ≡ 30 = refl in
      let more = demand-falls table k (whole 10) (omega arith) in
      let twenty : cut table k ≡ 20 = h.1 in
      absurd (omega arith);
}

-- and the expected trades of these orders are such: unit 21 - j of the bids meets unit j of the asks
pub table_of_a_call-expected : maximum_deals table 20
    ≡ record { place = 1; bid = 0; ask = 3; quantity = 5; price = whole 10 } ∷ record { place = 2; bid = 0; ask = 4; quantity = 5; price = whole 10 }
    ∷ record { place = 3; bid = 1; ask = 3; quantity = 10; price = whole 10 } ∷ []
unfolding all_definitions
table_of_a_call-expected = refl
