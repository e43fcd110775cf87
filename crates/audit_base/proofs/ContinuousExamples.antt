-- Worked examples of continuous trading. Each theorem computes: the rule holds, or the verdict is the stated one, with the stated numbers.
use Rattle.std.specs.Prelude.{◌≡◌, ◌<◌, ℕ, List, [], ◌∷◌, None, Some, Ok, codes, refl}
use Rattle.std.proofs.Common.{arith}
use Rattle.audit_base.specs.declared.terms.Side.TheVariants.{Buy, Sell}
use Rattle.audit_base.specs.declared.terms.Which.TheVariants as which
use Rattle.audit_base.specs.declared.terms.Rule.TheVariants as rule
use Rattle.audit_base.specs.declared.records.OrderRecord.{OrderRecord}
use Rattle.audit_base.specs.declared.records.TradeRecord.{TradeRecord}
use Rattle.audit_base.specs.declared.orders.Deal.{Deal}
use Rattle.audit_base.specs.declared.findings.OrderLine.{OrderLine}
use Rattle.audit_base.specs.declared.findings.Property.TheVariants as property
use Rattle.audit_base.specs.declared.findings.Shown.TheVariants as shown
use Rattle.audit_base.specs.Numbers.{market_price}
use Rattle.audit_base.specs.Deals.{pair}
use Rattle.audit_base.specs.Shows.{finding_at_record}
use Rattle.audit_base.specs.Continuous.{traded_before, chain_traded_in_ledger, size_in_ledger, left_before_in_ledger}
use Rattle.audit_base.specs.ContinuousRules.{ConformsContinuous}
use Rattle.audit_base.specs.Expected.{IsExpected}
use Rattle.audit_base.specs.Verdicts.{IsRecordFinding}
use Rattle.audit_base.proofs.ContinuousOffenceLemmas.{no_faults-conforms, no_faults-conform}
use Rattle.audit_base.proofs.ExampleLogs.{all_definitions, all_named, is_last, symbol, key, new_order, immediate_order, market_order, cancel, replace, trade, orders_in, deals_in, line, whole}

-- cancelled-resting-sell: T2 trades with an ask that was cancelled; without T2 the log is accepted, and the one pair trades 3
abbrev cancelled_orders : List OrderRecord
cancelled_orders = new_order Sell (codes "s1") 5 10 ∷ new_order Buy (codes "b1") 3 10 ∷ cancel Sell (codes "x1") (codes "s1") ∷ new_order Buy (codes "b2") 2 10 ∷ []

abbrev cancelled_one : List TradeRecord
cancelled_one = trade (codes "T1") (codes "b1") (codes "s1") 3 (whole 10) ∷ []

abbrev cancelled_two : List TradeRecord
cancelled_two = trade (codes "T1") (codes "b1") (codes "s1") 3 (whole 10) ∷ trade (codes "T2") (codes "b2") (codes "s1") 2 (whole 10) ∷ []

pub cancelled_resting_sell : IsRecordFinding rule.Continuous symbol cancelled_orders (Ok cancelled_two)
    (Some (finding_at_record property.Inactive which.Trades 2 (Some (shown.Order (line 1 Sell (codes "s1") 5 10 5))) None))
unfolding all_definitions
cancelled_resting_sell = record { place = 4; before = no_faults-conform (orders_in cancelled_orders) (deals_in cancelled_orders cancelled_two) 4 refl; here = refl }

pub cancelled_resting_sell_pairs : IsRecordFinding rule.Continuous symbol cancelled_orders (Ok cancelled_one) None
unfolding all_definitions
cancelled_resting_sell_pairs = no_faults-conforms (orders_in cancelled_orders) (deals_in cancelled_orders cancelled_one) 4
    (all_named (orders_in cancelled_orders) (deals_in cancelled_orders cancelled_one) refl) (is_last (orders_in cancelled_orders) 4 refl) refl

pub cancelled_resting_sell_pairs-pair : pair (deals_in cancelled_orders cancelled_one) 1 0 ≡ 3
unfolding all_definitions
cancelled_resting_sell_pairs-pair = refl

-- crossed-book: b2 meets s2 and nothing trades; a later cancel of both doesn't help
abbrev crossed_orders : List OrderRecord
crossed_orders = new_order Sell (codes "s1") 5 12 ∷ new_order Buy (codes "b1") 5 9 ∷ new_order Sell (codes "s2") 5 11 ∷ new_order Buy (codes "b2") 5 11 ∷ []

pub crossed_book : IsRecordFinding rule.Continuous symbol crossed_orders (Ok [])
    (Some (finding_at_record property.Spread which.Orders 4 (Some (shown.Order (line 4 Buy (codes "b2") 5 11 0))) (Some (shown.Order (line 3 Sell (codes "s2") 5 11 0)))))
unfolding all_definitions
crossed_book = record { place = 4; before = no_faults-conform (orders_in crossed_orders) [] 4 refl; here = refl }

pub crossed_book-fails : ConformsContinuous (orders_in crossed_orders) [] → ⊥
unfolding all_definitions
crossed_book-fails c = let lt : whole 11 < whole 11 = (c.each 4).spread 3 2 (omega arith) (omega arith) refl refl refl refl in absurd (omega arith)

abbrev crossed_then_cancelled_orders : List OrderRecord
crossed_then_cancelled_orders = new_order Sell (codes "s1") 5 12 ∷ new_order Buy (codes "b1") 5 9 ∷ new_order Sell (codes "s2") 5 11 ∷ new_order Buy (codes "b2") 5 11
    ∷ cancel Sell (codes "x1") (codes "s2") ∷ cancel Buy (codes "x2") (codes "b2") ∷ []

pub crossed_then_cancelled : IsRecordFinding rule.Continuous symbol crossed_then_cancelled_orders (Ok [])
    (Some (finding_at_record property.Spread which.Orders 4 (Some (shown.Order (line 4 Buy (codes "b2") 5 11 0))) (Some (shown.Order (line 3 Sell (codes "s2") 5 11 0)))))
unfolding all_definitions
crossed_then_cancelled = record { place = 4; before = no_faults-conform (orders_in crossed_then_cancelled_orders) [] 4 refl; here = refl }

-- expect-continuous: b2 takes all of s2 at its limit; trading four of the five is not expected
abbrev expected_deal : ℕ → List Deal
expected_deal quantity = record { place = 1; bid = 3; ask = 2; quantity = quantity; price = whole 11 } ∷ []

pub expect_continuous : IsExpected rule.Continuous (orders_in crossed_orders) (expected_deal 5)
unfolding all_definitions
expect_continuous = refl

pub expect_continuous-conforms : ConformsContinuous (orders_in crossed_orders) (expected_deal 5)
unfolding all_definitions
expect_continuous-conforms = no_faults-conforms (orders_in crossed_orders) (expected_deal 5) 4 (all_named (orders_in crossed_orders) (expected_deal 5) refl) (is_last (orders_in crossed_orders) 4 refl) refl

-- seller-skipped: b1 trades with s2 past the better s1
abbrev skipped_orders : List OrderRecord
skipped_orders = new_order Sell (codes "s1") 5 10 ∷ new_order Sell (codes "s2") 5 11 ∷ new_order Buy (codes "b1") 5 11 ∷ []

abbrev skipped_trades : List TradeRecord
skipped_trades = trade (codes "T1") (codes "b1") (codes "s2") 5 (whole 11) ∷ []

pub seller_skipped : IsRecordFinding rule.Continuous symbol skipped_orders (Ok skipped_trades)
    (Some (finding_at_record property.SellPriority which.Trades 1 (Some (shown.Order (line 1 Sell (codes "s1") 5 10 0))) (Some (shown.Order (line 2 Sell (codes "s2") 5 11 5)))))
unfolding all_definitions
seller_skipped = record { place = 3; before = no_faults-conform (orders_in skipped_orders) (deals_in skipped_orders skipped_trades) 3 refl; here = refl }

-- replaced-and-filled: r1 replaces s1 after 4 were traded, and has 6 of its total of 10 left; replacement-overfilled trades 7
abbrev replaced_orders : List OrderRecord
replaced_orders = new_order Sell (codes "s1") 10 10 ∷ new_order Buy (codes "b1") 4 10 ∷ replace Sell (codes "r1") (codes "s1") 10 11 ∷ new_order Buy (codes "b2") 9 11 ∷ []

abbrev replaced_trades : ℕ → List TradeRecord
replaced_trades quantity = trade (codes "T1") (codes "b1") (codes "s1") 4 (whole 10) ∷ trade (codes "T2") (codes "b2") (codes "r1") quantity (whole 11) ∷ []

pub replaced_and_filled : IsRecordFinding rule.Continuous symbol replaced_orders (Ok (replaced_trades 6)) None
unfolding all_definitions
replaced_and_filled = no_faults-conforms (orders_in replaced_orders) (deals_in replaced_orders (replaced_trades 6)) 4
    (all_named (orders_in replaced_orders) (deals_in replaced_orders (replaced_trades 6)) refl) (is_last (orders_in replaced_orders) 4 refl) refl

pub replaced_and_filled-before : chain_traded_in_ledger (orders_in replaced_orders) (traded_before (orders_in replaced_orders) (deals_in replaced_orders (replaced_trades 6))) 2 ≡ 4
unfolding all_definitions
replaced_and_filled-before = refl

pub replaced_and_filled-size : size_in_ledger (orders_in replaced_orders) (traded_before (orders_in replaced_orders) (deals_in replaced_orders (replaced_trades 6))) 2 ≡ 6
unfolding all_definitions
replaced_and_filled-size = refl

pub replaced_and_filled-left : left_before_in_ledger (orders_in replaced_orders) (traded_before (orders_in replaced_orders) (deals_in replaced_orders (replaced_trades 6))) 5 3 ≡ 3
unfolding all_definitions
replaced_and_filled-left = refl

pub replacement_overfilled : IsRecordFinding rule.Continuous symbol replaced_orders (Ok (replaced_trades 7))
    (Some (finding_at_record property.SellQuantity which.Trades 2 (Some (shown.Order (line 3 Sell (codes "r1") 10 11 11))) None))
unfolding all_definitions
replacement_overfilled = record { place = 4; before = no_faults-conform (orders_in replaced_orders) (deals_in replaced_orders (replaced_trades 7)) 4 refl; here = refl }

-- market-partly-filled: a market bid for 8 finds 5, and the rest lapses; market-unfilled trades nothing
abbrev market_orders : List OrderRecord
market_orders = new_order Sell (codes "s1") 5 10 ∷ market_order Buy (codes "m1") 8 ∷ new_order Buy (codes "b2") 1 9 ∷ []

abbrev market_trades : List TradeRecord
market_trades = trade (codes "T1") (codes "m1") (codes "s1") 5 (whole 10) ∷ []

pub market_partly_filled : IsRecordFinding rule.Continuous symbol market_orders (Ok market_trades) None
unfolding all_definitions
market_partly_filled = no_faults-conforms (orders_in market_orders) (deals_in market_orders market_trades) 3
    (all_named (orders_in market_orders) (deals_in market_orders market_trades) refl) (is_last (orders_in market_orders) 3 refl) refl

abbrev market_line : OrderLine
market_line = record { place = 2; side = Buy; key = key Buy (codes "m1"); quantity = 8; limit = market_price Buy; traded = 0 }

pub market_unfilled : IsRecordFinding rule.Continuous symbol market_orders (Ok []) (Some (finding_at_record property.Spread which.Orders 2 (Some (shown.Order market_line)) (Some (shown.Order (line 1 Sell (codes "s1") 5 10 0)))))
unfolding all_definitions
market_unfilled = record { place = 2; before = no_faults-conform (orders_in market_orders) [] 2 refl; here = refl }

-- immediate-lapses: the bid lapses at its own record, so the later ask meets nobody; immediate-trades-late trades with it all the same
abbrev immediate_orders : List OrderRecord
immediate_orders = immediate_order Buy (codes "i1") 5 10 ∷ new_order Sell (codes "s1") 5 9 ∷ []

pub immediate_lapses : IsRecordFinding rule.Continuous symbol immediate_orders (Ok []) None
unfolding all_definitions
immediate_lapses = no_faults-conforms (orders_in immediate_orders) [] 2 (all_named (orders_in immediate_orders) [] refl) (is_last (orders_in immediate_orders) 2 refl) refl

abbrev late_trades : List TradeRecord
late_trades = trade (codes "T1") (codes "i1") (codes "s1") 5 (whole 9) ∷ []

pub immediate_trades_late : IsRecordFinding rule.Continuous symbol immediate_orders (Ok late_trades)
    (Some (finding_at_record property.Inactive which.Trades 1 (Some (shown.Order (line 1 Buy (codes "i1") 5 10 5))) None))
unfolding all_definitions
immediate_trades_late = record { place = 2; before = no_faults-conform (orders_in immediate_orders) (deals_in immediate_orders late_trades) 2 refl; here = refl }
