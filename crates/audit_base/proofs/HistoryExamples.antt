-- Worked examples of histories: what is placed, what is cancelled, and what the rules make of replacements that never were.
use Rattle.std.specs.Prelude.{◌≡◌, ℕ, List, [], ◌∷◌, Option, None, Some, Ok, map, codes, refl}
use Rattle.audit_base.specs.declared.terms.Side.TheVariants.{Buy, Sell}
use Rattle.audit_base.specs.declared.terms.Life.TheVariants.{Rests}
use Rattle.audit_base.specs.declared.terms.Which.TheVariants as which
use Rattle.audit_base.specs.declared.terms.Rule.TheVariants as rule
use Rattle.audit_base.specs.declared.records.OrderRecord.{OrderRecord}
use Rattle.audit_base.specs.declared.records.OrderRecord.TheVariants.{New, Replace}
use Rattle.audit_base.specs.declared.records.TradeRecord.{TradeRecord}
use Rattle.audit_base.specs.declared.orders.Order.{Order}
use Rattle.audit_base.specs.declared.findings.Property.TheVariants as property
use Rattle.audit_base.specs.declared.findings.Shown.TheVariants as shown
use Rattle.audit_base.specs.Shows.{finding_at_record}
use Rattle.audit_base.specs.Histories.{WellFormed, history_finding}
use Rattle.audit_base.specs.Verdicts.{IsRecordFinding}
use Rattle.audit_base.proofs.ContinuousOffenceLemmas.{no_faults-conform}
use Rattle.audit_base.proofs.ExampleLogs.{all_definitions, symbol, key, at, new_order, immediate_order, cancel, replace, trade, orders_in, deals_in, line, whole}

abbrev cancelled_in : List Order → List (Option ℕ)
cancelled_in orders = map (λ o. o.cancelled) orders

abbrev targets_in : List Order → List (Option ℕ)
targets_in orders = map (λ o. o.target) orders

-- a replacement that comes after its target's cancel isn't placed, nor is one of it; both are well-formed
abbrev never_placed : List OrderRecord
never_placed = new_order Sell (codes "s1") 5 10 ∷ cancel Sell (codes "x1") (codes "s1") ∷ replace Sell (codes "r1") (codes "s1") 5 11 ∷ replace Sell (codes "r2") (codes "r1") 5 12 ∷ []

pub never_placed-formed : WellFormed symbol never_placed
unfolding all_definitions
never_placed-formed = refl

pub never_placed-cancelled : cancelled_in (orders_in never_placed) ≡ Some 2 ∷ Some 3 ∷ Some 4 ∷ []
unfolding all_definitions
never_placed-cancelled = refl

pub never_placed-targets : targets_in (orders_in never_placed) ≡ None ∷ Some 0 ∷ Some 1 ∷ []
unfolding all_definitions
never_placed-targets = refl

-- a replacement is ended by the next one, and a second cancel of one order changes nothing
pub replaced_twice-cancelled : cancelled_in (orders_in (new_order Sell (codes "s1") 5 10 ∷ replace Sell (codes "r1") (codes "s1") 6 11 ∷ replace Sell (codes "r2") (codes "r1") 7 12 ∷ []))
    ≡ Some 2 ∷ Some 3 ∷ None ∷ []
unfolding all_definitions
replaced_twice-cancelled = refl

pub cancelled_twice-cancelled : cancelled_in (orders_in (new_order Sell (codes "s1") 5 10 ∷ cancel Sell (codes "x1") (codes "s1") ∷ cancel Sell (codes "x2") (codes "s1") ∷ [])) ≡ Some 2 ∷ []
unfolding all_definitions
cancelled_twice-cancelled = refl

-- a replacement on the other side names no target
pub other_side-unknown : history_finding symbol (new_order Sell (codes "s1") 5 10 ∷ replace Buy (codes "r1") (codes "s1") 5 10 ∷ []) ≡ Some (finding_at_record property.UnknownTarget which.Orders 2 None None)
unfolding all_definitions
other_side-unknown = refl

-- so does one of the target's own firm on the other side
abbrev turned : OrderRecord
turned = Replace (key Sell (codes "r1")) (at 0) symbol (codes "s1") Buy 5 (whole 10)

pub turned-unknown : history_finding symbol (new_order Sell (codes "s1") 5 10 ∷ turned ∷ []) ≡ Some (finding_at_record property.UnknownTarget which.Orders 2 None None)
unfolding all_definitions
turned-unknown = refl

-- the records of another symbol are not compared, and still count as places
pub other_symbol-apart : map (λ o. o.place) (orders_in (New (key Buy (codes "b1")) (at 9) (codes "Y") Buy 5 (whole 10) Rests ∷ new_order Buy (codes "b1") 5 10 ∷ [])) ≡ 2 ∷ []
unfolding all_definitions
other_symbol-apart = refl

pub other_symbol-formed : WellFormed symbol (New (key Buy (codes "b1")) (at 9) (codes "Y") Buy 5 (whole 10) Rests ∷ new_order Buy (codes "b1") 5 10 ∷ [])
unfolding all_definitions
other_symbol-formed = refl

-- a replacement of an immediate order is placed, never enters, and a trade on it is inactive
abbrev late_entries : List OrderRecord
late_entries = immediate_order Buy (codes "i1") 5 10 ∷ replace Buy (codes "r1") (codes "i1") 5 10 ∷ new_order Sell (codes "s1") 5 9 ∷ []

abbrev late_trades : List TradeRecord
late_trades = trade (codes "T1") (codes "r1") (codes "s1") 5 (whole 9) ∷ []

pub replaced_immediate-cancelled : cancelled_in (orders_in late_entries) ≡ Some 2 ∷ None ∷ None ∷ []
unfolding all_definitions
replaced_immediate-cancelled = refl

pub replaced_immediate-inactive : IsRecordFinding rule.Continuous symbol late_entries (Ok late_trades) (Some (finding_at_record property.Inactive which.Trades 1 (Some (shown.Order (line 2 Buy (codes "r1") 5 10 5))) None))
unfolding all_definitions
replaced_immediate-inactive = record { place = 3; before = no_faults-conform (orders_in late_entries) (deals_in late_entries late_trades) 3 refl; here = refl }

-- a replacement that isn't placed may not trade at its own record either; what its chain has traded is added to what is shown
abbrev ended_entries : List OrderRecord
ended_entries = new_order Sell (codes "s1") 5 10 ∷ new_order Buy (codes "b1") 2 10 ∷ cancel Sell (codes "x1") (codes "s1") ∷ new_order Buy (codes "b2") 3 10 ∷ replace Sell (codes "r1") (codes "s1") 5 10 ∷ []

abbrev ended_trades : List TradeRecord
ended_trades = trade (codes "T1") (codes "b1") (codes "s1") 2 (whole 10) ∷ trade (codes "T2") (codes "b2") (codes "r1") 3 (whole 10) ∷ []

pub ended_target-inactive : IsRecordFinding rule.Continuous symbol ended_entries (Ok ended_trades) (Some (finding_at_record property.Inactive which.Trades 2 (Some (shown.Order (line 5 Sell (codes "r1") 5 10 5))) None))
unfolding all_definitions
ended_target-inactive = record { place = 5; before = no_faults-conform (orders_in ended_entries) (deals_in ended_entries ended_trades) 5 refl; here = refl }

-- an order that an earlier deal of the same cause filled gives a quantity finding
abbrev filled_entries : List OrderRecord
filled_entries = new_order Sell (codes "s1") 2 10 ∷ new_order Buy (codes "b1") 5 10 ∷ []

abbrev filled_trades : List TradeRecord
filled_trades = trade (codes "T1") (codes "b1") (codes "s1") 2 (whole 10) ∷ trade (codes "T2") (codes "b1") (codes "s1") 1 (whole 10) ∷ []

pub filled_by_same_cause-quantity : IsRecordFinding rule.Continuous symbol filled_entries (Ok filled_trades) (Some (finding_at_record property.SellQuantity which.Trades 2 (Some (shown.Order (line 1 Sell (codes "s1") 2 10 3))) None))
unfolding all_definitions
filled_by_same_cause-quantity = record { place = 2; before = no_faults-conform (orders_in filled_entries) (deals_in filled_entries filled_trades) 2 refl; here = refl }
