-- The picture of a rule.
use Rattle.std.specs.Prelude.{ℕ, List, Option, None, option_map, slice_get, MatchOption}
use Rattle.audit_base.specs.declared.findings.Finding.{Finding}
use Rattle.audit_base.specs.declared.orders.Deal.{Deal}
use Rattle.audit_base.specs.declared.orders.Order.{Order}
use Rattle.audit_base.specs.declared.terms.CallRule.{CallRule}
use Rattle.audit_base.specs.declared.terms.CallRule.TheVariants as call
use Rattle.audit_base.specs.declared.terms.Rule.{Rule}
use Rattle.audit_base.specs.declared.terms.VolumeRule.TheVariants as of_volume
use Rattle.audit_base.specs.RuleKinds.{call_rule}
use Rattle.call_drawing.specs.Sections.{IsCallSection, marked_in_call}
use Rattle.continuous_drawing.specs.Sections.{AreContinuousSections, marked_in_trading}
use Rattle.rule_drawing.specs.Offending.{end_of_orders, offending_place}

-- the price of the first trade, if there is one
abbrev pub first_price : List Deal → Option ℕ
first_price deals = option_map (λ d. d.price) (slice_get deals 0)

-- the one price of the trades, where the rule asks for one
abbrev pub price_of_rule : CallRule → List Deal → Option ℕ
price_of_rule (call.Greatest of_volume.Uniform) deals = first_price deals
price_of_rule (call.Greatest of_volume.Maximum) deals = None
price_of_rule call.Matching deals = None
price_of_rule call.Fair deals = None

-- the picture of a call: its orders and deals, with the price of the rule, and what was found marked
abbrev pub IsPictureOfCall : CallRule → List Order → List Deal → Option Finding → List ℕ → Type 0
IsPictureOfCall rule orders deals finding made =
    IsCallSection orders deals (marked_in_call finding (price_of_rule rule deals)) made

-- the pictures of continuous trading, up to the last order: what was found is marked at the record
-- at which it broke, and the book right before that is drawn
abbrev pub IsPictureOfContinuous : List Order → List Deal → Option Finding → List ℕ → Type 0
IsPictureOfContinuous orders deals finding made =
    AreContinuousSections orders deals (end_of_orders orders)
    (marked_in_trading finding (offending_place orders deals finding)) made

-- the picture of a rule: that of a call, or that of continuous trading
abbrev pub IsRulePicture : Rule → List Order → List Deal → Option Finding → List ℕ → Type 0
IsRulePicture rule orders deals finding made =
    MatchOption (call_rule rule) (IsPictureOfContinuous orders deals finding made)
    (λ call. IsPictureOfCall call orders deals finding made)
