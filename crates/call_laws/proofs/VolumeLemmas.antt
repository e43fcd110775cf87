-- What the volume of a fair matching decides: where it is that of a list that conforms, the matching conforms; where it is less, that is the offence.
use Rattle.std.proofs.Common.{◌≡◌, ◌≤◌, ◌<◌, ◌+◌, ℕ, List, true, false, Option, Some, None, refl, sym, arith, All, subst}
use Rattle.std.specs.Prelude.{MatchOption, IsSomeAnd}
use Rattle.audit_base.specs.declared.terms.Side.{Side}
use Rattle.audit_base.specs.declared.terms.Side.TheVariants.{Buy, Sell}
use Rattle.audit_base.specs.declared.terms.CallRule.{CallRule}
use Rattle.audit_base.specs.declared.terms.CallRule.TheVariants as call
use Rattle.audit_base.specs.declared.terms.VolumeRule.{VolumeRule}
use Rattle.audit_base.specs.declared.terms.VolumeRule.TheVariants as of_volume
use Rattle.audit_base.specs.declared.orders.Order.{Order}
use Rattle.audit_base.specs.declared.orders.Deal.{Deal}
use Rattle.audit_base.specs.declared.findings.Finding.{Finding}
use Rattle.audit_base.specs.declared.flaws.DueOrder.{DueOrder}
use Rattle.audit_base.specs.declared.flaws.Evidence.TheVariants.{Volume}
use Rattle.audit_base.specs.declared.flaws.Flaw.{Flaw}
use Rattle.audit_base.specs.RuleKinds.{rule_of_volume, rule_of_call, volume_rule_of_call}
use Rattle.audit_base.specs.Orders.{IsOrderList}
use Rattle.audit_base.specs.Deals.{NamesOrders, traded, volume, DealsInRange}
use Rattle.audit_base.specs.Rules.{Conforms}
use Rattle.audit_base.specs.Units.{due_by_rank}
use Rattle.audit_base.specs.Flaws.{finding_of}
use Rattle.audit_base.specs.CallOffences.{best_short, matching_offence, fair_offence, offence_before_volume, IsVolumeOffence, IsCallOffence}
use Rattle.audit_base.specs.Verdicts.{IsFirstOffence}
use Rattle.audit_base.proofs.LeastLemmas.{option_or-parts}
use Rattle.audit_base.proofs.OffenceLemmas.{no_offence-matching, no_offence-one_price, no_offence-fair}
use Rattle.call_laws.proofs.ConformLemmas.{greatest-conforms, due-by_rank}
use Rattle.call_laws.proofs.ShortLemmas.{best-stands}

-- nothing is found before the volume, which is not below that of a list that conforms
pub reached : (r : VolumeRule) (orders : List Order) (deals others : List Deal) → All (NamesOrders orders) deals → offence_before_volume (call.Greatest r) orders deals ≡ None
    → Conforms (rule_of_volume r) orders others → volume others ≤ volume deals → Conforms (rule_of_volume r) orders deals
reached of_volume.Uniform orders deals others named none c most =
    let parts = option_or-parts (matching_offence true orders deals) (fair_offence orders deals) none in
    let m = no_offence-matching true orders deals named parts.0 in
    record {
      matching = m;
      fair = no_offence-fair orders deals m parts.1;
      one_price = no_offence-one_price true orders deals refl parts.0;
      greatest = λ more r n p. let under = c.greatest more r n p in omega arith;
    }
reached of_volume.Maximum orders deals others named none c most =
    let parts = option_or-parts (matching_offence false orders deals) (fair_offence orders deals) none in
    let m = no_offence-matching false orders deals named parts.0 in
    record {
      matching = m;
      fair = no_offence-fair orders deals m parts.1;
      greatest = λ more r n. let under = c.greatest more r n in omega arith;
    }

-- an order with what it trades in these deals, and its due of a volume
abbrev pub due_order : List Order → List Deal → Side → ℕ → ℕ → DueOrder
due_order orders deals side most i = record { order = record { index = i; traded = traded deals i }; due = due_by_rank orders side most i }

-- the volume is below this one
abbrev pub volume_flaw : List Order → List Deal → ℕ → ℕ → ℕ → ℕ → Flaw
volume_flaw orders deals count most bid ask = record {
  place = count + 1;
  evidence = Volume (record { reached = volume deals; greatest = most }) (Some (due_order orders deals Buy most bid)) (Some (due_order orders deals Sell most ask));
}

-- and that is what a volume offence shows
pub below : (r : VolumeRule) (orders : List Order) (deals others : List Deal) (count bid ask : ℕ) (f : Finding) → IsOrderList orders
    → DealsInRange others → Conforms (rule_of_volume r) orders others → volume deals < volume others
    → best_short orders deals Buy ≡ Some bid → best_short orders deals Sell ≡ Some ask → f ≡ finding_of orders (volume_flaw orders deals count (volume others) bid ask)
    → IsVolumeOffence r orders deals count f
below r orders deals others count bid ask f list ranges c lt short_bid short_ask shows = record {
  most = volume others;
  bid = bid;
  ask = ask;
  bid_due = due_by_rank orders Buy (volume others) bid;
  ask_due = due_by_rank orders Sell (volume others) ask;
  greatest = greatest-conforms r orders others ranges c;
  below = lt;
  short_bid = short_bid;
  short_ask = short_ask;
  only_bid = due-by_rank r orders others list ranges c (volume others) refl Buy bid (best-stands orders deals Buy bid short_bid);
  only_ask = due-by_rank r orders others list ranges c (volume others) refl Sell ask (best-stands orders deals Sell ask short_ask);
  shows = shows;
}

-- a first offence, given what the parts before the volume find
abbrev IsFirst : CallRule → List Order → List Deal → ℕ → Finding → Option Finding → Type 0
IsFirst r orders deals count f early = MatchOption early (IsSomeAnd (volume_rule_of_call r) (λ v. IsVolumeOffence v orders deals count f)) (λ g. f ≡ g)

-- a finding before the volume is the first offence, and where there is none, that of the volume is
pub early-offence : (r : CallRule) (orders : List Order) (deals : List Deal) (count : ℕ) (f : Finding) → offence_before_volume r orders deals ≡ Some f → IsCallOffence r orders deals count f
early-offence r orders deals count f some = subst (IsFirst r orders deals count f) (sym some) refl

pub late-offence : (r : VolumeRule) (orders : List Order) (deals : List Deal) (count : ℕ) (f : Finding) → offence_before_volume (call.Greatest r) orders deals ≡ None
    → IsVolumeOffence r orders deals count f → IsCallOffence (call.Greatest r) orders deals count f
late-offence r orders deals count f none late = subst (IsFirst (call.Greatest r) orders deals count f) (sym none) late

-- the first offence of a call is that of its rule
pub first-of_call : (r : CallRule) (orders : List Order) (deals : List Deal) (count : ℕ) (f : Finding) → IsCallOffence r orders deals count f → IsFirstOffence (rule_of_call r) orders deals count f
first-of_call call.Matching orders deals count f o = o
first-of_call call.Fair orders deals count f o = o
first-of_call (call.Greatest of_volume.Uniform) orders deals count f o = o
first-of_call (call.Greatest of_volume.Maximum) orders deals count f o = o
