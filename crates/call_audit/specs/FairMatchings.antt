-- What is known of deals that are a fair matching.
use Rattle.std.specs.Prelude.{◌≡◌, ℕ, Bool, List, Option, Some, None}
use Rattle.std.specs.Bool.{OnTrue}
use Rattle.std.specs.Option.{option_or}
use Rattle.audit_base.specs.declared.orders.Order.{Order}
use Rattle.audit_base.specs.declared.orders.Deal.{Deal}
use Rattle.audit_base.specs.declared.findings.Finding.{Finding}
use Rattle.audit_base.specs.Deals.{AreTotals, volume}
use Rattle.audit_base.specs.Calls.{Matching, Fair, OnePrice}
use Rattle.audit_base.specs.CallOffences.{matching_offence, fair_offence}

-- the offence of the first two parts, if there is one
abbrev pub fair_matching_offence : Bool → List Order → List Deal → Option Finding
fair_matching_offence uniform orders deals =
    option_or (matching_offence uniform orders deals) (fair_offence orders deals)

-- the finding is the offence of the first two parts
abbrev pub IsFairMatchingOffence : Bool → List Order → List Deal → Finding → Type 0
IsFairMatchingOffence uniform orders deals finding =
    fair_matching_offence uniform orders deals ≡ Some finding

-- the deals are a fair matching (of one price, where that is asked for), with what each order
-- traded and the volume
pub record IsFairMatching (uniform : Bool) (orders : List Order) (deals : List Deal)
    (known : List ℕ × ℕ) : Type 0 where
  pub matching : Matching orders deals
  pub fair : Fair orders deals
  pub one_price : OnTrue uniform (OnePrice deals)
  pub no_offence : fair_matching_offence uniform orders deals ≡ None
  pub totals : AreTotals orders deals known.0
  pub volume_is : known.1 ≡ volume deals
