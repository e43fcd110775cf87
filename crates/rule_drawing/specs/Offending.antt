-- The places that a picture of continuous trading is about, as numbers of records of the order log.
use Rattle.std.specs.Prelude.{ℕ, ◌==◌, ◌+◌, List, [], ◌∷◌, Option, None, Some, find, length}
use Rattle.audit_base.specs.declared.findings.Finding.{Finding}
use Rattle.audit_base.specs.declared.orders.Deal.{Deal}
use Rattle.audit_base.specs.declared.orders.Order.{Order}
use Rattle.audit_base.specs.declared.terms.Which.{Which}
use Rattle.audit_base.specs.declared.terms.Which.TheVariants.{Orders, Trades}
use Rattle.audit_base.specs.Continuous.{cause}
use Rattle.audit_base.specs.Orders.{place_at}

-- the deal of the trade at a place of the trade log, if there is one
abbrev pub deal_at_place : List Deal → ℕ → Option Deal
deal_at_place deals place = find (λ d. d.place == place) deals

-- the record that brought about a deal; 0 where there is none
abbrev pub cause_if_there : List Order → Option Deal → ℕ
cause_if_there orders None = 0
cause_if_there orders (Some d) = cause orders d

-- the record that brought about the trade at a place of the trade log
abbrev pub cause_at_place : List Order → List Deal → ℕ → ℕ
cause_at_place orders deals place = cause_if_there orders (deal_at_place deals place)

-- the record at which something broke at a place of a log: that of the order log itself, or the cause
-- of the trade
abbrev pub place_in_orders : List Order → List Deal → Which → ℕ → ℕ
place_in_orders orders deals Orders place = place
place_in_orders orders deals Trades place = cause_at_place orders deals place

-- the record of the order log at which a finding of continuous trading broke; 0 where there is none
abbrev pub offending_place : List Order → List Deal → Option Finding → ℕ
offending_place orders deals None = 0
offending_place orders deals (Some finding) =
    place_in_orders orders deals finding.log finding.place

-- the number after that of the last order; 0 where there is none
abbrev pub end_of_orders : List Order → ℕ
end_of_orders [] = 0
end_of_orders (first ∷ rest) = place_at (first ∷ rest) (length rest) + 1
