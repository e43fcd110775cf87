-- The laws of continuous trading.
use Rattle.std.specs.Prelude.{◌≡◌, ◌<◌, ℕ, Bool, List}
use Rattle.audit_base.specs.declared.terms.Rule.TheVariants as rule
use Rattle.audit_base.specs.declared.orders.Order.{Order}
use Rattle.audit_base.specs.declared.orders.Deal.{Deal}
use Rattle.audit_base.specs.Orders.{IsOrderList}
use Rattle.audit_base.specs.Deals.{DealsInRange, pair}
use Rattle.audit_base.specs.Histories.{Regular}
use Rattle.audit_base.specs.ContinuousRules.{ConformsContinuous}
use Rattle.audit_base.specs.Rules.{OnlyPair}
use Rattle.audit_base.specs.Expected.{IsExpectedContinuous}
use Rattle.continuous_laws.specs.Fills.{IsRanking, IsFill, share_by_rank}

-- 'one-step fill': the shares fill what is left of the resting orders by rank, up to the size,
-- and no other numbers do
abbrev pub OneStepFill : Type 0
OneStepFill = (count : ℕ) (better : ℕ → ℕ → Bool) (left : ℕ → ℕ) (size : ℕ)
    → IsRanking count better
    → IsFill count better left size (share_by_rank count better left size)
    × ((number : ℕ → ℕ) → IsFill count better left size number
    → (i : ℕ) → i < count → number i ≡ share_by_rank count better left size i)

-- 'continuous uniqueness': on a regular order list all lists of deals that conform have
-- the same Pair for every pair
abbrev pub ContinuousUniqueness : Type 0
ContinuousUniqueness = (orders : List Order) (ds es : List Deal) → IsOrderList orders
    → Regular orders → ConformsContinuous orders ds → ConformsContinuous orders es
    → (bid ask : ℕ) → pair ds bid ask ≡ pair es bid ask

-- so what a pair trades in a list that conforms is its only quantity
abbrev pub OnlyPairs : Type 0
OnlyPairs = (orders : List Order) (deals : List Deal) → IsOrderList orders → Regular orders
    → DealsInRange deals → ConformsContinuous orders deals → (bid ask : ℕ)
    → OnlyPair rule.Continuous orders bid ask (pair deals bid ask)

-- 'continuous existence': on a regular order list the Expected trades conform
abbrev pub ExpectedConform : Type 0
ExpectedConform = (orders : List Order) (deals : List Deal) → IsOrderList orders
    → Regular orders → IsExpectedContinuous orders deals → ConformsContinuous orders deals

-- each order list has a list of Expected trades
abbrev pub ExpectedExist : Type 0
ExpectedExist = (orders : List Order) → IsOrderList orders
    → (deals : List Deal) × IsExpectedContinuous orders deals

-- and only one
abbrev pub ExpectedAreOne : Type 0
ExpectedAreOne = (orders : List Order) (ds es : List Deal) → IsOrderList orders
    → IsExpectedContinuous orders ds → IsExpectedContinuous orders es → ds ≡ es
