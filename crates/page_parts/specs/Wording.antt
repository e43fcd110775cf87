-- The words of a page: what a record breaks, and what an order is to the finding.
use Rattle.std.specs.Prelude.{ℕ, Bool, true, false, List, codes}
use Rattle.audit_base.specs.declared.findings.Property.{Property}
use Rattle.audit_base.specs.declared.findings.Property.TheVariants as property
use Rattle.audit_base.specs.declared.terms.Side.{Side}
use Rattle.audit_base.specs.declared.terms.Side.TheVariants.{Buy, Sell}
use Rattle.audit_base.specs.declared.terms.Which.{Which}
use Rattle.audit_base.specs.declared.terms.Which.TheVariants as which

-- what the record of a finding does, after the words that name it
unfoldable pub broken_words : Property → List ℕ
broken_words property.DuplicateId = codes "has the firm and id of an earlier record of the symbol"
broken_words property.TimeBack = codes "has an earlier time than the record of the symbol before it"
broken_words property.UnknownTarget = codes "cancels or replaces what is no earlier order of its firm, or replaces an order of the other side"
broken_words property.Unpaired = codes "is a trade report that does not agree with the first one of its trade, or one that has no second"
broken_words property.DuplicateTrade = codes "has the id of an earlier trade of the symbol"
broken_words property.UnknownOrder = codes "names an order that the symbol does not have on that side"
broken_words property.Inactive = codes "trades an order that is not there to trade"
broken_words property.Limit = codes "has a price outside a limit"
broken_words property.UniformPrice = codes "has another price than the first trade of the symbol"
broken_words property.BuyQuantity = codes "lets its bid trade more than its quantity"
broken_words property.SellQuantity = codes "lets its ask trade more than its quantity"
broken_words property.BuyPriority = codes "trades a bid while a better one is not fully traded"
broken_words property.SellPriority = codes "trades an ask while a better one is not fully traded"
broken_words property.Volume = codes "would be the next: the volume is not the greatest"
broken_words property.Spread = codes "leaves a bid and an ask whose limits cross or lock"
broken_words property.InstantOrder = codes "is an immediate or a market order, which no call takes"

-- the words that name a log
abbrev pub log_words : Which → List ℕ
log_words which.Orders = codes "order log"
log_words which.Trades = codes "trade log"

-- what the trade's own order of a side is called, and the best order of a side
abbrev pub own_words : Side → List ℕ
own_words Buy = codes "its bid"
own_words Sell = codes "its ask"

abbrev pub best_words : Side → List ℕ
best_words Buy = codes "the best bid"
best_words Sell = codes "the best ask"

-- and the best order of a side that is not fully traded
abbrev pub best_untraded_words : Side → List ℕ
best_untraded_words Buy = codes "the best bid that is not fully traded"
best_untraded_words Sell = codes "the best ask that is not fully traded"

-- what an order is to a finding of priority, where it is shown first or second
abbrev pub priority_words : Bool → Side → List ℕ
priority_words true side = codes "the better order that is not fully traded"
priority_words false side = own_words side

-- what an order of a side is to a finding, where it is shown first or second
abbrev pub role_words : Property → Bool → Side → List ℕ
role_words property.BuyPriority is_first side = priority_words is_first side
role_words property.SellPriority is_first side = priority_words is_first side
role_words property.Volume is_first side = best_untraded_words side
role_words property.Spread is_first side = best_words side
role_words property.DuplicateId is_first side = own_words side
role_words property.TimeBack is_first side = own_words side
role_words property.UnknownTarget is_first side = own_words side
role_words property.Unpaired is_first side = own_words side
role_words property.DuplicateTrade is_first side = own_words side
role_words property.UnknownOrder is_first side = own_words side
role_words property.Inactive is_first side = own_words side
role_words property.Limit is_first side = own_words side
role_words property.UniformPrice is_first side = own_words side
role_words property.BuyQuantity is_first side = own_words side
role_words property.SellQuantity is_first side = own_words side
role_words property.InstantOrder is_first side = own_words side
