-- Line 1.
use Rattle.std.proofs.Common.{◌≡◌, ◌<◌, List, length, sym, ◌∙◌, All}
use Rattle.audit_base.specs.declared.orders.Deal.{Deal}
use Rattle.audit_base.specs.Deals.{deal_at, deal_past_end}
use Rattle.audit_base.specs.Calls.{OnePrice}

-- deals have one price exactly where they have that of the first one
pub price-of_first : (deals : List Deal) (first : Deal) → 0 < length deals → first ≡ deal_at deals 0 → OnePrice deals → All (λ d. d.price ≡ first.price) deals
price-of_first deals first some first_is one = λ k d lt. one.each k d lt ∙ sym (first_price)
  where
    first_price : first.price ≡ one.price
    first_price = rw first_is (one.each 0 deal_past_end some)
