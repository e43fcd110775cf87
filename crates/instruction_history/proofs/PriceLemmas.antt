-- Orders of life Market have the market price where their records have it.
use Rattle.std.proofs.Common.{◌≡◌, ◌+◌, ℕ, suc, Option, None, Some, List, [], ◌∷◌, refl, arith, subst}
use Rattle.std.specs.Prelude.{All, filter_map}
use Rattle.std.specs.List.{enumerate_from, cons_option}
use Rattle.std.proofs.lemmas.Option.{same_Some}
use Rattle.std.proofs.lemmas.List.Elements.{All-nil, All-cons, All-filter}
use Rattle.audit_base.specs.declared.orders.Order.{Order}
use Rattle.audit_base.specs.declared.records.OrderRecord.{OrderRecord}
use Rattle.audit_base.specs.declared.records.OrderRecord.TheVariants.{New, Cancel, Replace}
use Rattle.audit_base.specs.Orders.{same_name, HasMarketPriceIfMarket}
use Rattle.audit_base.specs.Histories.{symbol_of, history, order_list, order_of_entry, HasMarketPrice}
use Rattle.instruction_history.specs.MarketPrices.{AreRecordsMarketPriced, AreMarketPriced}
use Rattle.instruction_history.proofs.RecordLemmas.{Records}

abbrev IsPriced : Order → Type 0
IsPriced o = HasMarketPriceIfMarket o.life o.side o.limit

-- the order of a record
record-priced : (h : Records) (k at : ℕ) (r : OrderRecord) → HasMarketPrice r → (o : Order) → order_of_entry h (k, at, r) ≡ Some o → IsPriced o
record-priced h k at (New key time symbol side quantity price life) has o e = subst (λ (x : Order). IsPriced x) (same_Some _ o e) has
record-priced h k at (Cancel key time symbol target) has o e = absurd cc
record-priced h k at (Replace key time symbol target side quantity price) has o e = subst (λ (x : Order). IsPriced x) (same_Some _ o e) (λ market. absurd cc)

one-more : (made : Option Order) (orders : List Order) → ((o : Order) → made ≡ Some o → IsPriced o) → All IsPriced orders → All IsPriced (cons_option made orders)
one-more None orders here rest = rest
one-more (Some o) orders here rest = All-cons IsPriced o orders (here o refl) rest

orders-priced : (h : Records) (n : ℕ) (xs : Records) → All (λ e. HasMarketPrice e.1) xs → All IsPriced (filter_map (λ e. order_of_entry h (e.0, e.1.0, e.1.1)) (enumerate_from n xs))
orders-priced h n [] has = All-nil IsPriced
orders-priced h n (x ∷ xs) has =
    one-more (order_of_entry h (n, x.0, x.1)) _ (record-priced h n x.0 x.1 (has 0 x (omega arith)))
    (orders-priced h (n + 1) xs (λ i d lt. has (suc i) d (omega arith)))

placed : (n : ℕ) (entries : List OrderRecord) → All HasMarketPrice entries → All (λ (e : ℕ × OrderRecord). HasMarketPrice e.1) (enumerate_from n entries)
placed n [] has = All-nil (λ (e : ℕ × OrderRecord). HasMarketPrice e.1)
placed n (r ∷ entries) has =
    All-cons (λ (e : ℕ × OrderRecord). HasMarketPrice e.1) (n, r) (enumerate_from (n + 1) entries) (has 0 r (omega arith))
    (placed (n + 1) entries (λ i d lt. has (suc i) d (omega arith)))

pub order_list-priced : (symbol : List ℕ) (entries : List OrderRecord) → AreRecordsMarketPriced entries → AreMarketPriced (order_list symbol entries)
order_list-priced symbol entries has =
    orders-priced (history symbol entries) 0 (history symbol entries)
    (All-filter (λ e. same_name (symbol_of e.1) symbol) (λ e. HasMarketPrice e.1) (enumerate_from 1 entries) (placed 1 entries has))
