-- The deals of sound trades are a list of deals over the order list.
use Rattle.std.proofs.Common.{◌≡◌, ◌<◌, ◌+◌, ◌^◌, ℕ, List, [], ◌∷◌, length, get_or, map, Bool, true, false, Option, None, sym, ap, arith, inl, inr, All, AllPairs, subst}
use Rattle.std.specs.Prelude.{◌&&◌, is_none, filter, unwrap_or}
use Rattle.std.specs.List.{enumerate_from}
use Rattle.std.specs.Option.{option_or}
use Rattle.std.proofs.lemmas.Bool.{and_parts, cond_both, both_ways}
use Rattle.std.proofs.lemmas.List.{get_or-map, length-map}
use Rattle.std.proofs.lemmas.List.Elements.{All-nil, All-cons, All-head, All-tail}
use Rattle.std.proofs.lemmas.List.Sums.{length-filter, count_by-le-length}
use Rattle.std.proofs.lemmas.List.FromFn.{length-enumerate_from}
use Rattle.audit_base.specs.declared.names.Key.{Key}
use Rattle.audit_base.specs.declared.terms.Side.{Side}
use Rattle.audit_base.specs.declared.terms.Side.TheVariants.{Buy, Sell}
use Rattle.audit_base.specs.declared.records.TradeRecord.{TradeRecord}
use Rattle.audit_base.specs.declared.orders.Order.{Order}
use Rattle.audit_base.specs.declared.orders.Deal.{Deal}
use Rattle.audit_base.specs.Orders.{order_at, side_at, same_name, same_side, same_key, order_on_side_with_key}
use Rattle.audit_base.specs.Deals.{NamesOrders, IsDealList, DealInRange, DealsInRange}
use Rattle.audit_base.specs.Trades.{trades_of_symbol, trade_past_end, trade_at, TradeInRange, TradesInRange, duplicate_trade_finding, unknown_order_finding, trades_finding, SoundTrades, deal_of_trade, deals_of_symbol}
use Rattle.audit_base.proofs.OrderLemmas.{same_side-is}
use Rattle.audit_base.proofs.LeastLemmas.{cases_Option, option_or-parts, none-below, with-found}
use Rattle.audit_base.proofs.OffenceLemmas.{only-none}
use Rattle.audit_base.proofs.HistoryLemmas.{enumerated-places}

-- what a test leaves of a numbered list keeps what holds of each member
pub numbered-All : {X : Type 0} (P : X → Type 0) (xs : List X) (test : ℕ × X → Bool) (n : ℕ) → All P xs → All (λ e. P e.1) (filter test (enumerate_from n xs))
numbered-All P [] test n h = All-nil (λ e. P e.1)
numbered-All P (x ∷ xs) test n h =
    let tail = filter test (enumerate_from (n + 1) xs) in
    let rest = numbered-All P xs test (n + 1) (All-tail P x xs h) in
    cond_both (test (n, x)) ((n, x) ∷ tail) tail (λ l. All (λ e. P e.1) l)
    (λ t. All-cons (λ e. P e.1) (n, x) tail (All-head P x xs h) rest)
    (λ t. rest)

-- what is found by a key is an order of the side
found-order : (orders : List Order) (side : Side) (key : Key) → is_none (order_on_side_with_key orders side key) ≡ false
    → (unwrap_or (order_on_side_with_key orders side key) (length orders) < length orders) × (side_at orders (unwrap_or (order_on_side_with_key orders side key) (length orders)) ≡ side)
found-order orders side key some = elim (cases_Option (order_on_side_with_key orders side key)) [
  | inl none ↦ let t : is_none (order_on_side_with_key orders side key) ≡ true = ap is_none none in absurd (both_ways _ some t)
  | inr (i, e) ↦
      let test : ℕ → Bool = λ i. same_side side (side_at orders i) && same_key (order_at orders i).key key in
      let r = with-found test (length orders) i e in
      let parts = and_parts (same_side side (side_at orders i)) (same_key (order_at orders i).key key) r.1 in
      let same : unwrap_or (order_on_side_with_key orders side key) (length orders) ≡ i = ap (λ (o : Option ℕ). unwrap_or o (length orders)) e in
      (rw same r.0, rw same (same_side-is side _ parts.0))
]

known-order : (orders : List Order) (listed : List (ℕ × TradeRecord)) (k : ℕ) → unknown_order_finding orders listed k ≡ None
    → (is_none (order_on_side_with_key orders Buy (trade_at listed k).buy) ≡ false) × (is_none (order_on_side_with_key orders Sell (trade_at listed k).sell) ≡ false)
unfolding unknown_order_finding
known-order orders listed k e = let parts = option_or-parts _ _ e in (only-none _ _ parts.0, only-none _ _ parts.1)

module _ (orders : List Order) (symbol : List ℕ) (trades : List TradeRecord) where
  deal-at : (k : ℕ) (d : Deal) → k < length (trades_of_symbol symbol trades) → get_or (map (deal_of_trade orders) (trades_of_symbol symbol trades)) k d ≡ deal_of_trade orders (get_or (trades_of_symbol symbol trades) k trade_past_end)
  deal-at k d lt = get_or-map (deal_of_trade orders) (trades_of_symbol symbol trades) k trade_past_end d lt

  deals-length : length (deals_of_symbol orders symbol trades) ≡ length (trades_of_symbol symbol trades)
  unfolding deals_of_symbol
  deals-length = length-map (trades_of_symbol symbol trades) (deal_of_trade orders)

  -- each deal of sound trades names a bid and an ask
  pub sound-names : SoundTrades orders symbol trades → All (NamesOrders orders) (deals_of_symbol orders symbol trades)
  unfolding trades_finding deals_of_symbol
  sound-names sound k d lt =
      let listed = trades_of_symbol symbol trades in
      let inside : k < length listed = rw (← length-map listed (deal_of_trade orders)) lt in
      let none = none-below (λ k. option_or (duplicate_trade_finding listed k) (unknown_order_finding orders listed k)) (length listed) sound k inside in
      let known = known-order orders listed k ((option_or-parts (duplicate_trade_finding listed k) (unknown_order_finding orders listed k) none).1) in
      let bid = found-order orders Buy (trade_at listed k).buy known.0 in
      let ask = found-order orders Sell (trade_at listed k).sell known.1 in
      subst (NamesOrders orders) (sym (deal-at k d inside)) (record { bid_inside = bid.0; ask_inside = ask.0; buys = bid.1; sells = ask.1 })

  -- and has numbers in their ranges
  pub deals-ranges : TradesInRange trades → DealsInRange (deals_of_symbol orders symbol trades)
  unfolding trades_of_symbol deals_of_symbol
  deals-ranges ranges k d lt =
      let listed = trades_of_symbol symbol trades in
      let inside : k < length listed = rw (← length-map listed (deal_of_trade orders)) lt in
      let t = numbered-All TradeInRange trades (λ e. same_name e.1.symbol symbol) 1 ranges k trade_past_end inside in
      subst DealInRange (sym (deal-at k d inside)) t

  deals-rising : AllPairs (λ d e. d.place < e.place) (deals_of_symbol orders symbol trades)
  unfolding trades_of_symbol deals_of_symbol
  deals-rising j k d lt below =
      let listed = trades_of_symbol symbol trades in
      let inside : k < length listed = rw (← length-map listed (deal_of_trade orders)) below in
      let rise = (enumerated-places trades (λ e. same_name e.1.symbol symbol) 1).1 j k trade_past_end lt inside in
      rw (deal-at j d (omega arith), deal-at k d inside) rise

  -- they are a list of deals over the orders
  pub deals-are : length trades < 2 ^ 32 → SoundTrades orders symbol trades → IsDealList orders (deals_of_symbol orders symbol trades)
  unfolding trades_of_symbol
  deals-are small sound =
      let test : ℕ × TradeRecord → Bool = λ e. same_name e.1.symbol symbol in
      let a = deals-length in
      let b = length-filter test (enumerate_from 1 trades) in
      let c = count_by-le-length test (enumerate_from 1 trades) in
      let e = length-enumerate_from 1 trades in
      record { named = sound-names sound; rising = deals-rising; fits_indices = omega arith }
