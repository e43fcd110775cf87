-- The trade records of deals, read again.
use Rattle.std.proofs.Common.{◌≡◌, ◌<◌, ◌≤◌, ◌+◌, ◌^◌, ℕ, zero, suc, List, [], ◌∷◌, ◌++◌, length, take, get_or, map, Bool, true, false, Option, Some, None, refl, sym, ap, ◌∙◌, arith, inl, inr, subst}
use Rattle.std.specs.Prelude.{◌&&◌, filter, unwrap_or, decimal}
use Rattle.std.specs.List.{enumerate_from}
use Rattle.std.specs.Option.{option_or}
use Rattle.std.proofs.lemmas.Bool.{cases_Bool, and_from, and_parts, cond-true, le-leb}
use Rattle.std.proofs.lemmas.List.{get_or-map, length-map, same_lists}
use Rattle.std.proofs.lemmas.List.FromFn.{length-enumerate_from, get_or-enumerate_from}
use Rattle.std.proofs.lemmas.Slice.Eq.{bytes_eq-Decides}
use Rattle.std.proofs.lemmas.Fmt.{decimal_injective, length-decimal-le_wide}
use Rattle.audit_base.specs.Names.{is_name, name_form}
use Rattle.audit_base.proofs.UnquotedLemmas.{decimal_is_unquoted}
use Rattle.audit_base.specs.declared.names.Key.{Key}
use Rattle.audit_base.specs.declared.terms.Side.{Side}
use Rattle.audit_base.specs.declared.terms.Side.TheVariants.{Buy, Sell}
use Rattle.audit_base.specs.declared.records.TradeRecord.{TradeRecord}
use Rattle.audit_base.specs.declared.orders.Order.{Order}
use Rattle.audit_base.specs.declared.orders.Deal.{Deal}
use Rattle.audit_base.specs.Orders.{order_at, side_at, same_name, same_side, same_key, order_on_side_with_key, order_past_end, HaveOwnKeys}
use Rattle.audit_base.specs.Deals.{deal_at, deal_past_end, DealsInRange, IsDealList}
use Rattle.audit_base.specs.Trades.{trades_of_symbol, trade_past_end, trade_at, TradeInRange, TradesInRange, duplicate_trade_finding, unknown_order_finding, trades_finding, SoundTrades, deal_of_trade, deals_of_symbol}
use Rattle.audit_base.specs.declared.terms.Rule.TheVariants as rule
use Rattle.audit_base.specs.Expected.{pair_deals, trade_of_deal, trades_of_deals}
use Rattle.audit_base.proofs.PairDealLemmas.{pair_deals-are}
use Rattle.audit_base.proofs.LeastLemmas.{least-none, with-at, with-none}
use Rattle.audit_base.proofs.OrderLemmas.{is-same_side}
use Rattle.audit_base.proofs.HistoryLemmas.{same_key-is, is-same_key}
use Rattle.audit_base.proofs.OffenceLemmas.{get_or-default}
use Rattle.canonical_form.specs.Trades.{ExpectedHavePlaces, HavePlacesFromOne, TradesAreSound, TradesGiveTheirDeals, TradesHaveRanges}

-- where each member passes the test, all are left
all-pass : {X : Type 0} (test : X → Bool) (xs : List X) → ((k : ℕ) (d : X) → k < length xs → test (get_or xs k d) ≡ true) → filter test xs ≡ xs
all-pass test [] h = refl
all-pass test (x ∷ xs) h = cond-true (test x) (x ∷ filter test xs) (filter test xs) (h 0 x (omega arith)) ∙ ap (λ ys. x ∷ ys) (all-pass test xs (λ k d lt. h (suc k) d (omega arith)))

-- of a key that no other order has, the order is found
found-own : (orders : List Order) → HaveOwnKeys orders → (side : Side) (i : ℕ) (key : Key) → i < length orders → side_at orders i ≡ side → key ≡ (order_at orders i).key
    → order_on_side_with_key orders side key ≡ Some i
found-own orders own side i key lt of e =
    let test : ℕ → Bool = λ i. same_side side (side_at orders i) && same_key (order_at orders i).key key in
    with-at test (length orders) i lt (and_from _ _ (is-same_side side (side_at orders i) (sym of)) (is-same_key (order_at orders i).key key (sym e)))
    (λ j below. elim (cases_Bool (test j)) [
      | inr f ↦ f
      | inl t ↦
          let same : (order_at orders j).key ≡ key = same_key-is _ _ (and_parts (same_side side (side_at orders j)) (same_key (order_at orders j).key key) t).1 in
          absurd (own j i order_past_end below lt (same ∙ e))
    ])

module _ (orders : List Order) (symbol : List ℕ) (deals : List Deal) where
  abbrev trades : List TradeRecord
  trades = trades_of_deals orders symbol deals

  abbrev made : ℕ × Deal → TradeRecord
  made e = trade_of_deal orders symbol e.0 e.1

  trade-length : length trades ≡ length deals
  trade-length = length-map (enumerate_from 1 deals) made ∙ length-enumerate_from 1 deals

  trade-is : (k : ℕ) (t : TradeRecord) → k < length deals → get_or trades k t ≡ trade_of_deal orders symbol (1 + k) (deal_at deals k)
  trade-is k t lt =
      let inside : k < length (enumerate_from 1 deals) = rw (length-enumerate_from 1 deals) lt in
      get_or-map made (enumerate_from 1 deals) k (0, deal_past_end) t inside ∙ ap made (get_or-enumerate_from 1 deals k (0, deal_past_end) lt)

  abbrev listed : List (ℕ × TradeRecord)
  listed = enumerate_from 1 trades

  listed-length : length listed ≡ length deals
  listed-length = length-enumerate_from 1 trades ∙ trade-length

  listed-is : (k : ℕ) (e : ℕ × TradeRecord) → k < length deals → get_or listed k e ≡ (1 + k, trade_of_deal orders symbol (1 + k) (deal_at deals k))
  listed-is k e lt =
      let inside : k < length trades = rw trade-length lt in
      get_or-enumerate_from 1 trades k e inside ∙ ap (λ t. (1 + k, t)) (trade-is k e.1 lt)

  all-listed : trades_of_symbol symbol trades ≡ listed
  unfolding trades_of_symbol
  all-listed = all-pass (λ e. same_name e.1.symbol symbol) listed (λ k e lt.
      let inside : k < length deals = rw (← listed-length) lt in
      ap (λ (e : ℕ × TradeRecord). same_name e.1.symbol symbol) (listed-is k e inside) ∙ (bytes_eq-Decides symbol symbol).1 refl)

  module _ (own : HaveOwnKeys orders) (list : IsDealList orders deals) where
    ids-differ : (j k : ℕ) → j < k → k < length deals → same_name (trade_at listed j).trade (trade_at listed k).trade ≡ false
    ids-differ j k below lt = elim (cases_Bool (same_name (trade_at listed j).trade (trade_at listed k).trade)) [
      | inr f ↦ f
      | inl t ↦
          let same : (trade_at listed j).trade ≡ (trade_at listed k).trade = (bytes_eq-Decides (trade_at listed j).trade (trade_at listed k).trade).0 t in
          let first : (trade_at listed j).trade ≡ 84 ∷ decimal (1 + j) = ap (λ (e : ℕ × TradeRecord). e.1.trade) (listed-is j trade_past_end (omega arith)) in
          let second : (trade_at listed k).trade ≡ 84 ∷ decimal (1 + k) = ap (λ (e : ℕ × TradeRecord). e.1.trade) (listed-is k trade_past_end lt) in
          let digits : decimal (1 + j) ≡ decimal (1 + k) = cc in
          let few = list.fits_indices in
          let e : 1 + j ≡ 1 + k = decimal_injective (1 + j) (1 + k) (omega arith) (omega arith) digits in
          absurd (omega arith)
    ]

    bid-found : (k : ℕ) (e : ℕ × TradeRecord) → k < length deals → order_on_side_with_key orders Buy (get_or listed k e).1.buy ≡ Some (deal_at deals k).bid
    bid-found k e lt = let n = list.named k deal_past_end lt in
        found-own orders own Buy (deal_at deals k).bid _ n.bid_inside n.buys (ap (λ (e : ℕ × TradeRecord). e.1.buy) (listed-is k e lt))

    ask-found : (k : ℕ) (e : ℕ × TradeRecord) → k < length deals → order_on_side_with_key orders Sell (get_or listed k e).1.sell ≡ Some (deal_at deals k).ask
    ask-found k e lt = let n = list.named k deal_past_end lt in
        found-own orders own Sell (deal_at deals k).ask _ n.ask_inside n.sells (ap (λ (e : ℕ × TradeRecord). e.1.sell) (listed-is k e lt))

    -- no trade fails
    sound-listed : (l : List (ℕ × TradeRecord)) → l ≡ listed → (k : ℕ) → k < length l → option_or (duplicate_trade_finding l k) (unknown_order_finding orders l k) ≡ None
    unfolding duplicate_trade_finding unknown_order_finding
    sound-listed l is k lt =
        let inside : k < length deals = rw (← listed-length) (rw (← is) lt) in
        let none = with-none (λ j. same_name (trade_at l j).trade (trade_at l k).trade) k (λ j below. rw is (ids-differ j k below inside)) in
        let bid : order_on_side_with_key orders Buy (trade_at l k).buy ≡ Some (deal_at deals k).bid = rw is (bid-found k trade_past_end inside) in
        let ask : order_on_side_with_key orders Sell (trade_at l k).sell ≡ Some (deal_at deals k).ask = rw is (ask-found k trade_past_end inside) in
        rw (none, bid, ask) refl

    pub trades-sound : SoundTrades orders symbol trades
    unfolding trades_finding
    trades-sound = least-none (λ k. option_or (duplicate_trade_finding (trades_of_symbol symbol trades) k) (unknown_order_finding orders (trades_of_symbol symbol trades) k)) (length (trades_of_symbol symbol trades))
        (λ k lt. sound-listed (trades_of_symbol symbol trades) all-listed k lt)

    deal-same : (d : Deal) (p b a : ℕ) → p ≡ d.place → b ≡ d.bid → a ≡ d.ask → ◌≡◌ {A = Deal} (record { place = p; bid = b; ask = a; quantity = d.quantity; price = d.price }) d
    deal-same d p b a e f g = λ i. record { place = e i; bid = f i; ask = g i; quantity = d.quantity; price = d.price }

    pub trades-deals : HavePlacesFromOne deals → deals_of_symbol orders symbol trades ≡ deals
    unfolding deals_of_symbol
    trades-deals places = ap (map (deal_of_trade orders)) all-listed ∙ same_lists (map (deal_of_trade orders) listed) deals (length-map listed (deal_of_trade orders) ∙ listed-length) (λ k d lt.
        let inside : k < length deals = rw (← listed-length) (rw (← length-map listed (deal_of_trade orders)) lt) in
        let at : get_or (map (deal_of_trade orders) listed) k d ≡ deal_of_trade orders (get_or listed k trade_past_end) = get_or-map (deal_of_trade orders) listed k trade_past_end d (rw listed-length inside) in
        let bid : unwrap_or (order_on_side_with_key orders Buy (get_or listed k trade_past_end).1.buy) (length orders) ≡ (deal_at deals k).bid = ap (λ (o : Option ℕ). unwrap_or o (length orders)) (bid-found k trade_past_end inside) in
        let ask : unwrap_or (order_on_side_with_key orders Sell (get_or listed k trade_past_end).1.sell) (length orders) ≡ (deal_at deals k).ask = ap (λ (o : Option ℕ). unwrap_or o (length orders)) (ask-found k trade_past_end inside) in
        let is = listed-is k trade_past_end inside in
        let place : (get_or listed k trade_past_end).0 ≡ (deal_at deals k).place = ap (λ (e : ℕ × TradeRecord). e.0) is ∙ (let p = places k inside in omega arith) in
        let rest : deal_of_trade orders (get_or listed k trade_past_end)
        ≡ record { place = (deal_of_trade orders (get_or listed k trade_past_end)).place; bid = (deal_of_trade orders (get_or listed k trade_past_end)).bid; ask = (deal_of_trade orders (get_or listed k trade_past_end)).ask; quantity = (deal_at deals k).quantity; price = (deal_at deals k).price } =
        (λ i. record { place = (deal_of_trade orders (get_or listed k trade_past_end)).place; bid = (deal_of_trade orders (get_or listed k trade_past_end)).bid; ask = (deal_of_trade orders (get_or listed k trade_past_end)).ask; quantity = (is i).1.quantity; price = (is i).1.price }) in
        at ∙ rest ∙ deal-same (deal_at deals k) _ _ _ place bid ask ∙ get_or-default deals k deal_past_end d inside)

  pub trades-ranges : DealsInRange deals → TradesInRange trades
  trades-ranges ranges k t lt =
      let inside : k < length deals = rw (← trade-length) lt in
      subst TradeInRange (sym (trade-is k t inside)) (ranges k deal_past_end inside)

-- the ids are names
pub id_is_name : (number : ℕ) → number ≤ 2 ^ 32 → is_name (84 ∷ decimal number) ≡ true
id_is_name number few =
    let long = length-decimal-le_wide 10 number (omega arith) (omega arith) (omega arith) in
    and_from _ _ (and_from _ _ (le-leb 1 (suc (length (decimal number))) (omega arith)) (le-leb (suc (length (decimal number))) 64 (omega arith))) (decimal_is_unquoted number (omega arith))

-- so they are read as such
pub id_read : (number : ℕ) (text : List ℕ) (id : Option (List ℕ)) → number ≤ 2 ^ 32 → text ≡ 84 ∷ decimal number → id ≡ name_form text → id ≡ Some (84 ∷ decimal number)
id_read number text id few is e = e ∙ ap name_form is ∙ cond-true _ (Some (84 ∷ decimal number)) None (id_is_name number few)

-- one deal more
record-more : (f : ℕ × Deal → TradeRecord) (n k : ℕ) (ds : List Deal) (d : Deal) → k < length ds
    → map f (enumerate_from n (take (suc k) ds)) ≡ map f (enumerate_from n (take k ds)) ++ f (n + k, get_or ds k d) ∷ []
record-more f n k [] d lt = absurd (omega arith)
record-more f n zero (x ∷ ds) d lt = ap (λ (m : ℕ). f (m, x) ∷ []) (let e : n ≡ n + 0 = omega arith in e)
record-more f n (suc k) (x ∷ ds) d lt =
    ap (λ (ts : List TradeRecord). f (n, x) ∷ ts) (record-more f (n + 1) k ds d (omega arith)
    ∙ ap (λ (m : ℕ). map f (enumerate_from (n + 1) (take k ds)) ++ f (m, get_or ds k d) ∷ []) (let e : n + 1 + k ≡ n + suc k = omega arith in e))

pub trades-more : (orders : List Order) (symbol : List ℕ) (deals : List Deal) (k : ℕ) (d : Deal) (id : List ℕ) (t : TradeRecord) (old new : List TradeRecord) → k < length deals → d ≡ get_or deals k d → id ≡ 84 ∷ decimal (k + 1)
    → t ≡ record (trade_of_deal orders symbol 0 d) { trade = id } → old ≡ trades_of_deals orders symbol (take k deals) → new ≡ old ++ t ∷ [] → new ≡ trades_of_deals orders symbol (take (k + 1) deals)
trades-more orders symbol deals k d id t old new lt at id_is t_is before after =
    let number : k + 1 ≡ 1 + k = omega arith in
    let is : t ≡ trade_of_deal orders symbol (1 + k) (get_or deals k d) = t_is ∙ ap (λ (name : List ℕ). record (trade_of_deal orders symbol 0 d) { trade = name }) (id_is ∙ ap (λ (m : ℕ). 84 ∷ decimal m) number)
    ∙ ap (trade_of_deal orders symbol (1 + k)) at in
    after ∙ (λ i. before i ++ is i ∷ []) ∙ sym (record-more (λ (e : ℕ × Deal). trade_of_deal orders symbol e.0 e.1) 1 k deals d lt)
    ∙ ap (λ (m : ℕ). trades_of_deals orders symbol (take m deals)) (let e : suc k ≡ k + 1 = omega arith in e)

pub are_sound : TradesAreSound
are_sound orders deals symbol own list = trades-sound orders symbol deals own list

pub give_deals : TradesGiveTheirDeals
give_deals orders deals symbol own list places = trades-deals orders symbol deals own list places

pub have_ranges : TradesHaveRanges
have_ranges orders deals symbol ranges = trades-ranges orders symbol deals ranges

expected-places : (orders : List Order) (quantity price : ℕ → ℕ → ℕ) (deals : List Deal) → deals ≡ pair_deals orders quantity price → HavePlacesFromOne deals
expected-places orders quantity price deals e = subst HavePlacesFromOne (sym e) (λ k lt. (pair_deals-are orders quantity price).numbered k deal_past_end lt)

pub expected_have_places : ExpectedHavePlaces
expected_have_places rule.Uniform orders deals h = expected-places orders _ _ deals h.pairs
expected_have_places rule.Maximum orders deals h = expected-places orders _ _ deals h.pairs
expected_have_places rule.Continuous orders deals h = expected-places orders _ _ deals h
expected_have_places rule.Matching orders deals h = absurd h
expected_have_places rule.Fair orders deals h = absurd h
