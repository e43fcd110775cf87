-- Where the names of kept trades lie.
use Rattle.std.proofs.Common.{◌≡◌, ◌+◌, ◌∙◌, ℕ, List, [], ◌∷◌, ◌++◌, length, refl, sym, ap, arith}
use Rattle.std.proofs.lemmas.List.{length-append, append_assoc, map-append}
use Rattle.std.proofs.lemmas.List.Elements.{All-weaker, All-head, All-tail, All-push}
use Rattle.audit_base.specs.declared.records.TradeRecord.{TradeRecord}
use Rattle.day_records.specs.declared.kept_trades.KeptTrade.{KeptTrade}
use Rattle.day_records.specs.KeptTrades.{trade_of, kept_trade, trade_names, buy_start, sell_start, TradeHasNames, IsTradeInside, AreTradesInside, trades_of}
use Rattle.day_records.proofs.NameRowLemmas.{name-kept, named-between, named-last}

pub trade-kept : (symbol bytes more : List ℕ) (kept : KeptTrade) → IsTradeInside bytes kept → trade_of symbol (bytes ++ more) kept ≡ trade_of symbol bytes kept
trade-kept symbol bytes more kept inside =
    let trade = name-kept bytes more kept.start kept.trade_size (omega (arith, inside)) in
    let buy_firm = name-kept bytes more (buy_start kept) kept.buy_firm_size (omega (arith, inside)) in
    let buy_id = name-kept bytes more (buy_start kept + kept.buy_firm_size) kept.buy_id_size (omega (arith, inside)) in
    let sell_firm = name-kept bytes more (sell_start kept) kept.sell_firm_size (omega (arith, inside)) in
    let sell_id = name-kept bytes more (sell_start kept + kept.sell_firm_size) kept.sell_id_size (omega (arith, inside)) in
    λ i. record {
      trade = trade i;
      time = kept.time;
      symbol = symbol;
      buy = record { firm = buy_firm i; id = buy_id i };
      sell = record { firm = sell_firm i; id = sell_id i };
      quantity = kept.quantity;
      price = kept.price;
    }

pub trades-kept : (symbol bytes more : List ℕ) (trades : List KeptTrade) → AreTradesInside bytes trades → trades_of symbol (bytes ++ more) trades ≡ trades_of symbol bytes trades
trades-kept symbol bytes more [] inside = refl
trades-kept symbol bytes more (own ∷ trades) inside =
    let here = trade-kept symbol bytes more own (All-head (IsTradeInside bytes) own trades inside) in
    let rest = trades-kept symbol bytes more trades (All-tail (IsTradeInside bytes) own trades inside) in
    λ i. (own.place, here i) ∷ rest i

pub inside-trades : (bytes more : List ℕ) (trades : List KeptTrade) → AreTradesInside bytes trades → AreTradesInside (bytes ++ more) trades
inside-trades bytes more trades inside =
    All-weaker (IsTradeInside bytes) (IsTradeInside (bytes ++ more)) (λ own in_bytes. omega (arith, in_bytes, length-append bytes more)) trades inside

-- one more is the trade that it was made of
pub own-trade : (bytes : List ℕ) (t : TradeRecord) (place : ℕ) → TradeHasNames t → trade_of t.symbol (bytes ++ trade_names t) (kept_trade t (length bytes) place) ≡ t
own-trade bytes t place named =
    let a = t.trade in
    let b = t.buy.firm in
    let c = t.buy.id in
    let d = t.sell.firm in
    let e = t.sell.id in
    let whole = bytes ++ trade_names t in
    let second : whole ≡ (bytes ++ a) ++ (b ++ (c ++ (d ++ e))) = sym (append_assoc bytes a ((b ++ c) ++ (d ++ e))) ∙ ap (λ (xs : List ℕ). (bytes ++ a) ++ xs) (append_assoc b c (d ++ e)) in
    let third : whole ≡ ((bytes ++ a) ++ b) ++ (c ++ (d ++ e)) = second ∙ sym (append_assoc (bytes ++ a) b (c ++ (d ++ e))) in
    let fourth : whole ≡ (((bytes ++ a) ++ b) ++ c) ++ (d ++ e) = third ∙ sym (append_assoc ((bytes ++ a) ++ b) c (d ++ e)) in
    let fifth : whole ≡ ((((bytes ++ a) ++ b) ++ c) ++ d) ++ e = fourth ∙ sym (append_assoc (((bytes ++ a) ++ b) ++ c) d e) in
    let at_b : length bytes + length a ≡ length (bytes ++ a) = omega (arith, length-append bytes a) in
    let at_c : length bytes + length a + length b ≡ length ((bytes ++ a) ++ b) = omega (arith, at_b, length-append (bytes ++ a) b) in
    let at_d : length bytes + length a + length b + length c ≡ length (((bytes ++ a) ++ b) ++ c) = omega (arith, at_c, length-append ((bytes ++ a) ++ b) c) in
    let at_e : length bytes + length a + length b + length c + length d ≡ length ((((bytes ++ a) ++ b) ++ c) ++ d) = omega (arith, at_d, length-append (((bytes ++ a) ++ b) ++ c) d) in
    let trade = named-between whole bytes a ((b ++ c) ++ (d ++ e)) (length bytes) refl refl named.trade_named in
    let buy_firm = named-between whole (bytes ++ a) b (c ++ (d ++ e)) (length bytes + length a) second at_b named.buy_firm in
    let buy_id = named-between whole ((bytes ++ a) ++ b) c (d ++ e) (length bytes + length a + length b) third at_c named.buy_id in
    let sell_firm = named-between whole (((bytes ++ a) ++ b) ++ c) d e (length bytes + length a + length b + length c) fourth at_d named.sell_firm in
    let sell_id = named-last whole ((((bytes ++ a) ++ b) ++ c) ++ d) e (length bytes + length a + length b + length c + length d) fifth at_e named.sell_id in
    λ i. record {
      trade = trade i;
      time = t.time;
      symbol = t.symbol;
      buy = record { firm = buy_firm i; id = buy_id i };
      sell = record { firm = sell_firm i; id = sell_id i };
      quantity = t.quantity;
      price = t.price;
    }

pub trades-push : (bytes : List ℕ) (trades : List KeptTrade) (t : TradeRecord) (place : ℕ) → AreTradesInside bytes trades → TradeHasNames t
    → trades_of t.symbol (bytes ++ trade_names t) (trades ++ kept_trade t (length bytes) place ∷ []) ≡ trades_of t.symbol bytes trades ++ (place, t) ∷ []
trades-push bytes trades t place inside named =
    let own = own-trade bytes t place named in
    map-append (λ (kept : KeptTrade). (kept.place, trade_of t.symbol (bytes ++ trade_names t) kept)) trades (kept_trade t (length bytes) place ∷ [])
    ∙ (λ i. trades-kept t.symbol bytes (trade_names t) trades inside i ++ (place, own i) ∷ [])

pub inside-trade_push : (bytes : List ℕ) (trades : List KeptTrade) (t : TradeRecord) (place : ℕ) → AreTradesInside bytes trades → AreTradesInside (bytes ++ trade_names t) (trades ++ kept_trade t (length bytes) place ∷ [])
inside-trade_push bytes trades t place inside =
    let b = t.buy.firm in
    let c = t.buy.id in
    let d = t.sell.firm in
    let e = t.sell.id in
    All-push (IsTradeInside (bytes ++ trade_names t)) trades (kept_trade t (length bytes) place) (inside-trades bytes (trade_names t) trades inside)
    (omega (arith, length-append bytes (trade_names t), length-append t.trade ((b ++ c) ++ (d ++ e)), length-append (b ++ c) (d ++ e), length-append b c, length-append d e))
