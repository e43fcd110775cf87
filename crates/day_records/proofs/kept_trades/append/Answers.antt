use Rattle.std.proofs.Common.{◌≡◌, ◌∙◌, ◌∷◌, ◌++◌, [], ℕ, List, length, ap}
use Rattle.day_records.specs.declared.kept_trades.KeptTrade.{KeptTrade}
use Rattle.day_records.specs.KeptTrades.{trades_of, kept_trade, trade_names}
use Rattle.day_records.proofs.TradeLemmas.{trades-push}
use Rattle.day_records.proofs.kept_trades.append.Goals as goal

pub returns-clause-adds : goal.returns-clause-adds
returns-clause-adds c =
    let bytes = c.args.bytes.now.items in
    let trades = c.args.trades.now.items in
    let trade = c.args.trade.now in
    let own : c.kept_trade-own.result ≡ kept_trade trade (length bytes) c.args.place =
    c.kept_trade-own.ensures ∙ ap (λ (n : ℕ). kept_trade trade n c.args.place) (c.in_ok-kept_start.ensures ∙ ap (λ (xs : List ℕ). length xs) c.as_slice.ensures.value) in
    (λ i. trades_of trade.symbol (c.in_ok-put_names.ensures.adds i) (c.in_ok-push.ensures.items i))
    ∙ ap (λ (kept : KeptTrade). trades_of trade.symbol (bytes ++ trade_names trade) (trades ++ kept ∷ [])) own
    ∙ trades-push bytes trades trade c.args.place c.requires c.have_names.ensures
