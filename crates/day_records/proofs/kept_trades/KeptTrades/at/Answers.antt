use Rattle.std.proofs.Common.{◌≡◌, ◌<◌, ◌∙◌, ℕ, List, Some, length, get_or, sym, ap, subst}
use Rattle.std.specs.Prelude.{option_map, slice_get}
use Rattle.std.proofs.lemmas.List.{length-map}
use Rattle.std.proofs.lemmas.Option.{slice_get-map, slice_get-get_or}
use Rattle.audit_base.specs.declared.records.TradeRecord.{TradeRecord}
use Rattle.day_records.specs.declared.kept_trades.KeptTrade.{KeptTrade}
use Rattle.day_records.specs.KeptTrades.{KeptTradeList, trade_of}
use Rattle.day_records.proofs.kept_trades.KeptTrades.at.Goals as goal

pub returns : goal.returns
returns c =
    let symbol = c.self.inside.symbol in
    let bytes = c.self.inside.bytes.items in
    let items = c.self.inside.trades.items in
    let placed : KeptTrade → ℕ × TradeRecord = λ kept. (kept.place, trade_of symbol bytes kept) in
    let kept = c.index-kept.result.now in
    let inside : c.args.index < length items =
    subst (λ (n : ℕ). c.args.index < n) (sym (ap (λ (v : KeptTradeList). length v.trades) c.self.view_is) ∙ length-map items placed) c.requires in
    let here : kept ≡ get_or items c.args.index kept = c.index-kept.ensures in
    let record_is : c.record.result ≡ trade_of symbol bytes kept = c.record.ensures ∙ ap (λ (xs : List ℕ). trade_of symbol xs kept) c.deref.ensures.value in
    ap (λ (v : KeptTradeList). slice_get v.trades c.args.index) (sym c.self.view_is)
    ∙ slice_get-map placed items c.args.index
    ∙ ap (option_map placed) (slice_get-get_or items c.args.index kept inside ∙ ap (λ (own : KeptTrade). Some own) (sym here))
    ∙ ap (λ (t : TradeRecord). Some (kept.place, t)) (sym record_is)
