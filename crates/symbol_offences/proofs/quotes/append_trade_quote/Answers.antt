use Rattle.std.proofs.Common.{◌∙◌, sym, append-nil}
use Rattle.symbol_offences.proofs.PlaceLemmas.{index-within, record-found, record-none}
use Rattle.symbol_offences.proofs.quotes.append_trade_quote.Goals as goal

pub at-requires : goal.at-requires
at-requires c = index-within (λ e. e.0) c.args.quoted.now.trades.trades c.args.place c.in-Some.index (sym c.find_place.ensures ∙ c.in-Some.is)

pub returns-in-Some : goal.returns-in-Some
returns-in-Some c =
    rw (record-found c.args.quoted.now.trades.trades c.args.place c.in-Some.index c.at.result (sym c.find_place.ensures ∙ c.in-Some.is) c.at.ensures) c.append_trade_record.ensures

pub returns-in-None : goal.returns-in-None
returns-in-None c = rw (record-none c.args.quoted.now.trades.trades c.args.place (sym c.find_place.ensures ∙ c.in-None.is)) (sym (append-nil c.args.out.now.items))
