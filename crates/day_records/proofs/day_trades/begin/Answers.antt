use Rattle.std.proofs.Common.{◌≡◌, ◌++◌, ◌∷◌, [], List, ap, subst, ◌∙◌, sym}
use Rattle.std.proofs.lemmas.List.{append_assoc}
use Rattle.day_records.specs.KeptOrders.{KeptEntries}
use Rattle.day_records.specs.declared.kept_records.KeptRecords.{KeptRecords}
use Rattle.day_records.specs.DayTrades.{AreBegun}
use Rattle.day_records.proofs.DayTradesLemmas.{begun-more}
use Rattle.day_records.proofs.day_trades.begin.Goals as goal

pub loop-symbol_orders-preserved : goal.loop-symbol_orders-preserved
loop-symbol_orders-preserved c =
    let rest : c.loop-symbol_orders.symbol_orders-iterator.rest.items ≡ c.in-Some.symbol_orders ∷ c.next.new.self.rest.items = c.in-Some.ensures.steps.0 in (
      append_assoc c.loop-symbol_orders.yielded (c.in-Some.symbol_orders ∷ []) c.next.new.self.rest.items
          ∙ ap (λ (xs : List KeptEntries). c.loop-symbol_orders.yielded ++ xs) (sym rest)
          ∙ c.loop-symbol_orders.invariant.0,
      subst (λ (kept : List KeptRecords). AreBegun (c.loop-symbol_orders.yielded ++ c.in-Some.symbol_orders ∷ []) kept) (sym {A = List KeptRecords} c.in_ok-push.ensures.items)
          (begun-more c.loop-symbol_orders.yielded c.loop-symbol_orders.kept.items c.in-Some.symbol_orders c.of.result c.loop-symbol_orders.invariant.1 c.of.ensures),
    )
