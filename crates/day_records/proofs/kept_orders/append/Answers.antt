use Rattle.std.proofs.Common.{◌≡◌, ◌∙◌, ◌∷◌, ◌++◌, [], ℕ, List, length, ap}
use Rattle.audit_base.specs.Histories.{symbol_of}
use Rattle.day_records.specs.declared.kept_orders.KeptOrder.{KeptOrder}
use Rattle.day_records.specs.KeptOrders.{entries_of, kept_order, names_of}
use Rattle.day_records.proofs.KeptLemmas.{entries-push}
use Rattle.day_records.proofs.kept_orders.append.Goals as goal

pub returns-clause-adds : goal.returns-clause-adds
returns-clause-adds c =
    let bytes = c.args.bytes.now.items in
    let orders = c.args.orders.now.items in
    let entry = c.args.entry.now in
    let own : c.kept_order-own.result ≡ kept_order entry (length bytes) c.args.place =
    c.kept_order-own.ensures ∙ ap (λ (n : ℕ). kept_order entry n c.args.place) (c.in_ok-kept_start.ensures ∙ ap (λ (xs : List ℕ). length xs) c.as_slice.ensures.value) in
    (λ i. entries_of (symbol_of entry) (c.in_ok-put_names.ensures.adds i) (c.in_ok-push.ensures.items i))
    ∙ ap (λ (kept : KeptOrder). entries_of (symbol_of entry) (bytes ++ names_of entry) (orders ++ kept ∷ [])) own
    ∙ entries-push bytes orders entry c.args.place c.requires c.have_names.ensures
