use Rattle.std.proofs.Common.{◌≡◌, ◌∙◌, ap, ℕ, length}
use Rattle.std.specs.Prelude.{replicate}
use Rattle.order_arrivals.proofs.ArrivalLemmas.{traded-first}
use Rattle.continuous_offences.proofs.EnterLemmas.{books-none}
use Rattle.continuous_offences.proofs.state.ListingState.new.Goals as goal

pub returns : goal.returns
returns c =
    let m = c.args.market.now in
    let count : c.len-count.result ≡ length m.orders.now = c.len-count.ensures in
    record {
      before = traded-first m _ _ c.in_ok-new.ensures.added (c.in_ok-new.ensures.traded ∙ ap (λ (n : ℕ). replicate n 0) count);
      after = traded-first m _ _ c.in_ok-new-2.ensures.added (c.in_ok-new-2.ensures.traded ∙ ap (λ (n : ℕ). replicate n 0) count);
      books = λ place above. books-none m.orders.now m.deals.now place place _ c.new-3.ensures.bids c.new-3.ensures.asks;
    }
