use Rattle.std.proofs.Common.{◌≡◌, ◌-◌, ◌++◌, ◌∷◌, [], List, sym, subst}
use Rattle.std.specs.Prelude.{min}
use Rattle.unit_pairs.specs.declared.meeting.UnitPair.{UnitPair}
use Rattle.unit_pairs.specs.Lots.{lot_at}
use Rattle.unit_pairs.proofs.MeetLemmas.{HaveMet, pair_of, one-met, nearer}
use Rattle.unit_pairs.proofs.meeting.meet.Goals as goal

pub loop-bid_progress-smaller : goal.loop-bid_progress-smaller
loop-bid_progress-smaller c =
    let l = c.loop-bid_progress in
    let is : c.min-quantity.result ≡ min ((lot_at c.args.bids.now l.bid_progress.lot).quantity - l.bid_progress.met) ((lot_at c.args.asks.now l.ask_progress.lot).quantity - l.ask_progress.met) =
    rw (← c.left_at.ensures, ← c.left_at-in-loop-bid_progress.ensures) c.min-quantity.ensures in
    nearer c.args.bids.now c.args.asks.now l.bid_progress l.ask_progress c.progress_after-bid_progress.result c.min-quantity.result l.pairs.items c.loop-bid_progress-test.true c.if-ask_progress-asks.true
    l.invariant is c.progress_after-bid_progress.ensures.met

pub loop-bid_progress-preserved : goal.loop-bid_progress-preserved
loop-bid_progress-preserved c =
    let l = c.loop-bid_progress in
    let bids = c.args.bids.now in
    let asks = c.args.asks.now in
    let quantity = c.min-quantity.result in
    let is : quantity ≡ min ((lot_at bids l.bid_progress.lot).quantity - l.bid_progress.met) ((lot_at asks l.ask_progress.lot).quantity - l.ask_progress.met) =
    rw (← c.left_at.ensures, ← c.left_at-in-loop-bid_progress.ensures) c.min-quantity.ensures in
    let items : c.push.new.self.items ≡ l.pairs.items ++ pair_of bids asks l.bid_progress l.ask_progress quantity ∷ [] = c.in_ok-push.ensures.items in
    subst (λ (pairs : List UnitPair). HaveMet bids asks c.progress_after-bid_progress.result c.progress_after-ask_progress.result pairs) (sym items)
    (one-met bids asks l.bid_progress l.ask_progress c.progress_after-bid_progress.result c.progress_after-ask_progress.result quantity l.pairs.items c.requires.bids_are c.requires.asks_are c.loop-bid_progress-test.true c.if-ask_progress-asks.true
    l.invariant is c.progress_after-bid_progress.ensures.progress c.progress_after-bid_progress.ensures.met c.progress_after-ask_progress.ensures.progress c.progress_after-ask_progress.ensures.met)
