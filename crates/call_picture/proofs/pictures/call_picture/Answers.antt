use Rattle.std.proofs.Common.{◌<◌, ◌^◌, sym, subst, ℕ, List, length}
use Rattle.audit_base.specs.declared.terms.Side.TheVariants.{Buy, Sell}
use Rattle.audit_base.specs.Deals.{AreTotals}
use Rattle.audit_base.specs.Priority.{IsRanked}
use Rattle.call_picture.specs.Merging.{AreTotalsSmall}
use Rattle.call_picture.specs.Pictures.{IsSidePicture}
use Rattle.call_picture.proofs.PictureLemmas.{picture-in-range, ranks-few, totals-small}
use Rattle.call_picture.proofs.pictures.call_picture.Goals as goal

pub side_picture-requires-clause-small : goal.side_picture-requires-clause-small
side_picture-requires-clause-small c =
    subst AreTotalsSmall (sym c.deref.ensures.value) (totals-small c.args.orders.now c.args.deals.now c.in_ok-traded.traded.items c.in_ok-traded.ensures c.deals_in_range.ensures c.requires.deal_list.fits_indices)

pub side_picture-requires-clause-fits : goal.side_picture-requires-clause-fits
side_picture-requires-clause-fits c =
    subst (λ (l : List ℕ). length l < 2 ^ 32) (sym c.deref-2.ensures.value) (ranks-few c.args.orders.now c.requires.order_list c.in_ok-ranks.ranks.bids.items c.in_ok-ranks.ranks.asks.items c.in_ok-ranks.ensures.bids c.in_ok-ranks.ensures.asks).0

pub side_picture-requires-2-clause-small : goal.side_picture-requires-2-clause-small
side_picture-requires-2-clause-small c =
    subst AreTotalsSmall (sym c.deref-3.ensures.value) (totals-small c.args.orders.now c.args.deals.now c.in_ok-traded.traded.items c.in_ok-traded.ensures c.deals_in_range.ensures c.requires.deal_list.fits_indices)

pub side_picture-requires-2-clause-fits : goal.side_picture-requires-2-clause-fits
side_picture-requires-2-clause-fits c =
    subst (λ (l : List ℕ). length l < 2 ^ 32) (sym c.deref-4.ensures.value) (ranks-few c.args.orders.now c.requires.order_list c.in_ok-ranks.ranks.bids.items c.in_ok-ranks.ranks.asks.items c.in_ok-ranks.ensures.bids c.in_ok-ranks.ensures.asks).1

pub returns-clause-in_range : goal.returns-clause-in_range
returns-clause-in_range c =
    let orders = c.args.orders.now in
    let deals = c.args.deals.now in
    let traded = c.in_ok-traded.traded.items in
    let ranks = c.in_ok-ranks.ranks in
    picture-in-range orders deals _ c.requires.order_list c.numbers_are_in_range.ensures c.requires.deal_list c.deals_in_range.ensures (record {
      bids = subst (λ (v : ℕ). IsSidePicture orders deals Buy v c.in_ok-side_picture.field-0) c.volume_of-volume.ensures (c.in_ok-side_picture.ensures deals Buy (subst (AreTotals orders deals) (sym c.deref.ensures.value) c.in_ok-traded.ensures) (subst (IsRanked orders Buy) (sym c.deref-2.ensures.value) c.in_ok-ranks.ensures.bids));
      asks = subst (λ (v : ℕ). IsSidePicture orders deals Sell v c.in_ok-side_picture-2.field-0) c.volume_of-volume.ensures (c.in_ok-side_picture-2.ensures deals Sell (subst (AreTotals orders deals) (sym c.deref-3.ensures.value) c.in_ok-traded.ensures) (subst (IsRanked orders Sell) (sym c.deref-4.ensures.value) c.in_ok-ranks.ensures.asks));
      volume_is = c.volume_of-volume.ensures;
    })
