use Rattle.order_arrivals.proofs.ArrivalLemmas.{market-read}
use Rattle.continuous_picture.proofs.PictureLemmas.{sizes-known}
use Rattle.continuous_picture.proofs.pictures.continuous_picture.Goals as goal

pub arrivals_of-requires : goal.arrivals_of-requires
arrivals_of-requires c = market-read _ _ c.requires.order_list c.requires.deal_list c.deref.ensures.value c.in_ok-incoming_deals.ensures

pub columns_of-requires-clause-market : goal.columns_of-requires-clause-market
columns_of-requires-clause-market c = market-read _ _ c.requires.order_list c.requires.deal_list c.deref.ensures.value c.in_ok-incoming_deals.ensures

pub columns_of-requires-clause-sizes : goal.columns_of-requires-clause-sizes
columns_of-requires-clause-sizes c = sizes-known _ _ _ c.in_ok-arrivals.ensures _ c.deref-2.ensures.value

pub book_if_asked-requires-clause-market : goal.book_if_asked-requires-clause-market
book_if_asked-requires-clause-market c = market-read _ _ c.requires.order_list c.requires.deal_list c.deref.ensures.value c.in_ok-incoming_deals.ensures
