-- The numbers that a flaw shows, and the orders that it names.
use Rattle.std.proofs.Common.{◌≡◌, ◌<◌, ◌≤◌, ◌+◌, ℕ, List, length, Option, None, Some, IfSome, arith, inl, inr}
use Rattle.std.proofs.lemmas.Bool.{cases_lt}
use Rattle.audit_base.specs.declared.terms.Side.{Side}
use Rattle.audit_base.specs.declared.terms.Side.TheVariants.{Buy, Sell}
use Rattle.audit_base.specs.declared.orders.Order.{Order}
use Rattle.audit_base.specs.declared.orders.Deal.{Deal}
use Rattle.audit_base.specs.declared.flaws.TradedOrder.{TradedOrder}
use Rattle.audit_base.specs.declared.flaws.Evidence.TheVariants.{Priority}
use Rattle.audit_base.specs.declared.flaws.Flaw.{Flaw}
use Rattle.audit_base.specs.Orders.{place_at, side_at, IsOrderList}
use Rattle.audit_base.specs.Deals.{deal_at, deal_past_end, IsDealList}
use Rattle.audit_base.specs.Continuous.{cause, resting_order}
use Rattle.audit_base.specs.ContinuousOffences.{traded_shown_after}
use Rattle.audit_base.specs.Flaws.{IsEvidenceInside}
use Rattle.audit_base.proofs.OrderLemmas.{place-rises}
use Rattle.continuous_audit.specs.declared.indexed_deals.IndexedDeals.{IndexedDeals}
use Rattle.continuous_audit.specs.declared.dealing_state.DealingState.{DealingState}
use Rattle.continuous_audit.specs.Flaws.{HasShownNumber, IsFindingOfFlaw, IsFlawAt, priority_flaw, shown_number, spread_evidence, spread_flaw}
use Rattle.continuous_audit.specs.IndexedDeals.{IsConserved}
use Rattle.continuous_audit.specs.Progress.{HasDealt}
use Rattle.continuous_audit.specs.Records.{conservation_at, priority_at}
use Rattle.continuous_audit.proofs.RecordLemmas.{conservation-shown, priority-shown}

-- A deal of a record names orders up to that of the record.

pub record IsDealUpto (deals : List Deal) (n k : ℕ) : Type 0 where
  pub inside : k < length deals
  pub bid_upto : (deal_at deals k).bid ≤ n
  pub ask_upto : (deal_at deals k).ask ≤ n

pub upto-n : (orders : List Order) (list : IsOrderList orders) (n : ℕ) → n < length orders → (x : ℕ) → x < length orders → place_at orders x ≤ place_at orders n → x ≤ n
upto-n orders list n n_inside x inside le = elim (cases_lt n x) [ inr ok ↦ ok | inl more ↦ let up = place-rises orders list n x more inside in absurd (omega arith) ]

pub deal-upto : (orders : List Order) (list : IsOrderList orders) (deals : List Deal) (deal_list : IsDealList orders deals) (n : ℕ) → n < length orders → (k : ℕ) → k < length deals → cause orders (deal_at deals k) ≡ place_at orders n → IsDealUpto deals n k
deal-upto orders list deals deal_list n n_inside k inside here =
    let named = deal_list.named k deal_past_end inside in
    record {
      inside = inside;
      bid_upto = upto-n orders list n n_inside (deal_at deals k).bid named.bid_inside (omega (arith, here));
      ask_upto = upto-n orders list n n_inside (deal_at deals k).ask named.ask_inside (omega (arith, here));
    }

-- what is shown with the orders up to that of a record, once its deals are added
module _ (m : IndexedDeals) (n : ℕ) (n_inside : n < length m.orders.now) (numbers : DealingState) (dealt : HasDealt m n numbers) where
  abbrev after : ℕ → ℕ
  after = traded_shown_after m.orders.now m.deals.now (place_at m.orders.now n)

  pub shown-there : (x : ℕ) → x ≤ n → HasShownNumber numbers x
  shown-there x le =
      let traded = dealt.traded.small in
      let chain_traded = dealt.known.chain_traded in
      record {
        traded_inside = let c = traded.count in omega arith;
        chain_traded_inside = let c = chain_traded.count in omega arith;
        fits = let t = traded.most x (omega arith) in let b = chain_traded.fits x in omega arith;
      }

  shown-is : (x : ℕ) → x ≤ n → shown_number numbers x ≡ after x
  shown-is x le = λ i. dealt.traded.is x (omega arith) i + dealt.known.chain_traded.is x (omega arith) i

  -- so a flaw that is made of them is that of the definition
  pub priority-after : (d : Deal) (over : ℕ) → over ≤ n → resting_order m.orders.now d ≤ n → priority_flaw m.orders.now (shown_number numbers) d over ≡ priority_flaw m.orders.now after d over
  priority-after d over over_le rest_le = λ i. record {
    place = d.place;
    evidence = Priority (side_at m.orders.now (resting_order m.orders.now d)) (record { index = over; traded = shown-is over over_le i }) (record { index = resting_order m.orders.now d; traded = shown-is (resting_order m.orders.now d) rest_le i });
  }

  pub spread-after : (other : ℕ) → other ≤ n → spread_flaw m.orders.now (shown_number numbers) n other ≡ spread_flaw m.orders.now after n other
  spread-after other le = λ i. record {
    place = place_at m.orders.now n;
    evidence = spread_evidence (side_at m.orders.now n) (record { index = n; traded = shown-is n (omega arith) i }) (record { index = other; traded = shown-is other le i });
  }

-- the orders of two that meet are in the list
pub spread-inside : (orders : List Order) (side : Side) (own other : TradedOrder) → own.index < length orders → other.index < length orders → IsEvidenceInside orders (spread_evidence side own other)
spread-inside orders Buy own other own_inside other_inside = (own_inside, other_inside)
spread-inside orders Sell own other own_inside other_inside = (other_inside, own_inside)

-- the first part of the finding at a place, and the second where the first is none
module _ (m : IndexedDeals) (n : ℕ) where
  pub conservation-flaw : (flaw : Flaw) → IsFindingOfFlaw m.orders.now (Some flaw) (conservation_at m.orders.now m.deals.now n) → IsFlawAt m n flaw
  conservation-flaw flaw is = record { inside = is.inside; same = conservation-shown m.orders.now m.deals.now (place_at m.orders.now n) _ is.same }

  pub priority-flaw : IsConserved m n → (flaw : Option Flaw) → IsFindingOfFlaw m.orders.now flaw (priority_at m.orders.now m.deals.now n) → IfSome flaw (IsFlawAt m n)
  priority-flaw conserved None is = tt
  priority-flaw conserved (Some flaw) is = record { inside = is.inside; same = priority-shown m.orders.now m.deals.now (place_at m.orders.now n) _ conserved is.same }
