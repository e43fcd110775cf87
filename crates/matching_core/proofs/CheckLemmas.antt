-- What is known when the first deals have been read, and one deal further.
use Rattle.std.proofs.Common.{◌≡◌, ◌∙◌, ap, refl, ℕ, Bool, true, false, ◌+◌, ◌^◌, ◌<◌, ◌≤◌, List, [], ◌∷◌, length, take, get_or, Option, None, add-one, arith}
use Rattle.std.specs.Prelude.{All, ◌==◌, ◌&&◌, not, option_map}
use Rattle.audit_base.specs.declared.orders.Order.{Order}
use Rattle.audit_base.specs.declared.orders.Deal.{Deal}
use Rattle.audit_base.specs.declared.terms.Side.TheVariants.{Buy, Sell}
use Rattle.audit_base.specs.declared.findings.Finding.{Finding}
use Rattle.audit_base.specs.declared.flaws.TradedOrder.{TradedOrder}
use Rattle.audit_base.specs.declared.flaws.Evidence.{Evidence}
use Rattle.audit_base.specs.declared.flaws.Evidence.TheVariants.{Inactive, Limit, UniformPrice, Quantity}
use Rattle.audit_base.specs.Least.{least_answer, first_answer, only_if}
use Rattle.audit_base.specs.Orders.{order_at}
use Rattle.audit_base.specs.Deals.{traded, deal_at, deal_past_end, NamesOrders}
use Rattle.audit_base.specs.CallOffences.{is_cancelled, keeps_limits, call_inactive_finding, call_limit_finding, uniform_price_finding, bid_quantity_finding, ask_quantity_finding, matching_finding}
use Rattle.audit_base.proofs.LeastLemmas.{least-none_more}
use Rattle.audit_base.proofs.TotalsLemmas.{AreTotalsSoFar, bid-more, ask-more, after, totals-more}
use Rattle.std.specs.Bool.{OnTrue}
use Rattle.matching_core.specs.DealFlaws.{is_overfilled, matching_evidence, finding_at_deal, traded_with_deal}

-- the first k deals have been read, with no finding at any
pub record IsGoneOver (uniform : Bool) (orders : List Order) (deals : List Deal) (k : ℕ) (so_far : List ℕ) (total : ℕ) : Type 0 where
  pub totals : AreTotalsSoFar orders deals k so_far total
  pub clean : least_answer (matching_finding uniform orders deals) k ≡ None

-- the first of what is wrong, as a finding, is the first of the findings
first-made : (a b c d e g : Bool) (ia ib ic id ie ig : Evidence) (f : Evidence → Finding)
    → option_map f (first_answer (only_if a ia ∷ only_if b ib ∷ only_if c ic ∷ only_if d id ∷ only_if e ie ∷ only_if g ig ∷ []))
    ≡ first_answer (first_answer (only_if a (f ia) ∷ only_if b (f ib) ∷ []) ∷ only_if c (f ic) ∷ only_if d (f id) ∷ only_if e (f ie) ∷ only_if g (f ig) ∷ [])
first-made true b c d e g ia ib ic id ie ig f = refl
first-made false true c d e g ia ib ic id ie ig f = refl
first-made false false true d e g ia ib ic id ie ig f = refl
first-made false false false true e g ia ib ic id ie ig f = refl
first-made false false false false true g ia ib ic id ie ig f = refl
first-made false false false false false true ia ib ic id ie ig f = refl
first-made false false false false false false ia ib ic id ie ig f = refl

-- the finding at a deal, by what its orders trade up to it
abbrev pub finding_by : Bool → List Order → Deal → Deal → ℕ → ℕ → Option Finding
finding_by uniform orders d first bid_traded ask_traded =
    option_map (finding_at_deal orders d) (matching_evidence uniform orders d first bid_traded ask_traded)

-- the finding at the deal at k is that of what its orders trade up to it
pub finding-is : (uniform : Bool) (orders : List Order) (deals : List Deal) (k : ℕ) → finding_by uniform orders (deal_at deals k) (deal_at deals 0) (traded (take (k + 1) deals) (deal_at deals k).bid) (traded (take (k + 1) deals) (deal_at deals k).ask) ≡ matching_finding uniform orders deals k
unfolding call_inactive_finding call_limit_finding uniform_price_finding bid_quantity_finding ask_quantity_finding
finding-is uniform orders deals k =
    let d = deal_at deals k in
    let bid : TradedOrder = record { index = d.bid; traded = traded (take (k + 1) deals) d.bid } in
    let ask : TradedOrder = record { index = d.ask; traded = traded (take (k + 1) deals) d.ask } in
    first-made (is_cancelled orders d.bid) (is_cancelled orders d.ask) (not (keeps_limits orders d)) (uniform && not (d.price == (deal_at deals 0).price)) (is_overfilled (order_at orders d.bid) bid.traded) (is_overfilled (order_at orders d.ask) ask.traded)
    (Inactive bid) (Inactive ask) (Limit bid ask) (UniformPrice (deal_at deals 0).place) (Quantity Buy bid) (Quantity Sell ask) (finding_at_deal orders d)

-- one deal further, which names orders
module _ (orders : List Order) (deals : List Deal) (k : ℕ) (lt : k < length deals) (named : NamesOrders orders (deal_at deals k)) (uniform : Bool) (so_far : List ℕ) (total quantity : ℕ) (is : IsGoneOver uniform orders deals k so_far total) (same : quantity ≡ (deal_at deals k).quantity) (most : quantity ≤ 10 ^ 12) where
  pub gone_more : matching_finding uniform orders deals k ≡ None → IsGoneOver uniform orders deals (k + 1) (after orders deals k lt named so_far total quantity is.totals same most) (total + quantity)
  gone_more none = record {
    totals = totals-more orders deals k lt named so_far total quantity is.totals same most;
    clean = rw add-one (least-none_more (matching_finding uniform orders deals) k is.clean none);
  }

  -- the finding that is looked for at the deal
  pub finding_here : finding_by uniform orders (deal_at deals k) (deal_at deals 0) (get_or so_far (deal_at deals k).bid 0 + quantity) (get_or so_far (deal_at deals k).ask 0 + quantity) ≡ matching_finding uniform orders deals k
  finding_here =
      let b : get_or so_far (deal_at deals k).bid 0 + quantity ≡ traded (take (k + 1) deals) (deal_at deals k).bid = omega (arith, bid-more orders deals k lt named, is.totals.totals.each (deal_at deals k).bid named.bid_inside, same) in
      let a : get_or so_far (deal_at deals k).ask 0 + quantity ≡ traded (take (k + 1) deals) (deal_at deals k).ask = omega (arith, ask-more orders deals k lt named, is.totals.totals.each (deal_at deals k).ask named.ask_inside, same) in
      (λ i. finding_by uniform orders (deal_at deals k) (deal_at deals 0) (b i) (a i)) ∙ finding-is uniform orders deals k

-- the same, in the words of the code: the deal and the first deal that it reads
module _ (uniform : Bool) (orders : List Order) (deals : List Deal) (k : ℕ) (lt : k < length deals) (all_named : All (NamesOrders orders) deals) (d : Deal) (d_is : d ≡ deal_at deals k) (so_far : List ℕ) (total quantity : ℕ) (is : IsGoneOver uniform orders deals k so_far total) (same : quantity ≡ d.quantity) (most : quantity ≤ 10 ^ 12) where
  named_here : NamesOrders orders (deal_at deals k)
  named_here = all_named k deal_past_end lt

  same_here : quantity ≡ (deal_at deals k).quantity
  same_here = same ∙ ap (λ (x : Deal). x.quantity) d_is

  pub finding_read : (first : Deal) (bid_traded ask_traded : ℕ) → first ≡ deal_at deals 0 → bid_traded ≡ get_or so_far d.bid 0 + quantity → ask_traded ≡ get_or so_far d.ask 0 + quantity
      → finding_by uniform orders d first bid_traded ask_traded ≡ matching_finding uniform orders deals k
  finding_read first bid_traded ask_traded f_is bt_is at_is =
      let bt : bid_traded ≡ get_or so_far (deal_at deals k).bid 0 + quantity = bt_is ∙ ap (λ (x : Deal). get_or so_far x.bid 0 + quantity) d_is in
      let at : ask_traded ≡ get_or so_far (deal_at deals k).ask 0 + quantity = at_is ∙ ap (λ (x : Deal). get_or so_far x.ask 0 + quantity) d_is in
      (λ i. finding_by uniform orders (d_is i) (f_is i) (bt i) (at i)) ∙ finding_here orders deals k lt named_here uniform so_far total quantity is same_here most

  pub gone_further : (later : List ℕ) → later ≡ traded_with_deal so_far d.bid d.ask quantity → matching_finding uniform orders deals k ≡ None → IsGoneOver uniform orders deals (k + 1) later (total + quantity)
  gone_further later later_is none =
      let l : later ≡ after orders deals k lt named_here so_far total quantity is.totals same_here most = later_is ∙ ap (λ (x : Deal). traded_with_deal so_far x.bid x.ask quantity) d_is in
      rw l (gone_more orders deals k lt named_here uniform so_far total quantity is same_here most none)

pub on_true : {P : Type 0} (b : Bool) → (b ≡ true → P) → OnTrue b P
on_true true h = h refl
on_true false h = tt

pub true_on : {P : Type 0} (b : Bool) → b ≡ true → OnTrue b P → P
true_on true is h = h
true_on false is h = absurd (cc is)
