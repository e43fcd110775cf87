-- Of what kind the findings of each part are.
use Rattle.std.proofs.Common.{◌≡◌, refl, sym, subst, ℕ, zero, suc, Bool, true, false, cond, List, length, take, ◌+◌, Option, None, Some}
use Rattle.std.specs.Prelude.{◌==◌, ◌&&◌, not, nat_lt}
use Rattle.std.specs.Option.{option_or}
use Rattle.audit_base.specs.declared.terms.Side.{Side}
use Rattle.audit_base.specs.declared.terms.Side.TheVariants.{Buy, Sell}
use Rattle.audit_base.specs.declared.terms.VolumeRule.{VolumeRule}
use Rattle.audit_base.specs.declared.orders.Order.{Order}
use Rattle.audit_base.specs.declared.orders.Deal.{Deal}
use Rattle.audit_base.specs.declared.findings.Property.{Property}
use Rattle.audit_base.specs.declared.findings.Property.TheVariants as property
use Rattle.audit_base.specs.declared.terms.Which.TheVariants as which
use Rattle.audit_base.specs.declared.findings.Finding.{Finding}
use Rattle.audit_base.specs.Least.{least_answer, any_below, only_if}
use Rattle.audit_base.specs.Priority.{best_order}
use Rattle.audit_base.specs.Orders.{side_at, quantity_at}
use Rattle.audit_base.specs.Deals.{deal_at, traded}
use Rattle.audit_base.specs.Shows.{finding_at_trade, finding_at_record, show_order, show_place, show_if_found, priority_property}
use Rattle.audit_base.specs.CallOffences.{is_cancelled, keeps_limits, is_outranked_by_short, best_short, matching_finding, call_inactive_finding, call_limit_finding, uniform_price_finding, bid_quantity_finding, ask_quantity_finding, bid_priority_finding, ask_priority_finding, IsVolumeOffence}
use Rattle.audit_base.specs.Continuous.{resting_order, incoming_order, cause, rests_before, has_entered, size_of_order}
use Rattle.audit_base.specs.ContinuousOffences.{traded_upto, traded_shown_upto, traded_shown_after, waits_ahead, active_after_on_side, active_orders_meet, continuous_inactive_finding, continuous_limit_finding, size_finding, conservation_finding, resting_priority_finding, spread_finding, finding_at_place}
use Rattle.offence_list.specs.declared.kinds.OffenceKind.{OffenceKind}
use Rattle.offence_list.specs.declared.kinds.OffenceKind.TheVariants.{Alone, OfDeal, OfPriority, OfBook}
use Rattle.offence_list.specs.CallLists.{priority_finding}
use Rattle.offence_list.specs.ContinuousLists.{continuous_offences}
use Rattle.offence_list.specs.Offences.{offence_kind, continuous_offences_of}

-- what holds of the answer, if there is one
pub record Told {A : Type 0} (P : A → Type 0) (o : Option A) : Type 0 where
  pub told : (x : A) → o ≡ Some x → P x

-- what holds of each answer holds of the first
module _ {A : Type 0} (P : A → Type 0) where
  told-none : Told P None
  told-none = record { told = λ x e. absurd (cc) }

  told-some : (x : A) → P x → Told P (Some x)
  told-some x p = record { told = λ y e. let same : x ≡ y = cc in subst P same p }

  holds-only : (b : Bool) (x : A) → P x → Told P (only_if b x)
  holds-only true x p = told-some x p
  holds-only false x p = told-none

  holds-or : (o p : Option A) → Told P o → Told P p → Told P (option_or o p)
  holds-or None p a b = b
  holds-or (Some x) p a b = a

  pub holds-least : (f : ℕ → Option A) (n : ℕ) → ((k : ℕ) → Told P (f k)) → Told P (least_answer f n)
  holds-least f zero h = told-none
  holds-least f (suc n) h = holds-or (least_answer f n) (f n) (holds-least f n h) (h n)

abbrev pub IsOfKind : OffenceKind → Finding → Type 0
IsOfKind kind f = offence_kind f.property ≡ kind

pub matching-kind : (uniform : Bool) (orders : List Order) (deals : List Deal) (k : ℕ) → Told (IsOfKind OfDeal) (matching_finding uniform orders deals k)
unfolding call_inactive_finding call_limit_finding uniform_price_finding bid_quantity_finding ask_quantity_finding
matching-kind uniform orders deals k =
    let K = IsOfKind OfDeal in
    let d = deal_at deals k in
    let upto = traded (take (k + 1) deals) in
    let over = λ (broken : Property) (order : ℕ). finding_at_trade broken d (show_order orders upto order) None in
    holds-or K _ _ (holds-or K _ _ (holds-only K (is_cancelled orders d.bid) (over property.Inactive d.bid) refl)
    (holds-or K _ _ (holds-only K (is_cancelled orders d.ask) (over property.Inactive d.ask) refl) (told-none K)))
    (holds-or K _ _ (holds-only K (not (keeps_limits orders d)) (finding_at_trade property.Limit d (show_order orders upto d.bid) (show_order orders upto d.ask)) refl)
    (holds-or K _ _ (holds-only K (uniform && not (d.price == (deal_at deals 0).price)) (finding_at_trade property.UniformPrice d (show_place which.Trades (deal_at deals 0).place) None) refl)
    (holds-or K _ _ (holds-only K (nat_lt (quantity_at orders d.bid) (upto d.bid)) (over property.BuyQuantity d.bid) refl)
    (holds-or K _ _ (holds-only K (nat_lt (quantity_at orders d.ask) (upto d.ask)) (over property.SellQuantity d.ask) refl) (told-none K)))))

pub priority-kind : (orders : List Order) (deals : List Deal) (k : ℕ) → Told (IsOfKind OfPriority) (priority_finding orders deals k)
unfolding bid_priority_finding ask_priority_finding
priority-kind orders deals k =
    let K = IsOfKind OfPriority in
    let d = deal_at deals k in
    let shown = λ (broken : Property) (side : Side) (order : ℕ). finding_at_trade broken d (show_if_found orders (traded deals) (best_short orders deals side)) (show_order orders (traded deals) order) in
    holds-or K _ _ (holds-only K (is_outranked_by_short orders deals Buy d.bid) (shown property.BuyPriority Buy d.bid) refl)
    (holds-only K (is_outranked_by_short orders deals Sell d.ask) (shown property.SellPriority Sell d.ask) refl)

pub volume-kind : (r : VolumeRule) (orders : List Order) (deals : List Deal) (count : ℕ) (f : Finding) → IsVolumeOffence r orders deals count f → IsOfKind Alone f
volume-kind r orders deals count f o = subst (IsOfKind Alone) (sym o.shows) refl

abbrev pub is-alone : OffenceKind → Bool
is-alone Alone = true
is-alone OfDeal = false
is-alone OfPriority = false
is-alone OfBook = false

-- the findings of continuous trading stand with all its offences
abbrev pub IsNotAlone : Finding → Type 0
IsNotAlone f = is-alone (offence_kind f.property) ≡ false

pub with-all : (orders : List Order) (deals : List Deal) (f : Finding) → IsNotAlone f → continuous_offences_of (offence_kind f.property) orders deals f ≡ continuous_offences orders deals
with-all orders deals f = by (offence_kind f.property)
  where
    by : (kind : OffenceKind) → is-alone kind ≡ false → continuous_offences_of kind orders deals f ≡ continuous_offences orders deals
    by Alone e = cc
    by OfDeal e = refl
    by OfPriority e = refl
    by OfBook e = refl

module _ (orders : List Order) (deals : List Deal) where
  conservation-kind : (i k : ℕ) → Told IsNotAlone (conservation_finding orders deals i k)
  unfolding continuous_inactive_finding continuous_limit_finding size_finding
  conservation-kind i k =
      let K = IsNotAlone in
      let d = deal_at deals k in
      let upto = traded_shown_upto orders deals i k in
      let over = λ (broken : Property) (order : ℕ). finding_at_trade broken d (show_order orders upto order) None in
      where_caused (cause orders d == i) _
      (holds-or K _ _ (holds-or K _ _ (holds-only K (not (rests_before orders deals i (resting_order orders d))) (over property.Inactive (resting_order orders d)) refl)
      (holds-or K _ _ (holds-only K (not (has_entered orders deals (incoming_order orders d))) (over property.Inactive (incoming_order orders d)) refl) (told-none K)))
      (holds-or K _ _ (holds-only K (not (keeps_limits orders d)) (finding_at_trade property.Limit d (show_order orders upto d.bid) (show_order orders upto d.ask)) refl)
      (holds-or K _ _ (holds-only K (nat_lt (size_of_order orders deals d.bid) (traded_upto orders deals i k d.bid)) (over property.BuyQuantity d.bid) refl)
      (holds-or K _ _ (holds-only K (nat_lt (size_of_order orders deals d.ask) (traded_upto orders deals i k d.ask)) (over property.SellQuantity d.ask) refl) (told-none K)))))
    where
      where_caused : (b : Bool) (o : Option Finding) → Told IsNotAlone o → Told IsNotAlone (cond b o None)
      where_caused true o h = h
      where_caused false o h = told-none IsNotAlone

  resting-kind : (i k : ℕ) → Told IsNotAlone (resting_priority_finding orders deals i k)
  unfolding resting_priority_finding
  resting-kind i k =
      let d = deal_at deals k in
      let resting = resting_order orders d in
      let shown = traded_shown_after orders deals i in
      holds-only IsNotAlone ((cause orders d == i) && any_below (waits_ahead orders deals i resting) (length orders))
      (finding_at_trade (priority_property (side_at orders resting)) d (show_if_found orders shown (best_order orders (waits_ahead orders deals i resting))) (show_order orders shown resting))
      (of_side (side_at orders resting))
    where
      of_side : (side : Side) → is-alone (offence_kind (priority_property side)) ≡ false
      of_side Buy = refl
      of_side Sell = refl

  spread-kind : (i : ℕ) → Told IsNotAlone (spread_finding orders deals i)
  unfolding spread_finding
  spread-kind i =
      let best = λ (side : Side). show_if_found orders (traded_shown_after orders deals i) (best_order orders (active_after_on_side orders deals i side)) in
      holds-only IsNotAlone (active_orders_meet orders deals i) (finding_at_record property.Spread which.Orders i (best Buy) (best Sell)) refl

  pub place-kind : (i : ℕ) → Told IsNotAlone (finding_at_place orders deals i)
  place-kind i = holds-or IsNotAlone _ _ (holds-least IsNotAlone _ (length deals) (conservation-kind i))
      (holds-or IsNotAlone _ _ (holds-least IsNotAlone _ (length deals) (resting-kind i)) (holds-or IsNotAlone _ _ (spread-kind i) (told-none IsNotAlone)))
