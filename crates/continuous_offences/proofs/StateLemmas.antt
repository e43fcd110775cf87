-- The books at an order, in the words of the code, and what its record shows.
use Rattle.std.proofs.Common.{◌≡◌, ◌<◌, ℕ, suc, List, [], ◌∷◌, length, true, Option, None, Some, IfSome, option_map, refl, sym, ap, ◌∙◌, arith, inl, inr, subst, AllPairs}
use Rattle.std.specs.Prelude.{nat_le}
use Rattle.std.specs.Option.{option_or}
use Rattle.std.proofs.lemmas.List.Elements.{All-append, All-cons}
use Rattle.std.proofs.lemmas.Bool.{cases_Bool, cond-true, cond-false, cond_both}
use Rattle.audit_base.specs.declared.findings.Finding.{Finding}
use Rattle.audit_base.specs.declared.orders.Order.{Order}
use Rattle.audit_base.specs.declared.orders.Deal.{Deal}
use Rattle.audit_base.specs.declared.terms.Side.{Side}
use Rattle.audit_base.specs.declared.terms.Side.TheVariants.{Buy, Sell}
use Rattle.audit_base.specs.ContinuousOffences.{conservation_finding, resting_priority_finding, traded_shown_after}
use Rattle.audit_base.specs.Expected.{limits_meet}
use Rattle.audit_base.specs.Least.{least_answer, only_if}
use Rattle.audit_base.specs.Orders.{limit_at, order_at, other_side}
use Rattle.audit_base.specs.Priority.{better}
use Rattle.audit_base.proofs.OrderLemmas.{which_side}
use Rattle.audit_base.proofs.PriorityLemmas.{best-is}
use Rattle.call_offences.specs.DealOffences.{IsOrderOnSide}
use Rattle.call_offences.specs.Inside.{AreOffencesInside, IsOffenceInside}
use Rattle.offence_list.specs.Answers.{with_answer}
use Rattle.offence_list.specs.ContinuousLists.{crossing_finding, offence_at_place}
use Rattle.offence_list.specs.declared.offences.ListedOffence.{ListedOffence}
use Rattle.offence_list.specs.ListedOffences.{finding_of_offence}
use Rattle.order_book.specs.Books.{BookSide, IsAheadInBook, best_resting}
use Rattle.order_book.specs.declared.books.Resting.{Resting}
use Rattle.continuous_offences.specs.declared.state_after_deals.StateAfterDeals.{StateAfterDeals}
use Rattle.continuous_offences.specs.Books.{IsBookOf, from_first, waits_in_book, waits_on}
use Rattle.continuous_offences.specs.Crossing.{best_of_side, crossing_of, spread_of}
use Rattle.continuous_offences.specs.DealFacts.{IsOffenceOf}
use Rattle.continuous_offences.specs.StateAfterDeals.{IsDealt, deals_of, orders_of, place_of, shown_after}
use Rattle.continuous_offences.specs.Passing.{best_waiting, own_side, side_against}
use Rattle.continuous_offences.proofs.BookLemmas.{best-waiting, book-first, test-side}
use Rattle.continuous_offences.proofs.ScanningLemmas.{map-or, or-inside}
use Rattle.continuous_offences.proofs.CrossingLemmas.{ask-alone, ask-apart, ask-meets, bid-alone, bid-apart, bid-meets, stands}

module _ (d : StateAfterDeals) (is : IsDealt d) where
  abbrev orders : List Order
  orders = orders_of d

  abbrev deals : List Deal
  deals = deals_of d

  abbrev p : ℕ
  p = place_of d

  -- the best of a book, and the book without those in front that do not rest
  pub best-read : (side : Side) (place : ℕ) (old new : BookSide) → new ≡ record old { resting = from_first (waits_in_book d place) old.resting } → AllPairs (IsAheadInBook new.side) new.resting → old.side ≡ side
      → IsBookOf orders deals side d.order place (suc p) old.resting
      → (option_map (λ (r : Resting). r.index) (best_resting new.resting) ≡ best_waiting d side place) × (new.side ≡ side) × IsBookOf orders deals side d.order place (suc p) new.resting
  best-read side place old new made ranked old_side held =
      let side_is : new.side ≡ side = ap (λ (b : BookSide). b.side) made ∙ old_side in
      let list_is : new.resting ≡ from_first (waits_in_book d place) old.resting = ap (λ (b : BookSide). b.resting) made in
      let within = is.order in
      let first = book-first orders is.market.order_list deals side d.order place (suc p) (omega arith) (waits_in_book d place) (λ r. refl) old.resting held in
      let book : IsBookOf orders deals side d.order place (suc p) new.resting = subst (IsBookOf orders deals side d.order place (suc p)) (sym list_is) first.0 in (
        best-waiting orders is.market.order_list deals side d.order place (suc p) (omega arith) new.resting book (subst (λ (s : Side). AllPairs (IsAheadInBook s) new.resting) side_is ranked) (λ r e. first.1 r (sym (ap best_resting list_is) ∙ e)),
        side_is,
        book,
      )

  -- the best that waits is an order of its side
  pub waiting-on-side : (side : Side) (place : ℕ) (best : Option ℕ) → best ≡ best_waiting d side place → IfSome best (IsOrderOnSide orders side)
  waiting-on-side side place None e = tt
  waiting-on-side side place (Some b) e =
      let best = best-is orders (waits_on orders deals side d.order place (suc p)) b (sym e) in
      let within = is.order in
      record { inside = best.inside; of_side = test-side orders is.market.order_list deals side d.order place (suc p) (omega arith) b best.inside best.passes }

  abbrev shown : ℕ → ℕ
  shown = traded_shown_after orders deals p

  spread-inside : (side : Side) (place x y : ℕ) → x < length orders → y < length orders → IsOffenceInside orders (spread_of side place (shown_after d x) (shown_after d y))
  spread-inside Buy place x y a b = (a, b)
  spread-inside Sell place x y a b = (b, a)

  own-inside : (same : Option ℕ) → same ≡ best_waiting d (own_side d) (suc p) → best_of_side orders d.order same < length orders
  own-inside None e = is.order
  own-inside (Some b) e = cond_both (better (order_at orders b) (order_at orders d.order)) b d.order (λ x. x < length orders) (λ t. (best-is orders (waits_on orders deals (own_side d) d.order (suc p) (suc p)) b (sym e)).inside) (λ t. is.order)

  crossing-bid : (is_bid : own_side d ≡ Buy) → stands orders is.market.order_list deals d.order is.order ≡ true → (same other : Option ℕ) → same ≡ best_waiting d (own_side d) (suc p) → other ≡ best_waiting d (side_against d) (suc p)
      → IsOffenceOf orders (crossing_of d same other) (crossing_finding orders deals p)
  crossing-bid is_bid t same None same_is other_is =
      let against : best_waiting d (side_against d) (suc p) ≡ best_waiting d Sell (suc p) = ap (λ (s : Side). best_waiting d (other_side s) (suc p)) is_bid in
      record { inside = tt; same = sym (bid-alone orders is.market.order_list deals d.order is.order t is_bid (sym (other_is ∙ against))) }
  crossing-bid is_bid t same (Some o) same_is other_is =
      let against : best_waiting d (side_against d) (suc p) ≡ best_waiting d Sell (suc p) = ap (λ (s : Side). best_waiting d (other_side s) (suc p)) is_bid in
      let own : best_waiting d (own_side d) (suc p) ≡ best_waiting d Buy (suc p) = ap (λ (s : Side). best_waiting d s (suc p)) is_bid in
      let e : best_waiting d Sell (suc p) ≡ Some o = sym (other_is ∙ against) in
      let best = best_of_side orders d.order same in
      let meets = nat_le (limit_at orders o) (limit_at orders d.order) in
      let spread = spread_of Buy p (shown_after d best) (shown_after d o) in
      let made : crossing_of d same (Some o) ≡ only_if meets spread = λ i. only_if (limits_meet (is_bid i) (limit_at orders d.order) (limit_at orders o)) (spread_of (is_bid i) p (shown_after d best) (shown_after d o)) in
      elim (cases_Bool meets) [
        | inl on ↦ subst (λ (x : Option ListedOffence). IsOffenceOf orders x (crossing_finding orders deals p)) (sym (made ∙ cond-true meets (Some spread) None on)) (record {
          inside = spread-inside Buy p best o (own-inside same same_is) (best-is orders (waits_on orders deals Sell d.order (suc p) (suc p)) o e).inside;
          same = sym (bid-meets orders is.market.order_list deals d.order is.order t is_bid o e on same (same_is ∙ own));
        })
        | inr off ↦ subst (λ (x : Option ListedOffence). IsOffenceOf orders x (crossing_finding orders deals p)) (sym (made ∙ cond-false meets (Some spread) None off)) (record {
          inside = tt;
          same = sym (bid-apart orders is.market.order_list deals d.order is.order t is_bid o e off);
        })
      ]

  crossing-ask : (is_ask : own_side d ≡ Sell) → stands orders is.market.order_list deals d.order is.order ≡ true → (same other : Option ℕ) → same ≡ best_waiting d (own_side d) (suc p) → other ≡ best_waiting d (side_against d) (suc p)
      → IsOffenceOf orders (crossing_of d same other) (crossing_finding orders deals p)
  crossing-ask is_ask t same None same_is other_is =
      let against : best_waiting d (side_against d) (suc p) ≡ best_waiting d Buy (suc p) = ap (λ (s : Side). best_waiting d (other_side s) (suc p)) is_ask in
      record { inside = tt; same = sym (ask-alone orders is.market.order_list deals d.order is.order t is_ask (sym (other_is ∙ against))) }
  crossing-ask is_ask t same (Some o) same_is other_is =
      let against : best_waiting d (side_against d) (suc p) ≡ best_waiting d Buy (suc p) = ap (λ (s : Side). best_waiting d (other_side s) (suc p)) is_ask in
      let own : best_waiting d (own_side d) (suc p) ≡ best_waiting d Sell (suc p) = ap (λ (s : Side). best_waiting d s (suc p)) is_ask in
      let e : best_waiting d Buy (suc p) ≡ Some o = sym (other_is ∙ against) in
      let best = best_of_side orders d.order same in
      let meets = nat_le (limit_at orders d.order) (limit_at orders o) in
      let spread = spread_of Sell p (shown_after d best) (shown_after d o) in
      let made : crossing_of d same (Some o) ≡ only_if meets spread = λ i. only_if (limits_meet (is_ask i) (limit_at orders d.order) (limit_at orders o)) (spread_of (is_ask i) p (shown_after d best) (shown_after d o)) in
      elim (cases_Bool meets) [
        | inl on ↦ subst (λ (x : Option ListedOffence). IsOffenceOf orders x (crossing_finding orders deals p)) (sym (made ∙ cond-true meets (Some spread) None on)) (record {
          inside = spread-inside Sell p best o (own-inside same same_is) (best-is orders (waits_on orders deals Buy d.order (suc p) (suc p)) o e).inside;
          same = sym (ask-meets orders is.market.order_list deals d.order is.order t is_ask o e on same (same_is ∙ own));
        })
        | inr off ↦ subst (λ (x : Option ListedOffence). IsOffenceOf orders x (crossing_finding orders deals p)) (sym (made ∙ cond-false meets (Some spread) None off)) (record {
          inside = tt;
          same = sym (ask-apart orders is.market.order_list deals d.order is.order t is_ask o e off);
        })
      ]

  -- what the record of an active order shows
  pub crossing-is : stands orders is.market.order_list deals d.order is.order ≡ true → (same other : Option ℕ) → same ≡ best_waiting d (own_side d) (suc p) → other ≡ best_waiting d (side_against d) (suc p)
      → IsOffenceOf orders (crossing_of d same other) (crossing_finding orders deals p)
  crossing-is t same other same_is other_is = elim (which_side (own_side d)) [
    | inl buys ↦ crossing-bid buys t same other same_is other_is
    | inr sells ↦ crossing-ask sells t same other same_is other_is
  ]

-- The first of the three parts at a place.

or-none : {A : Type 0} (a : Option A) → option_or a None ≡ a
or-none None = refl
or-none (Some x) = refl

pub first-of : (orders : List Order) (a b : Option ListedOffence) (x y : Option Finding) → IsOffenceOf orders a x → IsOffenceOf orders b y → IsOffenceOf orders (option_or a b) (option_or x y)
first-of orders a b x y one two = record {
  inside = or-inside orders a b one.inside two.inside;
  same = map-or (finding_of_offence orders) a b ∙ (λ i. option_or (one.same i) (two.same i));
}

pub place-of : (orders : List Order) (deals : List Deal) (p : ℕ) (a b c : Option ListedOffence) → IsOffenceOf orders a (least_answer (conservation_finding orders deals p) (length deals)) → IsOffenceOf orders b (least_answer (resting_priority_finding orders deals p) (length deals)) → IsOffenceOf orders c (crossing_finding orders deals p)
    → IsOffenceOf orders (option_or a (option_or b c)) (offence_at_place orders deals p)
place-of orders deals p a b c one two three =
    subst (λ (x : Option Finding). IsOffenceOf orders (option_or a (option_or b c)) (option_or (least_answer (conservation_finding orders deals p) (length deals)) (option_or (least_answer (resting_priority_finding orders deals p) (length deals)) x))) (sym (or-none (crossing_finding orders deals p)))
    (first-of orders a (option_or b c) _ _ one (first-of orders b c _ _ two three))

-- The list with one offence more, where there is one.
pub inside-further : (orders : List Order) (found later : List ListedOffence) (o : Option ListedOffence) → AreOffencesInside orders found → IfSome o (IsOffenceInside orders) → later ≡ with_answer found o → AreOffencesInside orders later
inside-further orders found later None all one is = rw is all
inside-further orders found later (Some x) all one is =
    rw is (All-append (IsOffenceInside orders) found (x ∷ []) all (All-cons (IsOffenceInside orders) x [] one (λ k d lt. absurd (omega arith))))
