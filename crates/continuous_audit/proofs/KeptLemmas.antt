-- What the chain of an order has traded, from what its target has and what the target's chain had.
use Rattle.std.proofs.Common.{◌≡◌, ◌<◌, ◌≤◌, ◌+◌, ℕ, zero, suc, List, length, Bool, true, cond, Option, None, Some, refl, sym, ap, ◌∙◌, arith, inl, inr, subst, sum_by, All, get_or}
use Rattle.std.specs.Prelude.{◌==◌, ◌&&◌, nat_lt}
use Rattle.std.proofs.lemmas.Bool.{cases_Bool, cases_lt, eqb-true, and_left, lt-ltb, le-ltb, leb-true, le-leb, or_cases, cond-true, cond-false}
use Rattle.std.proofs.lemmas.List.Elements.{All-nil, All-cons, All-weaker}
use Rattle.audit_base.specs.declared.orders.Order.{Order}
use Rattle.audit_base.specs.declared.orders.Deal.{Deal}
use Rattle.audit_base.specs.declared.terms.Side.{Side}
use Rattle.audit_base.specs.declared.terms.Side.TheVariants.{Buy, Sell}
use Rattle.audit_base.specs.Orders.{order_at, place_at, side_at, other_side, IsOrderList}
use Rattle.audit_base.specs.Deals.{names_order, NamesOrders, number_at}
use Rattle.audit_base.specs.Continuous.{cause, chain, chain_within, chain_traded_in_ledger, resting_order, traded_before, chain_traded_quantity, rests_before_in_ledger, uncancelled_before}
use Rattle.audit_base.specs.ContinuousRules.{ConformsAt}
use Rattle.audit_base.proofs.SumLemmas.{sum_by-same}
use Rattle.audit_base.proofs.OrderLemmas.{place-rises}
use Rattle.audit_base.proofs.ContinuousLemmas.{target-below, chain-none, chain-some, before-is, before-some}
use Rattle.continuous_audit.specs.Chains.{HasChainEnded, ends_by}
use Rattle.continuous_laws.proofs.StepLemmas.{rests-parts}
use Rattle.continuous_audit.proofs.RecordLemmas.{ends}

-- the target that the code reads
pub target-read : (orders : List Order) (n t : ℕ) (o : Order) (target : Option ℕ) → o ≡ order_at orders n → target ≡ o.target → target ≡ Some t → (order_at orders n).target ≡ Some t
target-read orders n t o target is same e = sym (same ∙ ap (λ (x : Order). x.target) is) ∙ e

pub none-read : (orders : List Order) (n : ℕ) (o : Order) (target : Option ℕ) → o ≡ order_at orders n → target ≡ o.target → target ≡ None → (order_at orders n).target ≡ None
none-read orders n o target is same e = sym (same ∙ ap (λ (x : Order). x.target) is) ∙ e

pub ends-read : (orders : List Order) (n t : ℕ) (own replaced : Order) (cancelled : Option ℕ) (place : ℕ) (r : Bool) → own ≡ order_at orders n → replaced ≡ order_at orders t → cancelled ≡ replaced.cancelled → place ≡ own.place
    → r ≡ ends_by cancelled place → r ≡ true → ends_by (order_at orders t).cancelled (place_at orders n) ≡ true
ends-read orders n t own replaced cancelled place r own_is replaced_is cancelled_is place_is is on =
    let end : cancelled ≡ (order_at orders t).cancelled = cancelled_is ∙ ap (λ (x : Order). x.cancelled) replaced_is in
    let at : place ≡ place_at orders n = place_is ∙ ap (λ (x : Order). x.place) own_is in
    sym (λ i. ends_by (end i) (at i)) ∙ sym is ∙ on

-- ended up to p, and by no record below c: then c is at most p
ended-late : (x : Option ℕ) (p c : ℕ) → ends_by x p ≡ true → uncancelled_before x c ≡ true → c ≤ p
ended-late None p c e u = absurd (cc)
ended-late (Some end) p c e u = let a = leb-true end p e in let b = leb-true c end u in omega arith

ended-later : (x : Option ℕ) (p q : ℕ) → p ≤ q → ends_by x p ≡ true → ends_by x q ≡ true
ended-later None p q le e = e
ended-later (Some end) p q le e = let a = leb-true end p e in le-leb end q (omega arith)

own-side : (s : Side) → s ≡ other_side s → ⊥
own-side Buy e = absurd (cc)
own-side Sell e = absurd (cc)

module _ (orders : List Order) (list : IsOrderList orders) where
  -- the orders of a chain are earlier in the list, and of the side
  abbrev IsAheadOf : ℕ → ℕ → Type 0
  IsAheadOf x u = (u < x) × (side_at orders u ≡ side_at orders x)

  chain-ahead-within : (m x : ℕ) (target : Option ℕ) → x < length orders → ((t : ℕ) → target ≡ Some t → IsAheadOf x t) → All (IsAheadOf x) (chain_within m orders target)
  chain-ahead-within zero x target inside h = All-nil (IsAheadOf x)
  chain-ahead-within (suc m) x None inside h = All-nil (IsAheadOf x)
  chain-ahead-within (suc m) x (Some t) inside h =
      let here = h t refl in
      let t_lt : t < x = here.0 in
      All-cons (IsAheadOf x) t (chain_within m orders (order_at orders t).target) here
      (chain-ahead-within m x (order_at orders t).target inside (λ u e. let back = list.targets t u (omega arith) e in let lt : u < t = back.0 in (omega arith, back.1 ∙ here.1)))

  chain-ahead : (x : ℕ) → x < length orders → All (IsAheadOf x) (chain orders x)
  unfolding chain
  chain-ahead x inside = chain-ahead-within (suc x) x (order_at orders x).target inside (λ t e. list.targets x t inside e)

  -- a chain is ended where it is empty, or the target is ended and the target's chain is ended
  pub chain_ended-none : (x : ℕ) → (order_at orders x).target ≡ None → HasChainEnded orders x
  chain_ended-none x e = subst (All (λ u. ends_by (order_at orders u).cancelled (place_at orders x) ≡ true)) (sym (chain-none orders list x e)) (All-nil (λ u. ends_by (order_at orders u).cancelled (place_at orders x) ≡ true))

  pub chain_ended-some : (x t : ℕ) → x < length orders → (order_at orders x).target ≡ Some t → ends_by (order_at orders t).cancelled (place_at orders x) ≡ true → HasChainEnded orders t → HasChainEnded orders x
  chain_ended-some x t inside e ended chain_ended =
      let lower = target-below orders list x inside t e in
      let up = place-rises orders list t x lower inside in
      subst (All (λ u. ends_by (order_at orders u).cancelled (place_at orders x) ≡ true)) (sym (chain-some orders list x t inside e))
      (All-cons (λ u. ends_by (order_at orders u).cancelled (place_at orders x) ≡ true) t (chain orders t) ended
      (All-weaker (λ u. ends_by (order_at orders u).cancelled (place_at orders t) ≡ true) (λ u. ends_by (order_at orders u).cancelled (place_at orders x) ≡ true)
      (λ u is. ended-later (order_at orders u).cancelled (place_at orders t) (place_at orders x) (omega arith) is) (chain orders t) chain_ended))

  module _ (deals : List Deal) (named : All (NamesOrders orders) deals) where
    abbrev past : ℕ → ℕ → ℕ
    past = traded_before orders deals

    -- an order that the record of the one at t ends, or an earlier one, isn't named by a
    -- deal of a later cause
    no-deal : (q t u : ℕ) → t < length orders → IsAheadOf t u → ends_by (order_at orders u).cancelled (place_at orders t) ≡ true → ((i : ℕ) → i < q → ConformsAt orders deals i)
        → (k : ℕ) (e : Deal) → k < length deals → names_order u (get_or deals k e) ≡ true → place_at orders t ≤ cause orders (get_or deals k e) → cause orders (get_or deals k e) < q → ⊥
    no-deal q t u inside ahead ended conforms k e lt named_here from below =
        let d = get_or deals k e in
        let is = named k e lt in
        let u_lt : u < t = ahead.0 in
        let earlier = place-rises orders list u t u_lt inside in
        let rest = (conforms (cause orders d) below).conservation.resting k e lt refl in
        let or = or_cases (d.bid == u) (d.ask == u) named_here in
        elim or [
          | inl b ↦
              let b_is : d.bid ≡ u = eqb-true d.bid u b in
              let place_is : place_at orders d.bid ≡ place_at orders u = ap (place_at orders) b_is in
              let r_is : resting_order orders d ≡ d.bid = cond-true (nat_lt (place_at orders d.bid) (place_at orders d.ask)) d.bid d.ask (lt-ltb _ _ (omega arith)) in
              let at = rests-parts orders past (cause orders d) u (subst (λ (r : ℕ). rests_before_in_ledger orders past (cause orders d) r ≡ true) (r_is ∙ b_is) rest) in
              let late = ended-late (order_at orders u).cancelled (place_at orders t) (cause orders d) ended at.stands_yet in
              let end = ends orders list deals named t inside d is (omega arith) in
              let side_is : side_at orders (resting_order orders d) ≡ other_side (side_at orders t) = ap (side_at orders) end.1.resting_is ∙ end.1.of_side in
              own-side (side_at orders t) (sym ahead.1 ∙ ap (side_at orders) (sym (r_is ∙ b_is)) ∙ side_is)
          | inr a ↦
              let a_is : d.ask ≡ u = eqb-true d.ask u a in
              let place_is : place_at orders d.ask ≡ place_at orders u = ap (place_at orders) a_is in
              let r_is : resting_order orders d ≡ d.ask = cond-false (nat_lt (place_at orders d.bid) (place_at orders d.ask)) d.bid d.ask (le-ltb _ _ (omega arith)) in
              let at = rests-parts orders past (cause orders d) u (subst (λ (r : ℕ). rests_before_in_ledger orders past (cause orders d) r ≡ true) (r_is ∙ a_is) rest) in
              let late = ended-late (order_at orders u).cancelled (place_at orders t) (cause orders d) ended at.stands_yet in
              let end = ends orders list deals named t inside d is (omega arith) in
              let side_is : side_at orders (resting_order orders d) ≡ other_side (side_at orders t) = ap (side_at orders) end.1.resting_is ∙ end.1.of_side in
              own-side (side_at orders t) (sym ahead.1 ∙ ap (side_at orders) (sym (r_is ∙ a_is)) ∙ side_is)
        ]

    -- so it trades nothing more
    trades-no-more : (q t u : ℕ) → t < length orders → place_at orders t ≤ q → IsAheadOf t u → ends_by (order_at orders u).cancelled (place_at orders t) ≡ true → ((i : ℕ) → i < q → ConformsAt orders deals i)
        → past q u ≡ past (place_at orders t) u
    unfolding traded_before
    trades-no-more q t u inside le ahead ended conforms =
        let p = place_at orders t in
        sum_by-same (λ d. cond (names_order u d && nat_lt (cause orders d) q) d.quantity 0) (λ d. cond (names_order u d && nat_lt (cause orders d) p) d.quantity 0) deals (λ k e lt.
        let d = get_or deals k e in
        let same : (names_order u d && nat_lt (cause orders d) q) ≡ (names_order u d && nat_lt (cause orders d) p) = elim (cases_lt (cause orders d) p) [
          | inl less ↦ ap (λ (b : Bool). names_order u d && b) (lt-ltb _ _ (omega arith) ∙ sym (lt-ltb _ _ less))
          | inr from ↦ elim (cases_Bool (names_order u d)) [
            | inr f ↦ and_left (names_order u d) (nat_lt (cause orders d) q) f ∙ sym (and_left (names_order u d) (nat_lt (cause orders d) p) f)
            | inl t' ↦ elim (cases_lt (cause orders d) q) [
              | inl below ↦ absurd (no-deal q t u inside ahead ended conforms k e lt t' from below)
              | inr above ↦ ap (λ (b : Bool). names_order u d && b) (le-ltb _ _ above ∙ sym (le-ltb _ _ from))
            ]
          ]
        ] in
        ap (λ (b : Bool). cond b d.quantity 0) same)

    -- Before, where the chain of the target is ended
    pub before-kept : (n t : ℕ) → n < length orders → (order_at orders n).target ≡ Some t → HasChainEnded orders t → ((i : ℕ) → i < place_at orders n → ConformsAt orders deals i)
        → chain_traded_quantity orders deals n ≡ past (place_at orders n) t + chain_traded_quantity orders deals t
    before-kept n t inside e chain_ended conforms =
        let lower = target-below orders list n inside t e in
        let up = place-rises orders list t n lower inside in
        let t_in : t < length orders = omega arith in
        before-some orders list past n t inside e ∙ ap (λ (b : ℕ). past (place_at orders n) t + b) (sum_by-same (past (place_at orders n)) (past (place_at orders t)) (chain orders t) (λ k d lt.
        trades-no-more (place_at orders n) t (get_or (chain orders t) k d) t_in (omega arith) (chain-ahead t t_in k d lt) (chain_ended k d lt) conforms) ∙ sym (before-is orders list past t))

    -- Before, by going along the chain
    pub before-walked : (n : ℕ) (traded : List ℕ) → n < length orders → ((x : ℕ) → x < length orders → number_at traded x ≡ past (place_at orders n) x) → sum_by (number_at traded) (chain orders n) ≡ chain_traded_quantity orders deals n
    unfolding chain_traded_in_ledger
    before-walked n traded inside is = sum_by-same (number_at traded) (past (place_at orders n)) (chain orders n) (λ k d lt.
        let ahead = chain-ahead n inside k d lt in let low : get_or (chain orders n) k d < n = ahead.0 in is (get_or (chain orders n) k d) (omega arith))
