-- What the orders trade in the deals of the pairs, and what else is known of these deals.
use Rattle.std.proofs.Common.{◌≡◌, ◌≢◌, ◌<◌, ℕ, List, length, refl, ap, ◌∙◌, arith, inl, inr, Bool, cond}
use Rattle.std.specs.Prelude.{◌||◌, ◌==◌, nat_lt}
use Rattle.std.proofs.lemmas.Bool.{cases_eq, or_from, or_left, or_right, ne_eqb, eq-eqb, cond-true, cond-false}
use Rattle.audit_base.specs.declared.orders.Order.{Order}
use Rattle.audit_base.specs.Sums.{sum_below}
use Rattle.audit_base.specs.Deals.{quantity_traded_by, traded, volume}
use Rattle.audit_base.specs.Expected.{pair_deals}
use Rattle.audit_base.proofs.SumLemmas.{below-same, below-none, below-single}
use Rattle.audit_base.proofs.PairDealLemmas.{pair_deals-sum}

-- a quantity that is left out where it is 0 adds the same
counted : (q : ℕ) (b : Bool) → cond (nat_lt 0 q) (cond b q 0) 0 ≡ cond b q 0
counted q b = grind arith

counted-whole : (q : ℕ) → cond (nat_lt 0 q) q 0 ≡ q
counted-whole q = grind arith

zero-if : (b : Bool) (x : ℕ) → x ≡ 0 → cond b x 0 ≡ 0
zero-if b x e = grind arith

module _ (orders : List Order) (quantity price : ℕ → ℕ → ℕ) where
  abbrev part : ℕ → ℕ → ℕ → ℕ
  part i bid ask = cond ((bid == i) || (ask == i)) (quantity bid ask) 0

  abbrev count : ℕ
  count = length orders

  pairs-traded : (i : ℕ) → traded (pair_deals orders quantity price) i ≡ sum_below (λ bid. sum_below (part i bid) count) count
  pairs-traded i =
      pair_deals-sum orders quantity price (quantity_traded_by i) (λ d n. refl)
      ∙ below-same _ _ count (λ bid lt. below-same _ (part i bid) count (λ ask below. counted (quantity bid ask) ((bid == i) || (ask == i))))

  pub pairs-volume : volume (pair_deals orders quantity price) ≡ sum_below (λ bid. sum_below (quantity bid) count) count
  pairs-volume =
      pair_deals-sum orders quantity price (λ d. d.quantity) (λ d n. refl)
      ∙ below-same _ _ count (λ bid lt. below-same _ (quantity bid) count (λ ask below. counted-whole (quantity bid ask)))

  part-away : (i bid ask : ℕ) → bid ≢ i → ask ≢ i → part i bid ask ≡ 0
  part-away i bid ask nb na = cond-false ((bid == i) || (ask == i)) (quantity bid ask) 0 (or_from (bid == i) (ask == i) (ne_eqb bid i nb) (ne_eqb ask i na))

  part-bid : (i ask : ℕ) → part i i ask ≡ quantity i ask
  part-bid i ask = cond-true ((i == i) || (ask == i)) (quantity i ask) 0 (or_left (i == i) (ask == i) (eq-eqb i i refl))

  part-ask : (i bid : ℕ) → part i bid i ≡ quantity bid i
  part-ask i bid = cond-true ((bid == i) || (i == i)) (quantity bid i) 0 (or_right (bid == i) (i == i) (eq-eqb i i refl))

  -- an index that no pair has as its ask trades the quantities of its pairs as a bid
  pub pairs-bid : (i : ℕ) → i < count → ((bid : ℕ) → quantity bid i ≡ 0) → traded (pair_deals orders quantity price) i ≡ sum_below (quantity i) count
  pairs-bid i lt none =
      pairs-traded i
      ∙ below-single (λ bid. sum_below (part i bid) count) count i lt (λ bid _ ne. below-none (part i bid) count (λ ask below. elim (cases_eq ask i) [
        | inl e ↦ zero-if _ (quantity bid ask) (ap (quantity bid) e ∙ none bid)
        | inr away ↦ part-away i bid ask ne away
      ]))
      ∙ below-same (part i i) (quantity i) count (λ ask below. part-bid i ask)

  -- and one that no pair has as its bid trades those of its pairs as an ask
  pub pairs-ask : (i : ℕ) → i < count → ((ask : ℕ) → quantity i ask ≡ 0) → traded (pair_deals orders quantity price) i ≡ sum_below (λ bid. quantity bid i) count
  pairs-ask i lt none =
      pairs-traded i
      ∙ below-same (λ bid. sum_below (part i bid) count) (λ bid. quantity bid i) count (λ bid under.
      below-single (part i bid) count i lt (λ ask below away. elim (cases_eq bid i) [
        | inl e ↦ zero-if _ (quantity bid ask) (ap (λ b. quantity b ask) e ∙ none ask)
        | inr ne ↦ part-away i bid ask ne away
      ])
      ∙ part-ask i bid)
