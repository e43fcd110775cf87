-- A fair matching fills its volume by rank, so that its volume fixes what each order trades.
use Rattle.std.proofs.Common.{◌≡◌, ◌≤◌, ◌<◌, ◌+◌, ℕ, List, length, refl, sym, ◌∙◌, arith, inl, inr, All, cond, eqb, subst}
use Rattle.std.specs.Prelude.{◌&&◌}
use Rattle.std.proofs.lemmas.List.Elements.{All-weaker}
use Rattle.std.proofs.lemmas.Bool.{cases_Bool, cases_eq, cases_lt, and_parts, and_from, or_cases, ne_eqb, eq-eqb, eqb-true, cond-true, cond-false}
use Rattle.audit_base.specs.declared.terms.Side.{Side}
use Rattle.audit_base.specs.declared.terms.Side.TheVariants.{Buy, Sell}
use Rattle.audit_base.specs.declared.orders.Order.{Order}
use Rattle.audit_base.specs.declared.orders.Deal.{Deal}
use Rattle.audit_base.specs.Sums.{sum_below}
use Rattle.audit_base.specs.Orders.{order_at, side_at, quantity_at, same_side, is_uncancelled_on, IsUncancelledOn, IsOrderList}
use Rattle.audit_base.specs.Priority.{outranks}
use Rattle.audit_base.specs.Deals.{names_order, traded, volume, NamesOrders}
use Rattle.audit_base.specs.Calls.{IsMatchingDeal, Matching, Fair}
use Rattle.audit_base.specs.Units.{total_quantity_ahead}
use Rattle.audit_base.proofs.SumLemmas.{some_part, below-le, below-add}
use Rattle.audit_base.proofs.OrderLemmas.{same_side-is, is-same_side, test-stands, stands-test}
use Rattle.audit_base.proofs.PriorityLemmas.{outranks-strict, outranks-better, Better-total}
use Rattle.audit_base.proofs.DealLemmas.{keeps-names, side_traded, bids-volume, asks-volume}
use Rattle.call_laws.specs.Laws.{FairVolumeFillsByRank, FairVolumeFixesQuantities}
use Rattle.call_laws.proofs.AheadLemmas.{part_ahead, ahead-indices, only_at, below-only, better-over}

-- an order that trades is one that no record cancels
pub trades-stands : (orders : List Order) (deals : List Deal) → All (IsMatchingDeal orders) deals → (k : ℕ) → 0 < traded deals k → IsUncancelledOn orders (side_at orders k) k
trades-stands orders deals kept k some =
    let found = some_part (IsMatchingDeal orders) (names_order k) (λ (d : Deal). d.quantity) deals kept some in
    let d = found.0 in
    elim (or_cases (eqb d.bid k) (eqb d.ask k) found.2) [
      | inl t ↦ subst (λ j. IsUncancelledOn orders (side_at orders j) j) (eqb-true d.bid k t) (on_its_side Buy d.bid found.1.bid_stands)
      | inr t ↦ subst (λ j. IsUncancelledOn orders (side_at orders j) j) (eqb-true d.ask k t) (on_its_side Sell d.ask found.1.ask_stands)
    ]
  where
    on_its_side : (side : Side) (j : ℕ) → IsUncancelledOn orders side j → IsUncancelledOn orders (side_at orders j) j
    on_its_side side j s = record { inside = s.inside; of_side = refl; uncancelled = s.uncancelled }

-- what the orders of a side trade is together the volume
pub side-volume : (orders : List Order) (deals : List Deal) → All (IsMatchingDeal orders) deals → (side : Side) → side_traded orders deals side ≡ volume deals
side-volume orders deals kept Buy = bids-volume orders deals (All-weaker (IsMatchingDeal orders) (NamesOrders orders) (keeps-names orders) deals kept)
side-volume orders deals kept Sell = asks-volume orders deals (All-weaker (IsMatchingDeal orders) (NamesOrders orders) (keeps-names orders) deals kept)

-- what an order trades, where it is of the side
abbrev pub share : List Order → List Deal → Side → ℕ → ℕ
share orders deals side k = cond (same_side side (side_at orders k)) (traded deals k) 0

pub share-own : (orders : List Order) (deals : List Deal) (side : Side) (k : ℕ) → side_at orders k ≡ side → share orders deals side k ≡ traded deals k
share-own orders deals side k e = cond-true _ _ 0 (is-same_side side _ (sym e))

module _ (orders : List Order) (deals : List Deal) (list : IsOrderList orders) (m : Matching orders deals) (fair : Fair orders deals) (side : Side) (i : ℕ) (s : IsUncancelledOn orders side i) where
  -- an order that trades leaves nothing of those ahead of it
  ahead-within : 0 < traded deals i → total_quantity_ahead orders side i + traded deals i ≤ volume deals
  ahead-within some =
      let le : sum_below (λ k. part_ahead orders side i k + only_at i (traded deals i) k) (length orders) ≤ side_traded orders deals side =
      below-le (λ k. part_ahead orders side i k + only_at i (traded deals i) k) (share orders deals side) (length orders) (λ k lt. elim (cases_eq k i) [
        | inl e ↦ subst (λ k. part_ahead orders side i k + only_at i (traded deals i) k ≤ share orders deals side k) (sym e)
            (rw (stands-test orders side i s, outranks-strict side (order_at orders i), eq-eqb i i refl, share-own orders deals side i s.of_side) (omega arith))
        | inr ne ↦
            let none : only_at i (traded deals i) k ≡ 0 = cond-false (eqb k i) (traded deals i) 0 (ne_eqb k i ne) in
            elim (cases_Bool (is_uncancelled_on side (order_at orders k) && outranks side (order_at orders k) (order_at orders i))) [
              | inr off ↦ let nothing : part_ahead orders side i k ≡ 0 = cond-false _ _ 0 off in omega arith
              | inl on ↦
                  let parts = and_parts (is_uncancelled_on side (order_at orders k)) (outranks side (order_at orders k) (order_at orders i)) on in
                  let t = test-stands orders side k lt parts.0 in
                  let full : traded deals k ≡ quantity_at orders k = fair.fills side k i t s (outranks-better side (order_at orders k) (order_at orders i) t.of_side s.of_side parts.1) some in
                  let whole : part_ahead orders side i k ≡ quantity_at orders k = cond-true _ _ 0 on in
                  let own = share-own orders deals side k t.of_side in
                  omega arith
            ]
      ]) in
      let add = below-add (part_ahead orders side i) (only_at i (traded deals i)) (length orders) in
      omega (arith, le, add, below-only i (traded deals i) (length orders) s.inside, ahead-indices orders side i, side-volume orders deals m.kept side)

  -- behind a short order none of its side trades
  within-ahead : traded deals i < quantity_at orders i → volume deals ≤ total_quantity_ahead orders side i + traded deals i
  within-ahead short =
      let le : side_traded orders deals side ≤ sum_below (λ k. part_ahead orders side i k + only_at i (traded deals i) k) (length orders) =
      below-le (share orders deals side) (λ k. part_ahead orders side i k + only_at i (traded deals i) k) (length orders) (λ k lt. elim (cases_eq k i) [
        | inl e ↦ subst (λ k. share orders deals side k ≤ part_ahead orders side i k + only_at i (traded deals i) k) (sym e)
            (rw (eq-eqb i i refl, share-own orders deals side i s.of_side) (omega arith))
        | inr ne ↦ elim (cases_Bool (same_side side (side_at orders k))) [
          | inr off ↦ let none : share orders deals side k ≡ 0 = cond-false _ _ 0 off in omega arith
          | inl on ↦
              let own = share-own orders deals side k (same_side-is side _ on) in
              elim (cases_lt 0 (traded deals k)) [
                | inr none ↦ omega arith
                | inl some ↦
                    let t : IsUncancelledOn orders side k = subst (λ w. IsUncancelledOn orders w k) (same_side-is side _ on) (trades-stands orders deals m.kept k some) in
                    elim (Better-total orders list i k s.inside lt (s.of_side ∙ sym t.of_side) (λ e. ne (sym e))) [
                      | inl worse ↦ let full = fair.fills side i k s t worse some in absurd (omega arith)
                      | inr over ↦
                          let whole : part_ahead orders side i k ≡ quantity_at orders k = cond-true _ _ 0 (and_from _ _ (stands-test orders side k t) (better-over orders side k i t over)) in
                          let most = m.within k lt in
                          omega arith
                    ]
              ]
        ]
      ]) in
      let add = below-add (part_ahead orders side i) (only_at i (traded deals i)) (length orders) in
      omega (arith, le, add, below-only i (traded deals i) (length orders) s.inside, ahead-indices orders side i, side-volume orders deals m.kept side)

-- a fair matching fills its volume by rank
pub fair-fills : FairVolumeFillsByRank
fair-fills orders deals list m fair side i s =
    let most : traded deals i ≤ quantity_at orders i = m.within i s.inside in
    elim (cases_lt (traded deals i) (quantity_at orders i)) [
      | inl short ↦
          let behind = within-ahead orders deals list m fair side i s short in
          elim (cases_lt 0 (traded deals i)) [
            | inl some ↦ let before = ahead-within orders deals list m fair side i s some in omega arith
            | inr none ↦ omega arith
          ]
      | inr full ↦ elim (cases_lt 0 (traded deals i)) [
        | inl some ↦ let before = ahead-within orders deals list m fair side i s some in omega arith
        | inr none ↦ omega arith
      ]
    ]

-- two fair matchings of one volume trade the same with each order
pub fair-volume-fixes : FairVolumeFixesQuantities
fair-volume-fixes orders first second list m f n g e i = elim (cases_lt 0 (traded first i + traded second i)) [
  | inr none ↦ omega arith
  | inl some ↦
      let s : IsUncancelledOn orders (side_at orders i) i = elim (cases_lt 0 (traded first i)) [
        | inl one ↦ trades-stands orders first m.kept i one
        | inr none ↦ trades-stands orders second n.kept i (omega arith)
      ] in
      fair-fills orders first list m f (side_at orders i) i s ∙ rw e (sym (fair-fills orders second list n g (side_at orders i) i s))
]
