-- The checks of a deal by the numbers that the code has, and the laws.
use Rattle.std.proofs.Common.{◌≡◌, ◌<◌, ◌∙◌, sym, ap, refl, subst, ℕ, ◌+◌, Bool, true, false, cond, List, [], ◌∷◌, length, get_or, Option, None, All}
use Rattle.std.specs.Prelude.{slice_index, nat_lt, filter_map, ◌||◌}
use Rattle.std.specs.List.{range_with_len}
use Rattle.std.proofs.lemmas.Bool.{cond_both, eq-eqb, not_from_true}
use Rattle.audit_base.specs.Moments.{Moment}
use Rattle.audit_base.specs.declared.orders.Order.{Order}
use Rattle.audit_base.specs.declared.orders.Deal.{Deal}
use Rattle.audit_base.specs.Orders.{order_at, place_at, limit_at}
use Rattle.audit_base.specs.Deals.{deal_at, deal_past_end, traded, NamesOrders, AreTotals}
use Rattle.audit_base.specs.Continuous.{incoming_order, resting_order, traded_before}
use Rattle.audit_base.specs.Expected.{pair_share, resting_limit}
use Rattle.audit_base.specs.Shows.{with_traded_number}
use Rattle.audit_base.proofs.LeastLemmas.{least-none}
use Rattle.audit_base.proofs.OffenceLemmas.{none-only, option_or-none_both, get_or-default}
use Rattle.audit_base.proofs.PairDealLemmas.{IsPairDeal, pair_deals-are}
use Rattle.offence_list.specs.Answers.{answers_below, with_answer}
use Rattle.offence_list.proofs.ListLemmas.{answers-step, answers-first}
use Rattle.further_checks.specs.declared.findings.FurtherChecks.{FurtherChecks}
use Rattle.further_checks.specs.declared.findings.FurtherFinding.{FurtherFinding}
use Rattle.further_checks.specs.FurtherRules.{trade_time_at, traded_line, further_failure, further_finding, first_further_finding, further_findings}
use Rattle.further_checks.specs.Laws.{FurtherFindingsBeginWithTheFirst, ExpectedTradesHaveRestingPrices, NothingIsFoundUnasked}

-- the orders of a deal are in the list
resting-inside : (orders : List Order) (d : Deal) → NamesOrders orders d → resting_order orders d < length orders
resting-inside orders d n = cond_both (nat_lt (place_at orders d.bid) (place_at orders d.ask)) d.bid d.ask (λ x. x < length orders) (λ t. n.bid_inside) (λ t. n.ask_inside)

incoming-inside : (orders : List Order) (d : Deal) → NamesOrders orders d → incoming_order orders d < length orders
incoming-inside orders d n = cond_both (nat_lt (place_at orders d.bid) (place_at orders d.ask)) d.ask d.bid (λ x. x < length orders) (λ t. n.ask_inside) (λ t. n.bid_inside)

module _ (checks : FurtherChecks) (orders : List Order) (deals : List Deal) (times : List Moment) (numbers : List ℕ) (totals : AreTotals orders deals numbers) (all_named : All (NamesOrders orders) deals) where
  line-same : (x : ℕ) → x < length orders → traded_line orders (slice_index numbers) x ≡ traded_line orders (traded deals) x
  line-same x lt = ap (λ (n : ℕ). with_traded_number (order_at orders x) n) (totals.each x lt)

  -- what the code finds at the deal that it reads
  pub failure-is : (k : ℕ) → k < length deals → further_failure checks orders (slice_index numbers) (deal_at deals k) (trade_time_at times k) ≡ further_finding checks orders deals times k
  failure-is k lt =
      let d = deal_at deals k in
      let n = all_named k deal_past_end lt in
      rw (line-same (resting_order orders d) (resting-inside orders d n), line-same (incoming_order orders d) (incoming-inside orders d n)) refl

  pub failure-read : (k : ℕ) (d : Deal) (time : Moment) (answer : Option FurtherFinding) → k < length deals → k < length times → d ≡ get_or deals k d → time ≡ get_or times k time
      → answer ≡ further_failure checks orders (slice_index numbers) d time → answer ≡ further_finding checks orders deals times k
  failure-read k d time answer lt lt' d_is time_is is =
      let d' : d ≡ deal_at deals k = d_is ∙ get_or-default deals k d deal_past_end lt in
      let t' : time ≡ trade_time_at times k = time_is ∙ get_or-default times k time (record { second = 0; nano = 0 }) lt' in
      is ∙ (λ i. further_failure checks orders (slice_index numbers) (d' i) (t' i)) ∙ failure-is k lt

  -- the list of what is found, one deal further
  pub findings-further : (k : ℕ) (found later : List FurtherFinding) (answer : Option FurtherFinding) → found ≡ answers_below (further_finding checks orders deals times) k
      → answer ≡ further_finding checks orders deals times k → later ≡ with_answer found answer → later ≡ answers_below (further_finding checks orders deals times) (k + 1)
  findings-further k found later answer found_is answer_is later_is =
      later_is ∙ (λ i. with_answer (found_is i) (answer_is i)) ∙ sym (answers-step (further_finding checks orders deals times) k)

pub begin_with_the_first : FurtherFindingsBeginWithTheFirst
unfolding further_findings first_further_finding
begin_with_the_first checks orders deals times = answers-first (further_finding checks orders deals times) (length deals)

-- the limit of the earlier of the two orders is that of the resting one
limit-resting : (orders : List Order) (d : Deal) → resting_limit orders d.bid d.ask ≡ limit_at orders (resting_order orders d)
limit-resting orders d = by (nat_lt (place_at orders d.bid) (place_at orders d.ask))
  where
    by : (b : Bool) → cond b (limit_at orders d.bid) (limit_at orders d.ask) ≡ limit_at orders (cond b d.bid d.ask)
    by true = refl
    by false = refl

pub expected_prices : ExpectedTradesHaveRestingPrices
unfolding first_further_finding
expected_prices orders deals times is =
    let share = pair_share orders (traded_before orders deals) in
    let pairs = pair_deals-are orders share (resting_limit orders) in
    let each = subst (λ (ds : List Deal). All (IsPairDeal share (resting_limit orders) (length orders)) ds) (sym is) pairs.each in
    least-none _ (length deals) (λ k lt.
    let d = deal_at deals k in
    let price : d.price ≡ limit_at orders (resting_order orders d) = (each k deal_past_end lt).at ∙ limit-resting orders d in
    option_or-none_both _ _ (none-only _ _ (not_from_true _ (eq-eqb _ _ price))) refl)

-- Where no check is asked for.

none-answered : {A : Type 0} (answer : ℕ → Option A) → ((n : ℕ) → answer n ≡ None) → (ns : List ℕ) → filter_map answer ns ≡ []
none-answered answer none [] = refl
none-answered answer none (n ∷ ns) = rw (none n, none-answered answer none ns) refl

either-false : (a b : Bool) → (a || b) ≡ false → (a ≡ false) × (b ≡ false)
either-false false false e = (refl, refl)
either-false false true e = cc
either-false true b e = cc

pub none-fails : NothingIsFoundUnasked
unfolding further_findings
none-fails checks orders deals times e =
    let neither = either-false checks.resting_price checks.trade_times e in
    none-answered (further_finding checks orders deals times) (λ n. rw (neither.0, neither.1) refl) (range_with_len 0 (length deals))
