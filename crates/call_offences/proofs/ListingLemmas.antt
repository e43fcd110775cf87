-- What each order trades and what has been found, when the first deals have been read, and one deal further.
use Rattle.std.proofs.Common.{◌≡◌, ◌∙◌, sym, ap, refl, subst, ℕ, Bool, true, false, ◌+◌, ◌^◌, ◌<◌, ◌≤◌, List, [], ◌∷◌, length, take, get_or, Option, Some, None, arith}
use Rattle.std.specs.Prelude.{All, IfSome, option_map, ◌&&◌, ◌==◌, not}
use Rattle.std.proofs.lemmas.List.{take_all}
use Rattle.std.proofs.lemmas.List.Elements.{All-append, All-cons}
use Rattle.audit_base.specs.declared.orders.Order.{Order}
use Rattle.audit_base.specs.declared.orders.Deal.{Deal}
use Rattle.audit_base.specs.declared.terms.Side.TheVariants.{Buy, Sell}
use Rattle.audit_base.specs.declared.findings.Finding.{Finding}
use Rattle.audit_base.specs.Least.{first_answer, only_if}
use Rattle.audit_base.specs.Orders.{order_at}
use Rattle.audit_base.specs.Deals.{traded, volume, deal_at, deal_past_end, NamesOrders, AreTotals}
use Rattle.audit_base.specs.CallOffences.{is_cancelled, keeps_limits, call_inactive_finding, call_limit_finding, uniform_price_finding, bid_quantity_finding, ask_quantity_finding, matching_finding}
use Rattle.audit_base.proofs.TotalsLemmas.{AreTotalsSoFar, bid-more, ask-more, after, totals-more}
use Rattle.matching_core.specs.DealFlaws.{is_overfilled, traded_with_deal}
use Rattle.offence_list.specs.declared.offences.ListedOffence.{ListedOffence}
use Rattle.offence_list.specs.declared.offences.ListedOffence.TheVariants.{Inactive, Limit, UniformPrice, Quantity}
use Rattle.offence_list.specs.Answers.{answers_below, with_answer}
use Rattle.offence_list.specs.ListedOffences.{finding_of_offence, findings_of_offences}
use Rattle.offence_list.proofs.ListLemmas.{mapped-further}
use Rattle.call_offences.specs.Inside.{IsOffenceInside, AreOffencesInside}
use Rattle.call_offences.specs.DealOffences.{order_trading, deal_offence}

-- what each order trades in the first k deals, each number below a bound
abbrev pub AreTotalsOf : List Order → List Deal → ℕ → List ℕ → Type 0
AreTotalsOf orders deals k so_far = AreTotalsSoFar orders deals k so_far (volume (take k deals))

-- the first k deals have been read, with these offences
pub record IsListedUpto (uniform : Bool) (orders : List Order) (deals : List Deal) (k : ℕ) (so_far : List ℕ) (found : List ListedOffence) : Type 0 where
  pub totals : AreTotalsOf orders deals k so_far
  pub found_is : findings_of_offences orders found ≡ answers_below (matching_finding uniform orders deals) k
  pub inside : AreOffencesInside orders found

-- one more offence, where there is one
pub inside-further : (orders : List Order) (found later : List ListedOffence) (o : Option ListedOffence) → AreOffencesInside orders found → IfSome o (IsOffenceInside orders) → later ≡ with_answer found o → AreOffencesInside orders later
inside-further orders found later None all one is = rw is all
inside-further orders found later (Some x) all one is =
    rw is (All-append (IsOffenceInside orders) found (x ∷ []) all (All-cons (IsOffenceInside orders) x [] one (λ k d lt. absurd (omega arith))))

-- the first of what is wrong, as a finding, is the first of the findings
first-made : (a b c d e g : Bool) (ia ib ic id ie ig : ListedOffence) (f : ListedOffence → Finding)
    → option_map f (first_answer (only_if a ia ∷ only_if b ib ∷ only_if c ic ∷ only_if d id ∷ only_if e ie ∷ only_if g ig ∷ []))
    ≡ first_answer (first_answer (only_if a (f ia) ∷ only_if b (f ib) ∷ []) ∷ only_if c (f ic) ∷ only_if d (f id) ∷ only_if e (f ie) ∷ only_if g (f ig) ∷ [])
first-made true b c d e g ia ib ic id ie ig f = refl
first-made false true c d e g ia ib ic id ie ig f = refl
first-made false false true d e g ia ib ic id ie ig f = refl
first-made false false false true e g ia ib ic id ie ig f = refl
first-made false false false false true g ia ib ic id ie ig f = refl
first-made false false false false false true ia ib ic id ie ig f = refl
first-made false false false false false false ia ib ic id ie ig f = refl

-- the offence at the deal at k is that of what its orders trade up to it
offence-is : (uniform : Bool) (orders : List Order) (deals : List Deal) (k : ℕ)
    → option_map (finding_of_offence orders) (deal_offence uniform orders (deal_at deals k) (deal_at deals 0) (traded (take (k + 1) deals) (deal_at deals k).bid) (traded (take (k + 1) deals) (deal_at deals k).ask))
    ≡ matching_finding uniform orders deals k
unfolding call_inactive_finding call_limit_finding uniform_price_finding bid_quantity_finding ask_quantity_finding
offence-is uniform orders deals k =
    let d = deal_at deals k in
    let bid = order_trading d.bid (traded (take (k + 1) deals) d.bid) in
    let ask = order_trading d.ask (traded (take (k + 1) deals) d.ask) in
    first-made (is_cancelled orders d.bid) (is_cancelled orders d.ask) (not (keeps_limits orders d)) (uniform && not (d.price == (deal_at deals 0).price)) (is_overfilled (order_at orders d.bid) bid.traded) (is_overfilled (order_at orders d.ask) ask.traded)
    (Inactive d.place bid) (Inactive d.place ask) (Limit d.place bid ask) (UniformPrice d.place (deal_at deals 0).place) (Quantity d.place Buy bid) (Quantity d.place Sell ask) (finding_of_offence orders)

-- all deals have been read
pub totals-all : (orders : List Order) (deals : List Deal) (k : ℕ) (so_far : List ℕ) → k ≡ length deals → AreTotalsOf orders deals k so_far → AreTotals orders deals so_far
totals-all orders deals k so_far all is = subst (λ (ds : List Deal). AreTotals orders ds so_far) (take_all k deals (omega (arith, all))) is.totals

-- one deal further, in the words of the code: the deal that it reads
module _ (orders : List Order) (deals : List Deal) (k : ℕ) (lt : k < length deals) (all_named : All (NamesOrders orders) deals) (d : Deal) (d_is : d ≡ deal_at deals k) (so_far : List ℕ) (quantity : ℕ) (is : AreTotalsOf orders deals k so_far) (same : quantity ≡ d.quantity) (most : quantity ≤ 10 ^ 12) where
  named_here : NamesOrders orders (deal_at deals k)
  named_here = all_named k deal_past_end lt

  same_here : quantity ≡ (deal_at deals k).quantity
  same_here = same ∙ ap (λ (x : Deal). x.quantity) d_is

  pub totals-further : (later : List ℕ) → later ≡ traded_with_deal so_far d.bid d.ask quantity → AreTotalsOf orders deals (k + 1) later
  totals-further later later_is =
      let l : later ≡ after orders deals k lt named_here so_far (volume (take k deals)) quantity is same_here most = later_is ∙ ap (λ (x : Deal). traded_with_deal so_far x.bid x.ask quantity) d_is in
      let more = totals-more orders deals k lt named_here so_far (volume (take k deals)) quantity is same_here most in
      subst (λ (total : ℕ). AreTotalsSoFar orders deals (k + 1) later total) more.whole
      (subst (λ (t : List ℕ). AreTotalsSoFar orders deals (k + 1) t (volume (take k deals) + quantity)) (sym l) more)

  -- the offence that is looked for at the deal
  offence-read : (uniform : Bool) (first : Deal) (bid_traded ask_traded : ℕ) → first ≡ deal_at deals 0 → bid_traded ≡ get_or so_far d.bid 0 + quantity → ask_traded ≡ get_or so_far d.ask 0 + quantity
      → option_map (finding_of_offence orders) (deal_offence uniform orders d first bid_traded ask_traded) ≡ matching_finding uniform orders deals k
  offence-read uniform first bid_traded ask_traded f_is bt_is at_is =
      let b' : get_or so_far (deal_at deals k).bid 0 + quantity ≡ traded (take (k + 1) deals) (deal_at deals k).bid = omega (arith, bid-more orders deals k lt named_here, is.totals.each (deal_at deals k).bid named_here.bid_inside, same_here) in
      let a' : get_or so_far (deal_at deals k).ask 0 + quantity ≡ traded (take (k + 1) deals) (deal_at deals k).ask = omega (arith, ask-more orders deals k lt named_here, is.totals.each (deal_at deals k).ask named_here.ask_inside, same_here) in
      let b : bid_traded ≡ traded (take (k + 1) deals) (deal_at deals k).bid = bt_is ∙ ap (λ (x : Deal). get_or so_far x.bid 0 + quantity) d_is ∙ b' in
      let a : ask_traded ≡ traded (take (k + 1) deals) (deal_at deals k).ask = at_is ∙ ap (λ (x : Deal). get_or so_far x.ask 0 + quantity) d_is ∙ a' in
      (λ i. option_map (finding_of_offence orders) (deal_offence uniform orders (d_is i) (f_is i) (b i) (a i))) ∙ offence-is uniform orders deals k

  pub listed-further : (uniform : Bool) (found later_found : List ListedOffence) (later : List ℕ) (offence : Option ListedOffence) (first : Deal) (bid_traded ask_traded : ℕ)
      → findings_of_offences orders found ≡ answers_below (matching_finding uniform orders deals) k
      → first ≡ deal_at deals 0 → bid_traded ≡ get_or so_far d.bid 0 + quantity → ask_traded ≡ get_or so_far d.ask 0 + quantity
      → later ≡ traded_with_deal so_far d.bid d.ask quantity → offence ≡ deal_offence uniform orders d first bid_traded ask_traded → later_found ≡ with_answer found offence
      → AreOffencesInside orders found → IfSome offence (IsOffenceInside orders)
      → IsListedUpto uniform orders deals (k + 1) later later_found
  listed-further uniform found later_found later offence first bid_traded ask_traded found_is f_is bt_is at_is later_is offence_is later_found_is all one = record {
    totals = totals-further later later_is;
    found_is = mapped-further (finding_of_offence orders) (matching_finding uniform orders deals) k found later_found offence found_is
        (ap (option_map (finding_of_offence orders)) offence_is ∙ offence-read uniform first bid_traded ask_traded f_is bt_is at_is) later_found_is;
    inside = inside-further orders found later_found offence all one later_found_is;
  }
