-- What the lines of a summary say of the Expected trades of a call.
use Rattle.std.proofs.Common.{◌<◌, ◌≡◌, ◌∙◌, sym, ap, subst, ℕ, List, ◌++◌, length, Result, Ok, Err, arith}
use Rattle.std.specs.Prelude.{OnOk}
use Rattle.audit_base.specs.declared.orders.Order.{Order}
use Rattle.audit_base.specs.declared.orders.Deal.{Deal}
use Rattle.audit_base.specs.declared.orders.Cut.{Cut}
use Rattle.audit_base.specs.declared.terms.Rule.TheVariants as rule
use Rattle.audit_base.specs.declared.terms.VolumeRule.TheVariants as of_volume
use Rattle.audit_base.specs.Bounds.{IsGreatestExecutableVolume, IsBoundPrice}
use Rattle.audit_base.specs.Calls.{IsGreatestUniformVolume}
use Rattle.audit_base.specs.Deals.{volume}
use Rattle.audit_base.specs.Least.{IsLeast}
use Rattle.audit_base.specs.Orders.{OrdersInRange, IsOrderList}
use Rattle.audit_base.specs.Expected.{uniform_deals, IsExpectedUniform}
use Rattle.call_laws.specs.Optimum.{UniformOptimum, UniformTradesAreExpected}
use Rattle.audit_report.specs.Summaries.{call_line}
use Rattle.audit_run.specs.OneLog.{AddsLine}
use Rattle.audit_run.specs.OtherTexts.{IsCallLine}

-- there is one least number with a property
one-least : (P : ℕ → Type 0) (a b : ℕ) → IsLeast P a → IsLeast P b → a ≡ b
one-least P a b x y =
    let at_least : a < b → ⊥ = λ lt. y.none_below a lt x.holds in
    let at_most : b < a → ⊥ = λ lt. x.none_below b lt y.holds in
    omega arith

one-uniform : (orders : List Order) (v w : ℕ) → IsGreatestUniformVolume orders v → IsGreatestUniformVolume orders w → v ≡ w
one-uniform orders v w x y =
    let above = y.greatest x.deals x.ranges x.matching x.one_price in
    let below = x.greatest y.deals y.ranges y.matching y.one_price in
    let a = x.reached in let b = y.reached in
    omega arith

module _ (orders : List Order) (deals : List Deal) (c : Cut) (list : IsOrderList orders) (numbers : OrdersInRange orders) where
  -- the Expected trades of `uniform` have the greatest executable volume
  pub uniform_volume : UniformOptimum → UniformTradesAreExpected → IsGreatestExecutableVolume orders c → IsExpectedUniform orders deals → c.volume ≡ volume deals
  uniform_volume optimum expected best is =
      let known = expected orders c list numbers best in
      let most : is.most ≡ c.volume = one-uniform orders is.most c.volume is.greatest known.1 in
      let bound : is.bound ≡ c.price = one-least _ is.bound c.price (subst (λ (v : ℕ). IsBoundPrice of_volume.Uniform orders v is.bound) most is.is_bound) known.2 in
      let same : deals ≡ uniform_deals orders c.volume c.price = is.pairs ∙ ap (λ (v : ℕ). uniform_deals orders v is.bound) most ∙ ap (λ (p : ℕ). uniform_deals orders c.volume p) bound in
      sym (ap volume same ∙ (optimum orders c list numbers best).1)

  -- so the line with as many trades is that of the Expected trades
  pub uniform-adds : UniformOptimum → UniformTradesAreExpected → IsGreatestExecutableVolume orders c → IsExpectedUniform orders deals → (trades : ℕ) → trades ≡ length deals
      → (old new : List ℕ) → new ≡ old ++ call_line rule.Uniform trades c → AddsLine (IsCallLine of_volume.Uniform orders) old new
  uniform-adds optimum expected best is trades count old new added =
      let reached = uniform_volume optimum expected best is in
      record {
        line = call_line rule.Uniform trades c;
        is = record {
          deals = deals;
          expected = is;
          bound = c;
          volume_is = reached;
          shows = subst (λ (v : ℕ). IsBoundPrice of_volume.Uniform orders v c.price) reached (expected orders c list numbers best).2;
          line_is = ap (λ (t : ℕ). call_line rule.Uniform t c) count;
        };
        added = added;
      }

-- what holds where a call went well follows from what it ensures
pub on-then : {T E : Type 0} {P Q : Type 0} (result : Result T E) → (P → Q) → OnOk result P → OnOk result Q
on-then (Ok value) follows holds = follows holds
on-then (Err fault) follows holds = tt
