-- A history has one list of Expected trades under a rule.
use Rattle.std.proofs.Common.{◌≡◌, ◌∙◌, sym, subst, ℕ, List}
use Rattle.audit_base.specs.declared.orders.Deal.{Deal}
use Rattle.audit_base.specs.declared.orders.Order.{Order}
use Rattle.audit_base.specs.declared.records.OrderRecord.{OrderRecord}
use Rattle.audit_base.specs.declared.terms.Rule.TheVariants as rule
use Rattle.audit_base.specs.declared.terms.VolumeRule.TheVariants as of_volume
use Rattle.audit_base.specs.Bounds.{IsBoundPrice}
use Rattle.audit_base.specs.Expected.{IsExpectedUniform, IsExpectedMaximum, uniform_deals, maximum_deals}
use Rattle.audit_base.specs.Histories.{order_list}
use Rattle.audit_base.specs.Orders.{order_past_end}
use Rattle.audit_base.proofs.HistoryLemmas.{order_list-rising, order_list-targets}
use Rattle.audit_base.proofs.VerdictLemmas.{one-bound, one-greatest}
use Rattle.continuous_laws.specs.Accounts.{IsInLogOrder}
use Rattle.continuous_laws.proofs.OneExpectedLemmas.{one-expected}
use Rattle.verdict_laws.specs.Histories.{ExpectedTradesAreOne}

is-placed : (symbol : List ℕ) (entries : List OrderRecord) → IsInLogOrder (order_list symbol entries)
is-placed symbol entries = record {
  rising = λ i j lt below. order_list-rising symbol entries i j order_past_end lt below;
  targets = λ k t lt e. (order_list-targets symbol entries k t lt e).0;
}

one-uniform : (orders : List Order) (ds es : List Deal) → IsExpectedUniform orders ds → IsExpectedUniform orders es → ds ≡ es
one-uniform orders ds es d e =
    let most = one-greatest of_volume.Uniform orders d.most e.most d.greatest e.greatest in
    let bound = one-bound of_volume.Uniform orders e.most d.bound e.bound (subst (λ (v : ℕ). IsBoundPrice of_volume.Uniform orders v d.bound) most d.is_bound) e.is_bound in
    d.pairs ∙ (λ i. uniform_deals orders (most i) (bound i)) ∙ sym e.pairs

one-maximum : (orders : List Order) (ds es : List Deal) → IsExpectedMaximum orders ds → IsExpectedMaximum orders es → ds ≡ es
one-maximum orders ds es d e =
    let most = one-greatest of_volume.Maximum orders d.most e.most d.greatest e.greatest in
    d.pairs ∙ (λ i. maximum_deals orders (most i)) ∙ sym e.pairs

pub expected-one : ExpectedTradesAreOne
expected-one rule.Uniform symbol entries ds es d e = one-uniform (order_list symbol entries) ds es d e
expected-one rule.Maximum symbol entries ds es d e = one-maximum (order_list symbol entries) ds es d e
expected-one rule.Continuous symbol entries ds es d e = one-expected (order_list symbol entries) (is-placed symbol entries) ds es d e
expected-one rule.Matching symbol entries ds es d e = absurd d
expected-one rule.Fair symbol entries ds es d e = absurd d
