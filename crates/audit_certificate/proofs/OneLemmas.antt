-- Deals have one certificate, and a text one answer.
use Rattle.std.proofs.Common.{◌≡◌, ◌∙◌, sym, ap, refl, ℕ, List, [], ◌∷◌, ◌++◌, length, Option, Some, None, arith, inl, inr}
use Rattle.std.specs.Prelude.{IsSomeAnd, option_map}
use Rattle.std.proofs.lemmas.Bool.{cases_eq, cases_order}
use Rattle.audit_base.specs.declared.terms.Rule.{Rule}
use Rattle.audit_base.specs.declared.terms.Rule.TheVariants as rule
use Rattle.audit_base.specs.declared.terms.Side.{Side}
use Rattle.audit_base.specs.declared.terms.Side.TheVariants.{Buy, Sell}
use Rattle.audit_base.specs.declared.terms.VolumeRule.{VolumeRule}
use Rattle.audit_base.specs.declared.orders.Order.{Order}
use Rattle.audit_base.specs.declared.orders.Deal.{Deal}
use Rattle.audit_base.specs.Deals.{volume}
use Rattle.audit_base.specs.Orders.{order_at, place_at}
use Rattle.audit_base.specs.RuleKinds.{rule_of_volume, volume_rule}
use Rattle.audit_base.proofs.LeastLemmas.{one-least}
use Rattle.audit_base.proofs.PriorityLemmas.{outranks-better, outranks-total}
use Rattle.audit_certificate.specs.Agreement.{Agrees, IsLastOf, order_lines_text}
use Rattle.audit_certificate.specs.Lines.{text_after_lines}
use Rattle.audit_certificate.specs.OneAnswer.{AgreedRuleIsOne, CertificateIsOne, FirstRefusedIsOne}
use Rattle.audit_certificate.specs.Texts.{bound_text, head_text, last_text}
use Rattle.audit_certificate.proofs.VerifyLemmas.{one-rule}

-- the last order of a side that trades is at one place
module _ (orders : List Order) (deals : List Deal) (side : Side) where
  one-last : (a b : Option ℕ) → IsLastOf orders deals side a → IsLastOf orders deals side b → option_map (place_at orders) a ≡ option_map (place_at orders) b
  one-last None None x y = refl
  one-last None (Some b) x y = let none = x b y.stands in let some = y.trades in absurd (omega arith)
  one-last (Some a) None x y = let none = y a x.stands in let some = x.trades in absurd (omega arith)
  one-last (Some a) (Some b) x y = elim (cases_eq (place_at orders a) (place_at orders b)) [
    | inl same ↦ ap (λ (p : ℕ). Some p) same
    | inr apart ↦ elim (outranks-total side (order_at orders a) (order_at orders b) apart) [
      | inl over ↦
          let none = x.worse b y.stands (outranks-better side (order_at orders a) (order_at orders b) x.stands.of_side y.stands.of_side over) in
          let some = y.trades in
          absurd (omega arith)
      | inr under ↦
          let none = y.worse a x.stands (outranks-better side (order_at orders b) (order_at orders a) y.stands.of_side x.stands.of_side under) in
          let some = x.trades in
          absurd (omega arith)
    ]
  ]

pub one-certificate : CertificateIsOne
one-certificate the_rule symbol orders deals one other x y =
    let price = one-least _ x.price y.price x.least y.least in
    let bid = one-last orders deals Buy x.bid y.bid x.last_bid y.last_bid in
    let ask = one-last orders deals Sell x.ask y.ask x.last_ask y.last_ask in
    x.text_is
    ∙ (λ i. head_text the_rule symbol ++ 10 ∷ [] ++ (bound_text (price i) (volume deals) ++ 10 ∷ [])
    ++ (last_text Buy (bid i) ++ 10 ∷ []) ++ (last_text Sell (ask i) ++ 10 ∷ []) ++ order_lines_text orders deals 0 (length orders))
    ∙ sym y.text_is

-- a rule that asks for the greatest volume, as one of the five
volume-rule : (a : Rule) (r : VolumeRule) → volume_rule a ≡ Some r → a ≡ rule_of_volume r
volume-rule rule.Matching r e = absurd (cc e)
volume-rule rule.Fair r e = absurd (cc e)
volume-rule rule.Uniform r e = ap rule_of_volume (some-same _ r e)
  where
    some-same : (x y : VolumeRule) → Some x ≡ Some y → x ≡ y
    some-same x y e = cc
volume-rule rule.Maximum r e = ap rule_of_volume (some-same _ r e)
  where
    some-same : (x y : VolumeRule) → Some x ≡ Some y → x ≡ y
    some-same x y e = cc
volume-rule rule.Continuous r e = absurd (cc e)

some-and : {A : Type 0} (o : Option A) (P : A → Type 0) → IsSomeAnd o P → (x : A) × (o ≡ Some x) × P x
some-and None P is = absurd is
some-and (Some x) P is = (x, refl, is)

pub agreed-rule : AgreedRuleIsOne
agreed-rule one other symbol orders deals bytes x y =
    let a = some-and (volume_rule one) (λ r. Agrees r symbol orders deals bytes) x in
    let b = some-and (volume_rule other) (λ r. Agrees r symbol orders deals bytes) y in
    let same = one-rule a.0 b.0 symbol orders deals (text_after_lines 0 bytes) (a.2 1 (omega arith)) (b.2 1 (omega arith)) in
    volume-rule one a.0 a.1 ∙ ap rule_of_volume same ∙ sym (volume-rule other b.0 b.1)

-- the lines before a later line pass, so an earlier one is not refused
pub first-refused : FirstRefusedIsOne
first-refused symbol orders deals bytes one other x y = elim (cases_order one other) [
  | inl same ↦ same
  | inr apart ↦ elim apart [
    | inl less ↦ absurd (x.fails y.some (λ k lt. y.passed k (omega (arith, lt, less))) (y.passed one less))
    | inr more ↦ absurd (y.fails x.some (λ k lt. x.passed k (omega (arith, lt, more))) (x.passed other more))
  ]
]
