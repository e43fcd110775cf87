use Rattle.std.proofs.Common.{◌≡◌, ◌∙◌, sym, subst, List, ℕ, Some}
use Rattle.audit_base.specs.RuleKinds.{volume_rule}
use Rattle.audit_certificate.specs.Agreement.{AgreesUnder, IsCertificateUnder}
use Rattle.audit_certificate.specs.Bounds.{IsCertificatePrice}
use Rattle.audit_certificate.specs.Certifying.{written_text}
use Rattle.audit_certificate.proofs.CertifyLemmas.{IsMade, made}
use Rattle.audit_certificate.proofs.LastLemmas.{if_ok-weaker}
use Rattle.audit_certificate.proofs.certifying.certify.Goals as goal

pub returns : goal.returns
returns c =
    let rule_is : volume_rule c.args.rule ≡ Some c.unwrap-rule.result = sym c.volume_rule.ensures ∙ c.unwrap-rule.ensures in
    let both : (text : List ℕ) → text ≡ written_text c.unwrap-rule.result c.args.symbol.now c.args.orders.now c.in_ok-counts.counts c.in_ok-price.price → IsMade c.args.rule c.args.symbol.now c.args.orders.now c.args.deals.now text =
    made c.greatest_matching_reaches_the_least_cut.ensures c.short_orders_do_not_meet.ensures c.args.rule c.unwrap-rule.result c.args.symbol.now c.args.orders.now c.args.deals.now rule_is c.bytes.ensures.in_form c.requires.order_list
    c.numbers_are_in_range.ensures c.deals_in_range.ensures c.requires.conforms c.in_ok-counts.counts c.in_ok-counts.ensures c.in_ok-price.price (subst (λ traded. IsCertificatePrice c.unwrap-rule.result c.args.orders.now traded c.in_ok-price.price) c.deref.ensures.value c.in_ok-price.ensures.price) in
    record {
      certificate = if_ok-weaker c.certificate_of.result _ (λ text. IsCertificateUnder c.args.rule c.args.symbol.now c.args.orders.now c.args.deals.now text.items) (λ text is. (both text.items is).certificate) c.certificate_of.ensures;
      agrees = if_ok-weaker c.certificate_of.result _ (λ text. AgreesUnder c.args.rule c.args.symbol.now c.args.orders.now c.args.deals.now text.items) (λ text is. (both text.items is).agrees) c.certificate_of.ensures;
    }
