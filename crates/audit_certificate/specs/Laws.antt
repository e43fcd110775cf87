-- The laws of certificates, as statements.
use Rattle.std.specs.Prelude.{ℕ, List, IsTrue}
use Rattle.audit_base.specs.declared.terms.VolumeRule.{VolumeRule}
use Rattle.audit_base.specs.declared.orders.Order.{Order}
use Rattle.audit_base.specs.declared.orders.Deal.{Deal}
use Rattle.audit_base.specs.Names.{is_name}
use Rattle.audit_base.specs.Orders.{IsOrderList, OrdersInRange}
use Rattle.audit_base.specs.Deals.{DealsInRange}
use Rattle.audit_base.specs.Rules.{Conforms}
use Rattle.audit_base.specs.RuleKinds.{rule_of_volume}
use Rattle.audit_certificate.specs.Agreement.{Agrees, IsCertificate}

-- certificate soundness: where a certificate agrees, the deals conform to its rule
abbrev pub CertificateSoundness : Type 0
CertificateSoundness = (the_rule : VolumeRule) (symbol : List ℕ) (orders : List Order)
    (deals : List Deal) (bytes : List ℕ) → IsOrderList orders
    → Agrees the_rule symbol orders deals bytes → Conforms (rule_of_volume the_rule) orders deals

-- certificate completeness: deals that conform to `uniform` or `maximum` have a certificate, and it
-- agrees
abbrev pub CertificateCompleteness : Type 0
CertificateCompleteness = (the_rule : VolumeRule) (symbol : List ℕ) (orders : List Order)
    (deals : List Deal) → IsTrue (is_name symbol) → IsOrderList orders → OrdersInRange orders
    → DealsInRange deals → Conforms (rule_of_volume the_rule) orders deals
    → (text : List ℕ) × IsCertificate the_rule symbol orders deals text
    × Agrees the_rule symbol orders deals text
