-- That deals have one certificate, and a text one answer, as statements.
use Rattle.std.specs.Prelude.{◌≡◌, ℕ, List}
use Rattle.audit_base.specs.declared.terms.Rule.{Rule}
use Rattle.audit_base.specs.declared.terms.VolumeRule.{VolumeRule}
use Rattle.audit_base.specs.declared.orders.Order.{Order}
use Rattle.audit_base.specs.declared.orders.Deal.{Deal}
use Rattle.audit_certificate.specs.Agreement.{AgreesUnder, IsCertificate, IsFirstRefused}

-- deals have at most one certificate under a rule
abbrev pub CertificateIsOne : Type 0
CertificateIsOne = (the_rule : VolumeRule) (symbol : List ℕ) (orders : List Order)
    (deals : List Deal) (one other : List ℕ) → IsCertificate the_rule symbol orders deals one
    → IsCertificate the_rule symbol orders deals other → one ≡ other

-- a text agrees under at most one rule
abbrev pub AgreedRuleIsOne : Type 0
AgreedRuleIsOne = (one other : Rule) (symbol : List ℕ) (orders : List Order) (deals : List Deal)
    (bytes : List ℕ) → AgreesUnder one symbol orders deals bytes
    → AgreesUnder other symbol orders deals bytes → one ≡ other

-- a text has at most one first line that is refused
abbrev pub FirstRefusedIsOne : Type 0
FirstRefusedIsOne = (symbol : List ℕ) (orders : List Order) (deals : List Deal) (bytes : List ℕ)
    (one other : ℕ) → IsFirstRefused symbol orders deals bytes one
    → IsFirstRefused symbol orders deals bytes other → one ≡ other
