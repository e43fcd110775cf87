-- What a step of the verification answers.
use Rattle.std.specs.Prelude.{◌≡◌, ℕ, List, ⊤, Option, None, Some, Result, Ok, Err}
use Rattle.audit_base.specs.declared.orders.Order.{Order}
use Rattle.audit_base.specs.declared.orders.Deal.{Deal}
use Rattle.audit_base.specs.declared.terms.VolumeRule.{VolumeRule}
use Rattle.audit_certificate.specs.Texts.{head_text}
use Rattle.audit_certificate.specs.Agreement.{IsHeadLine}
use Rattle.audit_certificate.specs.declared.faults.VerifyFault.{VerifyFault}
use Rattle.audit_certificate.specs.declared.faults.VerifyFault.TheVariants.{No, Memory}

-- where a line is refused, this holds of its number
abbrev pub IfRefused : {T : Type 0} → Result T VerifyFault → (ℕ → Type 0) → Type 0
IfRefused (Ok value) P = ⊤
IfRefused (Err (No number)) P = P number
IfRefused (Err Memory) P = ⊤

-- the rule that a line 1 names, if it is such a line
abbrev pub IsNamedRule : List ℕ → List ℕ → Option VolumeRule → Type 0
IsNamedRule symbol text (Some the_rule) = text ≡ head_text the_rule symbol
IsNamedRule symbol text None = (the_rule : VolumeRule) → text ≡ head_text the_rule symbol → ⊥

-- the rule under which line 1 passes, if there is one
abbrev pub IsHeadAnswer : List ℕ → List Order → List Deal → List ℕ → Option VolumeRule → Type 0
IsHeadAnswer symbol orders deals text (Some the_rule) =
    IsHeadLine the_rule symbol orders deals text
IsHeadAnswer symbol orders deals text None =
    (the_rule : VolumeRule) → IsHeadLine the_rule symbol orders deals text → ⊥
