-- That a symbol has one session, as a law.
use Rattle.std.specs.Prelude.{◌≡◌, ℕ, Bool, List, Result}
use Rattle.audit_base.specs.declared.findings.Finding.{Finding}
use Rattle.audit_base.specs.declared.records.OrderRecord.{OrderRecord}
use Rattle.audit_base.specs.declared.records.TradeRecord.{TradeRecord}
use Rattle.audit_base.specs.Trades.{TradesInRange}
use Rattle.audit_base.specs.Verdicts.{paired_trades}
use Rattle.session_audit.specs.declared.phases.Phase.{Phase}
use Rattle.session_audit.specs.SessionVerdicts.{IsSessionOfRecords}

-- Two sessions conform alike and have one text.
pub record SayTheSame (a_conforms : Bool) (a_text : List ℕ) (b_conforms : Bool) (b_text : List ℕ)
    : Type 0 where
  pub conforms_same : a_conforms ≡ b_conforms
  pub text_same : a_text ≡ b_text

-- one session: by the same phases, the same records have one session of a symbol
abbrev pub SessionIsOne : Type 0
SessionIsOne = (symbol : List ℕ) (phases : List Phase) (table : Bool) (entries : List OrderRecord)
    (paired : Result (List TradeRecord) Finding) (a_conforms b_conforms : Bool)
    (a_text b_text : List ℕ) → TradesInRange (paired_trades paired)
    → IsSessionOfRecords symbol phases table entries paired a_conforms a_text
    → IsSessionOfRecords symbol phases table entries paired b_conforms b_text
    → SayTheSame a_conforms a_text b_conforms b_text
