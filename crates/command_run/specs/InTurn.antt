-- Two readings of one call: of the order log, and after it of the trade log.
use Rattle.std.specs.Prelude.{◌≡◌, ℕ, List}
use Rattle.audit_base.specs.declared.terms.Which.{Which}
use Rattle.audit_base.specs.declared.terms.Which.TheVariants.{Orders, Trades}
use Rattle.log_verdict.specs.Collecting.{TouchesOnly}
use Rattle.log_verdict.specs.Steps.{Reading}

-- The second reading begins where the first ended, with the same limit and over the same shelf;
-- the first touched the order log alone, and the second the trade log.
pub record ReadsInTurn (first second : Reading) : Type 0 where
  pub limit : second.limit ≡ first.limit
  pub tells : second.tells ≡ first.tells
  pub logs : (log : Which) (name : List ℕ) → second.log_of log name ≡ first.log_of log name
  pub begins : (log : Which) → second.before log ≡ first.after log
  pub orders : TouchesOnly first Orders
  pub trades : TouchesOnly second Trades

-- the reading of the whole call: it begins where the first begins, and ends where the second ends
abbrev pub reading_of_both : Reading → Reading → Reading
reading_of_both first second = record first { after = second.after }
