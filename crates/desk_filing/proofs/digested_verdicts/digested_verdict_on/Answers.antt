-- The digest of each log.
use Rattle.audit_base.specs.declared.terms.Which.TheVariants.{Orders, Trades}
use Rattle.desk_filing.proofs.digested_verdicts.digested_verdict_on.Goals as goal

pub returns-clause-digests : goal.returns-clause-digests
returns-clause-digests g c Orders = c.digest.ensures
returns-clause-digests g c Trades = c.digest-2.ensures
