use Rattle.call_laws.proofs.ExistenceLemmas.{expected-exist, dues-exist}
use Rattle.call_laws.proofs.existence.expected_trades_and_dues_exist.Goals as goal

pub returns : goal.returns
returns c = record { expected = expected-exist; dues = dues-exist }
