use Rattle.verdict_laws.proofs.ConformingLemmas.{conforming, history-conforming}
use Rattle.verdict_laws.proofs.existence.some_trades_conform.Goals as goal

pub returns-clause-orders : goal.returns-clause-orders
returns-clause-orders c = conforming c.conforming_list_exists.ensures c.continuous_existence.ensures.conform c.continuous_existence.ensures.exist

pub returns-clause-histories : goal.returns-clause-histories
returns-clause-histories c = history-conforming (conforming c.conforming_list_exists.ensures c.continuous_existence.ensures.conform c.continuous_existence.ensures.exist)
