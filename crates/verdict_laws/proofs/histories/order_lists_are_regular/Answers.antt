use Rattle.audit_base.proofs.HistoryLemmas.{order_list-is, order_list-keys, order_list-regular}
use Rattle.verdict_laws.proofs.histories.order_lists_are_regular.Goals as goal

pub returns-clause-listed : goal.returns-clause-listed
returns-clause-listed c = order_list-is

pub returns-clause-regular : goal.returns-clause-regular
returns-clause-regular c = order_list-regular

pub returns-clause-keys : goal.returns-clause-keys
returns-clause-keys c = order_list-keys
