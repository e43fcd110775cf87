use Rattle.std.proofs.Common.{◌∙◌, ap, sym, sum_by}
use Rattle.audit_base.specs.Deals.{number_at}
use Rattle.audit_base.proofs.ContinuousLemmas.{chain-none}
use Rattle.order_arrivals.proofs.arrivals.chain_traded_of.Goals as goal

pub returns-in-Some-clause-chain : goal.returns-in-Some-clause-chain
returns-in-Some-clause-chain c orders list same are target = c.along_chain.ensures.chain orders list same are

pub returns-in-None-clause-chain : goal.returns-in-None-clause-chain
returns-in-None-clause-chain c orders list same are target = sym (ap (sum_by (number_at c.args.sums.now.amounts)) (chain-none orders list c.args.order (target ∙ c.in-None.is)))
