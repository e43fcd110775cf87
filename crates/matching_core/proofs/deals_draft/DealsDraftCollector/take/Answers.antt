use Rattle.std.proofs.lemmas.Result.{on_ok_weaker}
use Rattle.matching_core.proofs.deals_draft.DealsDraftCollector.take.Goals as goal

pub returns : goal.returns
returns g c =
    on_ok_weaker c.take.result (λ takes trades has. record { named = has.named; among = has.among; so_far = takes trades has.so_far }) c.take.ensures
