use Rattle.std.proofs.Common.{refl}
use Rattle.audit_base.specs.declared.terms.Which.TheVariants.{Orders, Trades}
use Rattle.desk_run.specs.Converting.{request_to_convert}
use Rattle.desk_run.proofs.WrittenLemmas.{only-later, only-within, written-status}
use Rattle.log_verdict.specs.Steps.{reading_by}
use Rattle.desk_run.proofs.converting.answer_convert.Goals as goal

pub returns-in-Orders-clause-later : goal.returns-in-Orders-clause-later
returns-in-Orders-clause-later g c = only-later _ Orders c.answer_orders.ensures.only

pub returns-in-Orders-clause-decides : goal.returns-in-Orders-clause-decides
returns-in-Orders-clause-decides g c =
    rw c.in-Orders.is (c.one_log_decides.ensures (request_to_convert Orders c.args.source.now c.args.into) (reading_by c.args.source.now g.F.Shelf c.args.shelf.now c.answer_orders.new.shelf) Orders c.args.source.now.name.now c.answer_orders.result c.answer_orders.ensures.only
    (record { first = refl; last = λ bytes. refl }) (λ bytes status text answer. written-status Orders c.args.into _ status text answer) c.answer_orders.ensures.decides)

pub returns-in-Orders-clause-within : goal.returns-in-Orders-clause-within
returns-in-Orders-clause-within g c = only-within _ Orders c.answer_orders.result c.answer_orders.ensures.only c.answer_orders.ensures.within

pub returns-in-Trades-clause-later : goal.returns-in-Trades-clause-later
returns-in-Trades-clause-later g c = only-later _ Trades c.answer_trades.ensures.only

pub returns-in-Trades-clause-decides : goal.returns-in-Trades-clause-decides
returns-in-Trades-clause-decides g c =
    rw c.in-Trades.is (c.one_log_decides.ensures (request_to_convert Trades c.args.source.now c.args.into) (reading_by c.args.source.now g.F.Shelf c.args.shelf.now c.answer_trades.new.shelf) Trades c.args.source.now.name.now c.answer_trades.result c.answer_trades.ensures.only
    (record { first = refl; last = λ bytes. refl }) (λ bytes status text answer. written-status Trades c.args.into _ status text answer) c.answer_trades.ensures.decides)

pub returns-in-Trades-clause-within : goal.returns-in-Trades-clause-within
returns-in-Trades-clause-within g c = only-within _ Trades c.answer_trades.result c.answer_trades.ensures.only c.answer_trades.ensures.within
