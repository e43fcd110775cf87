-- The log that is put comes after the others, so that they and the slots stay as they are.
use Rattle.audit_base.specs.declared.terms.Which.TheVariants.{Orders, Trades}
use Rattle.log_source.specs.declared.cursors.NamedLog.{NamedLog}
use Rattle.log_source.proofs.CursorLemmas.{put_given, put_others, put_slots}
use Rattle.log_source.proofs.memory_shelf.MemoryShelf.put.Goals as goal

pub returns-clause-given : goal.returns-clause-given
returns-clause-given c =
    let log : NamedLog = record { name = c.args.name; bytes = c.args.bytes } in
    put_given c.args.self.now.logs.items c.push.new.self.items log c.in_ok-push.ensures.items

pub returns-clause-others : goal.returns-clause-others
returns-clause-others c =
    let log : NamedLog = record { name = c.args.name; bytes = c.args.bytes } in
    put_others c.args.self.now.logs.items c.push.new.self.items log c.in_ok-push.ensures.items

pub returns-clause-slots : goal.returns-clause-slots
returns-clause-slots c =
    let log : NamedLog = record { name = c.args.name; bytes = c.args.bytes } in
    let stays = put_slots c.args.self.now.logs.items c.push.new.self.items log c.in_ok-push.ensures.items in
    elim [ Orders ↦ stays c.args.self.now.orders c.args.self.now.orders_within | Trades ↦ stays c.args.self.now.trades c.args.self.now.trades_within ]
