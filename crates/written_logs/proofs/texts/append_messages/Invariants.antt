-- the messages of the orders so far are appended
use Rattle.std.proofs.Common.{◌≡◌, ◌++◌, take}
use Rattle.fix_messages.specs.Written.{fix_orders_text}
use Rattle.written_logs.proofs.texts.append_messages.Given as goal

abbrev pub invariant-loop-entry : goal.invariant-loop-entry
invariant-loop-entry l = l.out.items ≡ l.fn.out.items ++ fix_orders_text (take l.entry-index l.fn.entries)
