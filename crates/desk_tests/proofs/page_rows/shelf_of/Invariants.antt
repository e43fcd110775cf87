use Rattle.std.proofs.Common.{◌≡◌, false}
use Rattle.audit_base.specs.declared.terms.Which.{Which}
use Rattle.log_source.specs.MemoryShelves.{memory_slot}
use Rattle.desk_tests.proofs.page_rows.shelf_of.Given as goal

-- to put a log starts nothing
abbrev pub invariant-logs : goal.invariant-logs
invariant-logs l = (which : Which) → (memory_slot l.shelf which).started ≡ false
