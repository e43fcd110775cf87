use Rattle.std.proofs.Common.{◌≡◌, ◌-◌, ◌≤◌, length}
use Rattle.memchr.specs.Find.{Nowhere}
use Rattle.fix_fields.specs.Marks.{IsEnd}
use Rattle.fix_fields.proofs.marks.MarkedText.first_behind.Given as goal

abbrev pub invariant-loop-from : goal.invariant-loop-from
invariant-loop-from l =
    (l.self.text.now ≡ l.initial.self.text.now) × (l.at ≤ l.from) × Nowhere (IsEnd l.initial.self.text.now) l.at l.from

abbrev pub decreases-loop-from : goal.decreases-loop-from
decreases-loop-from l = length l.initial.self.text.now - l.from
