use Rattle.std.proofs.Common.{◌≤◌, ◌<◌, ◌-◌}
use Rattle.std.proofs.Common.{length}
use Rattle.fix_days.specs.Undressings.{IsUndressed}
use Rattle.fix_days.proofs.looking.look_at.Given as goal

-- the message so far is what the bytes held stand for up to the place that was reached
abbrev pub invariant-looks : goal.invariant-looks
invariant-looks l =
    (l.at ≤ length l.fn.held) × (0 < l.count) × (l.count ≤ 1048606)
    × IsUndressed l.fn.soh l.fn.held l.fn.place l.fn.ended l.at l.message.items

abbrev pub decreases-looks : goal.decreases-looks
decreases-looks l = 1048607 - l.count
