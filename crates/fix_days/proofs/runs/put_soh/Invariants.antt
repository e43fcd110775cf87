use Rattle.std.proofs.Common.{◌≡◌, ◌==◌, cond, ◌++◌, take, drop, map}
use Rattle.fix_days.proofs.runs.put_soh.Given as goal

-- the bytes so far are replaced
abbrev pub invariant-loop-each : goal.invariant-loop-each
invariant-loop-each l =
    l.bytes ≡ map (λ b. cond (b == l.byte) 1 b) (take l.each-index l.fn.bytes) ++ drop l.each-index l.fn.bytes
