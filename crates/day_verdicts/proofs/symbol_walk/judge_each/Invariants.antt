use Rattle.std.proofs.Common.{◌≡◌, ◌++◌, length}
use Rattle.day_verdicts.specs.SymbolWalks.{HasJudgedUpTo}
use Rattle.day_verdicts.proofs.symbol_walk.judge_each.Given as goal

-- the symbols so far are judged, and the others come after them
abbrev pub invariant-loop-records : goal.invariant-loop-records
invariant-loop-records g l =
    (l.yielded ++ l.records-iterator.rest.items ≡ l.fn.ended.kept.items)
    × (l.share_index ≡ length l.yielded)
    × HasJudgedUpTo (g.J.SymbolJudge.admission l.fn.judge) (g.J.SymbolJudge.has_judged l.fn.judge l.fn.first) l.fn.share l.fn.ended l.share_index l.judged
