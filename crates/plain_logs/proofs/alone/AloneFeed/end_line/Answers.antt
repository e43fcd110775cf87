use Rattle.std.proofs.Common.{refl, arith}
use Rattle.plain_logs.proofs.AloneLemmas.{ends-alone}
use Rattle.plain_logs.proofs.alone.AloneFeed.end_line.Goals as goal

pub returns : goal.returns
returns g c =
    ends-alone g.S.SohGhost.text c.args.self.now _ c.in_ok-end.end (record { text = c.in_ok-end.end.text; bad = c.passed_over-bad.result }) refl c.passed_over-bad.ensures (omega (arith, c.from.ensures, c.count_passed-passed.ensures))
    (omega (arith, c.count_passed-passed.ensures)) refl refl c.in_ok-end.ensures.ends c.in_ok-end.ensures.anew
