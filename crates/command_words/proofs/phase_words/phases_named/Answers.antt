use Rattle.std.proofs.Common.{rules, ◌≡◌, Some}
use Rattle.command_words.specs.PhaseWords as spec
use Rattle.command_words.proofs.PhaseWordLemmas.{day_phases}
use Rattle.command_words.proofs.phase_words.phases_named.Goals as goal

pub returns-in-Some-clause-day : goal.returns-in-Some-clause-day
returns-in-Some-clause-day c =
    let e : spec.phases_named c.args.word.now ≡ Some c.of.result = search rules in
    day_phases c.args.word.now c.of.result e
