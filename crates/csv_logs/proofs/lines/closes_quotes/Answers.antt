use Rattle.std.proofs.Common.{ap, sym, get_or, refl, ◌∙◌}
use Rattle.csv_logs.specs.Readers.{state_after_bytes}
use Rattle.csv.specs.Machine.{step}
use Rattle.csv.specs.Reading.{default_config}
use Rattle.csv.specs.declared.parser.State.{State}
use Rattle.csv.specs.declared.parser.State.TheVariants.{StartField}
use Rattle.csv_logs.proofs.ClosedLemmas.{behind-more, printable-at}
use Rattle.csv_logs.proofs.lines.closes_quotes.Goals as goal

pub loop-byte-init : goal.loop-byte-init
unfolding state_after_bytes
loop-byte-init c = refl

pub state_after-state-requires : goal.state_after-state-requires
state_after-state-requires c = printable-at c.args.line.now c.loop-byte.byte-index c.loop-byte-test.true c.requires

pub loop-byte-preserved : goal.loop-byte-preserved
loop-byte-preserved c =
    c.state_after-state.ensures
    ∙ ap (λ (s : State). (step default_config s (get_or c.args.line.now c.loop-byte.byte-index 0)).0) c.loop-byte.invariant
    ∙ sym (behind-more StartField c.args.line.now c.loop-byte.byte-index c.loop-byte-test.true)
