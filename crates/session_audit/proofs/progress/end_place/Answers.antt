use Rattle.std.proofs.Common.{◌+◌, arith}
use Rattle.session_audit.specs.declared.phases.PhaseKind.TheVariants as kind
use Rattle.session_audit.proofs.progress.end_place.Goals as goal

pub overflow_sub-result : goal.overflow_sub-result
overflow_sub-result c =
    let r = c.requires.phases.rising c.args.index (c.args.index + 1) (record { kind = kind.Uniform; first = 0 }) (omega arith) c.if-index-phases.true in
    omega arith
