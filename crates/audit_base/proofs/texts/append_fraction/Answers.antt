use Rattle.std.proofs.Common.{◌≡◌, refl, append_assoc, append-nil, arith}
use Rattle.audit_base.proofs.NumberLemmas.{no_fraction_digits, point_before}
use Rattle.audit_base.proofs.texts.append_fraction.Goals as goal

pub returns-then-fraction-gt0 : goal.returns-then-fraction-gt0
returns-then-fraction-gt0 c =
    let point = point_before 8 c.args.fraction (omega arith) (omega arith) in grind (arith, append_assoc)

pub returns-else-fraction-gt0 : goal.returns-else-fraction-gt0
returns-else-fraction-gt0 c =
    let none : c.args.fraction ≡ 0 = omega arith in
    rw (none, no_fraction_digits 8, append-nil) refl
