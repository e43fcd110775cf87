use Rattle.std.proofs.Common.{refl, append_assoc, append-nil}
use Rattle.audit_base.proofs.DigitLemmas.{fixed_digits_last, fixed_digits_none}
use Rattle.audit_base.proofs.digits.+append_digits.Goals as goal

pub returns-then-width-gt0-clause-appended : goal.returns-then-width-gt0-clause-appended
returns-then-width-gt0-clause-appended t c =
    rw (c.append_byte.ensures.appended, c.append_digits.ensures.appended, fixed_digits_last c.args.width c.args.number c.if-width-gt0.true, append_assoc) refl

pub returns-else-width-gt0-clause-appended : goal.returns-else-width-gt0-clause-appended
returns-else-width-gt0-clause-appended t c =
    rw (fixed_digits_none c.args.width c.args.number c.if-width-gt0.false, append-nil) refl
