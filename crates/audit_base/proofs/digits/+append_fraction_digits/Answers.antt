use Rattle.std.proofs.Common.{refl, append-nil}
use Rattle.audit_base.proofs.DigitLemmas.{fraction_digits_zero, fraction_digits_other, fraction_digits_none}
use Rattle.audit_base.proofs.digits.+append_fraction_digits.Goals as goal

pub returns-then-number-eq0-clause-appended : goal.returns-then-number-eq0-clause-appended
returns-then-number-eq0-clause-appended t c =
    rw (fraction_digits_zero c.args.places c.args.number c.if-places-gt0.true c.if-number-eq0.true) c.append_fraction_digits.ensures.appended

pub returns-else-number-eq0-clause-appended : goal.returns-else-number-eq0-clause-appended
returns-else-number-eq0-clause-appended t c =
    rw (fraction_digits_other c.args.places c.args.number c.if-places-gt0.true c.if-number-eq0.false) c.append_digits.ensures.appended

pub returns-else-places-gt0-clause-appended : goal.returns-else-places-gt0-clause-appended
returns-else-places-gt0-clause-appended t c =
    rw (fraction_digits_none c.args.places c.args.number c.if-places-gt0.false, append-nil) refl
