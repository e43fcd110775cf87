use Rattle.audit_base.proofs.digits.+append_fraction_digits.Given as goal

abbrev pub decreases-append_fraction_digits : goal.decreases-append_fraction_digits
decreases-append_fraction_digits l = l.places
