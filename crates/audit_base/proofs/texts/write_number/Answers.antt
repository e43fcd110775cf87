use Rattle.std.proofs.Common.{arith}
use Rattle.audit_base.proofs.NumberLemmas.{quantity_again}
use Rattle.audit_base.proofs.UnquotedLemmas.{decimal_is_unquoted}
use Rattle.audit_base.proofs.texts.write_number.Goals as goal

pub returns-clause-read_again : goal.returns-clause-read_again
returns-clause-read_again c = quantity_again c.args.number

pub returns-clause-unquoted : goal.returns-clause-unquoted
returns-clause-unquoted c = decimal_is_unquoted c.args.number (omega arith)

pub returns-in_err-extend_from_slice-clause-read_again : goal.returns-in_err-extend_from_slice-clause-read_again
returns-in_err-extend_from_slice-clause-read_again c = quantity_again c.args.number

pub returns-in_err-extend_from_slice-clause-unquoted : goal.returns-in_err-extend_from_slice-clause-unquoted
returns-in_err-extend_from_slice-clause-unquoted c = decimal_is_unquoted c.args.number (omega arith)
