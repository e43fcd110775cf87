use Rattle.audit_base.proofs.NumberLemmas.{price_again}
use Rattle.audit_base.proofs.UnquotedLemmas.{price_is_unquoted}
use Rattle.audit_base.proofs.texts.write_price.Goals as goal

pub returns-in_err-reserve-clause-read_again : goal.returns-in_err-reserve-clause-read_again
returns-in_err-reserve-clause-read_again c = price_again c.args.units

pub returns-in_err-reserve-clause-unquoted : goal.returns-in_err-reserve-clause-unquoted
returns-in_err-reserve-clause-unquoted c = price_is_unquoted c.args.units c.requires

pub returns-clause-read_again : goal.returns-clause-read_again
returns-clause-read_again c = price_again c.args.units

pub returns-clause-unquoted : goal.returns-clause-unquoted
returns-clause-unquoted c = price_is_unquoted c.args.units c.requires
