use Rattle.std.proofs.Common.{ap, arith}
use Rattle.audit_base.proofs.UnquotedLemmas.{stamp_is_unquoted}
use Rattle.audit_base.proofs.StampLemmas.{stamp_again}
use Rattle.audit_base.proofs.texts.write_stamp.Goals as goal
use Rattle.audit_base.proofs.texts.write_stamp.Goals.{In_err-reserve, After-append_nano}

pub returns-in_err-reserve-clause-read_again : goal.returns-in_err-reserve-clause-read_again
returns-in_err-reserve-clause-read_again c =
    let s = ap (λ m. m.second) c.stamp.view_is in
    let n = ap (λ m. m.nano) c.stamp.view_is in
    stamp_again c.args.stamp (omega arith) (omega arith)

pub returns-in_err-reserve-clause-unquoted : goal.returns-in_err-reserve-clause-unquoted
returns-in_err-reserve-clause-unquoted c = stamp_is_unquoted c.args.stamp

pub returns-clause-read_again : goal.returns-clause-read_again
returns-clause-read_again c =
    let s = ap (λ m. m.second) c.stamp.view_is in
    let n = ap (λ m. m.nano) c.stamp.view_is in
    stamp_again c.args.stamp (omega arith) (omega arith)

pub returns-clause-unquoted : goal.returns-clause-unquoted
returns-clause-unquoted c = stamp_is_unquoted c.args.stamp
