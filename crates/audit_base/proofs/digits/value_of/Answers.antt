use Rattle.std.proofs.Common.{◌-◌, arith, get_or}
use Rattle.std.proofs.lemmas.Int.Digits.{digits_value_more}
use Rattle.audit_base.proofs.DigitLemmas.{digit_at, digit_value_is, ten_times, ten_more}
use Rattle.audit_base.proofs.digits.value_of.Goals as goal

pub overflow_mul-value : goal.overflow_mul-value
overflow_mul-value c =
    let room = ten_times c.loop-byte.value c.loop-byte.byte-index c.loop-byte.invariant.1 (omega arith) in omega arith

pub overflow_add-value : goal.overflow_add-value
overflow_add-value c =
    let room = ten_times c.loop-byte.value c.loop-byte.byte-index c.loop-byte.invariant.1 (omega arith) in
    let digit = digit_at c.args.text.now c.loop-byte.byte-index c.loop-byte-test.true c.requires.digits in omega arith

pub loop-byte-preserved : goal.loop-byte-preserved
loop-byte-preserved c =
    let digit = digit_at c.args.text.now c.loop-byte.byte-index c.loop-byte-test.true c.requires.digits in
    let value = digit_value_is (get_or c.args.text.now c.loop-byte.byte-index 0) digit.0 digit.1 in
    let more = digits_value_more 10 c.args.text.now c.loop-byte.byte-index c.loop-byte-test.true in (
      cc,
      ten_more c.loop-byte.value (get_or c.args.text.now c.loop-byte.byte-index 0 - 48) c.loop-byte.byte-index c.loop-byte.invariant.1 (omega arith),
    )
