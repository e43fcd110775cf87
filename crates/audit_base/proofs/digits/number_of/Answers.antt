use Rattle.std.proofs.Common.{◌≡◌, true, ◌-◌, get_or, arith, sym, ◌∙◌}
use Rattle.std.specs.Char.{is_ascii_digit}
use Rattle.std.proofs.lemmas.Bool.{and_from}
use Rattle.std.proofs.lemmas.Int.Digits.{digits_value_more}
use Rattle.std.proofs.lemmas.List.Folds.{list_all_more}
use Rattle.audit_base.proofs.DigitLemmas.{digit_bounds, digit_value_is, ten_times, ten_more}
use Rattle.audit_base.proofs.digits.number_of.Goals as goal

pub overflow_mul-value : goal.overflow_mul-value
overflow_mul-value c =
    let room = ten_times c.loop-byte.value c.loop-byte.byte-index c.loop-byte.invariant.below (omega arith) in omega arith

pub overflow_add-value : goal.overflow_add-value
overflow_add-value c =
    let is : is_ascii_digit (get_or c.args.text.now c.loop-byte.byte-index 0) ≡ true = sym c.is_ascii_digit.ensures.value ∙ c.if-not-is_ascii_digit.false in
    let room = ten_times c.loop-byte.value c.loop-byte.byte-index c.loop-byte.invariant.below (omega arith) in
    let digit = digit_bounds (get_or c.args.text.now c.loop-byte.byte-index 0) is in omega arith

pub loop-byte-preserved : goal.loop-byte-preserved
loop-byte-preserved c =
    let is : is_ascii_digit (get_or c.args.text.now c.loop-byte.byte-index 0) ≡ true = sym c.is_ascii_digit.ensures.value ∙ c.if-not-is_ascii_digit.false in
    let digit = digit_bounds (get_or c.args.text.now c.loop-byte.byte-index 0) is in
    let value = digit_value_is (get_or c.args.text.now c.loop-byte.byte-index 0) digit.0 digit.1 in
    let more = digits_value_more 10 c.args.text.now c.loop-byte.byte-index c.loop-byte-test.true in
    record {
      digits = list_all_more is_ascii_digit c.args.text.now c.loop-byte.byte-index 0 c.loop-byte-test.true ∙ and_from _ _ c.loop-byte.invariant.digits is;
      value = cc;
      below = ten_more c.loop-byte.value (get_or c.args.text.now c.loop-byte.byte-index 0 - 48) c.loop-byte.byte-index c.loop-byte.invariant.below (omega arith);
    }
