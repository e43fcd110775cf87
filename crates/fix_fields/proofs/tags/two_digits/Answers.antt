use Rattle.std.proofs.Common.{◌≡◌, true, false, eqb, get_or, sym, ◌∙◌}
use Rattle.std.specs.Char.{is_ascii_digit}
use Rattle.fix_fields.proofs.ShortTagLemmas.{two-digits}
use Rattle.fix_fields.proofs.tags.two_digits.Goals as goal

pub returns : goal.returns
returns c =
    let bytes = c.args.bytes.now in
    let first : is_ascii_digit (get_or bytes 0 0) ≡ true = c.begins_tag.ensures.digit c.if-not-begins_tag.false in
    let second : is_ascii_digit (get_or bytes 1 0) ≡ true = sym c.is_ascii_digit.ensures.value ∙ c.if-not-is_ascii_digit.false in
    let other : eqb (get_or bytes 0 0) 48 ≡ false = c.begins_tag.ensures.other c.if-not-begins_tag.false in
    two-digits bytes c.requires.long c.requires.here first second other
