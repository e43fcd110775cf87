-- 64 digits are read, and are those of what was read.
use Rattle.std.proofs.Common.{sym, ap, ◌∙◌}
use Rattle.std.proofs.lemmas.Result.{MatchResult-at_ok}
use Rattle.hex.specs.Hex.{encode_lower}
use Rattle.log_digests.proofs.DigitLemmas.{are_written}
use Rattle.log_digests.proofs.digits.bytes_of.Goals as goal

pub unreachable-requires : goal.unreachable-requires
unreachable-requires c =
    let written = are_written c.args.digits.now c.requires in
    let is_ok = (MatchResult-at_ok _ _ written.bytes written.read c.decode_to_slice.ensures.value).0 in
    absurd (c.in_default.not-Ok tt is_ok)

pub returns : goal.returns
returns c =
    let written = are_written c.args.digits.now c.requires in
    let is = (MatchResult-at_ok _ _ written.bytes written.read c.decode_to_slice.ensures.value).1 in
    written.again ∙ ap encode_lower (sym is)
