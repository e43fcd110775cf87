use Rattle.std.proofs.Common.{◌∙◌, sym}
use Rattle.fix_framing.proofs.TrailerLemmas.{fault-trailer, fault-sum, no-fault}
use Rattle.fix_framing.proofs.frames.check_trailer.Goals as goal

pub returns-then-not-is_checksum_field-clause-tests : goal.returns-then-not-is_checksum_field-clause-tests
returns-then-not-is_checksum_field-clause-tests c =
    λ header place. sym (fault-trailer header c.args.text.now c.args.trailer place c.if-text-trailer.false (sym c.is_checksum_field.ensures ∙ c.if-not-is_checksum_field.true))

pub returns-then-value_of-from-clause-tests : goal.returns-then-value_of-from-clause-tests
returns-then-value_of-from-clause-tests c =
    λ header place. sym (fault-sum header c.args.text.now c.args.trailer place c.if-text-trailer.false (sym c.is_checksum_field.ensures ∙ c.if-not-is_checksum_field.false) (λ same. c.if-value_of-from.true (c.value_of.ensures.value ∙ (same ∙ sym (c.from.ensures ∙ c.checksum.ensures)))))

pub returns-clause-tests : goal.returns-clause-tests
returns-clause-tests c =
    λ header place. sym (no-fault header c.args.text.now c.args.trailer place c.if-text-trailer.false (sym c.is_checksum_field.ensures ∙ c.if-not-is_checksum_field.false) (sym c.value_of.ensures.value ∙ (c.if-value_of-from.false ∙ (c.from.ensures ∙ c.checksum.ensures))))
