use Rattle.std.proofs.Common.{◌≡◌, ℕ, ◌-◌, ◌≤◌, true, nat_le, nat_eq, List, Option, Some, None, length, take, drop, slice_index, ◌∙◌, ap, sym, eq-eqb, refl}
use Rattle.std.proofs.lemmas.Bool.{le-leb}
use Rattle.std.proofs.lemmas.List.{take_rest}
use Rattle.audit_base.specs.Stamps.{date_form, clock_form, fraction_form, moment_of, stamp_form}
use Rattle.audit_base.proofs.stamps.read_stamp.Goals as goal

-- a point in time, by what its parts were read as
from_parts : (text : List ℕ) (day clock nano : Option ℕ) → 17 ≤ length text → slice_index text 8 ≡ 45
    → day ≡ date_form (take 8 text) → clock ≡ clock_form (take 8 (drop 9 text))
    → nano ≡ fraction_form (take (length text - 17) (drop 17 text)) → moment_of day clock nano ≡ stamp_form text
from_parts text day clock nano size at date' clock' nano' =
    let long : nat_le 17 (length text) ≡ true = le-leb 17 (length text) size in
    let dash : nat_eq (slice_index text 8) 45 ≡ true = eq-eqb (slice_index text 8) 45 at in
    (λ i. moment_of (date' i) (clock' i) ((nano' ∙ ap fraction_form (take_rest text 17)) i))
    ∙ sym (rw (long, dash) refl)

pub returns-in_err-nano : goal.returns-in_err-nano
returns-in_err-nano c =
    c.from_residual-in_err-nano.ensures
    ∙ from_parts c.args.text.now (Some c.in_ok-day.day) (Some c.in_ok-clock.clock) None c.if-text-lt17.false c.if-text-ne45.false
    (sym c.in_ok-day.was ∙ c.read_date.ensures.value) (sym c.in_ok-clock.was ∙ c.read_clock.ensures.value)
    (sym c.in_err-nano.was ∙ c.read_fraction.ensures.value)

pub returns : goal.returns
returns c =
    from_parts c.args.text.now (Some c.in_ok-day.day) (Some c.in_ok-clock.clock) (Some c.in_ok-nano.nano) c.if-text-lt17.false c.if-text-ne45.false
    (sym c.in_ok-day.was ∙ c.read_date.ensures.value) (sym c.in_ok-clock.was ∙ c.read_clock.ensures.value)
    (sym c.in_ok-nano.was ∙ c.read_fraction.ensures.value)
