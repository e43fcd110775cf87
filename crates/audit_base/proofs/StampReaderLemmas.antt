-- What a date and a clock write does not depend on the fraction after them.
use Rattle.std.proofs.Common.{◌≡◌, ℕ, Bool, true, false, nat_le, ◌&&◌, Option, Some, None, List, [], ◌++◌, length, take, drop, if◌then◌else◌, refl, ap, ◌∙◌, sym, arith, append-nil}
use Rattle.std.proofs.lemmas.Bool.{le-leb}
use Rattle.std.proofs.lemmas.List.{take-append-le, drop-append-le, length-append, length-drop, drop_at, get_or_append_left}
use Rattle.std.proofs.Math.ListN.{drop_of_length-le}
use Rattle.std.specs.Prelude.{◌==◌, slice_index}
use Rattle.audit_base.specs.Moments.{Moment}
use Rattle.audit_base.specs.Stamps.{date_form, clock_form, fraction_form, moment_of, stamp_form, with_fraction}

from_parts : (dash : Bool) (day clock nano : Option ℕ)
    → (if true && dash then moment_of day clock nano else None) ≡ with_fraction (if true && dash then moment_of day clock (Some 0) else None) nano
from_parts false day clock nano = refl
from_parts true None clock nano = refl
from_parts true (Some day) None None = refl
from_parts true (Some day) None (Some nano) = refl
from_parts true (Some day) (Some clock) None = refl
from_parts true (Some day) (Some clock) (Some nano) = refl

of_fraction : (moment : Option Moment) (nano : Option ℕ) (all : Moment) → with_fraction moment nano ≡ Some all
    → with_fraction moment (Some 0) ≡ Some (record { second = all.second; nano = 0 })
of_fraction None nano all is = cc
of_fraction (Some moment) None all is = cc
of_fraction (Some moment) (Some nano) all is =
    let same : moment.second ≡ all.second = cc in
    (λ i. Some (record { second = same i; nano = 0 }))

-- a text of a date, a clock and a fraction
pub with_clock : (clock rest : List ℕ) → length clock ≡ 17 → stamp_form (clock ++ rest) ≡ with_fraction (stamp_form clock) (fraction_form rest)
with_clock clock rest size =
    let text = clock ++ rest in
    let date : take 8 text ≡ take 8 clock = take-append-le 8 clock rest (omega arith) in
    let behind : drop 9 text ≡ drop 9 clock ++ rest = drop-append-le 9 clock rest (omega arith) in
    let eight : length (drop 9 clock) ≡ 8 = omega (arith, length-drop 9 clock) in
    let time : take 8 (drop 9 text) ≡ take 8 (drop 9 clock) = ap (take 8) behind ∙ take-append-le 8 (drop 9 clock) rest (omega arith) in
    let fraction : drop 17 text ≡ rest = drop_at clock rest 17 size in
    let none : drop 17 clock ≡ [] = drop_of_length-le clock {i = 17} (omega arith) in
    let at : slice_index text 8 ≡ slice_index clock 8 = get_or_append_left clock rest 0 8 (omega arith) in
    let long : nat_le 17 (length text) ≡ true = le-leb 17 (length text) (omega (arith, length-append clock rest)) in
    let long' : nat_le 17 (length clock) ≡ true = le-leb 17 (length clock) (omega arith) in
    (λ i. if long i && (at i == 45) then moment_of (date_form (date i)) (clock_form (time i)) (fraction_form (fraction i)) else None)
    ∙ from_parts (slice_index clock 8 == 45) (date_form (take 8 clock)) (clock_form (take 8 (drop 9 clock))) (fraction_form rest)
    ∙ sym (λ i. with_fraction (if long' i && (slice_index clock 8 == 45) then moment_of (date_form (take 8 clock)) (clock_form (take 8 (drop 9 clock))) (fraction_form (none i)) else None) (fraction_form rest))

-- a text that is read, cut after its clock, writes the same second without a fraction
pub clock_read : (clock rest : List ℕ) (moment : Moment) → length clock ≡ 17 → stamp_form (clock ++ rest) ≡ Some moment
    → stamp_form clock ≡ Some (record { second = moment.second; nano = 0 })
clock_read clock rest moment size read =
    let alone : stamp_form clock ≡ with_fraction (stamp_form clock) (Some 0) = ap stamp_form (sym (append-nil clock)) ∙ with_clock clock [] size in
    alone ∙ of_fraction (stamp_form clock) (fraction_form rest) moment (sym (with_clock clock rest size) ∙ read)
