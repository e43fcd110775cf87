use Rattle.std.proofs.Common.{rules, ◌≡◌, ◌++◌, Some, take, drop, ap, sym, ◌∙◌, List, ℕ}
use Rattle.std.proofs.lemmas.Bool.Decides.{Decides-eqb}
use Rattle.std.proofs.lemmas.List.{take-append-drop}
use Rattle.std.proofs.lemmas.Slice.Eq.{slice_eq-Decides}
use Rattle.audit_base.specs.Moments.{Moment}
use Rattle.audit_base.specs.Stamps.{stamp_form, with_fraction}
use Rattle.audit_base.proofs.StampReaderLemmas.{with_clock, clock_read}
use Rattle.audit_base.proofs.stamp_reader.StampReader.read.Goals as goal

-- a text is its first bytes and the others
cut : (text front back : List ℕ) (n : ℕ) → front ≡ take n text → back ≡ drop n text → front ++ back ≡ text
cut text front back n front-is back-is = (λ i. front-is i ++ back-is i) ∙ take-append-drop n text

pub returns-then-eq : goal.returns-then-eq
returns-then-eq c =
    let clock = c.split_at.result.0.now in
    let rest = c.split_at.result.1.now in
    let same : clock ≡ c.args.self.now.clock = (slice_eq-Decides Decides-eqb _ _ _ c.eq.ensures).0 c.if-eq.true ∙ c.as_slice.ensures in
    c.stamp_in_second.ensures
    ∙ (λ i. with_fraction (sym (ap stamp_form same ∙ c.args.self.now.written) i) (c.read_fraction.ensures.value i))
    ∙ sym (with_clock clock rest c.split_at.ensures.front_len)
    ∙ ap stamp_form (cut c.args.text.now clock rest 17 c.split_at.ensures.front c.split_at.ensures.back)

pub invariant_of-self : goal.invariant_of-self
invariant_of-self c =
    let clock = c.split_at.result.0.now in
    let rest = c.split_at.result.1.now in
    let whole = cut c.args.text.now clock rest 17 c.split_at.ensures.front c.split_at.ensures.back in
    let read : stamp_form (clock ++ rest) ≡ Some c.in_ok-stamp.stamp = ap stamp_form whole ∙ sym c.read_stamp.ensures ∙ c.in_ok-stamp.was in
    record {
      in_range = search rules;
      written = ap stamp_form c.clock_of.ensures ∙ clock_read clock rest c.in_ok-stamp.stamp c.split_at.ensures.front_len read
          ∙ ap (λ (m : Moment). Some (record { second = m.second; nano = 0 })) (sym c.stamp.view_is);
    }
