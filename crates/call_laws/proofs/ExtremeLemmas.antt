-- A function of numbers has a least and a greatest value over the numbers up to one, each with the least number that reaches it.
use Rattle.std.proofs.Common.{◌≡◌, ◌≤◌, ◌<◌, ◌-◌, ℕ, zero, suc, refl, sym, arith, inl, inr, subst}
use Rattle.std.specs.Prelude.{◌^◌}
use Rattle.std.proofs.lemmas.Bool.{cases_lt}
use Rattle.audit_base.specs.Bounds.{demand, cut, executable_volume}
use Rattle.audit_base.proofs.VolumeLemmas.{demand-falls}
use Rattle.call_laws.specs.Existence.{LeastCutExists, GreatestExecutableVolumeExists}

-- the least value over the numbers up to n is reached at k, and at no number below k
pub record IsLeastAt (f : ℕ → ℕ) (n k : ℕ) : Type 0 where
  pub within : k ≤ n
  pub least : (q : ℕ) → q ≤ n → f k ≤ f q
  pub first : (q : ℕ) → q < k → f k < f q

pub least-at : (f : ℕ → ℕ) (n : ℕ) → (k : ℕ) × IsLeastAt f n k
least-at f zero = (
  0,
  record {
    within = omega arith;
    least = λ q le. let e : q ≡ 0 = omega arith in subst (λ x. f 0 ≤ f x) (sym e) (omega arith);
    first = λ q lt. absurd (omega arith);
  },
)
least-at f (suc n) =
    let r = least-at f n in
    let k = r.0 in
    elim (cases_lt (f (suc n)) (f k)) [
      | inl less ↦ (
        suc n,
        record {
          within = omega arith;
          least = λ q le. elim (cases_lt q (suc n)) [
            | inl before ↦ omega (arith, less, r.1.least q (omega arith))
            | inr last ↦ let e : q ≡ suc n = omega arith in subst (λ x. f (suc n) ≤ f x) (sym e) (omega arith)
          ];
          first = λ q lt. omega (arith, less, r.1.least q (omega arith));
        },
      )
      | inr more ↦ (
        k,
        record {
          within = omega (arith, r.1.within);
          least = λ q le. elim (cases_lt q (suc n)) [
            | inl before ↦ r.1.least q (omega arith)
            | inr last ↦ let e : q ≡ suc n = omega arith in subst (λ x. f k ≤ f x) (sym e) more
          ];
          first = r.1.first;
        },
      )
    ]

pub least-cut : LeastCutExists
least-cut orders =
    let r = least-at (cut orders) (10 ^ 18) in
    let k = r.0 in (
      record { price = k; volume = cut orders k },
      record {
        reached = record {
          holds = (r.1.within, refl);
          none_below = λ q lt h. let less = r.1.first q lt in let same = h.1 in absurd (omega arith);
        };
        least = r.1.least;
      },
    )

-- the greatest is the least of what is left of a bound, here of the demand at 0
pub greatest-executable : GreatestExecutableVolumeExists
greatest-executable orders =
    let most = demand orders 0 in
    let r = least-at (λ q. most - executable_volume orders q) (10 ^ 18) in
    let k = r.0 in
    let within : (q : ℕ) → executable_volume orders q ≤ most = (λ q. omega (arith, demand-falls orders 0 q (omega arith))) in (
      record { price = k; volume = executable_volume orders k },
      record {
        reached = record {
          holds = (r.1.within, refl);
          none_below = λ q lt h. let less = r.1.first q lt in let same = h.1 in absurd (omega (arith, less, same, within q, within k));
        };
        greatest = λ q le. let least = r.1.least q le in omega (arith, least, within q, within k);
      },
    )
