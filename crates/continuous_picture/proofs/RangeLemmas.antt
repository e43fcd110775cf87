-- Ranges with a limit more.
use Rattle.std.proofs.Common.{◌≡◌, ◌≤◌, ◌+◌, ◌⊎◌, ℕ, suc, add-one, List, Option, None, Some, refl, sym, ap, ◌∙◌, arith, inl, inr, subst}
use Rattle.std.specs.Prelude.{nat_lt}
use Rattle.std.proofs.lemmas.Bool.{cases_Bool, cases_eq, cond-true, cond-false, ltb-false, ltb-true}
use Rattle.audit_base.specs.declared.orders.Deal.{Deal}
use Rattle.audit_base.specs.declared.orders.Order.{Order}
use Rattle.audit_base.specs.declared.terms.Side.{Side}
use Rattle.continuous_picture.specs.declared.ranges.LimitRange.{LimitRange}
use Rattle.continuous_picture.specs.Columns.{IsBestWithin, IsRangeIfThere}
use Rattle.continuous_picture.specs.Quotes.{best_limit}
use Rattle.continuous_picture.specs.Ranges.{greater, lesser, with_limit}

pub record IsLesser (a b c : ℕ) : Type 0 where
  pub either : (c ≡ a) ⊎ (c ≡ b)
  pub first : c ≤ a
  pub second : c ≤ b

lesser-is : (a b : ℕ) → IsLesser a b (lesser a b)
lesser-is a b = elim (cases_Bool (nat_lt a b)) [
  | inl t ↦ let e = cond-true (nat_lt a b) a b t in let l = ltb-true a b t in record { either = inl e; first = omega arith; second = omega arith }
  | inr f ↦ let e = cond-false (nat_lt a b) a b f in let l = ltb-false a b f in record { either = inr e; first = omega arith; second = omega arith }
]

pub record IsGreater (a b c : ℕ) : Type 0 where
  pub either : (c ≡ a) ⊎ (c ≡ b)
  pub first : a ≤ c
  pub second : b ≤ c

greater-is : (a b : ℕ) → IsGreater a b (greater a b)
greater-is a b = elim (cases_Bool (nat_lt a b)) [
  | inl t ↦ let e = cond-true (nat_lt a b) b a t in let l = ltb-true a b t in record { either = inr e; first = omega arith; second = omega arith }
  | inr f ↦ let e = cond-false (nat_lt a b) b a f in let l = ltb-false a b f in record { either = inl e; first = omega arith; second = omega arith }
]

-- Next has what Has has, and a number more, where there is one
pub record HasAlso (Has : ℕ → Type 0) (limit : Option ℕ) (Next : ℕ → Type 0) : Type 0 where
  pub earlier : (number : ℕ) → Has number → Next number
  pub own : (number : ℕ) → limit ≡ Some number → Next number
  pub either : (number : ℕ) → Next number → Has number ⊎ (limit ≡ Some number)

-- with a number more
pub range-with : (Has Next : ℕ → Type 0) (range : Option LimitRange) (limit : Option ℕ) → HasAlso Has limit Next → IsRangeIfThere Has range → IsRangeIfThere Next (with_limit range limit)
range-with Has Next None None also is = λ number has. elim (also.either number has) [
  | inl before ↦ is number before
  | inr now ↦ absurd (cc)
]
range-with Has Next (Some range) None also is = record {
  lowest = also.earlier range.low is.lowest;
  highest = also.earlier range.high is.highest;
  within = λ number has. elim (also.either number has) [
    | inl before ↦ is.within number before
    | inr now ↦ absurd (cc)
  ];
}
range-with Has Next None (Some limit) also is = record {
  lowest = also.own limit refl;
  highest = also.own limit refl;
  within = λ number has. elim (also.either number has) [
    | inl before ↦ absurd (is number before)
    | inr now ↦ let same : limit ≡ number = cc in (omega arith, omega arith)
  ];
}
range-with Has Next (Some range) (Some limit) also is =
    let low = lesser-is limit range.low in
    let high = greater-is range.high limit in
    record {
      lowest = elim low.either [
        | inl e ↦ subst Next (sym e) (also.own limit refl)
        | inr e ↦ subst Next (sym e) (also.earlier range.low is.lowest)
      ];
      highest = elim high.either [
        | inl e ↦ subst Next (sym e) (also.earlier range.high is.highest)
        | inr e ↦ subst Next (sym e) (also.own limit refl)
      ];
      within = λ number has. elim (also.either number has) [
        | inl before ↦ let w = is.within number before in let a = low.second in let b = high.first in (omega (arith, w), omega (arith, w))
        | inr now ↦ let same : limit ≡ number = cc in let a = low.first in let b = high.second in (omega arith, omega arith)
      ];
    }

-- where the same numbers are there
pub range-same : (Has Next : ℕ → Type 0) (range : Option LimitRange) → ((number : ℕ) → Has number → Next number) → ((number : ℕ) → Next number → Has number) → IsRangeIfThere Has range → IsRangeIfThere Next range
range-same Has Next None to from is = λ number has. is number (from number has)
range-same Has Next (Some range) to from is = record {
  lowest = to range.low is.lowest;
  highest = to range.high is.highest;
  within = λ number has. is.within number (from number has);
}

-- The best limits of some places.

module _ (orders : List Order) (deals : List Deal) (side : Side) (first : ℕ) where
  abbrev Has : ℕ → ℕ → Type 0
  Has next = IsBestWithin orders deals side first next

  -- before the first place
  pub range-none : IsRangeIfThere (Has first) None
  range-none number is = let from = is.from in let to = is.to in absurd (omega arith)

  also-next : (next : ℕ) → first ≤ next → (limit : Option ℕ) → best_limit orders deals side next ≡ limit → HasAlso (Has next) limit (Has (suc next))
  also-next next le limit here = record {
    earlier = λ number is. record { place = is.place; from = is.from; to = let to = is.to in omega arith; is = is.is };
    own = λ number e. record { place = next; from = le; to = omega arith; is = here ∙ e };
    either = λ number is. elim (cases_eq is.place next) [
      | inl e ↦ inr (sym here ∙ ap (best_limit orders deals side) (sym e) ∙ is.is)
      | inr ne ↦ inl (record { place = is.place; from = is.from; to = let to = is.to in omega (arith, ne); is = is.is })
    ];
  }

  -- with the limit at the next place, in the words of the code
  pub range-next : (next : ℕ) → first ≤ next → (range : Option LimitRange) (limit : Option ℕ) → best_limit orders deals side next ≡ limit → IsRangeIfThere (Has next) range → (made : Option LimitRange) → made ≡ with_limit range limit → IsRangeIfThere (Has (next + 1)) made
  range-next next le range limit here is made e =
      subst (IsRangeIfThere (Has (next + 1))) (sym e) (subst (λ (k : ℕ). IsRangeIfThere (Has k) (with_limit range limit)) (sym (add-one next)) (range-with (Has next) (Has (suc next)) range limit (also-next next le limit here) is))
