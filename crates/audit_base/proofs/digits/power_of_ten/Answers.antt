-- The table is held against the definition at each of its places, by computing.
use Rattle.std.proofs.Common.{◌≡◌, ℕ, zero, suc, ◌<◌, ◌^◌, Bool, true, ◌&&◌, nat_eq, slice_index_or, List, refl, arith, inl, inr}
use Rattle.std.proofs.lemmas.Bool.{cases_eq, eqb-true}
use Rattle.std.specs.Cmp.{first_so, second_so}
use Rattle.audit_base.specs.declared.digits.TheConstants.{POWERS_OF_TEN}
use Rattle.audit_base.proofs.digits.power_of_ten.Goals as goal

-- the test is passed by each number below n
all_below : (ℕ → Bool) → ℕ → Bool
all_below f zero = true
all_below f (suc n) = f n && all_below f n

passed_at : (f : ℕ → Bool) (n : ℕ) → all_below f n ≡ true → (k : ℕ) → k < n → f k ≡ true
unfolding all_below
passed_at f zero all k lt = absurd (omega arith)
passed_at f (suc n) all k lt =
    let first = first_so (f n) (all_below f n) all in
    let rest = second_so (f n) (all_below f n) all in
    elim (cases_eq k n) [ inl same ↦ rw same first | inr other ↦ passed_at f n rest k (omega arith) ]

-- what the table has at a place
from_table : (table : List ℕ) (k : ℕ) → k < 19
    → all_below (λ n. nat_eq (slice_index_or table n 0) (10 ^ n)) 19 ≡ true
    → slice_index_or table k 0 ≡ 10 ^ k
from_table table k lt all = eqb-true _ _ (passed_at _ 19 all k lt)

pub returns : goal.returns
unfolding all_below
returns c = from_table POWERS_OF_TEN c.args.exponent (omega arith) refl
