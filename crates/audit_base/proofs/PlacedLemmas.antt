-- Whether a replacement is placed: the definition, which goes back step by step, says its sentence.
use Rattle.std.proofs.Common.{◌≡◌, ◌<◌, ℕ, zero, suc, List, Option, Some, None, Bool, true, refl, ap, arith}
use Rattle.std.specs.Prelude.{◌&&◌, not}
use Rattle.audit_base.specs.declared.records.OrderRecord.{OrderRecord}
use Rattle.audit_base.specs.Histories.{replaced_order_at, is_ended_before, is_placed_within, is_placed}
use Rattle.audit_base.proofs.HistoryLemmas.{replaced-parts, target-is}

-- what a replacement replaces is an earlier record
pub replaced-before : (h : List (ℕ × OrderRecord)) (k t : ℕ) → replaced_order_at h k ≡ Some t → t < k
replaced-before h k t e = (target-is h k t (replaced-parts h k t e)).earlier

-- more steps than lead back change nothing
placed-steps : (h : List (ℕ × OrderRecord)) (m n k : ℕ) (o : Option ℕ) → k < m → k < n → ((t : ℕ) → o ≡ Some t → t < k)
    → is_placed_within m h k o ≡ is_placed_within n h k o
placed-steps h zero n k o in_m in_n back = absurd (omega arith)
placed-steps h (suc m) zero k o in_m in_n back = absurd (omega arith)
placed-steps h (suc m) (suc n) k None in_m in_n back = refl
placed-steps h (suc m) (suc n) k (Some t) in_m in_n back =
    let less : t < k = back t refl in
    ap (λ (b : Bool). not (is_ended_before h k t) && b) (placed-steps h m n t (replaced_order_at h t) (omega arith) (omega arith) (λ u e. replaced-before h t u e))

-- a record that replaces nothing is placed
pub is_placed-new : (h : List (ℕ × OrderRecord)) (k : ℕ) → replaced_order_at h k ≡ None → is_placed h k ≡ true
is_placed-new h k e = rw e refl

-- a replacement is placed exactly where its target is placed and no record before it ends the target
pub is_placed-replacement : (h : List (ℕ × OrderRecord)) (k t : ℕ) → replaced_order_at h k ≡ Some t
    → is_placed h k ≡ (not (is_ended_before h k t) && is_placed h t)
is_placed-replacement h k t e =
    let less = replaced-before h k t e in
    rw e (ap (λ (b : Bool). not (is_ended_before h k t) && b) (placed-steps h k (suc t) t (replaced_order_at h t) less (omega arith) (λ u s. replaced-before h t u s)))
