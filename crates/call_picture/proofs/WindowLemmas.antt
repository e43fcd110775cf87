-- What the steps before the first one that is drawn ask for: no more than the volume.
use Rattle.std.proofs.Common.{◌≡◌, ◌≤◌, ◌+◌, ◌∙◌, sym, ap, ℕ, List, length, take, drop, arith}
use Rattle.std.proofs.lemmas.List.{take-append-drop, take-take}
use Rattle.std.proofs.lemmas.List.Sums.{sum_by-append}
use Rattle.call_picture.specs.declared.steps.SideStep.{SideStep}
use Rattle.call_picture.specs.Windows.{IsReach, first_drawn, quantity_of_steps}

-- fewer steps ask for no more
quantity-rises : (steps : List SideStep) (k n : ℕ) → k ≤ n → quantity_of_steps (take k steps) ≤ quantity_of_steps (take n steps)
quantity-rises steps k n le =
    let whole : quantity_of_steps (take n steps) ≡ quantity_of_steps (take k (take n steps)) + quantity_of_steps (drop k (take n steps)) =
    ap quantity_of_steps (sym (take-append-drop k (take n steps))) ∙ sum_by-append (λ (s : SideStep). s.quantity) (take k (take n steps)) (drop k (take n steps)) in
    let same : quantity_of_steps (take k (take n steps)) ≡ quantity_of_steps (take k steps) = ap quantity_of_steps (take-take k n steps le) in
    omega (arith, whole, same)

pub before-within : (volume : ℕ) (steps : List SideStep) (reach first : ℕ) → IsReach volume steps reach → first ≡ first_drawn reach (length steps) → quantity_of_steps (take first steps) ≤ volume
before-within volume steps reach first is first_is =
    omega (arith, is.covers, quantity-rises steps first reach (omega (arith, first_is)))

pub first-inside : (volume : ℕ) (steps : List SideStep) (reach first : ℕ) → IsReach volume steps reach → first ≡ first_drawn reach (length steps) → first ≤ length steps
first-inside volume steps reach first is first_is = omega (arith, is.inside, first_is)
