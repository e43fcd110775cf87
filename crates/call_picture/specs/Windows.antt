-- Which steps of a side are drawn: all, or the 400 nearest to the end of the volume.
use Rattle.std.specs.Prelude.{◌≡◌, ◌<◌, ◌≤◌, ◌+◌, ◌-◌, ℕ, min, List, length, sum_by, take, drop}
use Rattle.call_picture.specs.declared.steps.SideStep.{SideStep}
use Rattle.call_picture.specs.declared.windows.DrawnSteps.{DrawnSteps}

-- what steps ask for or offer together
abbrev pub quantity_of_steps : List SideStep → ℕ
quantity_of_steps steps = sum_by (λ step. step.quantity) steps

-- the volume covers so many of the first steps whole, and not the next one
pub record IsReach (volume : ℕ) (steps : List SideStep) (reach : ℕ) : Type 0 where
  pub inside : reach ≤ length steps
  pub covers : quantity_of_steps (take reach steps) ≤ volume
  pub ends : reach < length steps → volume < quantity_of_steps (take (reach + 1) steps)

-- the first step that is drawn, of so many: half of the 400 lie before the end of the volume,
-- where there are enough on both sides
abbrev pub first_drawn : ℕ → ℕ → ℕ
first_drawn reach count = min (reach - 200) (count - 400)

-- these of all steps are drawn: the 400 around the end of the volume
pub record IsDrawn (volume : ℕ) (steps : List SideStep) (drawn : DrawnSteps) : Type 0 where
  pub reach : ℕ
  pub is_reach : IsReach volume steps reach
  pub better : drawn.better ≡ first_drawn reach (length steps)
  pub shown : drawn.steps.items ≡ take 400 (drop drawn.better steps)
  pub before : drawn.before ≡ quantity_of_steps (take drawn.better steps)
  pub worse : drawn.worse ≡ length steps - (drawn.better + 400)
