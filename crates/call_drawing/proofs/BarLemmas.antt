-- The steps of a side with their bars, of the first ones and of one more.
use Rattle.std.proofs.Common.{◌≡◌, ◌<◌, ◌≤◌, ◌+◌, ◌∙◌, ℕ, List, [], ◌∷◌, ◌++◌, length, get_or, take, refl, sym, ap, arith}
use Rattle.std.specs.Prelude.{map}
use Rattle.std.specs.List.{enumerate_from}
use Rattle.std.proofs.lemmas.List.{take_all}
use Rattle.std.proofs.lemmas.List.FromFn.{get_or-enumerate_from, length-enumerate_from}
use Rattle.std.proofs.lemmas.List.Sums.{sum_by_more, sum_by_more_le}
use Rattle.audit_base.specs.declared.terms.Side.{Side}
use Rattle.call_picture.specs.declared.steps.SideStep.{SideStep}
use Rattle.call_picture.specs.declared.windows.DrawnSteps.{DrawnSteps}
use Rattle.page_plots.proofs.SeriesLemmas.{mapped-more}
use Rattle.page_plots.specs.declared.plots.Plot.{Plot}
use Rattle.call_drawing.specs.declared.bars.Bar.{Bar}
use Rattle.call_drawing.specs.declared.bars.PlacedStep.{PlacedStep}
use Rattle.call_drawing.specs.Bars.{bar_of, end_of_steps, placed_steps, start_of, step_at_place}

-- the first steps have their bars, and the next one begins here
pub record ArePlacedSoFar (plot : Plot) (side : Side) (drawn : DrawnSteps) (count start : ℕ) (steps : List PlacedStep) : Type 0 where
  pub begins : start ≡ start_of drawn count
  pub placed : steps ≡ map (step_at_place plot side drawn) (take count (enumerate_from 0 drawn.steps.items))

-- a step ends where the next one begins
pub begins-more : (drawn : DrawnSteps) (index : ℕ) (step : SideStep) → index < length drawn.steps.items → step ≡ get_or drawn.steps.items index step
    → start_of drawn index + step.quantity ≡ start_of drawn (index + 1)
begins-more drawn index step lt is =
    let more = sum_by_more (λ (s : SideStep). s.quantity) drawn.steps.items index step lt in
    let same : step.quantity ≡ (get_or drawn.steps.items index step).quantity = ap (λ (s : SideStep). s.quantity) is in
    omega (arith, more, same)

-- and no further than the last one
pub ends-within : (drawn : DrawnSteps) (index : ℕ) (step : SideStep) → index < length drawn.steps.items → step ≡ get_or drawn.steps.items index step
    → start_of drawn index + step.quantity ≤ end_of_steps drawn
ends-within drawn index step lt is =
    let most = sum_by_more_le (λ (s : SideStep). s.quantity) drawn.steps.items index step lt in
    let same : step.quantity ≡ (get_or drawn.steps.items index step).quantity = ap (λ (s : SideStep). s.quantity) is in
    omega (arith, most, same)

module _ (plot : Plot) (side : Side) (drawn : DrawnSteps) where
  -- none so far
  pub placed-start : ArePlacedSoFar plot side drawn 0 drawn.before []
  placed-start = record { begins = omega arith; placed = refl }

  member : (index : ℕ) (step : SideStep) → index < length drawn.steps.items → get_or (enumerate_from 0 drawn.steps.items) index (0, step) ≡ (index, get_or drawn.steps.items index step)
  member index step lt =
      let front : 0 + index ≡ index = omega arith in
      get_or-enumerate_from 0 drawn.steps.items index (0, step) lt ∙ (λ i. (front i, get_or drawn.steps.items index step))

  -- one more
  pub placed-more : (index start : ℕ) (step : SideStep) (bar : Bar) (steps later : List PlacedStep) (next : ℕ) → index < length drawn.steps.items → step ≡ get_or drawn.steps.items index step
      → ArePlacedSoFar plot side drawn index start steps → bar ≡ bar_of plot side start step → later ≡ steps ++ record { step = step; bar = bar } ∷ [] → next ≡ start + step.quantity
      → ArePlacedSoFar plot side drawn (index + 1) next later
  placed-more index start step bar steps later next lt is so drawn_as pushed added = record {
    begins = added ∙ ap (λ (n : ℕ). n + step.quantity) so.begins ∙ begins-more drawn index step lt is;
    placed = mapped-more (step_at_place plot side drawn) (enumerate_from 0 drawn.steps.items) index (0, step) inside steps later so.placed
        (pushed ∙ ap (λ (p : PlacedStep). steps ++ p ∷ []) here);
  }
    where
      inside : index < length (enumerate_from 0 drawn.steps.items)
      inside = omega (arith, lt, length-enumerate_from 0 drawn.steps.items)

      its_bar : bar ≡ bar_of plot side (start_of drawn index) step
      its_bar = drawn_as ∙ ap (λ (n : ℕ). bar_of plot side n step) so.begins

      own : PlacedStep
      own = record { step = step; bar = bar }

      placed_here : own ≡ step_at_place plot side drawn (index, step)
      placed_here = ap (λ (b : Bar). let p : PlacedStep = record { step = step; bar = b } in p) its_bar

      here : own ≡ step_at_place plot side drawn (get_or (enumerate_from 0 drawn.steps.items) index (0, step))
      here = placed_here ∙ ap (λ (s : SideStep). step_at_place plot side drawn (index, s)) is ∙ ap (step_at_place plot side drawn) (sym (member index step lt))

  -- all of them
  pub placed-all : (count start : ℕ) (steps : List PlacedStep) → length drawn.steps.items ≤ count → ArePlacedSoFar plot side drawn count start steps → steps ≡ placed_steps plot side drawn
  placed-all count start steps over so =
      so.placed ∙ ap (map (step_at_place plot side drawn)) (take_all count (enumerate_from 0 drawn.steps.items) (omega (arith, over, length-enumerate_from 0 drawn.steps.items)))
