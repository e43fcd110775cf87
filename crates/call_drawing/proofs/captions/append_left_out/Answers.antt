use Rattle.std.proofs.Common.{◌++◌, ◌∙◌, ap, sym, Bool, ℕ, List, [], decimal, if◌then◌else◌}
use Rattle.std.specs.Prelude.{codes}
use Rattle.page_plots.proofs.BehindLemmas.{five-behind}
use Rattle.call_drawing.proofs.captions.append_left_out.Goals as goal

pub returns-in_ok-extend_from_slice-3 : goal.returns-in_ok-extend_from_slice-3
returns-in_ok-extend_from_slice-3 c =
    let words : List ℕ = codes " Not drawn: " ++ decimal c.args.drawn.now.better ++ codes " better limits, " ++ decimal c.args.drawn.now.worse ++ codes " worse limits." in
    five-behind c.args.out.now.items _ _ _ _ _ _ _ _ _ _ c.in_ok-extend_from_slice.ensures.items c.in_ok-write_number.ensures.appended c.in_ok-extend_from_slice-2.ensures.items c.in_ok-write_number-2.ensures.appended c.in_ok-extend_from_slice-3.ensures.items
    ∙ ap (λ (b : Bool). c.args.out.now.items ++ (if b then words else [])) (sym c.if-leaves_out.true ∙ c.leaves_out.ensures)
