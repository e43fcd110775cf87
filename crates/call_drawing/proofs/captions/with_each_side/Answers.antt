use Rattle.std.proofs.Common.{◌≡◌, ◌++◌, ◌∙◌, ap, append_assoc, ℕ, List}
use Rattle.std.specs.Prelude.{codes}
use Rattle.std.proofs.lemmas.Result.{IfOk-weaker}
use Rattle.call_drawing.specs.Captions.{side_part}
use Rattle.call_drawing.proofs.captions.with_each_side.Goals as goal

pub returns : goal.returns
returns c =
    let bids = side_part (codes "Bids:") c.args.picture.now.bids in
    let asks = side_part (codes "Asks:") c.args.picture.now.asks in
    let first : c.in_ok-made.made ≡ c.args.made ++ bids = c.in_ok-made.ensures in
    IfOk-weaker c.with_side_words-2.result _ _
    (λ more e. e ∙ ap (λ (made : List ℕ). made ++ asks) first ∙ append_assoc c.args.made bids asks)
    c.with_side_words-2.ensures
