use Rattle.std.proofs.Common.{◌∙◌, ◌∷◌, ◌++◌, [], List, ℕ, length, ap, refl}
use Rattle.matching_core.specs.RisingIds.{ids_with_places}
use Rattle.matching_core.proofs.RisingLemmas.{entries-kept, entries-push, after-err}
use Rattle.matching_core.proofs.rising_ids.append.Goals as goal

pub returns-in_err-push-clause-stays : goal.returns-in_err-push-clause-stays
returns-in_err-push-clause-stays c =
    after-err c.from_residual-in_err-push.result
    ((λ i. ids_with_places (c.in_ok-extend_from_slice.ensures.items i) (c.in_err-push.ensures.items i))
    ∙ entries-kept c.args.bytes.now.items c.bytes-text.result.now c.args.ids.now.items c.requires)

pub returns-clause-adds : goal.returns-clause-adds
returns-clause-adds c =
    let text = c.bytes-text.result.now in
    (λ i. ids_with_places (c.in_ok-extend_from_slice.ensures.items i) (c.in_ok-push.ensures.items i))
    ∙ entries-push c.args.bytes.now.items text c.args.ids.now.items _ (c.in_ok-kept_start.ensures ∙ ap (λ (xs : List ℕ). length xs) c.as_slice.ensures.value) refl c.requires
    ∙ (λ i. ids_with_places c.args.bytes.now.items c.args.ids.now.items ++ (c.bytes-text.ensures.same i, c.args.place) ∷ [])
