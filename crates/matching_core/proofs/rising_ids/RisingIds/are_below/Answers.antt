use Rattle.std.proofs.Common.{◌≡◌, ◌∙◌, ◌-◌, List, ℕ, Some, length, sym, ap}
use Rattle.std.specs.Prelude.{slice_get}
use Rattle.std.specs.Ordering.{is_lt}
use Rattle.std.proofs.lemmas.Cmp.{is_lt_index}
use Rattle.matching_core.specs.declared.rising_ids.RisingId.{RisingId}
use Rattle.matching_core.specs.IdOrder.{compare_ids, is_above_ids}
use Rattle.matching_core.specs.RisingIds.{id_text}
use Rattle.matching_core.proofs.RisingLemmas.{above-by-last}
use Rattle.matching_core.proofs.rising_ids.RisingIds.are_below.Goals as goal

pub returns-in-Some : goal.returns-in-Some
returns-in-Some c =
    let own = c.in-Some.last.now in
    let bytes = c.self.inside.bytes.items in
    let ids = c.self.inside.ids.items in
    let at : slice_get ids (length ids - 1) ≡ Some own =
    sym (c.in-Some.ensures.value ∙ ap (λ (xs : List RisingId). slice_get xs (length xs - 1)) c.deref.ensures.value) in
    let text : c.text.result.now ≡ id_text bytes own = c.text.ensures ∙ ap (λ (b : List ℕ). id_text b own) c.deref-in-Some.ensures.value in
    c.eq.ensures ∙ sym (is_lt_index c.compare_ids.result)
    ∙ ap is_lt (c.compare_ids.ensures ∙ (λ i. compare_ids (text i) (c.bytes.ensures.same i)))
    ∙ sym (above-by-last bytes ids own c.args.id.now c.self.invariant.rises at)
    ∙ ap (λ (es : List (List ℕ × ℕ)). is_above_ids es c.args.id.now) c.self.view_is
