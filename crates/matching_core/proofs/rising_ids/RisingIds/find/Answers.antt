use Rattle.std.proofs.Common.{rules, ◌≡◌, ◌<◌, ◌≤◌, ◌∙◌, List, ℕ, Some, Err, length, get_or, sym, ap, subst}
use Rattle.std.specs.List.Sorted.{IsBinarySearchResult}
use Rattle.std.specs.declared.cmp.Ordering.{Ordering}
use Rattle.std.specs.declared.cmp.Ordering.TheVariants.{Equal}
use Rattle.std.proofs.lemmas.Fn.{always_returns_same}
use Rattle.matching_core.specs.declared.rising_ids.RisingId.{RisingId}
use Rattle.matching_core.specs.IdOrder.{compare_ids, rising_place_of_id}
use Rattle.matching_core.specs.RisingIds.{id_text, ids_with_places, AreRisingIds}
use Rattle.matching_core.proofs.RisingLemmas.{found-at, found-none}
use Rattle.matching_core.proofs.rising_ids.RisingIds.find.Goals as goal

pub returns-in-Ok : goal.returns-in-Ok
returns-in-Ok c =
    let bytes = c.as_slice-bytes.result.now in
    let text = c.bytes-text.result.now in
    let ids = c.self.inside.ids.items in
    let own = c.index.result.now in
    let answer : RisingId → Ordering = λ own. compare_ids (id_text bytes own) text in
    let equal = c.in-Ok.ensures.position answer (always_returns_same _ _ _ (λ a r g called. search rules)) own in
    let lt : c.in-Ok.index < length ids = subst (λ (xs : List RisingId). c.in-Ok.index < length xs) c.deref.ensures.value c.in-Ok.ensures.bound in
    let rises = subst (λ (b : List ℕ). AreRisingIds (ids_with_places b ids)) (sym c.as_slice-bytes.ensures.value) c.self.invariant.rises in
    let here = subst (λ (xs : List RisingId). compare_ids (id_text bytes (get_or xs c.in-Ok.index own)) text ≡ Equal) c.deref.ensures.value equal in
    let entries : ids_with_places bytes ids ≡ c.args.self.now = ap (λ (b : List ℕ). ids_with_places b ids) c.as_slice-bytes.ensures.value ∙ c.self.view_is in
    ap (λ (own : RisingId). Some own.place) c.index.ensures
    ∙ sym (found-at bytes ids text rises c.in-Ok.index own lt here)
    ∙ (λ i. rising_place_of_id (entries i) (c.bytes-text.ensures.same i))

pub returns-in-Err : goal.returns-in-Err
returns-in-Err c =
    let bytes = c.as_slice-bytes.result.now in
    let text = c.bytes-text.result.now in
    let ids = c.self.inside.ids.items in
    let answer : RisingId → Ordering = λ own. compare_ids (id_text bytes own) text in
    let parted = c.in-Err.ensures.position answer (always_returns_same _ _ _ (λ a r g called. search rules)) in
    let le : c.in-Err.field-0 ≤ length ids = subst (λ (xs : List RisingId). c.in-Err.field-0 ≤ length xs) c.deref.ensures.value c.in-Err.ensures.bound in
    let rises = subst (λ (b : List ℕ). AreRisingIds (ids_with_places b ids)) (sym c.as_slice-bytes.ensures.value) c.self.invariant.rises in
    let there = subst (λ (xs : List RisingId). IsBinarySearchResult answer xs (Err c.in-Err.field-0)) c.deref.ensures.value parted in
    let entries : ids_with_places bytes ids ≡ c.args.self.now = ap (λ (b : List ℕ). ids_with_places b ids) c.as_slice-bytes.ensures.value ∙ c.self.view_is in
    sym (found-none bytes ids text rises c.in-Err.field-0 le there)
    ∙ (λ i. rising_place_of_id (entries i) (c.bytes-text.ensures.same i))
