-- The map has the label with the index of its case, or not at all.
use Rattle.std.proofs.Common.{◌≡◌, ℕ, List, length, Some, None, slice_get, Bor, refl, sym, ap, ◌∙◌}
use Rattle.std.specs.Prelude.{Option, option_copied}
use Rattle.std.specs.Slice.{IsItemAt}
use Rattle.std.proofs.lemmas.Option.{slice_get_past, slice_get_read}
use Rattle.case_keeper.specs.Cases.{kept_case}
use Rattle.case_keeper.proofs.PlaceLemmas.{kept_at}
use Rattle.case_keeper.proofs.indexed_cases.IndexedCases.kept.Goals as goal

lent_at : {X : Type 0} (xs : List X) (i : ℕ) (lent : Option (Bor X)) → IsItemAt xs i lent → option_copied lent ≡ slice_get xs i
lent_at xs i None h = sym (slice_get_past xs i h.3)
lent_at xs i (Some x) h = sym (slice_get_read xs (length xs) i x.now refl h.3.0 h.1)

pub returns-in-Some : goal.returns-in-Some
returns-in-Some c =
    let place = c.in-Some.place.now in
    let found = kept_at c.self.inside.cases.items c.self.inside.index c.args.label.now (Some place) c.self.invariant c.in-Some.ensures.value in
    c.copied.ensures ∙ lent_at c.deref.result.now place c.get-in-Some.result c.get-in-Some.ensures.lookup ∙ ap (λ cases. slice_get cases place) c.deref.ensures.value
    ∙ found ∙ ap (λ cases. kept_case cases c.args.label.now) c.self.view_is

pub returns-in-None : goal.returns-in-None
returns-in-None c =
    let found = kept_at c.self.inside.cases.items c.self.inside.index c.args.label.now None c.self.invariant c.in-None.ensures.value in
    found ∙ ap (λ cases. kept_case cases c.args.label.now) c.self.view_is
