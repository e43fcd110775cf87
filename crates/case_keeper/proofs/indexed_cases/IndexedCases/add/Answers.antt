-- The index has the new case where it was pushed.
use Rattle.std.proofs.Common.{rules, ◌≡◌, false, length, is_err, OnOk, Ok, Err, Some, None, sym, subst, true≢false}
use Rattle.std.specs.Prelude.{Result}
use Rattle.std.specs.BTreeMap.{Updates}
use Rattle.std.specs.Cmp.Lexicographic.{slice_cmp}
use Rattle.std.specs.Ordering.{nat_cmp}
use Rattle.case_keeper.specs.Cases.{kept_case}
use Rattle.case_keeper.specs.IndexedCases.{IsLabelIndex}
use Rattle.case_keeper.proofs.PlaceLemmas.{index_more}
use Rattle.case_keeper.proofs.indexed_cases.IndexedCases.add.Goals as goal

when_ok : {A B : Type 0} (result : Result A B) (P : Type 0) → false ≡ is_err result → OnOk result P → P
when_ok (Ok _) P e holds = holds
when_ok (Err _) P e holds = absurd (true≢false (sym e))

pub invariant_of-self-else-is_err : goal.invariant_of-self-else-is_err
invariant_of-self-else-is_err c =
    let cases = c.self.inside.cases.items in
    let label = c.args.case.now.label in
    let puts = when_ok c.insert.result (Updates (slice_cmp nat_cmp) c.self.inside.index c.insert.new.self label (Some c.len-place.result)) c.if-is_err.ensures.value c.insert.ensures.updates in
    let size : c.len-place.result ≡ length cases = search rules in
    let more = index_more cases c.args.case.now c.self.inside.index c.insert.new.self
    (subst (λ cs. kept_case cs label ≡ None) (sym c.self.view_is) c.requires) c.self.invariant
    (subst (λ place. Updates (slice_cmp nat_cmp) c.self.inside.index c.insert.new.self label (Some place)) size puts) in
    subst (λ items. IsLabelIndex c.insert.new.self items) (sym c.in_ok-push.ensures.items) more
