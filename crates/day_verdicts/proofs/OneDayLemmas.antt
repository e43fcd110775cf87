-- The symbols of a day have one list of verdicts, and it has one text.
use Rattle.std.proofs.Common.{◌≡◌, ◌<◌, ℕ, zero, suc, Some, List, [], ◌∷◌, Ok, length, get_or, refl, sym, ap, ◌∙◌, arith}
use Rattle.std.specs.Prelude.{slice_get}
use Rattle.std.proofs.lemmas.Option.{slice_get_within, slice_get-get_or}
use Rattle.audit_report.specs.declared.verdicts.Verdict.{Verdict}
use Rattle.record_verdict.specs.RecordVerdicts.{question}
use Rattle.record_verdict.specs.Laws.{RecordVerdictIsOne}
use Rattle.day_symbols.specs.Kept.{AreForEach}
use Rattle.day_verdicts.specs.DayVerdicts.{told_of_symbols}
use Rattle.day_verdicts.specs.SymbolAnswers.{counts_of, day_lines_of}
use Rattle.day_verdicts.specs.Laws.{OneDay, VerdictsAreOne}

-- two lists with the same members are one
pub same-members : {X : Type 0} (xs ys : List X) → length xs ≡ length ys → ((i : ℕ) (x y : X) → slice_get xs i ≡ Some x → slice_get ys i ≡ Some y → x ≡ y) → xs ≡ ys
same-members [] [] sizes same = refl
same-members [] (y ∷ ys) sizes same = absurd (omega (arith, sizes))
same-members (x ∷ xs) [] sizes same = absurd (omega (arith, sizes))
same-members {X} (x ∷ xs) (y ∷ ys) sizes same =
    let first : x ≡ y = same zero x y refl refl in
    let rest : xs ≡ ys = same-members xs ys (omega (arith, sizes)) (λ i a b got-a got-b. same (suc i) a b got-a got-b) in
    λ i. first i ∷ rest i

-- what is one for each symbol is one for all
one-for-each : {X : Type 0} (P : List ℕ → X → Type 0) (symbols : List (List ℕ)) (xs ys : List X) → ((symbol : List ℕ) (x y : X) → P symbol x → P symbol y → x ≡ y) → AreForEach P symbols xs → AreForEach P symbols ys → xs ≡ ys
one-for-each {X} P symbols xs ys one are-x are-y =
    same-members xs ys (are-x.same_length ∙ sym are-y.same_length)
    (λ i x y got-x got-y.
    let lt : i < length symbols = omega (arith, slice_get_within xs i x got-x, are-x.same_length) in
    let got : slice_get symbols i ≡ Some (get_or symbols i []) = slice_get-get_or symbols i [] lt in
    one (get_or symbols i []) x y (are-x.each i (get_or symbols i []) x got got-x) (are-y.each i (get_or symbols i []) y got got-y))

pub verdicts-one : RecordVerdictIsOne → VerdictsAreOne
verdicts-one one rule table entries trades symbols a b are-a are-b =
    one-for-each _ symbols a b (λ symbol v w is-v is-w. one (question rule symbol table) entries (Ok trades) v w is-v is-w) are-a are-b

pub one-day : RecordVerdictIsOne → OneDay
one-day one rule table checks entries trades symbols a b is-a is-b =
    let same : is-a.verdicts ≡ is-b.verdicts = verdicts-one one rule table entries trades symbols is-a.verdicts is-b.verdicts is-a.verdicts_are is-b.verdicts_are in
    record {
      counts_same = is-a.tells.counts_are ∙ ap (λ (verdicts : List Verdict). counts_of (told_of_symbols checks entries trades symbols verdicts)) same ∙ sym is-b.tells.counts_are;
      lines_same = is-a.tells.lines_are ∙ ap (λ (verdicts : List Verdict). day_lines_of symbols (told_of_symbols checks entries trades symbols verdicts)) same ∙ sym is-b.tells.lines_are;
    }
