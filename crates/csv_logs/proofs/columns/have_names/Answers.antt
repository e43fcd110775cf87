use Rattle.std.proofs.Common.{◌≡◌, ℕ, Some, Bor, List, get_or, arith, sym, ◌∙◌, inl, inr, ap, subst}
use Rattle.std.proofs.lemmas.List.{get_or_default}
use Rattle.csv.specs.Records.{field_at}
use Rattle.csv_logs.proofs.FieldLemmas.{names-same, names-differ}
use Rattle.std.proofs.lemmas.Bool.{false≢true, cases_eq}
use Rattle.csv_logs.proofs.columns.have_names.Goals as goal

pub returns-then-not-has_name : goal.returns-then-not-has_name
returns-then-not-has_name c =
    names-differ _ _ c.loop-at.at _ c.loop-at-test.true (λ same. false≢true (sym c.if-not-has_name.true ∙ c.has_name.ensures.1 same))

pub loop-at-preserved : goal.loop-at-preserved
loop-at-preserved c = λ k d h. elim (cases_eq k c.loop-at.at) [
  | inl same ↦
      let here = c.has_name.ensures.0 c.if-not-has_name.false ∙ ap (λ (n : Bor (List ℕ)). Some n.now) (get_or_default _ _ _ d c.loop-at-test.true) in
      subst (λ (j : ℕ). field_at c.args.fields.now j ≡ Some (get_or c.args.names.now j d).now) (sym same) here
  | inr other ↦ c.loop-at.invariant k d (omega (arith, h, other))
]

pub returns : goal.returns
returns c = names-same _ _ (sym c.len.ensures ∙ c.if-len-names.false) (λ k d h. c.loop-at.invariant k d (omega (arith, h)))
