use Rattle.std.proofs.Common.{◌≡◌, List, ℕ, IsTrue, [], ◌∷◌, subst, sym, refl, ◌∙◌}
use Rattle.std.specs.List.{list_all}
use Rattle.audit_base.specs.Names.{is_name_byte}
use Rattle.csv_logs.proofs.FieldLemmas.{nine-texts}
use Rattle.csv_logs.proofs.nine_fields.NineFields.of.Goals as goal

pub invariant_of-result : goal.invariant_of-result
invariant_of-result c =
    let same : c.text_at.result.now ∷ c.text_at-2.result.now ∷ c.text_at-3.result.now ∷ c.text_at-4.result.now ∷ c.text_at-5.result.now ∷ c.text_at-6.result.now ∷ c.text_at-7.result.now ∷ c.text_at-8.result.now ∷ c.text_at-9.result.now ∷ [] ≡ c.args.fields.now =
    (λ i. c.text_at.ensures i ∷ c.text_at-2.ensures i ∷ c.text_at-3.ensures i ∷ c.text_at-4.ensures i ∷ c.text_at-5.ensures i ∷ c.text_at-6.ensures i ∷ c.text_at-7.ensures i ∷ c.text_at-8.ensures i ∷ c.text_at-9.ensures i ∷ [])
    ∙ nine-texts c.args.fields.now c.requires in
    record {
      nine = refl;
      bytes = λ known. subst (λ (texts : List (List ℕ)). IsTrue (list_all (list_all is_name_byte) texts)) (sym same) (c.have_name_bytes.ensures known);
    }

pub returns : goal.returns
returns c =
    (λ i. c.text_at.ensures i ∷ c.text_at-2.ensures i ∷ c.text_at-3.ensures i ∷ c.text_at-4.ensures i ∷ c.text_at-5.ensures i ∷ c.text_at-6.ensures i ∷ c.text_at-7.ensures i ∷ c.text_at-8.ensures i ∷ c.text_at-9.ensures i ∷ [])
    ∙ nine-texts c.args.fields.now c.requires
