-- The contents of a CSV log: one record more.
use Rattle.std.proofs.Common.{◌≡◌, ℕ, ◌<◌, List, [], ◌∷◌, ◌++◌, Result, length, map, sym, ap, subst, ◌∙◌, arith}
use Rattle.std.specs.Prelude.{OnOk}
use Rattle.std.proofs.lemmas.List.{length-map}
use Rattle.std.proofs.lemmas.Result.{on_ok_weaker}
use Rattle.audit_base.specs.Moments.{Moment}
use Rattle.audit_base.specs.declared.faults.NoMemory.{NoMemory}
use Rattle.log_source.specs.Collectors.{HasPlace}
use Rattle.log_source.specs.Handing.{HandsOnMore}
use Rattle.log_contents.specs.Contents.{HasCsvRecords, HasKinds, HasRecords}
use Rattle.log_contents.specs.Counts.{HasCounted}
use Rattle.log_contents.specs.Facts.{AreFactsOf}
use Rattle.log_contents.specs.declared.contents.Contents.{Contents}
use Rattle.log_contents.proofs.FactLemmas.{map-more}

module _ {R : Type 0} (symbol_of : R → List ℕ) (time_of : R → Moment) (kind_of : R → List ℕ) (old : Contents R) where
  pub kinds-room : HasPlace (HasCsvRecords symbol_of time_of kind_of) old → HasPlace HasCounted old.kinds
  kinds-room place =
      let same = length-map place.entries kind_of in
      let few = place.fits_places in
      record { entries = map kind_of place.entries; has = place.has.kinds; fits_places = omega (arith, same, few) }

  pub facts-room : HasPlace (HasCsvRecords symbol_of time_of kind_of) old → HasPlace (AreFactsOf symbol_of time_of) old.facts
  facts-room place = record { entries = place.entries; has = place.has.records; fits_places = place.fits_places }

  pub taken-more : (new : Contents R) (entry : R) (kind : List ℕ) (result : Result (Unit {0}) NoMemory) → kind ≡ kind_of entry → HandsOnMore (HasCounted old.kinds) (HasCounted new.kinds) (kind ∷ [])
      → OnOk result (HandsOnMore (AreFactsOf symbol_of time_of old.facts) (AreFactsOf symbol_of time_of new.facts) (entry ∷ []))
      → OnOk result (HandsOnMore (HasCsvRecords symbol_of time_of kind_of old) (HasCsvRecords symbol_of time_of kind_of new) (entry ∷ []))
  taken-more new entry kind result is counts takes = on_ok_weaker result (λ taken list has.
      let kinds : map kind_of list ++ kind ∷ [] ≡ map kind_of (list ++ entry ∷ []) = ap (λ (k : List ℕ). map kind_of list ++ k ∷ []) is ∙ sym (map-more kind_of list entry) in
      record {
        records = taken list has.records;
        kinds = subst (λ (k : List (List ℕ)). HasCounted new.kinds k) kinds (counts (map kind_of list) has.kinds);
      }) takes
