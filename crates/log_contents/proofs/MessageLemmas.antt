-- One message: its record and its kind.
use Rattle.std.proofs.Common.{◌≡◌, ◌≢◌, ℕ, ◌+◌, ◌<◌, ◌≤◌, Bool, true, false, Option, Some, None, Result, Ok, Err, List, [], ◌∷◌, ◌++◌, length, refl, sym, subst, ap, ◌∙◌, append-nil, arith}
use Rattle.std.specs.Prelude.{IfOk, nat_lt}
use Rattle.std.proofs.lemmas.Bool.{le-ltb, lt-ltb}
use Rattle.std.proofs.lemmas.List.{length-append}
use Rattle.audit_base.specs.Moments.{Moment}
use Rattle.audit_base.specs.declared.faults.NoMemory.{NoMemory}
use Rattle.audit_base.specs.declared.faults.Reason.{Reason}
use Rattle.fix_fields.specs.Grammar.{TagValue}
use Rattle.fix_messages.specs.declared.meanings.MessageFault.{MessageFault}
use Rattle.fix_messages.specs.Bodies.{with_reason}
use Rattle.fix_messages.specs.Steps.{TakesSaid}
use Rattle.log_source.specs.Collectors.{HasPlace}
use Rattle.log_source.specs.Handing.{HandsOnMore}
use Rattle.log_contents.specs.Contents.{HasRecords, kind_if_read}
use Rattle.log_contents.specs.Facts.{AreFactsOf}
use Rattle.log_contents.specs.Kinds.{kind_by_meaning}
use Rattle.log_contents.specs.declared.contents.Contents.{Contents}
use Rattle.log_contents.specs.declared.record_facts.RecordFacts.{RecordFacts}

module _ {R : Type 0} (symbol_of : R → List ℕ) (time_of : R → Moment) (before after : RecordFacts R) (place : HasPlace (AreFactsOf symbol_of time_of) before) where
  -- the kind of a good message, by whether there is one record more
  kind-read : (fields : List TagValue) (says : Result (Option R) MessageFault) → TakesSaid (with_reason says) (AreFactsOf symbol_of time_of before) (AreFactsOf symbol_of time_of after) (Ok tt)
      → kind_by_meaning fields says ≡ Ok (Some (kind_if_read (nat_lt before.count after.count) fields))
  kind-read fields (Ok None) said =
      let was = place.has.count in
      let now = (said.0 place.entries place.has).count in
      let none : List R = [] in let longer = length-append place.entries none in
      let same = le-ltb before.count after.count (omega (arith, was, now, longer)) in
      ap (λ (b : Bool). Ok (Some (kind_if_read b fields))) (sym same)
  kind-read fields (Ok (Some entry)) said =
      let was = place.has.count in
      let now = (said.0 place.entries place.has).count in
      let longer = length-append place.entries (entry ∷ []) in
      let more = lt-ltb before.count after.count (omega (arith, was, now, longer)) in
      ap (λ (b : Bool). Ok (Some (kind_if_read b fields))) (sym more)
  kind-read fields (Err fault) said = absurd (cc said.1)

  -- the kind of a good message was counted
  pub counts-good : (fields : List TagValue) (says : Result (Option R) MessageFault) (old new : List (List ℕ) → Type 0)
      → TakesSaid (with_reason says) (AreFactsOf symbol_of time_of before) (AreFactsOf symbol_of time_of after) (Ok tt)
      → HandsOnMore old new (kind_if_read (nat_lt before.count after.count) fields ∷ []) → TakesSaid (with_reason (kind_by_meaning fields says)) old new (Ok tt)
  counts-good fields says old new said hands =
      subst (λ (kind : Result (Option (List ℕ)) MessageFault). TakesSaid (with_reason kind) old new (Ok tt)) (sym (kind-read fields says said)) (hands, refl)

-- a bad message has no kind
pub counts-bad : {R : Type 0} (fields : List TagValue) (says : Result (Option R) MessageFault) (before after : List R → Type 0) (has : List (List ℕ) → Type 0) (why : Reason)
    → TakesSaid (with_reason says) before after (Err why) → TakesSaid (with_reason (kind_by_meaning fields says)) has has (Err why)
counts-bad fields (Ok None) before after has why said = absurd (cc said.1)
counts-bad fields (Ok (Some entry)) before after has why said = absurd (cc said.1)
counts-bad fields (Err fault) before after has why said = ((λ list was. subst has (sym (append-nil list)) was), said.1)

-- the facts have a place for one record more
pub facts-place : {R : Type 0} (symbol_of : R → List ℕ) (time_of : R → Moment) (contents : Contents R) → HasPlace (HasRecords symbol_of time_of) contents → HasPlace (AreFactsOf symbol_of time_of) contents.facts
facts-place symbol_of time_of contents place = record { entries = place.entries; has = place.has; fits_places = place.fits_places }

-- a body says what its fields say
pub says-same : {R : Type 0} (says said : Result (Option R) Reason) (result : Result (Result (Unit {0}) Reason) NoMemory) (before after : List R → Type 0) → says ≡ said
    → IfOk result (TakesSaid says before after) → IfOk result (TakesSaid said before after)
says-same says said result before after is takes = subst (λ (s : Result (Option _) Reason). IfOk result (TakesSaid s before after)) is takes

-- what was said of a good message stays said where the facts stay
pub good-records : {R : Type 0} (symbol_of : R → List ℕ) (time_of : R → Moment) (says : Result (Option R) Reason) (old taken kept : RecordFacts R) (answer : Result (Unit {0}) Reason) → answer ≡ Ok tt → kept ≡ taken
    → TakesSaid says (AreFactsOf symbol_of time_of old) (AreFactsOf symbol_of time_of taken) answer → TakesSaid says (AreFactsOf symbol_of time_of old) (AreFactsOf symbol_of time_of kept) (Ok tt)
good-records symbol_of time_of says old taken kept answer is same said =
    subst (λ (f : RecordFacts _). TakesSaid says (AreFactsOf symbol_of time_of old) (AreFactsOf symbol_of time_of f) (Ok tt)) (sym same)
    (subst (λ (a : Result (Unit {0}) Reason). TakesSaid says (AreFactsOf symbol_of time_of old) (AreFactsOf symbol_of time_of taken) a) is said)

-- what a message means gives it a kind, or a fault
pub has-kind : {R : Type 0} (fields : List TagValue) (says : Result (Option R) MessageFault) → kind_by_meaning fields says ≢ Ok None
has-kind fields (Ok None) is = cc is
has-kind fields (Ok (Some entry)) is = cc is
has-kind fields (Err fault) is = cc is
