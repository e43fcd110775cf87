-- What was written of a text piece by piece.
use Rattle.std.proofs.Common.{◌≡◌, ◌∙◌, ap, refl, sym, subst, inl, inr, zero, suc, ℕ, ◌+◌, ◌-◌, ◌≤◌, ◌<◌, List, [], ◌∷◌, ◌++◌, length, take, Ok, Err, append_assoc, arith}
use Rattle.std.specs.Io.KnownBytes.{Appends}
use Rattle.std.proofs.KnownBytes.{Appends-nil, Appends-trans}
use Rattle.std.proofs.Math.Seq.{take-append-add}
use Rattle.std.proofs.lemmas.List.{length-append, take_at}
use Rattle.audit_base.specs.declared.terms.Form.{Form}
use Rattle.log_maker.specs.Generator.{generated_records_after, state_at}
use Rattle.log_source.specs.Sinks.{AppendsPart, SinkState, SinkStays}
use Rattle.log_source.specs.Sources.{RoseOrIsFull}
use Rattle.written_logs.specs.Texts.{order_head, order_lines}
use Rattle.written_logs.specs.declared.generated_faults.GenerateFault.{GenerateFault}
use Rattle.written_logs.specs.declared.generated_faults.GenerateFault.TheVariants as fault
use Rattle.written_logs.specs.GeneratedBlocks.{HasWrittenFirst, WritesBlock, WritesPiece}
use Rattle.written_logs.specs.GeneratedTexts.{WritesGeneratedLog, WritesWhileMade, generated_text}
use Rattle.written_logs.proofs.TextLemmas.{front-all, front-more, front-none, front_of, text-cut}

rose-since : (a b c : ℕ) → a ≤ b → RoseOrIsFull b c → RoseOrIsFull a c
rose-since a b c less (inl rose) = inl (omega (arith, less, rose))
rose-since a b c less (inr full) = inr full

pub stays-on : (a b c : SinkState) → SinkStays a b → SinkStays b c → SinkStays a c
stays-on a b c first second =
    let early = first.later in
    let late = second.later in
    record { tells = second.tells ∙ first.tells; sure = second.sure ∙ first.sure; later = omega (arith, early, late) }

pub stays-same : (a : SinkState) → SinkStays a a
stays-same a = record { tells = refl; sure = refl; later = omega arith }

-- a piece is behind what was written, and is not the whole rest of the text
module _ (before old new : SinkState) (early piece rest : List ℕ) (stays : SinkStays before old) (wrote : Appends before.wrote old.wrote early) where
  part-behind : AppendsPart old.wrote new.wrote piece → AppendsPart before.wrote new.wrote (early ++ (piece ++ rest))
  part-behind part =
      let short = part.short in
      let size : length (early ++ (piece ++ rest)) ≡ length early + (length piece + length rest) =
      length-append early (piece ++ rest) ∙ ap (λ (n : ℕ). length early + n) (length-append piece rest) in
      let front : take part.count (piece ++ rest) ≡ take part.count piece = take-front part.count piece rest (omega (arith, short)) in
      let whole : early ++ take part.count piece ≡ take (length early + part.count) (early ++ (piece ++ rest)) =
      ap (λ (l : List ℕ). early ++ l) (sym front) ∙ sym (take-append-add early (piece ++ rest) part.count) in
      record {
        count = length early + part.count;
        short = omega (arith, short, size);
        part = subst (Appends before.wrote new.wrote) whole (Appends-trans before.wrote old.wrote new.wrote early (take part.count piece) wrote part.part);
      }
    where
      take-front : (n : ℕ) (xs ys : List ℕ) → n ≤ length xs → take n (xs ++ ys) ≡ take n xs
      take-front zero xs ys few = refl
      take-front (suc n) [] ys few = absurd (omega (arith, few))
      take-front (suc n) (x ∷ xs) ys few = ap (λ (l : List ℕ). x ∷ l) (take-front n xs ys (omega (arith, few)))

  -- where the piece is not written, a beginning of the text was
  pub fails-behind : (S T : Type 0) (why : GenerateFault) → WritesPiece {T = S} piece old new (Err why) → WritesWhileMade {T = T} (early ++ (piece ++ rest)) before new (Err why)
  fails-behind S T fault.Memory same = record {
    early = early;
    begins = take_at early (piece ++ rest) (length early) refl;
    wrote = subst (λ (s : SinkState). Appends before.wrote s.wrote early) (sym same) wrote;
  }
  fails-behind S T fault.Sink fails = record {
    part = part-behind fails.part;
    cause = record { rose = rose-since before.faults old.faults new.faults stays.later fails.cause.rose; reached = fails.cause.reached };
  }

module _ (form : Form) (start count : ℕ) where
  -- the head was not written
  pub head-fails : (S T : Type 0) (old new : SinkState) (why : GenerateFault) → SinkStays old old → WritesPiece {T = S} (order_head form) old new (Err why) → WritesGeneratedLog {T = T} form start count old new (Err why)
  head-fails S T old new why same fails =
      let text : generated_text form start count ≡ order_head form ++ order_lines form (generated_records_after start 0 (count - 0)) =
      text-cut form start 0 count (omega arith) ∙ ap (λ (l : List ℕ). l ++ order_lines form (generated_records_after start 0 (count - 0))) (sym (front-none form start)) in
      subst (λ (t : List ℕ). WritesWhileMade {T = T} t old new (Err why)) (sym text)
      (fails-behind old old new [] (order_head form) (order_lines form (generated_records_after start 0 (count - 0))) same (Appends-nil old.wrote) S T why fails)

  -- a block was not written
  pub block-fails : (T : Type 0) (first n state : ℕ) (before old new : SinkState) (why : GenerateFault) → first + n ≤ count → HasWrittenFirst form start first state before old
      → WritesBlock form start first n old new (Err why) → WritesGeneratedLog {T = T} form start count before new (Err why)
  block-fails T first n state before old new why few has fails =
      let piece : List ℕ = order_lines form (generated_records_after start first n) in
      let rest : List ℕ = order_lines form (generated_records_after start (first + n) (count - (first + n))) in
      let text : generated_text form start count ≡ front_of form start first ++ (piece ++ rest) =
      text-cut form start (first + n) count few ∙ ap (λ (l : List ℕ). l ++ rest) (sym (front-more form start first n)) ∙ append_assoc (front_of form start first) piece rest in
      subst (λ (t : List ℕ). WritesWhileMade {T = T} t before new (Err why)) (sym text)
      (fails-behind before old new (front_of form start first) piece rest has.stays has.wrote ℕ T why fails.piece)

  -- nothing but the head is written
  pub first-none : (old new : SinkState) → SinkStays old new → Appends old.wrote new.wrote (order_head form) → start ≡ state_at start 0 → HasWrittenFirst form start 0 start old new
  first-none old new stays wrote at = record {
    stays = stays;
    wrote = subst (Appends old.wrote new.wrote) (front-none form start) wrote;
    state_is = at;
  }

  -- a block more is written
  pub first-more : (first n state next : ℕ) (before old new : SinkState) → HasWrittenFirst form start first state before old → SinkStays old new
      → WritesBlock form start first n old new (Ok next) → HasWrittenFirst form start (first + n) next before new
  first-more first n state next before old new has stays is = record {
    stays = stays-on before old new has.stays stays;
    wrote = subst (Appends before.wrote new.wrote) (front-more form start first n)
        (Appends-trans before.wrote old.wrote new.wrote (front_of form start first) (order_lines form (generated_records_after start first n)) has.wrote is.piece);
    state_is = is.state_is;
  }

  -- all is written
  pub all-written : (first state : ℕ) (before now : SinkState) → first ≡ count → HasWrittenFirst form start first state before now → Appends before.wrote now.wrote (generated_text form start count)
  all-written first state before now all has = subst (Appends before.wrote now.wrote) (ap (front_of form start) all ∙ front-all form start count) has.wrote
