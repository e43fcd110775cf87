-- What was written of a log while it is read.
use Rattle.std.proofs.Common.{◌≡◌, ℕ, ◌+◌, ◌≤◌, true, List, [], ◌∷◌, ◌++◌, length, take, Option, Some, None, Err, ap, refl, sym, subst, ◌∙◌, inl, inr, arith}
use Rattle.std.specs.Prelude.{IfSome, IsSome}
use Rattle.std.specs.Io.{StartsWith}
use Rattle.std.specs.List.{flat_map}
use Rattle.std.specs.Io.KnownBytes.{Appends, Consumes}
use Rattle.std.proofs.KnownBytes.{Appends-nil, Appends-trans, Consumes-trans}
use Rattle.std.proofs.Math.Seq.{take-append-add}
use Rattle.std.proofs.lemmas.Grind.{flat_map-append}
use Rattle.std.proofs.lemmas.List.{length-append, length-take, take_at}
use Rattle.audit_base.specs.declared.terms.Which.{Which}
use Rattle.fix_days.specs.declared.faults.BadMessage.{BadMessage}
use Rattle.fix_days.specs.Fronts.{BeginsReadings}
use Rattle.log_source.specs.Calls.{count_after}
use Rattle.log_source.specs.Sinks.{AppendsPart, HasFailureCause, SinkState, SinkStays}
use Rattle.log_source.specs.Sources.{ChangesOneSlot, RoseOrIsFull}
use Rattle.log_source.specs.declared.shelf.Shelf as shelf
use Rattle.plain_logs.specs.declared.day_ends.PlainFault.{PlainFault}
use Rattle.plain_logs.specs.declared.day_ends.PlainFault.TheVariants as plain
use Rattle.plain_logs.specs.DayFeeds.{ReadsPiece}
use Rattle.plain_logs.specs.Passing.{FailsAtMore, PassesPiece, WritesMore}
use Rattle.plain_logs.specs.PlainLogs.{FailsAtFront, ReadsFrontOf, StopsWriting, WritesFront}

pub record Passing {F D : Type 0} (shelves : shelf.Ghosts F) (writes : List ℕ → List ℕ) (reads : List ℕ → List (List ℕ) → Option BadMessage → Type 0) (has_read : D → List ℕ → List (List ℕ) → Type 0) (which : Which) (name : List ℕ) (limit : ℕ) (first now : F) (feed : D)
    (sink_first sink_now : SinkState) (taken : ℕ) : Type 0 where
  pub only : ChangesOneSlot shelves.tells shelves.log_of shelves.slot which first now
  pub later : (shelves.slot first which).faults ≤ (shelves.slot now which).faults
  pub once : (shelves.slot now which).starts ≡ count_after (shelves.slot first which).starts
  pub started : (shelves.slot now which).started ≡ true
  pub taken_is : (shelves.slot now which).taken ≡ taken
  pub within : taken ≤ limit
  pub read : List ℕ
  pub bodies : List (List ℕ)
  pub has : has_read feed read bodies
  pub count : length read ≡ taken
  pub given : (shelves.slot now which).gave read ≡ true
  pub known : shelves.tells first ≡ true → IsSome (shelves.log_of first which name) × Consumes (shelves.log_of first which name) (shelves.slot now which).left read
  pub begins : BeginsReadings reads read bodies
  pub wrote : Appends sink_first.wrote sink_now.wrote (flat_map writes bodies)
  pub quiet : sink_now.faults ≡ sink_first.faults
  pub stays : SinkStays sink_first sink_now

-- what was consumed is a front
pub consumes-front : (a b : Option (List ℕ)) (bs : List ℕ) → Consumes a b bs → IfSome a (λ xs. StartsWith xs bs)
consumes-front None b bs is = tt
consumes-front (Some xs) None bs is = absurd is
consumes-front (Some xs) (Some ys) bs is = ap (take (length bs)) is ∙ take_at bs ys (length bs) refl

-- the text of more bodies is behind that of the first ones
pub text-more : (writes : List ℕ → List ℕ) (bodies more : List (List ℕ)) → flat_map writes (bodies ++ more) ≡ flat_map writes bodies ++ flat_map writes more
text-more writes bodies more = flat_map-append writes bodies more

pub wrote-more : (writes : List ℕ → List ℕ) (a b c : SinkState) (bodies more : List (List ℕ)) → Appends a.wrote b.wrote (flat_map writes bodies) → Appends b.wrote c.wrote (flat_map writes more) → Appends a.wrote c.wrote (flat_map writes (bodies ++ more))
wrote-more writes a b c bodies more first second =
    subst (Appends a.wrote c.wrote) (sym (text-more writes bodies more)) (Appends-trans a.wrote b.wrote c.wrote (flat_map writes bodies) (flat_map writes more) first second)

part-more : (writes : List ℕ → List ℕ) (a b c : SinkState) (bodies more : List (List ℕ)) → Appends a.wrote b.wrote (flat_map writes bodies) → AppendsPart b.wrote c.wrote (flat_map writes more) → AppendsPart a.wrote c.wrote (flat_map writes (bodies ++ more))
part-more writes a b c bodies more first part =
    let short = part.short in
    let whole : flat_map writes bodies ++ take part.count (flat_map writes more) ≡ take (length (flat_map writes bodies) + part.count) (flat_map writes (bodies ++ more)) =
    sym (take-append-add (flat_map writes bodies) (flat_map writes more) part.count) ∙ ap (take (length (flat_map writes bodies) + part.count)) (sym (text-more writes bodies more)) in
    let size : length (flat_map writes (bodies ++ more)) ≡ length (flat_map writes bodies) + length (flat_map writes more) =
    ap length (text-more writes bodies more) ∙ length-append (flat_map writes bodies) (flat_map writes more) in
    record {
      count = length (flat_map writes bodies) + part.count;
      short = omega (arith, short, size);
      part = subst (Appends a.wrote c.wrote) whole (Appends-trans a.wrote b.wrote c.wrote (flat_map writes bodies) (take part.count (flat_map writes more)) first part.part);
    }

rose-since : (a b c : ℕ) → a ≤ b → RoseOrIsFull b c → RoseOrIsFull a c
rose-since a b c less (inl rose) = inl (omega (arith, less, rose))
rose-since a b c less (inr full) = inr full

pub stays-on : (a b c : SinkState) → SinkStays a b → SinkStays b c → SinkStays a c
stays-on a b c first second =
    let early = first.later in
    let late = second.later in
    record { tells = second.tells ∙ first.tells; sure = second.sure ∙ first.sure; later = omega (arith, early, late) }

cause-since : (a b c : SinkState) → SinkStays a b → HasFailureCause b c → HasFailureCause a c
cause-since a b c stays cause = record { rose = rose-since a.faults b.faults c.faults stays.later cause.rose; reached = cause.reached }

module _ {D : Type 0} (writes : List ℕ → List ℕ) (reads : List ℕ → List (List ℕ) → Option BadMessage → Type 0) (has_read : D → List ℕ → List (List ℕ) → Type 0) (old new : D) (piece : List ℕ) (sink_old sink_new : SinkState) where
  -- the text of a piece was written
  pub piece-written : {T : Type 0} (text : List ℕ) (unit : T) → ReadsPiece writes reads has_read old new piece text → Appends sink_old.wrote sink_new.wrote text → sink_new.faults ≡ sink_old.faults
      → (day : List ℕ) (bodies : List (List ℕ)) → has_read old day bodies → WritesMore writes reads has_read new (day ++ piece) bodies sink_old sink_new
  piece-written text unit on wrote quiet day bodies has =
      let more = on day bodies has in
      record { more = more.more; read = more.read; begins = more.begins; wrote = subst (Appends sink_old.wrote sink_new.wrote) more.text_is wrote; quiet = quiet }

  -- a part of it was written
  pub piece-failed : (text : List ℕ) → ReadsPiece writes reads has_read old new piece text → AppendsPart sink_old.wrote sink_new.wrote text → HasFailureCause sink_old sink_new
      → (day : List ℕ) (bodies : List (List ℕ)) → has_read old day bodies → FailsAtMore writes reads (day ++ piece) bodies sink_old sink_new
  piece-failed text on part cause day bodies has =
      let more = on day bodies has in
      record { more = more.more; begins = more.begins; part = subst (AppendsPart sink_old.wrote sink_new.wrote) more.text_is part; cause = cause }

module _ {F : Type 0} (shelves : shelf.Ghosts F) (writes : List ℕ → List ℕ) (reads : List ℕ → List (List ℕ) → Option BadMessage → Type 0) (which : Which) (name : List ℕ) (first new : F) where
  -- a front of the log was read
  pub front-of-log : (left : Option (List ℕ)) (read : List ℕ) (bodies : List (List ℕ)) → length read ≤ (shelves.slot new which).taken
      → (shelves.tells first ≡ true → IsSome (shelves.log_of first which name) × Consumes (shelves.log_of first which name) left read) → BeginsReadings reads read bodies
      → ReadsFrontOf shelves reads which name first new read bodies
  front-of-log left read bodies few known begins = record {
    taken = few;
    known = λ tells. consumes-front (shelves.log_of first which name) left read (known tells).1;
    begins = begins;
  }

  -- nothing was read yet
  pub nothing-read : (a : SinkState) → WritesFront shelves writes reads which name first new a a
  nothing-read a = record {
    front = [];
    bodies = [];
    of = record { taken = omega arith; known = λ tells. nothing-first (shelves.log_of first which name); begins = λ more others bad is. (others, refl) };
    wrote = Appends-nil a.wrote;
    quiet = refl;
  }
    where
      nothing-first : (log : Option (List ℕ)) → IfSome log (λ xs. StartsWith xs [])
      nothing-first None = tt
      nothing-first (Some xs) = refl

  -- the sink failed at a piece
  pub fails-at : (a b c : SinkState) (left : Option (List ℕ)) (read : List ℕ) (bodies : List (List ℕ)) → SinkStays a b → Appends a.wrote b.wrote (flat_map writes bodies) → FailsAtMore writes reads read bodies b c → length read ≤ (shelves.slot new which).taken
      → (shelves.tells first ≡ true → IsSome (shelves.log_of first which name) × Consumes (shelves.log_of first which name) left read) → FailsAtFront shelves writes reads which name first new a c
  fails-at a b c left read bodies stays wrote fails few known = record {
    front = read;
    bodies = bodies ++ fails.more;
    of = front-of-log left read (bodies ++ fails.more) few known fails.begins;
    part = part-more writes a b c bodies fails.more wrote fails.part;
    cause = cause-since a b c stays fails.cause;
  }

  -- reading stopped after a front
  pub stops-after : (a b : SinkState) (left : Option (List ℕ)) (read : List ℕ) (bodies : List (List ℕ)) → Appends a.wrote b.wrote (flat_map writes bodies) → b.faults ≡ a.faults → BeginsReadings reads read bodies → length read ≤ (shelves.slot new which).taken
      → (shelves.tells first ≡ true → IsSome (shelves.log_of first which name) × Consumes (shelves.log_of first which name) left read) → WritesFront shelves writes reads which name first new a b
  stops-after a b left read bodies wrote quiet begins few known = record { front = read; bodies = bodies; of = front-of-log left read bodies few known begins; wrote = wrote; quiet = quiet }

  -- a piece was not passed on
  pub stops-at-piece : {D : Type 0} (T : Type 0) (has_read : D → List ℕ → List (List ℕ) → Type 0) (feed fed : D) (count : ℕ) (buf : List ℕ) (a b c : SinkState) (left next : Option (List ℕ)) (read : List ℕ) (bodies : List (List ℕ)) (fault : PlainFault)
      → PassesPiece {T = T} writes reads has_read feed fed (take count buf) b c (Err fault) → has_read feed read bodies → SinkStays a b → Appends a.wrote b.wrote (flat_map writes bodies) → b.faults ≡ a.faults → BeginsReadings reads read bodies
      → length read + count ≤ (shelves.slot new which).taken → (shelves.tells first ≡ true → IsSome (shelves.log_of first which name) × Consumes (shelves.log_of first which name) left read) → Consumes left next (take count buf)
      → StopsWriting shelves writes reads which name first new a c fault
  stops-at-piece T has_read feed fed count buf a b c left next read bodies (plain.Log why) is has stays wrote quiet begins few known moved =
      stops-after a c left read bodies (subst (λ (s : SinkState). Appends a.wrote s.wrote (flat_map writes bodies)) (sym is.1) wrote) (subst (λ (s : SinkState). s.faults ≡ a.faults) (sym is.1) quiet) begins (omega (arith, few)) known
  stops-at-piece T has_read feed fed count buf a b c left next read bodies plain.Sink is has stays wrote quiet begins few known moved =
      let size = length-append read (take count buf) in
      let part = length-take count buf in
      fails-at a b c next (read ++ take count buf) bodies stays wrote (is read bodies has) (omega (arith, few, size, part))
      (λ tells. ((known tells).0, Consumes-trans (shelves.log_of first which name) left next read (take count buf) (known tells).1 moved))

-- the whole log is a front of it
pub whole-front : (log : Option (List ℕ)) (bytes : List ℕ) → log ≡ Some bytes → IfSome log (λ xs. StartsWith xs bytes)
whole-front log bytes is = subst (λ (o : Option (List ℕ)). IfSome o (λ xs. StartsWith xs bytes)) (sym is) (take-all bytes)
  where
    take-all : (xs : List ℕ) → take (length xs) xs ≡ xs
    take-all [] = refl
    take-all (x ∷ xs) = ap (λ (t : List ℕ). x ∷ t) (take-all xs)
