-- What a Framer stands for, through its steps.
use Rattle.std.proofs.Common.{◌≡◌, ℕ, ◌+◌, ◌-◌, ◌<◌, ◌≤◌, Bool, true, false, cond, Some, List, [], ◌∷◌, ◌++◌, length, take, drop, get_or, refl, sym, ap, ◌∙◌, inl, inr, append_assoc, arith}
use Rattle.std.specs.Prelude.{slice_get}
use Rattle.std.specs.List.{list_all, slice_range}
use Rattle.std.proofs.Math.Seq.{take-add, take-append-add, drop-append-add}
use Rattle.std.proofs.lemmas.Bool.{and_parts, and_from, cases_lt, false≢true}
use Rattle.std.proofs.lemmas.List.{length-take-le, length-drop, length-append, take-append-drop, drop-drop, take_all, append-nil, get_or-append-add, get_or-drop}
use Rattle.std.proofs.lemmas.List.Sums.{AllPass-from_list_all}
use Rattle.std.proofs.lemmas.List.Folds.{list_all-append}
use Rattle.std.proofs.lemmas.Option.{slice_get-get_or}
use Rattle.fix_framing.specs.declared.framer.Framer.{Framer}
use Rattle.fix_framing.specs.declared.frames.Frame.{Frame}
use Rattle.fix_framing.specs.declared.frames.FrameFault.TheVariants.{Truncated}
use Rattle.fix_framing.specs.Breaks.{is_line_end_byte, after_breaks}
use Rattle.fix_framing.specs.Headers.{AreHeaders}
use Rattle.fix_framing.specs.Frames.{IsFrameWith, IsFrameAt, frame_fault_with}
use Rattle.fix_framing.specs.Framing.{bytes_held, count_framed, bytes_unframed, next_text, IsFramedWith, IsFramerWith, IsNextOffset, GivesFrame, Waits, IsUnfinished}
use Rattle.fix_framing.proofs.HeaderLemmas.{nothing-begins, nothing-ends}
use Rattle.fix_framing.proofs.StayLemmas.{Truncated-bound}
use Rattle.fix_framing.proofs.TestLemmas.{some-from_FaultCase, second}

-- CR and LF alone are passed over whole, and what is after them stays
pub breaks-none : (r : List ℕ) → list_all is_line_end_byte r ≡ true → after_breaks r ≡ []
breaks-none [] h = refl
breaks-none (x ∷ xs) h =
    let both = and_parts (is_line_end_byte x) (list_all is_line_end_byte xs) h in rw both.0 (breaks-none xs both.1)

again-step : (x : ℕ) (xs : List ℕ) (b : Bool) → is_line_end_byte x ≡ b → after_breaks (after_breaks xs) ≡ after_breaks xs → after_breaks (cond b (after_breaks xs) (x ∷ xs)) ≡ cond b (after_breaks xs) (x ∷ xs)
again-step x xs true e again = again
again-step x xs false e again = rw e refl

after_breaks-again : (r : List ℕ) → after_breaks (after_breaks r) ≡ after_breaks r
after_breaks-again [] = refl
after_breaks-again (x ∷ xs) = again-step x xs (is_line_end_byte x) refl (after_breaks-again xs)

-- no bytes are less than a message
nothing-cut : (hs : List (List ℕ)) → AreHeaders hs → frame_fault_with hs [] ≡ Some Truncated
nothing-cut hs are = some-from_FaultCase hs [] Truncated (second (nothing-begins hs are) (nothing-ends hs are) refl)

pub breaks-cut : (hs : List (List ℕ)) (r : List ℕ) → AreHeaders hs → list_all is_line_end_byte r ≡ true → frame_fault_with hs (after_breaks r) ≡ Some Truncated
breaks-cut hs r are h = rw (breaks-none r h) (nothing-cut hs are)

-- one frame more, or CR and LF more
pub IsFramed-breaks : (hs : List (List ℕ)) (text gap : List ℕ) (frames : List (List ℕ)) → IsFramedWith hs text frames → list_all is_line_end_byte gap ≡ true → IsFramedWith hs (text ++ gap) frames
IsFramed-breaks hs text gap [] framed breaks = rw (list_all-append is_line_end_byte text gap) (and_from (list_all is_line_end_byte text) (list_all is_line_end_byte gap) framed breaks)
IsFramed-breaks hs text gap (f ∷ fs) framed breaks = (
  framed.0,
  framed.1,
  framed.2 ++ gap,
  framed.3,
  framed.4,
  rw framed.5 (simp append_assoc),
  IsFramed-breaks hs framed.2 gap fs framed.6 breaks,
)

pub IsFramed-frame : (hs : List (List ℕ)) (text gap f b : List ℕ) (frames : List (List ℕ)) → IsFramedWith hs text frames → list_all is_line_end_byte gap ≡ true → IsFrameWith hs f b → IsFramedWith hs (text ++ (gap ++ f)) (frames ++ f ∷ [])
IsFramed-frame hs text gap f b [] framed breaks frame =
    let both : list_all is_line_end_byte (text ++ gap) ≡ true = rw (list_all-append is_line_end_byte text gap) (and_from (list_all is_line_end_byte text) (list_all is_line_end_byte gap) framed breaks) in
    (text ++ gap, b, [], both, frame, simp (append_assoc, append-nil), refl)
IsFramed-frame hs text gap f b (g ∷ gs) framed breaks frame = (
  framed.0,
  framed.1,
  framed.2 ++ (gap ++ f),
  framed.3,
  framed.4,
  rw framed.5 (simp append_assoc),
  IsFramed-frame hs framed.2 gap f b gs framed.6 breaks frame,
)

-- a list from one place on, cut at another
cut-at : (xs : List ℕ) (i j : ℕ) → i ≤ j → drop i xs ≡ slice_range xs i j ++ drop j xs
cut-at xs i j le =
    let place : i + (j - i) ≡ j = omega arith in
    sym (take-append-drop (j - i) (drop i xs)) ∙ ap (λ ys. slice_range xs i j ++ ys) (drop-drop (j - i) i xs ∙ ap (λ (k : ℕ). drop k xs) place)

take-to : (xs : List ℕ) (i j : ℕ) → i ≤ j → take j xs ≡ take i xs ++ slice_range xs i j
take-to xs i j le =
    let place : i + (j - i) ≡ j = omega arith in
    ap (λ (k : ℕ). take k xs) (sym place) ∙ take-add i (j - i) xs

all-passed : (xs : List ℕ) (i j : ℕ) → length xs ≤ j → slice_range xs i j ≡ drop i xs
all-passed xs i j most = let rest = length-drop i xs in take_all (j - i) (drop i xs) (omega arith)

-- the bytes fed, by those held
fed-front : (before items fed : List ℕ) (base n : ℕ) → length before ≡ base → fed ≡ before ++ items → take (base + n) fed ≡ before ++ take n items
fed-front before items fed base n dropped whole =
    ap (λ (k : ℕ). take (k + n) fed) (sym dropped) ∙ (ap (λ xs. take (length before + n) xs) whole ∙ take-append-add before items n)

fed-range : (before items fed : List ℕ) (base i k : ℕ) → length before ≡ base → fed ≡ before ++ items → take k (drop (base + i) fed) ≡ take k (drop i items)
fed-range before items fed base i k dropped whole =
    ap (λ (m : ℕ). take k (drop (m + i) fed)) (sym dropped) ∙ (ap (λ xs. take k (drop (length before + i) xs)) whole ∙ ap (λ xs. take k xs) (drop-append-add before items i))

-- what stands for the bytes up to a place after CR and LF
framed-to : {H : Type 0} (hs : List (List ℕ)) (framer : Framer H) (fed : List ℕ) (frames : List (List ℕ)) (stands : IsFramerWith hs framer fed frames) (at : ℕ) → framer.next ≤ at → list_all is_line_end_byte (slice_range (bytes_held framer) framer.next at) ≡ true → IsFramedWith hs (stands.before ++ take at (bytes_held framer)) frames
framed-to hs framer fed frames stands at low breaks =
    let front = fed-front stands.before (bytes_held framer) fed framer.base framer.next stands.dropped stands.whole in
    let framed = rw front at stands.framed in
    let more = IsFramed-breaks hs (stands.before ++ take framer.next (bytes_held framer)) (slice_range (bytes_held framer) framer.next at) frames framed breaks in
    rw (take-to (bytes_held framer) framer.next at low, ← append_assoc) more

-- the last byte of a list is that of its end
slice_get-end : (xs ys : List ℕ) → 0 < length ys → slice_get (xs ++ ys) (length (xs ++ ys) - 1) ≡ slice_get ys (length ys - 1)
slice_get-end xs ys some =
    let both = length-append xs ys in
    let place : length (xs ++ ys) - 1 ≡ length xs + (length ys - 1) = omega arith in
    slice_get-get_or (xs ++ ys) (length (xs ++ ys) - 1) 0 (omega arith) ∙
    (ap Some (ap (λ (k : ℕ). get_or (xs ++ ys) k 0) place ∙ get_or-append-add xs ys (length ys - 1) 0) ∙
    sym (slice_get-get_or ys (length ys - 1) 0 (omega arith)))

-- Wait
pub waits-so : {H : Type 0} (hs : List (List ℕ)) (old new : Framer H) (at : ℕ) → old.next ≤ at → at ≤ length (bytes_held old) → list_all is_line_end_byte (slice_range (bytes_held old) old.next at) ≡ true → drop at (bytes_held old) ≡ next_text old → frame_fault_with hs (drop at (bytes_held old)) ≡ Some Truncated → bytes_held new ≡ drop at (bytes_held old) → new.base ≡ old.base + at → new.next ≡ 0 → Waits hs old new
waits-so hs old new at low high breaks rest cut items base next =
    let none : bytes_unframed new ≡ bytes_held new = ap (λ (k : ℕ). drop k (bytes_held new)) next in
    let gone = length-drop at (bytes_held old) in
    record {
      unfinished = inr (rw (← rest) cut);
      keeps = λ fed frames stands.
          let all = ap length stands.whole ∙ length-append stands.before (bytes_held old) in
          let taken = length-take-le at (bytes_held old) high in
          let front = length-append stands.before (take at (bytes_held old)) in
          let dropped = stands.dropped in
          let moved : fed ≡ (stands.before ++ take at (bytes_held old)) ++ bytes_held new =
          stands.whole ∙ (ap (λ xs. stands.before ++ xs) (sym (take-append-drop at (bytes_held old))) ∙ (sym (append_assoc stands.before (take at (bytes_held old)) (drop at (bytes_held old))) ∙ ap (λ xs. (stands.before ++ take at (bytes_held old)) ++ xs) (sym items))) in
          let same : count_framed new ≡ old.base + at = omega arith in
          record {
            before = stands.before ++ take at (bytes_held old);
            dropped = omega arith;
            whole = moved;
            within = omega arith;
            framed = rw (same, fed-front stands.before (bytes_held old) fed old.base at stands.dropped stands.whole) (framed-to hs old fed frames stands at low breaks);
          };
      bound = rw items (Truncated-bound hs (drop at (bytes_held old)) cut);
      text = ap after_breaks (none ∙ (items ∙ rest)) ∙ after_breaks-again (bytes_unframed old);
      last = λ fed frames stands others.
          let moved : fed ≡ (stands.before ++ take at (bytes_held old)) ++ bytes_held new =
          stands.whole ∙ (ap (λ xs. stands.before ++ xs) (sym (take-append-drop at (bytes_held old))) ∙ (sym (append_assoc stands.before (take at (bytes_held old)) (drop at (bytes_held old))) ∙ ap (λ xs. (stands.before ++ take at (bytes_held old)) ++ xs) (sym items))) in
          let some : 0 < length (bytes_held new) = elim (cases_lt 0 (length (bytes_held new))) [
            | inl yes_some ↦ yes_some
            | inr none_left ↦ absurd (others (rw (all-passed (bytes_held old) old.next at (omega (arith, ap length items))) at breaks))
          ] in
          (some, rw moved (sym (slice_get-end (stands.before ++ take at (bytes_held old)) (bytes_held new) some)));
    }

-- Whole
pub gives-so : {H : Type 0} (hs : List (List ℕ)) (old new : Framer H) (at : ℕ) (f : Frame) → old.next ≤ at → at ≤ length (bytes_held old) → list_all is_line_end_byte (slice_range (bytes_held old) old.next at) ≡ true → IsFrameAt hs (bytes_held old) at f → bytes_held new ≡ bytes_held old → new.base ≡ old.base → new.next ≡ f.end → GivesFrame hs old new (old.base + f.start) f.body (f.end - 7)
gives-so hs old new at f low high breaks found items base next =
    let start = found.begins in
    let within = found.within in
    let behind = found.body_later in
    let before = found.before in
    let gap = length-take-le (at - old.next) (drop old.next (bytes_held old)) (omega (arith, length-drop old.next (bytes_held old))) in
    let size = length-take-le (f.end - f.start) (drop f.start (bytes_held old)) (omega (arith, length-drop f.start (bytes_held old))) in
    let rest : bytes_unframed new ≡ drop f.end (bytes_held old) = ap (λ (k : ℕ). drop k (bytes_held new)) next ∙ ap (λ xs. drop f.end xs) items in
    let behind_gap : drop at (bytes_held old) ≡ slice_range (bytes_held old) f.start f.end ++ bytes_unframed new =
    ap (λ (k : ℕ). drop k (bytes_held old)) (sym start) ∙ (cut-at (bytes_held old) f.start f.end (omega arith) ∙ ap (λ xs. slice_range (bytes_held old) f.start f.end ++ xs) (sym rest)) in
    let shown : bytes_unframed old ≡ slice_range (bytes_held old) old.next at ++ (slice_range (bytes_held old) f.start f.end ++ bytes_unframed new) =
    cut-at (bytes_held old) old.next at low ∙ ap (λ xs. slice_range (bytes_held old) old.next at ++ xs) behind_gap in
    let left = ap length rest ∙ length-drop f.end (bytes_held old) in
    let was = length-drop old.next (bytes_held old) in
    let front : take f.end (bytes_held old) ≡ (take old.next (bytes_held old) ++ slice_range (bytes_held old) old.next at) ++ slice_range (bytes_held old) f.start f.end =
    take-to (bytes_held old) f.start f.end (omega arith) ∙ (ap (λ (k : ℕ). take k (bytes_held old) ++ slice_range (bytes_held old) f.start f.end) start ∙ ap (λ xs. xs ++ slice_range (bytes_held old) f.start f.end) (take-to (bytes_held old) old.next at low)) in
    let length_is : f.start + length (slice_range (bytes_held old) f.start f.end) ≡ f.end = omega arith in
    record {
      gap = slice_range (bytes_held old) old.next at;
      frame = slice_range (bytes_held old) f.start f.end;
      next = shown;
      breaks = breaks;
      message = rw items found.message;
      begins = omega arith;
      ordered = omega arith;
      inside = rw items (omega arith);
      ends = omega arith;
      shorter = omega arith;
      appends = λ fed frames stands.
          let all = ap length stands.whole ∙ length-append stands.before (bytes_held old) in
          let dropped = stands.dropped in
          let same : count_framed new ≡ old.base + f.end = omega arith in
          let framed = rw (fed-front stands.before (bytes_held old) fed old.base old.next stands.dropped stands.whole) at stands.framed in
          let more = IsFramed-frame hs (stands.before ++ take old.next (bytes_held old)) (slice_range (bytes_held old) old.next at) (slice_range (bytes_held old) f.start f.end) (slice_range (bytes_held old) f.body (f.end - 7)) frames framed breaks found.message in
          let text : take (count_framed new) fed ≡ (stands.before ++ take old.next (bytes_held old)) ++ (slice_range (bytes_held old) old.next at ++ slice_range (bytes_held old) f.start f.end) =
          ap (λ (k : ℕ). take k fed) same ∙ (fed-front stands.before (bytes_held old) fed old.base f.end stands.dropped stands.whole ∙ (ap (λ xs. stands.before ++ xs) front ∙ simp append_assoc)) in
          let count : old.base + f.start + length (slice_range (bytes_held old) f.start f.end) - (old.base + f.start) ≡ f.end - f.start = omega arith in (
            record {
              before = stands.before;
              dropped = stands.dropped ∙ sym base;
              whole = stands.whole ∙ ap (λ xs. stands.before ++ xs) (sym items);
              within = omega arith;
              framed = rw text more;
            },
            ap (λ (k : ℕ). take k (drop (old.base + f.start) fed)) count ∙ fed-range stands.before (bytes_held old) fed old.base f.start (f.end - f.start) stands.dropped stands.whole,
          );
    }

pub unfinished-cut : {H : Type 0} (hs : List (List ℕ)) (framer : Framer H) → AreHeaders hs → IsUnfinished hs framer → frame_fault_with hs (next_text framer) ≡ Some Truncated
unfinished-cut hs framer are (inl breaks) = breaks-cut hs (bytes_unframed framer) are breaks
unfinished-cut hs framer are (inr cut) = cut

-- a byte after CR and LF is left where a text isn't these alone
pub others-left : (xs : List ℕ) (i at : ℕ) → i ≤ at → at < length xs → is_line_end_byte (get_or xs at 0) ≡ false → list_all is_line_end_byte (drop i xs) ≡ true → ⊥
others-left xs i at low inside other breaks =
    let pass = AllPass-from_list_all is_line_end_byte (drop i xs) breaks (at - i) 0 (omega (arith, length-drop i xs)) in
    let place : i + (at - i) ≡ at = omega arith in
    let here = get_or-drop i xs (at - i) 0 ∙ ap (λ (k : ℕ). get_or xs k 0) place in
    false≢true (sym other ∙ (ap is_line_end_byte (sym here) ∙ pass))

-- the offset of the next text
pub next-offset-so : {H : Type 0} (hs : List (List ℕ)) (framer : Framer H) (at : ℕ) → at ≤ length (bytes_held framer) → drop at (bytes_held framer) ≡ next_text framer → IsNextOffset hs framer (framer.base + at)
next-offset-so hs framer at high rest =
    let left = ap length rest in
    let gone = length-drop at (bytes_held framer) in
    record {
      counted = omega arith;
      there = λ fed frames stands.
          ap (λ (m : ℕ). drop (m + at) fed) (sym stands.dropped) ∙ (ap (λ xs. drop (length stands.before + at) xs) stands.whole ∙ (drop-append-add stands.before (bytes_held framer) at ∙ rest));
    }
