-- The items of a log, and what they say after frames that are good.
use Rattle.std.proofs.Common.{◌≡◌, ℕ, zero, suc, ◌+◌, ◌-◌, ◌*◌, ◌≤◌, Bool, true, false, cond, Option, Some, None, Result, Ok, Err, List, [], ◌∷◌, ◌++◌, length, drop, refl, sym, subst, ap, ◌∙◌, inl, inr, append_assoc, arith}
use Rattle.std.specs.List.{list_all}
use Rattle.std.specs.Option.{option_to_list}
use Rattle.std.proofs.lemmas.Bool.{and_parts, cases_Bool}
use Rattle.std.proofs.lemmas.List.{append-nil, drop_at, length-append}
use Rattle.audit_base.specs.declared.faults.Reason.{Reason}
use Rattle.audit_base.specs.declared.faults.BadPlace.{BadPlace}
use Rattle.fix_fields.specs.Grammar.{TagValue}
use Rattle.fix_framing.specs.Breaks.{is_line_end_byte, after_breaks}
use Rattle.fix_framing.specs.Headers.{header}
use Rattle.fix_framing.specs.Frames.{before_checksum, checksum_field, IsFrame, frame_fault, frame_size, body_of}
use Rattle.fix_framing.specs.Framing.{IsFramed}
use Rattle.fix_framing.specs.declared.frames.FrameFault.{FrameFault}
use Rattle.fix_framing.proofs.FrameLemmas.{length-before}
use Rattle.fix_framing.proofs.Fix44Lemmas.{IsFrame-whole, IsFrame-head, IsFrame-no_fault, IsFrame-body_of, IsFrame-size}
use Rattle.fix_messages.specs.declared.meanings.MessageFault.{MessageFault}
use Rattle.fix_messages.specs.Bodies.{body_says}
use Rattle.fix_messages.specs.Feeds.{after_frame, read_frames}
use Rattle.fix_messages.specs.Logs.{MessageItem, after_item, item_and, items_from, read_items, with_record_of_message}

-- bytes of the message before are passed over
items-inside : (inside at : ℕ) (text : List ℕ) → inside ≤ length text → items_from inside at text ≡ items_from 0 (at + inside) (drop inside text)
items-inside zero at text h = ap (λ (k : ℕ). items_from 0 k text) (omega arith)
items-inside (suc n) at [] h = absurd (omega (arith, h))
items-inside (suc n) at (byte ∷ rest) h =
    let place : at + 1 + n ≡ at + suc n = omega arith in
    items-inside n (at + 1) rest (omega (arith, h)) ∙ ap (λ (k : ℕ). items_from 0 k (drop n rest)) place

-- CR and LF are passed over
pub items-breaks : (at : ℕ) (gap rest : List ℕ) → list_all is_line_end_byte gap ≡ true → items_from 0 at (gap ++ rest) ≡ items_from 0 (at + length gap) rest
items-breaks at [] rest h = ap (λ (k : ℕ). items_from 0 k rest) (omega arith)
items-breaks at (byte ∷ gap) rest h =
    let both = and_parts (is_line_end_byte byte) (list_all is_line_end_byte gap) h in
    let place : at + 1 + length gap ≡ at + length (byte ∷ gap) = omega arith in
    ap (λ (b : Bool). cond {A = List MessageItem} b (items_from 0 (at + 1) (gap ++ rest)) (item_and at (byte ∷ (gap ++ rest)) (frame_fault (byte ∷ (gap ++ rest))) (items_from (frame_size (byte ∷ (gap ++ rest)) - 1) (at + 1) (gap ++ rest)))) both.0
    ∙ items-breaks (at + 1) gap rest both.1 ∙ ap (λ (k : ℕ). items_from 0 k rest) place

-- what begins with another byte is an item
items-other : (at byte : ℕ) (rest : List ℕ) → is_line_end_byte byte ≡ false
    → items_from 0 at (byte ∷ rest) ≡ item_and at (byte ∷ rest) (frame_fault (byte ∷ rest)) (items_from (frame_size (byte ∷ rest) - 1) (at + 1) rest)
items-other at byte rest other =
    ap (λ (b : Bool). cond {A = List MessageItem} b (items_from 0 (at + 1) rest) (item_and at (byte ∷ rest) (frame_fault (byte ∷ rest)) (items_from (frame_size (byte ∷ rest) - 1) (at + 1) rest))) other

-- a message begins with `8`
pub frame-first : (frame body : List ℕ) → IsFrame frame body → (tail : List ℕ) × (frame ≡ 56 ∷ tail)
unfolding header
frame-first frame body is = (_, IsFrame-whole frame body is)

items-message : (at : ℕ) (tail rest body : List ℕ) → IsFrame (56 ∷ tail) body
    → items_from 0 at (56 ∷ (tail ++ rest)) ≡ record { start = at; body = Ok body } ∷ items_from 0 (at + length (56 ∷ tail)) rest
items-message at tail rest body is =
    let size : frame_size (56 ∷ (tail ++ rest)) ≡ length (56 ∷ tail) = IsFrame-size (56 ∷ tail) body rest is in
    let inside : frame_size (56 ∷ (tail ++ rest)) - 1 ≡ length tail = omega arith in
    let high : length tail ≤ length (tail ++ rest) = omega (arith, length-append tail rest) in
    let place : at + 1 + length tail ≡ at + length (56 ∷ tail) = omega arith in
    let later : items_from (frame_size (56 ∷ (tail ++ rest)) - 1) (at + 1) (tail ++ rest) ≡ items_from 0 (at + length (56 ∷ tail)) rest =
    ap (λ (k : ℕ). items_from k (at + 1) (tail ++ rest)) inside ∙ items-inside (length tail) (at + 1) (tail ++ rest) high
    ∙ ap (λ (t : List ℕ). items_from 0 (at + 1 + length tail) t) (drop_at tail rest (length tail) refl) ∙ ap (λ (k : ℕ). items_from 0 k rest) place in
    items-other at 56 (tail ++ rest) refl
    ∙ ap (λ (f : Option FrameFault). item_and at (56 ∷ (tail ++ rest)) f (items_from (frame_size (56 ∷ (tail ++ rest)) - 1) (at + 1) (tail ++ rest))) (IsFrame-no_fault (56 ∷ tail) body rest is)
    ∙ ap (λ (b : List ℕ). record { start = at; body = Ok b } ∷ items_from (frame_size (56 ∷ (tail ++ rest)) - 1) (at + 1) (tail ++ rest)) (IsFrame-body_of (56 ∷ tail) body rest is)
    ∙ ap (λ (items : List MessageItem). record { start = at; body = Ok body } ∷ items) later

-- a message is an item
pub items-frame : (at : ℕ) (frame rest body : List ℕ) → IsFrame frame body
    → items_from 0 at (frame ++ rest) ≡ record { start = at; body = Ok body } ∷ items_from 0 (at + length frame) rest
items-frame at frame rest body is =
    let first = frame-first frame body is in
    let tail : List ℕ = first.0 in
    let cut : frame ≡ 56 ∷ tail = first.1 in
    let message : IsFrame (56 ∷ tail) body = subst (λ (f : List ℕ). IsFrame f body) cut is in
    subst (λ (f : List ℕ). items_from 0 at (f ++ rest) ≡ record { start = at; body = Ok body } ∷ items_from 0 (at + length f) rest) (sym cut) (items-message at tail rest body message)

-- a place where no message begins is the last item
pub items-fault : (at : ℕ) (text more : List ℕ) (fault : FrameFault) → list_all is_line_end_byte text ≡ false → frame_fault (after_breaks text ++ more) ≡ Some fault
    → items_from 0 at (text ++ more) ≡ record { start = at + length text - length (after_breaks text); body = Err fault } ∷ []
items-fault at [] more fault h fails = absurd (cc h)
items-fault at (byte ∷ rest) more fault h fails = elim (cases_Bool (is_line_end_byte byte)) [
  | inl same ↦
      let left : list_all is_line_end_byte rest ≡ false = rw same at h in
      let next : frame_fault (after_breaks rest ++ more) ≡ Some fault = rw same at fails in
      let place : at + 1 + length rest ≡ at + length (byte ∷ rest) = omega arith in
      rw same (items-fault (at + 1) rest more fault left next ∙ ap (λ (k : ℕ). record { start = k - length (after_breaks rest); body = Err fault } ∷ []) place)
  | inr other ↦
      let here : frame_fault (byte ∷ (rest ++ more)) ≡ Some fault = rw other at fails in
      let place : at ≡ at + length (byte ∷ rest) - length (byte ∷ rest) = omega arith in
      rw (other, here) (ap (λ (k : ℕ). record { start = k; body = Err fault } ∷ []) place)
]

-- records before what is read later
abbrev pub prepend : {R : Type 0} → List R → Result (List R) BadPlace → Result (List R) BadPlace
prepend [] later = later
prepend (entry ∷ entries) later = with_record_of_message entry (prepend entries later)

pub prepend-ok : {R : Type 0} (entries more : List R) → prepend entries (Ok more) ≡ Ok (entries ++ more)
prepend-ok [] more = refl
prepend-ok (entry ∷ entries) more = ap (with_record_of_message entry) (prepend-ok entries more)

pub prepend-bad : {R : Type 0} (entries : List R) (bad : BadPlace) → prepend entries (Err bad) ≡ Err (record { place = bad.place + length entries; offset = bad.offset; reason = bad.reason })
prepend-bad [] bad = ap (λ (k : ℕ). Err (record { place = k; offset = bad.offset; reason = bad.reason })) (omega arith)
prepend-bad (entry ∷ entries) bad =
    let place : bad.place + length entries + 1 ≡ bad.place + length (entry ∷ entries) = omega arith in
    ap (with_record_of_message entry) (prepend-bad entries bad) ∙ ap (λ (k : ℕ). Err (record { place = k; offset = bad.offset; reason = bad.reason })) place

-- a good item before others
after-frame : {R : Type 0} (says : Result (Option R) Reason) (records : Result (List R) Reason) (entries : List R) (start : ℕ) (later reading : Result (List R) BadPlace)
    → after_frame says records ≡ Ok entries → ((es : List R) → records ≡ Ok es → later ≡ prepend es reading) → after_item start says later ≡ prepend entries reading
after-frame (Ok None) records entries start later reading good next = next entries good
after-frame {R} (Ok (Some entry)) (Ok es) entries start later reading good next =
    let all : entry ∷ es ≡ entries = cc in
    ap (with_record_of_message entry) (next es refl) ∙ ap (λ (l : List R). prepend l reading) all
after-frame (Ok (Some entry)) (Err why) entries start later reading good next = absurd (cc good)
after-frame (Err why) records entries start later reading good next = absurd (cc good)

read-one : {R : Type 0} (says : Result (Option R) Reason) (new : Option R) → says ≡ Ok new → after_frame says (Ok []) ≡ Ok (option_to_list new)
read-one (Ok None) None e = refl
read-one (Ok None) (Some entry) e = absurd (cc e)
read-one (Ok (Some other)) None e = absurd (cc e)
read-one (Ok (Some other)) (Some entry) e = (cc)
read-one (Err why) new e = absurd (cc e)

read-step : {R : Type 0} (says : Result (Option R) Reason) (records more : Result (List R) Reason) (entries new : List R)
    → after_frame says records ≡ Ok entries → ((es : List R) → records ≡ Ok es → more ≡ Ok (es ++ new)) → after_frame says more ≡ Ok (entries ++ new)
read-step (Ok None) records more entries new good next = next entries good
read-step {R} (Ok (Some entry)) (Ok es) more entries new good next =
    let all : entry ∷ es ≡ entries = cc in
    ap (after_frame (Ok (Some entry))) (next es refl) ∙ ap (λ (l : List R). Ok (l ++ new)) all
read-step (Ok (Some entry)) (Err why) more entries new good next = absurd (cc good)
read-step (Err why) records more entries new good next = absurd (cc good)

count-step : {R : Type 0} (says : Result (Option R) Reason) (records : Result (List R) Reason) (entries : List R) (most : ℕ)
    → after_frame says records ≡ Ok entries → ((es : List R) → records ≡ Ok es → length es ≤ most) → length entries ≤ suc most
count-step (Ok None) records entries most good next = let h = next entries good in omega (arith, h)
count-step (Ok (Some entry)) (Ok es) entries most good next =
    let all : entry ∷ es ≡ entries = cc in
    let h = next es refl in
    let size : suc (length es) ≡ length entries = ap length all in omega (arith, h, size)
count-step (Ok (Some entry)) (Err why) entries most good next = absurd (cc good)
count-step (Err why) records entries most good next = absurd (cc good)

module _ {R : Type 0} (meaning : List TagValue → Result (Option R) MessageFault) where
  -- no more records than frames
  pub read_frames-count : (frames : List (List ℕ)) (entries : List R) → read_frames meaning frames ≡ Ok entries → length entries ≤ length frames
  read_frames-count [] entries good =
      let none : [] ≡ entries = cc in
      let size : 0 ≡ length entries = ap length none in omega (arith, size)
  read_frames-count (frame ∷ frames) entries good =
      count-step (body_says meaning (body_of frame)) (read_frames meaning frames) entries (length frames) good (read_frames-count frames)

  -- one message more
  pub read_frames-more : (frames : List (List ℕ)) (frame : List ℕ) (entries : List R) (new : Option R) → read_frames meaning frames ≡ Ok entries
      → body_says meaning (body_of frame) ≡ Ok new → read_frames meaning (frames ++ frame ∷ []) ≡ Ok (entries ++ option_to_list new)
  read_frames-more [] frame entries new good says =
      let none : [] ≡ entries = cc in
      read-one (body_says meaning (body_of frame)) new says ∙ ap (λ (l : List R). Ok (l ++ option_to_list new)) none
  read_frames-more (first ∷ frames) frame entries new good says =
      read-step (body_says meaning (body_of first)) (read_frames meaning frames) (read_frames meaning (frames ++ frame ∷ [])) entries (option_to_list new) good
      (λ es is. read_frames-more frames frame es new is says)

  -- what a log says that begins with good messages
  pub framed-reads : (at : ℕ) (front rest : List ℕ) (frames : List (List ℕ)) (entries : List R) → IsFramed front frames → read_frames meaning frames ≡ Ok entries
      → read_items (body_says meaning) (items_from 0 at (front ++ rest)) ≡ prepend entries (read_items (body_says meaning) (items_from 0 (at + length front) rest))
  framed-reads at front rest [] entries framed good =
      let none : [] ≡ entries = cc in
      ap (read_items (body_says meaning)) (items-breaks at front rest framed) ∙ ap (λ (l : List R). prepend l (read_items (body_says meaning) (items_from 0 (at + length front) rest))) none
  framed-reads at front rest (frame ∷ frames) entries framed good =
      let gap : List ℕ = framed.0 in
      let body : List ℕ = framed.1 in
      let r : List ℕ = framed.2 in
      let whole : front ++ rest ≡ gap ++ (frame ++ (r ++ rest)) =
      ap (λ (t : List ℕ). t ++ rest) framed.5 ∙ append_assoc gap (frame ++ r) rest ∙ ap (λ (t : List ℕ). gap ++ t) (append_assoc frame r rest) in
      let size : length front ≡ length gap + (length frame + length r) =
      ap length framed.5 ∙ length-append gap (frame ++ r) ∙ ap (λ (k : ℕ). length gap + k) (length-append frame r) in
      let start = at + length gap in
      let place : start + length frame + length r ≡ at + length front = omega (arith, size) in
      let items = ap (items_from 0 at) whole ∙ items-breaks at gap (frame ++ (r ++ rest)) framed.3 ∙ items-frame start frame (r ++ rest) body framed.4 in
      let is_body : body ≡ body_of frame = sym (ap body_of (sym (append-nil frame)) ∙ IsFrame-body_of frame body [] framed.4) in
      let reading = read_items (body_says meaning) (items_from 0 (at + length front) rest) in
      let later : (es : List R) → read_frames meaning frames ≡ Ok es → read_items (body_says meaning) (items_from 0 (start + length frame) (r ++ rest)) ≡ prepend es reading =
      λ es is. framed-reads (start + length frame) r rest frames es framed.6 is ∙ ap (λ (k : ℕ). prepend es (read_items (body_says meaning) (items_from 0 k rest))) place in
      ap (read_items (body_says meaning)) items
      ∙ ap (λ (b : List ℕ). after_item start (body_says meaning b) (read_items (body_says meaning) (items_from 0 (start + length frame) (r ++ rest)))) is_body
      ∙ after-frame (body_says meaning (body_of frame)) (read_frames meaning frames) entries start (read_items (body_says meaning) (items_from 0 (start + length frame) (r ++ rest))) reading good later

-- a frame has the bytes of its header and its checksum field, and more
pub frame-size : (frame body : List ℕ) → IsFrame frame body → 9 ≤ length frame
frame-size frame body is =
    omega (arith, ap length is.whole, length-append (before_checksum is.head is.length_digits body) (checksum_field is.sum_digits), length-before is.head is.length_digits body, IsFrame-head frame body is)

-- so frames have at least nine bytes each
pub framed-count : (front : List ℕ) (frames : List (List ℕ)) → IsFramed front frames → 9 * length frames ≤ length front
framed-count front [] framed = omega arith
framed-count front (frame ∷ frames) framed =
    let some = frame-size frame framed.1 framed.4 in
    let size : length front ≡ length framed.0 + (length frame + length framed.2) =
    ap length framed.5 ∙ length-append framed.0 (frame ++ framed.2) ∙ ap (λ (k : ℕ). length framed.0 + k) (length-append frame framed.2) in
    let rest = framed-count framed.2 frames framed.6 in omega (arith, some, size, rest)
