-- A log is good with one list of records or bad at one place.
use Rattle.std.proofs.Common.{◌≡◌, ℕ, zero, suc, ◌+◌, ◌≤◌, true, false, not, Option, Some, None, Result, Ok, Err, List, [], ◌∷◌, ◌++◌, length, take, drop, map, ◌⊎◌, refl, sym, subst, ap, ◌∙◌, inl, inr, append_assoc, zero-add, arith}
use Rattle.std.specs.Prelude.{◌-◌}
use Rattle.std.specs.List.{list_all, flat_map}
use Rattle.std.specs.Option.{option_to_list}
use Rattle.std.proofs.lemmas.Bool.{and_from, cases_Bool}
use Rattle.std.proofs.lemmas.List.{append-nil, length-append, take-append-drop}
use Rattle.audit_base.specs.declared.faults.Reason.{Reason}
use Rattle.audit_base.specs.declared.faults.BadPlace.{BadPlace}
use Rattle.fix_fields.specs.Grammar.{TagValue}
use Rattle.fix_framing.specs.Breaks.{is_line_end_byte, after_breaks}
use Rattle.fix_framing.specs.Frames.{IsFrame, frame_fault, frame_size, body_of}
use Rattle.fix_framing.proofs.Fix44Lemmas.{IsFrame-from_none}
use Rattle.fix_messages.specs.declared.meanings.MessageFault.{MessageFault}
use Rattle.fix_messages.specs.Bodies.{body_says}
use Rattle.fix_messages.specs.Logs.{AreMessages, HasBadBody, HasRecords, IsBadFixLog, IsGoodFixLog, IsOnlyFixReading, LacksFrame, after_item, begins_past_breaks, frame_reason, items_from, read_items, read_fix_log, with_record_of_message}
use Rattle.fix_messages.proofs.SayLemmas.{bodies-say, of-says, says-of}
use Rattle.fix_messages.proofs.LogLemmas.{frame-first, items-breaks, items-fault, items-frame, prepend, prepend-bad, prepend-ok}

-- a good item before others
item-before : {R : Type 0} (says : Result (Option R) Reason) (new : Option R) (entries : List R) (start : ℕ) (later : Result (List R) BadPlace) → says ≡ Ok new
    → after_item start says (prepend entries later) ≡ prepend (option_to_list new ++ entries) later
item-before (Ok None) None entries start later e = refl
item-before (Ok None) (Some entry) entries start later e = absurd (cc e)
item-before (Ok (Some other)) None entries start later e = absurd (cc e)
item-before {R} (Ok (Some other)) (Some entry) entries start later e =
    let same : other ≡ entry = cc in ap (λ (x : R). with_record_of_message x (prepend entries later)) same
item-before (Err why) new entries start later e = absurd (cc e)

-- every text is CR and LF bytes, and then nothing or a byte that is neither
break-split : (text : List ℕ) → (gap : List ℕ) × (text ≡ gap ++ after_breaks text) × (list_all is_line_end_byte gap ≡ true)
break-split [] = ([], refl, refl)
break-split (byte ∷ rest) =
    let later = break-split rest in
    elim (cases_Bool (is_line_end_byte byte)) [
      | inl same ↦ (byte ∷ later.0, rw same (ap (λ (t : List ℕ). byte ∷ t) later.1), and_from (is_line_end_byte byte) (list_all is_line_end_byte later.0) same later.2)
      | inr other ↦ ([], rw other refl, refl)
    ]

breaks-left : (text : List ℕ) → (after_breaks text ≡ []) ⊎ (begins_past_breaks (after_breaks text) ≡ true)
breaks-left [] = inl refl
breaks-left (byte ∷ rest) = elim (cases_Bool (is_line_end_byte byte)) [
  | inl same ↦ rw same (breaks-left rest)
  | inr other ↦ rw other (inr (ap not other))
]

-- such a byte is no CR and no LF
other-first : (text : List ℕ) → begins_past_breaks text ≡ true → (after_breaks text ≡ text) × (list_all is_line_end_byte text ≡ false)
other-first [] h = absurd (cc h)
other-first (byte ∷ rest) h = elim (cases_Bool (is_line_end_byte byte)) [
  | inl same ↦ absurd (cc (h, ap not same))
  | inr other ↦ (rw other refl, rw other refl)
]

cases-option : {T : Type 0} (option : Option T) → (option ≡ None) ⊎ ((value : T) × (option ≡ Some value))
cases-option None = inl refl
cases-option (Some value) = inr (value, refl)

cases-result : {S E : Type 0} (result : Result S E) → ((value : S) × (result ≡ Ok value)) ⊎ ((why : E) × (result ≡ Err why))
cases-result (Ok value) = inl (value, refl)
cases-result (Err why) = inr (why, refl)

module _ {R : Type 0} (meaning : List TagValue → Result (Option R) MessageFault) where
  -- what is read after good messages
  messages-read : (at : ℕ) (front rest : List ℕ) (bodies : List (List ℕ)) (meanings : List (Option R)) → AreMessages front bodies → map (body_says meaning) bodies ≡ map Ok meanings
      → read_items (body_says meaning) (items_from 0 at (front ++ rest)) ≡ prepend (flat_map option_to_list meanings) (read_items (body_says meaning) (items_from 0 (at + length front) rest))
  messages-read at front rest [] [] is good = ap (read_items (body_says meaning)) (items-breaks at front rest is)
  messages-read at front rest [] (new ∷ meanings) is good = absurd (cc good)
  messages-read at front rest (body ∷ bodies) [] is good = absurd (cc good)
  messages-read at front rest (body ∷ bodies) (new ∷ meanings) is good =
      let gap : List ℕ = is.0 in
      let frame : List ℕ = is.1 in
      let r : List ℕ = is.2 in
      let this : body_says meaning body ≡ Ok new = cc in
      let others : map (body_says meaning) bodies ≡ map Ok meanings = cc in
      let whole : front ++ rest ≡ gap ++ (frame ++ (r ++ rest)) =
      ap (λ (t : List ℕ). t ++ rest) is.5 ∙ append_assoc gap (frame ++ r) rest ∙ ap (λ (t : List ℕ). gap ++ t) (append_assoc frame r rest) in
      let size : length front ≡ length gap + (length frame + length r) =
      ap length is.5 ∙ length-append gap (frame ++ r) ∙ ap (λ (k : ℕ). length gap + k) (length-append frame r) in
      let start = at + length gap in
      let place : start + length frame + length r ≡ at + length front = omega (arith, size) in
      let items = ap (items_from 0 at) whole ∙ items-breaks at gap (frame ++ (r ++ rest)) is.3 ∙ items-frame start frame (r ++ rest) body is.4 in
      let reading = read_items (body_says meaning) (items_from 0 (at + length front) rest) in
      let later : read_items (body_says meaning) (items_from 0 (start + length frame) (r ++ rest)) ≡ prepend (flat_map option_to_list meanings) reading =
      messages-read (start + length frame) r rest bodies meanings is.6 others ∙ ap (λ (k : ℕ). prepend (flat_map option_to_list meanings) (read_items (body_says meaning) (items_from 0 k rest))) place in
      ap (read_items (body_says meaning)) items
      ∙ ap (after_item start (body_says meaning body)) later
      ∙ item-before (body_says meaning body) new (flat_map option_to_list meanings) start reading this

  pub good-read : (log : List ℕ) (entries : List R) → IsGoodFixLog meaning log entries → read_fix_log meaning log ≡ Ok entries
  unfolding read_fix_log
  good-read log entries is =
      ap (λ (t : List ℕ). read_items (body_says meaning) (items_from 0 0 t)) (sym (append-nil log))
      ∙ messages-read 0 log [] is.bodies is.meanings is.messages (bodies-say meaning is.bodies is.meanings is.good) ∙ prepend-ok (flat_map option_to_list is.meanings) []
      ∙ ap Ok (append-nil (flat_map option_to_list is.meanings) ∙ sym is.records)

  -- what is read at a bad place
  bad-left : (at : ℕ) (left : List ℕ) (why : Reason) → LacksFrame left why ⊎ HasBadBody meaning left why
      → read_items (body_says meaning) (items_from 0 at left) ≡ Err (record { place = 1; offset = at; reason = why })
  bad-left at left why (inl lacks) =
      let first = other-first left lacks.begins in
      let fails : frame_fault (after_breaks left ++ []) ≡ Some lacks.fault = ap frame_fault (append-nil (after_breaks left) ∙ first.0) ∙ lacks.fails in
      let size : length (after_breaks left) ≡ length left = ap length first.0 in
      let start : at + length left - length (after_breaks left) ≡ at = omega (arith, size) in
      ap (λ (t : List ℕ). read_items (body_says meaning) (items_from 0 at t)) (sym (append-nil left))
      ∙ ap (read_items (body_says meaning)) (items-fault at left [] lacks.fault first.1 fails)
      ∙ ap (λ (k : ℕ). Err (record { place = 1; offset = k; reason = frame_reason lacks.fault })) start
      ∙ ap (λ (w : Reason). Err (record { place = 1; offset = at; reason = w })) (sym lacks.reason_is)
  bad-left at left why (inr bad) =
      ap (λ (t : List ℕ). read_items (body_says meaning) (items_from 0 at t)) bad.cut
      ∙ ap (read_items (body_says meaning)) (items-frame at bad.frame bad.rest bad.body bad.message)
      ∙ ap (λ (s : Result (Option R) Reason). after_item at s (read_items (body_says meaning) (items_from 0 (at + length bad.frame) bad.rest))) (says-of meaning bad.body (Err why) bad.fails)

  bad-read : (log : List ℕ) (bad : BadPlace) → IsBadFixLog meaning log bad → read_fix_log meaning log ≡ Err bad
  unfolding read_fix_log
  bad-read log bad is =
      let good = is.good in
      let count : 1 + length (flat_map option_to_list good.meanings) ≡ length is.entries + 1 = omega (arith, ap length good.records) in
      ap (λ (t : List ℕ). read_items (body_says meaning) (items_from 0 0 t)) is.cut
      ∙ messages-read 0 is.front is.left good.bodies good.meanings good.messages (bodies-say meaning good.bodies good.meanings good.good)
      ∙ ap (prepend (flat_map option_to_list good.meanings)) (bad-left (0 + length is.front) is.left is.why is.fails)
      ∙ prepend-bad (flat_map option_to_list good.meanings) (record { place = 1; offset = 0 + length is.front; reason = is.why })
      ∙ ap (λ (k : ℕ). Err (record { place = k; offset = 0 + length is.front; reason = is.why })) count
      ∙ ap (λ (k : ℕ). Err (record { place = length is.entries + 1; offset = k; reason = is.why })) (zero-add (length is.front))
      ∙ ap Err (sym is.place)

  -- a log is read to its end or to a bad place
  abbrev Outcome : List ℕ → Type 0
  Outcome log = ((entries : List R) × IsGoodFixLog meaning log entries) ⊎ ((bad : BadPlace) × IsBadFixLog meaning log bad)

  -- one message more before what is read
  good-more : (log gap frame body rest : List ℕ) (new : Option R) (entries : List R) → log ≡ gap ++ (frame ++ rest) → list_all is_line_end_byte gap ≡ true → IsFrame frame body
      → body_says meaning body ≡ Ok new → HasRecords meaning rest entries → HasRecords meaning log (option_to_list new ++ entries)
  good-more log gap frame body rest new entries cut breaks message says is = record {
    bodies = body ∷ is.bodies;
    messages = (gap, frame, rest, breaks, message, cut, is.messages);
    meanings = new ∷ is.meanings;
    good = (of-says meaning body (Ok new) says, is.good);
    records = ap (λ (l : List R). option_to_list new ++ l) is.records;
  }

  outcome-more : (log gap frame body rest : List ℕ) (new : Option R) → log ≡ gap ++ (frame ++ rest) → list_all is_line_end_byte gap ≡ true → IsFrame frame body
      → body_says meaning body ≡ Ok new → Outcome rest → Outcome log
  outcome-more log gap frame body rest new cut breaks message says (inl good) =
      inl (option_to_list new ++ good.0, good-more log gap frame body rest new good.0 cut breaks message says good.1)
  outcome-more log gap frame body rest new cut breaks message says (inr bad) =
      let is = bad.1 in
      let front = gap ++ (frame ++ is.front) in
      inr (
        record { place = length (option_to_list new ++ is.entries) + 1; offset = length front; reason = is.why },
        record {
          front = front;
          left = is.left;
          cut = cut ∙ ap (λ (t : List ℕ). gap ++ (frame ++ t)) is.cut ∙ ap (λ (t : List ℕ). gap ++ t) (sym (append_assoc frame is.front is.left)) ∙ sym (append_assoc gap (frame ++ is.front) is.left);
          entries = option_to_list new ++ is.entries;
          good = good-more front gap frame body is.front new is.entries refl breaks message says is.good;
          why = is.why;
          fails = is.fails;
          place = refl;
        },
      )

  -- CR and LF bytes alone are a good text
  breaks-good : (gap : List ℕ) → list_all is_line_end_byte gap ≡ true → HasRecords meaning gap []
  breaks-good gap breaks = record { bodies = []; messages = breaks; meanings = []; good = tt; records = refl }

  outcome-bad : (log gap left : List ℕ) (why : Reason) → log ≡ gap ++ left → list_all is_line_end_byte gap ≡ true → LacksFrame left why ⊎ HasBadBody meaning left why → Outcome log
  outcome-bad log gap left why cut breaks fails =
      let none : List R = [] in
      inr (record { place = length none + 1; offset = length gap; reason = why }, record { front = gap; left = left; cut = cut; entries = []; good = breaks-good gap breaks; why = why; fails = fails; place = refl })

  -- a text that begins with a message, and what is read after it
  outcome-message : (log gap left : List ℕ) → log ≡ gap ++ left → list_all is_line_end_byte gap ≡ true → begins_past_breaks left ≡ true → frame_fault left ≡ None
      → ((rest : List ℕ) → length rest + 1 ≤ length left → Outcome rest) → Outcome log
  outcome-message log gap left cut breaks begins none later =
      let frame = take (frame_size left) left in
      let rest = drop (frame_size left) left in
      let message = IsFrame-from_none left none in
      let split : left ≡ frame ++ rest = sym (take-append-drop (frame_size left) left) in
      let first = frame-first frame (body_of left) message in
      let some : length frame ≡ suc (length first.0) = ap length first.1 in
      let sizes : length left ≡ length frame + length rest = ap length split ∙ length-append frame rest in
      let whole : log ≡ gap ++ (frame ++ rest) = cut ∙ ap (λ (t : List ℕ). gap ++ t) split in
      elim (cases-result (body_says meaning (body_of left))) [
        | inl good ↦ outcome-more log gap frame (body_of left) rest good.0 whole breaks message good.1 (later rest (omega (arith, some, sizes)))
        | inr bad ↦ outcome-bad log gap left bad.0 cut breaks (inr (record { frame = frame; body = body_of left; rest = rest; cut = split; message = message; fails = of-says meaning (body_of left) (Err bad.0) bad.1 }))
      ]

  outcome-left : (log gap left : List ℕ) → log ≡ gap ++ left → list_all is_line_end_byte gap ≡ true → begins_past_breaks left ≡ true
      → ((rest : List ℕ) → length rest + 1 ≤ length left → Outcome rest) → Outcome log
  outcome-left log gap left cut breaks begins later = elim (cases-option (frame_fault left)) [
    | inl none ↦ outcome-message log gap left cut breaks begins none later
    | inr some ↦ outcome-bad log gap left (frame_reason some.0) cut breaks (inl (record { begins = begins; fault = some.0; fails = some.1; reason_is = refl }))
  ]

  outcome-step : (log : List ℕ) → ((rest : List ℕ) → length rest + 1 ≤ length log → Outcome rest) → Outcome log
  outcome-step log later =
      let split = break-split log in
      let gap : List ℕ = split.0 in
      let sizes : length log ≡ length gap + length (after_breaks log) = ap length split.1 ∙ length-append gap (after_breaks log) in
      elim (breaks-left log) [
        | inl none ↦
            let all : gap ≡ log = sym (append-nil gap) ∙ ap (λ (t : List ℕ). gap ++ t) (sym none) ∙ sym split.1 in
            inl ([], subst (λ (t : List ℕ). HasRecords meaning t []) all (breaks-good gap split.2))
        | inr begins ↦ outcome-left log gap (after_breaks log) split.1 split.2 begins (λ rest less. later rest (omega (arith, sizes, less)))
      ]

  outcome : (most : ℕ) (log : List ℕ) → length log ≤ most → Outcome log
  outcome zero log h = outcome-step log (λ rest less. absurd (omega (arith, h, less)))
  outcome (suc most) log h = outcome-step log (λ rest less. outcome most rest (omega (arith, h, less)))

  pub only_reading : (log : List ℕ) → IsOnlyFixReading meaning log (read_fix_log meaning log)
  only_reading log = record {
    good = λ entries. (good-read log entries, λ is. from-good entries is (outcome (length log) log (omega arith)));
    bad = λ bad. (bad-read log bad, λ is. from-bad bad is (outcome (length log) log (omega arith)));
  }
    where
      from-good : (entries : List R) → read_fix_log meaning log ≡ Ok entries → Outcome log → IsGoodFixLog meaning log entries
      from-good entries is (inl good) =
          let same : good.0 ≡ entries = let read = good-read log good.0 good.1 in cc in subst (IsGoodFixLog meaning log) same good.1
      from-good entries is (inr bad) = absurd (let read = bad-read log bad.0 bad.1 in cc)

      from-bad : (bad : BadPlace) → read_fix_log meaning log ≡ Err bad → Outcome log → IsBadFixLog meaning log bad
      from-bad bad is (inl good) = absurd (let read = good-read log good.0 good.1 in cc)
      from-bad bad is (inr other) =
          let same : other.0 ≡ bad = let read = bad-read log other.0 other.1 in cc in subst (IsBadFixLog meaning log) same other.1
