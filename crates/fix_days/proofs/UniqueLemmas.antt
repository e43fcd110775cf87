-- A day has one reading.
use Rattle.std.proofs.Common.{◌≡◌, ℕ, zero, suc, ◌+◌, ◌<◌, Bool, true, false, Option, Some, None, List, [], ◌∷◌, ◌++◌, length, take, drop, refl, sym, subst, ap, ◌∙◌, inl, inr, append_assoc, arith}
use Rattle.std.specs.Prelude.{◌⊎◌, Contains, nat_eq}
use Rattle.std.specs.List.{list_all, starts_with}
use Rattle.std.proofs.lemmas.Bool.{and_parts, cases_Bool, not-true}
use Rattle.std.proofs.lemmas.List.{append-nil, length-append, length-drop, length-take-le, take-append-drop}
use Rattle.audit_base.proofs.SumLemmas.{Contains-cases}
use Rattle.fix_framing.specs.Breaks.{is_line_end_byte, after_breaks}
use Rattle.fix_framing.specs.Headers.{any_version}
use Rattle.fix_framing.specs.Frames.{body_of_with, checksum_field, frame_fault_with, frame_size_with, IsFrameWith}
use Rattle.fix_framing.specs.Framing.{IsFramedWith}
use Rattle.fix_framing.specs.declared.frames.FrameFault.{FrameFault}
use Rattle.fix_framing.proofs.PrefixLemmas.{split-at}
use Rattle.fix_framing.proofs.TestLemmas.{NoFault-from_none}
use Rattle.fix_framing.proofs.MessageLemmas.{IsFrameWith-no_fault, NoFault-IsFrame, NoFault-size}
use Rattle.fix_framing.proofs.FramerLemmas.{breaks-cut}
use Rattle.fix_framing.proofs.UniqueLemmas.{frames-unique}
use Rattle.fix_days.specs.declared.faults.BadMessage.{BadMessage}
use Rattle.fix_days.specs.Framed.{begins_past_breaks, bodies_of, HasBodies, IsBadText, IsTextReading}
use Rattle.fix_days.proofs.TextLemmas.{any-headers, begins-past, frame-nine, split-breaks}

-- a header begins with `8`
begins-eight : List ℕ → Bool
begins-eight head = starts_with nat_eq head (56 ∷ [])

one-of : (p : List ℕ → Bool) (heads : List (List ℕ)) (head : List ℕ) → list_all p heads ≡ true → Contains heads head → p head ≡ true
one-of p [] head all known = let none = known.1 in absurd (omega arith)
one-of p (first ∷ more) head all known = elim (Contains-cases first more head known) [
  | inl same ↦ ap p (sym same) ∙ (and_parts (p first) (list_all p more) all).0
  | inr behind ↦ one-of p more head (and_parts (p first) (list_all p more) all).1 behind
]

all-eight : list_all begins-eight any_version ≡ true
unfolding any_version begins-eight
all-eight = refl

eight-front : (head : List ℕ) → begins-eight head ≡ true → head ≡ 56 ∷ drop 1 head
unfolding begins-eight
eight-front head is = split-at head (56 ∷ []) is

pub frame-eight : (frame body : List ℕ) → IsFrameWith any_version frame body → (tail : List ℕ) × (frame ≡ 56 ∷ tail)
frame-eight frame body is =
    let eight = eight-front is.head (one-of begins-eight any_version is.head all-eight is.known) in
    let tail = (is.length_digits ++ (1 ∷ body)) ++ checksum_field is.sum_digits in
    let whole : frame ≡ is.head ++ ((is.length_digits ++ (1 ∷ body)) ++ checksum_field is.sum_digits) = is.whole ∙ simp append_assoc in
    (drop 1 is.head ++ ((is.length_digits ++ (1 ∷ body)) ++ checksum_field is.sum_digits), whole ∙ ap (λ (t : List ℕ). t ++ ((is.length_digits ++ (1 ∷ body)) ++ checksum_field is.sum_digits)) eight)

-- so a message is after all CR and LF
pub frame-still : (frame body more : List ℕ) → IsFrameWith any_version frame body → after_breaks (frame ++ more) ≡ frame ++ more
frame-still frame body more is =
    let eight = frame-eight frame body is in
    subst (λ (t : List ℕ). after_breaks (t ++ more) ≡ t ++ more) (sym eight.1) refl

pub breaks-over : (gap rest : List ℕ) → list_all is_line_end_byte gap ≡ true → after_breaks (gap ++ rest) ≡ after_breaks rest
breaks-over [] rest all = refl
breaks-over (byte ∷ gap) rest all =
    let both = and_parts (is_line_end_byte byte) (list_all is_line_end_byte gap) all in
    rw both.0 (breaks-over gap rest both.1)

-- no message begins at what is left, and it is after all CR and LF
pub record IsStuck (left : List ℕ) : Type 0 where
  pub still : after_breaks left ≡ left
  pub none : frame_fault_with any_version left ≡ None → ⊥

pub nothing-stuck : IsStuck []
nothing-stuck = record { still = refl; none = λ is. cc (sym is ∙ breaks-cut any_version [] any-headers refl) }

past-still : (left : List ℕ) → begins_past_breaks left ≡ true → after_breaks left ≡ left
past-still [] past = absurd (cc past)
past-still (byte ∷ rest) past =
    let other : is_line_end_byte byte ≡ false = not-true (is_line_end_byte byte) past in rw other refl

pub fault-stuck : (left : List ℕ) (fault : FrameFault) → begins_past_breaks left ≡ true → frame_fault_with any_version left ≡ Some fault → IsStuck left
fault-stuck left fault past fails = record { still = past-still left past; none = λ is. cc (sym is ∙ fails) }

-- a message is not left
pub not-left : (left frame body more : List ℕ) → IsStuck left → IsFrameWith any_version frame body → after_breaks left ≡ after_breaks (frame ++ more) → ⊥
not-left left frame body more stuck is same =
    let whole : left ≡ frame ++ more = sym stuck.still ∙ same ∙ frame-still frame body more is in
    stuck.none (ap (frame_fault_with any_version) whole ∙ IsFrameWith-no_fault any_version frame body more any-headers is)

-- the messages of a text up to where none begins, and what is left
pub record AreSame (frames others : List (List ℕ)) (left its : List ℕ) : Type 0 where
  pub frames_are : frames ≡ others
  pub left_is : left ≡ its

-- a message in a text after CR and LF
pub behind-gap : (front left gap frame body rest : List ℕ) → list_all is_line_end_byte gap ≡ true → IsFrameWith any_version frame body → front ≡ gap ++ (frame ++ rest) → after_breaks (front ++ left) ≡ frame ++ (rest ++ left)
behind-gap front left gap frame body rest breaks is cut =
    let whole : front ++ left ≡ gap ++ (frame ++ (rest ++ left)) = ap (λ (t : List ℕ). t ++ left) cut ∙ simp append_assoc in
    ap after_breaks whole ∙ breaks-over gap (frame ++ (rest ++ left)) breaks ∙ frame-still frame body (rest ++ left) is

pub same-frames : (fs gs : List (List ℕ)) (a x b y : List ℕ) → IsFramedWith any_version a fs → IsFramedWith any_version b gs → a ++ x ≡ b ++ y → IsStuck x → IsStuck y → AreSame fs gs x y
same-frames [] [] a x b y framed other joined stuck stays =
    let left : x ≡ y =
    sym stuck.still ∙ sym (breaks-over a x framed) ∙ ap after_breaks joined ∙ breaks-over b y other ∙ stays.still in
    record { frames_are = refl; left_is = left }
same-frames [] (g ∷ gs) a x b y framed other joined stuck stays =
    let here = behind-gap b y other.0 g other.1 other.2 other.3 other.4 other.5 in
    let same : after_breaks x ≡ after_breaks (g ++ (other.2 ++ y)) =
    sym (breaks-over a x framed) ∙ ap after_breaks joined ∙ here ∙ sym (frame-still g other.1 (other.2 ++ y) other.4) in
    absurd (not-left x g other.1 (other.2 ++ y) stuck other.4 same)
same-frames (f ∷ fs) [] a x b y framed other joined stuck stays =
    let here = behind-gap a x framed.0 f framed.1 framed.2 framed.3 framed.4 framed.5 in
    let same : after_breaks y ≡ after_breaks (f ++ (framed.2 ++ x)) =
    sym (breaks-over b y other) ∙ ap after_breaks (sym joined) ∙ here ∙ sym (frame-still f framed.1 (framed.2 ++ x) framed.4) in
    absurd (not-left y f framed.1 (framed.2 ++ x) stays framed.4 same)
same-frames (f ∷ fs) (g ∷ gs) a x b y framed other joined stuck stays =
    let here = behind-gap a x framed.0 f framed.1 framed.2 framed.3 framed.4 framed.5 in
    let there = behind-gap b y other.0 g other.1 other.2 other.3 other.4 other.5 in
    let both = frames-unique any_version f g framed.1 other.1 (framed.2 ++ x) (other.2 ++ y) any-headers framed.4 other.4 (sym here ∙ ap after_breaks joined ∙ there) in
    let rest = same-frames fs gs framed.2 x other.2 y framed.6 other.6 both.2 stuck stays in
    record { frames_are = ap (λ (t : List ℕ). t ∷ fs) both.0 ∙ ap (λ (t : List (List ℕ)). g ∷ t) rest.frames_are; left_is = rest.left_is }

-- a text has one reading
module _ (start : ℕ) (text : List ℕ) where
  good-good : (bodies others : List (List ℕ)) → HasBodies text bodies → HasBodies text others → bodies ≡ others
  good-good bodies others is its =
      let same = same-frames is.frames its.frames text [] text [] is.framed its.framed refl nothing-stuck nothing-stuck in
      is.are ∙ ap bodies_of same.frames_are ∙ sym its.are

  pub bad-stuck : (bodies : List (List ℕ)) (bad : BadMessage) (is : IsBadText start text bodies bad) → IsStuck is.left
  bad-stuck bodies bad is = fault-stuck is.left bad.fault is.begins is.fails

  good-bad : (bodies others : List (List ℕ)) (bad : BadMessage) → HasBodies text bodies → IsBadText start text others bad → ⊥
  good-bad bodies others bad is its =
      let same = same-frames is.frames its.before.frames text [] its.front its.left is.framed its.before.framed (append-nil text ∙ its.cut) nothing-stuck (bad-stuck others bad its) in
      cc (sym its.begins ∙ ap begins_past_breaks (sym same.left_is))

  bad-bad : (bodies others : List (List ℕ)) (bad other : BadMessage) → IsBadText start text bodies bad → IsBadText start text others other → (bodies ≡ others) × (bad ≡ other)
  bad-bad bodies others bad other is its =
      let same = same-frames is.before.frames its.before.frames is.front is.left its.front its.left is.before.framed its.before.framed (sym is.cut ∙ its.cut) (bad-stuck bodies bad is) (bad-stuck others other its) in
      let same_bodies : bodies ≡ others = is.before.are ∙ ap bodies_of same.frames_are ∙ sym its.before.are in
      let place : bad.place ≡ other.place = is.place ∙ ap (λ (b : List (List ℕ)). length b + 1) same_bodies ∙ sym its.place in
      let sizes = ap length (sym is.cut ∙ its.cut) in
      let offset : bad.offset ≡ other.offset =
      omega (arith, is.offset, its.offset, sizes, length-append is.front is.left, length-append its.front its.left, ap length same.left_is) in
      let fails : Some bad.fault ≡ Some other.fault = sym is.fails ∙ ap (frame_fault_with any_version) same.left_is ∙ its.fails in
      let fault : bad.fault ≡ other.fault = cc fails in
      (same_bodies, same-fields bad other place offset fault)
    where
      same-fields : (bad other : BadMessage) → bad.place ≡ other.place → bad.offset ≡ other.offset → bad.fault ≡ other.fault → bad ≡ other
      same-fields bad other place offset fault =
          ap (λ (p : ℕ). record { place = p; offset = bad.offset; fault = bad.fault }) place ∙ ap (λ (o : ℕ). record { place = other.place; offset = o; fault = bad.fault }) offset
          ∙ ap (λ (f : FrameFault). record { place = other.place; offset = other.offset; fault = f }) fault

  pub one-reading : (bodies others : List (List ℕ)) (bad other : Option BadMessage) → IsTextReading start text bodies bad → IsTextReading start text others other → (bodies ≡ others) × (bad ≡ other)
  one-reading bodies others None None is its = (good-good bodies others is its, refl)
  one-reading bodies others None (Some bad) is its = absurd (good-bad bodies others bad is its)
  one-reading bodies others (Some bad) None is its = absurd (good-bad others bodies bad its is)
  one-reading bodies others (Some bad) (Some other) is its =
      let same = bad-bad bodies others bad other is its in
      (same.0, ap Some same.1)

-- Messages up to where none begins
record Stops (text : List ℕ) : Type 0 where
  pub frames : List (List ℕ)
  pub front : List ℕ
  pub left : List ℕ
  pub framed : IsFramedWith any_version front frames
  pub cut : text ≡ front ++ left
  pub ends : (left ≡ []) ⊎ (begins_past_breaks left ≡ true × (fault : FrameFault) × (frame_fault_with any_version left ≡ Some fault))

fault-at : (text gap : List ℕ) (fault : Option FrameFault) → list_all is_line_end_byte gap ≡ true → text ≡ gap ++ after_breaks text → list_all is_line_end_byte text ≡ false → frame_fault_with any_version (after_breaks text) ≡ fault
    → ((rest : List ℕ) → length rest < length text → Stops rest) → Stops text
fault-at text gap (Some fault) breaks whole some fails later = record {
  frames = [];
  front = gap;
  left = after_breaks text;
  framed = breaks;
  cut = whole;
  ends = inr (subst (λ (t : List ℕ). begins_past_breaks t ≡ true) (append-nil (after_breaks text)) (begins-past text [] some), fault, fails);
}
fault-at text gap None breaks whole some fails later =
    let r = after_breaks text in
    let tests = NoFault-from_none any_version r fails in
    let message = NoFault-IsFrame any_version r tests in
    let fits = NoFault-size any_version r tests in
    let size = frame_size_with any_version r in
    let nine = frame-nine (take (frame_size_with any_version r) r) (body_of_with any_version r) message in
    let taken = length-take-le (frame_size_with any_version r) r fits in
    let left = length-drop (frame_size_with any_version r) r in
    let all = ap length whole ∙ length-append gap r in
    let rest = later (drop (frame_size_with any_version r) r) (omega (arith, nine, taken, left, all, fits)) in
    let both : r ≡ take (frame_size_with any_version r) r ++ (rest.front ++ rest.left) =
    sym (take-append-drop (frame_size_with any_version r) r) ∙ ap (λ (t : List ℕ). take (frame_size_with any_version r) r ++ t) rest.cut in
    record {
      frames = take (frame_size_with any_version r) r ∷ rest.frames;
      front = gap ++ (take (frame_size_with any_version r) r ++ rest.front);
      left = rest.left;
      framed = (gap, body_of_with any_version r, rest.front, breaks, message, refl, rest.framed);
      cut = whole ∙ ap (λ (t : List ℕ). gap ++ t) both ∙ simp append_assoc;
      ends = rest.ends;
    }

stops-within : (n : ℕ) (text : List ℕ) → length text < n → Stops text
stops-within zero text few = absurd (omega (arith, few))
stops-within (suc n) text few =
    let split = split-breaks text in
    elim (cases_Bool (list_all is_line_end_byte text)) [
      | inl all ↦ record { frames = []; front = text; left = []; framed = all; cut = sym (append-nil text); ends = inl refl }
      | inr some ↦
          fault-at text split.gap (frame_fault_with any_version (after_breaks text)) split.breaks split.whole some refl (λ rest less. stops-within n rest (omega (arith, few, less)))
    ]

length-bodies : (frames : List (List ℕ)) → length (bodies_of frames) ≡ length frames
length-bodies [] = refl
length-bodies (frame ∷ frames) = let h = length-bodies frames in omega (arith, h)

-- each text has a reading
pub some-reading : (start : ℕ) (text : List ℕ) → (bodies : List (List ℕ)) × (bad : Option BadMessage) × IsTextReading start text bodies bad
some-reading start text = read-stops (stops-within (length text + 1) text (omega arith))
  where
    read-stops : Stops text → (bodies : List (List ℕ)) × (bad : Option BadMessage) × IsTextReading start text bodies bad
    read-stops s = elim s.ends [
      | inl none ↦
          let whole : text ≡ s.front = s.cut ∙ ap (λ (t : List ℕ). s.front ++ t) none ∙ append-nil s.front in
          (bodies_of s.frames, None, record { frames = s.frames; framed = subst (λ (t : List ℕ). IsFramedWith any_version t s.frames) (sym whole) s.framed; are = refl })
      | inr bad ↦ (
        bodies_of s.frames,
        Some (record { place = length (bodies_of s.frames) + 1; offset = start + length s.front; fault = bad.1 }),
        record {
          front = s.front;
          left = s.left;
          cut = s.cut;
          before = record { frames = s.frames; framed = s.framed; are = refl };
          begins = bad.0;
          fails = bad.2;
          place = refl;
          offset = refl;
        },
      )
    ]
