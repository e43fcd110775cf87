-- What is proved of any headers, of that of FIX 4.4.
use Rattle.std.proofs.Common.{◌≡◌, ℕ, Some, None, true, List, ◌++◌, length, take, refl, ap, ◌∙◌, arith}
use Rattle.std.specs.Prelude.{Contains}
use Rattle.std.specs.List.{list_all}
use Rattle.fix_framing.specs.declared.framer.Framer.{Framer}
use Rattle.fix_framing.specs.declared.frames.FrameFault.TheVariants.{Truncated}
use Rattle.fix_framing.specs.Breaks.{is_line_end_byte, after_breaks}
use Rattle.fix_framing.specs.Headers.{header, fix44, any_version}
use Rattle.fix_framing.specs.Frames.{IsFrame, IsFrameWith, before_checksum, checksum_field, frame_fault, frame_size, body_of, longest_frame, longest_frame_with}
use Rattle.fix_framing.specs.Framing.{IsUnfinished, next_text}
use Rattle.fix_framing.proofs.HeaderLemmas.{length-header, fix44-headers, fix44-head}
use Rattle.fix_framing.proofs.TestLemmas.{NoFault-from_none}
use Rattle.fix_framing.proofs.MessageLemmas.{IsFrameWith-no_fault, IsFrameWith-body_of, IsFrameWith-size, NoFault-IsFrame}
use Rattle.fix_framing.proofs.FramerLemmas as framer_of

-- a message, written out: it begins with the one header
pub IsFrame-whole : (f b : List ℕ) (frame : IsFrame f b) → f ≡ before_checksum header frame.length_digits b ++ checksum_field frame.sum_digits
IsFrame-whole f b frame = frame.whole ∙ ap (λ (head : List ℕ). before_checksum head frame.length_digits b ++ checksum_field frame.sum_digits) (fix44-head frame.head frame.known)

-- its header has 12 bytes
pub IsFrame-head : (f b : List ℕ) (frame : IsFrame f b) → length frame.head ≡ 12
IsFrame-head f b frame = ap length (fix44-head frame.head frame.known) ∙ length-header

pub IsFrame-no_fault : (f b more : List ℕ) → IsFrame f b → frame_fault (f ++ more) ≡ None
IsFrame-no_fault f b more frame = IsFrameWith-no_fault fix44 f b more fix44-headers frame

pub IsFrame-body_of : (f b more : List ℕ) → IsFrame f b → body_of (f ++ more) ≡ b
IsFrame-body_of f b more frame = IsFrameWith-body_of fix44 f b more fix44-headers frame

pub IsFrame-size : (f b more : List ℕ) → IsFrame f b → frame_size (f ++ more) ≡ length f
IsFrame-size f b more frame = IsFrameWith-size fix44 f b more fix44-headers frame

-- and it is a message of any version
header-any : Contains any_version header
unfolding any_version header
header-any = (4, omega arith, refl)

pub IsFrame-any : (f b : List ℕ) → IsFrame f b → IsFrameWith any_version f b
IsFrame-any f b frame = record {
  head = frame.head;
  known = rw (fix44-head frame.head frame.known) header-any;
  length_digits = frame.length_digits;
  sum_digits = frame.sum_digits;
  whole = frame.whole;
  are_digits = frame.are_digits;
  counted = frame.counted;
  bounded = frame.bounded;
  three = frame.three;
  summed = frame.summed;
}

-- where nothing is at fault, a message begins
pub IsFrame-from_none : (r : List ℕ) → frame_fault r ≡ None → IsFrame (take (frame_size r) r) (body_of r)
IsFrame-from_none r none = NoFault-IsFrame fix44 r (NoFault-from_none fix44 r none)

pub breaks-cut : (r : List ℕ) → list_all is_line_end_byte r ≡ true → frame_fault (after_breaks r) ≡ Some Truncated
breaks-cut r breaks = framer_of.breaks-cut fix44 r fix44-headers breaks

pub unfinished-cut : {H : Type 0} (framer : Framer H) → IsUnfinished fix44 framer → frame_fault (next_text framer) ≡ Some Truncated
unfinished-cut framer unfinished = framer_of.unfinished-cut fix44 framer fix44-headers unfinished

-- the longest message
pub longest-fix44 : longest_frame_with fix44 ≡ longest_frame
longest-fix44 = let twelve = length-header in omega arith
