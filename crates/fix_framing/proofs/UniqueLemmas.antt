-- No message begins another, and each front of a message is Truncated.
use Rattle.std.proofs.Common.{◌≡◌, ◌≢◌, ℕ, Option, Some, None, List, [], ◌++◌, length, take, drop, refl, sym, ap, ◌∙◌, append_assoc, arith}
use Rattle.std.proofs.lemmas.List.{length-take-le, length-append, take-append-drop, take_at, drop_at, append-nil, nil_from_length}
use Rattle.fix_framing.specs.declared.frames.FrameFault.{FrameFault}
use Rattle.fix_framing.specs.declared.frames.FrameFault.TheVariants.{Begin, Length, Truncated, Trailer, Checksum}
use Rattle.fix_framing.specs.Headers.{AreHeaders}
use Rattle.fix_framing.specs.Frames.{IsFrameWith, body_of_with, frame_size_with, frame_fault_with}
use Rattle.fix_framing.proofs.TestLemmas.{NoFault-from_none}
use Rattle.fix_framing.proofs.MessageLemmas.{IsFrameWith-no_fault, IsFrameWith-size, IsFrameWith-body_of, NoFault-IsFrame, NoFault-size}
use Rattle.fix_framing.proofs.StayLemmas.{fault-stays}

-- two messages that begin one text are one
pub frames-unique : (hs : List (List ℕ)) (f g b c x y : List ℕ) → AreHeaders hs → IsFrameWith hs f b → IsFrameWith hs g c → f ++ x ≡ g ++ y → (f ≡ g) × (b ≡ c) × (x ≡ y)
frames-unique hs f g b c x y are first second joined =
    let sizes : length f ≡ length g = sym (IsFrameWith-size hs f b x are first) ∙ (ap (frame_size_with hs) joined ∙ IsFrameWith-size hs g c y are second) in
    let bodies : b ≡ c = sym (IsFrameWith-body_of hs f b x are first) ∙ (ap (body_of_with hs) joined ∙ IsFrameWith-body_of hs g c y are second) in (
      sym (take_at f x (length f) refl) ∙ (ap (λ xs. take (length f) xs) joined ∙ take_at g y (length f) (sym sizes)),
      bodies,
      sym (drop_at f x (length f) refl) ∙ (ap (λ xs. drop (length f) xs) joined ∙ drop_at g y (length f) (sym sizes)),
    )

-- no message is a proper prefix of a message
pub no-proper-prefix : (hs : List (List ℕ)) (f more b c : List ℕ) → AreHeaders hs → IsFrameWith hs f b → IsFrameWith hs (f ++ more) c → more ≡ []
no-proper-prefix hs f more b c are first second = (frames-unique hs f (f ++ more) b c more [] are first second (sym (append-nil (f ++ more)))).2

-- a proper prefix of a message is Truncated
absurd-stays : (hs : List (List ℕ)) (p q b : List ℕ) (e : FrameFault) → AreHeaders hs → IsFrameWith hs (p ++ q) b → frame_fault_with hs p ≡ Some e → e ≢ Truncated → ⊥
absurd-stays hs p q b e are frame fault not_cut =
    let stays = fault-stays hs p q e are fault not_cut in
    let none = rw append-nil at (IsFrameWith-no_fault hs (p ++ q) b [] are frame) in
    cc (sym stays ∙ none)

prefix-by : (hs : List (List ℕ)) (p q b : List ℕ) (found : Option FrameFault) → AreHeaders hs → IsFrameWith hs (p ++ q) b → q ≢ [] → frame_fault_with hs p ≡ found → found ≡ Some Truncated
prefix-by hs p q b None are frame some none =
    let tests = NoFault-from_none hs p none in
    let short = NoFault-IsFrame hs p tests in
    let fits = NoFault-size hs p tests in
    let cut = frame_size_with hs p in
    let size = length-take-le (frame_size_with hs p) p fits in
    let whole : (p ++ q) ++ [] ≡ take (frame_size_with hs p) p ++ (drop (frame_size_with hs p) p ++ q) =
    append-nil (p ++ q) ∙ (ap (λ xs. xs ++ q) (sym (take-append-drop (frame_size_with hs p) p)) ∙ append_assoc (take (frame_size_with hs p) p) (drop (frame_size_with hs p) p) q) in
    let same = (frames-unique hs (p ++ q) (take (frame_size_with hs p) p) b (body_of_with hs p) [] (drop (frame_size_with hs p) p ++ q) are frame short whole).0 in
    let lengths = ap length same in
    let both = length-append p q in
    absurd (some (nil_from_length q (omega arith)))
prefix-by hs p q b (Some Truncated) are frame some fault = refl
prefix-by hs p q b (Some Begin) are frame some fault = absurd (absurd-stays hs p q b Begin are frame fault (λ e. cc))
prefix-by hs p q b (Some Length) are frame some fault = absurd (absurd-stays hs p q b Length are frame fault (λ e. cc))
prefix-by hs p q b (Some Trailer) are frame some fault = absurd (absurd-stays hs p q b Trailer are frame fault (λ e. cc))
prefix-by hs p q b (Some Checksum) are frame some fault = absurd (absurd-stays hs p q b Checksum are frame fault (λ e. cc))

pub prefix-cut : (hs : List (List ℕ)) (p q b : List ℕ) → AreHeaders hs → IsFrameWith hs (p ++ q) b → q ≢ [] → frame_fault_with hs p ≡ Some Truncated
prefix-cut hs p q b are frame some = prefix-by hs p q b (frame_fault_with hs p) are frame some refl
