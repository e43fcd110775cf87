-- Several writes in a row: what they leave of a sink together.
use Rattle.std.proofs.Common.{◌≡◌, ℕ, ◌<◌, ◌≤◌, List, ◌++◌, length, take, drop, Result, Ok, Err, sym, ap, subst, ◌∙◌, inl, inr, append_assoc, take-append-drop, length-append, arith}
use Rattle.std.specs.Prelude.{Option, IsErr, ◌-◌}
use Rattle.std.proofs.lemmas.List.{take_rest}
use Rattle.std.proofs.KnownBytes.{Appends-kept}
use Rattle.std.specs.Io.KnownBytes.{Appends}
use lib.Seq.{take-append_seam}
use Rattle.log_source.specs.Sources.{RoseOrIsFull}
use Rattle.log_source.specs.Sinks.{SinkState, SinkStays, Writes, AppendsPart, Puts}
use Rattle.log_source.specs.declared.shelf.Failed.{Failed}

-- a count that rose later rose from what it was before
pub Rose-later : (a b c : ℕ) → a ≤ b → RoseOrIsFull b c → RoseOrIsFull a c
Rose-later a b c h (inl less) = inl (omega arith)
Rose-later a b c h (inr greatest) = inr greatest

pub Stays-trans : (a b c : SinkState) → SinkStays a b → SinkStays b c → SinkStays a c
Stays-trans a b c p q = record { tells = q.tells ∙ p.tells; sure = q.sure ∙ p.sure; later = omega (arith, p.later, q.later) }

-- what a write takes is the front of the rest, and what is left of the rest follows it
pub cut_more : (bytes written rest : List ℕ) (n : ℕ) → bytes ≡ written ++ rest → bytes ≡ (written ++ take n rest) ++ take (length rest - n) (drop n rest)
cut_more bytes written rest n cut =
    cut ∙ ap (λ l. written ++ l) (sym (take-append-drop n rest)) ∙ sym (append_assoc written (take n rest) (drop n rest)) ∙ ap (λ l. (written ++ take n rest) ++ l) (sym (take_rest rest n))

-- a front that leaves something to write is not all
pub part_of : (old new : Option (List ℕ)) (bytes written rest : List ℕ) → bytes ≡ written ++ rest → 0 < length rest → Appends old new written → AppendsPart old new bytes
part_of old new bytes written rest cut more appended =
    let front : take (length written) bytes ≡ written = ap (take (length written)) cut ∙ take-append_seam written rest in
    record {
      count = length written;
      short = omega (arith, ap length cut, length-append written rest);
      part = subst (Appends old new) (sym front) appended;
    }

-- a write that fails after others leaves a front of the bytes written
pub put_failed : {T : Type 0} (first mid new : SinkState) (failed : Failed) (result : Result T Failed) (bytes written rest : List ℕ) → IsErr result → SinkStays first mid → bytes ≡ written ++ rest → 0 < length rest
    → Appends first.wrote mid.wrote written → Writes mid new (Err failed) rest → Puts first new result bytes
put_failed first mid new failed (Ok x) bytes written rest is stays cut more appended write = cc
put_failed first mid new failed (Err e) bytes written rest is stays cut more appended write = record {
  stays = Stays-trans first mid new stays write.stays;
  whole = tt;
  quiet = tt;
  part = part_of first.wrote new.wrote bytes written rest cut more (Appends-kept first.wrote mid.wrote new.wrote written appended write.bytes);
  cause = record {
    rose = Rose-later first.faults mid.faults new.faults stays.later write.cause.rose;
    reached = write.cause.reached;
  };
}
