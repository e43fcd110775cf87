-- A piece that is handed on part by part.
use Rattle.std.proofs.Common.{◌≡◌, ℕ, ◌+◌, ◌-◌, ◌≤◌, List, ◌++◌, length, take, drop, sym, subst, ap, ◌∙◌, append_assoc, arith}
use Rattle.std.specs.List.{slice_range}
use Rattle.std.proofs.Math.Seq.{take-add}
use Rattle.std.proofs.lemmas.List.{append-nil, length-append, length-drop, length-take-le, take_all}
use Rattle.log_source.specs.Feeds.{HasRoom}
use Rattle.log_source.specs.Handing.{HandsOnMore}

module _ {D : Type 0} (stands_for : D → List ℕ → Type 0) (piece : List ℕ) where
  -- nothing of it was handed on
  pub no-part : (feed : D) → HandsOnMore (stands_for feed) (stands_for feed) (take 0 piece)
  no-part feed log stood = subst (λ (t : List ℕ). stands_for feed t) (sym (append-nil log)) stood

  module _ (old new : D) (at end : ℕ) (hands : HandsOnMore (stands_for old) (stands_for new) (take at piece)) (low : at ≤ end) (high : end ≤ length piece) where
    -- there is room for one more part of it
    pub part-room : HasRoom stands_for old piece → HasRoom stands_for new (slice_range piece at end)
    part-room room =
        let front = length-take-le at piece (omega (arith, low, high)) in
        let part = length-take-le (end - at) (drop at piece) (omega (arith, high, length-drop at piece)) in
        record {
          bytes = room.bytes ++ take at piece;
          stands = hands room.bytes room.stands;
          room = omega (arith, room.room, length-append room.bytes (take at piece), front, part, low, high);
        }

    -- one more part of it was handed on
    pub part-more : (newer : D) → HandsOnMore (stands_for new) (stands_for newer) (slice_range piece at end) → HandsOnMore (stands_for old) (stands_for newer) (take end piece)
    part-more newer more log stood =
        let place : at + (end - at) ≡ end = omega (arith, low) in
        let whole : take end piece ≡ take at piece ++ slice_range piece at end = ap (λ (n : ℕ). take n piece) (sym place) ∙ take-add at (end - at) piece in
        subst (λ (t : List ℕ). stands_for newer t) (append_assoc log (take at piece) (slice_range piece at end) ∙ ap (λ (t : List ℕ). log ++ t) (sym whole)) (more (log ++ take at piece) (hands log stood))

  -- all of it was
  pub whole-piece : (old new : D) (at : ℕ) → length piece ≤ at → HandsOnMore (stands_for old) (stands_for new) (take at piece) → HandsOnMore (stands_for old) (stands_for new) piece
  whole-piece old new at end hands = subst (λ (t : List ℕ). HandsOnMore (stands_for old) (stands_for new) t) (take_all at piece end) hands
