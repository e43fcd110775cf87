-- The plain text of a day: each message that is read of it, as a line of a FIX log.
use Rattle.std.specs.Prelude.{◌≡◌, ◌≤◌, ℕ, All, List, Option, drop, length}
use Rattle.std.specs.List.{flat_map}
use Rattle.fix_days.specs.declared.faults.BadMessage.{BadMessage}
use Rattle.fix_days.specs.Laws.{FitsMessage, written_line}

-- the messages of FIX 4.4 with these bodies, one on a line
abbrev pub plain_text : List (List ℕ) → List ℕ
plain_text bodies = flat_map written_line bodies

-- The text is the plain text of the bodies behind so many, where each fits a message.
pub record IsTextBehind (skipped : ℕ) (bodies : List (List ℕ)) (text : List ℕ) : Type 0 where
  pub some : skipped ≤ length bodies
  pub text_is : All FitsMessage bodies → text ≡ plain_text (drop skipped bodies)

-- The text is the plain text of exactly the bodies that are read, in order, together with this
-- first bad message, or with none.
pub record IsPlainText (reads : List (List ℕ) → Option BadMessage → Type 0) (text : List ℕ)
    (bad : Option BadMessage) : Type 0 where
  pub bodies : List (List ℕ)
  pub read : reads bodies bad
  pub text_is : text ≡ plain_text bodies
