-- The SOH bytes of a body, sought in a text that begins with it.
use Rattle.std.specs.Prelude.{◌≡◌, ℕ, ◌-◌, ◌<◌, ◌≤◌, ◌⊎◌, List, [], ◌++◌, length}
use Rattle.fix_fields.specs.Marks.{IsEnd}
use Rattle.fix_fields.specs.declared.marks.MarkedText.{MarkedText}

-- the last byte of the body is SOH
abbrev pub EndsWithSoh : List ℕ → Type 0
EndsWithSoh body = (0 < length body) × IsEnd body (length body - 1)

-- the SOH bytes from this place on are sought in the body, or in a text that goes on after it
-- where its last byte is SOH
pub record HoldsEnds (body : List ℕ) (at : ℕ) (ends : MarkedText) : Type 0 where
  pub more : List ℕ
  pub closed : (more ≡ []) ⊎ EndsWithSoh body
  pub text : ends.text.now ≡ body ++ more
  pub low : ends.start ≤ at

-- the same, and where the text goes on, this place lies in the body
pub record SeeksEnd (body : List ℕ) (at : ℕ) (ends : MarkedText) : Type 0 where
  pub more : List ℕ
  pub closed : (more ≡ []) ⊎ ((at < length body) × EndsWithSoh body)
  pub text : ends.text.now ≡ body ++ more
  pub low : ends.start ≤ at
