-- The phases of a day, as one word of a command line gives them: 1 to 64 parts KIND@FIRST,
-- joined by commas, the FIRST of the first being 1 and the others rising. The code of `,` is
-- 44, and of `@` 64.
use Rattle.std.specs.Prelude.{ℕ, Bool, ◌==◌, Option, None, Some, option_map, option_and_then, List, [], ◌∷◌, length, codes, nat_le, nat_lt, if◌then◌else◌}
use Rattle.std.specs.List.{slice_split, position_or_len, before_first, after_first}
use Rattle.audit_base.specs.Least.{first_answer, only_if}
use Rattle.session_audit.specs.declared.phases.PhaseKind.{PhaseKind}
use Rattle.session_audit.specs.declared.phases.PhaseKind.TheVariants as kind
use Rattle.session_audit.specs.declared.phases.Phase.{Phase}
use Rattle.session_audit.specs.Phases.{last_place}
use Rattle.command_words.specs.WordForms.{word_equals, unpadded_number}
-- the byte that joins parts
pub use Rattle.audit_base.specs.Names.{is_comma}

-- the byte between KIND and FIRST
abbrev pub is_at_sign : ℕ → Bool
is_at_sign byte = byte == 64

-- the parts of a word, which commas join: one more than there are commas
abbrev pub parts_of : List ℕ → List (List ℕ)
parts_of word = slice_split is_comma word

-- KIND is the word of a kind of phase
abbrev pub kind_named : List ℕ → Option PhaseKind
kind_named word = first_answer (only_if (word_equals word (codes "uniform")) kind.Uniform
    ∷ only_if (word_equals word (codes "maximum")) kind.Maximum
    ∷ only_if (word_equals word (codes "continuous")) kind.Continuous ∷ [])

-- FIRST is from 1 to 4,294,967,295, in digits of which the first is no zero
abbrev pub first_place_named : List ℕ → Option ℕ
first_place_named word = unpadded_number last_place word

-- the phase of a KIND and a FIRST, where both are there
abbrev pub phase_of_kind : Option PhaseKind → Option ℕ → Option Phase
phase_of_kind the_kind the_first =
    option_and_then (λ k. option_map (λ f. record { kind = k; first = f }) the_first) the_kind

-- a text cut at its first such byte, into the bytes before it and those after it; nothing
-- where there is no such byte
abbrev pub cut_at : (ℕ → Bool) → List ℕ → Option (List ℕ × List ℕ)
cut_at is_mark text =
    if nat_lt (position_or_len is_mark text) (length text)
    then Some (before_first is_mark text, after_first is_mark text)
    else None

-- a part KIND@FIRST
abbrev pub phase_named : List ℕ → Option Phase
phase_named part =
    option_and_then (λ cut. phase_of_kind (kind_named cut.0) (first_place_named cut.1))
    (cut_at is_at_sign part)

-- the first FIRST is 1, and each other is above the one before it; 0 is given as the one before
-- the first
abbrev pub first_follows : ℕ → ℕ → Bool
first_follows before first = if before == 0 then first == 1 else nat_lt before first

-- a phase whose FIRST follows another
abbrev pub phase_after : ℕ → List ℕ → Option Phase
phase_after before part =
    option_and_then (λ phase. only_if (first_follows before phase.first) phase) (phase_named part)

-- the phases of parts, each FIRST following the one before it; nothing where a part is no such
-- phase
abbrev pub phases_after : ℕ → List (List ℕ) → Option (List Phase)
phases_after before [] = Some []
phases_after before (part ∷ parts) =
    option_and_then (λ phase.
    option_map (λ rest. phase ∷ rest) (phases_after phase.first parts))
    (phase_after before part)

-- the phases of parts, of which there are at most as many as given
abbrev pub phases_within : ℕ → ℕ → List (List ℕ) → Option (List Phase)
phases_within most before parts =
    if nat_le (length parts) most then phases_after before parts else None

-- PHASES is 1 to 64 parts
abbrev pub phases_named : List ℕ → Option (List Phase)
phases_named word = phases_within 64 0 (parts_of word)

-- the parts after a first one, where any are
abbrev pub parts_after_first : Option (List ℕ) → List (List ℕ)
parts_after_first None = []
parts_after_first (Some rest) = parts_of rest
