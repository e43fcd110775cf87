-- The first failing test of a list of tests that is put together.
use Rattle.std.proofs.Common.{◌≡◌, ℕ, Bool, true, false, Some, None, List, [], ◌∷◌, ◌++◌, refl, ◌∙◌, ◌⊎◌, inl, inr}
use Rattle.fix_framing.specs.declared.frames.FrameFault.{FrameFault}
use Rattle.fix_framing.specs.declared.frames.FrameFault.TheVariants.{Begin, Length, Truncated, Trailer, Checksum}
use Rattle.fix_framing.specs.Headers.{header_size}
use Rattle.fix_framing.specs.Frames.{has_bad_begin, ends_in_header, has_long_length, ends_in_length, has_bad_length, ends_in_body, has_bad_trailer, has_bad_sum, first_failing, header_tests, length_tests, trailer_tests, frame_fault_with}

pub first_failing-some : (xs ys : List (Bool × FrameFault)) (e : FrameFault) → first_failing xs ≡ Some e → first_failing (xs ++ ys) ≡ Some e
first_failing-some [] ys e h = absurd (cc)
first_failing-some ((true, fault) ∷ xs) ys e h = h
first_failing-some ((false, fault) ∷ xs) ys e h = first_failing-some xs ys e h

pub first_failing-none : (xs ys : List (Bool × FrameFault)) → first_failing xs ≡ None → first_failing (xs ++ ys) ≡ first_failing ys
first_failing-none [] ys h = refl
first_failing-none ((true, fault) ∷ xs) ys h = absurd (cc)
first_failing-none ((false, fault) ∷ xs) ys h = first_failing-none xs ys h

-- the fault of a text, by its header, its length and its trailer
pub fault-header : (hs : List (List ℕ)) (r : List ℕ) (e : FrameFault) → first_failing (header_tests hs r) ≡ Some e → frame_fault_with hs r ≡ Some e
unfolding frame_fault_with
fault-header hs r e h = first_failing-some (header_tests hs r ++ length_tests (header_size hs r) r) (trailer_tests (header_size hs r) r) e (first_failing-some (header_tests hs r) (length_tests (header_size hs r) r) e h)

both-none : (hs : List (List ℕ)) (r : List ℕ) → first_failing (header_tests hs r) ≡ None → first_failing (length_tests (header_size hs r) r) ≡ None → first_failing (header_tests hs r ++ length_tests (header_size hs r) r) ≡ None
both-none hs r h k = first_failing-none (header_tests hs r) (length_tests (header_size hs r) r) h ∙ k

pub fault-length : (hs : List (List ℕ)) (r : List ℕ) (e : FrameFault) → first_failing (header_tests hs r) ≡ None → first_failing (length_tests (header_size hs r) r) ≡ Some e → frame_fault_with hs r ≡ Some e
unfolding frame_fault_with
fault-length hs r e h k = first_failing-some (header_tests hs r ++ length_tests (header_size hs r) r) (trailer_tests (header_size hs r) r) e (first_failing-none (header_tests hs r) (length_tests (header_size hs r) r) h ∙ k)

pub fault-trailer : (hs : List (List ℕ)) (r : List ℕ) → first_failing (header_tests hs r) ≡ None → first_failing (length_tests (header_size hs r) r) ≡ None → frame_fault_with hs r ≡ first_failing (trailer_tests (header_size hs r) r)
unfolding frame_fault_with
fault-trailer hs r h k = first_failing-none (header_tests hs r ++ length_tests (header_size hs r) r) (trailer_tests (header_size hs r) r) (both-none hs r h k)

-- the first test of a list, by its answer
pub first-false : (b : Bool) (e : FrameFault) (xs : List (Bool × FrameFault)) → b ≡ false → first_failing ((b, e) ∷ xs) ≡ first_failing xs
first-false false e xs h = refl
first-false true e xs h = absurd (cc)

pub first-true : (b : Bool) (e : FrameFault) (xs : List (Bool × FrameFault)) → b ≡ true → first_failing ((b, e) ∷ xs) ≡ Some e
first-true true e xs h = refl
first-true false e xs h = absurd (cc)

pub first-none : (b : Bool) (e : FrameFault) (xs : List (Bool × FrameFault)) → first_failing ((b, e) ∷ xs) ≡ None → (b ≡ false) × (first_failing xs ≡ None)
first-none false e xs h = (refl, h)
first-none true e xs h = absurd (cc)

first-some : (b : Bool) (e f : FrameFault) (xs : List (Bool × FrameFault)) → first_failing ((b, e) ∷ xs) ≡ Some f → ((b ≡ true) × (f ≡ e)) ⊎ ((b ≡ false) × (first_failing xs ≡ Some f))
first-some true e f xs h = inl (refl, cc)
first-some false e f xs h = inr (refl, h)

-- the tests from one on
abbrev from_eighth : List (List ℕ) → List ℕ → List (Bool × FrameFault)
from_eighth hs r = (has_bad_sum (header_size hs r) r, Checksum) ∷ []

abbrev from_seventh : List (List ℕ) → List ℕ → List (Bool × FrameFault)
from_seventh hs r = (has_bad_trailer (header_size hs r) r, Trailer) ∷ from_eighth hs r

abbrev from_sixth : List (List ℕ) → List ℕ → List (Bool × FrameFault)
from_sixth hs r = (ends_in_body (header_size hs r) r, Truncated) ∷ from_seventh hs r

abbrev from_fifth : List (List ℕ) → List ℕ → List (Bool × FrameFault)
from_fifth hs r = (has_bad_length (header_size hs r) r, Length) ∷ from_sixth hs r

abbrev from_fourth : List (List ℕ) → List ℕ → List (Bool × FrameFault)
from_fourth hs r = (ends_in_length (header_size hs r) r, Truncated) ∷ from_fifth hs r

abbrev from_third : List (List ℕ) → List ℕ → List (Bool × FrameFault)
from_third hs r = (has_long_length (header_size hs r) r, Length) ∷ from_fourth hs r

abbrev from_second : List (List ℕ) → List ℕ → List (Bool × FrameFault)
from_second hs r = (ends_in_header hs r, Truncated) ∷ from_third hs r

-- no test fails
pub record NoFault (hs : List (List ℕ)) (r : List ℕ) : Type 0 where
  pub begins : has_bad_begin hs r ≡ false
  pub header_ends : ends_in_header hs r ≡ false
  pub long : has_long_length (header_size hs r) r ≡ false
  pub length_ends : ends_in_length (header_size hs r) r ≡ false
  pub bad_length : has_bad_length (header_size hs r) r ≡ false
  pub body_ends : ends_in_body (header_size hs r) r ≡ false
  pub bad_trailer : has_bad_trailer (header_size hs r) r ≡ false
  pub bad_sum : has_bad_sum (header_size hs r) r ≡ false

pub NoFault-from_none : (hs : List (List ℕ)) (r : List ℕ) → frame_fault_with hs r ≡ None → NoFault hs r
unfolding frame_fault_with
NoFault-from_none hs r none =
    let t1 = first-none (has_bad_begin hs r) Begin (from_second hs r) none in
    let t2 = first-none (ends_in_header hs r) Truncated (from_third hs r) t1.1 in
    let t3 = first-none (has_long_length (header_size hs r) r) Length (from_fourth hs r) t2.1 in
    let t4 = first-none (ends_in_length (header_size hs r) r) Truncated (from_fifth hs r) t3.1 in
    let t5 = first-none (has_bad_length (header_size hs r) r) Length (from_sixth hs r) t4.1 in
    let t6 = first-none (ends_in_body (header_size hs r) r) Truncated (from_seventh hs r) t5.1 in
    let t7 = first-none (has_bad_trailer (header_size hs r) r) Trailer (from_eighth hs r) t6.1 in
    let t8 = first-none (has_bad_sum (header_size hs r) r) Checksum [] t7.1 in
    record { begins = t1.0; header_ends = t2.0; long = t3.0; length_ends = t4.0; bad_length = t5.0; body_ends = t6.0; bad_trailer = t7.0; bad_sum = t8.0 }

pub none-from_NoFault : (hs : List (List ℕ)) (r : List ℕ) → NoFault hs r → frame_fault_with hs r ≡ None
unfolding frame_fault_with
none-from_NoFault hs r tests =
    first-false (has_bad_begin hs r) Begin (from_second hs r) tests.begins ∙
    (first-false (ends_in_header hs r) Truncated (from_third hs r) tests.header_ends ∙
    (first-false (has_long_length (header_size hs r) r) Length (from_fourth hs r) tests.long ∙
    (first-false (ends_in_length (header_size hs r) r) Truncated (from_fifth hs r) tests.length_ends ∙
    (first-false (has_bad_length (header_size hs r) r) Length (from_sixth hs r) tests.bad_length ∙
    (first-false (ends_in_body (header_size hs r) r) Truncated (from_seventh hs r) tests.body_ends ∙
    (first-false (has_bad_trailer (header_size hs r) r) Trailer (from_eighth hs r) tests.bad_trailer ∙
    first-false (has_bad_sum (header_size hs r) r) Checksum [] tests.bad_sum))))))

-- the first test that fails, with those before it
pub data FaultCase (hs : List (List ℕ)) (r : List ℕ) (e : FrameFault) : Type 0 where
  first : has_bad_begin hs r ≡ true → e ≡ Begin → FaultCase hs r e
  second : has_bad_begin hs r ≡ false → ends_in_header hs r ≡ true → e ≡ Truncated → FaultCase hs r e
  third : has_bad_begin hs r ≡ false → ends_in_header hs r ≡ false → has_long_length (header_size hs r) r ≡ true → e ≡ Length → FaultCase hs r e
  fourth : has_bad_begin hs r ≡ false → ends_in_header hs r ≡ false → has_long_length (header_size hs r) r ≡ false → ends_in_length (header_size hs r) r ≡ true → e ≡ Truncated → FaultCase hs r e
  fifth : has_bad_begin hs r ≡ false → ends_in_header hs r ≡ false → has_long_length (header_size hs r) r ≡ false → ends_in_length (header_size hs r) r ≡ false → has_bad_length (header_size hs r) r ≡ true → e ≡ Length → FaultCase hs r e
  sixth : has_bad_begin hs r ≡ false → ends_in_header hs r ≡ false → has_long_length (header_size hs r) r ≡ false → ends_in_length (header_size hs r) r ≡ false → has_bad_length (header_size hs r) r ≡ false → ends_in_body (header_size hs r) r ≡ true → e ≡ Truncated → FaultCase hs r e
  seventh : has_bad_begin hs r ≡ false → ends_in_header hs r ≡ false → has_long_length (header_size hs r) r ≡ false → ends_in_length (header_size hs r) r ≡ false → has_bad_length (header_size hs r) r ≡ false → ends_in_body (header_size hs r) r ≡ false → has_bad_trailer (header_size hs r) r ≡ true → e ≡ Trailer → FaultCase hs r e
  eighth : has_bad_begin hs r ≡ false → ends_in_header hs r ≡ false → has_long_length (header_size hs r) r ≡ false → ends_in_length (header_size hs r) r ≡ false → has_bad_length (header_size hs r) r ≡ false → ends_in_body (header_size hs r) r ≡ false → has_bad_trailer (header_size hs r) r ≡ false → has_bad_sum (header_size hs r) r ≡ true → e ≡ Checksum → FaultCase hs r e

pub FaultCase-from_some : (hs : List (List ℕ)) (r : List ℕ) (e : FrameFault) → frame_fault_with hs r ≡ Some e → FaultCase hs r e
unfolding frame_fault_with
FaultCase-from_some hs r e some =
    elim (first-some (has_bad_begin hs r) Begin e (from_second hs r) some) [
      | inl h ↦ first h.0 h.1
      | inr h1 ↦ elim (first-some (ends_in_header hs r) Truncated e (from_third hs r) h1.1) [
        | inl h ↦ second h1.0 h.0 h.1
        | inr h2 ↦ elim (first-some (has_long_length (header_size hs r) r) Length e (from_fourth hs r) h2.1) [
          | inl h ↦ third h1.0 h2.0 h.0 h.1
          | inr h3 ↦ elim (first-some (ends_in_length (header_size hs r) r) Truncated e (from_fifth hs r) h3.1) [
            | inl h ↦ fourth h1.0 h2.0 h3.0 h.0 h.1
            | inr h4 ↦ elim (first-some (has_bad_length (header_size hs r) r) Length e (from_sixth hs r) h4.1) [
              | inl h ↦ fifth h1.0 h2.0 h3.0 h4.0 h.0 h.1
              | inr h5 ↦ elim (first-some (ends_in_body (header_size hs r) r) Truncated e (from_seventh hs r) h5.1) [
                | inl h ↦ sixth h1.0 h2.0 h3.0 h4.0 h5.0 h.0 h.1
                | inr h6 ↦ elim (first-some (has_bad_trailer (header_size hs r) r) Trailer e (from_eighth hs r) h6.1) [
                  | inl h ↦ seventh h1.0 h2.0 h3.0 h4.0 h5.0 h6.0 h.0 h.1
                  | inr h7 ↦ elim (first-some (has_bad_sum (header_size hs r) r) Checksum e [] h7.1) [
                    | inl h ↦ eighth h1.0 h2.0 h3.0 h4.0 h5.0 h6.0 h7.0 h.0 h.1
                    | inr h8 ↦ absurd (cc)
                  ]
                ]
              ]
            ]
          ]
        ]
      ]
    ]

pub some-from_FaultCase : (hs : List (List ℕ)) (r : List ℕ) (e : FrameFault) → FaultCase hs r e → frame_fault_with hs r ≡ Some e
unfolding frame_fault_with
some-from_FaultCase hs r e (first h1 is) =
    rw is (first-true (has_bad_begin hs r) Begin (from_second hs r) h1)
some-from_FaultCase hs r e (second h1 h2 is) =
    rw is (first-false (has_bad_begin hs r) Begin (from_second hs r) h1 ∙ first-true (ends_in_header hs r) Truncated (from_third hs r) h2)
some-from_FaultCase hs r e (third h1 h2 h3 is) =
    rw is (first-false (has_bad_begin hs r) Begin (from_second hs r) h1 ∙ (first-false (ends_in_header hs r) Truncated (from_third hs r) h2 ∙ first-true (has_long_length (header_size hs r) r) Length (from_fourth hs r) h3))
some-from_FaultCase hs r e (fourth h1 h2 h3 h4 is) =
    rw is (first-false (has_bad_begin hs r) Begin (from_second hs r) h1 ∙ (first-false (ends_in_header hs r) Truncated (from_third hs r) h2 ∙ (first-false (has_long_length (header_size hs r) r) Length (from_fourth hs r) h3 ∙ first-true (ends_in_length (header_size hs r) r) Truncated (from_fifth hs r) h4)))
some-from_FaultCase hs r e (fifth h1 h2 h3 h4 h5 is) =
    rw is (first-false (has_bad_begin hs r) Begin (from_second hs r) h1 ∙ (first-false (ends_in_header hs r) Truncated (from_third hs r) h2 ∙ (first-false (has_long_length (header_size hs r) r) Length (from_fourth hs r) h3 ∙ (first-false (ends_in_length (header_size hs r) r) Truncated (from_fifth hs r) h4 ∙ first-true (has_bad_length (header_size hs r) r) Length (from_sixth hs r) h5))))
some-from_FaultCase hs r e (sixth h1 h2 h3 h4 h5 h6 is) =
    rw is (first-false (has_bad_begin hs r) Begin (from_second hs r) h1 ∙ (first-false (ends_in_header hs r) Truncated (from_third hs r) h2 ∙ (first-false (has_long_length (header_size hs r) r) Length (from_fourth hs r) h3 ∙ (first-false (ends_in_length (header_size hs r) r) Truncated (from_fifth hs r) h4 ∙ (first-false (has_bad_length (header_size hs r) r) Length (from_sixth hs r) h5 ∙ first-true (ends_in_body (header_size hs r) r) Truncated (from_seventh hs r) h6)))))
some-from_FaultCase hs r e (seventh h1 h2 h3 h4 h5 h6 h7 is) =
    rw is (first-false (has_bad_begin hs r) Begin (from_second hs r) h1 ∙ (first-false (ends_in_header hs r) Truncated (from_third hs r) h2 ∙ (first-false (has_long_length (header_size hs r) r) Length (from_fourth hs r) h3 ∙ (first-false (ends_in_length (header_size hs r) r) Truncated (from_fifth hs r) h4 ∙ (first-false (has_bad_length (header_size hs r) r) Length (from_sixth hs r) h5 ∙ (first-false (ends_in_body (header_size hs r) r) Truncated (from_seventh hs r) h6 ∙ first-true (has_bad_trailer (header_size hs r) r) Trailer (from_eighth hs r) h7))))))
some-from_FaultCase hs r e (eighth h1 h2 h3 h4 h5 h6 h7 h8 is) =
    rw is (first-false (has_bad_begin hs r) Begin (from_second hs r) h1 ∙ (first-false (ends_in_header hs r) Truncated (from_third hs r) h2 ∙ (first-false (has_long_length (header_size hs r) r) Length (from_fourth hs r) h3 ∙ (first-false (ends_in_length (header_size hs r) r) Truncated (from_fifth hs r) h4 ∙ (first-false (has_bad_length (header_size hs r) r) Length (from_sixth hs r) h5 ∙ (first-false (ends_in_body (header_size hs r) r) Truncated (from_seventh hs r) h6 ∙ (first-false (has_bad_trailer (header_size hs r) r) Trailer (from_eighth hs r) h7 ∙ first-true (has_bad_sum (header_size hs r) r) Checksum [] h8)))))))
