-- What the shares of a day tell, where what is told of a symbol is one.
use Rattle.std.proofs.Common.{◌≡◌, ◌<◌, ◌≤◌, ◌+◌, ◌-◌, ◌*◌, ◌%◌, ℕ, zero, suc, true, Some, Ok, List, [], ◌∷◌, length, map, get_or, refl, sym, ap, subst, ◌∙◌, arith}
use Rattle.std.specs.Prelude.{option_map, slice_get}
use Rattle.std.proofs.lemmas.Bool.{eq-eqb}
use Rattle.std.proofs.lemmas.List.{length-map}
use Rattle.std.proofs.lemmas.Option.{same_Some, slice_get-get_or, slice_get-map, slice_get_within}
use Rattle.day_symbols.specs.Kept.{AreForEach}
use Rattle.day_symbols.specs.Laws.{SharesAreTheDay}
use Rattle.day_symbols.specs.Shares.{DayShare, IsDayShare, index_in_share, indices_in, is_in_share, symbols_in, whole_day}
use Rattle.day_symbols.specs.Symbols.{symbols_of_day}
use Rattle.day_symbols.proofs.KeptLemmas.{symbol-at}
use Rattle.day_symbols.proofs.PlaceLemmas.{index-at, place-at, place-is}
use Rattle.day_verdicts.specs.DayVerdicts.{told_of_symbol}
use Rattle.day_verdicts.specs.Laws.{IsJudgedShareOf, SharesOfRuleAreTheDay}
use Rattle.day_verdicts.specs.ShareTelling.{IsToldInOneShare, SharesTellTheDay, nothing_told, told_in}
use Rattle.day_verdicts.specs.SymbolAnswers.{SymbolAnswer, TellsSymbols, tell_each}
use Rattle.day_verdicts.specs.declared.judging.JudgedSymbols.{JudgedSymbols}
use Rattle.day_verdicts.proofs.OneDayLemmas.{same-members}
use Rattle.record_verdict.specs.Laws.{RecordVerdictIsOne}
use Rattle.record_verdict.specs.RecordVerdicts.{question}

-- each symbol is in the share 1/1
in-whole : (index : ℕ) → is_in_share whole_day index ≡ true
in-whole index = let rest : index % 1 ≡ 1 - 1 = omega arith in eq-eqb (index % 1) (1 - 1) rest

whole-is : IsDayShare whole_day
whole-is = record { first = omega arith; among = omega arith; within_most = omega arith }

-- the place of an index in it is the index
whole-place : (index : ℕ) → index_in_share whole_day index ≡ index
whole-place index = let quotient = place-is whole_day index whole-is (in-whole index) in omega (arith, quotient)

-- its symbols are those of the day
pub whole-symbols : (symbols : List (List ℕ)) → symbols_in whole_day symbols ≡ symbols
whole-symbols symbols =
    let long : length (symbols_in whole_day symbols) ≡ length symbols =
    length-map (indices_in whole_day (length symbols)) (λ (index : ℕ). get_or symbols index []) ∙ whole-place (length symbols) in
    same-members (symbols_in whole_day symbols) symbols long
    (λ i one other got-one got-other.
    let within : i < length (symbols_in whole_day symbols) = slice_get_within (symbols_in whole_day symbols) i one got-one in
    let at = symbol-at whole_day symbols i whole-is within in
    let index : i * 1 + (1 - 1) ≡ i = omega arith in
    same_Some one other (sym got-one ∙ at.is ∙ ap (slice_get symbols) index ∙ got-other))

-- what a list has at an index of the share stands at its place
there : {X : Type 0} (xs : List X) (other : X) (share : DayShare) (index : ℕ) → is_in_share share index ≡ true → index < length xs
    → slice_get (map (λ (i : ℕ). get_or xs i other) (indices_in share (length xs))) (index_in_share share index) ≡ slice_get xs index
there xs other share index is within =
    slice_get-map (λ (i : ℕ). get_or xs i other) (indices_in share (length xs)) (index_in_share share index)
    ∙ ap (option_map (λ (i : ℕ). get_or xs i other)) (place-at share (length xs) index is within)
    ∙ sym (slice_get-get_or xs index other within)

-- each symbol is told in one share
in-one : SharesAreTheDay → (symbols : List (List ℕ)) (told : List SymbolAnswer) → length told ≡ length symbols → (count index : ℕ) → 1 ≤ count → index < length symbols → IsToldInOneShare count index symbols told
in-one shares symbols told long count index some within =
    let found = shares count index some in
    let inside : index < length told = omega (arith, within, long) in
    record {
      number = found.0;
      only = found.1;
      symbol_there = there symbols [] (record { number = found.0; count = count }) index found.1.has within;
      told_there = there told nothing_told (record { number = found.0; count = count }) index found.1.has inside;
    }

module _ {S : Type 0} (P : List ℕ → S → Type 0) (tell : List ℕ → S → SymbolAnswer) (one : (symbol : List ℕ) (x y : S) → P symbol x → P symbol y → tell symbol x ≡ tell symbol y) where
  rest : (symbol : List ℕ) (symbols : List (List ℕ)) (x : S) (xs : List S) → AreForEach P (symbol ∷ symbols) (x ∷ xs) → AreForEach P symbols xs
  rest symbol symbols x xs are = record {
    same_length = omega (arith, are.same_length);
    each = λ i other it. are.each (suc i) other it;
  }

  pub length-told : (symbols : List (List ℕ)) (xs : List S) → AreForEach P symbols xs → length (tell_each tell symbols xs) ≡ length symbols
  length-told [] xs are = refl
  length-told (symbol ∷ symbols) [] are = absurd (omega (arith, are.same_length))
  length-told (symbol ∷ symbols) (x ∷ xs) are = let others = length-told symbols xs (rest symbol symbols x xs are) in omega (arith, others)

  -- what is told of the symbol at an index
  told-at : (symbols : List (List ℕ)) (xs : List S) → AreForEach P symbols xs → (i : ℕ) → i < length symbols → (y : S) → P (get_or symbols i []) y
      → tell (get_or symbols i []) y ≡ get_or (tell_each tell symbols xs) i nothing_told
  told-at [] xs are i within y is = absurd (omega (arith, within))
  told-at (symbol ∷ symbols) [] are i within y is = absurd (omega (arith, are.same_length))
  told-at (symbol ∷ symbols) (x ∷ xs) are zero within y is = one symbol y x is (are.each zero symbol x refl refl)
  told-at (symbol ∷ symbols) (x ∷ xs) are (suc i) within y is = told-at symbols xs (rest symbol symbols x xs are) i (omega (arith, within)) y is

  -- what is told of the symbols at some indices
  module _ (symbols : List (List ℕ)) (xs : List S) (are : AreForEach P symbols xs) where
    told-at-each : (indices : List ℕ) → ((j i : ℕ) → slice_get indices j ≡ Some i → i < length symbols) → (ys : List S) → AreForEach P (map (λ (i : ℕ). get_or symbols i []) indices) ys
        → tell_each tell (map (λ (i : ℕ). get_or symbols i []) indices) ys ≡ map (λ (i : ℕ). get_or (tell_each tell symbols xs) i nothing_told) indices
    told-at-each [] inside ys are-y = refl
    told-at-each (index ∷ indices) inside [] are-y = absurd (omega (arith, are-y.same_length))
    told-at-each (index ∷ indices) inside (y ∷ ys) are-y =
        let first : tell (get_or symbols index []) y ≡ get_or (tell_each tell symbols xs) index nothing_told =
        told-at symbols xs are index (inside zero index refl) y (are-y.each zero (get_or symbols index []) y refl refl) in
        let others = told-at-each indices (λ j i got. inside (suc j) i got) ys (rest (get_or symbols index []) (map (λ (i : ℕ). get_or symbols i []) indices) y ys are-y) in
        λ i. first i ∷ others i

    -- what is told of those of a share
    told-in-share : (share : DayShare) (ys : List S) → AreForEach P (symbols_in share symbols) ys → tell_each tell (symbols_in share symbols) ys ≡ told_in share (tell_each tell symbols xs)
    told-in-share share ys are-y =
        told-at-each (indices_in share (length symbols)) (λ j i got. (index-at share (length symbols) j i got).inside) ys are-y
        ∙ ap (λ (n : ℕ). map (λ (i : ℕ). get_or (tell_each tell symbols xs) i nothing_told) (indices_in share n)) (sym (length-told symbols xs are))

  -- the shares tell the day
  pub shares-tell : SharesAreTheDay → (means : DayShare → JudgedSymbols → Type 0) (symbols : List (List ℕ)) (whole : JudgedSymbols) (xs : List S) → AreForEach P (symbols_in whole_day symbols) xs
      → TellsSymbols (symbols_in whole_day symbols) (tell_each tell (symbols_in whole_day symbols) xs) whole
      → ((share : DayShare) (judged : JudgedSymbols) → means share judged → (ys : List S) × AreForEach P (symbols_in share symbols) ys × TellsSymbols (symbols_in share symbols) (tell_each tell (symbols_in share symbols) ys) judged)
      → SharesTellTheDay means symbols whole
  shares-tell shares means symbols whole xs are-whole tells said =
      let are : AreForEach P symbols xs = subst (λ (s : List (List ℕ)). AreForEach P s xs) (whole-symbols symbols) are-whole in
      let told : List SymbolAnswer = tell_each tell symbols xs in
      record {
        told = told;
        one_for_each = length-told symbols xs are;
        whole_tells = subst (λ (s : List (List ℕ)). TellsSymbols s (tell_each tell s xs) whole) (whole-symbols symbols) tells;
        shares_tell = λ share judged means-it.
            let has = said share judged means-it in
            subst (λ (t : List SymbolAnswer). TellsSymbols (symbols_in share symbols) t judged) (told-in-share symbols xs are share has.0 has.1) has.2;
        in_one_share = in-one shares symbols told (length-told symbols xs are);
      }

-- by a rule
pub rule-shares-tell : RecordVerdictIsOne → SharesAreTheDay → SharesOfRuleAreTheDay
rule-shares-tell one shares rule table checks entries trades whole is =
    shares-tell _ (told_of_symbol checks entries trades)
    (λ symbol v w is-v is-w. ap (told_of_symbol checks entries trades symbol) (one (question rule symbol table) entries (Ok trades) v w is-v is-w))
    shares (IsJudgedShareOf rule table checks entries trades) (symbols_of_day entries trades) whole is.verdicts is.verdicts_are is.tells
    (λ share judged judged-is. (judged-is.verdicts, judged-is.verdicts_are, judged-is.tells))
