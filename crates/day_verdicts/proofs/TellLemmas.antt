-- What is told of the symbols of a day, with one more; and how many there may be.
use Rattle.std.proofs.Common.{◌≡◌, ◌<◌, ◌+◌, ◌^◌, ◌∙◌, ℕ, suc, Bool, true, false, List, [], ◌∷◌, ◌++◌, length, length-append, append-nil, cond, not, refl, sym, ap, subst, arith}
use Rattle.std.specs.Prelude.{◌-◌, count_by, if◌then◌else◌}
use Rattle.std.proofs.lemmas.List.{append_assoc}
use Rattle.std.proofs.lemmas.List.Sums.{count_by-le-length, sum_by-append}
use Rattle.audit_report.specs.declared.day_line.DayCounts.{DayCounts}
use Rattle.audit_report.specs.DayTexts.{symbol_lines}
use Rattle.day_verdicts.specs.declared.judging.JudgedSymbols.{JudgedSymbols}
use Rattle.day_verdicts.specs.DayVerdicts.{HasRoomForOne}
use Rattle.day_verdicts.specs.SymbolAnswers.{AddsTold, counts_of, day_lines_of, tell_each, SymbolAnswer, TellsSymbols, with_one}

-- the lines of one symbol more come last
lines-more : (symbols : List (List ℕ)) (told : List SymbolAnswer) (symbol : List ℕ) (one : SymbolAnswer) → length told ≡ length symbols
    → day_lines_of (symbols ++ symbol ∷ []) (told ++ one ∷ []) ≡ day_lines_of symbols told ++ symbol_lines symbol one.text
lines-more [] [] symbol one same = append-nil (symbol_lines symbol one.text)
lines-more [] (t ∷ ts) symbol one same = absurd (omega (arith, same))
lines-more (s ∷ ss) [] symbol one same = absurd (omega (arith, same))
lines-more (s ∷ ss) (t ∷ ts) symbol one same =
    let rest : length ts ≡ length ss = omega (arith, same) in
    ap (λ (text : List ℕ). symbol_lines s t.text ++ text) (lines-more ss ts symbol one rest)
    ∙ sym (append_assoc (symbol_lines s t.text) (day_lines_of ss ts) (symbol_lines symbol one.text))

-- the counts of one symbol more
accepted-more : (told : List SymbolAnswer) (one : SymbolAnswer) → count_by (λ (t : SymbolAnswer). t.accepted) (told ++ one ∷ []) ≡ count_by (λ (t : SymbolAnswer). t.accepted) told + (if one.accepted then 1 else 0)
accepted-more told one =
    let alone_is : ℕ = if one.accepted then 1 else 0 in
    let alone : 0 + alone_is ≡ alone_is = omega arith in
    sum_by-append (λ (t : SymbolAnswer). cond t.accepted 1 0) told (one ∷ []) ∙ ap (λ (k : ℕ). count_by (λ (t : SymbolAnswer). t.accepted) told + k) alone

flipped : (b : Bool) → 0 + cond (not b) 1 0 ≡ cond b 0 1
flipped true = refl
flipped false = refl

rejected-more : (told : List SymbolAnswer) (one : SymbolAnswer)
    → count_by (λ (t : SymbolAnswer). not t.accepted) (told ++ one ∷ []) ≡ count_by (λ (t : SymbolAnswer). not t.accepted) told + (if one.accepted then 0 else 1)
rejected-more told one =
    sum_by-append (λ (t : SymbolAnswer). cond (not t.accepted) 1 0) told (one ∷ [])
    ∙ ap (λ (k : ℕ). count_by (λ (t : SymbolAnswer). not t.accepted) told + k) (flipped one.accepted)

counts-more : (told : List SymbolAnswer) (one : SymbolAnswer) → counts_of (told ++ one ∷ []) ≡ with_one (counts_of told) one.accepted
counts-more told one = λ i. record {
  symbols = length-append told (one ∷ []) i;
  accepted = accepted-more told one i;
  rejected = rejected-more told one i;
}

module _ {S : Type 0} (tell : List ℕ → S → SymbolAnswer) where
  -- as many symbols are told of as there are
  tell-length : (symbols : List (List ℕ)) (said : List S) → length said ≡ length symbols → length (tell_each tell symbols said) ≡ length symbols
  tell-length [] said same = refl
  tell-length (s ∷ ss) [] same = absurd (omega (arith, same))
  tell-length (s ∷ ss) (x ∷ xs) same = let rest : length xs ≡ length ss = omega (arith, same) in ap suc (tell-length ss xs rest)

  tell-more : (symbols : List (List ℕ)) (said : List S) (symbol : List ℕ) (one : S) → length said ≡ length symbols
      → tell_each tell (symbols ++ symbol ∷ []) (said ++ one ∷ []) ≡ tell_each tell symbols said ++ tell symbol one ∷ []
  tell-more [] [] symbol one same = refl
  tell-more [] (x ∷ xs) symbol one same = absurd (omega (arith, same))
  tell-more (s ∷ ss) [] symbol one same = absurd (omega (arith, same))
  tell-more (s ∷ ss) (x ∷ xs) symbol one same =
      let rest : length xs ≡ length ss = omega (arith, same) in
      ap (λ (told : List SymbolAnswer). tell s x ∷ told) (tell-more ss xs symbol one rest)

  -- one symbol more is told of
  pub tells-more : (symbols : List (List ℕ)) (said : List S) (symbol : List ℕ) (one : S) (told : SymbolAnswer) (old new : JudgedSymbols) → length said ≡ length symbols → told ≡ tell symbol one → AddsTold old new symbol told
      → TellsSymbols symbols (tell_each tell symbols said) old → TellsSymbols (symbols ++ symbol ∷ []) (tell_each tell (symbols ++ symbol ∷ []) (said ++ one ∷ [])) new
  tells-more symbols said symbol one told old new same told_is adds tells =
      let before : List SymbolAnswer = tell_each tell symbols said in
      let more : before ++ told ∷ [] ≡ tell_each tell (symbols ++ symbol ∷ []) (said ++ one ∷ []) =
      ap (λ (t : SymbolAnswer). before ++ t ∷ []) told_is ∙ sym (tell-more symbols said symbol one same) in
      subst (λ (all : List SymbolAnswer). TellsSymbols (symbols ++ symbol ∷ []) all new) more (record {
        counts_are = adds.counts_are ∙ ap (λ (counts : DayCounts). with_one counts told.accepted) tells.counts_are ∙ sym (counts-more before told);
        lines_are = adds.lines_are ∙ ap (λ (text : List ℕ). text ++ symbol_lines symbol told.text) tells.lines_are ∙ sym (lines-more symbols before symbol told (tell-length symbols said same));
      })

  -- there is room to count one symbol more
  pub room-for-one : (symbols : List (List ℕ)) (said : List S) (judged : JudgedSymbols) → length said ≡ length symbols → TellsSymbols symbols (tell_each tell symbols said) judged → length symbols < 2 ^ 64 - 1 → HasRoomForOne judged.counts
  room-for-one symbols said judged same tells few =
      let told : List SymbolAnswer = tell_each tell symbols said in
      let symbols_are : judged.counts.symbols ≡ length symbols = ap (λ (counts : DayCounts). counts.symbols) tells.counts_are ∙ tell-length symbols said same in
      let accepted_are : judged.counts.accepted ≡ count_by (λ (t : SymbolAnswer). t.accepted) told = ap (λ (counts : DayCounts). counts.accepted) tells.counts_are in
      let rejected_are : judged.counts.rejected ≡ count_by (λ (t : SymbolAnswer). not t.accepted) told = ap (λ (counts : DayCounts). counts.rejected) tells.counts_are in
      let size : length told ≡ length symbols = tell-length symbols said same in
      record {
        symbols_few = omega (arith, symbols_are, few);
        accepted_few = omega (arith, symbols_are, accepted_are, size, count_by-le-length (λ (t : SymbolAnswer). t.accepted) told);
        rejected_few = omega (arith, symbols_are, rejected_are, size, count_by-le-length (λ (t : SymbolAnswer). not t.accepted) told);
      }
