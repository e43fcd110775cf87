-- What a feed of a day has read where each line is read alone.
use Rattle.std.proofs.Common.{◌≡◌, ℕ, ◌+◌, ◌<◌, ◌≤◌, ◌^◌, Option, Some, None, List, [], ◌∷◌, ◌++◌, length, map, refl, sym, subst, ap, ◌∙◌, append_assoc, arith}
use Rattle.std.specs.Prelude.{IfSome}
use Rattle.std.proofs.lemmas.Grind.{flat_map-append}
use Rattle.std.proofs.lemmas.List.{append-nil, length-append, length-map}
use Rattle.fix_days.specs.declared.faults.BadMessage.{BadMessage}
use Rattle.fix_days.specs.Lines.{IsLineReading}
use Rattle.fix_days.specs.LinesAlone.{bad_messages, DayMessage, IsReadByLines, itself_if_bad, lines_of, LineSays, LinesSay, messages_of_line}
use Rattle.fix_days.specs.LinesAlone.DayMessage.{Good}
use Rattle.fix_days.proofs.AloneLemmas.{line-size, lines-ended, lines-last}
use Rattle.fix_days.proofs.LineLemmas.{soh-some}
use Rattle.plain_logs.specs.declared.alone.AloneFeed.{AloneFeed}
use Rattle.plain_logs.specs.declared.day_ends.DayLineEnd.{DayLineEnd}
use Rattle.plain_logs.specs.declared.day_ends.LineEnd.{LineEnd}
use Rattle.plain_logs.specs.declared.day_ends.PassedMessage.{PassedMessage}
use Rattle.plain_logs.specs.AloneFeeds.{EndsAlone, EndsLine, HasRoomAlone, passed_message, passed_over}
use Rattle.plain_logs.specs.DayFeeds.{HasGivenLines}

-- the messages of a line as those of the day
in-day : (count offset : ℕ) (bodies : List (List ℕ)) (bad : Option BadMessage) → messages_of_line count offset bodies bad ≡ map Good bodies ++ passed_message (passed_over count offset bad)
in-day count offset bodies None = sym (append-nil (map Good bodies))
in-day count offset bodies (Some bad) = refl

good-not-bad : (bodies : List (List ℕ)) → bad_messages (map Good bodies) ≡ []
good-not-bad [] = refl
good-not-bad (body ∷ bodies) = good-not-bad bodies

passed-bad : (bad : Option PassedMessage) → length (bad_messages (passed_message bad)) ≡ length (passed_message bad)
passed-bad None = refl
passed-bad (Some bad) = refl

one-passed : (bad : Option PassedMessage) → length (passed_message bad) ≤ 1
one-passed None = omega arith
one-passed (Some bad) = omega arith

line-bad : (bodies : List (List ℕ)) (bad : Option PassedMessage) → length (bad_messages (map Good bodies ++ passed_message bad)) ≡ length (passed_message bad)
line-bad bodies bad =
    ap length (flat_map-append itself_if_bad (map Good bodies) (passed_message bad)) ∙ ap (λ (t : List DayMessage). length (t ++ bad_messages (passed_message bad))) (good-not-bad bodies) ∙ passed-bad bad

-- the offset of a bad message is in its line
bad-inside : (soh line : List ℕ) (bodies : List (List ℕ)) (bad : Option BadMessage) → IsLineReading soh line bodies bad → IfSome bad (λ b. b.offset ≤ length line)
bad-inside soh line bodies None is = tt
bad-inside soh line bodies (Some bad) is = let whole = is.offset in omega (arith, whole)

small-offset : (bad : Option BadMessage) (most : ℕ) → most < 2 ^ 63 → IfSome bad (λ b. b.offset ≤ most) → IfSome bad (λ b. b.offset < 2 ^ 63)
small-offset None most few is = tt
small-offset (Some bad) most few is = omega (arith, few, is)

module _ {S : Type 0} (soh : List ℕ) (feed : AloneFeed S) (room : HasRoomAlone soh feed 0) where
  pub room-count : feed.count < 2 ^ 36
  room-count =
      let few = room.read.few in
      let before = room.read.before in
      let within = room.room in omega (arith, few, before, within)

  pub room-bad : feed.bad < 2 ^ 36
  room-bad =
      let few = room.read.few_bad in
      let before = room.read.before in
      let within = room.room in omega (arith, few, before, within)

  pub room-before : feed.before < 2 ^ 36
  room-before =
      let before = room.read.before in
      let within = room.room in omega (arith, before, within)

  pub room-taken : feed.taken < 2 ^ 36
  room-taken =
      let size = room.read.size in
      let within = room.room in omega (arith, size, within)

  pub room-offset : (end : LineEnd) → EndsLine soh feed.line end → IfSome end.bad (λ b. b.offset < 2 ^ 63)
  room-offset end ends =
      let line = ends room.read.part room.bodies room.read.read in
      let before = room.read.before in
      let within = room.room in
      small-offset end.bad (length room.read.part) (omega (arith, before, within)) (bad-inside soh room.read.part (room.bodies ++ line.more) end.bad line.read)

-- a line has ended
pub ends-alone : {S : Type 0} (soh : List ℕ) (old new : AloneFeed S) (end : LineEnd) (ended : DayLineEnd) → ended.text.items ≡ end.text.items → ended.bad ≡ passed_over old.count old.before end.bad
    → new.count ≡ old.count + (end.bodies + length (passed_message ended.bad)) → new.bad ≡ old.bad + length (passed_message ended.bad) → new.taken ≡ old.taken + 1 → new.before ≡ new.taken → EndsLine soh old.line end → HasGivenLines soh new.line [] []
    → EndsAlone soh old new ended
ends-alone soh old new end ended text bad counts counts_bad takes begins ends anew day messages bodies h =
    let line = ends h.part bodies h.read in
    let bs = bodies ++ line.more in
    let said = map Good bs ++ passed_message ended.bad in
    let are : messages_of_line old.count old.before bs end.bad ≡ said = in-day old.count old.before bs end.bad ∙ ap (λ (b : Option PassedMessage). map Good bs ++ passed_message b) (sym bad) in
    let says : LineSays soh old.count old.before h.part said = record { bodies = bs; bad = end.bad; read = line.read; are = sym are } in
    let few_line = line-size soh h.part old.count old.before bs end.bad (soh-some soh h.read.is) line.read in
    let long = ap length are in
    let both : length said ≡ length bs + length (passed_message ended.bad) = length-append (map Good bs) (passed_message ended.bad) ∙ ap (λ (n : ℕ). n + length (passed_message ended.bad)) (length-map bs Good) in
    let counted = line.counted in
    let more_count : new.count ≡ old.count + length said = omega (arith, counts, counted, both) in
    let size = h.size in
    let before = h.before in
    let more_before : new.before ≡ old.before + (length h.part + 1) = omega (arith, begins, takes, size, before) in
    let few = h.few in
    let few_bad = h.few_bad in
    let one = one-passed ended.bad in
    let longer = length-append day (10 ∷ []) in
    let all = length-append messages said in
    let all_bad : bad_messages (messages ++ said) ≡ bad_messages messages ++ bad_messages said = flat_map-append itself_if_bad messages said in
    let all_bad_size = ap length all_bad ∙ length-append (bad_messages messages) (bad_messages said) in
    let line_bad = line-bad bs ended.bad in
    let were = h.counted in
    let were_bad = h.counted_bad in
    record {
      more = line.more;
      read = record {
        part = [];
        one_line = refl;
        said = λ after later says_later.
            let cut : (day ++ 10 ∷ []) ++ after ≡ day ++ 10 ∷ after = append_assoc day (10 ∷ []) after in
            let moved = subst (λ (n : ℕ). LinesSay soh n (old.before + (length h.part + 1)) (lines_of after) later) more_count (subst (λ (n : ℕ). LinesSay soh new.count n (lines_of after) later) more_before says_later) in
            let there = h.said (10 ∷ after) (said ++ later)
            (subst (λ (ls : List (List ℕ)). LinesSay soh old.count old.before ls (said ++ later)) (sym (lines-ended h.part after h.one_line)) (said, later, says, moved, refl)) in
            subst (IsReadByLines soh ((day ++ 10 ∷ []) ++ after)) (sym (append_assoc messages said later)) (subst (λ (t : List ℕ). IsReadByLines soh t (messages ++ (said ++ later))) (sym cut) there);
        size = omega (arith, takes, size, longer);
        before = omega (arith, more_before, before, longer);
        counted = omega (arith, more_count, all, were);
        counted_bad = omega (arith, counts_bad, all_bad_size, line_bad, were_bad);
        few = omega (arith, more_count, more_before, few, few_line, long);
        few_bad = omega (arith, counts_bad, more_before, few_bad, one);
        read = anew;
      };
      whole =
          let only : lines_of (h.part ++ []) ≡ h.part ∷ [] = ap lines_of (append-nil h.part) ∙ lines-last h.part h.one_line in
          let there = h.said [] said (subst (λ (ls : List (List ℕ)). LinesSay soh old.count old.before ls said) (sym only) (said, [], says, refl, sym (append-nil said))) in
          subst (λ (t : List ℕ). IsReadByLines soh t (messages ++ said)) (append-nil day) there;
      text_is = text ∙ line.text_is;
    }
