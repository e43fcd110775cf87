-- What a feed of a day on lines has read begins every reading of a day that goes on so.
use Rattle.std.proofs.Common.{◌≡◌, ℕ, ◌<◌, true, false, Option, Some, None, List, [], ◌∷◌, ◌++◌, length, refl, sym, subst, ap, ◌∙◌, arith}
use Rattle.fix_days.specs.declared.faults.BadMessage.{BadMessage}
use Rattle.fix_days.specs.declared.lines.LineFeed.{LineFeed}
use Rattle.fix_days.specs.Fronts.{BeginsReadings, count_before, HasReadLines, line_count}
use Rattle.fix_days.specs.Lines.{BeginsWithMessage, FirstBeginning, IsLeftAfter, IsLineReading}
use Rattle.fix_days.specs.LineFeeds.{IsLineFeedOf, IsLineFeedWith}
use Rattle.fix_days.proofs.LineUniqueLemmas.{fault-stuck, IsStuck, none-stuck, one-line-reading, same-first, same-message}
use Rattle.std.proofs.lemmas.List.{append-nil}

module _ (soh : List ℕ) (some : 0 < length soh) where
  -- the messages of a front begin those of the day up to where none begins
  pub front-left : (day : List ℕ) (bodies others : List (List ℕ)) (left its : List ℕ) → IsLeftAfter soh day bodies left → IsLeftAfter soh day others its → IsStuck soh some its → (rest : List (List ℕ)) × (others ≡ bodies ++ rest)
  front-left day [] others left its is it stays = (others, refl)
  front-left day (body ∷ bodies) [] left its is it stays =
      absurd (stays is.0 is.1 body is.2 (subst (λ (t : List ℕ). FirstBeginning t is.0 is.1) (sym it) is.3) is.4)
  front-left day (body ∷ bodies) (other ∷ others) left its is it stays =
      let from = same-first soh some day is.0 is.1 it.0 it.1 is.3 it.3 in
      let message = same-message soh some is.1 body other is.2 it.2 is.4 (subst (λ (t : List ℕ). BeginsWithMessage soh t other it.2) (sym from) it.4) in
      let rest = front-left is.2 bodies others left its is.5 (subst (λ (t : List ℕ). IsLeftAfter soh t others its) (sym message.rests) it.5) stays in
      (rest.0, ap (λ (bs : List (List ℕ)). other ∷ bs) rest.1 ∙ ap (λ (b : List ℕ). b ∷ (bodies ++ rest.0)) (sym message.bodies))

  left-front : (day : List ℕ) (bodies others : List (List ℕ)) (left : List ℕ) (bad : Option BadMessage) → IsLeftAfter soh day bodies left → IsLineReading soh day others bad → (rest : List (List ℕ)) × (others ≡ bodies ++ rest)
  left-front day bodies others left None is it = front-left day bodies others left it.left is it.messages (none-stuck soh some it.left it.none)
  left-front day bodies others left (Some bad) is it = front-left day bodies others left it.left is it.messages (fault-stuck soh some it.left it.before it.from bad.fault it.begins it.fails)

  false-true : false ≡ true → {P : Type 0} → P
  false-true e = absurd (cc e)

  module _ {B S : Type 0} (feed : LineFeed B S) (day : List ℕ) where
    with-begins : (bad : Option BadMessage) (bodies : List (List ℕ)) → IsLineFeedWith soh (λ (taker : B) handed. handed ≡ bodies) feed bad day → BeginsReadings (IsLineReading soh) day bodies
    with-begins None bodies is more others other reading =
        let left : IsLeftAfter soh (day ++ more) bodies (is.left ++ more) =
        subst (λ (bs : List (List ℕ)). IsLeftAfter soh (day ++ more) bs (is.left ++ more)) is.has (is.messages more (λ e. false-true e)) in
        left-front (day ++ more) bodies others (is.left ++ more) other left reading
    with-begins (Some bad) bodies is more others other reading =
        let same = one-line-reading soh some (day ++ more) is.bodies others (Some bad) other (is.is_bad more) reading in
        ([], sym same.0 ∙ is.has ∙ sym (append-nil bodies))

    pub lines-begins : (bodies : List (List ℕ)) → HasReadLines soh feed day bodies → BeginsReadings (IsLineReading soh) day bodies
    lines-begins bodies is = with-begins feed.bad bodies is

module _ {B S : Type 0} (soh : List ℕ) (feed : LineFeed B S) (day : List ℕ) where
  with-counted : (bad : Option BadMessage) (bodies : List (List ℕ)) → IsLineFeedWith soh (λ (taker : B) handed. handed ≡ bodies) feed bad day → count_before bad feed.count ≡ length bodies
  with-counted None bodies is = is.counted ∙ ap length is.has
  with-counted (Some bad) bodies is =
      let one = is.is_bad [] in
      let place = one.place in
      let same = ap length is.has in omega (arith, place, same)

  pub lines-counted : (bodies : List (List ℕ)) → HasReadLines soh feed day bodies → line_count feed ≡ length bodies
  lines-counted bodies is = with-counted feed.bad bodies is

  module _ (has_taken : B → List (List ℕ) → Type 0) where
    with-split : (bad : Option BadMessage) → IsLineFeedWith soh has_taken feed bad day → (bodies : List (List ℕ)) × has_taken feed.bodies bodies × IsLineFeedWith soh (λ (taker : B) handed. handed ≡ bodies) feed bad day
    with-split None is = (
      is.bodies,
      is.has,
      record {
        dress = is.dress;
        some = is.some;
        line = is.line;
        before = is.before;
        dropped = is.dropped;
        whole = is.whole;
        within = is.within;
        bodies = is.bodies;
        has = refl;
        counted = is.counted;
        few = is.few;
        left = is.left;
        messages = is.messages;
        searched = is.searched;
      },
    )
    with-split (Some bad) is = (is.bodies, is.has, record { dress = is.dress; bodies = is.bodies; has = refl; is_bad = is.is_bad })

    with-join : (bad : Option BadMessage) (bodies : List (List ℕ)) → has_taken feed.bodies bodies → IsLineFeedWith soh (λ (taker : B) handed. handed ≡ bodies) feed bad day → IsLineFeedWith soh has_taken feed bad day
    with-join None bodies has is = record {
      dress = is.dress;
      some = is.some;
      line = is.line;
      before = is.before;
      dropped = is.dropped;
      whole = is.whole;
      within = is.within;
      bodies = is.bodies;
      has = subst (has_taken feed.bodies) (sym is.has) has;
      counted = is.counted;
      few = is.few;
      left = is.left;
      messages = is.messages;
      searched = is.searched;
    }
    with-join (Some bad) bodies has is = record { dress = is.dress; bodies = is.bodies; has = subst (has_taken feed.bodies) (sym is.has) has; is_bad = is.is_bad }

    pub lines-split : IsLineFeedOf soh has_taken feed day → (bodies : List (List ℕ)) × has_taken feed.bodies bodies × HasReadLines soh feed day bodies
    lines-split is = with-split feed.bad is

    pub lines-join : (bodies : List (List ℕ)) → has_taken feed.bodies bodies → HasReadLines soh feed day bodies → IsLineFeedOf soh has_taken feed day
    lines-join bodies has is = with-join feed.bad bodies has is
