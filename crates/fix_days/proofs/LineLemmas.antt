-- What a feed of a day on lines stands for through its steps.
use Rattle.std.proofs.Common.{◌≡◌, ℕ, ◌+◌, ◌-◌, ◌<◌, ◌≤◌, ◌^◌, Bool, true, false, not, ◌==◌, ◌||◌, Option, Some, None, Result, Ok, Err, List, [], ◌∷◌, ◌++◌, length, take, drop, refl, sym, subst, ap, ◌∙◌, append_assoc, arith}
use Rattle.std.specs.Global.{Vec}
use Rattle.std.specs.List.{list_all, slice_range, starts_with}
use Rattle.std.specs.Prelude.{IfOk, MatchBool, nat_eq, nat_le}
use Rattle.std.proofs.lemmas.Bool.{and_from, and_parts, leb-true, ne_eqb}
use Rattle.fix_framing.proofs.PrefixLemmas.{split-at}
use Rattle.std.proofs.lemmas.List.{append-nil, drop-append-le, drop-drop, length-append, length-drop, length-take-le, take-append-drop}
use Rattle.log_source.specs.Feeds.{HasRoom}
use Rattle.log_source.specs.Handing.{HandsOnMore}
use Rattle.fix_framing.specs.declared.frames.FrameFault.{FrameFault}
use Rattle.fix_days.specs.declared.faults.BadMessage.{BadMessage}
use Rattle.fix_days.specs.declared.lines.LineFeed.{LineFeed}
use Rattle.fix_days.specs.Answers.{HasReadBodies}
use Rattle.fix_days.specs.Lines.{BeginsWithFault, BeginsWithMessage, FirstBeginning, HasNoLineEnd, IsBadOnLines, is_graphic, is_soh_text, IsLeftAfter, IsLineReading}
use Rattle.fix_days.specs.LineFeeds.{HasLines, IsLineFeedOf, IsLineFeedWith, IsLineFeedWithinLimit, StopsAtBadLine}
use Rattle.fix_days.specs.Fronts.{count_before, HasReadLines}
use Rattle.fix_days.specs.LineSteps.{DropsTo, EndsLines, HasDay, ShutsAt, TakesLine, TakesNoLine, unread}
use Rattle.fix_days.specs.Looks.{IsMessageAt}
use Rattle.fix_days.specs.Searches.{HasNoneFrom, IsFirstFrom, IsSearched}
use Rattle.fix_days.specs.Undressings.{MayFollow}
use Rattle.fix_days.proofs.SearchLemmas.{search-end, search-found, search-kept, search-more, search-start, search-wait}

-- one message more
pub left-more : (soh day : List ℕ) (bodies : List (List ℕ)) (left before from body rest : List ℕ) → IsLeftAfter soh day bodies left → FirstBeginning left before from → BeginsWithMessage soh from body rest → IsLeftAfter soh day (bodies ++ body ∷ []) rest
left-more soh day [] left before from body rest is first message = (before, from, rest, subst (λ (t : List ℕ). FirstBeginning t before from) is first, message, refl)
left-more soh day (one ∷ bodies) left before from body rest is first message = (is.0, is.1, is.2, is.3, is.4, left-more soh is.2 bodies left before from body rest is.5 first message)

-- the text for SOH has no LF
graphic-line : (text : List ℕ) → list_all is_graphic text ≡ true → HasNoLineEnd text
graphic-line [] all = refl
graphic-line (byte ∷ rest) all =
    let both = and_parts (is_graphic byte) (list_all is_graphic rest) all in
    let low = leb-true 33 byte (and_parts (nat_le 33 byte) (nat_le byte 126) both.0).0 in
    and_from (not (byte == 10)) (list_all (λ b. not (b == 10)) rest) (ap not (ne_eqb byte 10 (λ e. omega (arith, low, e)))) (graphic-line rest both.1)

byte-line : (text : List ℕ) → (more : List ℕ) → 1 ∷ [] ≡ text ++ more → HasNoLineEnd text
byte-line [] more whole = refl
byte-line (byte ∷ []) more whole =
    let same : 1 ≡ byte = cc whole in
    subst (λ (b : ℕ). HasNoLineEnd (b ∷ [])) same refl
byte-line (byte ∷ next ∷ rest) more whole =
    let size = ap length whole in absurd (omega (arith, size, length-append (byte ∷ next ∷ rest) more))

pub soh-line : (text : List ℕ) → is_soh_text text ≡ true → HasNoLineEnd text
soh-line text is =
    let both = and_parts _ (list_all is_graphic text || starts_with nat_eq (1 ∷ []) text) is in by-first (list_all is_graphic text) refl both.1
  where
    by-first : (b : Bool) → list_all is_graphic text ≡ b → (list_all is_graphic text || starts_with nat_eq (1 ∷ []) text) ≡ true → HasNoLineEnd text
    by-first true all either = graphic-line text all
    by-first false none either =
        let starts : starts_with nat_eq (1 ∷ []) text ≡ true = sym (ap (λ (b : Bool). b || starts_with nat_eq (1 ∷ []) text) none) ∙ either in
        byte-line text (drop (length text) (1 ∷ [])) (split-at (1 ∷ []) text starts)

pub soh-some : (text : List ℕ) → is_soh_text text ≡ true → 0 < length text
soh-some text is =
    let low = leb-true 1 (length text) (and_parts _ _ (and_parts _ (list_all is_graphic text || starts_with nat_eq (1 ∷ []) text) is).0).0 in omega (arith, low)

nothing-follows : (ended : Bool) → MayFollow ended []
nothing-follows ended = λ is. refl

module _ {B S : Type 0} (soh : List ℕ) (has_taken : B → List (List ℕ) → Type 0) where
  -- what was looked at makes no difference
  pub looked-lines : (ended : Bool) (feed : LineFeed B S) (message : Vec ℕ) (day : List ℕ) → HasLines soh has_taken ended feed day → HasLines soh has_taken ended (record feed { message = message }) day
  looked-lines ended feed message day h = record {
    dress = h.dress;
    some = h.some;
    line = h.line;
    before = h.before;
    dropped = h.dropped;
    whole = h.whole;
    within = h.within;
    bodies = h.bodies;
    has = h.has;
    counted = h.counted;
    few = h.few;
    left = h.left;
    messages = h.messages;
    searched = h.searched;
  }

  -- a step after a look is a step
  pub looked-step : {E : Type 0} (ended : Bool) (old new : LineFeed B S) (message : Vec ℕ) (result : Result Bool E)
      → IfOk result (λ more. MatchBool more (TakesLine soh has_taken ended (record old { message = message }) new) (TakesNoLine soh has_taken ended (record old { message = message }) new))
      → IfOk result (λ more. MatchBool more (TakesLine soh has_taken ended old new) (TakesNoLine soh has_taken ended old new))
  looked-step ended old new message (Ok true) step = record { good = step.good; reads = λ day h. step.reads day (looked-lines ended old message day h); shorter = step.shorter }
  looked-step ended old new message (Ok false) step = λ day h. step day (looked-lines ended old message day h)
  looked-step ended old new message (Err fault) step = tt

  -- no bytes
  pub nothing-read : (feed : LineFeed B S) → feed.soh.items ≡ soh → is_soh_text soh ≡ true → feed.held.items ≡ [] → feed.base ≡ 0 → feed.next ≡ 0 → feed.searched ≡ 0 → feed.count ≡ 0 → feed.bad ≡ None → has_taken feed.bodies []
      → IsLineFeedOf soh has_taken feed []
  nothing-read feed dress is held base next searched count none has =
      let some = soh-some soh is in
      let lines : HasLines soh has_taken false feed [] = record {
        dress = dress;
        some = some;
        line = soh-line soh is;
        before = [];
        dropped = sym base;
        whole = sym held;
        within = omega (arith, next);
        bodies = [];
        has = has;
        counted = count;
        few = omega (arith, count);
        left = [];
        messages = λ more follows. refl;
        searched = subst (λ (k : ℕ). IsSearched [] (drop k feed.held.items) feed.searched) (sym next) (subst (λ (t : List ℕ). IsSearched [] t feed.searched) (sym held) (subst (IsSearched [] []) (sym searched) (search-start [])));
      } in
      subst (λ (b : Option BadMessage). IsLineFeedWith soh has_taken feed b []) (sym none) lines

  -- how many bytes there are
  pub day-size : (ended : Bool) (feed : LineFeed B S) (day : List ℕ) → HasLines soh has_taken ended feed day → length day ≡ feed.base + length feed.held.items
  day-size ended feed day h = ap length h.whole ∙ length-append h.before feed.held.items ∙ ap (λ (k : ℕ). k + length feed.held.items) h.dropped

  pub room-base : (ended : Bool) (feed : LineFeed B S) → HasDay soh has_taken ended feed → feed.base + length feed.held.items < 2 ^ 63
  room-base ended feed room =
      let size = day-size ended feed room.day room.reads in
      let within = room.within in omega (arith, size, within)

  pub room-count : (ended : Bool) (feed : LineFeed B S) → HasDay soh has_taken ended feed → feed.count + 1 < 2 ^ 32
  room-count ended feed room =
      let size = day-size ended feed room.day room.reads in
      let few = room.reads.few in
      let inside = room.reads.within in
      let within = room.within in omega (arith, size, within, few, inside)

  -- bytes are dropped
  pub moved-lines : (ended : Bool) (old new : LineFeed B S) (place searched : ℕ) (day : List ℕ) (h : HasLines soh has_taken ended old day) → old.next ≤ place → place ≤ length old.held.items → DropsTo place searched old new
      → IsSearched h.left (drop place old.held.items) searched → HasLines soh has_taken ended new day
  moved-lines ended old new place searched day h low high drops is =
      let base = drops.base in
      let next = drops.next in
      let few = h.few in
      let count = drops.count in
      let dropped = h.dropped in
      let taken = length-take-le place old.held.items high in
      let both = length-append h.before (take place old.held.items) in
      record {
        dress = ap (λ (v : Vec ℕ). v.items) drops.dress ∙ h.dress;
        some = h.some;
        line = h.line;
        before = h.before ++ take place old.held.items;
        dropped = omega (arith, base, dropped, taken, both);
        whole =
            h.whole ∙ ap (λ (t : List ℕ). h.before ++ t) (sym (take-append-drop place old.held.items)) ∙ sym (append_assoc h.before (take place old.held.items) (drop place old.held.items))
            ∙ ap (λ (t : List ℕ). (h.before ++ take place old.held.items) ++ t) (sym drops.held);
        within = omega (arith, next);
        bodies = h.bodies;
        has = subst (λ (b : B). has_taken b h.bodies) (sym drops.bodies) h.has;
        counted = drops.count ∙ h.counted;
        few = omega (arith, few, base, next, count, low);
        left = h.left;
        messages = h.messages;
        searched = subst (λ (k : ℕ). IsSearched h.left (drop k new.held.items) new.searched) (sym next)
            (subst (IsSearched h.left new.held.items) (sym drops.searched_to) (subst (λ (t : List ℕ). IsSearched h.left t searched) (sym drops.held) is));
      }

  -- a feed without a bad message stands for what was read
  pub open-lines : (feed : LineFeed B S) (day : List ℕ) → feed.bad ≡ None → HasLines soh has_taken false feed day → IsLineFeedOf soh has_taken feed day
  open-lines feed day none h = subst (λ (b : Option BadMessage). IsLineFeedWith soh has_taken feed b day) (sym none) h

  pub lines-open : (feed : LineFeed B S) (day : List ℕ) → feed.bad ≡ None → IsLineFeedOf soh has_taken feed day → HasLines soh has_taken false feed day
  lines-open feed day none stands = subst (λ (b : Option BadMessage). IsLineFeedWith soh has_taken feed b day) none stands

  pub lines-shut : (feed : LineFeed B S) (bad : BadMessage) (day : List ℕ) → feed.bad ≡ Some bad → IsLineFeedOf soh has_taken feed day → StopsAtBadLine soh has_taken feed bad day
  lines-shut feed bad day is stands = subst (λ (b : Option BadMessage). IsLineFeedWith soh has_taken feed b day) is stands

  -- the message isn't all there
  pub stops-wait : (old new : LineFeed B S) (step : ℕ) → old.bad ≡ None → IsFirstFrom (unread old) old.searched step → DropsTo (old.next + step) 0 old new → (ended : Bool) → ended ≡ false → TakesNoLine soh has_taken ended old new
  stops-wait old new step good found drops true is = absurd (cc is)
  stops-wait old new step good found drops false is = λ day h.
      let rest = length-drop old.next old.held.items in
      let high = found.high in
      let within = h.within in
      let kept = subst (λ (t : List ℕ). IsSearched h.left t 0) (drop-drop step old.next old.held.items) (search-wait h.left (unread old) old.searched h.searched step found) in
      open-lines new day (drops.bad ∙ good) (moved-lines false old new (old.next + step) 0 day h (omega arith) (omega (arith, rest, high, within)) drops kept)

  -- there is no beginning
  pub stops-none : (old new : LineFeed B S) (place searched : ℕ) → old.bad ≡ None → HasNoneFrom (unread old) old.searched → DropsTo place searched old new → old.next ≤ place → place ≤ length old.held.items
      → ((left : List ℕ) → IsSearched left (unread old) old.searched → IsSearched left (drop place old.held.items) searched) → (ended : Bool) → TakesNoLine soh has_taken ended old new
  stops-none old new place searched good none drops low high kept false = λ day h.
      open-lines new day (drops.bad ∙ good) (moved-lines false old new place searched day h low high drops (kept h.left h.searched))
  stops-none old new place searched good none drops low high kept true = λ day h.
      let left : IsLeftAfter soh day h.bodies h.left =
      subst (λ (t : List ℕ). IsLeftAfter soh t h.bodies h.left) (append-nil day) (subst (IsLeftAfter soh (day ++ []) h.bodies) (append-nil h.left) (h.messages [] (nothing-follows true))) in
      record {
        dress = ap (λ (v : Vec ℕ). v.items) drops.dress ∙ h.dress;
        read = record {
          bodies = h.bodies;
          has = record {
            has = subst (λ (b : B). has_taken b h.bodies) (sym drops.bodies) h.has;
            counted = ap (λ (b : Option BadMessage). count_before b new.count) (drops.bad ∙ good) ∙ drops.count ∙ h.counted;
          };
          read = subst (IsLineReading soh day h.bodies) (sym (drops.bad ∙ good)) (record { left = h.left; messages = left; none = search-end h.left (unread old) old.searched h.searched none });
        };
      }

  pub kept-six : (feed : LineFeed B S) (length_held : ℕ) → length_held ≡ length feed.held.items → feed.next + 6 ≤ length_held → HasNoneFrom (unread feed) feed.searched → (left : List ℕ) → IsSearched left (unread feed) feed.searched
      → IsSearched left (drop (length_held - 6) feed.held.items) 1
  kept-six feed length_held same six none left is =
      let count : ℕ = length_held - 6 - feed.next in
      let rest = length-drop feed.next feed.held.items in
      let place : feed.next + count ≡ length_held - 6 = omega (arith, six) in
      subst (λ (k : ℕ). IsSearched left (drop k feed.held.items) 1) place
      (subst (λ (t : List ℕ). IsSearched left t 1) (drop-drop count feed.next feed.held.items) (search-kept left (unread feed) feed.searched is count none (omega (arith, rest, six, same))))

  -- a message was taken
  pub goes-line : (ended : Bool) (old new : LineFeed B S) (message : List ℕ) (step body to end : ℕ) → old.bad ≡ None → new.bad ≡ old.bad → new.soh ≡ old.soh → new.held ≡ old.held → new.base ≡ old.base → new.next ≡ end → new.searched ≡ 0
      → new.count ≡ old.count + 1 → IsFirstFrom (unread old) old.searched step → IsMessageAt soh old.held.items (old.next + step) ended message body to end
      → HandsOnMore (has_taken old.bodies) (has_taken new.bodies) (slice_range message body to ∷ []) → TakesLine soh has_taken ended old new
  goes-line ended old new message step body to end good bad dress held base next searched counts found is adds =
      let items : new.held.items ≡ old.held.items = ap (λ (v : Vec ℕ). v.items) held in
      let within = is.within in
      let later = is.later in
      let left_new = length-drop new.next new.held.items in
      let left_old = length-drop old.next old.held.items in
      let size = ap length items in
      let high = found.high in
      record {
        good = bad ∙ good;
        reads = λ day h.
            let part = slice_range message body to in
            let few = h.few in
            let counted = h.counted in
            let one = length-append h.bodies (part ∷ []) in
            record {
              dress = ap (λ (v : Vec ℕ). v.items) dress ∙ h.dress;
              some = h.some;
              line = h.line;
              before = h.before;
              dropped = h.dropped ∙ sym base;
              whole = h.whole ∙ ap (λ (t : List ℕ). h.before ++ t) (sym items);
              within = omega (arith, within, next, size);
              bodies = h.bodies ++ part ∷ [];
              has = adds h.bodies h.has;
              counted = omega (arith, counts, counted, one);
              few = omega (arith, few, base, next, counts, later);
              left = drop end old.held.items;
              messages = λ more follows.
                  let first = search-found h.left (unread old) old.searched h.searched step found more in
                  let there = subst (λ (t : List ℕ). BeginsWithMessage soh (t ++ more) part (drop end old.held.items ++ more)) (sym (drop-drop step old.next old.held.items)) (is.each more follows) in
                  left-more soh (day ++ more) h.bodies (h.left ++ more) (h.searched.passed ++ take step (unread old)) (drop step (unread old) ++ more) part (drop end old.held.items ++ more) (h.messages more follows) first there;
              searched = subst (λ (k : ℕ). IsSearched (drop end old.held.items) (drop k new.held.items) new.searched) (sym next)
                  (subst (λ (t : List ℕ). IsSearched (drop end old.held.items) (drop end t) new.searched) (sym items) (subst (IsSearched (drop end old.held.items) (drop end old.held.items)) (sym searched) (search-start (drop end old.held.items))));
            };
        shorter = omega (arith, left_new, left_old, size, next, within, later, high);
      }

  -- a message is bad
  pub bad-line : (ended : Bool) (old : LineFeed B S) (step : ℕ) (fault : FrameFault) (bad : BadMessage) → IsFirstFrom (unread old) old.searched step → ((more : List ℕ) → MayFollow ended more → BeginsWithFault soh (drop (old.next + step) old.held.items ++ more) fault)
      → bad ≡ record { place = old.count + 1; offset = old.base + (old.next + step); fault = fault } → (day : List ℕ) (h : HasLines soh has_taken ended old day) (more : List ℕ) → MayFollow ended more → IsBadOnLines soh (day ++ more) h.bodies bad
  bad-line ended old step fault bad found fails is day h more follows =
      let from = drop step (unread old) ++ more in
      let rest = length-drop old.next old.held.items in
      let left = length-drop step (unread old) in
      let both = length-append (drop step (unread old)) more in
      let all = length-append day more in
      let size = day-size ended old day h in
      let high = found.high in
      let within = h.within in
      let placed : bad.place ≡ old.count + 1 = ap (λ (b : BadMessage). b.place) is in
      let offset : bad.offset ≡ old.base + (old.next + step) = ap (λ (b : BadMessage). b.offset) is in
      record {
        left = h.left ++ more;
        messages = h.messages more follows;
        before = h.searched.passed ++ take step (unread old);
        from = from;
        begins = search-found h.left (unread old) old.searched h.searched step found more;
        fails = subst (BeginsWithFault soh from) (sym (ap (λ (b : BadMessage). b.fault) is)) (subst (λ (t : List ℕ). BeginsWithFault soh (t ++ more) fault) (sym (drop-drop step old.next old.held.items)) (fails more follows));
        place = placed ∙ ap (λ (k : ℕ). k + 1) h.counted;
        offset = omega (arith, offset, rest, left, both, all, size, high, within);
      }

  pub stops-bad : (old new : LineFeed B S) (step : ℕ) (fault : FrameFault) → IsFirstFrom (unread old) old.searched step → ShutsAt (old.next + step) fault old new → (ended : Bool)
      → ((more : List ℕ) → MayFollow ended more → BeginsWithFault soh (drop (old.next + step) old.held.items ++ more) fault) → TakesNoLine soh has_taken ended old new
  stops-bad old new step fault found shuts false fails = λ day h.
      subst (λ (b : Option BadMessage). IsLineFeedWith soh has_taken new b day) (sym shuts.bad) (record {
        dress = ap (λ (v : Vec ℕ). v.items) shuts.dress ∙ h.dress;
        bodies = h.bodies;
        has = subst (λ (b : B). has_taken b h.bodies) (sym shuts.bodies) h.has;
        is_bad = λ more. bad-line false old step fault _ found fails refl day h more (λ is. absurd (cc is));
      })
  stops-bad old new step fault found shuts true fails = λ day h.
      let few : old.count ≡ length h.bodies = h.counted in
      let same : (old.count + 1) - 1 ≡ old.count = omega arith in
      record {
        dress = ap (λ (v : Vec ℕ). v.items) shuts.dress ∙ h.dress;
        read = record {
          bodies = h.bodies;
          has = record {
            has = subst (λ (b : B). has_taken b h.bodies) (sym shuts.bodies) h.has;
            counted = ap (λ (b : Option BadMessage). count_before b new.count) shuts.bad ∙ same ∙ few;
          };
          read = subst (IsLineReading soh day h.bodies) (sym shuts.bad) (subst (λ (t : List ℕ). IsBadOnLines soh t h.bodies (record { place = old.count + 1; offset = old.base + (old.next + step); fault = fault })) (append-nil day)
              (bad-line true old step fault _ found fails refl day h [] (nothing-follows true)));
        };
      }

  -- a piece was handed on
  pub fed-lines : (old new : LineFeed B S) (piece day : List ℕ) → new.soh ≡ old.soh → new.held.items ≡ old.held.items ++ piece → new.base ≡ old.base → new.next ≡ old.next → new.searched ≡ old.searched → new.bodies ≡ old.bodies → new.count ≡ old.count
      → HasLines soh has_taken false old day → HasLines soh has_taken false new (day ++ piece)
  fed-lines old new piece day dress held base next searched bodies count h =
      let few = h.few in
      let within = h.within in
      let size = ap length held ∙ length-append old.held.items piece in
      record {
        dress = ap (λ (v : Vec ℕ). v.items) dress ∙ h.dress;
        some = h.some;
        line = h.line;
        before = h.before;
        dropped = h.dropped ∙ sym base;
        whole = ap (λ (t : List ℕ). t ++ piece) h.whole ∙ append_assoc h.before old.held.items piece ∙ ap (λ (t : List ℕ). h.before ++ t) (sym held);
        within = omega (arith, within, size, next);
        bodies = h.bodies;
        has = subst (λ (b : B). has_taken b h.bodies) (sym bodies) h.has;
        counted = count ∙ h.counted;
        few = omega (arith, few, base, next, count);
        left = h.left ++ piece;
        messages = λ more follows.
            subst (λ (t : List ℕ). IsLeftAfter soh t h.bodies ((h.left ++ piece) ++ more)) (sym (append_assoc day piece more))
            (subst (IsLeftAfter soh (day ++ (piece ++ more)) h.bodies) (sym (append_assoc h.left piece more)) (h.messages (piece ++ more) (λ is. absurd (cc is))));
        searched = subst (λ (k : ℕ). IsSearched (h.left ++ piece) (drop k new.held.items) new.searched) (sym next)
            (subst (λ (t : List ℕ). IsSearched (h.left ++ piece) t new.searched) (sym (ap (drop old.next) held ∙ drop-append-le old.next old.held.items piece within))
            (subst (IsSearched (h.left ++ piece) (unread old ++ piece)) (sym searched) (search-more h.left (unread old) old.searched h.searched piece)));
      }

  pub shut-more : (feed : LineFeed B S) (bad : BadMessage) (day piece : List ℕ) → feed.bad ≡ Some bad → IsLineFeedOf soh has_taken feed day → IsLineFeedOf soh has_taken feed (day ++ piece)
  shut-more feed bad day piece is stands =
      let was = lines-shut feed bad day is stands in
      subst (λ (b : Option BadMessage). IsLineFeedWith soh has_taken feed b (day ++ piece)) (sym is) (record {
        dress = was.dress;
        bodies = was.bodies;
        has = was.has;
        is_bad = λ more. subst (λ (t : List ℕ). IsBadOnLines soh t was.bodies bad) (sym (append_assoc day piece more)) (was.is_bad (piece ++ more));
      })

  pub fed-room : (old new : LineFeed B S) (piece : List ℕ) → old.bad ≡ None → HasRoom (IsLineFeedOf soh has_taken) old piece → ((day : List ℕ) → HasLines soh has_taken false old day → HasLines soh has_taken false new (day ++ piece)) → HasDay soh has_taken false new
  fed-room old new piece none room fed = record {
    day = room.bytes ++ piece;
    reads = fed room.bytes (lines-open old room.bytes none room.stands);
    within = omega (arith, room.room, length-append room.bytes piece);
  }

  -- at the end of the day
  pub end-lines : (feed : LineFeed B S) (day : List ℕ) → HasLines soh has_taken false feed day → HasLines soh has_taken true feed day
  end-lines feed day h = record {
    dress = h.dress;
    some = h.some;
    line = h.line;
    before = h.before;
    dropped = h.dropped;
    whole = h.whole;
    within = h.within;
    bodies = h.bodies;
    has = h.has;
    counted = h.counted;
    few = h.few;
    left = h.left;
    messages = λ more follows. h.messages more (λ is. absurd (cc is));
    searched = h.searched;
  }

  pub end-room : (feed : LineFeed B S) → feed.bad ≡ None → IsLineFeedWithinLimit soh has_taken feed → HasDay soh has_taken true feed
  end-room feed none within = record { day = within.day; reads = end-lines feed within.day (lines-open feed within.day none within.stands); within = within.within }

  pub end-shut : (feed : LineFeed B S) (bad : BadMessage) (day : List ℕ) → feed.bad ≡ Some bad → IsLineFeedOf soh has_taken feed day → EndsLines soh has_taken feed day
  end-shut feed bad day is stands =
      let was = lines-shut feed bad day is stands in
      let one = was.is_bad [] in
      let place = one.place in
      let few : bad.place - 1 ≡ length was.bodies = omega (arith, place) in
      record {
        dress = was.dress;
        read = record {
          bodies = was.bodies;
          has = record { has = was.has; counted = ap (λ (b : Option BadMessage). count_before b feed.count) is ∙ few };
          read = subst (IsLineReading soh day was.bodies) (sym is) (subst (λ (t : List ℕ). IsBadOnLines soh t was.bodies bad) (append-nil day) one);
        };
      }

  -- the reading, without the number of its bodies
  pub ends-reading : (feed : LineFeed B S) (day : List ℕ) → EndsLines soh has_taken feed day → HasReadBodies (has_taken feed.bodies) (IsLineReading soh day) feed.bad
  ends-reading feed day ends = record { bodies = ends.read.bodies; has = ends.read.has.has; read = ends.read.read }

-- a feed that has been handed nothing has read nothing
pub anew : {B S : Type 0} (soh : List ℕ) (feed : LineFeed B S) → feed.soh.items ≡ soh → is_soh_text soh ≡ true → feed.held.items ≡ [] → feed.base ≡ 0 → feed.next ≡ 0 → feed.searched ≡ 0 → feed.count ≡ 0 → feed.bad ≡ None → HasReadLines soh feed [] []
anew soh feed dress is held base next searched count none = nothing-read soh (λ taker handed. handed ≡ []) feed dress is held base next searched count none refl
