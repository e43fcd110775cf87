-- The good messages of a day on lines.
use Rattle.std.proofs.Common.{◌≡◌, ℕ, ◌+◌, Option, Some, None, List, [], ◌∷◌, ◌++◌, length, map, refl, sym, subst, ap, ◌∙◌}
use Rattle.std.specs.Prelude.{All}
use Rattle.std.specs.List.{flat_map}
use Rattle.std.proofs.lemmas.Grind.{flat_map-append}
use Rattle.std.proofs.lemmas.List.{append-nil}
use Rattle.std.proofs.lemmas.List.Elements.{All-cons, All-head, All-nil, All-tail}
use Rattle.fix_days.specs.declared.faults.BadMessage.{BadMessage}
use Rattle.fix_days.specs.Laws.{FitsMessage, GoodDaysAreReadAlike, WrittenDaysAreRead}
use Rattle.fix_days.specs.LinesAlone.{body_of_good, DayMessage, lines_of, LinesSay, messages_of_line}
use Rattle.fix_days.specs.LinesAlone.DayMessage.{Bad, Good}
use Rattle.plain_logs.specs.BadReports.{items_if_bad}
use Rattle.plain_logs.specs.Laws.{GoodDaysAreWrittenAlike, GoodMessagesAreRead, LineBodiesFit}

pub good-again : (bodies : List (List ℕ)) → flat_map body_of_good (map Good bodies) ≡ bodies
good-again [] = refl
good-again (body ∷ bodies) = ap (λ (t : List (List ℕ)). body ∷ t) (good-again bodies)

-- of good messages nothing is reported
pub none-reported : (bodies : List (List ℕ)) → flat_map items_if_bad (map Good bodies) ≡ []
none-reported [] = refl
none-reported (body ∷ bodies) = none-reported bodies

good-of-line : (count offset : ℕ) (bodies : List (List ℕ)) (bad : Option BadMessage) → flat_map body_of_good (messages_of_line count offset bodies bad) ≡ bodies
good-of-line count offset bodies None = good-again bodies
good-of-line count offset bodies (Some bad) =
    flat_map-append body_of_good (map Good bodies) (Bad (count + bad.place) (offset + bad.offset) bad.fault ∷ []) ∙ append-nil (flat_map body_of_good (map Good bodies)) ∙ good-again bodies

All-both : {X : Type 0} (P : X → Type 0) (xs ys : List X) → All P xs → All P ys → All P (xs ++ ys)
All-both P [] ys first later = later
All-both P (x ∷ xs) ys first later = All-cons P x (xs ++ ys) (All-head P x xs first) (All-both P xs ys (All-tail P x xs first) later)

lines-fit : LineBodiesFit → (soh : List ℕ) (count offset : ℕ) (lines : List (List ℕ)) (messages : List DayMessage) → LinesSay soh count offset lines messages → All FitsMessage (flat_map body_of_good messages)
lines-fit fit soh count offset [] messages is = subst (λ (t : List DayMessage). All FitsMessage (flat_map body_of_good t)) (sym is) (All-nil FitsMessage)
lines-fit fit soh count offset (line ∷ lines) messages is =
    let says = is.2 in
    let here : flat_map body_of_good is.0 ≡ says.bodies = ap (flat_map body_of_good) says.are ∙ good-of-line count offset says.bodies says.bad in
    let first = subst (All FitsMessage) (sym here) (fit soh line says.bodies says.bad says.read) in
    let later = lines-fit fit soh (count + length is.0) (offset + (length line + 1)) lines is.1 is.3 in
    let whole : flat_map body_of_good messages ≡ flat_map body_of_good is.0 ++ flat_map body_of_good is.1 = ap (flat_map body_of_good) is.4 ∙ flat_map-append body_of_good is.0 is.1 in
    subst (All FitsMessage) (sym whole) (All-both FitsMessage (flat_map body_of_good is.0) (flat_map body_of_good is.1) first later)

pub good-read : LineBodiesFit → WrittenDaysAreRead → GoodMessagesAreRead
good-read fit written soh day bodies (Some bad) is = absurd is
good-read fit written soh day bodies None is =
    let same = is.are ∙ append-nil (flat_map body_of_good is.messages) in
    written bodies (subst (All FitsMessage) (sym same) (lines-fit fit soh 0 0 (lines_of day) is.messages is.read))

pub good-alike : GoodDaysAreReadAlike → GoodDaysAreWrittenAlike
good-alike alike soh day bodies may is = record {
  messages = map Good bodies;
  read = alike soh day bodies may is;
  are = sym (append-nil (flat_map body_of_good (map Good bodies)) ∙ good-again bodies);
}
