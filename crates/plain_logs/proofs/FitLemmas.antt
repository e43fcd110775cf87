-- The bodies that are read of a day fit messages.
use Rattle.std.proofs.Common.{◌≡◌, ℕ, List, [], ◌∷◌, Option, Some, None, ap, sym, subst, ◌∙◌}
use Rattle.std.specs.Prelude.{All}
use Rattle.std.proofs.lemmas.List.{append-nil}
use Rattle.std.proofs.lemmas.List.Elements.{All-cons, All-nil}
use Rattle.fix_framing.specs.Frames.{body_of_with, IsFrameWith}
use Rattle.fix_framing.specs.Framing.{IsFramedWith}
use Rattle.fix_framing.specs.Headers.{any_version}
use Rattle.fix_framing.proofs.MessageLemmas.{IsFrameWith-body_of}
use Rattle.fix_days.specs.declared.faults.BadMessage.{BadMessage}
use Rattle.fix_days.specs.Framed.{bodies_of, HasBodies, IsTextReading}
use Rattle.fix_days.specs.Laws.{FitsMessage}
use Rattle.fix_days.specs.Lines.{IsLeftAfter}
use Rattle.fix_days.proofs.TextLemmas.{any-headers}
use Rattle.plain_logs.specs.Laws.{FramedBodiesFit, LineBodiesFit}

own-fits : (frame body : List ℕ) → IsFrameWith any_version frame body → FitsMessage (body_of_with any_version frame)
own-fits frame body is =
    let same : body_of_with any_version frame ≡ body = ap (body_of_with any_version) (sym (append-nil frame)) ∙ IsFrameWith-body_of any_version frame body [] any-headers is in
    subst FitsMessage (sym same) is.bounded

frames-fit : (text : List ℕ) (frames : List (List ℕ)) → IsFramedWith any_version text frames → All FitsMessage (bodies_of frames)
frames-fit text [] framed = All-nil FitsMessage
frames-fit text (frame ∷ frames) framed =
    All-cons FitsMessage (body_of_with any_version frame) (bodies_of frames) (own-fits frame framed.1 framed.4) (frames-fit framed.2 frames framed.6)

has-fits : (text : List ℕ) (bodies : List (List ℕ)) → HasBodies text bodies → All FitsMessage bodies
has-fits text bodies has = subst (All FitsMessage) (sym has.are) (frames-fit text has.frames has.framed)

text-fits : (start : ℕ) (text : List ℕ) (bodies : List (List ℕ)) (bad : Option BadMessage) → IsTextReading start text bodies bad → All FitsMessage bodies
text-fits start text bodies None is = has-fits text bodies is
text-fits start text bodies (Some bad) is = has-fits is.front bodies is.before

pub framed-fit : FramedBodiesFit
framed-fit day bodies bad is = text-fits _ _ bodies bad is

left-fits : (soh day : List ℕ) (bodies : List (List ℕ)) (left : List ℕ) → IsLeftAfter soh day bodies left → All FitsMessage bodies
left-fits soh day [] left is = All-nil FitsMessage
left-fits soh day (body ∷ bodies) left is = All-cons FitsMessage body bodies is.4.message.bounded (left-fits soh is.2 bodies left is.5)

pub lines-fit : LineBodiesFit
lines-fit soh day bodies None is = left-fits soh day bodies is.left is.messages
lines-fit soh day bodies (Some bad) is = left-fits soh day bodies is.left is.messages
