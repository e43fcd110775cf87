-- A Framer's room for what is still to be fed, through its steps.
use Rattle.std.proofs.Common.{ℕ, List, [], ◌∷◌, ◌++◌, arith}
use Rattle.std.proofs.lemmas.List.{length-append}
use Rattle.fix_framing.specs.declared.framer.Framer.{Framer}
use Rattle.fix_framing.specs.declared.framer.Step.{Step}
use Rattle.fix_framing.specs.declared.framer.Step.TheVariants.{Whole, Wait, Fault}
use Rattle.fix_framing.specs.Framing.{FramerHasRoom, FeedsPiece, KeepsFraming, StepSays}

-- once the front is fed there is room for what follows
pub room-fed : {H : Type 0} (hs : List (List ℕ)) (old new : Framer H) (piece rest : List ℕ) → FramerHasRoom hs old (piece ++ rest) → FeedsPiece hs old new piece → FramerHasRoom hs new rest
room-fed hs old new piece rest room feeds =
    let both = length-append piece rest in
    let all = length-append room.fed piece in
    let most = room.most in
    record { fed = room.fed ++ piece; frames = room.frames; stands = feeds room.fed room.frames room.stands; most = omega arith }

pub room-kept : {H : Type 0} (hs : List (List ℕ)) (old new : Framer H) (piece : List ℕ) → FramerHasRoom hs old piece → KeepsFraming hs old new → FramerHasRoom hs new piece
room-kept hs old new piece room keeps = record { fed = room.fed; frames = room.frames; stands = keeps room.fed room.frames room.stands; most = room.most }

-- no answer takes room
pub room-answered : {H : Type 0} (hs : List (List ℕ)) (old new : Framer H) (step : Step) (piece : List ℕ) → FramerHasRoom hs old piece → StepSays hs old new step → FramerHasRoom hs new piece
room-answered hs old new (Whole start body to) piece room answer =
    record { fed = room.fed; frames = room.frames ++ answer.frame ∷ []; stands = (answer.appends room.fed room.frames room.stands).0; most = room.most }
room-answered hs old new Wait piece room answer = room-kept hs old new piece room answer.keeps
room-answered hs old new (Fault at fault) piece room answer = rw answer.again room
