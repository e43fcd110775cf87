use Rattle.fix_framing.proofs.MessageLemmas.{IsFrameWith-no_fault}
use Rattle.fix_framing.proofs.StayLemmas.{fault-stays}
use Rattle.fix_framing.proofs.UniqueLemmas.{prefix-cut}
use Rattle.fix_framing.proofs.laws.frames_are_judged_once.Goals as goal

pub returns : goal.returns
returns c = record {
  cut = λ headers front more body. prefix-cut headers front more body;
  message = λ headers frame body more. IsFrameWith-no_fault headers frame body more;
  stays = λ headers text more fault. fault-stays headers text more fault;
}
