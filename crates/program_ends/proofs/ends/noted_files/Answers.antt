-- What is known of the wrapped shelf, what it has and has started, and so the files.
use Rattle.std.proofs.Common.{◌∙◌}
use Rattle.program_ends.proofs.ends.noted_files.Goals as goal

pub returns : goal.returns
returns g c = record {
  tells = c.new-2.ensures.tells ∙ c.new.ensures.tells;
  files = (λ which path. c.new-2.ensures.logs which path ∙ c.new.ensures.logs which path);
  slots = (λ which. c.new-2.ensures.slots which ∙ c.new.ensures.slots which);
}
