-- The collector that writes messages.
use Rattle.std.specs.Prelude.{◌≡◌, ℕ, All, List, length}
use Rattle.std.specs.List.{flat_map}
use Rattle.written_logs.specs.declared.message_log.MessageLog.{MessageLog}

-- The log has been handed these records, whose parts are in their forms, and their messages are its
-- text.
pub record IsMessageLog {R : Type 0} (message : R → List ℕ) (in_form : R → Type 0)
    (log : MessageLog R) (entries : List R) : Type 0 where
  pub count : log.count ≡ length entries
  pub text_is : log.text.items ≡ flat_map message entries
  pub forms : All in_form entries
