-- Each record of a log has at least nine of its bytes, since it has a message.
use Rattle.std.proofs.Common.{◌≡◌, ℕ, ◌+◌, ◌*◌, ◌≤◌, Option, Some, None, Result, Ok, Err, List, [], ◌∷◌, ◌++◌, length, refl, ap, ◌∙◌, arith}
use Rattle.std.specs.Prelude.{IfOk}
use Rattle.std.specs.List.{flat_map}
use Rattle.std.specs.Option.{option_to_list}
use Rattle.std.proofs.lemmas.List.{length-append, length-map}
use Rattle.audit_base.specs.declared.faults.Reason.{Reason}
use Rattle.audit_base.specs.declared.faults.BadPlace.{BadPlace}
use Rattle.fix_fields.specs.Grammar.{TagValue}
use Rattle.log_source.specs.Collectors.{HasNineBytesEach}
use Rattle.fix_messages.specs.declared.meanings.MessageFault.{MessageFault}
use Rattle.fix_messages.specs.Bodies.{body_says}
use Rattle.fix_messages.specs.Logs.{AreMessages, IsGoodFixLog, read_fix_log}
use Rattle.fix_messages.proofs.LogLemmas.{frame-size}
use Rattle.fix_messages.proofs.ReadingLemmas.{only_reading}
use Rattle.fix_messages.proofs.SayLemmas.{bodies-say}

messages-size : (text : List ℕ) (bodies : List (List ℕ)) → AreMessages text bodies → 9 * length bodies ≤ length text
messages-size text [] messages = omega arith
messages-size text (body ∷ bodies) messages =
    let size : length text ≡ length messages.0 + (length messages.1 + length messages.2) =
    ap length messages.5 ∙ length-append messages.0 (messages.1 ++ messages.2) ∙ ap (λ (k : ℕ). length messages.0 + k) (length-append messages.1 messages.2) in
    omega (arith, size, frame-size messages.1 body messages.4, messages-size messages.2 bodies messages.6)

-- a message means no more than one record
records-few : {R : Type 0} (meanings : List (Option R)) → length (flat_map option_to_list meanings) ≤ length meanings
records-few [] = omega arith
records-few (None ∷ meanings) = omega (arith, records-few meanings)
records-few (Some entry ∷ meanings) = omega (arith, records-few meanings)

all-ok : {R : Type 0} (reading : Result (List R) BadPlace) (holds : List R → Type 0) → ((entries : List R) → reading ≡ Ok entries → holds entries) → IfOk reading holds
all-ok (Ok entries) holds all = all entries refl
all-ok (Err bad) holds all = tt

module _ {R : Type 0} (meaning : List TagValue → Result (Option R) MessageFault) where
  good-size : (log : List ℕ) (entries : List R) → IsGoodFixLog meaning log entries → 9 * length entries ≤ length log
  good-size log entries good =
      let said = ap length (bodies-say meaning good.bodies good.meanings good.good) in
      let bodies = length-map good.bodies (body_says meaning) in
      let meanings = length-map {B = Result (Option R) Reason} good.meanings Ok in
      omega (arith, said, bodies, meanings, ap length good.records, records-few good.meanings, messages-size log good.bodies good.messages)

  pub log_nine : (log : List ℕ) → IfOk (read_fix_log meaning log) (λ entries. HasNineBytesEach entries log)
  log_nine log = all-ok (read_fix_log meaning log) (λ entries. HasNineBytesEach entries log) (λ entries is. good-size log entries (((only_reading meaning log).good entries).1 is))
