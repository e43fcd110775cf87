-- The steps of a call, one after another: what they leave, what they read, and whose faults rise.
use Rattle.std.proofs.Common.{◌≡◌, ◌∙◌, sym, ap, subst, refl, inl, inr, ℕ, ◌≤◌, List, [], ◌∷◌, ◌++◌, Option, None, Some, true, append_assoc, append-nil, arith}
use Rattle.audit_base.specs.declared.terms.Which.{Which}
use Rattle.audit_base.specs.declared.terms.Which.TheVariants.{Orders, Trades}
use Rattle.log_source.specs.Sources.{Slot, RoseOrIsFull}
use Rattle.command_run.specs.Commands.{Command}
use Rattle.command_run.specs.Runs.{HoldsLog, HoldsNeededLogs, HoldsNext, ReadsNext, ReadsOneByOne}
use Rattle.log_verdict.specs.Steps.{Reading, LogStep, StepsLead, FaultsNeverFall, with_slot, step_of}

-- what is in a slot after it was changed
with_slot-same : (slots : Which → Slot) (log : Which) (slot : Slot) → with_slot slots log slot log ≡ slot
with_slot-same slots Orders slot = refl
with_slot-same slots Trades slot = refl

-- a change that leaves the faults of its slot no fewer leaves those of no slot fewer
with_slot-later : (slots : Which → Slot) (log : Which) (slot : Slot) (other : Which) → (slots log).faults ≤ slot.faults
    → (slots other).faults ≤ (with_slot slots log slot other).faults
with_slot-later slots Orders slot Orders later = later
with_slot-later slots Orders slot Trades later = omega arith
with_slot-later slots Trades slot Orders later = omega arith
with_slot-later slots Trades slot Trades later = later

-- the order log was started, and then the trade log
pub two-lead : (r : Reading) (orders trades : List ℕ) → FaultsNeverFall r → StepsLead r.before (step_of r Orders orders ∷ step_of r Trades trades ∷ []) r.after
two-lead r orders trades later = (record { at = refl; later = later Orders }, (record { at = refl; later = later Trades }, ends))
  where
    ends : (log : Which) → r.after log ≡ with_slot (with_slot r.before Orders (r.after Orders)) Trades (r.after Trades) log
    ends Orders = refl
    ends Trades = refl

-- faults that rose later rose since before
pub rose-earlier : (a b c : ℕ) → a ≤ b → RoseOrIsFull b c → RoseOrIsFull a c
rose-earlier a b c le (inl lt) = inl (omega arith)
rose-earlier a b c le (inr top) = inr top

-- faults that rise at the last step rise in the call
pub rose-in : (slots : Which → Slot) (steps : List LogStep) (last : LogStep) (after : Which → Slot) → StepsLead slots (steps ++ last ∷ []) after
    → RoseOrIsFull last.before.faults last.after.faults → RoseOrIsFull (slots last.log).faults (after last.log).faults
rose-in slots [] last after lead rose =
    let ends : after last.log ≡ last.after = lead.1 last.log ∙ with_slot-same slots last.log last.after in
    subst (λ (s : Slot). RoseOrIsFull (slots last.log).faults s.faults) (sym ends)
    (subst (λ (s : Slot). RoseOrIsFull s.faults last.after.faults) lead.0.at rose)
rose-in slots (step ∷ steps) last after lead rose =
    let begins : (slots step.log).faults ≤ step.after.faults = subst (λ (s : Slot). s.faults ≤ step.after.faults) lead.0.at lead.0.later in
    rose-earlier (slots last.log).faults ((with_slot slots step.log step.after) last.log).faults (after last.log).faults
    (with_slot-later slots step.log step.after last.log begins)
    (rose-in (with_slot slots step.log step.after) steps last after lead.1 rose)

some-none : {A : Type 0} (o : Option A) (x : A) → o ≡ None → o ≡ Some x → ⊥
some-none o x none some = cc

same-next : (o : Option (Which × List ℕ)) (a b : Which × List ℕ) → o ≡ Some a → o ≡ Some b → a ≡ b
same-next o a b x y = cc

same-bytes : (log : Option (List ℕ)) (a b : List ℕ) → log ≡ Some a → log ≡ Some b → a ≡ b
same-bytes log a b x y = cc

-- the log that is held is the log that was read
held-read : (r : Reading) (command : Command) (read : List (List ℕ)) (step : LogStep) (bytes held : List ℕ) → r.tells ≡ true → ReadsNext r command read step bytes
    → HoldsNext r command read held → bytes ≡ held
held-read r command read step bytes held tells reads holds =
    let same = same-next (command.next read) (holds.log, holds.name) (step.log, step.name) holds.next reads.next in
    same-bytes (r.log_of step.log step.name) bytes held (reads.read.known tells)
    (subst (λ (p : Which × List ℕ). r.log_of p.0 p.1 ≡ Some held) same holds.holds.there)

-- after logs that were read the shelf holds those that the command needs still, which are the
-- rest of all
pub held-after : (r : Reading) (command : Command) (read : List (List ℕ)) (steps : List LogStep) (logs held : List (List ℕ)) → r.tells ≡ true
    → ReadsOneByOne r command read steps logs → HoldsNeededLogs r command read held → (next : Which × List ℕ) → command.next logs ≡ Some next
    → (rest : List (List ℕ)) × HoldsNeededLogs r command logs rest × (read ++ held ≡ logs ++ rest)
held-after r command read [] logs held tells reads holds next is =
    (held, subst (λ (x : List (List ℕ)). HoldsNeededLogs r command x held) (sym reads) holds, ap (λ (x : List (List ℕ)). x ++ held) (sym reads))
held-after r command read (step ∷ steps) logs [] tells reads holds next is =
    absurd (some-none (command.next read) (step.log, step.name) holds reads.1.next)
held-after r command read (step ∷ steps) logs (bytes ∷ held) tells reads holds next is =
    let same : reads.0 ≡ bytes = held-read r command read step reads.0 bytes tells reads.1 holds.0 in
    let left = held-after r command (read ++ reads.0 ∷ []) steps logs held tells reads.2
    (subst (λ (x : List ℕ). HoldsNeededLogs r command (read ++ x ∷ []) held) (sym same) holds.1) next is in
    (left.0, left.1, sym (append_assoc read (bytes ∷ []) held) ∙ ap (λ (x : List ℕ). (read ++ x ∷ []) ++ held) (sym same) ∙ left.2)

-- the next log is held
pub held-next : (r : Reading) (command : Command) (logs rest : List (List ℕ)) (next : Which × List ℕ) → command.next logs ≡ Some next → HoldsNeededLogs r command logs rest
    → (bytes : List ℕ) × HoldsLog r next.0 next.1 bytes
held-next r command logs [] next is holds = absurd (some-none (command.next logs) next holds is)
held-next r command logs (bytes ∷ rest) next is holds =
    let same = same-next (command.next logs) (holds.0.log, holds.0.name) next holds.0.next is in
    (bytes, subst (λ (p : Which × List ℕ). HoldsLog r p.0 p.1 bytes) same holds.0.holds)

-- what is held under the name of the next log is the first of the rest
pub held-first : (r : Reading) (command : Command) (logs : List (List ℕ)) (bytes : List ℕ) (next : Which × List ℕ) → command.next logs ≡ Some next → HoldsNext r command logs bytes
    → r.log_of next.0 next.1 ≡ Some bytes
held-first r command logs bytes next is holds =
    subst (λ (p : Which × List ℕ). r.log_of p.0 p.1 ≡ Some bytes) (same-next (command.next logs) (holds.log, holds.name) next holds.next is) holds.holds.there

-- a command that needs no log is held none
pub held-none : (r : Reading) (command : Command) (held : List (List ℕ)) → command.next [] ≡ None → HoldsNeededLogs r command [] held → held ≡ []
held-none r command [] none holds = refl
held-none r command (bytes ∷ held) none holds = absurd (some-none (command.next []) (holds.0.log, holds.0.name) none holds.0.next)

-- a command that needs a log is held one
pub held-some : (r : Reading) (command : Command) (logs : List (List ℕ)) (next : Which × List ℕ) → command.next logs ≡ Some next → HoldsNeededLogs r command logs [] → ⊥
held-some r command logs next is holds = some-none (command.next logs) next holds is

-- the logs that were read are those that the shelf holds
pub held-all : (r : Reading) (command : Command) (read : List (List ℕ)) (steps : List LogStep) (logs held : List (List ℕ)) → r.tells ≡ true
    → ReadsOneByOne r command read steps logs → command.next logs ≡ None → HoldsNeededLogs r command read held → logs ≡ read ++ held
held-all r command read [] logs [] tells reads all holds = reads ∙ sym (append-nil read)
held-all r command read [] logs (bytes ∷ held) tells reads all holds =
    let none : command.next read ≡ None = subst (λ (x : List (List ℕ)). command.next x ≡ None) reads all in
    absurd (some-none (command.next read) (holds.0.log, holds.0.name) none holds.0.next)
held-all r command read (step ∷ steps) logs [] tells reads all holds =
    absurd (some-none (command.next read) (step.log, step.name) holds reads.1.next)
held-all r command read (step ∷ steps) logs (bytes ∷ held) tells reads all holds =
    let same : reads.0 ≡ bytes = held-read r command read step reads.0 bytes tells reads.1 holds.0 in
    let rest : logs ≡ (read ++ reads.0 ∷ []) ++ held = held-all r command (read ++ reads.0 ∷ []) steps logs held tells reads.2 all
    (subst (λ (x : List ℕ). HoldsNeededLogs r command (read ++ x ∷ []) held) (sym same) holds.1) in
    rest ∙ ap (λ (x : List ℕ). (read ++ x ∷ []) ++ held) same ∙ append_assoc read (bytes ∷ []) held
