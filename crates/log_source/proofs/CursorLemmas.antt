-- The newest log of a name, as logs are added at the end.
use Rattle.std.proofs.Common.{◌≡◌, ℕ, suc, zero, ◌+◌, ◌<◌, Bool, true, false, List, [], ◌∷◌, ◌++◌, length, Some, None, refl, sym, ap, ◌∙◌, subst, take, get_or, add-one, arith, length-append}
use Rattle.std.specs.Prelude.{Option, drop, reverse, find, slice_get, if◌then◌else◌, string_bytes, MatchOption}
use Rattle.std.specs.Option.{option_map, option_map_or}
use Rattle.std.proofs.Math.Seq.{take-suc}
use Rattle.std.proofs.lemmas.Slice.Eq.{bytes_eq-Decides}
use Rattle.std.proofs.lemmas.List.{reverse-append, length-take-le}
use Rattle.log_source.specs.Cursors.{log_has_name, newest_log_bytes, log_bytes_at, cursor_state, IsCursorInside}
use Rattle.log_source.specs.Sources.{any_bytes}
use Rattle.log_source.specs.declared.cursors.NamedLog.{NamedLog}
use Rattle.log_source.specs.declared.cursors.Cursor.{Cursor}

-- the log at this index is the newest of the name, or there is none
abbrev pub IsNewest : List NamedLog → List ℕ → Option ℕ → Type 0
IsNewest logs name found = MatchOption found (newest_log_bytes logs name ≡ None) (λ i. (i < length logs) × (newest_log_bytes logs name ≡ Some (log_bytes_at logs i)))

newest_first : (name : List ℕ) (log : NamedLog) (rest : List NamedLog) (b : Bool) → b ≡ log_has_name name log
    → option_map (λ (l : NamedLog). l.bytes.items) (find (log_has_name name) (log ∷ rest)) ≡ (if b then Some log.bytes.items else option_map (λ (l : NamedLog). l.bytes.items) (find (log_has_name name) rest))
newest_first name log rest true e = rw (← e) refl
newest_first name log rest false e = rw (← e) refl

-- a log that is added is the newest of its name, and of no other
pub newest-more : (logs : List NamedLog) (log : NamedLog) (name : List ℕ) → newest_log_bytes (logs ++ log ∷ []) name ≡ (if log_has_name name log then Some log.bytes.items else newest_log_bytes logs name)
newest-more logs log name = rw (reverse-append logs (log ∷ [])) (newest_first name log (reverse logs) (log_has_name name log) refl)

slice_get-front : (logs more : List NamedLog) (i : ℕ) → i < length logs → slice_get (logs ++ more) i ≡ slice_get logs i
slice_get-front [] more i h = absurd (omega arith)
slice_get-front (x ∷ xs) more zero h = refl
slice_get-front (x ∷ xs) more (suc i) h = slice_get-front xs more i (omega arith)

slice_get-seam : (logs : List NamedLog) (log : NamedLog) (more : List NamedLog) → slice_get (logs ++ log ∷ more) (length logs) ≡ Some log
slice_get-seam [] log more = refl
slice_get-seam (x ∷ xs) log more = slice_get-seam xs log more

-- the bytes of a log that is there stay as others are added
pub bytes_at-front : (logs more : List NamedLog) (i : ℕ) → i < length logs → log_bytes_at (logs ++ more) i ≡ log_bytes_at logs i
bytes_at-front logs more i h = ap (λ (o : Option NamedLog). option_map_or (λ (l : NamedLog). l.bytes.items) o []) (slice_get-front logs more i h)

pub bytes_at-seam : (logs : List NamedLog) (log : NamedLog) → log_bytes_at (logs ++ log ∷ []) (length logs) ≡ log.bytes.items
bytes_at-seam logs log = ap (λ (o : Option NamedLog). option_map_or (λ (l : NamedLog). l.bytes.items) o []) (slice_get-seam logs log [])

more_named : (logs : List NamedLog) (log : NamedLog) (name : List ℕ) → log_has_name name log ≡ true → IsNewest (logs ++ log ∷ []) name (Some (length logs))
more_named logs log name e = (
  omega (arith, length-append logs (log ∷ [])),
  newest-more logs log name ∙ ap (λ (b : Bool). if b then Some log.bytes.items else newest_log_bytes logs name) e ∙ ap Some (sym (bytes_at-seam logs log)),
)

more_other : (logs : List NamedLog) (log : NamedLog) (name : List ℕ) (found : Option ℕ) → log_has_name name log ≡ false → IsNewest logs name found → IsNewest (logs ++ log ∷ []) name found
more_other logs log name None e h = newest-more logs log name ∙ ap (λ (b : Bool). if b then Some log.bytes.items else newest_log_bytes logs name) e ∙ h
more_other logs log name (Some i) e h = (
  omega (arith, h.0, length-append logs (log ∷ [])),
  newest-more logs log name ∙ ap (λ (b : Bool). if b then Some log.bytes.items else newest_log_bytes logs name) e ∙ h.1 ∙ ap Some (sym (bytes_at-front logs (log ∷ []) i h.0)),
)

-- the search for the newest goes one log on
pub IsNewest-more : (logs : List NamedLog) (log : NamedLog) (name : List ℕ) (found : Option ℕ) (b : Bool) → log_has_name name log ≡ b → IsNewest logs name found
    → IsNewest (logs ++ log ∷ []) name (if b then Some (length logs) else found)
IsNewest-more logs log name found true e h = more_named logs log name e
IsNewest-more logs log name found false e h = more_other logs log name found e h

left-more : (logs more : List NamedLog) (i at : ℕ) (started : Bool) → (started ≡ true → i < length logs)
    → (if started then drop at (log_bytes_at (logs ++ more) i) else []) ≡ (if started then drop at (log_bytes_at logs i) else [])
left-more logs more i at true within = ap (drop at) (bytes_at-front logs more i (within refl))
left-more logs more i at false within = refl

-- the state of a cursor stays as logs are added
pub cursor_state-more : (logs more : List NamedLog) (cursor : Cursor) → IsCursorInside logs cursor → cursor_state (logs ++ more) cursor ≡ cursor_state logs cursor
cursor_state-more logs more cursor within =
    ap (λ (left : List ℕ). record { started = cursor.started; left = Some left; taken = cursor.at; gave = any_bytes; starts = cursor.starts; faults = cursor.faults }) (left-more logs more cursor.log cursor.at cursor.started within)

front_next : (logs : List NamedLog) (i : ℕ) (log : NamedLog) → i < length logs → log ≡ get_or logs i log → take (i + 1) logs ≡ take i logs ++ log ∷ []
front_next logs i log h e =
    ap (λ (n : ℕ). take n logs) (add-one i) ∙ take-suc logs i log h ∙ ap (λ (x : NamedLog). take i logs ++ x ∷ []) (sym e)

-- the search for the newest goes one index on
pub IsNewest-next : (logs : List NamedLog) (i : ℕ) (log : NamedLog) (name : List ℕ) (found : Option ℕ) (b : Bool) → i < length logs → log ≡ get_or logs i log → log_has_name name log ≡ b
    → IsNewest (take i logs) name found → IsNewest (take (i + 1) logs) name (if b then Some i else found)
IsNewest-next logs i log name found b h e named newest_log_bytes =
    let size : length (take i logs) ≡ i = length-take-le i logs (omega (arith, h)) in
    let more = IsNewest-more (take i logs) log name found b named newest_log_bytes in
    let at_index = subst (λ (n : ℕ). IsNewest (take i logs ++ log ∷ []) name (if b then Some n else found)) size more in
    subst (λ (l : List NamedLog). IsNewest l name (if b then Some i else found)) (sym (front_next logs i log h e)) at_index

-- a log that is put is the newest of its name
pub newest-put : (logs : List NamedLog) (log : NamedLog) → newest_log_bytes (logs ++ log ∷ []) (string_bytes log.name) ≡ Some (log.bytes.items)
newest-put logs log =
    newest-more logs log (string_bytes log.name)
    ∙ ap (λ (b : Bool). if b then Some log.bytes.items else newest_log_bytes logs (string_bytes log.name)) ((bytes_eq-Decides (string_bytes log.name) (string_bytes log.name)).1 refl)

-- and of no other name
pub newest-other : (logs : List NamedLog) (log : NamedLog) (name : List ℕ) → (name ≡ string_bytes log.name → ⊥) → newest_log_bytes (logs ++ log ∷ []) name ≡ newest_log_bytes logs name
newest-other logs log name other =
    newest-more logs log name
    ∙ ap (λ (b : Bool). if b then Some log.bytes.items else newest_log_bytes logs name) (not_named (log_has_name name log) (λ e. other (sym ((bytes_eq-Decides (string_bytes log.name) name).0 e))))
  where
    not_named : (b : Bool) → (b ≡ true → ⊥) → b ≡ false
    not_named true h = absurd (h refl)
    not_named false h = refl

-- what a log that was put leaves of the names, and of a cursor
pub put_given : (old new : List NamedLog) (log : NamedLog) → new ≡ old ++ log ∷ [] → newest_log_bytes new (string_bytes log.name) ≡ Some log.bytes.items
put_given old new log e = ap (λ (l : List NamedLog). newest_log_bytes l (string_bytes log.name)) e ∙ newest-put old log

pub put_others : (old new : List NamedLog) (log : NamedLog) → new ≡ old ++ log ∷ [] → (name : List ℕ) → (name ≡ string_bytes log.name → ⊥) → newest_log_bytes new name ≡ newest_log_bytes old name
put_others old new log e name other = ap (λ (l : List NamedLog). newest_log_bytes l name) e ∙ newest-other old log name other

pub put_slots : (old new : List NamedLog) (log : NamedLog) → new ≡ old ++ log ∷ [] → (cursor : Cursor) → IsCursorInside old cursor → cursor_state new cursor ≡ cursor_state old cursor
put_slots old new log e cursor within = ap (λ (l : List NamedLog). cursor_state l cursor) e ∙ cursor_state-more old (log ∷ []) cursor within
