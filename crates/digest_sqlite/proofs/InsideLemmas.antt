-- Statements that run one after another in a transaction.
use Rattle.std.proofs.Common.{◌≡◌, ℕ, ◌+◌, ◌<◌, ◌⊎◌, inl, inr, List, [], ◌∷◌, ◌++◌, length, take, drop, get_or, Ok, Err, refl, sym, ap, ◌∙◌, subst, arith, append_assoc, append-nil}
use Rattle.std.specs.Prelude.{Result, IsTrue, MatchResult}
use Rattle.std.proofs.lemmas.List.{take_more, take-append-drop}
use Rattle.sqlite.specs.Held.{Held, state}
use Rattle.sqlite.specs.State.{State, HasCleanDisk, Survives, KeepsCommit, IsUnchanged, IsRolledBack, ExecutesInside}
use Rattle.sqlite.specs.declared.error.Error.{Error}
use Rattle.sqlite.proofs.StateLemmas.{survives_then}
use Rattle.sqlite_trees.specs.Tree.{Trees}
use Rattle.sqlite_trees.specs.declared.store.Store.{Ghosts}
use Rattle.sqlite_value.specs.Order.{Row}
use Rattle.digest_keeper.specs.declared.digested.DigestedCase.{DigestedCase}
use Rattle.digest_sqlite.specs.DigestRuns.{RefusesOne, RunsEach, RunsOn, RunsInside}
use Rattle.digest_sqlite.specs.DigestStatements.{SqlStatement, statement_of, adding_statements, adding_each}

pub keeps_unchanged : (a b : State) → IsUnchanged a b → KeepsCommit a b
keeps_unchanged a b same = record { was_open = λ _. same.0.was_open; committed = λ _. same.0.committed_is }

pub keeps_rolled_back : (a b : State) → IsRolledBack a b → KeepsCommit a b
keeps_rolled_back a b back = record { was_open = back.was_open; committed = λ is_open. (back.undone is_open).1 }

pub keeps_then : (a b c : State) → KeepsCommit a b → KeepsCommit b c → KeepsCommit a c
keeps_then a b c one two = record {
  was_open = λ is_open. one.was_open (two.was_open is_open);
  committed = λ is_open. two.committed is_open ∙ one.committed (two.was_open is_open);
}

pub keeps_same : (a : State) → KeepsCommit a a
keeps_same a = record { was_open = λ is_open. is_open; committed = λ _. refl }

module _ {S : Type 0} (g : Ghosts S) where
  each_then : (xs ys : List SqlStatement) (a b c : Held S) → RunsEach g xs a b → RunsEach g ys b c → RunsEach g (xs ++ ys) a c
  each_then [] ys a b c one two = subst (λ h. RunsEach g ys h c) one two
  each_then (x ∷ xs) ys a b c one two = (one.0, one.1, one.2, each_then xs ys one.0 b c one.3 two)

  pub on_nothing : (a : Held S) → IsTrue a.in_transaction → RunsOn g [] a a
  on_nothing a began = record { ran = refl; goes_on = began; kept = keeps_same (state g a) }

  pub on_then : (xs ys : List SqlStatement) (a b c : Held S) → RunsOn g xs a b → RunsOn g ys b c → RunsOn g (xs ++ ys) a c
  on_then xs ys a b c one two = record {
    ran = each_then xs ys a b c one.ran two.ran;
    goes_on = two.goes_on;
    kept = keeps_then (state g a) (state g b) (state g c) one.kept two.kept;
  }

  -- one statement
  pub run_ok : (text : List ℕ) (values : Row) (a b : Held S) (count : ℕ) → ExecutesInside 0 text values (state g a) (state g b) (Ok count)
      → RunsOn g (statement_of text values ∷ []) a b
  run_ok text values a b count h = record {
    ran = (b, count, h.0, refl);
    goes_on = h.1.mode;
    kept = record { was_open = λ _. h.1.was_open; committed = λ _. h.1.committed_is };
  }

  kept_at_err : (text : List ℕ) (values : Row) (a b : Held S) (error : Error) → ExecutesInside 0 text values (state g a) (state g b) (Err error) → KeepsCommit (state g a) (state g b)
  kept_at_err text values a b error (inl h) = undone h.1
    where
      undone : IsUnchanged (state g a) (state g b) ⊎ IsRolledBack (state g a) (state g b) → KeepsCommit (state g a) (state g b)
      undone (inl same) = keeps_unchanged (state g a) (state g b) same
      undone (inr back) = keeps_rolled_back (state g a) (state g b) back
  kept_at_err text values a b error (inr h) = keeps_unchanged (state g a) (state g b) h.2

  pub run_err : (text : List ℕ) (values : Row) (a b : Held S) (error : Error) → ExecutesInside 0 text values (state g a) (state g b) (Err error)
      → KeepsCommit (state g a) (state g b) × RefusesOne g (statement_of text values ∷ []) a error
  run_err text values a b error h = (
    kept_at_err text values a b error h,
    record { done = []; refused = statement_of text values; more = []; all = refl; mid = a; ran = refl; new = b; is = h },
  )

  -- the one that was refused is among more statements
  refuses_before : (xs ys : List SqlStatement) (a : Held S) (error : Error) → RefusesOne g xs a error → RefusesOne g (xs ++ ys) a error
  refuses_before xs ys a error r = record {
    done = r.done;
    refused = r.refused;
    more = r.more ++ ys;
    all = ap (λ zs. zs ++ ys) r.all ∙ append_assoc r.done (r.refused ∷ r.more) ys;
    mid = r.mid;
    ran = r.ran;
    new = r.new;
    is = r.is;
  }

  refuses_after : (xs ys : List SqlStatement) (a b : Held S) (error : Error) → RunsEach g xs a b → RefusesOne g ys b error → RefusesOne g (xs ++ ys) a error
  refuses_after xs ys a b error ran r = record {
    done = xs ++ r.done;
    refused = r.refused;
    more = r.more;
    all = ap (λ zs. xs ++ zs) r.all ∙ sym (append_assoc xs r.done (r.refused ∷ r.more));
    mid = r.mid;
    ran = each_then xs r.done a b r.mid ran r.ran;
    new = r.new;
    is = r.is;
  }

  pub stops_before : (xs ys : List SqlStatement) (a b : Held S) (error : Error) → KeepsCommit (state g a) (state g b) × RefusesOne g xs a error
      → KeepsCommit (state g a) (state g b) × RefusesOne g (xs ++ ys) a error
  stops_before xs ys a b error stopped = (stopped.0, refuses_before xs ys a error stopped.1)

  -- statements after others
  pub inside_then : {T : Type 0} (P : Trees → Type 0) (xs ys : List SqlStatement) (a b c : Held S) (result : Result T Error) → (HasCleanDisk (state g b) → IsTrue a.in_transaction → RunsOn g xs a b)
      → Survives (state g b) (state g c) P → RunsInside g ys b c result → RunsInside g (xs ++ ys) a c result
  inside_then {T} P xs ys a b c result one survives two clean began =
      let first : RunsOn g xs a b = one (omega (arith, clean, survives.clean)) began in
      joined result (two clean first.goes_on) first
    where
      joined : (r : Result T Error) → MatchResult r (λ _. RunsOn g ys b c) (λ error. KeepsCommit (state g b) (state g c) × RefusesOne g ys b error) → RunsOn g xs a b
          → MatchResult r (λ _. RunsOn g (xs ++ ys) a c) (λ error. KeepsCommit (state g a) (state g c) × RefusesOne g (xs ++ ys) a error)
      joined (Ok x) last first = on_then xs ys a b c first last
      joined (Err e) last first = (keeps_then (state g a) (state g b) (state g c) first.kept last.0, refuses_after xs ys a b e first.ran last.1)

-- the statements that add one more case
adding_push : (filed : List DigestedCase) (one : DigestedCase) → adding_each (filed ++ one ∷ []) ≡ adding_each filed ++ adding_statements one
adding_push [] one = append-nil (adding_statements one)
adding_push (first ∷ filed) one = ap (λ more. adding_statements first ++ more) (adding_push filed one) ∙ sym (append_assoc (adding_statements first) (adding_each filed) (adding_statements one))

pub adding_more : (filed : List DigestedCase) (i : ℕ) (one : DigestedCase) → i < length filed → one ≡ get_or filed i one
    → adding_each (take (i + 1) filed) ≡ adding_each (take i filed) ++ adding_statements one
adding_more filed i one inside at =
    ap adding_each (take_more filed i one inside ∙ ap (λ r. take i filed ++ r ∷ []) (sym at)) ∙ adding_push (take i filed) one

adding_append : (some more : List DigestedCase) → adding_each (some ++ more) ≡ adding_each some ++ adding_each more
adding_append [] more = refl
adding_append (first ∷ some) more = ap (λ rest. adding_statements first ++ rest) (adding_append some more) ∙ sym (append_assoc (adding_statements first) (adding_each some) (adding_each more))

-- the statements of all cases are those of the cases so far, and those of the others
adding_in_parts : (filed : List DigestedCase) (n : ℕ) → adding_each filed ≡ adding_each (take n filed) ++ adding_each (drop n filed)
adding_in_parts filed n = ap adding_each (sym (take-append-drop n filed)) ∙ adding_append (take n filed) (drop n filed)

-- the database refused a statement of one case, after those of the cases before it had run
pub stops_at : {S : Type 0} (g : Ghosts S) (filed : List DigestedCase) (i : ℕ) (one : DigestedCase) (a b c : Held S) (error : Error) → i < length filed → one ≡ get_or filed i one
    → RunsOn g (adding_each (take i filed)) a b → KeepsCommit (state g b) (state g c) × RefusesOne g (adding_statements one) b error
    → KeepsCommit (state g a) (state g c) × RefusesOne g (adding_each filed) a error
stops_at g filed i one a b c error inside at first last =
    let so_far = refuses_after g (adding_each (take i filed)) (adding_statements one) a b error first.ran last.1 in
    let with_one = subst (λ statements. RefusesOne g statements a error) (sym (adding_more filed i one inside at)) so_far in (
      keeps_then (state g a) (state g b) (state g c) first.kept last.0,
      subst (λ statements. RefusesOne g statements a error) (sym (adding_in_parts filed (i + 1))) (refuses_before g (adding_each (take (i + 1) filed)) (adding_each (drop (i + 1) filed)) a error with_one),
    )

-- one call after another, neither of which commits
pub survives_both : (a b c : State) → Survives a b (λ _. ⊥) → Survives b c (λ _. ⊥) → Survives a c (λ _. ⊥)
survives_both a b c one two = survives_then a b c (λ _. ⊥) (λ _. ⊥) (λ _. ⊥) (λ _ db none. none) (λ _ db none. none) one two

-- nothing was done
pub survives_same : (a : State) (P : Trees → Type 0) → Survives a a P
survives_same a P = record {
  clean = omega arith;
  shield = λ h. h;
  counts = omega arith;
  limit = refl;
  closes = λ _ is_open. inl is_open;
  crash = λ _ db may. inl may;
}
