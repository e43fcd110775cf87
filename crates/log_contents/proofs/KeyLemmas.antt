-- Kinds as the keys of a set, each a vector, and as texts.
use Rattle.std.proofs.Common.{◌≡◌, ℕ, ◌+◌, ◌<◌, Bool, true, false, cond, Option, Some, None, Result, Ok, Err, List, [], ◌∷◌, ◌++◌, length, map, get_or, not, nat_lt, refl, sym, ap, subst, ◌∙◌}
use Rattle.std.specs.Prelude.{OnOk}
use Rattle.std.specs.Global.{Vec}
use Rattle.std.specs.List.{list_any, position, position_or_len}
use Rattle.std.proofs.lemmas.List.{length-map}
use Rattle.std.proofs.lemmas.List.Quantifiers.{position-Some}
use Rattle.audit_base.specs.Orders.{same_name}

-- the texts of some keys
abbrev texts : List (Vec ℕ) → List (List ℕ)
texts keys = map (λ (key : Vec ℕ). key.items) keys

pub any-texts : (kind : List ℕ) (keys : List (Vec ℕ)) → list_any (same_name kind) (texts keys) ≡ list_any (λ (key : Vec ℕ). same_name kind key.items) keys
any-texts kind [] = refl
any-texts kind (key ∷ keys) = rw (any-texts kind keys) refl

len-texts : (kind : List ℕ) (keys : List (Vec ℕ)) → position_or_len (λ (key : Vec ℕ). same_name kind key.items) keys ≡ position_or_len (same_name kind) (texts keys)
len-texts kind [] = refl
len-texts kind (key ∷ keys) = ap (λ (n : ℕ). cond (not (same_name kind key.items)) (1 + n) 0) (len-texts kind keys)

texts-more : (keys : List (Vec ℕ)) (key : Vec ℕ) → texts (keys ++ key ∷ []) ≡ texts keys ++ key.items ∷ []
texts-more [] key = refl
texts-more (first ∷ keys) key = ap (λ (l : List (List ℕ)). first.items ∷ l) (texts-more keys key)

-- the text at the index of a kind that was found
pub found-text : (kind : List ℕ) (keys : List (Vec ℕ)) (i : ℕ) → Some i ≡ position (λ (key : Vec ℕ). same_name kind key.items) keys
    → (i < length (texts keys)) × (same_name kind (get_or (texts keys) i []) ≡ true)
found-text kind keys i is =
    let long : length (texts keys) ≡ length keys = length-map keys (λ (key : Vec ℕ). key.items) in
    let there : position (same_name kind) (texts keys) ≡ Some i =
    ap (λ (n : ℕ). cond (nat_lt (position_or_len (same_name kind) (texts keys)) n) (Some (position_or_len (same_name kind) (texts keys))) None) long
    ∙ ap (λ (n : ℕ). cond (nat_lt n (length keys)) (Some n) None) (sym (len-texts kind keys)) ∙ sym is in
    let found = position-Some (same_name kind) (texts keys) i [] there in (found.0, found.1)

-- one key more
pub first-text : (kind : List ℕ) (keys new : List (Vec ℕ)) (text : Vec ℕ) → text.items ≡ kind → list_any (same_name kind) (texts keys) ≡ false
    → new ≡ cond (list_any (λ (key : Vec ℕ). same_name text.items key.items) keys) keys (keys ++ text ∷ []) → texts new ≡ texts keys ++ kind ∷ []
first-text kind keys new text is lacks added =
    let away : list_any (λ (key : Vec ℕ). same_name text.items key.items) keys ≡ false =
    subst (λ (t : List ℕ). list_any (λ (key : Vec ℕ). same_name t key.items) keys ≡ false) (sym is) (sym (any-texts kind keys) ∙ lacks) in
    ap texts (added ∙ ap (λ (b : Bool). cond b keys (keys ++ text ∷ [])) away) ∙ texts-more keys text ∙ ap (λ (t : List ℕ). texts keys ++ t ∷ []) is

-- what follows of two clauses of a call that succeeds
pub on-both : {S E P Q T : Type 0} (result : Result S E) → (P → Q → T) → OnOk result P → OnOk result Q → OnOk result T
on-both (Ok value) gives one other = gives one other
on-both (Err why) gives one other = tt
