-- Members of a list, each with its number in it from 1 on, of which a test leaves some.
use Rattle.std.proofs.Common.{◌≡◌, ◌<◌, ◌≤◌, ◌+◌, ◌∙◌, ℕ, zero, suc, Bool, true, false, Some, List, [], ◌∷◌, ◌++◌, All, cond, length, take, get_or, append-nil, refl, sym, ap, arith}
use Rattle.std.specs.Prelude.{filter, map, slice_get}
use Rattle.std.specs.List.{enumerate_from}
use Rattle.std.proofs.lemmas.List.{get_or-take, length-take-le, take_all, take_more}
use Rattle.std.proofs.lemmas.List.Elements.{All-head, All-tail, filter-append}
use Rattle.std.proofs.lemmas.Option.{none-some, same_Some, slice_get_within, slice_get-get_or, get_or_from_slice_get}
use Rattle.audit_base.specs.Orders.{same_name}

-- what a test leaves of a list, with the numbers
abbrev pub left_of : {X : Type 0} → (ℕ × X → Bool) → List X → List (ℕ × X)
left_of test xs = filter test (enumerate_from 1 xs)

numbered-append : {X : Type 0} (n : ℕ) (xs ys : List X) → enumerate_from n (xs ++ ys) ≡ enumerate_from n xs ++ enumerate_from (n + length xs) ys
numbered-append n [] ys = let same : n ≡ n + 0 = omega arith in ap (λ (k : ℕ). enumerate_from k ys) same
numbered-append n (x ∷ xs) ys =
    let rest : enumerate_from (n + 1) (xs ++ ys) ≡ enumerate_from (n + 1) xs ++ enumerate_from (n + 1 + length xs) ys = numbered-append (n + 1) xs ys in
    let same : n + 1 + length xs ≡ n + suc (length xs) = omega arith in
    rw (rest, same) refl

-- One member more.

left-append : {X : Type 0} (test : ℕ × X → Bool) (xs : List X) (x : X) → left_of test (xs ++ x ∷ []) ≡ left_of test xs ++ filter test ((length xs + 1, x) ∷ [])
left-append {X} test xs x =
    let number : 1 + length xs ≡ length xs + 1 = omega arith in
    ap (filter test) (numbered-append 1 xs (x ∷ []))
    ∙ filter-append test (enumerate_from 1 xs) (enumerate_from (1 + length xs) (x ∷ []))
    ∙ ap (λ (n : ℕ). left_of test xs ++ filter test ((n, x) ∷ [])) number

pub left-more : {X : Type 0} (test : ℕ × X → Bool) (xs : List X) (x : X) → test (length xs + 1, x) ≡ true → left_of test (xs ++ x ∷ []) ≡ left_of test xs ++ (length xs + 1, x) ∷ []
left-more test xs x passes =
    left-append test xs x ∙ ap (λ (b : Bool). left_of test xs ++ cond b ((length xs + 1, x) ∷ []) []) passes

pub left-same : {X : Type 0} (test : ℕ × X → Bool) (xs : List X) (x : X) → test (length xs + 1, x) ≡ false → left_of test (xs ++ x ∷ []) ≡ left_of test xs
left-same test xs x fails =
    left-append test xs x ∙ ap (λ (b : Bool). left_of test xs ++ cond b ((length xs + 1, x) ∷ []) []) fails ∙ append-nil (left_of test xs)

-- where no member has this name nothing is left
pub none-left : {X : Type 0} (name_of : X → List ℕ) (name : List ℕ) (n : ℕ) (xs : List X) → All (λ (other : List ℕ). same_name other name ≡ false) (map name_of xs) → filter (λ (e : ℕ × X). same_name (name_of e.1) name) (enumerate_from n xs) ≡ []
none-left name_of name n [] others = refl
none-left {X} name_of name n (x ∷ xs) others =
    let first : same_name (name_of x) name ≡ false = All-head (λ (other : List ℕ). same_name other name ≡ false) (name_of x) (map name_of xs) others in
    let rest : filter (λ (e : ℕ × X). same_name (name_of e.1) name) (enumerate_from (n + 1) xs) ≡ [] =
    none-left name_of name (n + 1) xs (All-tail (λ (other : List ℕ). same_name other name ≡ false) (name_of x) (map name_of xs) others) in
    rw first rest

-- The member at an index of what is left.

-- it has this many members before it in the whole list, of which those are left that come before it
record IsLeftAt {X : Type 0} (test : ℕ × X → Bool) (n : ℕ) (xs : List X) (i p : ℕ) (x : X) : Type 0 where
  count : ℕ
  within : count < length xs
  at : p ≡ n + count
  passes : test (p, x) ≡ true
  before : filter test (enumerate_from n (take count xs)) ≡ take i (filter test (enumerate_from n xs))

-- by whether the first member is left
behind : {X : Type 0} (test : ℕ × X → Bool) (n : ℕ) (y : X) (ys : List X) (i p : ℕ) (x : X) (b : Bool) → test (n, y) ≡ b
    → IsLeftAt test (n + 1) ys i p x → (j : ℕ) → take j (cond b ((n, y) ∷ filter test (enumerate_from (n + 1) ys)) (filter test (enumerate_from (n + 1) ys))) ≡ cond b ((n, y) ∷ take i (filter test (enumerate_from (n + 1) ys))) (take i (filter test (enumerate_from (n + 1) ys)))
    → IsLeftAt test n (y ∷ ys) j p x
behind {X} test n y ys i p x b is rest j same = record {
  count = suc rest.count;
  within = omega (arith, rest.within);
  at = omega (arith, rest.at);
  passes = rest.passes;
  before =
      ap (λ (c : Bool). cond c ((n, y) ∷ filter test (enumerate_from (n + 1) (take rest.count ys))) (filter test (enumerate_from (n + 1) (take rest.count ys)))) is
      ∙ ap (λ (zs : List (ℕ × X)). cond b ((n, y) ∷ zs) zs) rest.before
      ∙ sym same
      ∙ ap (λ (c : Bool). take j (cond c ((n, y) ∷ filter test (enumerate_from (n + 1) ys)) (filter test (enumerate_from (n + 1) ys)))) (sym is);
}

-- the first member is
first-left : {X : Type 0} (test : ℕ × X → Bool) (n : ℕ) (y : X) (ys : List X) (p : ℕ) (x : X) → test (n, y) ≡ true → ◌≡◌ {A = ℕ × X} (n, y) (p, x) → IsLeftAt test n (y ∷ ys) zero p x
first-left {X} test n y ys p x is pair = record {
  count = 0;
  within = positive;
  at = sym (ap (λ (e : ℕ × X). e.0) pair) ∙ same;
  passes = ap test (sym pair) ∙ is;
  before = refl;
}
  where
    positive : 0 < length (y ∷ ys)
    positive = omega arith

    same : n ≡ n + 0
    same = omega arith

left-at : {X : Type 0} (test : ℕ × X → Bool) (n : ℕ) (xs : List X) (i p : ℕ) (x : X) → slice_get (filter test (enumerate_from n xs)) i ≡ Some (p, x) → IsLeftAt test n xs i p x
left-at test n [] i p x got = absurd (none-some (p, x) got)
left-at {X} test n (y ∷ ys) i p x got = by-first (λ j there. left-at test (n + 1) ys j p x there) (test (n, y)) refl i got
  where
    rest : List (ℕ × X)
    rest = filter test (enumerate_from (n + 1) ys)

    by-first : ((j : ℕ) → slice_get rest j ≡ Some (p, x) → IsLeftAt test (n + 1) ys j p x) → (b : Bool) → test (n, y) ≡ b → (j : ℕ) → slice_get (cond (test (n, y)) ((n, y) ∷ rest) rest) j ≡ Some (p, x) → IsLeftAt test n (y ∷ ys) j p x
    by-first later false is j there =
        behind test n y ys j p x false is (later j (ap (λ (b : Bool). slice_get (cond b ((n, y) ∷ rest) rest) j) (sym is) ∙ there)) j refl
    by-first later true is (suc j) there =
        behind test n y ys j p x true is (later j (ap (λ (b : Bool). slice_get (cond b ((n, y) ∷ rest) rest) (suc j)) (sym is) ∙ there)) (suc j) refl
    by-first later true is zero there =
        first-left test n y ys p x is (same_Some (n, y) (p, x) (ap (λ (b : Bool). slice_get (cond b ((n, y) ∷ rest) rest) zero) (sym is) ∙ there))

-- the members before the one at an index of what is left, which is the next of them
pub record ComesAfter {X : Type 0} (test : ℕ × X → Bool) (listed : List (ℕ × X)) (i p : ℕ) (x : X) : Type 0 where
  pub front : List X
  pub at : p ≡ length front + 1
  pub passes : test (p, x) ≡ true
  pub before : left_of test front ≡ take i listed
  pub after : left_of test (front ++ x ∷ []) ≡ take (i + 1) listed

-- the same where it is one of this many
pub record ComesWithin {X : Type 0} (test : ℕ × X → Bool) (xs : List X) (listed : List (ℕ × X)) (i p : ℕ) (x : X) : Type 0 where
  pub it : ComesAfter test listed i p x
  pub fewer : length it.front < length xs

pub comes-within : {X : Type 0} (test : ℕ × X → Bool) (xs : List X) (i p : ℕ) (x : X) → slice_get (left_of test xs) i ≡ Some (p, x) → ComesWithin test xs (left_of test xs) i p x
comes-within {X} test xs i p x got =
    let is = left-at test 1 xs i p x got in
    let size : length (take is.count xs) ≡ is.count = length-take-le is.count xs (omega (arith, is.within)) in
    let number : p ≡ length (take is.count xs) + 1 = omega (arith, is.at, size) in
    let one : left_of test (take is.count xs ++ x ∷ []) ≡ left_of test (take is.count xs) ++ (length (take is.count xs) + 1, x) ∷ [] =
    left-more test (take is.count xs) x (ap (λ (n : ℕ). test (n, x)) (sym number) ∙ is.passes) in
    record {
      it = record {
        front = take is.count xs;
        at = number;
        passes = is.passes;
        before = is.before;
        after = one
            ∙ ap (λ (zs : List (ℕ × X)). zs ++ (length (take is.count xs) + 1, x) ∷ []) is.before
            ∙ ap (λ (n : ℕ). take i (left_of test xs) ++ (n, x) ∷ []) (sym number)
            ∙ ap (λ (e : ℕ × X). take i (left_of test xs) ++ e ∷ []) (sym (get_or_from_slice_get (left_of test xs) i (p, x) (p, x) got))
            ∙ sym (take_more (left_of test xs) i (p, x) (slice_get_within (left_of test xs) i (p, x) got));
      };
      fewer = omega (arith, size, is.within);
    }

-- the same of a list of which the first ones are left, up to this one
take-twice : {X : Type 0} (i n : ℕ) (xs : List X) → i ≤ n → take i (take n xs) ≡ take i xs
take-twice zero n xs le = refl
take-twice (suc i) zero xs le = absurd (omega (arith, le))
take-twice (suc i) (suc n) [] le = refl
take-twice {X} (suc i) (suc n) (x ∷ xs) le = ap (λ (ys : List X). x ∷ ys) (take-twice i n xs (omega (arith, le)))

pub comes-last : {X : Type 0} (test : ℕ × X → Bool) (xs : List X) (listed : List (ℕ × X)) (i p : ℕ) (x : X) → left_of test xs ≡ take (i + 1) listed → slice_get listed i ≡ Some (p, x) → ComesAfter test listed i p x
comes-last {X} test xs listed i p x are got =
    let within : i < length listed = slice_get_within listed i (p, x) got in
    let size : length (take (i + 1) listed) ≡ i + 1 = length-take-le (i + 1) listed (omega (arith, within)) in
    let read : get_or (take (i + 1) listed) i (p, x) ≡ (p, x) = get_or-take (i + 1) listed i (p, x) (omega arith) ∙ get_or_from_slice_get listed i (p, x) (p, x) got in
    let there : slice_get (take (i + 1) listed) i ≡ Some (p, x) = slice_get-get_or (take (i + 1) listed) i (p, x) (omega (arith, size)) ∙ ap (λ (e : ℕ × X). Some e) read in
    let it = (comes-within test xs i p x (ap (λ (zs : List (ℕ × X)). slice_get zs i) are ∙ there)).it in
    record {
      front = it.front;
      at = it.at;
      passes = it.passes;
      before = it.before ∙ ap (take i) are ∙ take-twice i (i + 1) listed (omega arith);
      after = it.after ∙ ap (take (i + 1)) are ∙ take_all (i + 1) (take (i + 1) listed) (omega (arith, size));
    }
