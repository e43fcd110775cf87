-- Where the elements are that a list keeps.
use Rattle.std.proofs.Common.{◌≡◌, ◌≢◌, ◌<◌, ◌+◌, ℕ, zero, suc, Bool, cond, Option, None, Some, List, [], ◌∷◌, ◌++◌, length, get_or, set, take, refl, sym, ap, ◌∙◌, arith}
use Rattle.std.specs.Prelude.{is_some, filter_map, count_by}
use Rattle.std.specs.List.{enumerate_from, cons_option}
use Rattle.std.proofs.lemmas.List.Sums.{sum_by-cons}

-- two ways of keeping that agree on each element
pub filter_map-same : {Z Y : Type 0} (f g : Z → Option Y) (zs : List Z) (d : Z) → ((i : ℕ) → i < length zs → f (get_or zs i d) ≡ g (get_or zs i d)) → filter_map f zs ≡ filter_map g zs
filter_map-same f g [] d same = refl
filter_map-same f g (z ∷ zs) d same =
    let here : f z ≡ g z = same 0 (omega arith) in
    let rest : filter_map f zs ≡ filter_map g zs = filter_map-same f g zs d (λ i lt. same (suc i) (omega arith)) in
    rw (here, rest) refl

-- how many are kept before an index
abbrev pub kept_before : {Z Y : Type 0} → (Z → Option Y) → List Z → ℕ → ℕ
kept_before f zs t = length (filter_map f (take t zs))

-- an element at an index, after one more that may be kept
shifted : {Y : Type 0} (o : Option Y) (all front : List Y) (y e : Y) → (get_or all (length front) e ≡ y) × (length front < length all) → (get_or (cons_option o all) (length (cons_option o front)) e ≡ y) × (length (cons_option o front) < length (cons_option o all))
shifted None all front y e at = at
shifted (Some x) all front y e at = (at.0, omega (arith, at.1))

-- a kept element comes after those that are kept before it
pub filter_map-at : {Z Y : Type 0} (f : Z → Option Y) (zs : List Z) (d : Z) (t : ℕ) (y e : Y) → t < length zs → f (get_or zs t d) ≡ Some y → (get_or (filter_map f zs) (kept_before f zs t) e ≡ y) × (kept_before f zs t < length (filter_map f zs))
filter_map-at f [] d t y e lt is = absurd (omega arith)
filter_map-at f (z ∷ zs) d zero y e lt is = rw is (refl, omega arith)
filter_map-at f (z ∷ zs) d (suc t) y e lt is = shifted (f z) (filter_map f zs) (filter_map f (take t zs)) y e (filter_map-at f zs d t y e (omega arith) is)

set-shifted : {Y : Type 0} (o : Option Y) (all front other : List Y) (y : Y) → other ≡ set all (length front) y → cons_option o other ≡ set (cons_option o all) (length (cons_option o front)) y
set-shifted None all front other y is = is
set-shifted {Y = Y} (Some x) all front other y is = ap (λ (ys : List Y). x ∷ ys) is

-- two ways of keeping that agree but at one element, which both keep
pub filter_map-set : {Z Y : Type 0} (f g : Z → Option Y) (zs : List Z) (d : Z) (t : ℕ) (x y : Y) → t < length zs → f (get_or zs t d) ≡ Some x → g (get_or zs t d) ≡ Some y → ((i : ℕ) → i < length zs → i ≢ t → f (get_or zs i d) ≡ g (get_or zs i d)) → filter_map g zs ≡ set (filter_map f zs) (kept_before f zs t) y
filter_map-set f g [] d t x y lt before after same = absurd (omega arith)
filter_map-set f g (z ∷ zs) d zero x y lt before after same =
    let rest : filter_map f zs ≡ filter_map g zs = filter_map-same f g zs d (λ i within. same (suc i) (omega arith) (λ e. omega arith)) in
    rw (before, after, rest) refl
filter_map-set f g (z ∷ zs) d (suc t) x y lt before after same =
    let here : f z ≡ g z = same 0 (omega arith) (λ e. omega arith) in
    let rest : filter_map g zs ≡ set (filter_map f zs) (kept_before f zs t) y = filter_map-set f g zs d t x y (omega arith) before after (λ i within apart. same (suc i) (omega arith) (λ e. apart (omega arith))) in
    rw (← here) (set-shifted (f z) (filter_map f zs) (filter_map f (take t zs)) (filter_map g zs) y rest)

length-cons_option : {Y : Type 0} (o : Option Y) (ys : List Y) → length (cons_option o ys) ≡ cond (is_some o) 1 0 + length ys
length-cons_option None ys = omega arith
length-cons_option (Some y) ys = omega arith

-- how many of the numbered elements are kept, where the number doesn't matter to it
pub kept_before-count : {X Y : Type 0} (f : ℕ × X → Option Y) (c : X → Bool) → ((k : ℕ) (x : X) → is_some (f (k, x)) ≡ c x) → (xs : List X) (b t : ℕ) → kept_before f (enumerate_from b xs) t ≡ count_by c (take t xs)
kept_before-count f c is xs b zero = refl
kept_before-count f c is [] b (suc t) = refl
kept_before-count f c is (x ∷ xs) b (suc t) =
    let here : is_some (f (b, x)) ≡ c x = is b x in
    let rest : kept_before f (enumerate_from (b + 1) xs) t ≡ count_by c (take t xs) = kept_before-count f c is xs (b + 1) t in
    length-cons_option (f (b, x)) (filter_map f (take t (enumerate_from (b + 1) xs))) ∙ rw (here, rest) (sym (sum_by-cons (λ z. cond (c z) 1 0) x (take t xs)))

pub enumerate_from-push : {X : Type 0} (b : ℕ) (xs : List X) (x : X) → enumerate_from b (xs ++ x ∷ []) ≡ enumerate_from b xs ++ (b + length xs, x) ∷ []
enumerate_from-push b [] x = let number : b ≡ b + 0 = omega arith in ap (λ (n : ℕ). (n, x) ∷ []) number
enumerate_from-push b (y ∷ xs) x =
    let rest : enumerate_from (b + 1) (xs ++ x ∷ []) ≡ enumerate_from (b + 1) xs ++ (b + 1 + length xs, x) ∷ [] = enumerate_from-push (b + 1) xs x in
    let number : b + 1 + length xs ≡ b + suc (length xs) = omega arith in
    rw (rest, number) refl
