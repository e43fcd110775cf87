-- Of the values of one factor few make two blocks collide.
use Rattle.std.proofs.Common.{◌≡◌, ◌≢◌, ◌∙◌, inl, inr, sym, ap, ℕ, zero, suc, min, take, drop, replicate, ◌++◌, set, get_or, ◌+◌, ◌-◌, ◌*◌, ◌/◌, ◌%◌, ◌^◌, ◌<◌, ◌≤◌, List, [], ◌∷◌, length, All, arith}
use Rattle.std.specs.List.{AllPairs}
use Rattle.std.proofs.lemmas.List.Elements.{All-nil, All-cons, All-head, All-tail, All-weaker}
use Rattle.std.proofs.lemmas.List.{get_or-set_same, get_or-set_other, append-nil, take_all}
use Rattle.std.proofs.lemmas.Bool.{cases_order}
use Rattle.seeded_hash.specs.Blocks.{block_word_at, term_at, block_sum, block_of}
use Rattle.seeded_hash.specs.Collisions.{hash_with, AreBlocks, FewFactorsCollide}
use Rattle.seeded_hash.specs.declared.blocks.BlockHasher.{BlockHasher}
use Rattle.std.proofs.Math.Nat.{le-div_iff_mul-le, div-mul-le_self, mul-le-mul_right}

AllPairs-head : (x : ℕ) (xs : List ℕ) → AllPairs (λ m n. m < n) (x ∷ xs) → All (λ n. x < n) xs
AllPairs-head x xs p = λ k d lt. p 0 (suc k) d (omega arith) (omega arith)

AllPairs-tail : (x : ℕ) (xs : List ℕ) → AllPairs (λ m n. m < n) (x ∷ xs) → AllPairs (λ m n. m < n) xs
AllPairs-tail x xs p = λ i j d lt below. p (suc i) (suc j) d (omega arith) (omega arith)

div-up : (a b d : ℕ) → 0 < d → a + d ≤ b → a / d < b / d
div-up a b d pos le =
    let one : (a / d + 1) * d ≡ a / d * d + d = grind arith in
    let low : a / d * d ≤ a = div-mul-le_self a d in
    let h : a / d + 1 ≤ b / d = (le-div_iff_mul-le pos).1 (omega (arith, one, low, le)) in
    omega (arith, h)

div-upto : (a b d : ℕ) → 0 < d → a ≤ b → a / d ≤ b / d
div-upto a b d pos le =
    let low : a / d * d ≤ a = div-mul-le_self a d in
    (le-div_iff_mul-le pos).1 (omega (arith, low, le))

-- the place of a value among those that collide: what it goes over 2^64, and where it ends in the window
abbrev over : ℕ → ℕ → ℕ → ℕ
over d c n = (n * d + c) / 2 ^ 64

abbrev offset : ℕ → ℕ → ℕ → ℕ
offset d c n = (n * d + c) % 2 ^ 64

abbrev room : ℕ → ℕ
room d = 2 ^ 33 / d + 1

abbrev seat : ℕ → ℕ → ℕ → ℕ
seat d c n = over d c n * room d + offset d c n / d

seat-rises : (d c m n : ℕ) → 0 < d → m < n → offset d c m < 2 ^ 33 → offset d c n < 2 ^ 33 → seat d c m < seat d c n
seat-rises d c m n pos lt wm wn =
    let step : (m + 1) * d ≤ n * d = mul-le-mul_right d (omega (arith, lt)) in
    let one : (m + 1) * d ≡ m * d + d = grind arith in
    let more : m * d + c + d ≤ n * d + c = omega (arith, step, one) in
    elim (cases_order (over d c m) (over d c n)) [
      | inl same ↦
          let up : offset d c m + d ≤ offset d c n = omega (arith, same, more) in
          let higher : offset d c m / d < offset d c n / d = div-up (offset d c m) (offset d c n) d pos up in
          let base : over d c m * room d ≡ over d c n * room d = ap (λ q. q * room d) same in
          omega (arith, base, higher)
      | inr ne ↦ elim ne [
        | inl less ↦
            let top : offset d c m / d ≤ 2 ^ 33 / d = div-upto (offset d c m) (2 ^ 33) d pos (omega (arith, wm)) in
            let next : (over d c m + 1) * room d ≤ over d c n * room d = mul-le-mul_right (room d) (omega (arith, less)) in
            let split : (over d c m + 1) * room d ≡ over d c m * room d + room d = grind arith in
            omega (arith, top, next, split)
        | inr back ↦ absurd (omega (arith, back, more))
      ]
    ]

seat-below : (d c n : ℕ) → 0 < d → d < 2 ^ 32 → n < 2 ^ 64 → c < 2 ^ 64 → offset d c n < 2 ^ 33 → seat d c n < 2 ^ 35
seat-below d c n pos small below cb w =
    let most : n * d ≤ (2 ^ 64 - 1) * d = mul-le-mul_right d (omega (arith, below)) in
    let over_most : over d c n ≤ d = omega (arith, most, cb) in
    let top : offset d c n / d ≤ 2 ^ 33 / d = div-upto (offset d c n) (2 ^ 33) d pos (omega (arith, w)) in
    let wide : over d c n * room d ≤ d * room d = mul-le-mul_right (room d) over_most in
    let split : d * room d ≡ 2 ^ 33 / d * d + d = grind arith in
    let low : 2 ^ 33 / d * d ≤ 2 ^ 33 = div-mul-le_self (2 ^ 33) d in
    let quotient : 2 ^ 33 / d * 1 ≤ 2 ^ 33 / d * d = grind arith in
    omega (arith, top, wide, split, low, quotient, small)

-- what each value that collides is
abbrev Collides : ℕ → ℕ → ℕ → Type 0
Collides d c n = (n < 2 ^ 64) × (offset d c n < 2 ^ 33)

-- rising values that end in the window are few: their seats rise too
few-seats : (d c : ℕ) → 0 < d → d < 2 ^ 32 → c < 2 ^ 64 → (ns : List ℕ) (from : ℕ) → AllPairs (λ m n. m < n) ns → All (Collides d c) ns
    → All (λ n. from ≤ seat d c n) ns → from ≤ 2 ^ 35 → from + length ns ≤ 2 ^ 35
few-seats d c pos small cb [] from rises collide low le = omega (arith, le)
few-seats d c pos small cb (n ∷ ns) from rises collide low le =
    let here = All-head (Collides d c) n ns collide in
    let later = All-tail (Collides d c) n ns collide in
    let least : from ≤ seat d c n = All-head (λ m. from ≤ seat d c m) n ns low in
    let high : seat d c n < 2 ^ 35 = seat-below d c n pos small here.0 cb here.1 in
    let rest : seat d c n + 1 + length ns ≤ 2 ^ 35 = few-seats d c pos small cb ns (seat d c n + 1) (AllPairs-tail n ns rises) later
    (above here.1 ns (AllPairs-head n ns rises) later) (omega (arith, high)) in
    omega (arith, rest, least)
  where
    above : offset d c n < 2 ^ 33 → (ms : List ℕ) → All (λ m. n < m) ms → All (Collides d c) ms → All (λ m. seat d c n + 1 ≤ seat d c m) ms
    above w [] h collide = All-nil (λ m. seat d c n + 1 ≤ seat d c m)
    above w (m ∷ ms) h collide =
        let up : seat d c n < seat d c m = seat-rises d c n m pos (All-head (λ k. n < k) m ms h) w (All-head (Collides d c) m ms collide).1 in
        All-cons (λ k. seat d c n + 1 ≤ seat d c k) m ms (omega (arith, up)) (above w ms (All-tail (λ k. n < k) m ms h) (All-tail (Collides d c) m ms collide))

-- Blocks.

-- the sum where one factor is another one: its own term is another one too
isolated : (f b : List ℕ) (n j : ℕ) → length f ≡ 8 → j < 8 → block_sum (set f j n) b + term_at f b j ≡ block_sum f b + n * block_word_at b (4 * j)
isolated f b n j size h = by_index j h
  where
    own : (i : ℕ) → i < 8 → term_at (set f i n) b i ≡ n * block_word_at b (4 * i)
    own i lt = ap (λ k. k * block_word_at b (4 * i)) (get_or-set_same f i n 0 (omega (arith, lt, size)))

    other : (i k : ℕ) → k ≢ i → term_at (set f i n) b k ≡ term_at f b k
    other i k ne = ap (λ x. x * block_word_at b (4 * k)) (get_or-set_other f i k n 0 ne)

    by_index : (i : ℕ) → i < 8 → block_sum (set f i n) b + term_at f b i ≡ block_sum f b + n * block_word_at b (4 * i)
    by_index zero lt = omega (arith, own 0 lt, other 0 1 (λ e. cc), other 0 2 (λ e. cc), other 0 3 (λ e. cc), other 0 4 (λ e. cc), other 0 5 (λ e. cc), other 0 6 (λ e. cc), other 0 7 (λ e. cc))
    by_index (suc zero) lt = omega (arith, own 1 lt, other 1 0 (λ e. cc), other 1 2 (λ e. cc), other 1 3 (λ e. cc), other 1 4 (λ e. cc), other 1 5 (λ e. cc), other 1 6 (λ e. cc), other 1 7 (λ e. cc))
    by_index (suc (suc zero)) lt = omega (arith, own 2 lt, other 2 0 (λ e. cc), other 2 1 (λ e. cc), other 2 3 (λ e. cc), other 2 4 (λ e. cc), other 2 5 (λ e. cc), other 2 6 (λ e. cc), other 2 7 (λ e. cc))
    by_index (suc (suc (suc zero))) lt = omega (arith, own 3 lt, other 3 0 (λ e. cc), other 3 1 (λ e. cc), other 3 2 (λ e. cc), other 3 4 (λ e. cc), other 3 5 (λ e. cc), other 3 6 (λ e. cc), other 3 7 (λ e. cc))
    by_index (suc (suc (suc (suc zero)))) lt = omega (arith, own 4 lt, other 4 0 (λ e. cc), other 4 1 (λ e. cc), other 4 2 (λ e. cc), other 4 3 (λ e. cc), other 4 5 (λ e. cc), other 4 6 (λ e. cc), other 4 7 (λ e. cc))
    by_index (suc (suc (suc (suc (suc zero))))) lt = omega (arith, own 5 lt, other 5 0 (λ e. cc), other 5 1 (λ e. cc), other 5 2 (λ e. cc), other 5 3 (λ e. cc), other 5 4 (λ e. cc), other 5 6 (λ e. cc), other 5 7 (λ e. cc))
    by_index (suc (suc (suc (suc (suc (suc zero)))))) lt = omega (arith, own 6 lt, other 6 0 (λ e. cc), other 6 1 (λ e. cc), other 6 2 (λ e. cc), other 6 3 (λ e. cc), other 6 4 (λ e. cc), other 6 5 (λ e. cc), other 6 7 (λ e. cc))
    by_index (suc (suc (suc (suc (suc (suc (suc zero))))))) lt = omega (arith, own 7 lt, other 7 0 (λ e. cc), other 7 1 (λ e. cc), other 7 2 (λ e. cc), other 7 3 (λ e. cc), other 7 4 (λ e. cc), other 7 5 (λ e. cc), other 7 6 (λ e. cc))
    by_index (suc (suc (suc (suc (suc (suc (suc (suc i)))))))) lt = absurd (omega (arith, lt))

-- a text of 32 bytes is its own block
own-block : (text : List ℕ) → length text ≡ 32 → block_of text ≡ text
own-block text size =
    let whole : take (min (length text) 32) text ≡ text = take_all (min (length text) 32) text (omega (arith, size)) in
    let least : min (length text) 32 ≡ 32 = omega (arith, size) in
    ap (λ (n : ℕ). take (min (length text) 32) text ++ drop n (replicate 32 0)) least ∙ ap (λ (t : List ℕ). t ++ []) whole ∙ append-nil text

-- a word has 32 bits
word-small : (block : List ℕ) (j : ℕ) → length block ≡ 32 → j < 8 → All (λ byte. byte < 256) block → block_word_at block (4 * j) < 2 ^ 32
unfolding block_word_at
word-small block j size lt bytes =
    let a : get_or block (4 * j) 0 < 256 = bytes (4 * j) 0 (omega (arith, size, lt)) in
    let b : get_or block (4 * j + 1) 0 < 256 = bytes (4 * j + 1) 0 (omega (arith, size, lt)) in
    let c : get_or block (4 * j + 2) 0 < 256 = bytes (4 * j + 2) 0 (omega (arith, size, lt)) in
    let d : get_or block (4 * j + 3) 0 < 256 = bytes (4 * j + 3) 0 (omega (arith, size, lt)) in
    word-of (get_or block (4 * j) 0) (get_or block (4 * j + 1) 0) (get_or block (4 * j + 2) 0) (get_or block (4 * j + 3) 0) a b c d
  where
    word-of : (a b c d : ℕ) → a < 256 → b < 256 → c < 256 → d < 256 → a + b * 256 + c * 65536 + d * 16777216 < 2 ^ 32
    word-of a b c d p q r s = omega (arith, p, q, r, s)

-- where the hashes are the same, the value ends in the window
in-window : (a b w v d n : ℕ) → w ≡ d + v → (a + n * w) % 2 ^ 64 / 2 ^ 32 ≡ (b + n * v) % 2 ^ 64 / 2 ^ 32
    → offset d ((a + 2 ^ 32 + (2 ^ 64 - b % 2 ^ 64)) % 2 ^ 64) n < 2 ^ 33
in-window a b w v d n parts same =
    let split : n * w ≡ n * d + n * v = ap (λ k. n * k) parts ∙ (grind arith) in
    omega (arith, split, same)

-- the hash under a factor, as a sum in which it is a term of its own
alone : (hasher : BlockHasher) (j : ℕ) (block : List ℕ) (n : ℕ) → length hasher.factors ≡ 8 → j < 8 → length block ≡ 32
    → hash_with hasher j block n ≡ ((hasher.sum + block_sum hasher.factors block - term_at hasher.factors block j) + n * block_word_at block (4 * j)) % 2 ^ 64 / 2 ^ 32
alone hasher j block n size lt whole =
    let e : block_sum (set hasher.factors j n) block + term_at hasher.factors block j ≡ block_sum hasher.factors block + n * block_word_at block (4 * j) = isolated hasher.factors block n j size lt in
    let least : term_at hasher.factors block j ≤ block_sum hasher.factors block = among j lt in
    let sum : hasher.sum + block_sum (set hasher.factors j n) block ≡ hasher.sum + block_sum hasher.factors block - term_at hasher.factors block j + n * block_word_at block (4 * j) = omega (arith, e, least) in
    ap (λ (b : List ℕ). (hasher.sum + block_sum (set hasher.factors j n) b) % 2 ^ 64 / 2 ^ 32) (own-block block whole)
    ∙ ap (λ (s : ℕ). s % 2 ^ 64 / 2 ^ 32) sum
  where
    among : (i : ℕ) → i < 8 → term_at hasher.factors block i ≤ block_sum hasher.factors block
    among zero h = omega arith
    among (suc zero) h = omega arith
    among (suc (suc zero)) h = omega arith
    among (suc (suc (suc zero))) h = omega arith
    among (suc (suc (suc (suc zero)))) h = omega arith
    among (suc (suc (suc (suc (suc zero))))) h = omega arith
    among (suc (suc (suc (suc (suc (suc zero)))))) h = omega arith
    among (suc (suc (suc (suc (suc (suc (suc zero))))))) h = omega arith
    among (suc (suc (suc (suc (suc (suc (suc (suc i)))))))) h = absurd (omega (arith, h))

-- the same of two blocks of which the first has the greater word
few-ordered : (hasher : BlockHasher) (j : ℕ) (first second : List ℕ) (values : List ℕ) → length hasher.factors ≡ 8 → j < 8 → AreBlocks first second
    → block_word_at second (4 * j) < block_word_at first (4 * j) → AllPairs (λ m n. m < n) values
    → All (λ n. (n < 2 ^ 64) × (hash_with hasher j first n ≡ hash_with hasher j second n)) values → length values ≤ 2 ^ 35
few-ordered hasher j first second values size lt are greater rises collide =
    let few : 0 + length values ≤ 2 ^ 35 = few-seats d c (omega (arith, greater)) (omega (arith, small)) (omega arith) values 0 rises
    (All-weaker (λ n. (n < 2 ^ 64) × (hash_with hasher j first n ≡ hash_with hasher j second n)) (Collides d c) window values collide)
    (All-weaker (λ n. (n < 2 ^ 64) × (hash_with hasher j first n ≡ hash_with hasher j second n)) (λ n. 0 ≤ seat d c n) (λ n h. omega arith) values collide)
    (omega arith) in
    omega (arith, few)
  where
    d : ℕ
    d = block_word_at first (4 * j) - block_word_at second (4 * j)

    a : ℕ
    a = hasher.sum + block_sum hasher.factors first - term_at hasher.factors first j

    b : ℕ
    b = hasher.sum + block_sum hasher.factors second - term_at hasher.factors second j

    c : ℕ
    c = (a + 2 ^ 32 + (2 ^ 64 - b % 2 ^ 64)) % 2 ^ 64

    small : block_word_at first (4 * j) < 2 ^ 32
    small = word-small first j are.first_size lt are.first_bytes

    window : (n : ℕ) → (n < 2 ^ 64) × (hash_with hasher j first n ≡ hash_with hasher j second n) → Collides d c n
    window n h = (
      h.0,
      in-window a b (block_word_at first (4 * j)) (block_word_at second (4 * j)) d n (omega (arith, greater))
          (sym (alone hasher j first n size lt are.first_size) ∙ h.1 ∙ alone hasher j second n size lt are.second_size),
    )

pub few-collide : FewFactorsCollide
few-collide hasher j first second values size lt are differ rises collide = elim (cases_order (block_word_at first (4 * j)) (block_word_at second (4 * j))) [
  | inl same ↦ absurd (differ same)
  | inr ne ↦ elim ne [
    | inl less ↦ few-ordered hasher j second first values size lt
        (record { first_size = are.second_size; second_size = are.first_size; first_bytes = are.second_bytes; second_bytes = are.first_bytes }) less rises
        (All-weaker (λ n. (n < 2 ^ 64) × (hash_with hasher j first n ≡ hash_with hasher j second n)) (λ n. (n < 2 ^ 64) × (hash_with hasher j second n ≡ hash_with hasher j first n))
        (λ n h. (h.0, sym h.1)) values collide)
    | inr more ↦ few-ordered hasher j first second values size lt are more rises collide
  ]
]
