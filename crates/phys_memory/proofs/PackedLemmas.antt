-- The bytes of a bank that is kept in words.
use Rattle.std.proofs.Common.{◌≡◌, ℕ, zero, suc, ◌+◌, ◌-◌, ◌*◌, ◌/◌, ◌%◌, ◌^◌, ◌<◌, ◌≤◌, List, length, get_or, set, refl, sym, ap, ◌∙◌, subst, arith, inl, inr, replicate, ◌⊎◌}
use Rattle.std.proofs.lemmas.Bool.{cases_eq, cases_lt}
use Rattle.std.proofs.lemmas.List.{ext_get_or, get_or-set_other, get_or-set_same, length-replicate, length-set}
use Rattle.std.proofs.lemmas.List.FromFn.{get_or-map-range_with_len, length-map-range_with_len}
use Rattle.flat_model.specs.Cells.{word_of}
use Rattle.phys_memory.specs.OneBank.{with_bytes}
use Rattle.phys_memory.specs.Packed.{byte_in, byte_of, bytes_of, low, mixed, shifted}
use Rattle.phys_memory.proofs.ByteLemmas.{byte_of-zero, low-bound, low-whole, mixed-above, mixed-below, mixed-inside, word_of-bytes}
use Rattle.phys_memory.proofs.OneBankLemmas.{words-same}

-- ---- reading

-- a bank has as many bytes as it says
pub length-bytes_of : (len : ℕ) (words : List ℕ) → length (bytes_of len words) ≡ len
unfolding bytes_of
length-bytes_of len words = length-map-range_with_len (byte_in words) 0 len

-- each byte is of its word
pub get_or-bytes_of : (len : ℕ) (words : List ℕ) (i : ℕ) → i < len → get_or (bytes_of len words) i 0 ≡ byte_in words i
unfolding bytes_of
get_or-bytes_of len words i below = get_or-map-range_with_len (byte_in words) 0 len i i 0 below (omega arith)

module _ (len : ℕ) (words : List ℕ) (at n : ℕ) (one : at % 4 + n ≤ 4) (inside : at + n ≤ len) where
  of-one : (k : ℕ) → k < n → get_or (bytes_of len words) (at + k) 0 ≡ byte_of (get_or words (at / 4) 0) (at % 4 + k)
  of-one k below =
      let same : (at + k) / 4 ≡ at / 4 = omega arith in
      let byte : (at + k) % 4 ≡ at % 4 + k = omega arith in
      get_or-bytes_of len words (at + k) (omega arith)
      ∙ ap (λ x. byte_of (get_or words x 0) ((at + k) % 4)) same
      ∙ ap (byte_of (get_or words (at / 4) 0)) byte

  -- some bytes of one word
  pub part-is : word_of (λ i. get_or (bytes_of len words) i 0) at n ≡ low (shifted (get_or words (at / 4) 0) (at % 4)) n
  part-is =
      words-same (λ i. get_or (bytes_of len words) i 0) (byte_of (get_or words (at / 4) 0)) at (at % 4) n of-one
      ∙ word_of-bytes (get_or words (at / 4) 0) (at % 4) n

-- some bytes of one word are below a power of 256
pub part-bound : (len : ℕ) (words : List ℕ) (at n : ℕ) → at % 4 + n ≤ 4 → at + n ≤ len → word_of (λ i. get_or (bytes_of len words) i 0) at n < 256 ^ n
part-bound len words at n one inside =
    subst (λ x. x < 256 ^ n) (sym (part-is len words at n one inside)) (low-bound (shifted (get_or words (at / 4) 0) (at % 4)) n)

-- all bytes of one word
pub whole-is : (len : ℕ) (words : List ℕ) (at n : ℕ) → at % 4 + n ≤ 4 → at + n ≤ len → n ≡ 4 → get_or words (at / 4) 0 < 2 ^ 32 →
    word_of (λ i. get_or (bytes_of len words) i 0) at n ≡ get_or words (at / 4) 0
whole-is len words at n one inside four small =
    let none : at % 4 ≡ 0 = omega arith in
    part-is len words at n one inside
    ∙ ap (λ x. low (shifted (get_or words (at / 4) 0) x) n) none
    ∙ ap (low (get_or words (at / 4) 0)) four
    ∙ low-whole (get_or words (at / 4) 0) small

-- ---- a list with some bytes written

pub length-with_bytes : (bytes : List ℕ) (at n v : ℕ) → length (with_bytes bytes at n v) ≡ length bytes
length-with_bytes bytes at zero v = refl
length-with_bytes bytes at (suc n) v =
    length-with_bytes (set bytes at (v % 256)) (at + 1) n (v / 256) ∙ length-set bytes at (v % 256)

-- the same under a name that a tactic's list can have
pub length_with_bytes : (bytes : List ℕ) (at n v : ℕ) → length (with_bytes bytes at n v) ≡ length bytes
length_with_bytes bytes at n v = length-with_bytes bytes at n v

-- those before stay
pub with_bytes-below : (bytes : List ℕ) (at n v i : ℕ) → i < at → get_or (with_bytes bytes at n v) i 0 ≡ get_or bytes i 0
with_bytes-below bytes at zero v i below = refl
with_bytes-below bytes at (suc n) v i below =
    with_bytes-below (set bytes at (v % 256)) (at + 1) n (v / 256) i (omega arith)
    ∙ get_or-set_other bytes at i (v % 256) 0 (λ e. absurd (omega (arith, e)))

-- those inside are the value's
pub with_bytes-inside : (bytes : List ℕ) (at n v i : ℕ) → at ≤ i → i < at + n → i < length bytes →
    get_or (with_bytes bytes at n v) i 0 ≡ byte_of v (i - at)
with_bytes-inside bytes at zero v i from below there = absurd (omega arith)
with_bytes-inside bytes at (suc n) v i from below there = elim (cases_eq at i) [
  | inl e ↦
      let first : 0 ≡ i - at = omega (arith, e) in
      let within : at < length bytes = omega (arith, e) in
      with_bytes-below (set bytes at (v % 256)) (at + 1) n (v / 256) i (omega (arith, e))
      ∙ ap (λ x. get_or (set bytes at (v % 256)) x 0) (sym e)
      ∙ get_or-set_same bytes at (v % 256) 0 within
      ∙ ap (byte_of v) first
  | inr other ↦
      let later : at + 1 ≤ i = omega (arith, other) in
      let step : suc (i - (at + 1)) ≡ i - at = omega (arith, later) in
      let long : length (set bytes at (v % 256)) ≡ length bytes = length-set bytes at (v % 256) in
      with_bytes-inside (set bytes at (v % 256)) (at + 1) n (v / 256) i later (omega arith) (omega (arith, long))
      ∙ ap (byte_of v) step
]

-- those behind stay
pub with_bytes-above : (bytes : List ℕ) (at n v i : ℕ) → at + n ≤ i → get_or (with_bytes bytes at n v) i 0 ≡ get_or bytes i 0
with_bytes-above bytes at zero v i above = refl
with_bytes-above bytes at (suc n) v i above =
    with_bytes-above (set bytes at (v % 256)) (at + 1) n (v / 256) i (omega arith)
    ∙ get_or-set_other bytes at i (v % 256) 0 (λ e. absurd (omega (arith, e)))

-- a list that has those bytes is the list with them written
written : (old new : List ℕ) (at n v : ℕ) → length new ≡ length old →
    ((i : ℕ) → i < at → i < length old → get_or new i 0 ≡ get_or old i 0) →
    ((i : ℕ) → at ≤ i → i < at + n → i < length old → get_or new i 0 ≡ byte_of v (i - at)) →
    ((i : ℕ) → at + n ≤ i → i < length old → get_or new i 0 ≡ get_or old i 0) →
    new ≡ with_bytes old at n v
written old new at n v long below inside above =
    ext_get_or 0 new (with_bytes old at n v) (long ∙ sym (length-with_bytes old at n v)) each
  where
    each : (i : ℕ) → i < length new → get_or new i 0 ≡ get_or (with_bytes old at n v) i 0
    each i there =
        let within : i < length old = omega (arith, long) in
        elim (cases_lt i at) [
          | inl before ↦ below i before within ∙ sym (with_bytes-below old at n v i before)
          | inr from ↦ elim (cases_lt i (at + n)) [
            | inl first ↦ inside i from first within ∙ sym (with_bytes-inside old at n v i from first within)
            | inr past ↦ above i past within ∙ sym (with_bytes-above old at n v i past)
          ]
        ]

-- ---- writing into one word

-- a word has its n bytes from byte j on of a value, and the others of another word
pub record HasBytes (word old j n v : ℕ) : Type 0 where
  pub below : (i : ℕ) → i < j → byte_of word i ≡ byte_of old i
  pub inside : (i : ℕ) → j ≤ i → i < j + n → byte_of word i ≡ byte_of v (i - j)
  pub above : (i : ℕ) → i < 4 → j + n ≤ i → byte_of word i ≡ byte_of old i

module _ (len : ℕ) (words : List ℕ) (at n v word : ℕ) (some : 0 < n) (one : at % 4 + n ≤ 4) (inside : at + n ≤ len)
    (room : len ≤ 4 * length words) (has : HasBytes word (get_or words (at / 4) 0) (at % 4) n v) where
  same-word : (i : ℕ) → i < len → i / 4 ≡ at / 4 → get_or (bytes_of len (set words (at / 4) word)) i 0 ≡ byte_of word (i % 4)
  same-word i below e =
      let there : at / 4 < length words = omega arith in
      get_or-bytes_of len (set words (at / 4) word) i below
      ∙ ap (λ x. byte_of (get_or (set words (at / 4) word) x 0) (i % 4)) e
      ∙ ap (λ x. byte_of x (i % 4)) (get_or-set_same words (at / 4) word 0 there)

  old-word : (i : ℕ) → i < len → i / 4 ≡ at / 4 → byte_of (get_or words (at / 4) 0) (i % 4) ≡ get_or (bytes_of len words) i 0
  old-word i below e =
      sym (get_or-bytes_of len words i below ∙ ap (λ x. byte_of (get_or words x 0) (i % 4)) e)

  other-word : (i : ℕ) → i < len → (i / 4 ≡ at / 4 → ⊥) →
      get_or (bytes_of len (set words (at / 4) word)) i 0 ≡ get_or (bytes_of len words) i 0
  other-word i below other =
      get_or-bytes_of len (set words (at / 4) word) i below
      ∙ ap (λ x. byte_of x (i % 4)) (get_or-set_other words (at / 4) (i / 4) word 0 other)
      ∙ sym (get_or-bytes_of len words i below)

  kept : (i : ℕ) → i < len → (i / 4 ≡ at / 4 → byte_of word (i % 4) ≡ byte_of (get_or words (at / 4) 0) (i % 4)) →
      get_or (bytes_of len (set words (at / 4) word)) i 0 ≡ get_or (bytes_of len words) i 0
  kept i below same = elim (cases_eq (i / 4) (at / 4)) [
    | inl e ↦ same-word i below e ∙ same e ∙ old-word i below e
    | inr other ↦ other-word i below other
  ]

  -- the bytes of the words with that word are the bytes with the value's
  pub put-is : bytes_of len (set words (at / 4) word) ≡ with_bytes (bytes_of len words) at n v
  put-is =
      written (bytes_of len words) (bytes_of len (set words (at / 4) word)) at n v
      (length-bytes_of len (set words (at / 4) word) ∙ sym (length-bytes_of len words)) before within behind
    where
      long : length (bytes_of len words) ≡ len
      long = length-bytes_of len words

      before : (i : ℕ) → i < at → i < length (bytes_of len words) →
          get_or (bytes_of len (set words (at / 4) word)) i 0 ≡ get_or (bytes_of len words) i 0
      before i below there =
          kept i (omega (arith, long)) (λ e. has.below (i % 4) (let lower : i % 4 < at % 4 = omega (arith, e) in lower))

      within : (i : ℕ) → at ≤ i → i < at + n → i < length (bytes_of len words) →
          get_or (bytes_of len (set words (at / 4) word)) i 0 ≡ byte_of v (i - at)
      within i from below there =
          let e : i / 4 ≡ at / 4 = omega arith in
          let first : at % 4 ≤ i % 4 = omega arith in
          let last : i % 4 < at % 4 + n = omega arith in
          let place : i % 4 - at % 4 ≡ i - at = omega arith in
          same-word i (omega (arith, long)) e ∙ has.inside (i % 4) first last ∙ ap (byte_of v) place

      behind : (i : ℕ) → at + n ≤ i → i < length (bytes_of len words) →
          get_or (bytes_of len (set words (at / 4) word)) i 0 ≡ get_or (bytes_of len words) i 0
      behind i above there =
          kept i (omega (arith, long))
          (λ e. has.above (i % 4) (let small : i % 4 < 4 = omega arith in small) (let higher : at % 4 + n ≤ i % 4 = omega (arith, e) in higher))

-- a word in which some bytes are of a value
pub HasBytes-mixed : (w j n v : ℕ) → HasBytes (mixed w j n v) w j n v
HasBytes-mixed w j n v = record {
  below = λ i h. mixed-below w j n v i h;
  inside = λ i h k. mixed-inside w j n v i h k;
  above = λ i h k. mixed-above w j n v i k;
}

-- all four bytes are of the value
pub HasBytes-whole : (w j n v : ℕ) → n ≡ 4 → j + n ≤ 4 → HasBytes v w j n v
HasBytes-whole w j n v four one = record {
  below = λ i h. absurd (omega (arith, h));
  inside = λ i h k. ap (byte_of v) (let same : i ≡ i - j = omega (arith, h, k) in same);
  above = λ i h k. absurd (omega (arith, h, k));
}

-- ---- zero bytes

-- words that are zero from one piece on up to another, and else the same
pub zero-pieces-is : (len : ℕ) (words new : List ℕ) (from to : ℕ) → from ≤ to → 32 * to ≤ len → len ≤ 4 * length words →
    ((k : ℕ) → 8 * from ≤ k → k < 8 * to → get_or new k 0 ≡ 0) →
    ((k : ℕ) → (k < 8 * from) ⊎ (8 * to ≤ k) → get_or new k 0 ≡ get_or words k 0) →
    bytes_of len new ≡ with_bytes (bytes_of len words) (32 * from) (32 * to - 32 * from) 0
zero-pieces-is len words new from to order fits room zeros others =
    written (bytes_of len words) (bytes_of len new) (32 * from) (32 * to - 32 * from) 0
    (length-bytes_of len new ∙ sym long) before within behind
  where
    long : length (bytes_of len words) ≡ len
    long = length-bytes_of len words

    same : (i : ℕ) → i < len → get_or new (i / 4) 0 ≡ get_or words (i / 4) 0 → get_or (bytes_of len new) i 0 ≡ get_or (bytes_of len words) i 0
    same i below e =
        get_or-bytes_of len new i below ∙ ap (λ x. byte_of x (i % 4)) e ∙ sym (get_or-bytes_of len words i below)

    before : (i : ℕ) → i < 32 * from → i < length (bytes_of len words) → get_or (bytes_of len new) i 0 ≡ get_or (bytes_of len words) i 0
    before i below there =
        let lower : i / 4 < 8 * from = omega arith in
        same i (omega (arith, long)) (others (i / 4) (inl lower))

    within : (i : ℕ) → 32 * from ≤ i → i < 32 * from + (32 * to - 32 * from) → i < length (bytes_of len words) →
        get_or (bytes_of len new) i 0 ≡ byte_of 0 (i - 32 * from)
    within i first last there =
        let above : 8 * from ≤ i / 4 = omega arith in
        let lower : i / 4 < 8 * to = omega arith in
        get_or-bytes_of len new i (omega (arith, long))
        ∙ ap (λ x. byte_of x (i % 4)) (zeros (i / 4) above lower)
        ∙ byte_of-zero (i % 4) ∙ sym (byte_of-zero (i - 32 * from))

    behind : (i : ℕ) → 32 * from + (32 * to - 32 * from) ≤ i → i < length (bytes_of len words) →
        get_or (bytes_of len new) i 0 ≡ get_or (bytes_of len words) i 0
    behind i above there =
        let higher : 8 * to ≤ i / 4 = omega arith in
        same i (omega (arith, long)) (others (i / 4) (inr higher))

-- zero bytes behind zero bytes are so many more
pub zeros-append : (bytes : List ℕ) (at m n : ℕ) → with_bytes (with_bytes bytes at m 0) (at + m) n 0 ≡ with_bytes bytes at (m + n) 0
zeros-append bytes at zero n =
    let here : at + 0 ≡ at = omega arith in
    let all : n ≡ 0 + n = omega arith in
    ap (λ x. with_bytes bytes x n 0) here ∙ ap (λ x. with_bytes bytes at x 0) all
zeros-append bytes at (suc m) n =
    let step : at + suc m ≡ at + 1 + m = omega arith in
    let more : suc (m + n) ≡ suc m + n = omega arith in
    ap (λ x. with_bytes (with_bytes bytes at (suc m) 0) x n 0) step
    ∙ zeros-append (set bytes at 0) (at + 1) m n
    ∙ ap (λ x. with_bytes bytes at x 0) more

-- three ranges of zero bytes that touch are one
pub zeros-three : (bytes : List ℕ) (a b c d n : ℕ) → a ≤ b → b ≤ c → c ≤ d → d ≡ a + n →
    with_bytes (with_bytes (with_bytes bytes a (b - a) 0) b (c - b) 0) c (d - c) 0 ≡ with_bytes bytes a n 0
zeros-three bytes a b c d n first second third all =
    let to-b : a + (b - a) ≡ b = omega arith in
    let to-c : a + (c - a) ≡ c = omega arith in
    let two : b - a + (c - b) ≡ c - a = omega arith in
    let three : c - a + (d - c) ≡ n = omega arith in
    ap (λ xs. with_bytes xs c (d - c) 0)
    (ap (λ x. with_bytes (with_bytes bytes a (b - a) 0) x (c - b) 0) (sym to-b)
    ∙ zeros-append bytes a (b - a) (c - b) ∙ ap (λ x. with_bytes bytes a x 0) two)
    ∙ ap (λ x. with_bytes (with_bytes bytes a (c - a) 0) x (d - c) 0) (sym to-c)
    ∙ zeros-append bytes a (c - a) (d - c) ∙ ap (λ x. with_bytes bytes a x 0) three

-- one zero byte is written before the rest
pub zeros-more : (bytes : List ℕ) (i to : ℕ) → i < to →
    with_bytes bytes i (to - i) 0 ≡ with_bytes (with_bytes bytes i 1 0) (i + 1) (to - (i + 1)) 0
zeros-more bytes i to before =
    let more : to - i ≡ suc (to - (i + 1)) = omega arith in
    ap (λ x. with_bytes bytes i x 0) more

-- where none is left nothing is written
pub zeros-none : (bytes : List ℕ) (i to : ℕ) → to ≤ i → with_bytes bytes i (to - i) 0 ≡ bytes
zeros-none bytes i to past = let none : to - i ≡ 0 = omega arith in ap (λ x. with_bytes bytes i x 0) none

get_or-zeros : (m k : ℕ) → (let none : ℕ = 0 in get_or (replicate m none) k none ≡ none)
get_or-zeros zero k = refl
get_or-zeros (suc m) zero = refl
get_or-zeros (suc m) (suc k) = get_or-zeros m k

-- the bytes of zero words are zero
pub bytes_of-zeros : (len m : ℕ) → bytes_of len (replicate m 0) ≡ replicate len 0
bytes_of-zeros len m =
    ext_get_or 0 (bytes_of len (replicate m 0)) (replicate len 0)
    (length-bytes_of len (replicate m 0) ∙ sym (length-replicate len 0)) each
  where
    long : length (bytes_of len (replicate m 0)) ≡ len
    long = length-bytes_of len (replicate m 0)

    each : (i : ℕ) → i < length (bytes_of len (replicate m 0)) → get_or (bytes_of len (replicate m 0)) i 0 ≡ get_or (replicate len 0) i 0
    each i there =
        get_or-bytes_of len (replicate m 0) i (omega (arith, long))
        ∙ ap (λ x. byte_of x (i % 4)) (get_or-zeros m (i / 4))
        ∙ byte_of-zero (i % 4) ∙ sym (get_or-zeros len i)
