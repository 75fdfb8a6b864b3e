-- Words in pieces, some of which have a mark.
use Rattle.std.proofs.Common.{◌≡◌, ℕ, zero, suc, ◌+◌, ◌*◌, ◌/◌, ◌<◌, ◌≤◌, Bool, true, false, List, length, get_or, set, refl, sym, ap, ◌∙◌, arith, inl, inr, replicate, ◌⊎◌}
use Rattle.std.specs.Prelude.{if◌then◌else◌}
use Rattle.std.proofs.lemmas.Bool.{cases_eq, cases_lt, false≢true}
use Rattle.std.proofs.lemmas.List.{ext_get_or, get_or-replicate, get_or-set_other, get_or-set_same, get_or_past, length-replicate, length-set}
use Rattle.std.proofs.lemmas.List.FromFn.{get_or-map-range_with_len, length-map-range_with_len}
use Rattle.phys_memory.specs.Packed.{IsPacked, word_in, words_of}

pub length-words_of : (words : List ℕ) (zeros : List Bool) → length (words_of words zeros) ≡ 8 * length zeros
unfolding words_of
length-words_of words zeros = length-map-range_with_len (word_in words zeros) 0 (8 * length zeros)

pub get_or-words_of : (words : List ℕ) (zeros : List Bool) (k : ℕ) → k < 8 * length zeros → get_or (words_of words zeros) k 0 ≡ word_in words zeros k
unfolding words_of
get_or-words_of words zeros k below = get_or-map-range_with_len (word_in words zeros) 0 (8 * length zeros) k k 0 below (omega arith)

-- a word of a piece with a mark is 0
pub word-marked : (words : List ℕ) (zeros : List Bool) (k : ℕ) → k < 8 * length zeros → get_or zeros (k / 8) true ≡ true →
    get_or (words_of words zeros) k 0 ≡ 0
word-marked words zeros k below marked =
    get_or-words_of words zeros k below ∙ ap (λ b. if b then 0 else get_or words k 0) marked

-- and of one without a mark it is there
pub word-unmarked : (words : List ℕ) (zeros : List Bool) (k : ℕ) → k < 8 * length zeros → get_or zeros (k / 8) true ≡ false →
    get_or (words_of words zeros) k 0 ≡ get_or words k 0
word-unmarked words zeros k below off =
    get_or-words_of words zeros k below ∙ ap (λ b. if b then 0 else get_or words k 0) off

pub word-there : (words : List ℕ) (zeros : List Bool) (capacity k : ℕ) → IsPacked words zeros capacity → get_or zeros (k / 8) true ≡ false →
    k < length words
word-there words zeros capacity k packed off = omega (arith, packed.there (k / 8) off)

-- words with the same marks and the same words without a mark are the same
same-words : (words new : List ℕ) (zeros marks : List Bool) → length marks ≡ length zeros →
    ((k : ℕ) → k < 8 * length zeros → word_in new marks k ≡ word_in words zeros k) → words_of new marks ≡ words_of words zeros
same-words words new zeros marks long each =
    ext_get_or 0 (words_of new marks) (words_of words zeros)
    (length-words_of new marks ∙ ap (λ n. 8 * n) long ∙ sym (length-words_of words zeros))
    (λ k there.
    let all : length (words_of new marks) ≡ 8 * length marks = length-words_of new marks in
    let below : k < 8 * length marks = omega (arith, all) in
    let within : k < 8 * length zeros = omega (arith, long) in
    get_or-words_of new marks k below ∙ each k within ∙ sym (get_or-words_of words zeros k within))

-- ---- a word is written

module _ (words : List ℕ) (zeros : List Bool) (capacity k word : ℕ) (packed : IsPacked words zeros capacity)
    (off : get_or zeros (k / 8) true ≡ false) where
  pub put-packed : IsPacked (set words k word) zeros capacity
  put-packed = record {
    room = packed.room;
    there = λ piece is. omega (arith, packed.there piece is, length-set words k word);
  }

  pub put-words : k < 8 * length zeros → words_of (set words k word) zeros ≡ set (words_of words zeros) k word
  put-words below =
      ext_get_or 0 (words_of (set words k word) zeros) (set (words_of words zeros) k word)
      (length-words_of (set words k word) zeros ∙ sym (length-set (words_of words zeros) k word ∙ length-words_of words zeros)) each
    where
      each : (i : ℕ) → i < length (words_of (set words k word) zeros) →
          get_or (words_of (set words k word) zeros) i 0 ≡ get_or (set (words_of words zeros) k word) i 0
      each i there =
          let all : length (words_of (set words k word) zeros) ≡ 8 * length zeros = length-words_of (set words k word) zeros in
          let old : length (words_of words zeros) ≡ 8 * length zeros = length-words_of words zeros in
          let within : i < 8 * length zeros = omega (arith, all) in
          let in_words : k < length words = word-there words zeros capacity k packed off in
          let in_old : k < length (words_of words zeros) = omega (arith, old) in
          elim (cases_eq i k) [
            | inl e ↦
                ap (λ x. get_or (words_of (set words k word) zeros) x 0) e
                ∙ word-unmarked (set words k word) zeros k below off
                ∙ get_or-set_same words k word 0 in_words
                ∙ sym (get_or-set_same (words_of words zeros) k word 0 in_old)
                ∙ sym (ap (λ x. get_or (set (words_of words zeros) k word) x 0) e)
            | inr other ↦
                get_or-words_of (set words k word) zeros i within
                ∙ ap (λ x. if get_or zeros (i / 8) true then 0 else x) (get_or-set_other words k i word 0 other)
                ∙ sym (get_or-words_of words zeros i within)
                ∙ sym (get_or-set_other (words_of words zeros) k i word 0 other)
          ]

-- ---- a mark is taken away

module _ (words new : List ℕ) (zeros : List Bool) (capacity larger piece : ℕ) (packed : IsPacked words zeros capacity)
    (is : piece < length zeros) (marked : get_or zeros piece true ≡ true) (more : capacity ≤ larger)
    (long : 8 * piece + 8 ≤ length new) (grown : length words ≤ length new)
    (cleared : (k : ℕ) → 8 * piece ≤ k → k < 8 * piece + 8 → get_or new k 0 ≡ 0)
    (others : (k : ℕ) → (k < 8 * piece) ⊎ (8 * piece + 8 ≤ k) → get_or new k 0 ≡ get_or words k 0) where
  pub unmarked : get_or (set zeros piece false) piece true ≡ false
  unmarked = get_or-set_same zeros piece false true is

  pub unmarked-packed : IsPacked new (set zeros piece false) larger
  unmarked-packed = record {
    room = omega (arith, packed.room, length-set zeros piece false);
    there = λ p off. elim (cases_eq p piece) [
      | inl e ↦ omega (arith, e, long)
      | inr other ↦
          let before : get_or zeros p true ≡ false = sym (get_or-set_other zeros piece p false true other) ∙ off in
          omega (arith, packed.there p before, grown)
    ];
  }

  pub unmarked-words : words_of new (set zeros piece false) ≡ words_of words zeros
  unmarked-words = same-words words new zeros (set zeros piece false) (length-set zeros piece false) each
    where
      each : (k : ℕ) → k < 8 * length zeros → word_in new (set zeros piece false) k ≡ word_in words zeros k
      each k below = elim (cases_eq (k / 8) piece) [
        | inl e ↦
            let first : 8 * piece ≤ k = omega (arith, e) in
            let last : k < 8 * piece + 8 = omega (arith, e) in
            ap (λ p. if get_or (set zeros piece false) p true then 0 else get_or new k 0) e
            ∙ ap (λ b. if b then 0 else get_or new k 0) unmarked
            ∙ cleared k first last
            ∙ sym (ap (λ b. if b then 0 else get_or words k 0) (ap (λ p. get_or zeros p true) e ∙ marked))
        | inr other ↦
            let apart : (k < 8 * piece) ⊎ (8 * piece + 8 ≤ k) = elim (cases_lt k (8 * piece)) [
              | inl below ↦ inl below
              | inr from ↦ inr (omega (arith, from, other))
            ] in
            ap (λ b. if b then 0 else get_or new k 0) (get_or-set_other zeros piece (k / 8) false true other)
            ∙ ap (λ x. if get_or zeros (k / 8) true then 0 else x) (others k apart)
      ]

-- ---- marks are set

module _ (words : List ℕ) (zeros marks : List Bool) (capacity from to : ℕ) (packed : IsPacked words zeros capacity)
    (long : length marks ≡ length zeros) (order : to ≤ length zeros)
    (inside : (p : ℕ) → from ≤ p → p < to → get_or marks p true ≡ true)
    (others : (p : ℕ) → (p < from) ⊎ (to ≤ p) → get_or marks p true ≡ get_or zeros p true) where
  pub marked-packed : IsPacked words marks capacity
  marked-packed = record { room = omega (arith, packed.room, long); there = there }
    where
      there : (p : ℕ) → get_or marks p true ≡ false → 8 * p + 8 ≤ length words
      there p off = elim (cases_lt p from) [
        | inl below ↦ packed.there p (sym (others p (inl below)) ∙ off)
        | inr above ↦ elim (cases_lt p to) [
          | inl within ↦ absurd (false≢true (sym off ∙ inside p above within))
          | inr past ↦ packed.there p (sym (others p (inr past)) ∙ off)
        ]
      ]

  pub marked-length : length (words_of words marks) ≡ length (words_of words zeros)
  marked-length = length-words_of words marks ∙ ap (λ n. 8 * n) long ∙ sym (length-words_of words zeros)

  pub marked-inside : (k : ℕ) → 8 * from ≤ k → k < 8 * to → get_or (words_of words marks) k 0 ≡ 0
  marked-inside k first last =
      let below : k < 8 * length marks = omega (arith, long, order) in
      word-marked words marks k below (inside (k / 8) (omega (arith, first)) (omega (arith, last)))

  pub marked-others : (k : ℕ) → (k < 8 * from) ⊎ (8 * to ≤ k) → get_or (words_of words marks) k 0 ≡ get_or (words_of words zeros) k 0
  marked-others k apart = elim (cases_lt k (8 * length zeros)) [
    | inl below ↦
        let within : k < 8 * length marks = omega (arith, below, long) in
        get_or-words_of words marks k within
        ∙ ap (λ b. if b then 0 else get_or words k 0) (others (k / 8) (piece apart))
        ∙ sym (get_or-words_of words zeros k below)
    | inr past ↦
        let all : length (words_of words marks) ≡ 8 * length marks = length-words_of words marks in
        let old : length (words_of words zeros) ≡ 8 * length zeros = length-words_of words zeros in
        get_or_past (words_of words marks) k 0 (omega (arith, past, all, long))
        ∙ sym (get_or_past (words_of words zeros) k 0 (omega (arith, past, old)))
  ]
    where
      piece : (k < 8 * from) ⊎ (8 * to ≤ k) → (k / 8 < from) ⊎ (to ≤ k / 8)
      piece (inl below) = inl (omega (arith, below))
      piece (inr above) = inr (omega (arith, above))

-- ---- all marked

pub blank-packed : (words : List ℕ) (n capacity : ℕ) → 8 * n ≤ capacity → IsPacked words (replicate n true) capacity
blank-packed words n capacity room = record {
  room = omega (arith, room, length-replicate n true);
  there = λ p off. absurd (false≢true (sym off ∙ marks n p));
}
  where
    marks : (n p : ℕ) → get_or (replicate n true) p true ≡ true
    marks zero p = refl
    marks (suc n) zero = refl
    marks (suc n) (suc p) = marks n p

-- all words are zero
pub blank-words : (words : List ℕ) (n : ℕ) → words_of words (replicate n true) ≡ replicate (8 * n) 0
blank-words words n =
    ext_get_or 0 (words_of words (replicate n true)) (replicate (8 * n) 0)
    (all ∙ sym (length-replicate (8 * n) 0)) each
  where
    all : length (words_of words (replicate n true)) ≡ 8 * n
    all = length-words_of words (replicate n true) ∙ ap (λ m. 8 * m) (length-replicate n true)

    each : (k : ℕ) → k < length (words_of words (replicate n true)) → get_or (words_of words (replicate n true)) k 0 ≡ get_or (replicate (8 * n) 0) k 0
    each k there =
        let below : k < 8 * n = omega (arith, all) in
        let long : length (replicate n true) ≡ n = length-replicate n true in
        let within : k < 8 * length (replicate n true) = omega (arith, long) in
        let place : k / 8 < n = omega arith in
        word-marked words (replicate n true) k within (get_or-replicate n (k / 8) true true place)
        ∙ sym (get_or-replicate (8 * n) k 0 0 below)
