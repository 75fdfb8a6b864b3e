-- Which bytes the words of a line have, and how a line is taken apart.
use Rattle.std.proofs.Common.{◌≡◌, ℕ, zero, suc, ◌+◌, ◌/◌, ◌%◌, ◌^◌, ◌<◌, ◌≤◌, Bool, true, false, List, [], ◌∷◌, ◌++◌, length, drop, refl, ap, sym, ◌∙◌, arith, append_assoc, length-append}
use Rattle.std.specs.Fmt.{decimal}
use Rattle.std.specs.List.{after_first, before_first, join_with_byte, position_or_len, slice_split}
use Rattle.std.proofs.lemmas.Bool.{ne_eqb}
use Rattle.std.proofs.lemmas.Bool.Decides.{nat_tests}
use Rattle.std.proofs.lemmas.Fmt.{decimal_by_steps}
use Rattle.std.proofs.lemmas.List.{drop_at, take_at}
use Rattle.flat_model.specs.Text.{hex_digit, hex_digits, hex_word}
use Rattle.run_log.specs.LineWords.{is_dot, is_hash, is_space, words_of}

-- each byte is above a number
abbrev pub AllAbove : ℕ → List ℕ → Type 0
AllAbove m [] = Unit {0}
AllAbove m (b ∷ bs) = (m < b) × AllAbove m bs

pub above-append : (m : ℕ) (xs ys : List ℕ) → AllAbove m xs → AllAbove m ys → AllAbove m (xs ++ ys)
above-append m [] ys p q = q
above-append m (x ∷ xs) ys p q = (p.0, above-append m xs ys p.1 q)

pub above-lower : (m n : ℕ) (xs : List ℕ) → m ≤ n → AllAbove n xs → AllAbove m xs
above-lower m n [] h p = tt
above-lower m n (x ∷ xs) h p = (omega (arith, p.0), above-lower m n xs h p.1)

-- each word's bytes are above that of a space
abbrev pub AreWords : List (List ℕ) → Type 0
AreWords [] = Unit {0}
AreWords (w ∷ ws) = AllAbove 32 w × AreWords ws

pub words-append : (vs ws : List (List ℕ)) → AreWords vs → AreWords ws → AreWords (vs ++ ws)
words-append [] ws p q = q
words-append (v ∷ vs) ws p q = (p.0, words-append vs ws p.1 q)

pub above_decimal : (n : ℕ) → n < 2 ^ 64 → AllAbove 47 (decimal n)
above_decimal n h =
    decimal_by_steps (λ m ds. AllAbove 47 ds) (λ m small. (omega arith, tt))
    (λ m ds _ front. above-append 47 ds ((48 + m % 10) ∷ []) front (omega arith, tt)) n h

above_hex_digit : (d : ℕ) → d < 16 → 47 < hex_digit d
above_hex_digit d h = grind (arith, nat_tests)

above_hex_digits : (k n : ℕ) → AllAbove 47 (hex_digits k n)
above_hex_digits zero n = tt
above_hex_digits (suc k) n =
    above-append 47 (hex_digits k (n / 16)) (hex_digit (n % 16) ∷ []) (above_hex_digits k (n / 16)) (above_hex_digit (n % 16) (omega arith), tt)

pub above_hex : (n : ℕ) → AllAbove 47 (hex_word n)
unfolding hex_word
above_hex n = (omega arith, (omega arith, above_hex_digits 8 n))

-- a byte ends what stands before it, where that has bytes above it
module _ (p : ℕ → Bool) (m : ℕ) (is : p m ≡ true) (above : (b : ℕ) → m < b → p b ≡ false) where
  place_of_first : (xs ys : List ℕ) → AllAbove m xs → position_or_len p (xs ++ m ∷ ys) ≡ length xs
  place_of_first [] ys h = rw is refl
  place_of_first (x ∷ xs) ys h = rw (above x h.0, place_of_first xs ys h.1) (omega arith)

  -- what stands before the byte
  pub before_first_is : (xs ys : List ℕ) → AllAbove m xs → before_first p (xs ++ m ∷ ys) ≡ xs
  before_first_is xs ys h = rw (place_of_first xs ys h) (take_at xs (m ∷ ys) (length xs) refl)

  -- what stands after it
  pub after_first_is : (xs ys : List ℕ) → AllAbove m xs → after_first p (xs ++ m ∷ ys) ≡ ys
  after_first_is xs ys h =
      rw (place_of_first xs ys h) (ap (drop (length xs + 1)) (sym (append_assoc xs (m ∷ []) ys)) ∙ drop_at (xs ++ m ∷ []) ys (length xs + 1) (length-append xs (m ∷ [])))

pub dot_is : is_dot 46 ≡ true
unfolding is_dot
dot_is = refl

pub dot_above : (b : ℕ) → 46 < b → is_dot b ≡ false
unfolding is_dot
dot_above b h = ne_eqb b 46 (λ e. absurd (omega (arith, e)))

pub hash_is : is_hash 35 ≡ true
unfolding is_hash
hash_is = refl

pub hash_above : (b : ℕ) → 35 < b → is_hash b ≡ false
unfolding is_hash
hash_above b h = ne_eqb b 35 (λ e. absurd (omega (arith, e)))

space_is : is_space 32 ≡ true
unfolding is_space
space_is = refl

space_above : (b : ℕ) → 32 < b → is_space b ≡ false
unfolding is_space
space_above b h = ne_eqb b 32 (λ e. absurd (omega (arith, e)))

first_word : (w : List ℕ) (rest : List ℕ) → AllAbove 32 w → slice_split is_space (w ++ 32 ∷ rest) ≡ w ∷ slice_split is_space rest
first_word [] rest h = rw space_is
first_word (b ∷ bs) rest h = rw (space_above b h.0, first_word bs rest h.1)

last_word : (w : List ℕ) → AllAbove 32 w → slice_split is_space w ≡ w ∷ []
last_word [] h = refl
last_word (b ∷ bs) h = rw (space_above b h.0, last_word bs h.1)

-- the words of words with one space between them
pub words_of-join : (w : List ℕ) (ws : List (List ℕ)) → AreWords (w ∷ ws) → words_of (join_with_byte 32 (w ∷ ws)) ≡ w ∷ ws
words_of-join w [] h = last_word w h.0
words_of-join w (v ∷ vs) h = first_word w (join_with_byte 32 (v ∷ vs)) h.0 ∙ ap (λ xs. w ∷ xs) (words_of-join v vs h.1)

-- words with one space between them have no line feed
pub join_above : (ws : List (List ℕ)) → AreWords ws → AllAbove 10 (join_with_byte 32 ws)
join_above [] h = tt
join_above (w ∷ []) h = above-lower 10 32 w (omega arith) h.0
join_above (w ∷ v ∷ vs) h =
    above-append 10 w (32 ∷ join_with_byte 32 (v ∷ vs)) (above-lower 10 32 w (omega arith) h.0) (omega arith, join_above (v ∷ vs) h.1)
