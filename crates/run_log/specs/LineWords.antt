-- Inner: no public contract cites this. The words of a line, and the numbers that they write.
use Rattle.std.specs.Prelude.{ℕ, ◌+◌, ◌-◌, ◌*◌, Bool, nat_eq, nat_lt, min, List, [], ◌∷◌, if◌then◌else◌}
use Rattle.std.specs.List.{slice_split}

-- whether the byte separates words
unfoldable pub is_space : ℕ → Bool
is_space b = nat_eq b 32

-- whether the byte ends the name in a thread
unfoldable pub is_dot : ℕ → Bool
is_dot b = nat_eq b 46

-- whether the byte ends the thread in a ticket
unfoldable pub is_hash : ℕ → Bool
is_hash b = nat_eq b 35

-- the words of a line
abbrev pub words_of : List ℕ → List (List ℕ)
words_of line = slice_split is_space line

-- the first of some words, or nothing where there is none
unfoldable pub first_of : List (List ℕ) → List ℕ
first_of [] = []
first_of (word ∷ words) = word

-- the words behind the first
unfoldable pub rest_of : List (List ℕ) → List (List ℕ)
rest_of [] = []
rest_of (word ∷ words) = words

-- the value of a digit
unfoldable pub digit_of : ℕ → ℕ
digit_of b = if nat_lt b 58 then b - 48 else (if nat_lt b 71 then b - 55 else 0)

-- the number that digits write after others
abbrev pub number_after : ℕ → ℕ → List ℕ → ℕ
number_after radix n [] = n
number_after radix n (b ∷ bs) = number_after radix (n * radix + digit_of b) bs

-- the number of 32 bits that a word writes
unfoldable pub number_of : ℕ → List ℕ → ℕ
number_of radix word = min (number_after radix 0 word) 4294967295

-- the number of 8 bits that a word writes
unfoldable pub small_of : List ℕ → ℕ
small_of word = min (number_of 10 word) 255
