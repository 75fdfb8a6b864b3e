-- What the first word of a line is, and which words are behind it.
use Rattle.std.proofs.Common.{◌≡◌, ℕ, ◌+◌, ◌<◌, ◌≤◌, Bool, true, false, List, [], ◌∷◌, length, take, drop, refl, ap, sym, ◌∙◌, arith}
use Rattle.std.specs.Prelude.{if◌then◌else◌}
use Rattle.std.specs.List.{position_or_len, slice_split}
use Rattle.std.proofs.lemmas.List.Splits.{slice_split_first}
use Rattle.run_log.specs.LineWords.{first_of, is_space, rest_of, words_of}

-- a line without a space is one word
one_word : (p : ℕ → Bool) (line : List ℕ) → length line ≤ position_or_len p line → slice_split p line ≡ line ∷ []
one_word p [] all = refl
one_word p (b ∷ bs) all = by_test (p b) refl (one_word p bs)
  where
    by_test : (t : Bool) → p b ≡ t → (length bs ≤ position_or_len p bs → slice_split p bs ≡ bs ∷ []) →
        slice_split p (b ∷ bs) ≡ (b ∷ bs) ∷ []
    by_test true is rest = absurd (let none : position_or_len p (b ∷ bs) ≡ 0 = rw is refl in omega (arith, none, all))
    by_test false is rest =
        let step : position_or_len p (b ∷ bs) ≡ 1 + position_or_len p bs = rw is (omega arith) in
        rw (is, rest (omega (arith, step, all))) refl

-- the words that are left, where there may be none
abbrev pub left : Bool → List ℕ → List (List ℕ)
left more line = if more then words_of line else []

pub none_left : (more : Bool) (line : List ℕ) (words : List (List ℕ)) → left more line ≡ words → more ≡ false → words ≡ []
none_left true line words is off = absurd (cc)
none_left false line words is off = sym is

pub some_left : (more : Bool) (line : List ℕ) (words : List (List ℕ)) → left more line ≡ words → more ≡ true → words ≡ words_of line
some_left true line words is on = sym is
some_left false line words is on = absurd (cc)

pub first_of-none : [] ≡ first_of []
unfolding first_of
first_of-none = refl

pub rest_of-none : [] ≡ rest_of []
unfolding rest_of
rest_of-none = refl

pub first_of-more : (line : List ℕ) → position_or_len is_space line < length line →
    first_of (words_of line) ≡ take (position_or_len is_space line) line
unfolding first_of
first_of-more line some = ap first_of (slice_split_first is_space line 0 some)

pub rest_of-more : (line : List ℕ) → position_or_len is_space line < length line →
    rest_of (words_of line) ≡ words_of (drop (position_or_len is_space line + 1) line)
unfolding rest_of
rest_of-more line some = ap rest_of (slice_split_first is_space line 0 some)

pub first_of-last : (line : List ℕ) → length line ≤ position_or_len is_space line → first_of (words_of line) ≡ line
unfolding first_of
first_of-last line none = ap first_of (one_word is_space line none)

pub rest_of-last : (line : List ℕ) → length line ≤ position_or_len is_space line → rest_of (words_of line) ≡ []
unfolding rest_of
rest_of-last line none = ap rest_of (one_word is_space line none)
