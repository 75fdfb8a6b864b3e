-- The words of a line that is made of words and spaces.
use Rattle.std.proofs.Common.{◌≡◌, ℕ, ◌≤◌, true, false, not, List, [], ◌∷◌, ◌++◌, length, refl, ap, ◌∙◌, arith, append-nil}
use Rattle.std.specs.Prelude.{nat_eq, filter}
use Rattle.std.specs.List.{slice_split, prefix_len}
use Rattle.std.proofs.Math.Seq.{take-length}
use Rattle.std.proofs.lemmas.Bool.{ne_eqb}
use Rattle.box_program.specs.Words.{is_line_feed, is_semicolon, is_blank, has_bytes, lines, code_part, words}

-- a byte that a shown word can have: no byte that ends a word, a line or its code
abbrev pub IsSolid : ℕ → Type 0
IsSolid b = (48 ≤ b) × (nat_eq b 59 ≡ false)

-- each byte is one
abbrev pub AllSolid : List ℕ → Type 0
AllSolid [] = Unit {0}
AllSolid (b ∷ bs) = IsSolid b × AllSolid bs

-- a shown word
pub record IsShownWord (word : List ℕ) : Type 0 where
  pub solid : AllSolid word
  pub some : has_bytes word ≡ true

-- each is a shown word
abbrev pub AreShownWords : List (List ℕ) → Type 0
AreShownWords [] = Unit {0}
AreShownWords (w ∷ ws) = IsShownWord w × AreShownWords ws

-- words, each after a space
abbrev pub spaced : List (List ℕ) → List ℕ
spaced [] = []
spaced (w ∷ ws) = 32 ∷ (w ++ spaced ws)

pub AllSolid-append : (xs ys : List ℕ) → AllSolid xs → AllSolid ys → AllSolid (xs ++ ys)
AllSolid-append [] ys p q = q
AllSolid-append (x ∷ xs) ys p q = (p.0, AllSolid-append xs ys p.1 q)

-- a byte that neither ends a line nor begins a comment
abbrev IsPlain : ℕ → Type 0
IsPlain b = (is_line_feed b ≡ false) × (is_semicolon b ≡ false)

abbrev AllPlain : List ℕ → Type 0
AllPlain [] = Unit {0}
AllPlain (b ∷ bs) = IsPlain b × AllPlain bs

solid_plain : (b : ℕ) → IsSolid b → IsPlain b
unfolding is_line_feed is_semicolon
solid_plain b h = (ne_eqb b 10 (λ e. absurd (omega (arith, e, h.0))), h.1)

solid_word : (b : ℕ) → IsSolid b → is_blank b ≡ false
unfolding is_blank
solid_word b h =
    let space : nat_eq b 32 ≡ false = ne_eqb b 32 (λ e. absurd (omega (arith, e, h.0))) in
    let tab : nat_eq b 9 ≡ false = ne_eqb b 9 (λ e. absurd (omega (arith, e, h.0))) in
    let return : nat_eq b 13 ≡ false = ne_eqb b 13 (λ e. absurd (omega (arith, e, h.0))) in
    rw (space, tab, return)

space_plain : IsPlain 32
unfolding is_line_feed is_semicolon
space_plain = (refl, refl)

space_blank : is_blank 32 ≡ true
unfolding is_blank
space_blank = refl

AllPlain-append : (xs ys : List ℕ) → AllSolid xs → AllPlain ys → AllPlain (xs ++ ys)
AllPlain-append [] ys p q = q
AllPlain-append (x ∷ xs) ys p q = (solid_plain x p.0, AllPlain-append xs ys p.1 q)

spaced_plain : (ws : List (List ℕ)) → AreShownWords ws → AllPlain (spaced ws)
spaced_plain [] h = tt
spaced_plain (w ∷ ws) h = (space_plain, AllPlain-append w (spaced ws) h.0.solid (spaced_plain ws h.1))

one_line : (text : List ℕ) → AllPlain text → slice_split is_line_feed text ≡ text ∷ []
one_line [] h = refl
one_line (b ∷ bs) h = rw (h.0.0, one_line bs h.1)

no_comment : (text : List ℕ) → AllPlain text → prefix_len (λ b. not (is_semicolon b)) text ≡ length text
no_comment [] h = refl
no_comment (b ∷ bs) h = rw (h.0.1, no_comment bs h.1) (omega arith)

all_code : (text : List ℕ) → AllPlain text → code_part text ≡ text
unfolding code_part
all_code text h = rw (no_comment text h) (take-length text)

first_word : (w : List ℕ) (rest : List ℕ) → AllSolid w → slice_split is_blank (w ++ 32 ∷ rest) ≡ w ∷ slice_split is_blank rest
first_word [] rest h = rw space_blank
first_word (b ∷ bs) rest h = rw (solid_word b h.0, first_word bs rest h.1)

last_word : (w : List ℕ) → AllSolid w → slice_split is_blank w ≡ w ∷ []
last_word [] h = refl
last_word (b ∷ bs) h = rw (solid_word b h.0, last_word bs h.1)

split_words : (w : List ℕ) (ws : List (List ℕ)) → AllSolid w → AreShownWords ws → slice_split is_blank (w ++ spaced ws) ≡ w ∷ ws
split_words w [] h hs = rw (append-nil w) (last_word w h)
split_words w (v ∷ vs) h hs = first_word w (v ++ spaced vs) h ∙ ap (λ xs. w ∷ xs) (split_words v vs hs.0.solid hs.1)

all_kept : (ws : List (List ℕ)) → AreShownWords ws → filter has_bytes ws ≡ ws
all_kept [] h = refl
all_kept (w ∷ ws) h = rw (h.0.some, all_kept ws h.1)

-- the words of such a line
pub words_spaced : (w : List ℕ) (ws : List (List ℕ)) → IsShownWord w → AreShownWords ws → words (w ++ spaced ws) ≡ w ∷ ws
unfolding words
words_spaced w ws h hs =
    rw (all_code (w ++ spaced ws) (AllPlain-append w (spaced ws) h.solid (spaced_plain ws hs)), split_words w ws h.solid hs) (all_kept (w ∷ ws) (h, hs))

-- and such a text has one line
pub lines_spaced : (w : List ℕ) (ws : List (List ℕ)) → IsShownWord w → AreShownWords ws → lines (w ++ spaced ws) ≡ (w ++ spaced ws) ∷ []
unfolding lines
lines_spaced w ws h hs = one_line (w ++ spaced ws) (AllPlain-append w (spaced ws) h.solid (spaced_plain ws hs))
