-- The lines of a program text, and the words of a line.
use Rattle.std.specs.Prelude.{ℕ, Bool, ◌==◌, ◌||◌, not, List, length, filter}
use Rattle.std.specs.List.{slice_split, before_first}

-- whether the byte separates lines: a line feed
unfoldable pub is_line_feed : ℕ → Bool
is_line_feed b = b == 10

-- whether the byte begins a comment: a semicolon
unfoldable pub is_semicolon : ℕ → Bool
is_semicolon b = b == 59

-- whether the byte separates words: a space, a tab or a carriage return
unfoldable pub is_blank : ℕ → Bool
is_blank b = b == 32 || b == 9 || b == 13

-- whether the list has a byte
unfoldable pub has_bytes : List ℕ → Bool
has_bytes bytes = not (length bytes == 0)

-- the lines of a text
unfoldable pub lines : List ℕ → List (List ℕ)
lines text = slice_split is_line_feed text

-- what stands before a line's comment
unfoldable pub code_part : List ℕ → List ℕ
code_part line = before_first is_semicolon line

-- the words of a line
unfoldable pub words : List ℕ → List (List ℕ)
words line = filter has_bytes (slice_split is_blank (code_part line))
