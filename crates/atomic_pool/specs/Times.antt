-- How often a number is in a list.
use Rattle.std.specs.Prelude.{ℕ, ◌==◌, List, count_by}

-- how often the number is in the list
abbrev pub times : ℕ → List ℕ → ℕ
times k xs = count_by (λ x. x == k) xs
