-- What each call on the word of pending lines tells.
use Rattle.std.specs.Prelude.{◌≡◌, ◌≢◌, ℕ, ◌+◌, ◌<◌, List, All, sum_by, map}
use Rattle.std.specs.Int.{bit_at}
use Rattle.shared_views.specs.Views.{is_at, made_from}
use Rattle.atomic_pool.specs.Bits.{IsLowest}
use Rattle.atomic_pool.specs.LinesRule.{LinesValue, LineSeatValue, number_of, openness, raises_of, sets_of, takes_of, looked_part, raised_part, took_part, missed_part, with_part, fresh_seat}
use Rattle.atomic_pool.specs.declared.lines.LinePart.{LinePart}
use Rattle.atomic_pool.specs.declared.lines.Rang.{Rang}
use Rattle.atomic_pool.specs.declared.lines.Rang.TheVariants.{Rung, Quiet, Missed}

-- the seat raised the line by a fetch of this call, which found some word
pub record HasRaised (l : ℕ) (before after : LineSeatValue) : Type 0 where
  pub found : ℕ
  pub is : after ≡ with_part before (raised_part l found before.part)

-- the line was the lowest of the word read in this call, and in the word that its fetch found
pub record HasTaken (l : ℕ) (before after : LineSeatValue) : Type 0 where
  pub seen : ℕ
  pub found : ℕ
  pub lowest : IsLowest seen l
  pub there : bit_at found l ≡ 1
  pub is : after ≡ with_part before (took_part l found (looked_part seen before.part))

-- the line was the lowest of the word read in this call, and not in the word that its fetch found
pub record HasMissed (l found : ℕ) (before after : LineSeatValue) : Type 0 where
  pub seen : ℕ
  pub lowest : IsLowest seen l
  pub gone : bit_at found l ≡ 0
  pub is : after ≡ with_part before (missed_part found (looked_part seen before.part))

-- What a call that takes the lowest line did. It is quiet only where its load gave 0.
abbrev pub HasRung : LineSeatValue → Rang → LineSeatValue → Type 0
HasRung before (Rung r) after = HasTaken r.line.0 before after × (r.number ≡ before.part.number)
HasRung before Quiet after = after ≡ with_part before (looked_part 0 before.part)
HasRung before (Missed line found) after = HasMissed line.0 found before after

-- the parts of the seats
abbrev pub parts_of : List LineSeatValue → List LinePart
parts_of seats = map (λ s. s.part) seats

-- a new word for n seats, and its seats in order
pub record AreFresh (n : ℕ) (lines : LinesValue) (seats : List LineSeatValue) : Type 0 where
  pub count : lines.count ≡ n
  pub in_order : seats ≡ made_from (fresh_seat lines.id) 0 n

-- all seats of the word, in any order
pub record AreAll (lines : LinesValue) (seats : List LineSeatValue) : Type 0 where
  pub of : All (λ s. s.lines ≡ lines.id) seats
  pub all : (k : ℕ) → k < lines.count → 0 < sum_by (is_at number_of k) (parts_of seats)

-- What is known of the lines that are left pending when all seats are given back.
pub record IsLeft (word : ℕ) (seats : List LineSeatValue) : Type 0 where
  pub some_open : word ≢ 0 → 0 < sum_by openness (parts_of seats)
  pub balanced : (l : ℕ)
      → sum_by (sets_of l) (parts_of seats) ≡ sum_by (takes_of l) (parts_of seats) + bit_at word l
  pub heard : (l : ℕ) → 0 < sum_by (raises_of l) (parts_of seats)
      → 0 < sum_by (sets_of l) (parts_of seats)
