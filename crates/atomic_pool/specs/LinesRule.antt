-- The rule of the word of pending lines, and what a contract sees of it and of its seats.
use Rattle.std.specs.Prelude.{◌≡◌, ◌≢◌, ℕ, ◌+◌, ◌<◌, ◌≤◌, true, false, cond, ◌==◌, List, [], ◌∷◌, ◌++◌, map, filter, length, slice_index}
use Rattle.std.specs.Int.{bit_at}
use Rattle.atomic_table.specs.Table.{State, Me}
use Rattle.atomic_table.specs.Seated.{TableId}
use Rattle.shared_views.specs.Views.{of_views, is_at}
use Rattle.addr_base.specs.declared.identity.Line.{Line}
use Rattle.atomic_pool.specs.Times.{times}
use Rattle.atomic_pool.specs.Seen.{unseen, after_load, after_fetch}
use Rattle.atomic_pool.specs.declared.lines.LinePart.{LinePart}

-- the number of the part's seat
abbrev pub number_of : LinePart → ℕ
number_of p = p.number

-- the lines that the seat raised, in order
abbrev pub raised : LinePart → List ℕ
raised p = map (λ r. r.0) p.raises

-- the lines of those raises whose fetch found the bit clear
abbrev pub newly_set : LinePart → List ℕ
newly_set p = map (λ r. r.0) (filter (λ r. bit_at r.1 r.0 == 0) p.raises)

-- 1 where the seat raised a line since it last read no line pending
abbrev pub openness : LinePart → ℕ
openness p = cond p.is_open 1 0

-- how often the part's seat raised the line
abbrev pub raises_of : ℕ → LinePart → ℕ
raises_of l p = times l (raised p)

-- how often it set the line
abbrev pub sets_of : ℕ → LinePart → ℕ
sets_of l p = times l (newly_set p)

-- how often it took the line
abbrev pub takes_of : ℕ → LinePart → ℕ
takes_of l p = times l p.taken

-- The rule for n seats. It holds between any two steps.
pub record LinesRule (n : ℕ) (s : State Unit (List LinePart)) : Type 0 where
  pub one_word : length s.words ≡ 1
  pub once : (k : ℕ) → k < n → of_views (is_at number_of k) s.views ≡ 1
  pub no_other : (k : ℕ) → n ≤ k → of_views (is_at number_of k) s.views ≡ 0
  pub some_open : slice_index s.words 0 ≢ 0 → 0 < of_views openness s.views
  pub balanced : (l : ℕ)
      → of_views (sets_of l) s.views
      ≡ of_views (takes_of l) s.views + bit_at (slice_index s.words 0) l
  pub heard : (l : ℕ) → 0 < of_views (raises_of l) s.views → 0 < of_views (sets_of l) s.views

-- the part of the seat k before its first call
abbrev pub fresh_part : ℕ → LinePart
fresh_part k = record { number = k; raises = []; taken = []; is_open = false; word = unseen }

-- the part after a load that gave the word
abbrev pub looked_part : ℕ → LinePart → LinePart
looked_part word p = record p {
  is_open = cond (word == 0) false p.is_open;
  word = after_load word p.word;
}

-- the part after a raise of the line whose fetch found the word
abbrev pub raised_part : ℕ → ℕ → LinePart → LinePart
raised_part l found p = record p {
  raises = p.raises ++ (l, found) ∷ [];
  is_open = true;
  word = after_fetch found p.word;
}

-- the part after a fetch that took the line
abbrev pub took_part : ℕ → ℕ → LinePart → LinePart
took_part l found p = record p { taken = p.taken ++ l ∷ []; word = after_fetch found p.word }

-- the part after a fetch that came too late
abbrev pub missed_part : ℕ → LinePart → LinePart
missed_part found p = record p { word = after_fetch found p.word }

-- the part of a view of one part
abbrev pub only_part : List LinePart → LinePart
only_part [] = fresh_part 0
only_part (p ∷ ps) = p

-- What a contract sees of a word of lines: which it is, and for how many seats.
pub record LinesValue : Type 0 where
  pub id : TableId
  pub count : ℕ

-- What a contract sees of a seat: of which word it is, and its part.
pub record LineSeatValue : Type 0 where
  pub lines : TableId
  pub part : LinePart

-- what a contract sees of a line that was taken: the line, and the number of the seat that took it
pub record RungValue : Type 0 where
  pub line : Line
  pub number : ℕ

-- a table of one word and no slot, for some seats
pub record IsLines (id : TableId) (count : ℕ) : Type 0 where
  pub one_word : id.words ≡ 1
  pub no_slot : id.slots ≡ 0
  pub some_seat : 0 < count

-- the seat has this part alone and holds nothing
pub record IsLineSeat (number : ℕ) (me : Me Unit (List LinePart)) : Type 0 where
  pub is : me ≡ (only_part me.0 ∷ [], [])
  pub named : (only_part me.0).number ≡ number

-- the same seat with another part
abbrev pub with_part : LineSeatValue → LinePart → LineSeatValue
with_part s p = record s { part = p }

-- the seat k of a new word
abbrev pub fresh_seat : TableId → ℕ → LineSeatValue
fresh_seat id k = record { lines = id; part = fresh_part k }
