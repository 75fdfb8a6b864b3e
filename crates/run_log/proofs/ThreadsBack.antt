-- What is printed of a box, a thread and a ticket reads as that box, thread and ticket.
use Rattle.std.proofs.Common.{◌≡◌, ℕ, zero, suc, ◌+◌, ◌-◌, ◌^◌, ◌<◌, ◌≤◌, Bool, true, false, min, List, [], ◌∷◌, ◌++◌, length, replicate, Some, refl, ap, sym, ◌∙◌, arith, inl, inr, ◌⊎◌, append_assoc, zero-add}
use Rattle.std.specs.Prelude.{nat_eq, nat_le, slice_get, ◌&&◌, ◌||◌, map}
use Rattle.std.specs.Fmt.{decimal}
use Rattle.std.specs.List.{AllByRecursion, list_all, list_any, position_or_len}
use Rattle.std.specs.Option.{option_map, option_map_or}
use Rattle.std.specs.Str.{bytes_eq}
use Rattle.std.proofs.lemmas.Bool.{eq-eqb}
use Rattle.std.proofs.lemmas.Bool.Decides.{nat_tests}
use Rattle.std.proofs.lemmas.Option.{slice_get-map, slice_get_within}
use Rattle.addr_base.specs.declared.identity.BoxId.{BoxId}
use Rattle.addr_base.specs.declared.identity.ThreadId.{ThreadId}
use Rattle.addr_base.specs.declared.identity.Ticket.{Ticket}
use Rattle.addr_base.specs.declared.ranges.Range.{Range}
use Rattle.flat_model.proofs.Elements.{slice_get_some}
use Rattle.flat_model.proofs.NamedChoices.{both_true}
use Rattle.flat_model.specs.declared.boards.Board.{Board}
use Rattle.flat_model.specs.declared.parts.BoxPart.{BoxPart}
use Rattle.flat_model.specs.declared.parts.Config.{Config}
use Rattle.flat_model.specs.declared.parts.ThreadPart.{ThreadPart}
use Rattle.flat_model.specs.Names.{AreDistinctNames, is_lower, is_name, is_name_byte}
use Rattle.flat_model.specs.Placing.{common_range}
use Rattle.flat_model.specs.Sound.{AreNumbered, homes_from, IsBox, IsSound}
use Rattle.flat_model.specs.CallRows.{home_of}
use Rattle.flat_model.specs.Text.{box_name, first_thread, thread_text, ticket_text}
use Rattle.run_log.specs.LineWords.{is_dot, is_hash}
use Rattle.run_log.specs.Meanings.{box_of, thread_of, ticket_of}
use Rattle.run_log.proofs.NumberLemmas.{number_of_decimal}
use Rattle.run_log.proofs.WordLemmas.{AllAbove, above-append, above-lower, above_decimal, after_first_is, before_first_is, dot_above, dot_is, hash_above, hash_is}

name_byte_above : (b : ℕ) → is_name_byte b ≡ true → 46 < b
name_byte_above b h = grind (arith, nat_tests)

name_bytes_above : (bs : List ℕ) → list_all is_name_byte bs ≡ true → AllAbove 46 bs
name_bytes_above [] h = tt
name_bytes_above (b ∷ bs) h =
    let both = both_true (is_name_byte b) (list_all is_name_byte bs) h in (name_byte_above b both.0, name_bytes_above bs both.1)

lower_above : (b : ℕ) → is_lower b ≡ true → 46 < b
lower_above b h = grind (arith, nat_tests)

name_above : (name : List ℕ) → is_name name ≡ true → AllAbove 46 name
name_above [] h = tt
name_above (b ∷ bs) h =
    let both = both_true (is_lower b && nat_le (length bs) 15) (list_all is_name_byte bs) h in
    (lower_above b (both_true (is_lower b) (nat_le (length bs) 15) both.0).0, name_bytes_above bs both.1)

parts_above : (board : Board) (common : Range) (parts : List BoxPart) → AllByRecursion (IsBox board common) parts → (b : ℕ)
    → AllAbove 46 (option_map_or (λ part. part.name) (slice_get parts b) [])
parts_above board common [] each b = tt
parts_above board common (part ∷ parts) each zero = name_above part.name each.0.name
parts_above board common (part ∷ parts) each (suc b) = parts_above board common parts each.1 b

-- the bytes of a name are above that of a dot
pub box_name_above : (cfg : Config) (b : ℕ) → IsSound cfg → AllAbove 46 (box_name cfg b)
box_name_above cfg b sound = parts_above cfg.board (common_range cfg.board cfg.boxes) cfg.boxes sound.boxes b

homes_in : (n : ℕ) (h0 h : BoxId) (rest : List BoxId) (t : ℕ) → slice_get (replicate n h0 ++ rest) t ≡ Some h
    → (h0 ≡ h) ⊎ ((u : ℕ) × (t ≡ n + u) × (slice_get rest u ≡ Some h))
homes_in zero h0 h rest t e = inr (t, omega arith, e)
homes_in (suc n) h0 h rest zero e = inl (cc)
homes_in (suc n) h0 h rest (suc t) e =
    elim (homes_in n h0 h rest t e) [ inl same ↦ inl same | inr later ↦ inr (later.0, omega (arith, later.1), later.2) ]

-- the box of this number, whose first thread is not after another
record IsHome (b : ℕ) (parts : List BoxPart) (t : ℕ) (h : BoxId) : Type 0 where
  pub place : ℕ
  pub part : BoxPart
  pub found : slice_get parts place ≡ Some part
  pub number : h.0 ≡ b + place
  pub first : part.first ≤ t

home_is : (b first : ℕ) (parts : List BoxPart) (t : ℕ) (h : BoxId) → AreNumbered first parts → slice_get (homes_from b parts) t ≡ Some h → IsHome b parts (first + t) h
home_is b first [] t h numbered e = absurd (cc)
home_is b first (part ∷ parts) t h numbered e =
    elim (homes_in part.threads (record { 0 = b }) h (homes_from (b + 1) parts) t e) [
      | inl same ↦ record { place = 0; part = part; found = refl; number = sym (ap (λ id. id.0) same) ∙ omega arith; first = omega (arith, numbered.0) }
      | inr later ↦
          let rest = home_is (b + 1) (first + part.threads) parts later.0 h numbered.4 later.2 in
          record {
            place = suc rest.place;
            part = rest.part;
            found = rest.found;
            number = omega (arith, rest.number);
            first = omega (arith, rest.first, later.1);
          }
    ]

-- the home of a thread of a sound configuration
thread_home : (cfg : Config) (t : ℕ) → IsSound cfg → t < length cfg.threads → IsHome 0 cfg.boxes t (home_of cfg t)
thread_home cfg t sound below =
    let some = slice_get_some cfg.threads t below in
    let home : home_of cfg t ≡ some.0.home = ap (λ o. option_map_or (λ (thread : ThreadPart). thread.home) o (record { 0 = 0 })) some.1 in
    let listed : slice_get (map (λ (thread : ThreadPart). thread.home) cfg.threads) t ≡ Some some.0.home =
    slice_get-map (λ (thread : ThreadPart). thread.home) cfg.threads t ∙ ap (option_map (λ (thread : ThreadPart). thread.home)) some.1 in
    let found : slice_get (homes_from 0 cfg.boxes) t ≡ Some some.0.home = sym (ap (λ hs. slice_get hs t) sound.homes) ∙ listed in
    let is : IsHome 0 cfg.boxes (0 + t) some.0.home = home_is 0 0 cfg.boxes t some.0.home sound.numbered found in
    rw home (record { place = is.place; part = is.part; found = is.found; number = is.number; first = omega (arith, is.first) })

none_true : (x y : Bool) → (x || y) ≡ false → (x ≡ false) × (y ≡ false)
none_true true y h = absurd (cc)
none_true false y h = (refl, h)

bytes_eq_same : (xs : List ℕ) → bytes_eq xs xs ≡ true
bytes_eq_same [] = refl
bytes_eq_same (x ∷ xs) = let same : nat_eq x x ≡ true = eq-eqb x x refl in rw (same, bytes_eq_same xs)

none_at : (p : List ℕ → Bool) (xs : List (List ℕ)) (i : ℕ) (x : List ℕ) → list_any p xs ≡ false → slice_get xs i ≡ Some x → p x ≡ false
none_at p [] i x none found = absurd (cc)
none_at p (y ∷ ys) zero x none found = let same : y ≡ x = cc in rw (← same) (none_true (p y) (list_any p ys) none).0
none_at p (y ∷ ys) (suc i) x none found = none_at p ys i x (none_true (p y) (list_any p ys) none).1 found

place_of_name : (parts : List BoxPart) (k : ℕ) (part : BoxPart) → AreDistinctNames (map (λ q. q.name) parts) → slice_get parts k ≡ Some part
    → position_or_len (λ q. bytes_eq q.name part.name) parts ≡ k
place_of_name [] k part distinct found = absurd (cc)
place_of_name (q ∷ qs) zero part distinct found =
    let same : q ≡ part = cc in
    let passes : bytes_eq q.name part.name ≡ true = rw same (bytes_eq_same part.name) in
    rw passes refl
place_of_name (q ∷ qs) (suc k) part distinct found =
    let listed : slice_get (map (λ (p : BoxPart). p.name) qs) k ≡ Some part.name =
    slice_get-map (λ (p : BoxPart). p.name) qs k ∙ ap (option_map (λ (p : BoxPart). p.name)) found in
    let other : bytes_eq q.name part.name ≡ false = none_at (bytes_eq q.name) (map (λ (p : BoxPart). p.name) qs) k part.name distinct.0 listed in
    rw (other, place_of_name qs k part distinct.1 found) (omega arith)

-- the name of a box reads as that box
box_of_found : (cfg : Config) (b : ℕ) (part : BoxPart) → IsSound cfg → slice_get cfg.boxes b ≡ Some part → box_of cfg (box_name cfg b) ≡ record { 0 = b }
unfolding box_of
box_of_found cfg b part sound found =
    let name : box_name cfg b ≡ part.name = ap (λ o. option_map_or (λ (p : BoxPart). p.name) o []) found in
    let place = place_of_name cfg.boxes b part sound.names_once found in
    let below : b < length cfg.boxes = slice_get_within cfg.boxes b part found in
    let number : min b 255 ≡ b = omega (arith, sound.limits.boxes, below) in
    rw (name, place, number) refl

pub box_of_name : (cfg : Config) (b : BoxId) → IsSound cfg → b.0 < length cfg.boxes → box_of cfg (box_name cfg b.0) ≡ b
box_of_name cfg b sound below = let some = slice_get_some cfg.boxes b.0 below in box_of_found cfg b.0 some.0 sound some.1

thread_split : (cfg : Config) (t : ThreadId) → thread_text cfg t ≡ box_name cfg (home_of cfg t.0).0 ++ (46 ∷ decimal (t.0 - first_thread cfg (home_of cfg t.0).0))
unfolding thread_text
thread_split cfg t = append_assoc (box_name cfg (home_of cfg t.0).0) (46 ∷ []) (decimal (t.0 - first_thread cfg (home_of cfg t.0).0))

-- the text of a thread reads as that thread
pub thread_of_text : (cfg : Config) (t : ThreadId) → IsSound cfg → t.0 < length cfg.threads → thread_of cfg (thread_text cfg t) ≡ t
unfolding thread_of
thread_of_text cfg t sound below =
    let home = home_of cfg t.0 in
    let is = thread_home cfg t.0 sound below in
    let found : slice_get cfg.boxes home.0 ≡ Some is.part = ap (slice_get cfg.boxes) (is.number ∙ zero-add is.place) ∙ is.found in
    let first : first_thread cfg home.0 ≡ is.part.first = ap (λ o. option_map_or (λ (p : BoxPart). p.first) o 0) found in
    let index = t.0 - first_thread cfg home.0 in
    let above = box_name_above cfg home.0 sound in
    let before = before_first_is is_dot 46 dot_is dot_above (box_name cfg home.0) (decimal index) above in
    let after = after_first_is is_dot 46 dot_is dot_above (box_name cfg home.0) (decimal index) above in
    let few : t.0 < 16 = omega (arith, sound.limits.threads, below) in
    let number : min (min (first_thread cfg home.0 + index) 4294967295) 255 ≡ t.0 = omega (arith, first, is.first, few) in
    rw (thread_split cfg t, before, after, box_of_found cfg home.0 is.part sound found, number_of_decimal index (omega (arith, few)), number) refl

-- its bytes are above that of `#`
pub thread_above : (cfg : Config) (t : ThreadId) → IsSound cfg → t.0 < 2 ^ 64 → AllAbove 35 (thread_text cfg t)
thread_above cfg t sound small =
    let home = home_of cfg t.0 in
    let index = t.0 - first_thread cfg home.0 in
    rw thread_split (above-append 35 (box_name cfg home.0) (46 ∷ decimal index) (above-lower 35 46 (box_name cfg home.0) (omega arith) (box_name_above cfg home.0 sound))
    (omega arith, above-lower 35 47 (decimal index) (omega arith) (above_decimal index (omega (arith, small)))))

ticket_split : (cfg : Config) (ticket : Ticket) → ticket_text cfg ticket ≡ thread_text cfg ticket.thread ++ (35 ∷ decimal ticket.seq)
ticket_split cfg ticket = append_assoc (thread_text cfg ticket.thread) (35 ∷ []) (decimal ticket.seq)

-- the text of a ticket reads as that ticket
pub ticket_of_text : (cfg : Config) (ticket : Ticket) → IsSound cfg → ticket.thread.0 < length cfg.threads → ticket.seq < 2 ^ 32 → ticket_of cfg (ticket_text cfg ticket) ≡ ticket
unfolding ticket_of
ticket_of_text cfg ticket sound below small =
    let above = thread_above cfg ticket.thread sound (omega (arith, sound.limits.threads, below)) in
    let before = before_first_is is_hash 35 hash_is hash_above (thread_text cfg ticket.thread) (decimal ticket.seq) above in
    let after = after_first_is is_hash 35 hash_is hash_above (thread_text cfg ticket.thread) (decimal ticket.seq) above in
    rw (ticket_split cfg ticket, before, after, thread_of_text cfg ticket.thread sound below, number_of_decimal ticket.seq small) refl

-- its bytes are above that of a space
pub ticket_above : (cfg : Config) (ticket : Ticket) → IsSound cfg → ticket.thread.0 < 2 ^ 64 → ticket.seq < 2 ^ 64 → AllAbove 32 (ticket_text cfg ticket)
ticket_above cfg ticket sound small few =
    rw ticket_split (above-append 32 (thread_text cfg ticket.thread) (35 ∷ decimal ticket.seq)
    (above-lower 32 35 (thread_text cfg ticket.thread) (omega arith) (thread_above cfg ticket.thread sound small))
    (omega arith, above-lower 32 47 (decimal ticket.seq) (omega arith) (above_decimal ticket.seq few)))
