-- Boxes side by side on the board: their names, numbers and places.
use Rattle.std.proofs.Common.{◌≡◌, ℕ, ◌+◌, ◌*◌, ◌<◌, ◌≤◌, true, false, List, [], ◌∷◌, None, length, refl, arith, inl, inr}
use Rattle.std.specs.Prelude.{map, count_by}
use Rattle.std.specs.List.{AllByRecursion, list_any}
use Rattle.std.specs.Str.{bytes_eq}
use Rattle.std.proofs.lemmas.Bool.Decides.{nat_tests}
use Rattle.addr_base.specs.declared.ranges.Range.{Range}
use Rattle.addr_base.specs.Range.{end_of}
use Rattle.flat_model.specs.declared.parts.IrqPart.{IrqPart}
use Rattle.flat_model.specs.Names.{AreDistinctNames, is_name}
use Rattle.flat_model.specs.Placing.{ArePlaced, placed_end}
use Rattle.flat_model.specs.Sound.{AreNumbered, IsBox}
use Rattle.sample_board.specs.Sample.{Share, board, own, part, parts_from}

-- a share with a thread at least, and with lines that there are
pub record IsShare (share : Share) : Type 0 where
  pub some_thread : 1 ≤ share.threads
  pub lines : AllByRecursion (λ irq. irq.line.0 < 64) share.irqs

-- ---- names

is_name-letter : (number : ℕ) → number < 8 → is_name ((97 + number) ∷ []) ≡ true
is_name-letter number few = grind (arith, nat_tests)

no_later_name : (number later first : ℕ) (shares : List Share) → number < later →
    list_any (bytes_eq ((97 + number) ∷ [])) (map (λ it. it.name) (parts_from later first shares)) ≡ false
no_later_name number later first [] order = refl
no_later_name number later first (share ∷ shares) order =
    let rest = no_later_name number (later + 1) (first + share.threads) shares (omega (arith, order)) in
    grind (arith, nat_tests, rest)

pub distinct_names : (number first : ℕ) (shares : List Share) →
    AreDistinctNames (map (λ it. it.name) (parts_from number first shares))
distinct_names number first [] = tt
distinct_names number first (share ∷ shares) = (
  no_later_name number (number + 1) (first + share.threads) shares (omega arith),
  distinct_names (number + 1) (first + share.threads) shares,
)

-- ---- boxes and their numbers

IsBox-part : (common : Range) (number first threads : ℕ) (irqs : List IrqPart) → number < 8 →
    AllByRecursion (λ irq. irq.line.0 < 64) irqs → IsBox (board 0x20000 None) common (part number first threads irqs)
IsBox-part common number first threads irqs few lines = record {
  name = is_name-letter number few;
  items = refl;
  grants = (
    record {
      tiled = record { enough = omega arith; base = refl; len = refl };
      rights = inr (inl refl);
      placed = inl (omega arith, omega arith);
    },
    tt,
  );
  grants_apart = (tt, tt);
  few_grants = omega arith;
  lines = lines;
}

pub are_boxes : (common : Range) (number first : ℕ) (shares : List Share) → number + length shares ≤ 8 →
    AllByRecursion IsShare shares → AllByRecursion (IsBox (board 0x20000 None) common) (parts_from number first shares)
are_boxes common number first [] few all = tt
are_boxes common number first (share ∷ shares) few all = (
  IsBox-part common number first share.threads share.irqs (omega (arith, few)) all.0.lines,
  are_boxes common (number + 1) (first + share.threads) shares (omega (arith, few)) all.1,
)

pub are_numbered : (number first : ℕ) (shares : List Share) → AllByRecursion IsShare shares →
    AreNumbered first (parts_from number first shares)
are_numbered number first [] all = tt
are_numbered number first (share ∷ shares) all = (
  refl,
  all.0.some_thread,
  omega arith,
  omega (arith, all.0.some_thread),
  are_numbered (number + 1) (first + share.threads) shares all.1,
)

pub length-parts : (number first : ℕ) (shares : List Share) → length (parts_from number first shares) ≡ length shares
length-parts number first [] = refl
length-parts number first (share ∷ shares) =
    let rest = length-parts (number + 1) (first + share.threads) shares in
    omega (arith, rest)

pub no_owner : (number first : ℕ) (shares : List Share) →
    count_by (λ it. it.secret) (parts_from number first shares) ≡ 0
no_owner number first [] = refl
no_owner number first (share ∷ shares) = no_owner (number + 1) (first + share.threads) shares

-- ---- places

pub are_placed : (start number first : ℕ) (shares : List Share) → start ≡ 0x20000000 + 256 * number →
    ArePlaced start (parts_from number first shares)
are_placed start number first [] begins = tt
are_placed start number first (share ∷ shares) begins = (
  record {
    power = (8, refl);
    enough = omega arith;
    aligned = omega arith;
    not_below = omega (arith, begins);
    least = omega (arith, begins);
  },
  are_placed (end_of (own number)) (number + 1) (first + share.threads) shares (omega arith),
)

pub placed_end-parts : (start number first : ℕ) (shares : List Share) → start ≡ 0x20000000 + 256 * number →
    placed_end start (parts_from number first shares) ≡ 0x20000000 + 256 * (number + length shares)
placed_end-parts start number first [] begins = omega (arith, begins)
placed_end-parts start number first (share ∷ shares) begins =
    let rest = placed_end-parts (end_of (own number)) (number + 1) (first + share.threads) shares (omega arith) in
    omega (arith, rest)
