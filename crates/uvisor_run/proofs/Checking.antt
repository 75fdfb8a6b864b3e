-- How the text of a configuration is printed, part by part.
use Rattle.std.proofs.Common.{◌≡◌, ℕ, zero, suc, ◌+◌, ◌≤◌, List, [], ◌∷◌, ◌++◌, Option, length, get_or, take, drop, ◌<◌, Result, Ok, Err, refl, sym, ◌∙◌, ap, subst, append_assoc, arith}
use Rattle.std.specs.List.{AllByRecursion}
use Rattle.std.specs.Prelude.{IsErr, ⊤}
use Rattle.std.proofs.lemmas.List.{at_drop_more}
use Rattle.std.proofs.lemmas.List.{append-nil}
use Rattle.addr_base.specs.declared.ranges.Range.{Range}
use Rattle.flat_model.specs.declared.boards.Board.{Board}
use Rattle.flat_model.specs.declared.parts.BoxPart.{BoxPart}
use Rattle.flat_model.specs.Sound.{IsBox}
use Rattle.io_edge.specs.declared.whole.WriteErr.{WriteErr}
use Rattle.io_edge.specs.Counts.{IsCounted, next_count}
use Rattle.io_edge.specs.Written.{Wrote, WrotePart}
use Rattle.io_edge.proofs.Written.{wrote-part, wrote_part-first}
use Rattle.run_log.proofs.NameLemmas.{name_short}
use Rattle.run_log.specs.Printed.{IsPrinted}
use Rattle.run_log.proofs.Printing.{count_rose, printed_failed, wrote-both, wrote-longer, wrote-page, wrote-second}

all-suc : {X : Type 0} (P : X → Type 0) → (i : ℕ) (xs : List X) → AllByRecursion P (drop i xs) → AllByRecursion P (drop (suc i) xs)
all-suc P zero [] all = tt
all-suc P zero (x ∷ xs) all = all.1
all-suc P (suc i) [] all = tt
all-suc P (suc i) (x ∷ xs) all = all-suc P i xs all

-- what holds of each from a place on holds of each from the next place on
pub all_from_next : {X : Type 0} (P : X → Type 0) → (i : ℕ) (xs : List X) → AllByRecursion P (drop i xs) → AllByRecursion P (drop (i + 1) xs)
all_from_next P i xs all = let e : i + 1 ≡ suc i = omega arith in rw e (all-suc P i xs all)

counted_from : {failed : Type 0} {before between after : ℕ} → between ≡ before → IsCounted failed between after → IsCounted failed before after
counted_from same counted = record {
  rose = λ failed. counted.rose failed ∙ ap next_count same;
  kept = λ none. counted.kept none ∙ same;
}

-- a second text was printed after the first
pub put_then : {old mid now : Option (List ℕ)} (page first second on after : List ℕ) → Wrote old mid (page ++ first) on → Wrote mid now (on ++ second) after → Wrote old now (page ++ (first ++ second)) after
put_then {old} {mid} {now} page first second on after one two =
    subst (λ text. Wrote old now text after) (append_assoc page first second) (wrote-both (page ++ first) second on after one two)

-- a second text was printed in part, after the first
pub part_then : {old mid now : Option (List ℕ)} (page first second on : List ℕ) → Wrote old mid (page ++ first) on → WrotePart mid now (on ++ second) → WrotePart old now (page ++ (first ++ second))
part_then {old} {mid} {now} page first second on one part =
    subst (λ text. WrotePart old now text) (append_assoc page first second) (wrote-second (page ++ first) second on one part)

-- the first of two texts was printed in part
pub part_first : {old now : Option (List ℕ)} (page first second : List ℕ) → WrotePart old now (page ++ first) → WrotePart old now (page ++ (first ++ second))
part_first {old} {now} page first second part =
    subst (λ text. WrotePart old now text) (append_assoc page first second) (wrote_part-first old now (page ++ first) second part)

-- a second text was printed after the first, or in part
pub printed_then : {old mid now : Option (List ℕ)} {before between after : ℕ} (page first second on end : List ℕ) (r : Result ⊤ WriteErr) → Wrote old mid (page ++ first) on → between ≡ before → IsPrinted mid now between after (on ++ second) end r → IsPrinted old now before after (page ++ (first ++ second)) end r
printed_then page first second on end (Ok x) one same two = record {
  ok = put_then page first second on end one two.ok;
  err = tt;
  faults = counted_from same two.faults;
}
printed_then page first second on end (Err e) one same two = record {
  ok = tt;
  err = part_then page first second on one two.err;
  faults = counted_from same two.faults;
}

-- the first of two texts was not all printed
pub printed_first : {old now : Option (List ℕ)} {before after : ℕ} {e : WriteErr} (page first second on : List ℕ) (r : Result ⊤ WriteErr) → IsErr r → IsPrinted old now before after (page ++ first) on (Err e) → IsPrinted old now before after (page ++ (first ++ second)) on r
printed_first page first second on r failed one =
    printed_failed r failed (part_first page first second one.err) (count_rose refl one.faults)

-- room was made, and a line was printed
pub put_line : {old now : Option (List ℕ)} (page roomy line after : List ℕ) → Wrote old now page roomy → after ≡ roomy ++ line → Wrote old now (page ++ line) after
put_line {old} {now} page roomy line after room printed = rw printed (wrote-longer page line roomy room)

-- what is there of a list of items that each hold something holds it of those from a place on, and of the first so many
pub all_take_drop : {X : Type 0} (P : X → Type 0) → (n i : ℕ) (xs : List X) → AllByRecursion P xs → AllByRecursion P (take n (drop i xs))
all_take_drop P n i xs all = all-take P n (drop i xs) (all-drop P i xs all)
  where
    all-drop : {X : Type 0} (P : X → Type 0) → (i : ℕ) (xs : List X) → AllByRecursion P xs → AllByRecursion P (drop i xs)
    all-drop P zero xs all = all
    all-drop P (suc i) [] all = tt
    all-drop P (suc i) (x ∷ xs) all = all-drop P i xs all.1

    all-take : {X : Type 0} (P : X → Type 0) → (n : ℕ) (xs : List X) → AllByRecursion P xs → AllByRecursion P (take n xs)
    all-take P zero xs all = tt
    all-take P (suc n) [] all = tt
    all-take P (suc n) (x ∷ xs) all = (all.0, all-take P n xs all.1)

-- the next part of a text was printed
pub put_on : {old mid now : Option (List ℕ)} {text : List ℕ} (page after part left rest : List ℕ) → left ≡ part ++ rest → Wrote old mid text (page ++ left) → Wrote mid now (page ++ part) after → Wrote old now text (after ++ rest)
put_on page after part left rest is_left so_far one =
    wrote-page (page ++ part) after rest (rw (append_assoc page part rest, ← is_left) so_far) one

-- the next part of a text was printed in part
pub put_on_part : {old mid now : Option (List ℕ)} {text : List ℕ} (page part left rest : List ℕ) → left ≡ part ++ rest → Wrote old mid text (page ++ left) → WrotePart mid now (page ++ part) → WrotePart old now text
put_on_part page part left rest is_left so_far one =
    wrote-part (page ++ part) rest (rw (append_assoc page part rest, ← is_left) so_far) one

-- what a recursion over a list gives from a place on begins with the element there
pub at_next : {X : Type 0} {Y : Type 0} (f : List X → Y) (xs : List X) (i : ℕ) (x : X) → i < length xs → x ≡ get_or xs i x → f (drop i xs) ≡ f (x ∷ drop (i + 1) xs)
at_next f xs i x below is = at_drop_more f xs i x below ∙ ap (λ y. f (y ∷ drop (i + 1) xs)) (sym is)

-- a box of a list whose rest is well formed has a short name
pub box_is_short : (board : Board) (common : Range) (parts : List BoxPart) (i : ℕ) (part : BoxPart) → AllByRecursion (IsBox board common) (drop i parts) → i < length parts → part ≡ get_or parts i part → length part.name ≤ 16
box_is_short board common [] i part all below is = absurd (omega arith)
box_is_short board common (p ∷ parts) zero part all below is = rw is (name_short p.name all.0.name)
box_is_short board common (p ∷ parts) (suc i) part all below is = box_is_short board common parts i part all (omega arith) is

-- what was printed of a text was written in part
pub flushed_part : {old mid now : Option (List ℕ)} (text page : List ℕ) → Wrote old mid text page → WrotePart mid now page → WrotePart old now text
flushed_part {old} {mid} text page so_far part =
    wrote-part page [] (rw append-nil so_far) part
