-- No line is named twice where no line is taken.
use Rattle.std.proofs.Common.{◌≡◌, ℕ, ◌+◌, Bool, true, false, ◌||◌, cond, List, [], ◌∷◌, ◌++◌, map, Option, Some, None, refl, sym, subst, ◌∙◌, ap, append_assoc, eq-eqb}
use Rattle.std.specs.Prelude.{nat_eq}
use Rattle.std.specs.List.{flat_map, list_any}
use Rattle.std.proofs.lemmas.Bool.{both_ways, eqb-true, false_from_ne_true, or_from, or_left, or_right}
use Rattle.std.proofs.lemmas.List.{append-nil, map-append}
use Rattle.std.proofs.lemmas.List.Folds.{list_any-append}
use Rattle.std.proofs.lemmas.Grind.{flat_map-append}
use Rattle.flat_model.specs.declared.parts.IrqPart.{IrqPart}
use Rattle.flat_model.specs.declared.texts.BoxText.{BoxText}
use Rattle.flat_model.specs.First.{first_after, number}
use Rattle.flat_model.specs.Interrupts.{has_line}
use Rattle.flat_model.specs.Sound.{AreDistinct}
use Rattle.acl_resolver.specs.Refusals.{first_behind, is_line_of_some, is_taken, line_taken, line_taken_at, line_taken_of}
use Rattle.acl_resolver.proofs.Unrefused.{neither}

-- the number of an interrupt line
abbrev pub line_of : IrqPart → ℕ
line_of irq = irq.line.0

-- the lines that a box names
abbrev pub lines_of_box : BoxText → List ℕ
lines_of_box b = map line_of b.irqs

-- the lines that boxes name
abbrev pub lines_of : List BoxText → List ℕ
lines_of boxes = flat_map lines_of_box boxes

-- whether a number is among these
abbrev pub is_in : ℕ → List ℕ → Bool
is_in z xs = list_any (λ y. nat_eq y z) xs

-- each number is neither among these nor among those before it
abbrev pub AreNew : List ℕ → List ℕ → Type 0
AreNew earlier [] = Unit {0}
AreNew earlier (x ∷ xs) = (is_in x earlier ≡ false) × AreNew (earlier ++ x ∷ []) xs

in_lines : (line : ℕ) (irqs : List IrqPart) → has_line line irqs ≡ is_in line (map line_of irqs)
in_lines line [] = refl
in_lines line (irq ∷ irqs) = ap (λ v. nat_eq irq.line.0 line || v) (in_lines line irqs)

in_boxes : (line : ℕ) (boxes : List BoxText) → is_line_of_some boxes line ≡ is_in line (lines_of boxes)
in_boxes line [] = refl
in_boxes line (b ∷ boxes) =
    ap (λ v. v || is_line_of_some boxes line) (in_lines line b.irqs)
    ∙ ap (λ v. is_in line (lines_of_box b) || v) (in_boxes line boxes)
    ∙ sym (list_any-append (λ y. nat_eq y line) (lines_of_box b) (lines_of boxes))

taken_in : (earlier : List BoxText) (before : List IrqPart) (irq : IrqPart) → is_taken earlier before irq ≡ is_in irq.line.0 (lines_of earlier ++ map line_of before)
taken_in earlier before irq =
    ap (λ v. v || has_line irq.line.0 before) (in_boxes irq.line.0 earlier)
    ∙ ap (λ v. is_in irq.line.0 (lines_of earlier) || v) (in_lines irq.line.0 before)
    ∙ sym (list_any-append (λ y. nat_eq y irq.line.0) (lines_of earlier) (map line_of before))

none_here : {A : Type 0} (b : Bool) (x : A) (o : Option A) → cond b (Some x) o ≡ None → (b ≡ false) × (o ≡ None)
none_here true x o h = cc
none_here false x o h = (refl, h)

one_more : (earlier : List ℕ) (before : List IrqPart) (irq : IrqPart) → earlier ++ map line_of (before ++ irq ∷ []) ≡ (earlier ++ map line_of before) ++ irq.line.0 ∷ []
one_more earlier before irq = ap (λ v. earlier ++ v) (map-append line_of before (irq ∷ [])) ∙ sym (append_assoc earlier (map line_of before) (irq.line.0 ∷ []))

box_new : (earlier : List BoxText) (j : ℕ) (before irqs : List IrqPart) → first_after (is_taken earlier) j before irqs ≡ None
    → AreNew (lines_of earlier ++ map line_of before) (map line_of irqs)
box_new earlier j before [] h = tt
box_new earlier j before (irq ∷ irqs) h =
    let both = none_here (is_taken earlier before irq) (number j) (first_after (is_taken earlier) (j + 1) (before ++ irq ∷ []) irqs) h in (
      sym (taken_in earlier before irq) ∙ both.0,
      subst (λ v. AreNew v (map line_of irqs)) (one_more (lines_of earlier) before irq) (box_new earlier (j + 1) (before ++ irq ∷ []) irqs both.1),
    )

new_joined : (earlier xs ys : List ℕ) → AreNew earlier xs → AreNew (earlier ++ xs) ys → AreNew earlier (xs ++ ys)
new_joined earlier [] ys new rest = subst (λ v. AreNew v ys) (append-nil earlier) rest
new_joined earlier (x ∷ xs) ys new rest =
    (new.0, new_joined (earlier ++ x ∷ []) xs ys new.1 (subst (λ v. AreNew v ys) (sym (append_assoc earlier (x ∷ []) xs)) rest))

none_taken : (i : ℕ) (o : Option ℕ) → line_taken_at i o ≡ None → o ≡ None
none_taken i None h = refl
none_taken i (Some j) h = cc

one_box_more : (earlier : List BoxText) (b : BoxText) → lines_of (earlier ++ b ∷ []) ≡ lines_of earlier ++ lines_of_box b
one_box_more earlier b = flat_map-append lines_of_box earlier (b ∷ []) ∙ ap (λ v. lines_of earlier ++ v) (append-nil (lines_of_box b))

boxes_new : (earlier : List BoxText) (i : ℕ) (boxes : List BoxText) → first_behind line_taken_of earlier i boxes ≡ None → AreNew (lines_of earlier) (lines_of boxes)
boxes_new earlier i [] h = tt
boxes_new earlier i (b ∷ boxes) h =
    let both = neither (line_taken_of earlier (number i) b) (first_behind line_taken_of (earlier ++ b ∷ []) (i + 1) boxes) h in
    let here = box_new earlier 0 [] b.irqs (none_taken (number i) (first_after (is_taken earlier) 0 [] b.irqs) both.0) in
    new_joined (lines_of earlier) (lines_of_box b) (lines_of boxes)
    (subst (λ v. AreNew v (lines_of_box b)) (append-nil (lines_of earlier)) here)
    (subst (λ v. AreNew v (lines_of boxes)) (one_box_more earlier b) (boxes_new (earlier ++ b ∷ []) (i + 1) boxes both.1))

not_met : (x z : ℕ) (earlier : List ℕ) → is_in x earlier ≡ false → is_in z earlier ≡ true → nat_eq z x ≡ false
not_met x z earlier away here =
    false_from_ne_true (nat_eq z x) (λ same. both_ways (is_in x earlier) away (subst (λ v. is_in v earlier ≡ true) (eqb-true z x same) here))

met_once : (earlier xs : List ℕ) (z : ℕ) → AreNew earlier xs → is_in z earlier ≡ true → list_any (λ y. nat_eq z y) xs ≡ false
met_once earlier [] z new here = refl
met_once earlier (x ∷ xs) z new here =
    or_from (nat_eq z x) (list_any (λ y. nat_eq z y) xs) (not_met x z earlier new.0 here)
    (met_once (earlier ++ x ∷ []) xs z new.1 (list_any-append (λ y. nat_eq y z) earlier (x ∷ []) ∙ or_left (is_in z earlier) (is_in z (x ∷ [])) here))

last_in : (earlier : List ℕ) (x : ℕ) → is_in x (earlier ++ x ∷ []) ≡ true
last_in earlier x =
    list_any-append (λ y. nat_eq y x) earlier (x ∷ [])
    ∙ or_right (is_in x earlier) (is_in x (x ∷ [])) (or_left (nat_eq x x) false (eq-eqb x x refl))

new_distinct : (earlier xs : List ℕ) → AreNew earlier xs → AreDistinct xs
new_distinct earlier [] new = tt
new_distinct earlier (x ∷ xs) new = (met_once (earlier ++ x ∷ []) xs x new.1 (last_in earlier x), new_distinct (earlier ++ x ∷ []) xs new.1)

-- no line is named twice
pub lines_distinct : (boxes : List BoxText) → line_taken boxes ≡ None → AreDistinct (lines_of boxes)
lines_distinct boxes h = new_distinct [] (lines_of boxes) (boxes_new [] 0 boxes h)
