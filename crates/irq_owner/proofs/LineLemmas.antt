-- The lowest line of some that can be delivered.
use Rattle.std.proofs.Common.{◌≡◌, ◌≢◌, ℕ, ◌<◌, ◌≤◌, Bool, true, false, ◌&&◌, not, cond, nat_eq, nat_lt, Option, Some, None, List, [], ◌∷◌, refl, sym, ap, ◌∙◌, subst, arith, inl, inr}
use Rattle.std.specs.Prelude.{IfSome, is_none, is_some, unwrap_or, if◌then◌else◌}
use Rattle.std.specs.Option.{option_map}
use Rattle.std.specs.List.{slice_get}
use mathlib.Core.Logic.{dite}
use native.Mathlib.Decide.{ℕ_discrete}
use Rattle.std.proofs.lemmas.Bool.{and_from, and_parts, cases_Bool, cases_lt, eq-eqb, false≢true, le-ltb, lt-ltb, ne_eqb, or_left}
use Rattle.std.proofs.lemmas.Option.{slice_get-map}
use Rattle.flat_model.specs.declared.parts.IrqPart.{IrqPart}
use Rattle.flat_model.specs.declared.states.Context.{Context}
use Rattle.flat_model.specs.declared.states.Lines.{Lines}
use Rattle.flat_model.specs.Interrupts.{deliverable_to, has_line, is_deliverable, is_set, lower_of, lowest_deliverable, saved_context}
use Rattle.irq_owner.specs.Irqs.{AreLinesOf, IrqsView, flags_of, irq_with_line, irqs_of, next_irq}

-- ---- the lowest one is the first with the lowest line

-- whether the line is one of these, and can be delivered
abbrev pub is_due : Lines → List IrqPart → ℕ → Bool
is_due lines irqs k = has_line k irqs && is_deliverable lines k

-- the first one is due where its line can be delivered
due-first : (lines : Lines) (irq : IrqPart) (irqs : List IrqPart) → is_deliverable lines irq.line.0 ≡ true → is_due lines (irq ∷ irqs) irq.line.0 ≡ true
due-first lines irq irqs can =
    and_from _ _ (or_left (nat_eq irq.line.0 irq.line.0) (has_line irq.line.0 irqs) (eq-eqb irq.line.0 irq.line.0 refl)) can

-- none is due of the rest where none is of all
due-rest : (lines : Lines) (irq : IrqPart) (irqs : List IrqPart) (k : ℕ) → is_due lines (irq ∷ irqs) k ≡ false → is_due lines irqs k ≡ false
due-rest lines irq irqs k none = grind (arith)

pub lowest-none : (lines : Lines) (irqs : List IrqPart) → ((k : ℕ) → is_due lines irqs k ≡ false) → lowest_deliverable lines irqs ≡ None
lowest-none lines [] none = refl
lowest-none lines (irq ∷ irqs) none = elim (cases_Bool (is_deliverable lines irq.line.0)) [
  | inl can ↦ absurd (false≢true (sym (none irq.line.0) ∙ due-first lines irq irqs can))
  | inr cannot ↦ rw cannot (lowest-none lines irqs (λ k. due-rest lines irq irqs k (none k)))
]

lower-least : (irq : IrqPart) (other : Option IrqPart) (l : ℕ) → l ≤ irq.line.0 → IfSome other (λ i. l ≤ i.line.0) → l ≤ (lower_of irq other).line.0
lower-least irq None l first rest = first
lower-least irq (Some other) l first rest = elim (cases_Bool (nat_lt other.line.0 irq.line.0)) [
  | inl lower ↦ rw lower rest
  | inr not_lower ↦ rw not_lower first
]

-- where none is due below a line, the first one is at or above it
first-least : (lines : Lines) (irq : IrqPart) (irqs : List IrqPart) (l : ℕ) → ((k : ℕ) → k < l → is_due lines (irq ∷ irqs) k ≡ false) → is_deliverable lines irq.line.0 ≡ true → l ≤ irq.line.0
first-least lines irq irqs l none can = elim (cases_lt irq.line.0 l) [
  | inl below ↦ absurd (false≢true (sym (none irq.line.0 below) ∙ due-first lines irq irqs can))
  | inr above ↦ above
]

-- and the lowest one is
least : (lines : Lines) (irqs : List IrqPart) (l : ℕ) → ((k : ℕ) → k < l → is_due lines irqs k ≡ false) → IfSome (lowest_deliverable lines irqs) (λ irq. l ≤ irq.line.0)
least lines [] l none = tt
least lines (irq ∷ irqs) l none =
    let rest = least lines irqs l (λ k below. due-rest lines irq irqs k (none k below)) in
    elim (cases_Bool (is_deliverable lines irq.line.0)) [
      | inl can ↦ rw can (lower-least irq (lowest_deliverable lines irqs) l (first-least lines irq irqs l none can) rest)
      | inr cannot ↦ rw cannot rest
    ]

lower-first : (irq : IrqPart) (other : Option IrqPart) → IfSome other (λ i. irq.line.0 ≤ i.line.0) → lower_of irq other ≡ irq
lower-first irq None rest = refl
lower-first irq (Some other) rest = let not_lower : nat_lt other.line.0 irq.line.0 ≡ false = le-ltb other.line.0 irq.line.0 rest in rw not_lower refl

lower-other : (irq other : IrqPart) → other.line.0 < irq.line.0 → lower_of irq (Some other) ≡ other
lower-other irq other lower = let is_lower : nat_lt other.line.0 irq.line.0 ≡ true = lt-ltb other.line.0 irq.line.0 lower in rw is_lower refl

-- a part that is the lowest one with its line, and the first one
pub record IsLowestPart (lines : Lines) (irqs : List IrqPart) (l : ℕ) : Type 0 where
  pub irq : IrqPart
  pub lowest : lowest_deliverable lines irqs ≡ Some irq
  pub first : irq_with_line l irqs ≡ Some irq
  pub line : irq.line.0 ≡ l

-- the least line that is due is that of the lowest part
pub lowest-some : (lines : Lines) (irqs : List IrqPart) (l : ℕ) → is_due lines irqs l ≡ true → ((k : ℕ) → k < l → is_due lines irqs k ≡ false) → IsLowestPart lines irqs l
lowest-some lines [] l due none = absurd (false≢true due)
lowest-some lines (irq ∷ irqs) l due none = dite (ℕ_discrete irq.line.0 l)
    (λ here.
    let can : is_deliverable lines irq.line.0 ≡ true = ap (is_deliverable lines) here ∙ (and_parts _ _ due).1 in
    let same : nat_eq irq.line.0 l ≡ true = eq-eqb irq.line.0 l here in
    let rest = least lines irqs l (λ k below. due-rest lines irq irqs k (none k below)) in
    let at : IfSome (lowest_deliverable lines irqs) (λ i. irq.line.0 ≤ i.line.0) =
    subst (λ n. IfSome (lowest_deliverable lines irqs) (λ i. n ≤ i.line.0)) (sym here) rest in
    record {
      irq = irq;
      lowest = rw can (ap Some (lower-first irq (lowest_deliverable lines irqs) at));
      first = rw same refl;
      line = here;
    })
    (λ other.
    let apart : nat_eq irq.line.0 l ≡ false = ne_eqb irq.line.0 l other in
    let later : is_due lines irqs l ≡ true = rw apart at due in
    let rest = lowest-some lines irqs l later (λ k below. due-rest lines irq irqs k (none k below)) in
    record {
      irq = rest.irq;
      lowest = lowest-later lines irq irqs l other none rest;
      first = rw apart rest.first;
      line = rest.line;
    })
  where
    lowest-later : (lines : Lines) (irq : IrqPart) (irqs : List IrqPart) (l : ℕ) → irq.line.0 ≢ l → ((k : ℕ) → k < l → is_due lines (irq ∷ irqs) k ≡ false) →
        (rest : IsLowestPart lines irqs l) → lowest_deliverable lines (irq ∷ irqs) ≡ Some rest.irq
    lowest-later lines irq irqs l other none rest = elim (cases_Bool (is_deliverable lines irq.line.0)) [
      | inl can ↦ let above : l ≤ irq.line.0 = first-least lines irq irqs l none can in
          let lower : rest.irq.line.0 < irq.line.0 = omega (arith, above, other, rest.line) in
          rw can (ap (λ o. Some (lower_of irq o)) rest.lowest ∙ ap Some (lower-other irq rest.irq lower))
      | inr cannot ↦ rw cannot rest.lowest
    ]

-- ---- as the flat machine has them

-- lines with the same flags can be delivered alike
lowest-same : (a c : Lines) → a.latched ≡ c.latched → a.enabled ≡ c.enabled → (irqs : List IrqPart) → lowest_deliverable a irqs ≡ lowest_deliverable c irqs
lowest-same a c latched enabled [] = refl
lowest-same a c latched enabled (irq ∷ irqs) =
    let same : is_deliverable a irq.line.0 ≡ is_deliverable c irq.line.0 =
    ap (λ flags. is_set flags irq.line.0 && is_set a.enabled irq.line.0) latched
    ∙ ap (λ flags. is_set c.latched irq.line.0 && is_set flags irq.line.0) enabled in
    ap (λ t. if t then Some (lower_of irq (lowest_deliverable a irqs)) else lowest_deliverable a irqs) same
    ∙ ap (λ o. if is_deliverable c irq.line.0 then Some (lower_of irq o) else o) (lowest-same a c latched enabled irqs)

-- a context is saved where the flag of the box is set
saved-handling : (saved : Option (Option Context)) → is_none (unwrap_or saved None) ≡ not (unwrap_or (option_map is_some saved) false)
saved-handling None = refl
saved-handling (Some None) = refl
saved-handling (Some (Some context)) = refl

cond-not : {X : Type 0} (t : Bool) (x y : X) → cond (not t) x y ≡ cond t y x
cond-not true x y = refl
cond-not false x y = refl

-- the next line of a box is what the flat machine delivers to it
pub next_irq-flat : (irqs : IrqsView) (lines : Lines) (b : ℕ) → AreLinesOf irqs lines → deliverable_to lines (irqs_of irqs.config b) b ≡ next_irq irqs b
next_irq-flat irqs lines b are =
    let lowest = lowest_deliverable lines (irqs_of irqs.config b) in
    let free : is_none (saved_context lines b) ≡ not (is_set irqs.handling b) =
    saved-handling (slice_get lines.saved b)
    ∙ ap (λ o. not (unwrap_or o false)) (sym (slice_get-map is_some lines.saved b))
    ∙ ap (λ flags. not (is_set flags b)) are.handling in
    ap (λ t. if t then lowest else None) free
    ∙ cond-not (is_set irqs.handling b) lowest None
    ∙ ap (λ o. if is_set irqs.handling b then None else o) (lowest-same lines (flags_of irqs) are.latched are.enabled (irqs_of irqs.config b))
