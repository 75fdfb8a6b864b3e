-- The words of the boxes' lines.
use Rattle.std.proofs.Common.{◌≡◌, ℕ, ◌+◌, ◌-◌, ◌<◌, ◌≤◌, true, false, ◌||◌, nat_eq, Option, Some, None, List, [], ◌∷◌, length, take, drop, refl, sym, ap, ◌∙◌, subst, arith, inl, inr, bit_or}
use mathlib.Core.Logic.{dite}
use native.Mathlib.Decide.{ℕ_discrete}
use Rattle.std.specs.List.{AllByRecursion, slice_get, slice_index, slice_index_or, slice_set}
use Rattle.std.specs.Option.{option_map_or}
use Rattle.std.proofs.lemmas.Bool.{cases_Bool, eqb-true}
use Rattle.std.proofs.lemmas.List.{get_or-set_other, get_or-set_same, take_all}
use Rattle.flat_model.specs.declared.parts.BoxPart.{BoxPart}
use Rattle.flat_model.specs.declared.parts.Config.{Config}
use Rattle.flat_model.specs.declared.parts.IrqPart.{IrqPart}
use Rattle.flat_model.specs.Interrupts.{has_line}
use Rattle.flat_model.specs.Placing.{common_range}
use Rattle.flat_model.specs.Sound.{IsBox, IsSound}
use Rattle.flat_model.specs.Want.{is_owned_line}
use Rattle.flat_model.proofs.Elements.{each-get, list_any_found}
use Rattle.irq_owner.specs.Bits.{has_bit}
use Rattle.irq_owner.specs.Irqs.{irqs_of}
use Rattle.irq_owner.proofs.BitLemmas.{has_bit-with, mask}

-- the bits of the lines after the first, and the bit of the first one
pub has_bit-first : (word : ℕ) (irqs : List IrqPart) (missing : IrqPart) → 1 ≤ length irqs → AllByRecursion (λ irq. irq.line.0 < 64) irqs →
    ((k : ℕ) → has_bit word k ≡ has_line k (take (length irqs - 1) (drop 1 irqs))) →
    (k : ℕ) → has_bit (bit_or word (mask (slice_index_or irqs 0 missing).line.0)) k ≡ has_line k irqs
has_bit-first word [] missing some small rest k = absurd (omega arith)
has_bit-first word (irq ∷ irqs) missing some small rest k =
    has_bit-with word irq.line.0 k small.0
    ∙ ap (λ b. nat_eq irq.line.0 k || b) (rest k ∙ ap (has_line k) (take_all (length (irq ∷ irqs) - 1) irqs (omega arith)))

-- ---- the lines of a sound configuration

-- the lines of a box are below 64
pub small-irqs : (cfg : Config) → IsSound cfg → (b : ℕ) → AllByRecursion (λ irq. irq.line.0 < 64) (irqs_of cfg b)
small-irqs cfg it b = at (slice_get cfg.boxes b) refl
  where
    at : (o : Option BoxPart) → slice_get cfg.boxes b ≡ o → AllByRecursion (λ irq. irq.line.0 < 64) (option_map_or (λ part. part.irqs) o [])
    at None found = tt
    at (Some part) found = (each-get (IsBox cfg.board (common_range cfg.board cfg.boxes)) cfg.boxes b part it.boxes found).lines

-- a line of these is below 64
small-line : (irqs : List IrqPart) (line : ℕ) → AllByRecursion (λ irq. irq.line.0 < 64) irqs → has_line line irqs ≡ true → line < 64
small-line irqs line small has =
    let found = list_any_found (λ irq. nat_eq irq.line.0 line) irqs has in
    let same : found.1.line.0 ≡ line = eqb-true found.1.line.0 line found.3 in
    subst (λ n. n < 64) same (each-get (λ irq. irq.line.0 < 64) irqs found.0 found.1 small found.2)

pub has_line-past : (cfg : Config) → IsSound cfg → (b line : ℕ) → 64 ≤ line → has_line line (irqs_of cfg b) ≡ false
has_line-past cfg it b line past = elim (cases_Bool (has_line line (irqs_of cfg b))) [
  | inl has ↦ let small = small-line (irqs_of cfg b) line (small-irqs cfg it b) has in absurd (omega (arith, small))
  | inr none ↦ none
]

pub owned_small : (cfg : Config) → IsSound cfg → (line : ℕ) → is_owned_line cfg line ≡ true → line < 64
owned_small cfg it line owned =
    let found = list_any_found (λ part. has_line line part.irqs) cfg.boxes owned in
    small-line found.1.irqs line
    (each-get (IsBox cfg.board (common_range cfg.board cfg.boxes)) cfg.boxes found.0 found.1 it.boxes found.2).lines found.3

-- the words of one more box
pub owned_more : (cfg : Config) (owned : List ℕ) (b word : ℕ) (part : BoxPart) → b < length owned → slice_get cfg.boxes b ≡ Some part →
    ((k line : ℕ) → k < b → has_bit (slice_index owned k) line ≡ has_line line (irqs_of cfg k)) →
    ((line : ℕ) → has_bit word line ≡ has_line line part.irqs) →
    (k line : ℕ) → k < b + 1 → has_bit (slice_index (slice_set owned b word) k) line ≡ has_line line (irqs_of cfg k)
owned_more cfg owned b word part room found rest here k line below = dite (ℕ_discrete k b)
    (λ same.
    let this : slice_index (slice_set owned b word) b ≡ word = get_or-set_same owned b word 0 room in
    ap (λ i. has_bit (slice_index (slice_set owned b word) i) line) same
    ∙ ap (λ w. has_bit w line) this ∙ here line
    ∙ sym (ap (λ i. has_line line (irqs_of cfg i)) same ∙ ap (λ o. has_line line (option_map_or (λ p. p.irqs) o [])) found))
    (λ other.
    let this : slice_index (slice_set owned b word) k ≡ slice_index owned k = get_or-set_other owned b k word 0 other in
    ap (λ w. has_bit w line) this ∙ rest k line (omega (arith, other)))
