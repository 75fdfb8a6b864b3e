-- The next line of a box, from the words.
use Rattle.std.proofs.Common.{◌≡◌, ℕ, ◌<◌, ◌≤◌, Bool, true, false, ◌&&◌, nat_eq, Option, Some, None, refl, sym, ap, ◌∙◌, subst, arith, inl, inr, bit_and}
use Rattle.std.specs.Option.{MatchOption, IsSomeAnd, option_and_then, option_map}
use Rattle.std.proofs.lemmas.Bool.{and_right, cases_lt}
use Rattle.std.proofs.lemmas.Nat.Bits.{bit_at-zero}
use Rattle.addr_base.specs.declared.identity.Line.{Line}
use Rattle.flat_model.specs.Interrupts.{has_line, is_deliverable, is_set, lowest_deliverable}
use Rattle.irq_owner.specs.Bits.{IsLowest, flags, has_bit}
use Rattle.irq_owner.specs.Irqs.{IrqsView, flags_of, irq_with_line, irqs_of, next_irq}
use Rattle.irq_owner.proofs.BitLemmas.{has_bit-and, is_set-flags, is_set-past}
use Rattle.irq_owner.proofs.LineLemmas.{is_due, lowest-none, lowest-some}

and_assoc : (x y z : Bool) → ((x && y) && z) ≡ (x && (y && z))
and_assoc true y z = refl
and_assoc false y z = refl

-- a value that a constructor made of a number, if there is one
pub mapped : (found : Option ℕ) (r : Option Line) → MatchOption found (r ≡ None) (λ n. IsSomeAnd r (λ line. line.0 ≡ n)) → r ≡ option_map (λ n. record { 0 = n }) found
mapped None r is = is
mapped (Some n) None is = absurd is
mapped (Some n) (Some line) is = ap (λ m. Some (record { 0 = m })) is

-- the line that is answered is that of the next part, which it names
pub record NextIs (irqs : IrqsView) (b : ℕ) (r : Option Line) : Type 0 where
  pub exact : r ≡ option_map (λ irq. irq.line) (next_irq irqs b)
  pub part : next_irq irqs b ≡ option_and_then (λ line. irq_with_line line.0 (irqs_of irqs.config b)) r

module _ (irqs : IrqsView) (b owned latched enabled : ℕ)
    (latched_is : irqs.latched ≡ flags latched) (enabled_is : irqs.enabled ≡ flags enabled)
    (free : is_set irqs.handling b ≡ false)
    (owned_is : (k : ℕ) → has_bit owned k ≡ has_line k (irqs_of irqs.config b)) where
  -- the bits that are looked through
  word : ℕ
  word = bit_and (bit_and owned latched) enabled

  due-bit : (k : ℕ) → k < 64 → is_due (flags_of irqs) (irqs_of irqs.config b) k ≡ has_bit word k
  unfolding word
  due-bit k below =
      ap (λ t. has_line k (irqs_of irqs.config b) && (t && is_set irqs.enabled k)) (ap (λ f. is_set f k) latched_is ∙ is_set-flags latched k below)
      ∙ ap (λ t. has_line k (irqs_of irqs.config b) && (has_bit latched k && t)) (ap (λ f. is_set f k) enabled_is ∙ is_set-flags enabled k below)
      ∙ ap (λ t. t && (has_bit latched k && has_bit enabled k)) (sym (owned_is k))
      ∙ sym (and_assoc (has_bit owned k) (has_bit latched k) (has_bit enabled k))
      ∙ ap (λ t. t && has_bit enabled k) (sym (has_bit-and owned latched k))
      ∙ sym (has_bit-and (bit_and owned latched) enabled k)

  due-past : (k : ℕ) → 64 ≤ k → is_due (flags_of irqs) (irqs_of irqs.config b) k ≡ false
  due-past k past =
      let off : is_set irqs.latched k ≡ false = ap (λ f. is_set f k) latched_is ∙ is_set-past latched k past in
      and_right (has_line k (irqs_of irqs.config b)) (is_deliverable (flags_of irqs) k) (ap (λ t. t && is_set irqs.enabled k) off)

  next-lowest : next_irq irqs b ≡ lowest_deliverable (flags_of irqs) (irqs_of irqs.config b)
  next-lowest = rw free refl

  next-none : word ≡ 0 → next_irq irqs b ≡ None
  next-none zero_word = next-lowest ∙ lowest-none (flags_of irqs) (irqs_of irqs.config b) (λ k. elim (cases_lt k 64) [
    | inl below ↦ due-bit k below ∙ ap (λ w. has_bit w k) zero_word ∙ ap (λ n. nat_eq n 1) (bit_at-zero k)
    | inr past ↦ due-past k past
  ])

  next-is : (found : Option ℕ) → MatchOption found (word ≡ 0) (IsLowest word) → NextIs irqs b (option_map (λ n. record { 0 = n }) found)
  next-is None zero_word =
      let none : next_irq irqs b ≡ None = next-none zero_word in
      record { exact = ap (option_map (λ irq. irq.line)) (sym none); part = none }
  next-is (Some l) low =
      let is = lowest-some (flags_of irqs) (irqs_of irqs.config b) l
      (due-bit l low.within ∙ ap (λ n. nat_eq n 1) low.set)
      (λ k below. due-bit k (omega (arith, low.within)) ∙ ap (λ n. nat_eq n 1) (low.below k below)) in
      let next : next_irq irqs b ≡ Some is.irq = next-lowest ∙ is.lowest in
      record {
        exact = ap (λ n. Some (record { 0 = n })) (sym is.line) ∙ ap (option_map (λ irq. irq.line)) (sym next);
        part = next ∙ sym is.first;
      }

  pub next_is : (found : Option ℕ) → MatchOption found (bit_and (bit_and owned latched) enabled ≡ 0) (IsLowest (bit_and (bit_and owned latched) enabled)) →
      (r : Option Line) → r ≡ option_map (λ n. record { 0 = n }) found → NextIs irqs b r
  unfolding word
  next_is found low r is = subst (NextIs irqs b) (sym is) (next-is found low)
