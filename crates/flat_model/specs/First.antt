-- The first of what the items of a list give, the numbers that places are kept as, and answers.
use Rattle.std.specs.Prelude.{◌≡◌, ℕ, ◌+◌, ◌++◌, List, [], ◌∷◌, Bool, if◌then◌else◌, min, Option, Some, None, Result, Ok, Err, ⊤}
use Rattle.std.specs.Option.{option_or}
use Rattle.flat_model.specs.declared.refusals.Refused.{Refused}
use Rattle.flat_model.specs.declared.refusals.ConfigErr.{ConfigErr}
use Rattle.flat_model.specs.declared.refusals.ConfigErr.TheVariants as config_err

-- the first answer that f gives along the list
abbrev pub first_of : {A B : Type 0} → (A → Option B) → List A → Option B
first_of f [] = None
first_of f (x ∷ xs) = option_or (f x) (first_of f xs)

-- a count as a place of the input is kept: it stops at 2 ^ 32 - 1
abbrev pub number : ℕ → ℕ
number n = min n 4294967295

-- the place of the first item that is bad, where the list's own first place is i
abbrev pub first_index : {A : Type 0} → (A → Bool) → ℕ → List A → Option ℕ
first_index bad i [] = None
first_index bad i (x ∷ xs) = if bad x then Some (number i) else first_index bad (i + 1) xs

-- the place of the first item that is bad behind those before it, where the list stands behind `earlier`
abbrev pub first_after : {A : Type 0} → (List A → A → Bool) → ℕ → List A → List A → Option ℕ
first_after bad i earlier [] = None
first_after bad i earlier (x ∷ xs) = if bad earlier x then Some (number i) else first_after bad (i + 1) (earlier ++ x ∷ []) xs

-- a refusal where the condition holds
abbrev pub refuse_if : Bool → Refused → Option Refused
refuse_if holds refused = if holds then Some refused else None

-- the value, unless there is a refusal
abbrev pub unless_refused : {V : Type 0} → Option Refused → V → Result V Refused
unless_refused None v = Ok v
unless_refused (Some refused) v = Err refused

-- what comes of the value, unless there was an error before
abbrev pub onward : {T U E : Type 0} → Result T E → (T → Result U E) → Result U E
onward (Ok v) f = f v
onward (Err e) f = Err e

-- an error is the refusal that is due, or want of memory
abbrev pub IsCause : {V : Type 0} → Result V Refused → ConfigErr → Type 0
IsCause due (config_err.Refused refused) = due ≡ Err refused
IsCause due config_err.Memory = ⊤
