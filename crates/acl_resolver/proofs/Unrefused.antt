-- What it says of the items of a list that none of them is refused.
use Rattle.std.proofs.Common.{◌≡◌, ℕ, ◌+◌, ◌≤◌, arith, length, subst, Bool, true, false, cond, List, [], ◌∷◌, ◌++◌, map, Option, Some, None, refl, inl, inr, ◌⊎◌}
use Rattle.std.specs.Prelude.{find}
use Rattle.std.specs.List.{AllByRecursion, cons_option, filter_map, list_all}
use Rattle.std.specs.Option.{option_or}
use Rattle.std.proofs.lemmas.Bool.{and_parts}
use Rattle.flat_model.specs.First.{number, refuse_if}
use Rattle.flat_model.specs.declared.refusals.Refused.{Refused}
use Rattle.acl_resolver.specs.Refusals.{first_numbered}

-- neither of two refusals comes
pub neither : {A : Type 0} (a b : Option A) → option_or a b ≡ None → (a ≡ None) × (b ≡ None)
neither None b h = (refl, h)
neither (Some x) b h = (h, cc)

-- a condition that is not met
pub not_refused : (b : Bool) (r : Refused) → refuse_if b r ≡ None → b ≡ false
not_refused true r h = cc
not_refused false r h = refl

-- no item of a list is refused
pub each_numbered : {A : Type 0} (f : ℕ → A → Option Refused) (P : A → Type 0) → ((n : ℕ) (x : A) → f n x ≡ None → P x)
    → (i : ℕ) (xs : List A) → first_numbered f i xs ≡ None → AllByRecursion P xs
each_numbered f P says i [] h = tt
each_numbered f P says i (x ∷ xs) h =
    let both = neither (f (number i) x) (first_numbered f (i + 1) xs) h in
    (says (number i) x both.0, each_numbered f P says (i + 1) xs both.1)

-- each item meets two facts
pub all_both : {A : Type 0} (P Q : A → Type 0) (xs : List A) → AllByRecursion P xs → AllByRecursion Q xs → AllByRecursion (λ x. P x × Q x) xs
all_both P Q [] p q = tt
all_both P Q (x ∷ xs) p q = ((p.0, q.0), all_both P Q xs p.1 q.1)

-- each item meets what follows from a fact that it meets
pub all_weaker : {A : Type 0} (P Q : A → Type 0) → ((x : A) → P x → Q x) → (xs : List A) → AllByRecursion P xs → AllByRecursion Q xs
all_weaker P Q says [] p = tt
all_weaker P Q says (x ∷ xs) p = (says x p.0, all_weaker P Q says xs p.1)

-- each item of a list that is made from another
pub all_made : {A B : Type 0} (f : A → B) (P : B → Type 0) (xs : List A) → AllByRecursion (λ x. P (f x)) xs → AllByRecursion P (map f xs)
all_made f P [] p = tt
all_made f P (x ∷ xs) p = (p.0, all_made f P xs p.1)

-- each item of two lists
pub all_joined : {A : Type 0} (P : A → Type 0) (xs ys : List A) → AllByRecursion P xs → AllByRecursion P ys → AllByRecursion P (xs ++ ys)
all_joined P [] ys p q = q
all_joined P (x ∷ xs) ys p q = (p.0, all_joined P xs ys p.1 q)

-- each item passes a test
pub all_passed : {A : Type 0} (p : A → Bool) (xs : List A) → list_all p xs ≡ true → AllByRecursion (λ x. p x ≡ true) xs
all_passed p [] h = tt
all_passed p (x ∷ xs) h = let both = and_parts (p x) (list_all p xs) h in (both.0, all_passed p xs both.1)

-- a choice that gives something gives one of two things
pub one_of : {A : Type 0} (b : Bool) (x y : A) (o : Option A) → cond b (Some x) o ≡ Some y → ((b ≡ true) × (x ≡ y)) ⊎ ((b ≡ false) × (o ≡ Some y))
one_of true x y o h = inl (refl, cc)
one_of false x y o h = inr (refl, h)

-- the item that a test finds has what all have, and passes the test
pub found : {A : Type 0} (p : A → Bool) (P : A → Type 0) (xs : List A) (x : A) → AllByRecursion P xs → find p xs ≡ Some x → P x × (p x ≡ true)
found p P [] x all h = cc
found p P (y ∷ ys) x all h = elim (one_of (p y) y x (find p ys) h) [
  | inl here ↦ (subst P here.1 all.0, subst (λ z. p z ≡ true) here.1 here.0)
  | inr rest ↦ found p P ys x all.1 rest.1
]

given : {B : Type 0} (P : B → Type 0) (o : Option B) (ys : List B) → ((y : B) → o ≡ Some y → P y) → AllByRecursion P ys → AllByRecursion P (cons_option o ys)
given P None ys says rest = rest
given P (Some y) ys says rest = (says y refl, rest)

-- each thing that is given by an item of a list
pub all_given : {A B : Type 0} (f : A → Option B) (P : B → Type 0) → ((x : A) (y : B) → f x ≡ Some y → P y) → (xs : List A) → AllByRecursion P (filter_map f xs)
all_given f P says [] = tt
all_given f P says (x ∷ xs) = given P (f x) (filter_map f xs) (says x) (all_given f P says xs)

fewer : {B : Type 0} (o : Option B) (ys : List B) (n : ℕ) → length ys ≤ n → length (cons_option o ys) ≤ n + 1
fewer None ys n h = omega arith
fewer (Some y) ys n h = omega arith

-- a list gives at most as many things as it has items
pub few_given : {A B : Type 0} (f : A → Option B) (xs : List A) → length (filter_map f xs) ≤ length xs
few_given f [] = omega arith
few_given f (x ∷ xs) = omega (arith, fewer (f x) (filter_map f xs) (length xs) (few_given f xs))
