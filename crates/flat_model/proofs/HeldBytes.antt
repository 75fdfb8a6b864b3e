-- What a box holds at an address: the same for one byte as for an aligned access of 2 or 4.
use Rattle.std.proofs.Common.{◌≡◌, ℕ, suc, ◌+◌, ◌-◌, ◌*◌, ◌/◌, ◌%◌, ◌<◌, ◌≤◌, Bool, true, false, List, [], ◌∷◌, length, Option, Some, None, refl, sym, ◌∙◌, ap, subst, arith, inl, inr, ◌⊎◌}
use Rattle.std.specs.Prelude.{◌&&◌, ◌||◌, not, nat_le, nat_lt, if◌then◌else◌, IfSome}
use Rattle.std.specs.List.{AllByRecursion, list_any}
use Rattle.std.proofs.lemmas.Bool.{cases_lt, le-leb, lt-leb, lt-ltb, ltb-true, ltb-false}
use Rattle.std.proofs.lemmas.Bool.Decides.{nat_tests}
use Rattle.std.proofs.lemmas.List.Folds.{list_any-append}
use Rattle.std.proofs.lemmas.Nat.{div_below, mul-le}
use Rattle.std.proofs.Math.Nat.{add-div_right}
use Rattle.std.proofs.Math.Numerals.{add-one}
use Rattle.addr_base.specs.declared.identity.BoxId.{BoxId}
use Rattle.addr_base.specs.declared.ranges.Range.{Range}
use Rattle.addr_base.specs.declared.rights.Kind.{Kind}
use Rattle.addr_base.specs.Range.{end_of, holds_bytes, in_range}
use Rattle.addr_base.specs.Rights.{gives, read_execute}
use Rattle.flat_model.specs.declared.parts.Item.{Item}
use Rattle.flat_model.specs.Access.{in_pages, item_holds, owned_by, owns}
use Rattle.flat_model.specs.Items.{code_between, flash_items, flash_whole}

-- the sizes of accesses
abbrev pub IsSize : ℕ → Type 0
IsSize n = (n ≡ 1) ⊎ ((n ≡ 2) ⊎ (n ≡ 4))

-- both ends of the range are multiples of 4
abbrev pub HasWholeWords : Range → Type 0
HasWholeWords range = (range.base % 4 ≡ 0) × (end_of range % 4 ≡ 0)

whole_access : (base end a n : ℕ) → base % 4 ≡ 0 → end % 4 ≡ 0 → IsSize n → a % n ≡ 0 → (nat_le base a && nat_le (a + n) end) ≡ (nat_le base a && nat_le (a + 1) end)
whole_access base end a n low high (inl one) aligned = ap (λ m. nat_le base a && nat_le (a + m) end) one
whole_access base end a n low high (inr (inl two)) aligned =
    let even : a % 2 ≡ 0 = subst (λ m. a % m ≡ 0) two aligned in
    rw two (grind (arith, nat_tests))
whole_access base end a n low high (inr (inr four)) aligned =
    let whole : a % 4 ≡ 0 = subst (λ m. a % m ≡ 0) four aligned in
    rw four (grind (arith, nat_tests))

-- an aligned access lies in an item wholly or not at all
pub item_holds-one : (a n : ℕ) (kind : Kind) (item : Item) → HasWholeWords item.range → IsSize n → a % n ≡ 0 → item_holds a n kind item ≡ item_holds a 1 kind item
item_holds-one a n kind item whole size aligned =
    ap (λ b. b && gives item.rights kind) (whole_access item.range.base (end_of item.range) a n whole.0 whole.1 size aligned)

pub list_any-item_holds-one : (a n : ℕ) (kind : Kind) (items : List Item) → AllByRecursion (λ item. HasWholeWords item.range) items → IsSize n → a % n ≡ 0 → list_any (item_holds a n kind) items ≡ list_any (item_holds a 1 kind) items
list_any-item_holds-one a n kind [] each size aligned = refl
list_any-item_holds-one a n kind (item ∷ items) each size aligned =
    let first = item_holds-one a n kind item each.0 size aligned in
    let rest = list_any-item_holds-one a n kind items each.1 size aligned in
    cc

-- the same of pages
pub in_pages-one : {A : Type 0} (is_own : A → Bool) (base page a n : ℕ) (xs : List A) → base % 4 ≡ 0 → page % 4 ≡ 0 → IsSize n → a % n ≡ 0 → in_pages is_own base page a n xs ≡ in_pages is_own base page a 1 xs
in_pages-one is_own base page a n [] low whole size aligned = refl
in_pages-one is_own base page a n (x ∷ xs) low whole size aligned =
    let here = whole_access base (base + page) a n low (omega (arith, low, whole)) size aligned in
    let rest = in_pages-one is_own (base + page) page a n xs (omega (arith, low, whole)) whole size aligned in
    join (is_own x) (nat_le base a) (nat_le (a + n) (base + page)) (nat_le (a + 1) (base + page)) (in_pages is_own (base + page) page a n xs) (in_pages is_own (base + page) page a 1 xs) here rest
  where
    join : (o l h k r s : Bool) → (l && h) ≡ (l && k) → r ≡ s → ((o && l && h) || r) ≡ ((o && l && k) || s)
    join true l h k r s e f = cc
    join false l h k r s e f = f

-- the test of a page's owner
owns_first : (b : ℕ) (x : Option BoxId) (xs : List (Option BoxId)) → owns (x ∷ xs) b 0 ≡ owned_by b x
owns_first b None xs = refl
owns_first b (Some id) xs = refl

-- a byte in the pages of the list is in one of them by its number
pub in_pages-own : (b base page a : ℕ) (xs : List (Option BoxId)) → 0 < page → in_pages (owned_by b) base page a 1 xs ≡ (nat_le base a && nat_lt a (base + length xs * page) && owns xs b ((a - base) / page))
in_pages-own b base page a [] some = sym (last (nat_le base a && nat_lt a (base + 0 * page)))
  where
    last : (t : Bool) → (t && false) ≡ false
    last true = refl
    last false = refl
in_pages-own b base page a (x ∷ xs) some =
    joined (in_pages-own b (base + page) page a xs some)
  where
    off : (o h : Bool) → ((o && false && h) || false) ≡ false
    off true h = refl
    off false h = refl

    unless : (o : Bool) → ((o && true && true) || false) ≡ o
    unless true = refl
    unless false = refl

    past : (o r : Bool) → ((o && true && false) || r) ≡ r
    past true r = refl
    past false r = refl

    joined : in_pages (owned_by b) (base + page) page a 1 xs ≡ (nat_le (base + page) a && nat_lt a ((base + page) + length xs * page) && owns xs b ((a - (base + page)) / page)) → ((owned_by b x && nat_le base a && nat_le (a + 1) (base + page)) || in_pages (owned_by b) (base + page) page a 1 xs) ≡ (nat_le base a && nat_lt a (base + suc (length xs) * page) && owns (x ∷ xs) b ((a - base) / page))
    joined rest = elim (cases_lt a base) [
      | inl before ↦
          let low : nat_le base a ≡ false = lt-leb base a before in
          let high : nat_le (base + page) a ≡ false = lt-leb (base + page) a (omega arith) in
          let empty : in_pages (owned_by b) (base + page) page a 1 xs ≡ false = rest ∙ (rw high refl) in
          rw (low, empty) (off (owned_by b x) (nat_le (a + 1) (base + page)))
      | inr after ↦ elim (cases_lt a (base + page)) [
        | inl here ↦
            let low : nat_le base a ≡ true = le-leb base a after in
            let high : nat_le (base + page) a ≡ false = lt-leb (base + page) a (omega arith) in
            let empty : in_pages (owned_by b) (base + page) page a 1 xs ≡ false = rest ∙ (rw high refl) in
            let ends : nat_le (a + 1) (base + page) ≡ true = le-leb (a + 1) (base + page) (omega arith) in
            let within : nat_lt a (base + suc (length xs) * page) ≡ true = lt-ltb a (base + suc (length xs) * page) (omega (arith, here, mul-le 1 page (suc (length xs)) page (omega arith) (omega arith))) in
            let first : (a - base) / page ≡ 0 = omega (arith, div_below (a - base) page 1 some (omega arith)) in
            rw (low, empty, ends, within, first) (unless (owned_by b x) ∙ sym (owns_first b x xs))
        | inr later ↦
            let low : nat_le base a ≡ true = le-leb base a after in
            let high : nat_le (base + page) a ≡ true = le-leb (base + page) a later in
            let ends : nat_le (a + 1) (base + page) ≡ false = lt-leb (a + 1) (base + page) (omega arith) in
            let sum : (base + page) + length xs * page ≡ base + suc (length xs) * page = omega arith in
            let place : a - base ≡ (a - (base + page)) + page = omega arith in
            let number : (a - base) / page ≡ suc ((a - (base + page)) / page) =
            ap (λ m. m / page) place ∙ add-div_right (a - (base + page)) {k = page} some ∙ add-one ((a - (base + page)) / page) in
            let tail : in_pages (owned_by b) (base + page) page a 1 xs ≡ (nat_lt a (base + suc (length xs) * page) && owns xs b ((a - (base + page)) / page)) =
            rest ∙ (rw (high, sum) refl) in
            rw (low, ends, tail, number) (past (owned_by b x) (nat_lt a (base + suc (length xs) * page) && owns xs b ((a - (base + page)) / page)))
      ]
    ]

-- ---- flash without the secret range

code_between-holds : (from to a : ℕ) (kind : Kind) → list_any (item_holds a 1 kind) (code_between from to) ≡ (nat_le from a && nat_lt a to && gives read_execute kind)
code_between-holds from to a kind = either (nat_lt from to) refl
  where
    plain : (l h g : Bool) → ((l && h && g) || false) ≡ (l && h && g)
    plain true true true = refl
    plain true true false = refl
    plain true false g = refl
    plain false h g = refl

    never : (l h : Bool) → l ≡ false → false ≡ (l && h && gives read_execute kind)
    never true h e = cc
    never false h e = refl

    none : (l h g : Bool) → (l && h) ≡ false → false ≡ (l && h && g)
    none l h g e = rw e refl

    either : (t : Bool) → nat_lt from to ≡ t → list_any (item_holds a 1 kind) (if t then record { range = record { base = from; len = to - from }; rights = read_execute } ∷ [] else []) ≡ (nat_le from a && nat_lt a to && gives read_execute kind)
    either true is =
        let order : from < to = ltb-true from to is in
        let ends : nat_le (a + 1) (from + (to - from)) ≡ nat_lt a to = grind (arith, nat_tests) in
        rw ends (plain (nat_le from a) (nat_lt a to) (gives read_execute kind))
    either false is =
        let order : to ≤ from = ltb-false from to is in
        none (nat_le from a) (nat_lt a to) (gives read_execute kind) (grind (arith, nat_tests))

-- whether the address is in a secret range that the box does not own
abbrev pub is_hidden : Option Range → Bool → ℕ → Bool
is_hidden None owned a = false
is_hidden (Some secret) owned a = not owned && in_range secret a

-- one byte is in a range where its address is
pub holds_one : (range : Range) (a : ℕ) → holds_bytes range a 1 ≡ in_range range a
holds_one range a = grind (arith, nat_tests)

whole_flash : (flash : Range) (a : ℕ) (kind : Kind) → list_any (item_holds a 1 kind) (flash_whole flash) ≡ (in_range flash a && true && gives read_execute kind)
whole_flash flash a kind = rw (holds_one flash a) (plain (in_range flash a) (gives read_execute kind))
  where
    plain : (h g : Bool) → ((h && g) || false) ≡ (h && true && g)
    plain true true = refl
    plain true false = refl
    plain false g = refl

sides : (fb sb se fe a : ℕ) (g x y : Bool) → x ≡ (nat_le fb a && nat_lt a sb && g) → y ≡ (nat_le se a && nat_lt a fe && g) → fb ≤ sb → sb ≤ se → se ≤ fe → (x || y) ≡ ((nat_le fb a && nat_lt a fe) && not (nat_le sb a && nat_lt a se) && g)
sides fb sb se fe a g x y first second low middle high = rw (first, second) (grind (arith, nat_tests))

-- what flash holds for a box
pub flash_items-holds : (flash : Range) (secret : Option Range) (owned : Bool) (a : ℕ) (kind : Kind) → IfSome secret (λ s. (flash.base ≤ s.base) × (end_of s ≤ end_of flash)) → list_any (item_holds a 1 kind) (flash_items flash secret owned) ≡ (in_range flash a && not (is_hidden secret owned a) && gives read_execute kind)
flash_items-holds flash None owned a kind inside = whole_flash flash a kind
flash_items-holds flash (Some s) true a kind inside = whole_flash flash a kind
flash_items-holds flash (Some s) false a kind inside =
    list_any-append (item_holds a 1 kind) (code_between flash.base s.base) (code_between (end_of s) (end_of flash))
    ∙ sides flash.base s.base (end_of s) (end_of flash) a (gives read_execute kind)
    (list_any (item_holds a 1 kind) (code_between flash.base s.base))
    (list_any (item_holds a 1 kind) (code_between (end_of s) (end_of flash)))
    (code_between-holds flash.base s.base a kind) (code_between-holds (end_of s) (end_of flash) a kind) inside.0 (omega arith) inside.1
