-- What isolation needs of a sound configuration, for one of its boxes.
use Rattle.std.proofs.Common.{◌≡◌, ◌≢◌, ℕ, zero, suc, ◌+◌, ◌-◌, ◌<◌, ◌≤◌, Bool, true, false, List, [], ◌∷◌, ◌++◌, map, length, replicate, Option, Some, None, refl, sym, ◌∙◌, ap, subst, arith, inl, inr, ◌⊎◌}
use Rattle.std.specs.Prelude.{◌||◌, nat_eq, nat_le, nat_lt, IfSome}
use Rattle.std.specs.List.{AllByRecursion, list_any, slice_get, flat_map}
use Rattle.std.specs.Option.{option_map}
use Rattle.std.proofs.lemmas.Bool.{and_parts, and_from, and_left, and_right, or_cases, or_left, or_right, false_from_ne_true, false≢true, eqb-true, eq-eqb, leb-true, le-leb, lt-leb, ltb-true, lt-ltb, le-ltb, ne_eqb}
use Rattle.std.proofs.lemmas.List.Folds.{list_any-append}
use Rattle.std.proofs.lemmas.Option.{slice_get-map}
use Rattle.addr_base.specs.declared.identity.BoxId.{BoxId}
use Rattle.addr_base.specs.declared.ranges.Range.{Range}
use Rattle.addr_base.specs.Range.{end_of, in_range}
use Rattle.flat_model.specs.declared.parts.BoxPart.{BoxPart}
use Rattle.flat_model.specs.declared.parts.Config.{Config}
use Rattle.flat_model.specs.declared.parts.IrqPart.{IrqPart}
use Rattle.flat_model.specs.declared.parts.Item.{Item}
use Rattle.flat_model.specs.declared.parts.RegGate.{RegGate}
use Rattle.flat_model.specs.declared.parts.ThreadPart.{ThreadPart}
use Rattle.flat_model.specs.Interrupts.{has_line}
use Rattle.flat_model.specs.Items.{code_between, flash_items, items_of}
use Rattle.box_isolation.specs.Reach.{is_thread_of}
use Rattle.flat_model.specs.Sound.{AreDistinct, AreNumbered, IsGrant, IsRegisterGate, IsSound, homes_from}
use Rattle.flat_model.proofs.Elements.{each_weaker}
use Rattle.box_isolation.proofs.ListedBytes.{in_items}
use Rattle.box_isolation.proofs.NotedBytes.{in_board}
use Rattle.flat_model.proofs.Placed.{IsPlaced-from_sound, IsSecretOf, bounds_of, in_heap_range, in_range-from}
use Rattle.flat_model.proofs.Placed as placing
use Rattle.flat_model.proofs.KeptSteps.{get-replicate}
use Rattle.std.proofs.lemmas.List.{length-replicate}
use Rattle.addr_base.specs.Rights.{read_execute, read_write}
use Rattle.flat_model.specs.Placing.{common_range}
use Rattle.std.specs.Prelude.{if◌then◌else◌}

-- the heap has none of the four bytes of a gateway's word
abbrev pub IsBesideHeap : Config → RegGate → Type 0
IsBesideHeap cfg gate = (a : ℕ) → gate.at ≤ a → a < gate.at + 4 → in_heap_range cfg.board.heap a ≡ false

-- what isolation needs for the box with this number
pub record IsSettled (cfg : Config) (b : ℕ) (box : BoxPart) : Type 0 where
  pub here : slice_get cfg.boxes b ≡ Some box
  pub items_on : (a : ℕ) → in_items box.items a ≡ true → in_board cfg.board a ≡ true
  pub heap_on : (a : ℕ) → in_heap_range cfg.board.heap a ≡ true → in_board cfg.board a ≡ true
  pub items_beside : (c : ℕ) (other : BoxPart) → slice_get cfg.boxes c ≡ Some other → (a : ℕ) → in_items other.items a ≡ true → in_heap_range cfg.board.heap a ≡ false
  pub gates_beside : AllByRecursion (IsBesideHeap cfg) cfg.registers
  pub homes : (t : ℕ) (program : ThreadPart) → slice_get cfg.threads t ≡ Some program → is_thread_of box t ≡ nat_eq program.home.0 b
  pub some_thread : 1 ≤ box.threads
  pub server_low : box.first ≤ box.server.0
  pub server_high : box.server.0 < box.first + box.threads
  pub lines : (c : ℕ) (other : BoxPart) → slice_get cfg.boxes c ≡ Some other → c ≢ b → (line : ℕ) → has_line line other.irqs ≡ true → has_line line box.irqs ≡ false

-- ---- items

code_between-in : (from to a : ℕ) → in_items (code_between from to) a ≡ true → (from ≤ a) × (a < to)
code_between-in from to a is = either (nat_lt from to) refl is
  where
    either : (t : Bool) → nat_lt from to ≡ t → in_items (if t then record { range = record { base = from; len = to - from }; rights = read_execute } ∷ [] else []) a ≡ true → (from ≤ a) × (a < to)
    either true order is =
        let less : from < to = ltb-true from to order in
        elim (or_cases (in_range (record { base = from; len = to - from }) a) false is) [
          | inl here ↦ let it = bounds_of (record { base = from; len = to - from }) a here in (it.0, omega (arith, it.1, less))
          | inr later ↦ absurd (false≢true later)
        ]
    either false order is = absurd (false≢true is)

flash-in : (flash : Range) (secret : Option Range) (owned : Bool) (a : ℕ) → IfSome secret (IsSecretOf flash) → in_items (flash_items flash secret owned) a ≡ true → in_range flash a ≡ true
flash-in flash None owned a it is = elim (or_cases (in_range flash a) false is) [ inl here ↦ here | inr later ↦ absurd (false≢true later) ]
flash-in flash (Some s) true a it is = elim (or_cases (in_range flash a) false is) [ inl here ↦ here | inr later ↦ absurd (false≢true later) ]
flash-in flash (Some s) false a it is =
    elim (or_cases (in_items (code_between flash.base s.base) a) (in_items (code_between (end_of s) (end_of flash)) a)
    (sym (list_any-append (λ (item : Item). in_range item.range a) (code_between flash.base s.base) (code_between (end_of s) (end_of flash))) ∙ is)) [
      | inl before ↦ let p = code_between-in flash.base s.base a before in in_range-from flash a p.0 (omega (arith, p.1, it.high))
      | inr after ↦ let p = code_between-in (end_of s) (end_of flash) a after in in_range-from flash a (omega (arith, p.0, it.low)) p.1
    ]

grants-in : (X : Type 0) (P : Item → Type 0) (a : ℕ) (grants : List Item) → ((g : Item) → P g → in_range g.range a ≡ true → X) → AllByRecursion P grants → in_items grants a ≡ true → X
grants-in X P a [] use_it each is = absurd (false≢true is)
grants-in X P a (g ∷ grants) use_it each is = elim (or_cases (in_range g.range a) (in_items grants a) is) [
  | inl here ↦ use_it g each.0 here
  | inr later ↦ grants-in X P a grants use_it each.1 later
]

module _ (cfg : Config) (is_sound : IsSound cfg) (b : ℕ) (part : BoxPart) (found : slice_get cfg.boxes b ≡ Some part) where
  -- where an address of an item lies
  item-place : (X : Type 0) (a : ℕ) → (in_range cfg.board.flash a ≡ true → X) → (in_range part.own a ≡ true → X) →
      ((g : Item) → IsGrant cfg.board (common_range cfg.board cfg.boxes) g → in_range g.range a ≡ true → X) → in_items part.items a ≡ true → X
  item-place X a flash own grant is =
      let placed = IsPlaced-from_sound cfg is_sound b part found in
      let box = placing.box_of cfg is_sound b part found in
      let all : in_items (items_of cfg.board part) a ≡ true = subst (λ items. in_items items a ≡ true) box.items is in
      elim (or_cases (in_items (flash_items cfg.board.flash cfg.board.secret part.secret) a) (in_range part.own a || in_items part.grants a)
      (sym (list_any-append (λ (item : Item). in_range item.range a) (flash_items cfg.board.flash cfg.board.secret part.secret) (record { range = part.own; rights = read_write } ∷ part.grants)) ∙ all)) [
        | inl first ↦ flash (flash-in cfg.board.flash cfg.board.secret part.secret a placed.secret first)
        | inr rest ↦ elim (or_cases (in_range part.own a) (in_items part.grants a) rest) [
          | inl second ↦ own second
          | inr third ↦ grants-in X (IsGrant cfg.board (common_range cfg.board cfg.boxes)) a part.grants grant box.grants third
        ]
      ]

  sram-on : (a : ℕ) → in_range cfg.board.sram a ≡ true → in_board cfg.board a ≡ true
  sram-on a is = or_right (in_range cfg.board.flash a) _ (or_left (in_range cfg.board.sram a) (in_range cfg.board.peripherals a) is)

  pub items-on : (a : ℕ) → in_items part.items a ≡ true → in_board cfg.board a ≡ true
  items-on a is = item-place (in_board cfg.board a ≡ true) a
      (λ flash. or_left (in_range cfg.board.flash a) _ flash)
      (λ own. sram-on a (placing.own_in_sram cfg is_sound b part found a own))
      (λ g it here. elim (placing.grant_place cfg is_sound b part found g a it here) [
        | inl p ↦ or_right (in_range cfg.board.flash a) _ (or_right (in_range cfg.board.sram a) _ p)
        | inr c ↦ sram-on a (placing.common_in_sram cfg is_sound b part found a c)
      ]) is

  pub heap-on : (a : ℕ) → in_heap_range cfg.board.heap a ≡ true → in_board cfg.board a ≡ true
  heap-on a is = sram-on a (placing.heap_in_sram cfg is_sound b part found a is).0

  pub items-beside : (a : ℕ) → in_items part.items a ≡ true → in_heap_range cfg.board.heap a ≡ false
  items-beside a is =
      let placed = IsPlaced-from_sound cfg is_sound b part found in
      item-place (in_heap_range cfg.board.heap a ≡ false) a (placed.flash_heap a) (placed.own_heap a)
      (λ g it here. false_from_ne_true (in_heap_range cfg.board.heap a) (λ heap.
      let both = placing.heap_in_sram cfg is_sound b part found a heap in
      elim (placing.grant_place cfg is_sound b part found g a it here) [
        | inl p ↦ placing.peripherals_not_sram cfg is_sound b part found a both.0 p
        | inr c ↦ let last = (bounds_of (common_range cfg.board cfg.boxes) a c).1 in absurd (omega (arith, last, both.1, is_sound.room))
      ])) is

  gate-beside : (gate : RegGate) → IsRegisterGate cfg.board gate → IsBesideHeap cfg gate
  gate-beside gate it a low high = false_from_ne_true (in_heap_range cfg.board.heap a) (λ heap.
      let p = and_parts (nat_le cfg.board.peripherals.base gate.at) (nat_le (gate.at + 4) (end_of cfg.board.peripherals)) it.placed in
      let start : cfg.board.peripherals.base ≤ gate.at = leb-true cfg.board.peripherals.base gate.at p.0 in
      let end : gate.at + 4 ≤ end_of cfg.board.peripherals = leb-true (gate.at + 4) (end_of cfg.board.peripherals) p.1 in
      placing.peripherals_not_sram cfg is_sound b part found a (placing.heap_in_sram cfg is_sound b part found a heap).0
      (in_range-from cfg.board.peripherals a (omega (arith, start, low)) (omega (arith, end, high))))

  pub gates-beside : AllByRecursion (IsBesideHeap cfg) cfg.registers
  gates-beside = each_weaker (IsRegisterGate cfg.board) (IsBesideHeap cfg) gate-beside cfg.registers is_sound.registers

-- ---- homes

get-append_at : {A : Type 0} (xs ys : List A) (i : ℕ) (x : A) → slice_get (xs ++ ys) i ≡ Some x →
    ((i < length xs) × (slice_get xs i ≡ Some x)) ⊎ ((length xs ≤ i) × (slice_get ys (i - length xs) ≡ Some x))
get-append_at [] ys i x at = inr (omega arith, subst (λ n. slice_get ys n ≡ Some x) (omega arith) at)
get-append_at (y ∷ xs) ys zero x at = inl (omega arith, at)
get-append_at (y ∷ xs) ys (suc i) x at = elim (get-append_at xs ys i x at) [
  | inl here ↦ inl (omega (arith, here.0), here.1)
  | inr later ↦ inr (omega (arith, later.0), subst (λ n. slice_get ys n ≡ Some x) (omega arith) later.1)
]

numbered-low : (first : ℕ) (parts : List BoxPart) (c : ℕ) (box : BoxPart) → AreNumbered first parts → slice_get parts c ≡ Some box → first ≤ box.first
numbered-low first [] c box numbered at = absurd (let e : None ≡ Some box = at in cc)
numbered-low first (part ∷ parts) zero box numbered at =
    let same : part ≡ box = cc in
    subst (λ (p : BoxPart). first ≤ p.first) same (omega (arith, numbered.0))
numbered-low first (part ∷ parts) (suc c) box numbered at =
    omega (arith, numbered-low (first + part.threads) parts c box numbered.4 at)

homes-low : (b : ℕ) (parts : List BoxPart) (t : ℕ) (home : BoxId) → slice_get (homes_from b parts) t ≡ Some home → b ≤ home.0
homes-low b [] t home at = absurd (let e : None ≡ Some home = at in cc)
homes-low b (part ∷ parts) t home at = elim (get-append_at (replicate part.threads (record { 0 = b })) (homes_from (b + 1) parts) t home at) [
  | inl here ↦ let is : home ≡ record { 0 = b } = get-replicate part.threads (record { 0 = b }) t home here.1 in
      subst (λ (h : BoxId). b ≤ h.0) (sym is) (omega arith)
  | inr later ↦ omega (arith, homes-low (b + 1) parts (t - length {A = BoxId} (replicate part.threads (record { 0 = b }))) home later.1)
]

is_in : (box : BoxPart) (t : ℕ) → box.first ≤ t → t < box.first + box.threads → is_thread_of box t ≡ true
is_in box t low high = and_from (nat_le box.first t) (nat_lt t (box.first + box.threads)) (le-leb box.first t low) (lt-ltb t (box.first + box.threads) high)

is_before : (box : BoxPart) (t : ℕ) → t < box.first → is_thread_of box t ≡ false
is_before box t low = and_left (nat_le box.first t) (nat_lt t (box.first + box.threads)) (lt-leb box.first t low)

is_after : (box : BoxPart) (t : ℕ) → box.first + box.threads ≤ t → is_thread_of box t ≡ false
is_after box t high = and_right (nat_le box.first t) (nat_lt t (box.first + box.threads)) (le-ltb t (box.first + box.threads) high)

homes-numbered : (first b : ℕ) (parts : List BoxPart) (c t : ℕ) (box : BoxPart) (home : BoxId) → AreNumbered first parts → slice_get parts c ≡ Some box →
    slice_get (homes_from b parts) t ≡ Some home → is_thread_of box (first + t) ≡ nat_eq home.0 (b + c)
homes-numbered first b [] c t box home numbered there at = absurd (let e : None ≡ Some box = there in cc)
homes-numbered first b (part ∷ parts) c t box home numbered there at =
    by_part (λ d u here found. homes-numbered (first + part.threads) (b + 1) parts d u box home numbered.4 here found) c there
    (get-append_at (replicate part.threads (record { 0 = b })) (homes_from (b + 1) parts) t home at)
  where
    long : length {A = BoxId} (replicate part.threads (record { 0 = b })) ≡ part.threads
    long = length-replicate part.threads (record { 0 = b })

    by_part : ((d u : ℕ) → slice_get parts d ≡ Some box → slice_get (homes_from (b + 1) parts) u ≡ Some home → is_thread_of box ((first + part.threads) + u) ≡ nat_eq home.0 ((b + 1) + d)) →
        (c : ℕ) → slice_get (part ∷ parts) c ≡ Some box →
        ((t < length {A = BoxId} (replicate part.threads (record { 0 = b }))) × (slice_get (replicate part.threads (record { 0 = b })) t ≡ Some home))
        ⊎ ((length {A = BoxId} (replicate part.threads (record { 0 = b })) ≤ t) × (slice_get (homes_from (b + 1) parts) (t - length {A = BoxId} (replicate part.threads (record { 0 = b }))) ≡ Some home)) →
        is_thread_of box (first + t) ≡ nat_eq home.0 (b + c)
    by_part again zero there (inl mine) =
        let same : part ≡ box = cc in
        let is : home ≡ record { 0 = b } = get-replicate part.threads (record { 0 = b }) t home mine.1 in
        let zeroth : home.0 ≡ b + 0 = ap (λ (h : BoxId). h.0) is ∙ omega arith in
        subst (λ (p : BoxPart). is_thread_of p (first + t) ≡ nat_eq home.0 (b + 0)) same
        (is_in part (first + t) (omega (arith, numbered.0)) (omega (arith, numbered.0, mine.0, long)) ∙ sym (eq-eqb home.0 (b + 0) zeroth))
    by_part again zero there (inr later) =
        let same : part ≡ box = cc in
        let past = homes-low (b + 1) parts (t - length {A = BoxId} (replicate part.threads (record { 0 = b }))) home later.1 in
        subst (λ (p : BoxPart). is_thread_of p (first + t) ≡ nat_eq home.0 (b + 0)) same
        (is_after part (first + t) (omega (arith, numbered.0, later.0, long)) ∙ sym (ne_eqb home.0 (b + 0) (λ e. absurd (omega (arith, e, past)))))
    by_part again (suc c) there (inl mine) =
        let is : home ≡ record { 0 = b } = get-replicate part.threads (record { 0 = b }) t home mine.1 in
        let zeroth : home.0 ≡ b = ap (λ (h : BoxId). h.0) is in
        let low = numbered-low (first + part.threads) parts c box numbered.4 there in
        is_before box (first + t) (omega (arith, low, mine.0, long)) ∙ sym (ne_eqb home.0 (b + suc c) (λ e. absurd (omega (arith, e, zeroth))))
    by_part again (suc c) there (inr later) =
        let place : (first + part.threads) + (t - length {A = BoxId} (replicate part.threads (record { 0 = b }))) ≡ first + t = omega (arith, later.0, long) in
        let number : (b + 1) + c ≡ b + suc c = omega arith in
        let rest = again c (t - length {A = BoxId} (replicate part.threads (record { 0 = b }))) there later.1 in
        subst (λ n. is_thread_of box (first + t) ≡ nat_eq home.0 n) number (subst (λ n. is_thread_of box n ≡ nat_eq home.0 ((b + 1) + c)) place rest)

pub homes-of : (cfg : Config) → IsSound cfg → (b : ℕ) (box : BoxPart) → slice_get cfg.boxes b ≡ Some box → (t : ℕ) (program : ThreadPart) → slice_get cfg.threads t ≡ Some program →
    is_thread_of box t ≡ nat_eq program.home.0 b
homes-of cfg is_sound b box there t program at =
    let home : slice_get (map (λ (p : ThreadPart). p.home) cfg.threads) t ≡ Some program.home =
    slice_get-map (λ (p : ThreadPart). p.home) cfg.threads t ∙ ap (option_map (λ (p : ThreadPart). p.home)) at in
    let it : is_thread_of box (0 + t) ≡ nat_eq program.home.0 (0 + b) =
    homes-numbered 0 0 cfg.boxes b t box program.home is_sound.numbered there (subst (λ xs. slice_get xs t ≡ Some program.home) is_sound.homes home) in
    let thread : 0 + t ≡ t = omega arith in
    let number : 0 + b ≡ b = omega arith in
    subst (λ n. is_thread_of box n ≡ nat_eq program.home.0 b) thread (subst (λ n. is_thread_of box (0 + t) ≡ nat_eq program.home.0 n) number it)

-- a box's server and its count of threads
record HasServer (box : BoxPart) : Type 0 where
  some : 1 ≤ box.threads
  low : box.first ≤ box.server.0
  high : box.server.0 < box.first + box.threads

server-of : (first : ℕ) (parts : List BoxPart) (c : ℕ) (box : BoxPart) → AreNumbered first parts → slice_get parts c ≡ Some box → HasServer box
server-of first [] c box numbered at = absurd (let e : None ≡ Some box = at in cc)
server-of first (part ∷ parts) zero box numbered at =
    let same : part ≡ box = cc in
    subst HasServer same (record { some = numbered.1; low = numbered.2; high = numbered.3 })
server-of first (part ∷ parts) (suc c) box numbered at = server-of (first + part.threads) parts c box numbered.4 at

-- ---- lines

abbrev is_among : ℕ → List ℕ → Bool
is_among n xs = list_any (λ x. nat_eq x n) xs

lines-among : (n : ℕ) (irqs : List IrqPart) → is_among n (map (λ (irq : IrqPart). irq.line.0) irqs) ≡ has_line n irqs
lines-among n [] = refl
lines-among n (irq ∷ irqs) = ap (λ rest. nat_eq irq.line.0 n || rest) (lines-among n irqs)

among-same : (x n : ℕ) (xs : List ℕ) → x ≡ n → is_among n xs ≡ true → list_any (λ y. nat_eq x y) xs ≡ true
among-same x n [] same has = absurd (false≢true has)
among-same x n (y ∷ xs) same has = elim (or_cases (nat_eq y n) (is_among n xs) has) [
  | inl here ↦ or_left _ _ (eq-eqb x y (same ∙ sym (eqb-true y n here)))
  | inr later ↦ or_right _ _ (among-same x n xs same later)
]

distinct-apart : (n : ℕ) (xs ys : List ℕ) → AreDistinct (xs ++ ys) → is_among n xs ≡ true → is_among n ys ≡ true → ⊥
distinct-apart n [] ys distinct first second = absurd (false≢true first)
distinct-apart n (x ∷ xs) ys distinct first second = elim (or_cases (nat_eq x n) (is_among n xs) first) [
  | inl here ↦ false≢true (sym distinct.0 ∙ list_any-append (λ y. nat_eq x y) xs ys ∙ or_right _ _ (among-same x n ys (eqb-true x n here) second))
  | inr later ↦ distinct-apart n xs ys distinct.1 later second
]

distinct-rest : (xs ys : List ℕ) → AreDistinct (xs ++ ys) → AreDistinct ys
distinct-rest [] ys distinct = distinct
distinct-rest (x ∷ xs) ys distinct = distinct-rest xs ys distinct.1

abbrev all_lines : List BoxPart → List ℕ
all_lines parts = flat_map (λ (part : BoxPart). map (λ (irq : IrqPart). irq.line.0) part.irqs) parts

among-all : (n : ℕ) (parts : List BoxPart) (c : ℕ) (box : BoxPart) → slice_get parts c ≡ Some box → has_line n box.irqs ≡ true → is_among n (all_lines parts) ≡ true
among-all n [] c box at has = absurd (let e : None ≡ Some box = at in cc)
among-all n (part ∷ parts) zero box at has =
    let same : box ≡ part = cc in
    list_any-append (λ x. nat_eq x n) (map (λ (irq : IrqPart). irq.line.0) part.irqs) (all_lines parts)
    ∙ or_left _ _ (lines-among n part.irqs ∙ subst (λ (p : BoxPart). has_line n p.irqs ≡ true) same has)
among-all n (part ∷ parts) (suc c) box at has =
    list_any-append (λ x. nat_eq x n) (map (λ (irq : IrqPart). irq.line.0) part.irqs) (all_lines parts)
    ∙ or_right _ _ (among-all n parts c box at has)

lines-apart : (n : ℕ) (parts : List BoxPart) (c d : ℕ) (one two : BoxPart) → AreDistinct (all_lines parts) → slice_get parts c ≡ Some one → slice_get parts d ≡ Some two →
    c ≢ d → has_line n one.irqs ≡ true → has_line n two.irqs ≡ true → ⊥
lines-apart n [] c d one two distinct first second other has too = absurd (let e : None ≡ Some one = first in cc)
lines-apart n (part ∷ parts) zero zero one two distinct first second other has too = absurd (other refl)
lines-apart n (part ∷ parts) zero (suc d) one two distinct first second other has too =
    let same : one ≡ part = cc in
    distinct-apart n (map (λ (irq : IrqPart). irq.line.0) part.irqs) (all_lines parts) distinct
    (lines-among n part.irqs ∙ subst (λ (p : BoxPart). has_line n p.irqs ≡ true) same has) (among-all n parts d two second too)
lines-apart n (part ∷ parts) (suc c) zero one two distinct first second other has too =
    let same : two ≡ part = cc in
    distinct-apart n (map (λ (irq : IrqPart). irq.line.0) part.irqs) (all_lines parts) distinct
    (lines-among n part.irqs ∙ subst (λ (p : BoxPart). has_line n p.irqs ≡ true) same too) (among-all n parts c one first has)
lines-apart n (part ∷ parts) (suc c) (suc d) one two distinct first second other has too =
    lines-apart n parts c d one two (distinct-rest (map (λ (irq : IrqPart). irq.line.0) part.irqs) (all_lines parts) distinct) first second
    (λ same. other (ap suc same)) has too

-- a box of a sound configuration is settled
pub IsSettled-from_sound : (cfg : Config) → IsSound cfg → (b : ℕ) (box : BoxPart) → slice_get cfg.boxes b ≡ Some box → IsSettled cfg b box
IsSettled-from_sound cfg is_sound b box there =
    let server = server-of 0 cfg.boxes b box is_sound.numbered there in
    record {
      here = there;
      items_on = items-on cfg is_sound b box there;
      heap_on = heap-on cfg is_sound b box there;
      items_beside = λ c other at. items-beside cfg is_sound c other at;
      gates_beside = gates-beside cfg is_sound b box there;
      homes = homes-of cfg is_sound b box there;
      some_thread = server.some;
      server_low = server.low;
      server_high = server.high;
      lines = λ c other at differs line has. false_from_ne_true (has_line line box.irqs)
          (λ too. lines-apart line cfg.boxes c b other box is_sound.lines_once at there differs has too);
    }
