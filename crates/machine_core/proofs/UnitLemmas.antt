-- What the unit's lines do to a journal, and what a recovery is for the unit's run.
use Rattle.std.proofs.Common.{◌≡◌, ℕ, ◌+◌, ◌-◌, ◌<◌, ◌≤◌, Bool, true, false, ◌&&◌, cond, Option, Some, None, List, [], ◌∷◌, ◌++◌, map, refl, sym, ap, ◌∙◌, length, arith, append_assoc, append-nil}
use Rattle.std.specs.Option.{option_map}
use Rattle.std.proofs.lemmas.List.{length-append, length-map, map-append}
use Rattle.addr_base.specs.declared.identity.BoxId.{BoxId}
use Rattle.addr_base.specs.declared.pairs.Pair.{Pair}
use Rattle.addr_base.specs.declared.pairs.Rotated.{Rotated}
use Rattle.addr_base.specs.declared.pairs.Verdict.TheVariants.{Granted, Denied}
use Rattle.flat_model.specs.declared.accesses.Access.{Access}
use Rattle.flat_model.specs.declared.events.Logged.{Logged}
use Rattle.flat_model.specs.declared.events.Logged.TheVariants as item
use Rattle.flat_model.specs.declared.events.UnitLine.{UnitLine}
use Rattle.flat_model.specs.declared.events.UnitLine.TheVariants as line
use Rattle.flat_model.specs.declared.next.Next.{Next}
use Rattle.flat_model.specs.declared.next.Next.TheVariants as next
use Rattle.flat_model.specs.declared.parts.BoxPart.{BoxPart}
use Rattle.flat_model.specs.declared.parts.Config.{Config}
use Rattle.flat_model.specs.Decision.{decision}
use Rattle.flat_model.specs.Next.{is_page_call, is_page_turn, touch_in}
use Rattle.flat_model.specs.Plan.{first_serving, plan_of}
use Rattle.flat_model.specs.UnitRun.{UnitState, access_line, access_lines, flush_lines, is_last, rotate_lines, rotated, rotating_pair, switch_lines}
use Rattle.machine_core.specs.Journal.{JournalState, noted}

-- nothing noted
pub noted-nothing : (j : JournalState) → j ≡ noted j []
noted-nothing j =
    let room : j.room ≡ j.room - 0 = omega arith in
    ap (λ xs. record { items = xs; room = j.room }) (sym (append-nil j.items))
    ∙ ap (λ n. record { items = j.items ++ []; room = n }) room

-- no line leaves the journal as it was
pub noted-none : (j : JournalState) (lines : List UnitLine) → lines ≡ [] → j ≡ noted j (map item.Unit lines)
noted-none j lines none = noted-nothing j ∙ ap (λ ls. noted j (map item.Unit ls)) (sym none)

-- items noted one after another
pub noted-append : (j : JournalState) (xs ys : List Logged) → noted (noted j xs) ys ≡ noted j (xs ++ ys)
noted-append j xs ys =
    let room : (j.room - length xs) - length ys ≡ j.room - length (xs ++ ys) = omega (arith, length-append xs ys) in
    ap (λ zs. record { items = zs; room = (j.room - length xs) - length ys }) (append_assoc j.items xs ys)
    ∙ ap (λ n. record { items = j.items ++ (xs ++ ys); room = n }) room

-- lines noted one after another
pub noted-lines : (j : JournalState) (first second : List UnitLine) →
    noted (noted j (map item.Unit first)) (map item.Unit second) ≡ noted j (map item.Unit (first ++ second))
noted-lines j first second =
    noted-append j (map item.Unit first) (map item.Unit second)
    ∙ ap (noted j) (sym (map-append (λ (l : UnitLine). item.Unit l) first second))

-- ---- rotations

-- where the unit grants an access nothing rotates in
pub rotating-granted : (plan : List Pair) (u : UnitState) (access : Access) (slot : ℕ) →
    decision u.pairs access.at access.kind ≡ Granted slot → rotating_pair plan u access ≡ None
rotating-granted plan u access slot is = rw is refl

-- where it denies an access the first pair of the plan that serves it rotates in
pub rotating-denied : (plan : List Pair) (u : UnitState) (access : Access) →
    decision u.pairs access.at access.kind ≡ Denied → rotating_pair plan u access ≡ first_serving access.at access.kind plan
rotating-denied plan u access is = rw is refl

-- a pair with its slot
abbrev pub rotated_pair : ℕ → Pair → Rotated
rotated_pair slot pair = record { slot = slot; pair = pair }

-- a recovery that answers nothing had no pair
pub recovered-none : (slot : ℕ) (pair : Option Pair) → None ≡ option_map (λ (p : Pair). rotated_pair slot p) pair → pair ≡ None
recovered-none slot None is = refl
recovered-none slot (Some p) is = absurd (let e : None ≡ Some (rotated_pair slot p) = is in cc)

-- a recovery that answers has loaded its pair into the circle's slot
pub recovered-some : (slot : ℕ) (pair : Option Pair) (r : Rotated) → Some r ≡ option_map (λ (p : Pair). rotated_pair slot p) pair →
    (pair ≡ Some r.pair) × (r.slot ≡ slot)
recovered-some slot None r is = absurd (let e : Some r ≡ None = is in cc)
recovered-some slot (Some p) r is =
    let same : r ≡ rotated_pair slot p = cc in
    (ap (λ (x : Rotated). Some x.pair) (sym same), ap (λ (x : Rotated). x.slot) same)

-- the unit's line of a rotation
pub rotate-line : (u : UnitState) (pair : Option Pair) (r : Rotated) → pair ≡ Some r.pair → r.slot ≡ u.circle →
    rotate_lines u pair ≡ line.Rotate r.slot r.pair ∷ []
rotate-line u pair r is slot = ap (rotate_lines u) is ∙ ap (λ n. line.Rotate n r.pair ∷ []) (sym slot)

module _ (cfg : Config) (owners read : List (Option BoxId)) (b : ℕ) (part : BoxPart) (u : UnitState) (access : Access)
    (denied : decision u.pairs access.at access.kind ≡ Denied) (same : read ≡ owners) where
  rotating-read : rotating_pair (plan_of cfg owners b part) u access ≡ first_serving access.at access.kind (plan_of cfg read b part)
  rotating-read =
      rotating-denied (plan_of cfg owners b part) u access denied
      ∙ ap (λ o. first_serving access.at access.kind (plan_of cfg o b part)) (sym same)

  -- the line of a recovery
  pub rotation-line : (r : Rotated) →
      Some r ≡ option_map (λ (p : Pair). rotated_pair u.circle p) (first_serving access.at access.kind (plan_of cfg read b part)) →
      rotate_lines u (rotating_pair (plan_of cfg owners b part) u access) ≡ line.Rotate r.slot r.pair ∷ []
  rotation-line r is =
      let some = recovered-some u.circle (first_serving access.at access.kind (plan_of cfg read b part)) r is in
      rotate-line u (rotating_pair (plan_of cfg owners b part) u access) r (rotating-read ∙ some.0) some.1

  -- without a recovery there is no line
  pub rotation-none : None ≡ option_map (λ (p : Pair). rotated_pair u.circle p) (first_serving access.at access.kind (plan_of cfg read b part)) →
      rotate_lines u (rotating_pair (plan_of cfg owners b part) u access) ≡ []
  rotation-none is =
      ap (rotate_lines u) (rotating-read ∙ recovered-none u.circle (first_serving access.at access.kind (plan_of cfg read b part)) is)

-- ---- how many lines there are

pub switch-short : (u : UnitState) (b : BoxId) → length (switch_lines u b) ≤ 1
switch-short u b = by_last (is_last u.last b.0)
  where
    by_last : (l : Bool) → length (cond {A = List UnitLine} l [] (line.Switch b ∷ [])) ≤ 1
    by_last true = omega arith
    by_last false = omega arith

rotate-short : (u : UnitState) (pair : Option Pair) → length (rotate_lines u pair) ≤ 1
rotate-short u None = omega arith
rotate-short u (Some pair) = omega arith

pub access-short : (plan : List Pair) (u : UnitState) (access : Option Access) → length (access_lines plan u access) ≤ 2
access-short plan u None = omega arith
access-short plan u (Some access) =
    let pair : Option Pair = rotating_pair plan u access in
    let first = rotate-short u pair in
    rw (length-append (rotate_lines u pair) (access_line (rotated u pair) access ∷ [])) (omega arith)

flush-short : (empties : Bool) → length (flush_lines empties) ≤ 1
flush-short true = omega arith
flush-short false = omega arith

-- a turn decides an access or empties slots, and not both
pub turn-short : (plan : List Pair) (u : UnitState) (n : Next) (more : Bool) →
    length (access_lines plan u (touch_in n)) + length (flush_lines (is_page_turn n && more)) ≤ 2
turn-short plan u next.Look more = omega arith
turn-short plan u (next.Deliver irq) more = omega arith
turn-short plan u (next.Local i) more = omega arith
turn-short plan u (next.Access access) more = let short = access-short plan u (Some access) in omega arith
turn-short plan u (next.Unaligned at) more = omega arith
turn-short plan u (next.Kernel c) more = let short = flush-short (is_page_call c && more) in omega arith
turn-short plan u next.Nowhere more = omega arith

-- there is room for a flush behind a switch and an access
pub room-left : (j j1 j2 : JournalState) (first second : List UnitLine) → j1 ≡ noted j (map item.Unit first) →
    j2 ≡ noted j1 (map item.Unit second) → length first ≤ 1 → length second ≤ 2 → 4 ≤ j.room → 0 < j2.room
room-left j j1 j2 first second one two few some room =
    let r1 : j1.room ≡ j.room - length (map item.Unit first) = ap (λ (x : JournalState). x.room) one in
    let r2 : j2.room ≡ j1.room - length (map item.Unit second) = ap (λ (x : JournalState). x.room) two in
    let l1 = length-map first (λ (l : UnitLine). item.Unit l) in
    let l2 = length-map second (λ (l : UnitLine). item.Unit l) in
    omega (arith, r1, r2, l1, l2, few, some, room)

-- there is room for a flush behind an access
pub room-behind : (j j1 : JournalState) (lines : List UnitLine) → j1 ≡ noted j (map item.Unit lines) → length lines ≤ 2 → 3 ≤ j.room → 0 < j1.room
room-behind j j1 lines is few room =
    let r1 : j1.room ≡ j.room - length (map item.Unit lines) = ap (λ (x : JournalState). x.room) is in
    let l1 = length-map lines (λ (l : UnitLine). item.Unit l) in
    omega (arith, r1, l1, few, room)
