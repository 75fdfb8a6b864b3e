-- Isolation, event by event: the flat machine and the box by itself go on side by side.
use Rattle.std.proofs.Common.{◌≡◌, ◌≢◌, ℕ, zero, suc, ◌+◌, ◌-◌, ◌<◌, ◌≤◌, Bool, true, false, List, [], ◌∷◌, ◌++◌, take, drop, Option, Some, None, refl, sym, ◌∙◌, ap, arith, inl, inr}
use Rattle.std.specs.Prelude.{nat_eq, nat_le, nat_lt, if◌then◌else◌, slice_get, slice_set}
use Rattle.std.specs.Option.{option_map}
use Rattle.std.proofs.lemmas.Bool.{cases_Bool, and_parts, and_cases, or_left, or_right, false≢true, leb-true, leb-false, ltb-true, ltb-false, eq-eqb}
use Rattle.std.proofs.lemmas.Option.{slice_get-map}
use Rattle.addr_base.specs.declared.identity.ThreadId.{ThreadId}
use Rattle.addr_base.specs.declared.identity.Ticket.{Ticket}
use Rattle.flat_model.specs.declared.events.Reply.{Reply}
use Rattle.flat_model.specs.declared.next.Next.TheVariants as next
use Rattle.flat_model.specs.declared.parts.BoxPart.{BoxPart}
use Rattle.flat_model.specs.declared.parts.Config.{Config}
use Rattle.flat_model.specs.declared.parts.IrqPart.{IrqPart}
use Rattle.flat_model.specs.declared.parts.ThreadPart.{ThreadPart}
use Rattle.flat_model.specs.declared.states.Flat.{Flat}
use Rattle.flat_model.specs.declared.states.Lines.{Lines}
use Rattle.flat_model.specs.declared.states.ThreadState.{ThreadState}
use Rattle.flat_model.specs.Actors.{Actor, actor_of, who_acts}
use Rattle.box_isolation.specs.Alone.{replies_from}
use Rattle.box_isolation.specs.AloneState.{Lone, kept_noting}
use Rattle.box_isolation.specs.Arrivals.{Arrival, Part}
use Rattle.flat_model.specs.CallRows.{server_row}
use Rattle.flat_model.specs.Calls.{next_call}
use Rattle.flat_model.specs.Cells.{Cell}
use Rattle.flat_model.specs.Interrupts.{due_interrupt, has_line, is_deliverable, lower_of, lowest_deliverable, saved_context}
use Rattle.flat_model.specs.Next.{access_by, holds_next, next_at, next_by_class, next_of, next_of_actor, next_when_ready}
use Rattle.flat_model.specs.Access.{is_aligned}
use Rattle.flat_model.specs.Classes.{class_of}
use Rattle.flat_model.specs.declared.accesses.Access.{Access}
use Rattle.flat_model.specs.declared.classes.InstrClass.{InstrClass}
use Rattle.flat_model.specs.declared.classes.InstrClass.TheVariants as class
use Rattle.flat_model.specs.declared.instructions.Instr.{Instr}
use Rattle.std.specs.Prelude.{is_none}
use Rattle.box_isolation.specs.Part.{own_of, part_of, program_of}
use Rattle.box_isolation.specs.Reach.{differing, is_thread_of, listed}
use Rattle.flat_model.specs.Step.{serve_by, turn_by}
use Rattle.flat_model.specs.Thread.{counted, is_waiting}
use Rattle.flat_model.specs.Turn.{turn_row, within_budget}
use Rattle.flat_model.proofs.ActorLemmas.{actor-is}
use Rattle.box_isolation.proofs.AlikeBoxes.{IsBeside, Spares, Spares-refl}
use Rattle.box_isolation.proofs.OtherEvents.{DeliversOwn, row-spares}
use Rattle.box_isolation.proofs.OwnEvents.{listed-alike}
use Rattle.box_isolation.proofs.Settled.{IsSettled}
use Rattle.box_isolation.proofs.SparesRows.{start-spares}

-- ---- what a list by threads has for the box

get-drop : {A : Type 0} (m i : ℕ) (xs : List A) → slice_get (drop m xs) i ≡ slice_get xs (m + i)
get-drop zero i xs = ap (slice_get xs) (omega arith)
get-drop (suc m) i [] = refl
get-drop (suc m) i (x ∷ xs) =
    let place : suc m + i ≡ suc (m + i) = omega arith in
    get-drop m i xs ∙ sym (ap (slice_get (x ∷ xs)) place)

get-take : {A : Type 0} (n i : ℕ) (xs : List A) → i < n → slice_get (take n xs) i ≡ slice_get xs i
get-take zero i xs below = absurd (omega (arith, below))
get-take (suc n) i [] below = refl
get-take (suc n) zero (x ∷ xs) below = refl
get-take (suc n) (suc i) (x ∷ xs) below = get-take n i xs (omega (arith, below))

drop-set : {A : Type 0} (m i : ℕ) (v : A) (xs : List A) → drop m (slice_set xs (m + i) v) ≡ slice_set (drop m xs) i v
drop-set zero i v xs = ap (λ n. slice_set xs n v) (omega arith)
drop-set (suc m) i v [] = refl
drop-set (suc m) i v (x ∷ xs) =
    let place : suc m + i ≡ suc (m + i) = omega arith in
    ap (λ n. drop (suc m) (slice_set (x ∷ xs) n v)) place ∙ drop-set m i v xs

drop-before : {A : Type 0} (m t : ℕ) (v : A) (xs : List A) → t < m → drop m (slice_set xs t v) ≡ drop m xs
drop-before zero t v xs before = absurd (omega (arith, before))
drop-before (suc m) t v [] before = refl
drop-before (suc m) zero v (x ∷ xs) before = refl
drop-before (suc m) (suc t) v (x ∷ xs) before = drop-before m t v xs (omega (arith, before))

take-set : {A : Type 0} (n i : ℕ) (v : A) (xs : List A) → take n (slice_set xs i v) ≡ slice_set (take n xs) i v
take-set zero i v xs = refl
take-set (suc n) i v [] = refl
take-set (suc n) zero v (x ∷ xs) = refl
take-set (suc n) (suc i) v (x ∷ xs) = ap (λ rest. x ∷ rest) (take-set n i v xs)

take-past : {A : Type 0} (n i : ℕ) (v : A) (xs : List A) → n ≤ i → take n (slice_set xs i v) ≡ take n xs
take-past zero i v xs past = refl
take-past (suc n) i v [] past = refl
take-past (suc n) zero v (x ∷ xs) past = absurd (omega (arith, past))
take-past (suc n) (suc i) v (x ∷ xs) past = ap (λ rest. x ∷ rest) (take-past n i v xs (omega (arith, past)))

-- a thread of the box lies in the box's range of threads
record LiesIn (box : BoxPart) (t : ℕ) : Type 0 where
  low : box.first ≤ t
  high : t < box.first + box.threads

lies-in : (box : BoxPart) (t : ℕ) → is_thread_of box t ≡ true → LiesIn box t
lies-in box t own =
    let it = and_parts (nat_le box.first t) (nat_lt t (box.first + box.threads)) own in
    record { low = leb-true box.first t it.0; high = ltb-true t (box.first + box.threads) it.1 }

pub own-get : {A : Type 0} (box : BoxPart) (t : ℕ) (xs : List A) → is_thread_of box t ≡ true → slice_get (own_of box xs) (t - box.first) ≡ slice_get xs t
own-get box t xs own =
    let it = lies-in box t own in
    let place : box.first + (t - box.first) ≡ t = omega (arith, it.low) in
    get-take box.threads (t - box.first) (drop box.first xs) (omega (arith, it.low, it.high)) ∙ get-drop box.first (t - box.first) xs ∙ ap (slice_get xs) place

pub own-set : {A : Type 0} (box : BoxPart) (t : ℕ) (v : A) (xs : List A) → is_thread_of box t ≡ true → own_of box (slice_set xs t v) ≡ slice_set (own_of box xs) (t - box.first) v
own-set box t v xs own =
    let it = lies-in box t own in
    let place : t ≡ box.first + (t - box.first) = omega (arith, it.low) in
    ap (λ n. own_of box (slice_set xs n v)) place ∙ ap (take box.threads) (drop-set box.first (t - box.first) v xs) ∙ take-set box.threads (t - box.first) v (drop box.first xs)

pub own-apart : {A : Type 0} (box : BoxPart) (t : ℕ) (v : A) (xs : List A) → is_thread_of box t ≡ false → own_of box (slice_set xs t v) ≡ own_of box xs
own-apart box t v xs far = elim (and_cases (nat_le box.first t) (nat_lt t (box.first + box.threads)) far) [
  | inl before ↦ ap (take box.threads) (drop-before box.first t v xs (leb-false box.first t before))
  | inr past ↦ elim (cases_Bool (nat_le box.first t)) [
    | inr before ↦ ap (take box.threads) (drop-before box.first t v xs (leb-false box.first t before))
    | inl from ↦
        let low : box.first ≤ t = leb-true box.first t from in
        let end : box.first + box.threads ≤ t = ltb-false t (box.first + box.threads) past in
        let place : t ≡ box.first + (t - box.first) = omega (arith, low) in
        ap (λ n. own_of box (slice_set xs n v)) place ∙ ap (take box.threads) (drop-set box.first (t - box.first) v xs)
        ∙ take-past box.threads (t - box.first) v (drop box.first xs) (omega (arith, low, end))
  ]
]

-- ---- a delivered line is one of the box's

lowest-own : (lines : Lines) (irqs : List IrqPart) (irq : IrqPart) → lowest_deliverable lines irqs ≡ Some irq → has_line irq.line.0 irqs ≡ true
lowest-own lines [] irq is = absurd (let e : None ≡ Some irq = is in cc)
lowest-own lines (x ∷ irqs) irq is = by_test (λ found. lowest-own lines irqs irq found) (is_deliverable lines x.line.0) (lowest_deliverable lines irqs) refl is
  where
    first : x ≡ irq → has_line irq.line.0 (x ∷ irqs) ≡ true
    first same = or_left (nat_eq x.line.0 irq.line.0) (has_line irq.line.0 irqs) (eq-eqb x.line.0 irq.line.0 (ap (λ (y : IrqPart). y.line.0) same))

    later : (lowest_deliverable lines irqs ≡ Some irq → has_line irq.line.0 irqs ≡ true) → lowest_deliverable lines irqs ≡ Some irq → has_line irq.line.0 (x ∷ irqs) ≡ true
    later again found = or_right (nat_eq x.line.0 irq.line.0) (has_line irq.line.0 irqs) (again found)

    by_test : (lowest_deliverable lines irqs ≡ Some irq → has_line irq.line.0 irqs ≡ true) → (t : Bool) (o : Option IrqPart) → lowest_deliverable lines irqs ≡ o → (if t then Some (lower_of x o) else o) ≡ Some irq → has_line irq.line.0 (x ∷ irqs) ≡ true
    by_test again false o rest is = later again (rest ∙ is)
    by_test again true None rest is = first (let same : x ≡ irq = cc in same)
    by_test again true (Some y) rest is = elim (cases_Bool (nat_lt y.line.0 x.line.0)) [
      | inl lower ↦ later again (rest ∙ (sym (rw lower refl) ∙ is))
      | inr not_lower ↦ first (let same : Some x ≡ Some irq = sym (rw not_lower refl) ∙ is in cc)
    ]

due-own : (lines : Lines) (box : BoxPart) (b t : ℕ) (irq : IrqPart) → due_interrupt lines box b t ≡ Some irq → has_line irq.line.0 box.irqs ≡ true
due-own lines box b t irq is = elim (cases_Bool (nat_eq t box.first)) [
  | inr other ↦ absurd (let e : None ≡ Some irq = sym (rw other refl) ∙ is in cc)
  | inl first ↦ elim (cases_Bool (is_none (saved_context lines b))) [
    | inr handler ↦ absurd (let e : None ≡ Some irq = sym (rw (first, handler) refl) ∙ is in cc)
    | inl free ↦ lowest-own lines box.irqs irq (sym (rw (first, free) refl) ∙ is)
  ]
]

-- ---- listed bytes

pub listed-replies : (part : Part) (s : Lone) (cells : List Cell) (rest : List Arrival) → replies_from part s (listed cells ++ rest) ≡ replies_from part (record s { kept = kept_noting cells s.kept }) rest
listed-replies part s [] rest = refl
listed-replies part s (cell ∷ cells) rest = refl

-- what an event of the box's own gives: one reply more, and both go on side by side
pub record OwnStep (cfg : Config) (b : ℕ) (box : BoxPart) (s : Lone) (after : Flat × Reply) (arrivals : List Arrival) : Type 0 where
  pub lone : Lone
  pub answers : (rest : List Arrival) → replies_from (part_of cfg b box) s (arrivals ++ rest) ≡ after.1 ∷ replies_from (part_of cfg b box) lone rest
  pub beside : IsBeside cfg b box after.0 lone

-- what another event gives: no reply, and both go on side by side
pub record OtherStep (cfg : Config) (b : ℕ) (box : BoxPart) (s : Lone) (after : Flat × Reply) (arrivals : List Arrival) : Type 0 where
  pub lone : Lone
  pub answers : (rest : List Arrival) → replies_from (part_of cfg b box) s (arrivals ++ rest) ≡ replies_from (part_of cfg b box) lone rest
  pub beside : IsBeside cfg b box after.0 lone

pub spared-step : (cfg : Config) (b : ℕ) (box : BoxPart) (f : Flat) (s : Lone) (after : Flat × Reply) → IsBeside cfg b box f s → Spares cfg b box f.shared after.0.shared →
    own_of box after.0.threads ≡ own_of box f.threads → OtherStep cfg b box s after (listed (differing cfg box f after.0))
spared-step cfg b box f s after beside spares threads = record {
  lone = record s { kept = kept_noting (differing cfg box f after.0) s.kept };
  answers = λ rest. listed-replies (part_of cfg b box) s (differing cfg box f after.0) rest;
  beside = record { kept = listed-alike cfg b box f.shared after.0.shared s.kept spares beside.kept; threads = beside.threads ∙ sym threads };
}

-- ---- an event of another box

next-delivers : (other : BoxPart) (program : ThreadPart) (th : ThreadState) (due : Option IrqPart) → ((irq : IrqPart) → due ≡ Some irq → has_line irq.line.0 other.irqs ≡ true) → DeliversOwn other (next_of program th due)
next-delivers other program th due own = by_mode (is_waiting th.mode) due own
  where
    plain : (i : Option Instr) → DeliversOwn other (next_at th i)
    plain None = tt
    plain (Some i) = by_class (class_of i)
      where
        by_aligned : (t : Bool) (access : Access) → DeliversOwn other (if t then next.Access access else next.Unaligned access.at)
        by_aligned true access = tt
        by_aligned false access = tt

        by_class : (c : InstrClass) → DeliversOwn other (next_by_class th c)
        by_class (class.Local i) = tt
        by_class (class.Memory i) = by_aligned (is_aligned (access_by th i).at (access_by th i).size) (access_by th i)
        by_class (class.Kernel c) = tt

    by_mode : (t : Bool) (due : Option IrqPart) → ((irq : IrqPart) → due ≡ Some irq → has_line irq.line.0 other.irqs ≡ true) → DeliversOwn other (if t then next.Look else next_when_ready program th due)
    by_mode true due own = tt
    by_mode false (Some irq) own = own irq refl
    by_mode false None own = plain (slice_get program.program th.pc)

module _ (cfg : Config) (b : ℕ) (box : BoxPart) (f : Flat) (s : Lone) (is_settled : IsSettled cfg b box) (beside : IsBeside cfg b box f s) where
  -- an actor that is no thread of the box is of another box
  of-another : (t : ℕ) (a : Actor) → actor_of cfg f t ≡ Some a → is_thread_of box t ≡ false → a.program.home.0 ≢ b
  of-another t a acts far same =
      false≢true (sym far ∙ is_settled.homes t a.program (actor-is cfg f t a acts).program ∙ eq-eqb a.program.home.0 b same)

  pub other-turn : (t : ThreadId) (room : Bool) (o : Option Actor) → actor_of cfg f t.0 ≡ o → is_thread_of box t.0 ≡ false →
      OtherStep cfg b box s (turn_by cfg f t room o) (listed (differing cfg box f (turn_by cfg f t room o).0))
  other-turn t room None acts far = spared-step cfg b box f s (turn_by cfg f t room None) beside (Spares-refl cfg b box f.shared) refl
  other-turn t room (Some a) acts far =
      let n = next_of_actor f.shared.lines a t.0 in
      let own = next-delivers a.part a.program a.thread (due_interrupt f.shared.lines a.part a.program.home.0 t.0) (λ irq is. due-own f.shared.lines a.part a.program.home.0 t.0 irq is) in
      spared-step cfg b box f s (turn_by cfg f t room (Some a)) beside
      (row-spares cfg b box is_settled (who_acts a t room) a.part (actor-is cfg f t.0 a acts).part (of-another t.0 a acts far) far f.shared (counted a.thread) n beside.kept.pages.count own)
      (own-apart box t.0 (turn_row cfg (who_acts a t room) a.part a.program.steps f.shared a.thread (holds_next cfg.board a.program.home.0 a.part f.shared.owners n) n).thread f.threads far)

  pub other-serve : (t : ThreadId) (ticket : Option Ticket) (o : Option Actor) → actor_of cfg f t.0 ≡ o → is_thread_of box t.0 ≡ false →
      OtherStep cfg b box s (serve_by cfg f t ticket o) (listed (differing cfg box f (serve_by cfg f t ticket o).0))
  other-serve t ticket None acts far = spared-step cfg b box f s (serve_by cfg f t ticket None) beside (Spares-refl cfg b box f.shared) refl
  other-serve t ticket (Some a) acts far =
      spared-step cfg b box f s (serve_by cfg f t ticket (Some a)) beside (by_ticket ticket)
      (own-apart box t.0 (within_budget a.program.steps (server_row cfg a.program.home.0 f.shared (counted a.thread) ticket)).thread f.threads far)
    where
      by_ticket : (o : Option Ticket) → Spares cfg b box f.shared (server_row cfg a.program.home.0 f.shared (counted a.thread) o).shared
      by_ticket None = Spares-refl cfg b box f.shared
      by_ticket (Some k) = start-spares cfg b box a.program.home.0 f.shared (counted a.thread) k (next_call k a.program.home.0 f.shared.calls) (of-another t.0 a acts far)

  pub own-program : (t : ℕ) → is_thread_of box t ≡ true → slice_get (part_of cfg b box).programs (t - box.first) ≡ option_map program_of (slice_get cfg.threads t)
  own-program t own = slice_get-map program_of (own_of box cfg.threads) (t - box.first) ∙ ap (option_map program_of) (own-get box t cfg.threads own)

  pub own-thread : (t : ℕ) → is_thread_of box t ≡ true → slice_get s.threads (t - box.first) ≡ slice_get f.threads t
  own-thread t own = ap (λ xs. slice_get xs (t - box.first)) beside.threads ∙ own-get box t f.threads own
