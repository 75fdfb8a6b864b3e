-- A legal log over a sound configuration names what is there.
use Rattle.std.proofs.Common.{◌≡◌, ℕ, ◌-◌, Bool, true, false, List, [], ◌∷◌, ◌++◌, length, map, Option, Some, None, refl, sym, ◌∙◌, ap, subst, arith, inl, inr}
use Rattle.std.specs.Prelude.{MatchOption, if◌then◌else◌}
use Rattle.std.specs.List.{AllByRecursion, list_all}
use Rattle.std.proofs.lemmas.Bool.{cases_Bool, lt-ltb}
use Rattle.std.proofs.lemmas.List.{length-map, length-replicate, length-set}
use Rattle.std.proofs.lemmas.Option.{slice_get_within}
use Rattle.addr_base.specs.declared.identity.BoxId.{BoxId}
use Rattle.addr_base.specs.declared.identity.ThreadId.{ThreadId}
use Rattle.addr_base.specs.declared.identity.Ticket.{Ticket}
use Rattle.addr_base.specs.declared.pairs.Pair.{Pair}
use Rattle.addr_base.specs.declared.rights.Kind.{Kind}
use Rattle.flat_model.specs.declared.accesses.Access.{Access}
use Rattle.flat_model.specs.declared.events.Choice.{Choice}
use Rattle.flat_model.specs.declared.events.Choice.TheVariants as choice
use Rattle.flat_model.specs.declared.events.Logged.{Logged}
use Rattle.flat_model.specs.declared.events.Logged.TheVariants as item
use Rattle.flat_model.specs.declared.events.Reply.TheVariants as reply
use Rattle.flat_model.specs.declared.events.UnitLine.{UnitLine}
use Rattle.flat_model.specs.declared.logs.Log.{Log}
use Rattle.flat_model.specs.declared.next.Next.{Next}
use Rattle.flat_model.specs.declared.next.Next.TheVariants as next
use Rattle.flat_model.specs.declared.parts.BoxPart.{BoxPart}
use Rattle.flat_model.specs.declared.parts.Config.{Config}
use Rattle.flat_model.specs.declared.states.Flat.{Flat}
use Rattle.flat_model.specs.Actors.{Actor, actor_of, who_acts}
use Rattle.flat_model.specs.CallRows.{server_row}
use Rattle.flat_model.specs.Decision.{decision, gives_at, matches_at, verdict_of}
use Rattle.flat_model.specs.Greatest.{Says, greatest}
use Rattle.flat_model.specs.Legal.{IsLegal, all_fit}
use Rattle.flat_model.specs.Log.{IsNamed, choices_of, is_box, is_named_item, is_named_line, is_named_verdict, is_size}
use Rattle.flat_model.specs.OneLog.{entries_of_run, log_of_choices, woven_items}
use Rattle.flat_model.specs.Outcome.{Outcome}
use Rattle.flat_model.specs.Placing.{common_range}
use Rattle.flat_model.specs.Plan.{REGIONS, plan_of}
use Rattle.flat_model.specs.Run.{end_of_thread, opening_state, state_after_all}
use Rattle.flat_model.specs.Sound.{IsBox, IsSound}
use Rattle.flat_model.specs.Step.{empties_slots, fitting_step, reply_to, serve_by, settled, state_after, step, touch_by, touch_of, turn_by}
use Rattle.flat_model.specs.Interrupts.{due_interrupt}
use Rattle.flat_model.specs.Next.{holds_next, next_of_actor, touch_in}
use Rattle.flat_model.specs.Thread.{counted}
use Rattle.flat_model.specs.ThreadEvents.{opening_thread}
use Rattle.flat_model.specs.Turn.{turn_row, within_budget}
use Rattle.flat_model.specs.UnitRun.{UnitState, access_line, access_lines, accessed, actor_at, entered, flush_lines, flushed, is_last, lines_of_actor, lines_of_run, opening_unit, rotate_lines, rotated, rotating_pair, switch_lines, unit_after, unit_after_actor, unit_lines}
use Rattle.flat_model.proofs.AccessReplies.{IsFit, next-fit}
use Rattle.flat_model.proofs.HeldBytes.{IsSize}
use Rattle.flat_model.proofs.ReadyWorlds.{part-acting}
use Rattle.flat_model.proofs.Flushing.{OnCircle-next, length-cleared}
use Rattle.flat_model.proofs.Greatness.{Says-greatest}
use Rattle.flat_model.specs.Want.{fits}
use Rattle.flat_model.specs.Circle.{OnCircle}
use Rattle.flat_model.proofs.LegalLogs.{legal-one_log}
use Rattle.flat_model.proofs.NamedChoices.{HasNamedLines, both_true, entry-named}
use Rattle.flat_model.proofs.NamedReplies.{HasLines}

-- the unit has its regions, and its circle stands on one
pub record IsShaped (u : UnitState) : Type 0 where
  pub regions : length u.pairs ≡ REGIONS
  pub on : OnCircle REGIONS u.circle

IsShaped-opening : (cfg : Config) → IsShaped (opening_unit cfg)
IsShaped-opening cfg = record { regions = refl; on = (omega arith, omega arith) }

IsShaped-entered : (cfg : Config) (part : BoxPart) (u : UnitState) (b : BoxId) → IsShaped u → IsShaped (entered cfg part u b)
IsShaped-entered cfg part u b it = elim (cases_Bool (is_last u.last b.0)) [
  | inl last ↦ rw last it
  | inr other ↦ rw other (record { regions = refl; on = (omega arith, omega arith) })
]

IsShaped-rotated : (u : UnitState) (pair : Option Pair) → IsShaped u → IsShaped (rotated u pair)
IsShaped-rotated u None it = it
IsShaped-rotated u (Some pair) it = record {
  regions = length-set u.pairs u.circle pair ∙ it.regions;
  on = rw it.regions (OnCircle-next REGIONS u.circle (omega arith) it.on);
}

IsShaped-accessed : (plan : List Pair) (u : UnitState) (access : Option Access) → IsShaped u → IsShaped (accessed plan u access)
IsShaped-accessed plan u None it = it
IsShaped-accessed plan u (Some access) it = IsShaped-rotated u (rotating_pair plan u access) it

IsShaped-flushed : (empties : Bool) (u : UnitState) → IsShaped u → IsShaped (flushed empties u)
IsShaped-flushed false u it = it
IsShaped-flushed true u it =
    record { regions = length-cleared (length u.pairs - 3) u.pairs ∙ it.regions; on = (omega arith, omega arith) }

IsShaped-actor : (cfg : Config) (f : Flat) (u : UnitState) (c : Choice) (a : Option Actor) → IsShaped u → IsShaped (unit_after_actor cfg f u c a)
IsShaped-actor cfg f u c None it = it
IsShaped-actor cfg f u c (Some a) it =
    let plan : List Pair = plan_of cfg f.shared.owners a.program.home.0 a.part in
    IsShaped-flushed (empties_slots cfg f c) (accessed plan (entered cfg a.part u a.program.home) (touch_of cfg f c))
    (IsShaped-accessed plan (entered cfg a.part u a.program.home) (touch_of cfg f c) (IsShaped-entered cfg a.part u a.program.home it))

-- every event keeps the unit's shape
pub IsShaped-after : (cfg : Config) (f : Flat) (u : UnitState) (c : Choice) → IsShaped u → IsShaped (unit_after cfg f u c)
unfolding unit_after
IsShaped-after cfg f u c it = IsShaped-actor cfg f u c (actor_at cfg f c) it

-- ---- the unit's lines

verdict-named : (pairs : List Pair) (a : ℕ) (kind : Kind) → length pairs ≡ REGIONS → is_named_verdict (decision pairs a kind) ≡ true
verdict-named pairs a kind regions = by_slot (greatest (matches_at pairs a) (length pairs)) refl (Says-greatest (matches_at pairs a) (length pairs))
  where
    by_slot : (s : Option ℕ) → greatest (matches_at pairs a) (length pairs) ≡ s → Says (matches_at pairs a) (length pairs) (greatest (matches_at pairs a) (length pairs)) → is_named_verdict (verdict_of pairs kind s) ≡ true
    by_slot None is says = refl
    by_slot (Some s) is says =
        let below = (subst (Says (matches_at pairs a) (length pairs)) is says).below in
        elim (cases_Bool (gives_at pairs kind s)) [
          | inl gives ↦ rw gives (lt-ltb s REGIONS (omega (arith, below, regions)))
          | inr keeps ↦ rw keeps refl
        ]

-- the access has a size that there is, where there is one
abbrev IsSized : Option Access → Type 0
IsSized access = MatchOption access (Unit {0}) (λ a. is_size a.size ≡ true)

size-is : (n : ℕ) → IsSize n → is_size n ≡ true
size-is n (inl is) = rw is refl
size-is n (inr (inl is)) = rw is refl
size-is n (inr (inr is)) = rw is refl

IsSized-touch_in : (n : Next) → IsFit n → IsSized (touch_in n)
IsSized-touch_in next.Look fit = tt
IsSized-touch_in (next.Deliver irq) fit = tt
IsSized-touch_in (next.Local i) fit = tt
IsSized-touch_in (next.Access access) fit = size-is access.size fit.0
IsSized-touch_in (next.Unaligned at) fit = tt
IsSized-touch_in (next.Kernel c) fit = tt
IsSized-touch_in next.Nowhere fit = tt

IsSized-touch_by : (f : Flat) (t : ℕ) (a : Option Actor) → IsSized (touch_by f t a)
IsSized-touch_by f t None = tt
IsSized-touch_by f t (Some a) =
    IsSized-touch_in (next_of_actor f.shared.lines a t)
    (next-fit a.program a.thread (due_interrupt f.shared.lines a.part a.program.home.0 t))

IsSized-touch_of : (cfg : Config) (f : Flat) (c : Choice) → IsSized (touch_of cfg f c)
unfolding touch_of
IsSized-touch_of cfg f (choice.Turn t true) = IsSized-touch_by f t.0 (actor_of cfg f t.0)
IsSized-touch_of cfg f (choice.Turn t false) = tt
IsSized-touch_of cfg f (choice.Start t ticket) = tt
IsSized-touch_of cfg f (choice.Idle t) = tt
IsSized-touch_of cfg f (choice.Ring line by) = tt

-- every one of these lines names what is there
abbrev pub AreNamedLines : Config → List UnitLine → Type 0
AreNamedLines cfg lines = list_all (is_named_line cfg) lines ≡ true

named-append : (cfg : Config) (xs ys : List UnitLine) → AreNamedLines cfg xs → AreNamedLines cfg ys → AreNamedLines cfg (xs ++ ys)
named-append cfg [] ys first second = second
named-append cfg (x ∷ xs) ys first second =
    let it = both_true (is_named_line cfg x) (list_all (is_named_line cfg) xs) first in
    rw it.0 (named-append cfg xs ys it.1 second)

switch-named : (cfg : Config) (u : UnitState) (b : BoxId) → is_box cfg b ≡ true → AreNamedLines cfg (switch_lines u b)
switch-named cfg u b there = elim (cases_Bool (is_last u.last b.0)) [
  | inl last ↦ rw last refl
  | inr other ↦ rw (other, there) refl
]

rotate-named : (cfg : Config) (u : UnitState) (pair : Option Pair) → IsShaped u → AreNamedLines cfg (rotate_lines u pair)
rotate-named cfg u None it = refl
rotate-named cfg u (Some pair) it = rw (lt-ltb u.circle REGIONS (omega (arith, it.on.0, it.on.1))) refl

access-named : (cfg : Config) (plan : List Pair) (u : UnitState) (access : Option Access) → IsShaped u → IsSized access → AreNamedLines cfg (access_lines plan u access)
access-named cfg plan u None it sized = refl
access-named cfg plan u (Some access) it sized =
    let v : UnitState = rotated u (rotating_pair plan u access) in
    named-append cfg (rotate_lines u (rotating_pair plan u access)) (access_line v access ∷ [])
    (rotate-named cfg u (rotating_pair plan u access) it)
    (rw (sized, verdict-named v.pairs access.at access.kind (IsShaped-rotated u (rotating_pair plan u access) it).regions) refl)

flush-named : (cfg : Config) (empties : Bool) → AreNamedLines cfg (flush_lines empties)
flush-named cfg true = refl
flush-named cfg false = refl

actor-named : (cfg : Config) (f : Flat) (u : UnitState) (c : Choice) (a : Option Actor) → actor_at cfg f c ≡ a → IsShaped u →
    AreNamedLines cfg (lines_of_actor cfg f u c a)
actor-named cfg f u c None acting it = refl
actor-named cfg f u c (Some a) acting it =
    let b : BoxId = a.program.home in
    let plan : List Pair = plan_of cfg f.shared.owners b.0 a.part in
    named-append cfg (switch_lines u b ++ access_lines plan (entered cfg a.part u b) (touch_of cfg f c)) (flush_lines (empties_slots cfg f c))
    (named-append cfg (switch_lines u b) (access_lines plan (entered cfg a.part u b) (touch_of cfg f c))
    (switch-named cfg u b (lt-ltb b.0 (length cfg.boxes) (slice_get_within cfg.boxes b.0 a.part (part-acting cfg f c a acting))))
    (access-named cfg plan (entered cfg a.part u b) (touch_of cfg f c) (IsShaped-entered cfg a.part u b it) (IsSized-touch_of cfg f c)))
    (flush-named cfg (empties_slots cfg f c))

-- the unit's lines of any choice name what is there
pub unit_lines-named : (cfg : Config) (f : Flat) (u : UnitState) (c : Choice) → IsShaped u → AreNamedLines cfg (unit_lines cfg f u c)
unfolding unit_lines
unit_lines-named cfg f u c it = actor-named cfg f u c (actor_at cfg f c) refl it

-- ---- whole logs

named-items : (cfg : Config) (lines : List UnitLine) (items : List Logged) → AreNamedLines cfg lines → list_all (is_named_item cfg) items ≡ true → list_all (is_named_item cfg) (map item.Unit lines ++ items) ≡ true
named-items cfg [] items first second = second
named-items cfg (l ∷ lines) items first second =
    let it = both_true (is_named_line cfg l) (list_all (is_named_line cfg) lines) first in
    rw it.0 (named-items cfg lines items it.1 second)

-- every item of a run of choices that fit names what is there
named-run : (cfg : Config) (f : Flat) (u : UnitState) (cs : List Choice) → HasNamedLines cfg → IsShaped u → all_fit cfg f cs ≡ true → list_all (is_named_item cfg) (woven_items (lines_of_run cfg f u cs) (entries_of_run cfg f cs)) ≡ true
named-run cfg f u [] all it fitting = refl
named-run cfg f u (c ∷ cs) all it fitting =
    let now = both_true (fits cfg f c) (all_fit cfg (state_after cfg f c) cs) fitting in
    let entry : List Logged = item.Core (record { choice = c; reply = reply_to cfg f c }) ∷ [] in
    let rest : List Logged = woven_items (lines_of_run cfg (state_after cfg f c) (unit_after cfg f u c) cs) (entries_of_run cfg (state_after cfg f c) cs) in
    named-items cfg (unit_lines cfg f u c) (item.Core (record { choice = c; reply = reply_to cfg f c }) ∷ rest)
    (unit_lines-named cfg f u c it)
    (rw (entry-named cfg f c all now.0)
    (named-run cfg (state_after cfg f c) (unit_after cfg f u c) cs all (IsShaped-after cfg f u c it) now.1))

length-settled : (f : Flat) (t : ℕ) (out : Outcome) → length (settled f t out).0.threads ≡ length f.threads
length-settled f t out = length-set f.threads t out.thread

length-turn : (cfg : Config) (f : Flat) (t : ThreadId) (room : Bool) (a : Option Actor) → length (turn_by cfg f t room a).0.threads ≡ length f.threads
length-turn cfg f t room None = refl
length-turn cfg f t room (Some a) =
    let n = next_of_actor f.shared.lines a t.0 in
    length-settled f t.0 (turn_row cfg (who_acts a t room) a.part a.program.steps f.shared a.thread
    (holds_next cfg.board a.program.home.0 a.part f.shared.owners n) n)

length-serve : (cfg : Config) (f : Flat) (t : ThreadId) (ticket : Option Ticket) (a : Option Actor) → length (serve_by cfg f t ticket a).0.threads ≡ length f.threads
length-serve cfg f t ticket None = refl
length-serve cfg f t ticket (Some a) =
    length-settled f t.0 (within_budget a.program.steps (server_row cfg a.program.home.0 f.shared (counted a.thread) ticket))

length-fitting_step : (cfg : Config) (f : Flat) (c : Choice) → length (fitting_step cfg f c).0.threads ≡ length f.threads
length-fitting_step cfg f (choice.Turn t room) = length-turn cfg f t room (actor_of cfg f t.0)
length-fitting_step cfg f (choice.Start t ticket) = length-serve cfg f t (Some ticket) (actor_of cfg f t.0)
length-fitting_step cfg f (choice.Idle t) = length-serve cfg f t None (actor_of cfg f t.0)
length-fitting_step cfg f (choice.Ring line by) = refl

-- a choice neither adds nor takes threads
pub length-state_after : (cfg : Config) (f : Flat) (c : Choice) → length (state_after cfg f c).threads ≡ length f.threads
unfolding step
length-state_after cfg f c = by_fit (fits cfg f c)
  where
    by_fit : (t : Bool) → length (if t then fitting_step cfg f c else (f, reply.Ended)).0.threads ≡ length f.threads
    by_fit true = length-fitting_step cfg f c
    by_fit false = refl

length-state_after_all : (cfg : Config) (f : Flat) (cs : List Choice) → length (state_after_all cfg f cs).threads ≡ length f.threads
length-state_after_all cfg f [] = refl
length-state_after_all cfg f (c ∷ cs) = length-state_after_all cfg (state_after cfg f c) cs ∙ length-state_after cfg f c

length-opening : (cfg : Config) → length (opening_state cfg).threads ≡ length cfg.threads
unfolding opening_state
length-opening cfg = length-replicate (length cfg.threads) opening_thread

weaker : {X : Type 0} (P Q : X → Type 0) → ((x : X) → P x → Q x) → (xs : List X) → AllByRecursion P xs → AllByRecursion Q xs
weaker P Q each [] all = tt
weaker P Q each (x ∷ xs) all = (each x all.0, weaker P Q each xs all.1)

sound-lines : (cfg : Config) → IsSound cfg → HasNamedLines cfg
sound-lines cfg sound =
    weaker (IsBox cfg.board (common_range cfg.board cfg.boxes)) (λ part. HasLines part.irqs)
    (λ part it. it.lines)
    cfg.boxes sound.boxes

-- a legal log over a sound configuration is named
pub legal-named : (cfg : Config) (log : Log) → IsSound cfg → IsLegal cfg log → IsNamed cfg log
unfolding log_of_choices
legal-named cfg log sound legal = record {
  items = subst (λ items. list_all (is_named_item cfg) items ≡ true) (sym (ap (λ (l : Log). l.items) (legal-one_log cfg log legal)))
      (named-run cfg (opening_state cfg) (opening_unit cfg) (choices_of log.items) (sound-lines cfg sound) (IsShaped-opening cfg) legal.flat.fitting);
  ends = ap length legal.flat.ends ∙ length-map (state_after_all cfg (opening_state cfg) (choices_of log.items)).threads end_of_thread
      ∙ length-state_after_all cfg (opening_state cfg) (choices_of log.items) ∙ length-opening cfg;
}
