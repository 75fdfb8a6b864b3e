-- The words of an item and of an end have neither spaces nor line feeds.
use Rattle.std.proofs.Common.{◌≡◌, ℕ, zero, suc, ◌^◌, ◌<◌, Bool, true, false, List, [], ◌∷◌, length, take, refl, ap, sym, ◌∙◌, arith}
use Rattle.std.specs.Prelude.{nat_lt, map, codes, if◌then◌else◌, ◌&&◌}
use Rattle.std.specs.Fmt.{decimal}
use Rattle.std.specs.List.{AllByRecursion, list_all}
use Rattle.std.proofs.lemmas.Bool.{ltb-true}
use Rattle.std.proofs.lemmas.Bool.Decides.{nat_tests}
use Rattle.addr_base.specs.declared.identity.Line.{Line}
use Rattle.addr_base.specs.declared.identity.ThreadId.{ThreadId}
use Rattle.addr_base.specs.declared.pairs.Verdict.{Verdict}
use Rattle.addr_base.specs.declared.pairs.Verdict.TheVariants.{Granted, Denied}
use Rattle.addr_base.specs.declared.rights.Kind.{Kind}
use Rattle.addr_base.specs.declared.rights.Kind.TheVariants.{Read, Write, Fetch}
use Rattle.flat_model.specs.declared.events.Choice.{Choice}
use Rattle.flat_model.specs.declared.events.Choice.TheVariants as choice
use Rattle.flat_model.specs.declared.events.Flaw.{Flaw}
use Rattle.flat_model.specs.declared.events.Flaw.TheVariants as flaw
use Rattle.flat_model.specs.declared.events.Logged.{Logged}
use Rattle.flat_model.specs.declared.events.Logged.TheVariants as item
use Rattle.flat_model.specs.declared.events.Mode.{Mode}
use Rattle.flat_model.specs.declared.events.Mode.TheVariants as mode
use Rattle.flat_model.specs.declared.events.Reply.{Reply}
use Rattle.flat_model.specs.declared.events.Reply.TheVariants as reply
use Rattle.flat_model.specs.declared.events.UnitLine.{UnitLine}
use Rattle.flat_model.specs.declared.events.UnitLine.TheVariants as line
use Rattle.flat_model.specs.declared.logs.End.{End}
use Rattle.flat_model.specs.declared.parts.Config.{Config}
use Rattle.flat_model.proofs.NamedChoices.{both_true}
use Rattle.flat_model.specs.Log.{is_full_reply, is_idle_reply, is_named_choice, is_named_item, is_named_line, is_named_verdict, is_ring_reply, is_size, is_start_reply, is_turn_reply}
use Rattle.flat_model.specs.Sound.{IsSound}
use Rattle.flat_model.specs.CallRows.{home_of}
use Rattle.flat_model.specs.Text.{box_name, entry_words, flaw_text, hex_word, item_words, kind_text, mode_text, reply_words, thread_text, unit_words, verdict_words}
use Rattle.run_log.specs.Typed.{Fits8, IsTypedChoice, IsTypedEnd, IsTypedItem, IsTypedLine, IsTypedReply}
use Rattle.run_log.proofs.ThreadsBack.{box_name_above, thread_above, ticket_above}
use Rattle.run_log.proofs.WordLemmas.{AllAbove, AreWords, above-lower, above_decimal, above_hex}

above_tested : (m : ℕ) (bs : List ℕ) → list_all (nat_lt m) bs ≡ true → AllAbove m bs
above_tested m [] h = tt
above_tested m (b ∷ bs) h = let both = both_true (nat_lt m b) (list_all (nat_lt m) bs) h in (ltb-true m b both.0, above_tested m bs both.1)

number_word : (n : ℕ) → n < 2 ^ 64 → AllAbove 32 (decimal n)
number_word n h = above-lower 32 47 (decimal n) (omega arith) (above_decimal n h)

hex_is_word : (n : ℕ) → AllAbove 32 (hex_word n)
hex_is_word n = above-lower 32 47 (hex_word n) (omega arith) (above_hex n)

pub hex_words : (ns : List ℕ) → AreWords (map hex_word ns)
hex_words [] = tt
hex_words (n ∷ ns) = (hex_is_word n, hex_words ns)

small_words : (ns : List ℕ) (k : ℕ) → AllByRecursion Fits8 ns → AreWords (map decimal (take k ns))
small_words ns zero h = tt
small_words [] (suc k) h = tt
small_words (n ∷ ns) (suc k) h = (number_word n (omega (arith, h.0)), small_words ns k h.1)

kind_word : (k : Kind) → AllAbove 32 (kind_text k)
kind_word Read = above_tested 32 (codes "read") refl
kind_word Write = above_tested 32 (codes "write") refl
kind_word Fetch = above_tested 32 (codes "fetch") refl

flaw_word : (f : Flaw) → AllAbove 32 (flaw_text f)
flaw_word flaw.Daccviol = above_tested 32 (codes "daccviol") refl
flaw_word flaw.Iaccviol = above_tested 32 (codes "iaccviol") refl
flaw_word flaw.Unaligned = above_tested 32 (codes "unaligned") refl
flaw_word flaw.Place = above_tested 32 (codes "place") refl

mode_word : (m : Mode) → AllAbove 32 (mode_text m)
mode_word mode.Ready = above_tested 32 (codes "ready") refl
mode_word mode.Waiting = above_tested 32 (codes "waiting") refl
mode_word mode.Halted = above_tested 32 (codes "halted") refl
mode_word mode.Faulted = above_tested 32 (codes "faulted") refl
mode_word mode.Spent = above_tested 32 (codes "spent") refl

verdict_are_words : (v : Verdict) → is_named_verdict v ≡ true → AreWords (verdict_words v)
verdict_are_words (Granted slot) named = (above_tested 32 (codes "slot") refl, (number_word slot (omega (arith, ltb-true slot 8 named)), tt))
verdict_are_words Denied named = (above_tested 32 (codes "denied") refl, tt)

size_small : (n : ℕ) → is_size n ≡ true → n < 2 ^ 64
size_small n h = grind (arith, nat_tests)

unit_are_words : (cfg : Config) (l : UnitLine) → IsSound cfg → is_named_line cfg l ≡ true → IsTypedLine l → AreWords (unit_words cfg l)
unit_are_words cfg (line.Switch b) sound named typed = (
  above_tested 32 (codes "unit") refl,
  (
    above_tested 32 (codes "switch") refl,
    (above-lower 32 46 (box_name cfg b.0) (omega arith) (box_name_above cfg b.0 sound), tt),
  ),
)
unit_are_words cfg (line.Rotate slot pair) sound named typed = (
  above_tested 32 (codes "unit") refl,
  (
    above_tested 32 (codes "rotate") refl,
    (number_word slot (omega (arith, ltb-true slot 8 named)), (hex_is_word pair.rbar, (hex_is_word pair.rasr, tt))),
  ),
)
unit_are_words cfg line.Flush sound named typed = (above_tested 32 (codes "unit") refl, (above_tested 32 (codes "flush") refl, tt))
unit_are_words cfg (line.Access kind size at verdict) sound named typed =
    let both = both_true (is_size size) (is_named_verdict verdict) named in (
      above_tested 32 (codes "unit") refl,
      (
        above_tested 32 (codes "access") refl,
        (kind_word kind, (number_word size (size_small size both.0), (hex_is_word at, verdict_are_words verdict both.1))),
      ),
    )

-- a reply whose line is below 64, if it has one
abbrev HasLine : Reply → Type 0
HasLine (reply.Irq l) = l.0 < 64
HasLine _ = Unit {0}

reply_are_words : (r : Reply) → HasLine r → IsTypedReply r → AreWords (reply_words r)
reply_are_words reply.Ended line typed = (above_tested 32 (codes "ended") refl, tt)
reply_are_words reply.Done line typed = (above_tested 32 (codes "ok") refl, tt)
reply_are_words (reply.Value value) line typed = (above_tested 32 (codes "ok") refl, (hex_is_word value, tt))
reply_are_words (reply.Status status) line typed = (above_tested 32 (codes "status") refl, (number_word status (omega (arith, typed)), tt))
reply_are_words (reply.Posted seq) line typed = (above_tested 32 (codes "posted") refl, (number_word seq (omega (arith, typed)), tt))
reply_are_words reply.Waiting line typed = (above_tested 32 (codes "waiting") refl, tt)
reply_are_words (reply.Irq l) line typed = (above_tested 32 (codes "irq") refl, (number_word l.0 (omega (arith, line)), tt))
reply_are_words (reply.Given frames) line typed = (above_tested 32 (codes "frames") refl, small_words frames.list frames.n typed.each)
reply_are_words (reply.Fault why at) line typed = (above_tested 32 (codes "fault") refl, (flaw_word why, (hex_is_word at, tt)))
reply_are_words reply.Halted line typed = (above_tested 32 (codes "halted") refl, tt)
reply_are_words (reply.Begun started) line typed = (above_tested 32 (codes "ok") refl, (hex_is_word started.function, hex_words started.args))

turn_line : (r : Reply) → is_turn_reply r ≡ true → HasLine r
turn_line (reply.Irq l) named = ltb-true l.0 64 named
turn_line _ named = tt

full_line : (r : Reply) → is_full_reply r ≡ true → HasLine r
full_line (reply.Irq l) named = absurd (cc)
full_line _ named = tt

room_line : (room : Bool) (r : Reply) → (if room then is_turn_reply r else is_full_reply r) ≡ true → HasLine r
room_line true r named = turn_line r named
room_line false r named = full_line r named

start_line : (cfg : Config) (ticket : ℕ) (r : Reply) → is_start_reply (home_of cfg ticket) r ≡ true → HasLine r
start_line cfg ticket (reply.Irq l) named = absurd (cc)
start_line cfg ticket _ named = tt

idle_line : (r : Reply) → is_idle_reply r ≡ true → HasLine r
idle_line (reply.Irq l) named = absurd (cc)
idle_line _ named = tt

-- the number of a thread is small
small_thread : (cfg : Config) (t : ThreadId) → IsSound cfg → nat_lt t.0 (length cfg.threads) ≡ true → t.0 < 2 ^ 64
small_thread cfg t sound named = omega (arith, ltb-true t.0 (length cfg.threads) named, sound.limits.threads)

thread_word : (cfg : Config) (t : ThreadId) → IsSound cfg → t.0 < 2 ^ 64 → AllAbove 32 (thread_text cfg t)
thread_word cfg t sound small = above-lower 32 35 (thread_text cfg t) (omega arith) (thread_above cfg t sound small)

entry_are_words : (cfg : Config) (c : Choice) (r : Reply) → IsSound cfg → is_named_choice cfg c r ≡ true → IsTypedChoice c → IsTypedReply r → AreWords (entry_words cfg c r)
entry_are_words cfg (choice.Turn t room) r sound named typed_choice typed =
    let both = both_true (nat_lt t.0 (length cfg.threads)) (if room then is_turn_reply r else is_full_reply r) named in
    (above_tested 32 (codes "turn") refl, (thread_word cfg t sound (small_thread cfg t sound both.0), reply_are_words r (room_line room r both.1) typed))
entry_are_words cfg (choice.Start t ticket) r sound named typed_choice typed =
    let both = both_true (nat_lt t.0 (length cfg.threads) && nat_lt ticket.thread.0 (length cfg.threads)) (is_start_reply (home_of cfg ticket.thread.0) r) named in
    let threads = both_true (nat_lt t.0 (length cfg.threads)) (nat_lt ticket.thread.0 (length cfg.threads)) both.0 in (
      above_tested 32 (codes "start") refl,
      (
        thread_word cfg t sound (small_thread cfg t sound threads.0),
        (
          ticket_above cfg ticket sound (small_thread cfg ticket.thread sound threads.1) (omega (arith, typed_choice)),
          reply_are_words r (start_line cfg ticket.thread.0 r both.1) typed,
        ),
      ),
    )
entry_are_words cfg (choice.Idle t) r sound named typed_choice typed =
    let both = both_true (nat_lt t.0 (length cfg.threads)) (is_idle_reply r) named in
    (above_tested 32 (codes "idle") refl, (thread_word cfg t sound (small_thread cfg t sound both.0), reply_are_words r (idle_line r both.1) typed))
entry_are_words cfg (choice.Ring l by) r sound named typed_choice typed =
    let both = both_true (nat_lt l.0 64) (is_ring_reply r) named in
    (above_tested 32 (codes "ring") refl, (number_word l.0 (omega (arith, ltb-true l.0 64 both.0)), (above_tested 32 (codes "by") refl, (number_word by (omega (arith, typed_choice)), tt))))

-- the words of an item
pub item_are_words : (cfg : Config) (i : Logged) → IsSound cfg → is_named_item cfg i ≡ true → IsTypedItem i → AreWords (item_words cfg i)
item_are_words cfg (item.Unit l) sound named typed = unit_are_words cfg l sound named typed
item_are_words cfg (item.Core e) sound named typed = entry_are_words cfg e.choice e.reply sound named typed.0 typed.1

-- the words of an end
pub end_are_words : (cfg : Config) (t : ℕ) (end : End) → IsSound cfg → t < 2 ^ 64 → IsTypedEnd end
    → AreWords (codes "thread" ∷ thread_text cfg (record { 0 = t }) ∷ mode_text end.mode ∷ decimal end.steps ∷ map hex_word end.regs)
end_are_words cfg t end sound small typed =
    (above_tested 32 (codes "thread") refl, (thread_word cfg (record { 0 = t }) sound small, (mode_word end.mode, (number_word end.steps (omega (arith, typed.steps)), hex_words end.regs))))

-- the reply of a ring has no numbers
done_typed : (r : Reply) → is_ring_reply r ≡ true → IsTypedReply r
done_typed reply.Done named = tt
done_typed _ named = absurd (cc)

pub ring_typed : (cfg : Config) (l : Line) (by : ℕ) (c : Choice) (r : Reply) → c ≡ choice.Ring l by → is_named_choice cfg c r ≡ true → IsTypedReply r
ring_typed cfg l by c r is named =
    let at : is_named_choice cfg (choice.Ring l by) r ≡ true = ap (λ x. is_named_choice cfg x r) (sym is) ∙ named in
    done_typed r (both_true (nat_lt l.0 64) (is_ring_reply r) at).1
