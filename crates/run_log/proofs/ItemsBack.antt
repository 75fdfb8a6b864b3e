-- What is printed of an item or an end reads as that item or end.
use Rattle.std.proofs.Common.{◌≡◌, ℕ, zero, suc, ◌-◌, ◌<◌, ◌≤◌, Bool, true, false, not, min, List, [], ◌∷◌, length, take, drop, refl, ap, sym, ◌∙◌, arith}
use Rattle.std.specs.Prelude.{nat_eq, nat_le, nat_lt, map, codes, if◌then◌else◌, ◌&&◌}
use Rattle.std.specs.Fmt.{decimal}
use Rattle.std.specs.List.{AllByRecursion, list_all}
use Rattle.std.specs.Str.{bytes_eq}
use Rattle.std.proofs.lemmas.Bool.{eqb-true, leb-true, ltb-true}
use Rattle.std.proofs.lemmas.Bool.Decides.{nat_tests}
use Rattle.addr_base.specs.declared.identity.Ticket.{Ticket}
use Rattle.addr_base.specs.declared.pairs.Verdict.{Verdict}
use Rattle.addr_base.specs.declared.pairs.Verdict.TheVariants.{Granted, Denied}
use Rattle.addr_base.specs.declared.rights.Kind.{Kind}
use Rattle.addr_base.specs.declared.rights.Kind.TheVariants.{Read, Write, Fetch}
use Rattle.flat_model.specs.declared.events.Choice.{Choice}
use Rattle.flat_model.specs.declared.events.Choice.TheVariants as choice
use Rattle.flat_model.specs.declared.events.Flaw.{Flaw}
use Rattle.flat_model.specs.declared.events.Flaw.TheVariants as flaw
use Rattle.flat_model.specs.declared.events.Frames.{Frames}
use Rattle.flat_model.specs.declared.events.Logged.{Logged}
use Rattle.flat_model.specs.declared.events.Logged.TheVariants as item
use Rattle.flat_model.specs.declared.events.Mode.{Mode}
use Rattle.flat_model.specs.declared.events.Mode.TheVariants as mode
use Rattle.flat_model.specs.declared.events.Reply.{Reply}
use Rattle.flat_model.specs.declared.events.Reply.TheVariants as reply
use Rattle.flat_model.specs.declared.events.Started.{Started}
use Rattle.flat_model.specs.declared.events.UnitLine.{UnitLine}
use Rattle.flat_model.specs.declared.events.UnitLine.TheVariants as line
use Rattle.flat_model.specs.declared.logs.End.{End}
use Rattle.flat_model.specs.declared.parts.Config.{Config}
use Rattle.flat_model.proofs.NamedChoices.{both_true}
use Rattle.flat_model.specs.Log.{ascends, is_full_reply, is_idle_reply, is_named_choice, is_named_frames, is_named_item, is_named_line, is_named_verdict, is_ring_reply, is_size, is_start_reply, is_turn_reply}
use Rattle.flat_model.specs.Sound.{IsSound}
use Rattle.flat_model.specs.CallRows.{home_of}
use Rattle.flat_model.specs.Text.{entry_words, flaw_text, hex_word, item_words, kind_text, mode_text, reply_words, thread_text, ticket_text, unit_words, verdict_words}
use Rattle.run_log.specs.Candidates.{access_of, done_of, end_of, fault_of, frames_of, had_room, hexes_of, idle_of, item_of, reply_of, ring_of, rotate_of, smalls_of, start_of, start_reply_of, started_of, state_of, turn_of, unit_of, verdict_of}
use Rattle.run_log.specs.LineWords.{first_of, number_of, rest_of, small_of}
use Rattle.run_log.specs.Meanings.{flaw_of, kind_of, mode_of, ticket_of}
use Rattle.run_log.specs.Typed.{Fits8, Fits32, IsTypedChoice, IsTypedEnd, IsTypedFrames, IsTypedItem, IsTypedLine, IsTypedReply, IsTypedStarted}
use Rattle.run_log.proofs.NumberLemmas.{number_of_decimal, number_of_hex, small_of_decimal}
use Rattle.run_log.proofs.ThreadsBack.{box_of_name, thread_of_text, ticket_of_text}

kind_back : (k : Kind) → kind_of (kind_text k) ≡ k
unfolding kind_of
kind_back Read = refl
kind_back Write = refl
kind_back Fetch = refl

flaw_back : (f : Flaw) → flaw_of (flaw_text f) ≡ f
unfolding flaw_of
flaw_back flaw.Daccviol = refl
flaw_back flaw.Iaccviol = refl
flaw_back flaw.Unaligned = refl
flaw_back flaw.Place = refl

mode_back : (m : Mode) → mode_of (mode_text m) ≡ m
unfolding mode_of
mode_back mode.Ready = refl
mode_back mode.Waiting = refl
mode_back mode.Halted = refl
mode_back mode.Faulted = refl
mode_back mode.Spent = refl

empty_small : small_of [] ≡ 0
unfolding small_of number_of
empty_small = refl

-- zeros, where no words are left
zeros_back : (list : List ℕ) → list_all (λ frame. nat_eq frame 0) list ≡ true → smalls_of (length list) [] ≡ list
unfolding first_of rest_of
zeros_back [] zeros = refl
zeros_back (x ∷ xs) zeros =
    let both = both_true (nat_eq x 0) (list_all (λ frame. nat_eq frame 0) xs) zeros in
    let is_zero : x ≡ 0 = eqb-true x 0 both.0 in
    rw (empty_small, zeros_back xs both.1, is_zero) refl

-- the frames and the zeros after them
smalls_back : (list : List ℕ) (n : ℕ) → list_all (λ frame. nat_eq frame 0) (drop n list) ≡ true → AllByRecursion Fits8 list
    → smalls_of (length list) (map decimal (take n list)) ≡ list
unfolding first_of rest_of
smalls_back [] n zeros fits = refl
smalls_back (x ∷ xs) zero zeros fits = zeros_back (x ∷ xs) zeros
smalls_back (x ∷ xs) (suc n) zeros fits = rw (small_of_decimal x fits.0, smalls_back xs n zeros fits.1) refl

-- numbers in hexadecimal
hexes_back : (ns : List ℕ) → AllByRecursion Fits32 ns → hexes_of (length ns) (map hex_word ns) ≡ ns
unfolding first_of rest_of
hexes_back [] fits = refl
hexes_back (x ∷ xs) fits = rw (number_of_hex x fits.0, hexes_back xs fits.1) refl

length_words : (n : ℕ) (list : List ℕ) → n ≤ length list → length (map decimal (take n list)) ≡ n
length_words zero list h = refl
length_words (suc n) [] h = absurd (omega arith)
length_words (suc n) (x ∷ xs) h = ap suc (length_words n xs (omega arith))

frames_back : (frames : Frames) → is_named_frames frames ≡ true → IsTypedFrames frames → frames_of (map decimal (take frames.n frames.list)) ≡ frames
unfolding frames_of
frames_back frames named typed =
    let ws = map decimal (take frames.n frames.list) in
    let zeros = both_true (nat_le 1 frames.n && nat_le frames.n 16 && ascends (take frames.n frames.list)) (list_all (λ frame. nat_eq frame 0) (drop frames.n frames.list)) named in
    let bounds = both_true (nat_le 1 frames.n && nat_le frames.n 16) (ascends (take frames.n frames.list)) zeros.0 in
    let most : frames.n ≤ 16 = leb-true frames.n 16 (both_true (nat_le 1 frames.n) (nat_le frames.n 16) bounds.0).1 in
    let many : length ws ≡ frames.n = length_words frames.n frames.list (omega (arith, typed.count, most)) in
    let n_is : min (length ws) 16 ≡ frames.n = omega (arith, many, most) in
    let list_is : smalls_of 16 ws ≡ frames.list =
    ap (λ count. smalls_of count ws) (sym typed.count) ∙ smalls_back frames.list frames.n zeros.1 typed.each in
    ap (λ m. record { n = m; list = smalls_of 16 ws }) n_is ∙ ap (λ xs. record { n = frames.n; list = xs }) list_is

started_back : (cfg : Config) (ticket : Ticket) (started : Started) → nat_eq started.caller.0 (home_of cfg ticket.thread.0).0 ≡ true → IsTypedStarted started
    → started_of cfg ticket (hex_word started.function ∷ map hex_word started.args) ≡ started
unfolding started_of first_of rest_of
started_back cfg ticket started caller typed =
    let ws = map hex_word started.args in
    let function_is : number_of 16 (hex_word started.function) ≡ started.function = number_of_hex started.function typed.function in
    let args_are : hexes_of 4 ws ≡ started.args = ap (λ count. hexes_of count ws) (sym typed.args.count) ∙ hexes_back started.args typed.args.each in
    let caller_is : home_of cfg ticket.thread.0 ≡ started.caller =
    ap (λ n. record { 0 = n }) (sym (eqb-true started.caller.0 (home_of cfg ticket.thread.0).0 caller)) in
    ap (λ f. record { function = f; args = hexes_of 4 ws; caller = home_of cfg ticket.thread.0 }) function_is
    ∙ ap (λ xs. record { function = started.function; args = xs; caller = home_of cfg ticket.thread.0 }) args_are
    ∙ ap (λ h. record { function = started.function; args = started.args; caller = h }) caller_is

-- the reply of a turn with room
turn_reply_back : (r : Reply) → is_turn_reply r ≡ true → IsTypedReply r → reply_of (reply_words r) ≡ r
unfolding reply_of done_of fault_of first_of rest_of
turn_reply_back reply.Ended named typed = refl
turn_reply_back reply.Done named typed = refl
turn_reply_back (reply.Value value) named typed = ap reply.Value (number_of_hex value typed)
turn_reply_back (reply.Status status) named typed = ap reply.Status (small_of_decimal status typed)
turn_reply_back (reply.Posted seq) named typed = ap reply.Posted (number_of_decimal seq typed)
turn_reply_back reply.Waiting named typed = refl
turn_reply_back (reply.Irq l) named typed = ap (λ n. reply.Irq (record { 0 = n })) (small_of_decimal l.0 (omega (arith, ltb-true l.0 64 named)))
turn_reply_back (reply.Given frames) named typed = ap reply.Given (frames_back frames named typed)
turn_reply_back (reply.Fault why at) named typed =
    ap (λ f. reply.Fault f (number_of 16 (hex_word at))) (flaw_back why) ∙ ap (reply.Fault why) (number_of_hex at typed)
turn_reply_back reply.Halted named typed = refl
turn_reply_back (reply.Begun started) named typed = absurd (cc)

-- the reply of a turn without room
full_reply_back : (r : Reply) → is_full_reply r ≡ true → IsTypedReply r → reply_of (reply_words r) ≡ r
unfolding reply_of first_of rest_of
full_reply_back (reply.Status status) named typed = ap reply.Status (small_of_decimal status typed)
full_reply_back _ named typed = absurd (cc)

any_reply_back : (room : Bool) (r : Reply) → (if room then is_turn_reply r else is_full_reply r) ≡ true → IsTypedReply r → reply_of (reply_words r) ≡ r
any_reply_back true r named typed = turn_reply_back r named typed
any_reply_back false r named typed = full_reply_back r named typed

had_room_turn : (r : Reply) → is_turn_reply r ≡ true → had_room r ≡ true
unfolding had_room
had_room_turn (reply.Status status) named = named
had_room_turn _ named = refl

had_room_full : (r : Reply) → is_full_reply r ≡ true → had_room r ≡ false
unfolding had_room
had_room_full (reply.Status status) named = ap not named
had_room_full _ named = absurd (cc)

had_room_back : (room : Bool) (r : Reply) → (if room then is_turn_reply r else is_full_reply r) ≡ true → had_room r ≡ room
had_room_back true r named = had_room_turn r named
had_room_back false r named = had_room_full r named

start_reply_back : (cfg : Config) (ticket : Ticket) (r : Reply) → is_start_reply (home_of cfg ticket.thread.0) r ≡ true → IsTypedReply r → start_reply_of cfg ticket (reply_words r) ≡ r
unfolding start_reply_of first_of rest_of
start_reply_back cfg ticket (reply.Status status) named typed = ap reply.Status (sym (eqb-true status 12 named))
start_reply_back cfg ticket (reply.Begun started) named typed = ap reply.Begun (started_back cfg ticket started named typed)
start_reply_back cfg ticket _ named typed = absurd (cc)

idle_reply : (r : Reply) → is_idle_reply r ≡ true → reply.Status 2 ≡ r
idle_reply (reply.Status status) named = ap reply.Status (sym (eqb-true status 2 named))
idle_reply _ named = absurd (cc)

ring_reply : (r : Reply) → is_ring_reply r ≡ true → reply.Done ≡ r
ring_reply reply.Done named = refl
ring_reply _ named = absurd (cc)

entry_back : (cfg : Config) (c : Choice) (r : Reply) → IsSound cfg → is_named_choice cfg c r ≡ true → IsTypedChoice c → IsTypedReply r
    → item_of cfg (entry_words cfg c r) ≡ item.Core (record { choice = c; reply = r })
unfolding item_of turn_of start_of idle_of ring_of first_of rest_of
entry_back cfg (choice.Turn t room) r sound named typed_choice typed =
    let both = both_true (nat_lt t.0 (length cfg.threads)) (if room then is_turn_reply r else is_full_reply r) named in
    let thread_is = thread_of_text cfg t sound (ltb-true t.0 (length cfg.threads) both.0) in
    let reply_is = any_reply_back room r both.1 typed in
    rw (thread_is, reply_is, had_room_back room r both.1) refl
entry_back cfg (choice.Start t ticket) r sound named typed_choice typed =
    let both = both_true (nat_lt t.0 (length cfg.threads) && nat_lt ticket.thread.0 (length cfg.threads)) (is_start_reply (home_of cfg ticket.thread.0) r) named in
    let threads = both_true (nat_lt t.0 (length cfg.threads)) (nat_lt ticket.thread.0 (length cfg.threads)) both.0 in
    let thread_is = thread_of_text cfg t sound (ltb-true t.0 (length cfg.threads) threads.0) in
    let ticket_is = ticket_of_text cfg ticket sound (ltb-true ticket.thread.0 (length cfg.threads) threads.1) typed_choice in
    let reply_is = start_reply_back cfg ticket r both.1 typed in
    rw (thread_is, ticket_is, reply_is) refl
entry_back cfg (choice.Idle t) r sound named typed_choice typed =
    let both = both_true (nat_lt t.0 (length cfg.threads)) (is_idle_reply r) named in
    let thread_is = thread_of_text cfg t sound (ltb-true t.0 (length cfg.threads) both.0) in
    rw (thread_is, idle_reply r both.1) refl
entry_back cfg (choice.Ring l by) r sound named typed_choice typed =
    let both = both_true (nat_lt l.0 64) (is_ring_reply r) named in
    rw (small_of_decimal l.0 (omega (arith, ltb-true l.0 64 both.0)), small_of_decimal by typed_choice, ring_reply r both.1) refl

size_small : (n : ℕ) → is_size n ≡ true → n < 256
size_small n h = grind (arith, nat_tests)

verdict_back : (v : Verdict) → is_named_verdict v ≡ true → verdict_of (verdict_words v) ≡ v
unfolding verdict_of first_of rest_of
verdict_back (Granted slot) named = ap Granted (small_of_decimal slot (omega (arith, ltb-true slot 8 named)))
verdict_back Denied named = refl

unit_back : (cfg : Config) (l : UnitLine) → IsSound cfg → is_named_line cfg l ≡ true → IsTypedLine l → unit_of cfg (rest_of (unit_words cfg l)) ≡ l
unfolding unit_of rotate_of access_of first_of rest_of
unit_back cfg (line.Switch b) sound named typed = ap line.Switch (box_of_name cfg b sound (ltb-true b.0 (length cfg.boxes) named))
unit_back cfg (line.Rotate slot pair) sound named typed =
    rw (small_of_decimal slot (omega (arith, ltb-true slot 8 named)), number_of_hex pair.rbar typed.0, number_of_hex pair.rasr typed.1) refl
unit_back cfg line.Flush sound named typed = refl
unit_back cfg (line.Access kind size at verdict) sound named typed =
    let both = both_true (is_size size) (is_named_verdict verdict) named in
    rw (
      kind_back kind,
      small_of_decimal size (size_small size both.0),
      number_of_hex at typed,
      verdict_back verdict both.1,
    ) refl

unit_first : (cfg : Config) (l : UnitLine) → first_of (unit_words cfg l) ≡ codes "unit"
unfolding first_of
unit_first cfg (line.Switch b) = refl
unit_first cfg (line.Rotate slot pair) = refl
unit_first cfg line.Flush = refl
unit_first cfg (line.Access kind size at verdict) = refl

-- what is printed of an item reads as that item
pub item_back : (cfg : Config) (i : Logged) → IsSound cfg → is_named_item cfg i ≡ true → IsTypedItem i → item_of cfg (item_words cfg i) ≡ i
unfolding item_of
item_back cfg (item.Unit l) sound named typed =
    let first : bytes_eq (first_of (unit_words cfg l)) (codes "unit") ≡ true = ap (λ w. bytes_eq w (codes "unit")) (unit_first cfg l) in
    rw first (ap item.Unit (unit_back cfg l sound named typed))
item_back cfg (item.Core e) sound named typed = entry_back cfg e.choice e.reply sound named typed.0 typed.1

-- what is printed of an end reads as that end
pub end_back : (a b : List ℕ) (end : End) → IsTypedEnd end → end_of (a ∷ b ∷ mode_text end.mode ∷ decimal end.steps ∷ map hex_word end.regs) ≡ end
unfolding end_of state_of first_of rest_of
end_back a b end typed =
    let ws = map hex_word end.regs in
    let regs_are : hexes_of 8 ws ≡ end.regs = ap (λ count. hexes_of count ws) (sym typed.regs.count) ∙ hexes_back end.regs typed.regs.each in
    ap (λ m. record { mode = m; steps = number_of 10 (decimal end.steps); regs = hexes_of 8 ws }) (mode_back end.mode)
    ∙ ap (λ n. record { mode = end.mode; steps = n; regs = hexes_of 8 ws }) (number_of_decimal end.steps typed.steps)
    ∙ ap (λ xs. record { mode = end.mode; steps = end.steps; regs = xs }) regs_are
