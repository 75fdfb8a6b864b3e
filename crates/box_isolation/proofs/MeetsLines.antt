-- Interrupt lines and registers: the flat machine's rows and those of the box by itself leave the same.
use Rattle.std.proofs.Common.{◌≡◌, ◌≢◌, ℕ, zero, suc, ◌+◌, ◌-◌, ◌<◌, Bool, true, false, List, [], ◌∷◌, length, Option, Some, None, refl, sym, ◌∙◌, ap, subst, arith}
use Rattle.std.specs.Prelude.{nat_eq, unwrap_or, if◌then◌else◌, slice_get, slice_set}
use Rattle.std.specs.Option.{option_map_or}
use Rattle.std.proofs.lemmas.Bool.{or_left, or_right, eq-eqb, ne_eqb}
use Rattle.std.proofs.lemmas.List.{length-set}
use Rattle.flat_model.specs.declared.events.Reply.{Reply}
use Rattle.flat_model.specs.declared.parts.BoxPart.{BoxPart}
use Rattle.flat_model.specs.declared.parts.Config.{Config}
use Rattle.flat_model.specs.declared.parts.IrqPart.{IrqPart}
use Rattle.flat_model.specs.declared.states.Context.{Context}
use Rattle.flat_model.specs.declared.states.Lines.{Lines}
use Rattle.flat_model.specs.declared.states.Shared.{Shared}
use Rattle.flat_model.specs.declared.states.ThreadState.{ThreadState}
use Rattle.box_isolation.specs.AloneLines.{alone_context, alone_delivery, alone_due, alone_enable, alone_irq_return, lower_line, lowest_line, with_latch}
use Rattle.box_isolation.specs.AloneState.{Kept, LoneLines, flag_at, has_number}
use Rattle.flat_model.specs.Interrupts.{due_interrupt, handled_context, has_line, is_deliverable, is_set, lower_of, lowest_deliverable, with_delivered, with_enabled, with_latched, with_returned}
use Rattle.flat_model.specs.LineRows.{delivery_row, irq_enable_row, irq_return_row}
use Rattle.box_isolation.specs.Part.{numbers_from}
use Rattle.flat_model.specs.ThreadEvents.{context_of}
use Rattle.box_isolation.proofs.AlikeBoxes.{AreAlikeLines, IsAlike, Meets}

-- ---- flags

flag-set : (xs ys : List Bool) (i n : ℕ) (v : Bool) → length xs ≡ length ys → flag_at xs n ≡ is_set ys n → flag_at (slice_set xs i v) n ≡ is_set (slice_set ys i v) n
flag-set [] [] i n v long same = same
flag-set [] (y ∷ ys) i n v long same = absurd (omega (arith, long))
flag-set (x ∷ xs) [] i n v long same = absurd (omega (arith, long))
flag-set (x ∷ xs) (y ∷ ys) zero zero v long same = refl
flag-set (x ∷ xs) (y ∷ ys) zero (suc n) v long same = same
flag-set (x ∷ xs) (y ∷ ys) (suc i) zero v long same = same
flag-set (x ∷ xs) (y ∷ ys) (suc i) (suc n) v long same = flag-set xs ys i n v (omega (arith, long)) same

pub set-apart : (flags : List Bool) (i n : ℕ) (v : Bool) → i ≢ n → is_set (slice_set flags i v) n ≡ is_set flags n
set-apart [] i n v differs = refl
set-apart (x ∷ flags) zero zero v differs = absurd (differs refl)
set-apart (x ∷ flags) zero (suc n) v differs = refl
set-apart (x ∷ flags) (suc i) zero v differs = refl
set-apart (x ∷ flags) (suc i) (suc n) v differs = set-apart flags i n v (λ same. differs (ap suc same))

pub saved-set : (saved : List (Option Context)) (b : ℕ) (context : Option Context) → b < length saved → unwrap_or (slice_get (slice_set saved b context) b) None ≡ context
saved-set [] b context below = absurd (omega arith)
saved-set (x ∷ saved) zero context below = refl
saved-set (x ∷ saved) (suc b) context below = saved-set saved b context (omega (arith, below))

pub saved-apart : (saved : List (Option Context)) (b c : ℕ) (context : Option Context) → c ≢ b → unwrap_or (slice_get (slice_set saved c context) b) None ≡ unwrap_or (slice_get saved b) None
saved-apart [] b c context differs = refl
saved-apart (x ∷ saved) zero zero context differs = absurd (differs refl)
saved-apart (x ∷ saved) zero (suc c) context differs = refl
saved-apart (x ∷ saved) (suc b) zero context differs = refl
saved-apart (x ∷ saved) (suc b) (suc c) context differs = saved-apart saved b c context (λ same. differs (ap suc same))

-- the same line is the lowest
lowest-same : (lines : Lines) (k : LoneLines) (irqs : List IrqPart) →
    ((line : ℕ) → has_line line irqs ≡ true → flag_at k.latched line ≡ is_set lines.latched line) →
    ((line : ℕ) → has_line line irqs ≡ true → flag_at k.enabled line ≡ is_set lines.enabled line) → lowest_line k irqs ≡ lowest_deliverable lines irqs
lowest-same lines k [] latched enabled = refl
lowest-same lines k (irq ∷ irqs) latched enabled =
    let here : has_line irq.line.0 (irq ∷ irqs) ≡ true = or_left (nat_eq irq.line.0 irq.line.0) (has_line irq.line.0 irqs) (eq-eqb irq.line.0 irq.line.0 refl) in
    let rest : lowest_line k irqs ≡ lowest_deliverable lines irqs =
    lowest-same lines k irqs (λ line has. latched line (or_right (nat_eq irq.line.0 line) (has_line line irqs) has)) (λ line has. enabled line (or_right (nat_eq irq.line.0 line) (has_line line irqs) has)) in
    rw (latched irq.line.0 here, enabled irq.line.0 here, rest) (by_lower (is_deliverable lines irq.line.0) (lowest_deliverable lines irqs))
  where
    by_lower : (t : Bool) (o : Option IrqPart) → (if t then Some (lower_line irq o) else o) ≡ (if t then Some (lower_of irq o) else o)
    by_lower false o = refl
    by_lower true None = refl
    by_lower true (Some other) = refl

module _ (cfg : Config) (b : ℕ) (box : BoxPart) (there : b < length cfg.boxes) where
  same : (m : Shared) (k : Kept) (th : ThreadState) (r : Reply) → IsAlike cfg b box m k → Meets cfg b box (record { shared = m; thread = th; reply = r }) (record { kept = k; thread = th; reply = r })
  same m k th r alike = record { thread = refl; reply = refl; kept = alike }

  lines-alike : (m : Shared) (k : Kept) (lines : Lines) (now : LoneLines) → IsAlike cfg b box m k → AreAlikeLines cfg b box lines now → IsAlike cfg b box (record m { lines = lines }) (record k { lines = now })
  lines-alike m k lines now alike agree = record { memory = alike.memory; pages = alike.pages; calls = alike.calls; lines = agree }

  pub due-same : (m : Shared) (k : Kept) (t : ℕ) → nat_eq (t - box.first) 0 ≡ nat_eq t box.first → IsAlike cfg b box m k →
      alone_due k.lines box.irqs (t - box.first) ≡ due_interrupt m.lines box b t
  due-same m k t first alike =
      rw (first, alike.lines.saved, lowest-same m.lines k.lines box.irqs alike.lines.latched alike.lines.enabled) refl

  pub context-same : (m : Shared) (k : Kept) (t : ℕ) → nat_eq (t - box.first) 0 ≡ nat_eq t box.first → IsAlike cfg b box m k →
      alone_context k.lines (t - box.first) ≡ handled_context m.lines box b t
  context-same m k t first alike = rw (first, alike.lines.saved) refl

  pub latched-alike : (m : Shared) (k : Kept) (line : ℕ) → IsAlike cfg b box m k → IsAlike cfg b box (record m { lines = with_latched m.lines line }) (with_latch line k)
  latched-alike m k line alike = lines-alike m k (with_latched m.lines line) (record k.lines { latched = slice_set k.lines.latched line true }) alike (record {
    count = alike.lines.count;
    latched_count = length-set k.lines.latched line true ∙ alike.lines.latched_count ∙ sym (length-set m.lines.latched line true);
    enabled_count = alike.lines.enabled_count;
    latched = λ n own. flag-set k.lines.latched m.lines.latched line n true alike.lines.latched_count (alike.lines.latched n own);
    enabled = alike.lines.enabled;
    saved = alike.lines.saved;
  })

  pub delivery-meets : (m : Shared) (k : Kept) (th : ThreadState) (irq : IrqPart) → IsAlike cfg b box m k → Meets cfg b box (delivery_row b m th irq) (alone_delivery k th irq)
  delivery-meets m k th irq alike = record {
    thread = refl;
    reply = refl;
    kept = lines-alike m k (with_delivered m.lines irq.line.0 b (context_of th)) (record k.lines { latched = slice_set k.lines.latched irq.line.0 false; saved = Some (context_of th) }) alike (record {
      count = length-set m.lines.saved b (Some (context_of th)) ∙ alike.lines.count;
      latched_count = length-set k.lines.latched irq.line.0 false ∙ alike.lines.latched_count ∙ sym (length-set m.lines.latched irq.line.0 false);
      enabled_count = alike.lines.enabled_count;
      latched = λ n own. flag-set k.lines.latched m.lines.latched irq.line.0 n false alike.lines.latched_count (alike.lines.latched n own);
      enabled = alike.lines.enabled;
      saved = sym (saved-set m.lines.saved b (Some (context_of th)) (omega (arith, there, alike.lines.count)));
    });
  }

  pub enable-meets : (m : Shared) (k : Kept) (th : ThreadState) (line : ℕ) (on own : Bool) → IsAlike cfg b box m k → Meets cfg b box (irq_enable_row m th line on own) (alone_enable k th line on own)
  enable-meets m k th line on false alike = same m k _ _ alike
  enable-meets m k th line on true alike = record {
    thread = refl;
    reply = refl;
    kept = lines-alike m k (with_enabled m.lines line on) (record k.lines { enabled = slice_set k.lines.enabled line on }) alike (record {
      count = alike.lines.count;
      latched_count = alike.lines.latched_count;
      enabled_count = length-set k.lines.enabled line on ∙ alike.lines.enabled_count ∙ sym (length-set m.lines.enabled line on);
      latched = alike.lines.latched;
      enabled = λ n has. flag-set k.lines.enabled m.lines.enabled line n on alike.lines.enabled_count (alike.lines.enabled n has);
      saved = alike.lines.saved;
    });
  }

  pub irq_return-meets : (m : Shared) (k : Kept) (th : ThreadState) (context : Option Context) → IsAlike cfg b box m k → Meets cfg b box (irq_return_row b m th context) (alone_irq_return k th context)
  irq_return-meets m k th None alike = same m k _ _ alike
  irq_return-meets m k th (Some context) alike = record {
    thread = refl;
    reply = refl;
    kept = lines-alike m k (with_returned m.lines b) (record k.lines { saved = None }) alike (record {
      count = length-set m.lines.saved b None ∙ alike.lines.count;
      latched_count = alike.lines.latched_count;
      enabled_count = alike.lines.enabled_count;
      latched = alike.lines.latched;
      enabled = alike.lines.enabled;
      saved = sym (saved-set m.lines.saved b None (omega (arith, there, alike.lines.count)));
    });
  }

-- ---- numbers of gateways

numbers-below : {A : Type 0} (test : A → Bool) (k n : ℕ) (xs : List A) → n < k → has_number n (numbers_from test k xs) ≡ false
numbers-below test k n [] below = refl
numbers-below test k n (x ∷ xs) below =
    let differs : nat_eq k n ≡ false = ne_eqb k n (λ e. absurd (omega (arith, e, below))) in
    let rest = numbers-below test (k + 1) n xs (omega (arith, below)) in
    by_test (test x) rest differs
  where
    by_test : (t : Bool) → has_number n (numbers_from test (k + 1) xs) ≡ false → nat_eq k n ≡ false →
        has_number n (if t then k ∷ numbers_from test (k + 1) xs else numbers_from test (k + 1) xs) ≡ false
    by_test true rest differs = rw (differs, rest) refl
    by_test false rest differs = rest

numbers-at : {A : Type 0} (test : A → Bool) (k n : ℕ) (xs : List A) → has_number (k + n) (numbers_from test k xs) ≡ option_map_or test (slice_get xs n) false
numbers-at test k n [] = refl
numbers-at test k zero (x ∷ xs) =
    by_test (test x) (eq-eqb k (k + 0) (omega arith)) (numbers-below test (k + 1) (k + 0) xs (omega arith))
  where
    by_test : (t : Bool) → nat_eq k (k + 0) ≡ true → has_number (k + 0) (numbers_from test (k + 1) xs) ≡ false →
        has_number (k + 0) (if t then k ∷ numbers_from test (k + 1) xs else numbers_from test (k + 1) xs) ≡ t
    by_test true here rest = rw here refl
    by_test false here rest = rest
numbers-at test k (suc n) (x ∷ xs) =
    let differs : nat_eq k (k + suc n) ≡ false = ne_eqb k (k + suc n) (λ e. absurd (omega (arith, e))) in
    let place : (k + 1) + n ≡ k + suc n = omega arith in
    let rest = subst (λ m. has_number m (numbers_from test (k + 1) xs) ≡ option_map_or test (slice_get xs n) false) place (numbers-at test (k + 1) n xs) in
    by_test (test x) differs rest
  where
    by_test : (t : Bool) → nat_eq k (k + suc n) ≡ false → has_number (k + suc n) (numbers_from test (k + 1) xs) ≡ option_map_or test (slice_get xs n) false →
        has_number (k + suc n) (if t then k ∷ numbers_from test (k + 1) xs else numbers_from test (k + 1) xs) ≡ option_map_or test (slice_get xs n) false
    by_test true differs rest = rw differs rest
    by_test false differs rest = rest

-- a number is among those that pass where the thing with that number passes
pub numbers-has : {A : Type 0} (test : A → Bool) (n : ℕ) (xs : List A) → has_number n (numbers_from test 0 xs) ≡ option_map_or test (slice_get xs n) false
numbers-has test n xs =
    let place : 0 + n ≡ n = omega arith in
    subst (λ m. has_number m (numbers_from test 0 xs) ≡ option_map_or test (slice_get xs n) false) place (numbers-at test 0 n xs)
