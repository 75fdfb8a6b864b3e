-- What lets a state go on: steps left, calls that are counted, and room for those that may come.
use Rattle.std.proofs.Common.{◌≡◌, ℕ, zero, suc, ◌+◌, ◌<◌, ◌≤◌, ◌⊎◌, Bool, true, false, Option, Some, None, List, [], ◌∷◌, replicate, refl, sym, ap, ◌∙◌, subst, arith, length, sum_by, inl, inr}
use Rattle.std.specs.List.{slice_get, slice_set}
use Rattle.std.proofs.lemmas.List.Sums.{sum_by-cons}
use Rattle.addr_base.specs.declared.identity.ThreadId.{ThreadId}
use Rattle.addr_base.specs.declared.identity.Ticket.{Ticket}
use Rattle.flat_model.specs.declared.actors.Who.{Who}
use Rattle.flat_model.specs.declared.events.Choice.{Choice}
use Rattle.flat_model.specs.declared.events.Choice.TheVariants as choice
use Rattle.flat_model.specs.declared.events.Reply.{Reply}
use Rattle.flat_model.specs.declared.parts.BoxPart.{BoxPart}
use Rattle.flat_model.specs.declared.parts.Config.{Config}
use Rattle.flat_model.specs.declared.parts.ThreadPart.{ThreadPart}
use Rattle.flat_model.specs.declared.states.Flat.{Flat}
use Rattle.flat_model.specs.declared.states.ThreadState.{ThreadState}
use Rattle.flat_model.specs.Acting.{CanAct}
use Rattle.flat_model.specs.Actors.{Actor, IsActor, actor_of, who_acts}
use Rattle.flat_model.specs.CallRows.{server_row}
use Rattle.flat_model.specs.Calls.{calls_of}
use Rattle.flat_model.specs.Evaluator.{flat_of}
use Rattle.flat_model.specs.Kernel.{KernelState}
use Rattle.flat_model.specs.Next.{holds_next, next_of_actor}
use Rattle.flat_model.specs.Outcome.{Outcome}
use Rattle.flat_model.specs.Run.{opening_state, state_after_all}
use Rattle.flat_model.specs.Sound.{IsSound, IsThread}
use Rattle.flat_model.specs.Step.{fitting_step, serve_by, settled, state_after, step, turn_by}
use Rattle.flat_model.specs.Stepping.{CanGoOn, IsWithin, KeepsCounts}
use Rattle.flat_model.specs.StepsLeft.{steps_left, steps_left_of}
use Rattle.flat_model.specs.Thread.{counted, has_ended}
use Rattle.flat_model.specs.ThreadEvents.{opening_thread}
use Rattle.flat_model.specs.Turn.{row_of, within_budget}
use Rattle.flat_model.specs.Want.{fits}
use Rattle.flat_model.proofs.ActorLemmas.{actor-is}
use Rattle.flat_model.proofs.Budgets.{CountsOne, serve-counts, turn-counts}
use Rattle.flat_model.proofs.Elements.{each-get}
use Rattle.flat_model.proofs.KeptSteps.{budget-small, budgets-settled, get-replicate, left-one, steps_left-set}
use Rattle.flat_model.proofs.MadeCalls.{Makes, serve-makes, turn-makes}
use Rattle.flat_model.proofs.StepCases.{step-fits, step-unfit}

-- an element after a change is an old one of another number, or the new one
get-set : {A : Type 0} (xs : List A) (t : ℕ) (v : A) (i : ℕ) (x : A) → slice_get (slice_set xs t v) i ≡ Some x →
    ((slice_get xs i ≡ Some x) × (i ≡ t → ⊥)) ⊎ ((i ≡ t) × (x ≡ v))
get-set [] t v i x at = absurd (let e : None ≡ Some x = at in cc)
get-set (y ∷ xs) zero v zero x at = inr (refl, let same : x ≡ v = cc in same)
get-set (y ∷ xs) zero v (suc i) x at = inl (at, λ e. let same : suc i ≡ 0 = e in omega (arith, same))
get-set (y ∷ xs) (suc t) v zero x at = inl (at, λ e. let same : 0 ≡ suc t = e in omega (arith, same))
get-set (y ∷ xs) (suc t) v (suc i) x at = elim (get-set xs t v i x at) [
  | inl old ↦ inl (old.0, λ e. old.1 (let same : suc i ≡ suc t = e in omega (arith, same)))
  | inr new ↦ inr (ap suc new.0, new.1)
]

-- ---- one thread's event

module _ (cfg : Config) (f : Flat) (t : ℕ) (a : Actor) (it : IsActor cfg f t a) (out : Outcome)
    (one : CountsOne a.thread (within_budget a.program.steps out).thread)
    (makes : Makes t f.shared.calls (within_budget a.program.steps out).shared.calls a.thread.count (within_budget a.program.steps out).thread.count)
    (goes : CanGoOn cfg f) where
  abbrev after_thread : ThreadState
  after_thread = (within_budget a.program.steps out).thread

  counts-settled : KeepsCounts (settled f t (within_budget a.program.steps out)).0
  counts-settled i x at = elim (get-set f.threads t after_thread i x at) [
    | inl old ↦ makes.others i old.1 ∙ goes.counts i x old.0
    | inr new ↦
        let mine = goes.counts t a.thread it.thread in
        let own : calls_of t (within_budget a.program.steps out).shared.calls ≡ after_thread.count =
        omega (arith, makes.own, mine) in
        subst (λ k. calls_of k (within_budget a.program.steps out).shared.calls ≡ x.count) (sym new.0)
        (own ∙ ap (λ (th : ThreadState). th.count) (sym new.1))
  ]

  -- the state after the event goes on
  pub goes-settled : CanGoOn cfg (settled f t (within_budget a.program.steps out)).0
  goes-settled =
      let below = (goes.budgets t a.program a.thread it.program it.thread it.live).steps in
      let less = left-one a.program a.thread after_thread one it.live below in
      let left = steps_left-set cfg.threads f.threads t a.program a.thread after_thread 1 it.program it.thread less in
      record {
        budgets = budgets-settled cfg f t a it out one goes.budgets;
        counts = counts-settled;
        room = omega (arith, left, makes.few, goes.room);
      }

module _ (cfg : Config) where
  goes-turn : (f : Flat) (t : ThreadId) (room : Bool) (a : Option Actor) → actor_of cfg f t.0 ≡ a → CanGoOn cfg f → CanGoOn cfg (turn_by cfg f t room a).0
  goes-turn f t room None is goes = goes
  goes-turn f t room (Some a) is goes =
      let n = next_of_actor f.shared.lines a t.0 in
      let granted = holds_next cfg.board a.program.home.0 a.part f.shared.owners n in
      goes-settled cfg f t.0 a (actor-is cfg f t.0 a is) (row_of cfg (who_acts a t room) a.part f.shared (counted a.thread) granted n)
      (turn-counts cfg (who_acts a t room) a.part a.program.steps f.shared a.thread granted n)
      (turn-makes cfg (who_acts a t room) a.part a.program.steps f.shared a.thread granted n) goes

  goes-serve : (f : Flat) (t : ThreadId) (ticket : Option Ticket) (a : Option Actor) → actor_of cfg f t.0 ≡ a → CanGoOn cfg f →
      CanGoOn cfg (serve_by cfg f t ticket a).0
  goes-serve f t ticket None is goes = goes
  goes-serve f t ticket (Some a) is goes =
      goes-settled cfg f t.0 a (actor-is cfg f t.0 a is) (server_row cfg a.program.home.0 f.shared (counted a.thread) ticket)
      (serve-counts cfg a.program.home.0 a.program.steps f.shared a.thread ticket)
      (serve-makes t.0 cfg a.program.home.0 a.program.steps f.shared a.thread ticket) goes

  goes-fitting : (f : Flat) (c : Choice) → CanGoOn cfg f → CanGoOn cfg (fitting_step cfg f c).0
  goes-fitting f (choice.Turn t room) goes = goes-turn f t room (actor_of cfg f t.0) refl goes
  goes-fitting f (choice.Start t ticket) goes = goes-serve f t (Some ticket) (actor_of cfg f t.0) refl goes
  goes-fitting f (choice.Idle t) goes = goes-serve f t None (actor_of cfg f t.0) refl goes
  goes-fitting f (choice.Ring line by) goes = record { budgets = goes.budgets; counts = goes.counts; room = goes.room }

  -- a choice leaves a state that goes on
  pub goes-step : (f : Flat) (c : Choice) → CanGoOn cfg f → CanGoOn cfg (step cfg f c).0
  goes-step f c goes = by_fit (fits cfg f c) refl
    where
      by_fit : (b : Bool) → fits cfg f c ≡ b → CanGoOn cfg (step cfg f c).0
      by_fit true fit = subst (λ (p : Flat × Reply). CanGoOn cfg p.0) (sym (step-fits cfg f c fit)) (goes-fitting f c goes)
      by_fit false fit = subst (λ (p : Flat × Reply). CanGoOn cfg p.0) (sym (step-unfit cfg f c fit)) goes

  -- and so do choices
  pub goes-all : (f : Flat) (cs : List Choice) → CanGoOn cfg f → CanGoOn cfg (state_after_all cfg f cs)
  goes-all f [] goes = goes
  goes-all f (c ∷ cs) goes = goes-all (state_after cfg f c) cs (goes-step f c goes)

-- ---- the start

threads-opening : (cfg : Config) → (opening_state cfg).threads ≡ replicate (length cfg.threads) opening_thread
unfolding opening_state
threads-opening cfg = refl

calls-opening : (cfg : Config) → (opening_state cfg).shared.calls ≡ []
unfolding opening_state
calls-opening cfg = refl

left-opening : (threads : List ThreadPart) →
    steps_left threads (replicate (length threads) opening_thread) ≡ sum_by (λ (thread : ThreadPart). thread.steps) threads
left-opening [] = refl
left-opening (thread ∷ threads) =
    let rest = left-opening threads in
    let all = sum_by-cons (λ (p : ThreadPart). p.steps) thread threads in
    omega (arith, rest, all)

-- a sound configuration's state at the start goes on
pub goes-opening : (cfg : Config) → IsSound cfg → CanGoOn cfg (opening_state cfg)
goes-opening cfg sound =
    let fresh : (t : ℕ) (th : ThreadState) → slice_get (opening_state cfg).threads t ≡ Some th → th ≡ opening_thread =
    λ t th here. get-replicate (length cfg.threads) opening_thread t th (subst (λ xs. slice_get xs t ≡ Some th) (threads-opening cfg) here) in
    record {
      budgets = λ t thread th there here.
          let some = (each-get IsThread cfg.threads t thread sound.threads there).some_step in
          subst (IsWithin thread) (sym (fresh t th here)) (λ live. record { steps = omega (arith, some); calls = omega (arith, some) });
      counts = λ t th here. ap (calls_of t) (calls-opening cfg) ∙ ap (λ (x : ThreadState). x.count) (sym (fresh t th here));
      room =
          let few = ap length (calls-opening cfg) in
          let left = ap (steps_left cfg.threads) (threads-opening cfg) ∙ left-opening cfg.threads in
          omega (arith, few, left);
    }

-- ---- who can act

left-some : (threads : List ThreadPart) (states : List ThreadState) (t : ℕ) (thread : ThreadPart) (th : ThreadState) →
    slice_get threads t ≡ Some thread → slice_get states t ≡ Some th → has_ended th ≡ false → th.steps < thread.steps →
    1 ≤ steps_left threads states
left-some threads states t thread th there here live below =
    let less : steps_left_of thread (record th { steps = th.steps + 1 }) + 1 ≤ steps_left_of thread th =
    rw live (omega (arith, below)) in
    let left = steps_left-set threads states t thread th (record th { steps = th.steps + 1 }) 1 there here less in
    omega (arith, left)

-- a thread that may still run can act
pub can_act : (k : KernelState) (threads : List ThreadState) (who : Who) (part : BoxPart) (program : ThreadPart) (th : ThreadState) →
    IsSound k.config → CanGoOn k.config (flat_of k threads) →
    slice_get k.config.threads who.thread.0 ≡ Some program → slice_get k.config.boxes who.home.0 ≡ Some part →
    slice_get threads who.thread.0 ≡ Some th → has_ended th ≡ false → CanAct k who part th
can_act k threads who part program th sound goes there home here live =
    let has = goes.budgets who.thread.0 program th there here live in
    let small = budget-small k.config sound who.thread.0 program there in
    let some = left-some k.config.threads threads who.thread.0 program th there here live has.steps in
    record {
      home = home;
      steps = omega (arith, has.steps, small);
      posts = record {
        number = omega (arith, has.steps, has.calls, small);
        counted = goes.counts who.thread.0 th here;
        room = omega (arith, some, goes.room);
      };
    }

-- the same of an actor, as it is looked up
pub actor_can_act : (k : KernelState) (cfg : Config) (threads : List ThreadState) (t : ThreadId) (room : Bool) (who : Who) (part : BoxPart)
    (program : ThreadPart) (th : ThreadState) → k.config ≡ cfg → IsSound cfg → CanGoOn k.config (flat_of k threads) →
    slice_get cfg.threads t.0 ≡ Some program → slice_get cfg.boxes program.home.0 ≡ Some part →
    who ≡ record { home = program.home; thread = t; room = room } →
    slice_get threads t.0 ≡ Some th → has_ended th ≡ false → CanAct k who part th
actor_can_act k cfg threads t room who part program th same sound goes there home is here live =
    subst (λ (w : Who). CanAct k w part th) (sym is)
    (can_act k threads (record { home = program.home; thread = t; room = room }) part program th (subst IsSound (sym same) sound) goes
    (subst (λ (c : Config). slice_get c.threads t.0 ≡ Some program) (sym same) there)
    (subst (λ (c : Config). slice_get c.boxes program.home.0 ≡ Some part) (sym same) home) here live)
