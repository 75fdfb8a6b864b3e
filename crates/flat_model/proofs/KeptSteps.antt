-- What a step leaves of the threads: how many there are, and how many steps they may still take.
use Rattle.std.proofs.Common.{◌≡◌, ℕ, zero, suc, ◌+◌, ◌<◌, ◌≤◌, ◌⊎◌, Bool, true, false, Some, None, List, [], ◌∷◌, ◌++◌, map, replicate, refl, sym, ap, ◌∙◌, subst, arith, length, inl, inr}
use Rattle.std.specs.List.{slice_get, slice_set}
use Rattle.std.proofs.lemmas.Option.{slice_get-map}
use Rattle.std.specs.Option.{option_map}
use Rattle.addr_base.specs.declared.identity.BoxId.{BoxId}
use Rattle.flat_model.specs.declared.parts.BoxPart.{BoxPart}
use Rattle.flat_model.specs.declared.parts.Config.{Config}
use Rattle.flat_model.specs.declared.parts.ThreadPart.{ThreadPart}
use Rattle.flat_model.specs.declared.states.Flat.{Flat}
use Rattle.flat_model.specs.declared.states.ThreadState.{ThreadState}
use Rattle.flat_model.specs.Sound.{IsSound, IsThread, homes_from}
use Rattle.flat_model.specs.Actors.{Actor, IsActor}
use Rattle.flat_model.specs.Outcome.{Outcome}
use Rattle.flat_model.specs.Step.{settled}
use Rattle.flat_model.specs.Stepping.{CanStep, IsWithin, KeepsBudgets}
use Rattle.flat_model.specs.StepsLeft.{steps_left, steps_left_of}
use Rattle.flat_model.specs.Thread.{has_ended}
use Rattle.flat_model.specs.Turn.{within_budget}
use Rattle.flat_model.proofs.Budgets.{CountsOne, has_steps}
use Rattle.flat_model.proofs.Elements.{each-get, slice_get_some}

-- an element after a change is an old one or the new one
pub get-slice_set : {A : Type 0} (xs : List A) (t : ℕ) (v : A) (i : ℕ) (x : A) →
    slice_get (slice_set xs t v) i ≡ Some x → (slice_get xs i ≡ Some x) ⊎ ((i ≡ t) × (x ≡ v))
get-slice_set [] t v i x at = inl at
get-slice_set (y ∷ xs) zero v zero x at = inr (refl, let same : x ≡ v = cc in same)
get-slice_set (y ∷ xs) zero v (suc i) x at = inl at
get-slice_set (y ∷ xs) (suc t) v zero x at = inl at
get-slice_set (y ∷ xs) (suc t) v (suc i) x at = elim (get-slice_set xs t v i x at) [
  | inl old ↦ inl old
  | inr new ↦ inr (ap suc new.0, new.1)
]

-- a change of one thread changes what is left by as much
pub steps_left-set : (threads : List ThreadPart) (states : List ThreadState) (t : ℕ) (thread : ThreadPart) (th v : ThreadState) (k : ℕ) →
    slice_get threads t ≡ Some thread → slice_get states t ≡ Some th →
    steps_left_of thread v + k ≤ steps_left_of thread th →
    steps_left threads (slice_set states t v) + k ≤ steps_left threads states
steps_left-set [] states t thread th v k there here less = absurd (let e : None ≡ Some thread = there in cc)
steps_left-set (p ∷ threads) [] t thread th v k there here less = absurd (let e : None ≡ Some th = here in cc)
steps_left-set (p ∷ threads) (s ∷ states) zero thread th v k there here less =
    let one : p ≡ thread = cc in
    let two : s ≡ th = cc in
    subst (λ q. steps_left_of q v + steps_left threads states + k ≤ steps_left_of q s + steps_left threads states) (sym one)
    (subst (λ q. steps_left_of thread v + steps_left threads states + k ≤ steps_left_of thread q + steps_left threads states) (sym two)
    (omega arith))
steps_left-set (p ∷ threads) (s ∷ states) (suc t) thread th v k there here less =
    let rest : steps_left threads (slice_set states t v) + k ≤ steps_left threads states =
    steps_left-set threads states t thread th v k there here less in
    omega arith

left-by : (thread : ThreadPart) (th v : ThreadState) (a b : Bool) →
    has_ended th ≡ false → has_ended v ≡ b → v.steps ≡ th.steps + 1 → th.steps < thread.steps →
    steps_left_of thread v + 1 ≤ steps_left_of thread th
left-by thread th v a true live ended more below = rw (live, ended) (omega arith)
left-by thread th v a false live ended more below = rw (live, ended) (omega arith)

-- an event of a thread that has not ended leaves it one step less
pub left-one : (thread : ThreadPart) (th v : ThreadState) → CountsOne th v → has_ended th ≡ false → th.steps < thread.steps →
    steps_left_of thread v + 1 ≤ steps_left_of thread th
left-one thread th v one live below = left-by thread th v true (has_ended v) live refl one.steps below

same_program : (a b : ThreadPart) → Some a ≡ Some b → a ≡ b
same_program a b is = cc

-- ---- what one thread's event leaves of the others

module _ (cfg : Config) (f : Flat) (t : ℕ) (a : Actor) (it : IsActor cfg f t a) (out : Outcome)
    (one : CountsOne a.thread (within_budget a.program.steps out).thread) where
  after : Flat
  after = (settled f t (within_budget a.program.steps out)).0

  -- the thread's event leaves it steps where it may still run
  has_left : a.thread.count ≤ a.thread.steps → IsWithin a.program (within_budget a.program.steps out).thread
  has_left few live = has_steps a.program.steps a.thread out few one live

  -- the budgets are kept
  pub budgets-settled : KeepsBudgets cfg f → KeepsBudgets cfg (settled f t (within_budget a.program.steps out)).0
  budgets-settled keeps i program th there at =
      elim (get-slice_set f.threads t (within_budget a.program.steps out).thread i th at) [
        | inl old ↦ keeps i program th there old
        | inr new ↦
            let same : program ≡ a.program = same_program program a.program (sym there ∙ ap (slice_get cfg.threads) new.0 ∙ it.program) in
            subst (IsWithin program) (sym new.1)
            (subst (λ (p : ThreadPart). IsWithin p (within_budget a.program.steps out).thread) (sym same)
            (has_left (keeps t a.program a.thread it.program it.thread it.live).calls))
      ]

module _ (cfg : Config) (sound : IsSound cfg) where
  -- budgets are small
  pub budget-small : (t : ℕ) (thread : ThreadPart) → slice_get cfg.threads t ≡ Some thread → thread.steps ≤ 100000
  budget-small t thread at = (each-get IsThread cfg.threads t thread sound.threads at).few_steps

  -- a thread within its budget can step
  pub can-step : (t : ℕ) (thread : ThreadPart) (th : ThreadState) → slice_get cfg.threads t ≡ Some thread →
      IsWithin thread th → CanStep th
  can-step t thread th at within live =
      let left = within live in
      let small = budget-small t thread at in
      record { steps = omega (arith, left.steps); calls = left.calls }

pub get-replicate : {A : Type 0} (n : ℕ) (v : A) (i : ℕ) (x : A) → slice_get (replicate n v) i ≡ Some x → x ≡ v
get-replicate zero v i x at = absurd (let e : None ≡ Some x = at in cc)
get-replicate (suc n) v zero x at = let same : x ≡ v = cc in same
get-replicate (suc n) v (suc i) x at = get-replicate n v i x at

get-append : {A : Type 0} (xs ys : List A) (i : ℕ) (x : A) → slice_get (xs ++ ys) i ≡ Some x →
    (slice_get xs i ≡ Some x) ⊎ ((j : ℕ) × (slice_get ys j ≡ Some x))
get-append [] ys i x at = inr (i, at)
get-append (y ∷ xs) ys zero x at = inl at
get-append (y ∷ xs) ys (suc i) x at = get-append xs ys i x at

homes-below : (b : ℕ) (parts : List BoxPart) (t : ℕ) (home : BoxId) →
    slice_get (homes_from b parts) t ≡ Some home → home.0 < b + length parts
homes-below b [] t home at = absurd (let e : None ≡ Some home = at in cc)
homes-below b (part ∷ parts) t home at = elim (get-append (replicate part.threads (record { 0 = b })) (homes_from (b + 1) parts) t home at) [
  | inl here ↦ let is : home ≡ record { 0 = b } = get-replicate part.threads (record { 0 = b }) t home here in
      subst (λ (h : BoxId). h.0 < b + length (part ∷ parts)) (sym is) (omega arith)
  | inr later ↦ let below : home.0 < (b + 1) + length parts = homes-below (b + 1) parts later.0 home later.1 in omega arith
]

-- the box of a thread of a sound configuration is there
pub home-there : (cfg : Config) (t : ℕ) (thread : ThreadPart) → IsSound cfg → slice_get cfg.threads t ≡ Some thread →
    (part : BoxPart) × (slice_get cfg.boxes thread.home.0 ≡ Some part)
home-there cfg t thread sound at =
    let home : slice_get (map (λ (p : ThreadPart). p.home) cfg.threads) t ≡ Some thread.home =
    slice_get-map (λ (p : ThreadPart). p.home) cfg.threads t ∙ ap (option_map (λ (p : ThreadPart). p.home)) at in
    let below : thread.home.0 < 0 + length cfg.boxes =
    (homes-below 0 cfg.boxes t thread.home (subst (λ xs. slice_get xs t ≡ Some thread.home) sound.homes home)) in
    slice_get_some cfg.boxes thread.home.0 (omega arith)
