-- The places of a legal log: the state before an entry, and the step that the entry takes.
use Rattle.std.proofs.Common.{◌≡◌, ℕ, zero, suc, ◌≤◌, true, List, [], ◌∷◌, Option, Some, None, take, refl, sym, subst, arith, inl, inr}
use Rattle.std.specs.List.{slice_get}
use Rattle.std.proofs.lemmas.Bool.{and_parts, cases_lt}
use Rattle.std.proofs.lemmas.Option.{none-some, same_Some}
use Rattle.flat_model.specs.declared.events.Choice.{Choice}
use Rattle.flat_model.specs.declared.events.Entry.{Entry}
use Rattle.flat_model.specs.declared.events.Reply.{Reply}
use Rattle.flat_model.specs.declared.logs.Log.{Log}
use Rattle.flat_model.specs.declared.parts.Config.{Config}
use Rattle.flat_model.specs.declared.states.Flat.{Flat}
use Rattle.flat_model.specs.Legal.{IsLegal, all_fit}
use Rattle.flat_model.specs.Log.{choices_of, entries_of}
use Rattle.flat_model.specs.OneLog.{entries_of_run}
use Rattle.flat_model.specs.Run.{opening_state, state_after_all}
use Rattle.flat_model.specs.Sound.{IsSound}
use Rattle.flat_model.specs.Step.{reply_to, state_after}
use Rattle.flat_model.specs.Stepping.{CanGoOn}
use Rattle.flat_model.specs.Want.{fits}
use Rattle.flat_model.proofs.GoingOn.{goes-all, goes-opening}
use Rattle.flat_model.proofs.LegalLogs.{entries-run}
use Rattle.uvisor_run.specs.CallLaws.{IsEntryAt, state_at}

-- an entry is the step of a choice that fits, from one state to the next
pub record IsStep (cfg : Config) (f : Flat) (e : Entry) (after : Flat) : Type 0 where
  pub fit : fits cfg f e.choice ≡ true
  pub reply : e.reply ≡ reply_to cfg f e.choice
  pub goes : after ≡ state_after cfg f e.choice

-- each entry of a run is a step
run-step : (cfg : Config) (f : Flat) (cs : List Choice) (i : ℕ) (e : Entry) → all_fit cfg f cs ≡ true → slice_get (entries_of_run cfg f cs) i ≡ Some e →
    IsStep cfg (state_after_all cfg f (take i cs)) e (state_after_all cfg f (take (suc i) cs))
run-step cfg f [] i e fitting here = absurd (none-some e here)
run-step cfg f (c ∷ cs) zero e fitting here =
    subst (λ (x : Entry). IsStep cfg f x (state_after cfg f c)) (same_Some (record { choice = c; reply = reply_to cfg f c }) e here)
    (record { fit = (and_parts (fits cfg f c) (all_fit cfg (state_after cfg f c) cs) fitting).0; reply = refl; goes = refl })
run-step cfg f (c ∷ cs) (suc i) e fitting here =
    run-step cfg (state_after cfg f c) cs i e (and_parts (fits cfg f c) (all_fit cfg (state_after cfg f c) cs) fitting).1 here

-- past the last entry the state stays
run-end : (cfg : Config) (f : Flat) (cs : List Choice) (i : ℕ) → slice_get (entries_of_run cfg f cs) i ≡ None →
    state_after_all cfg f (take (suc i) cs) ≡ state_after_all cfg f (take i cs)
run-end cfg f [] zero past = refl
run-end cfg f [] (suc i) past = refl
run-end cfg f (c ∷ cs) zero past = absurd (none-some (record { choice = c; reply = reply_to cfg f c }) (sym past))
run-end cfg f (c ∷ cs) (suc i) past = run-end cfg (state_after cfg f c) cs i past

-- what holds at a place, and is kept from each place on to the next, holds at every later place
pub climbs : (Q : ℕ → Type 0) (i : ℕ) → ((k : ℕ) → Q k → Q (suc k)) → (j : ℕ) → i ≤ j → Q i → Q j
climbs Q i next zero low here = let same : i ≡ 0 = omega (arith, low) in subst Q same here
climbs Q i next (suc j) low here = elim (cases_lt j i) [
  | inl above ↦ let same : i ≡ suc j = omega (arith, low, above) in subst Q same here
  | inr below ↦ next j (climbs Q i next j below here)
]

-- a place has an entry, or is past the last one
pub data Place (cfg : Config) (log : Log) (i : ℕ) : Type 0 where
  entry : (c : Choice) (r : Reply) → IsEntryAt log i c r → Place cfg log i
  end : state_at cfg log (suc i) ≡ state_at cfg log i → Place cfg log i

module _ (cfg : Config) (log : Log) (sound : IsSound cfg) (legal : IsLegal cfg log) where
  entries-are : entries_of log.items ≡ entries_of_run cfg (opening_state cfg) (choices_of log.items)
  entries-are = entries-run cfg (opening_state cfg) (entries_of log.items) legal.flat.replies

  -- the entry at a place is a step from the state before it to the state behind it
  pub step-at : (i : ℕ) (c : Choice) (r : Reply) → IsEntryAt log i c r →
      IsStep cfg (state_at cfg log i) (record { choice = c; reply = r }) (state_at cfg log (suc i))
  step-at i c r here =
      run-step cfg (opening_state cfg) (choices_of log.items) i (record { choice = c; reply = r }) legal.flat.fitting
      (subst (λ (es : List Entry). slice_get es i ≡ Some (record { choice = c; reply = r })) entries-are here)

  pub place_at : (i : ℕ) → Place cfg log i
  place_at i = by_entry (slice_get (entries_of log.items) i) refl
    where
      by_entry : (o : Option Entry) → slice_get (entries_of log.items) i ≡ o → Place cfg log i
      by_entry None past =
          end (run-end cfg (opening_state cfg) (choices_of log.items) i (subst (λ (es : List Entry). slice_get es i ≡ None) entries-are past))
      by_entry (Some e) here = entry e.choice e.reply here

  -- each state can go on
  pub going-at : (i : ℕ) → CanGoOn cfg (state_at cfg log i)
  going-at i = goes-all cfg (opening_state cfg) (take i (choices_of log.items)) (goes-opening cfg sound)
