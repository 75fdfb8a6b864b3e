-- How the words of a script are run, one after another.
use Rattle.std.proofs.Common.{◌≡◌, ℕ, zero, suc, ◌+◌, ◌≤◌, true, not, List, [], ◌∷◌, ◌++◌, length, drop, Some, refl, sym, ap, ◌∙◌, subst, arith, append_assoc, append-nil}
use Rattle.std.specs.List.{list_all, slice_get}
use Rattle.std.proofs.lemmas.Bool.{and_parts}
use Rattle.std.proofs.lemmas.Bool.Decides.{nat_tests}
use Rattle.std.proofs.lemmas.List.{drop_all}
use Rattle.addr_base.specs.declared.identity.Line.{Line}
use Rattle.addr_base.specs.declared.identity.ThreadId.{ThreadId}
use Rattle.flat_model.specs.declared.events.Choice.{Choice}
use Rattle.flat_model.specs.declared.events.Choice.TheVariants as choice
use Rattle.flat_model.specs.declared.events.Logged.{Logged}
use Rattle.flat_model.specs.declared.parts.Config.{Config}
use Rattle.flat_model.specs.declared.parts.ScriptWord.{ScriptWord}
use Rattle.flat_model.specs.declared.parts.ScriptWord.TheVariants as word
use Rattle.flat_model.specs.declared.states.Flat.{Flat}
use Rattle.flat_model.specs.Log.{choices_of}
use Rattle.flat_model.specs.Script.{choice_of_thread, choice_of_word, choices_from, script_choices}
use Rattle.flat_model.specs.Sound.{IsScriptWord, IsSound}
use Rattle.flat_model.specs.Step.{state_after}
use Rattle.flat_model.specs.Trace.{World, world_after, world_reached}
use Rattle.flat_model.proofs.Elements.{each-get}
use Rattle.machine_core.specs.View.{MachineView, with_event, world_of}
use Rattle.machine_core.proofs.MachineLemmas.{choices-more, reached-more}

-- what a thread's word stands for
pub thread_word : (cfg : Config) (f : Flat) (w : ScriptWord) (t : ThreadId) → w ≡ word.Thread t → choice_of_word cfg f w ≡ choice_of_thread cfg f t
unfolding choice_of_word
thread_word cfg f w t is = rw is refl

-- what a line's word stands for
pub ring_word : (cfg : Config) (f : Flat) (w : ScriptWord) (line : Line) → w ≡ word.Ring line → choice_of_word cfg f w ≡ choice.Ring line 0
unfolding choice_of_word
ring_word cfg f w line is = rw is refl

-- each word of a script names a thread, or a line that a box owns
pub script_word : (cfg : Config) (i : ℕ) (w : ScriptWord) → IsSound cfg → slice_get cfg.script i ≡ Some w → IsScriptWord cfg w
script_word cfg i w sound at = each-get (IsScriptWord cfg) cfg.script i w sound.script at

-- what has happened and what the words from this place on stand for are the script's choices
abbrev pub IsOnScript : MachineView → ℕ → Type 0
IsOnScript v i = choices_of v.items ++ choices_from v.config (world_of v).flat (drop i v.config.script) ≡ script_choices v.config

-- at first nothing has happened
pub script_begins : (v : MachineView) → v.items ≡ [] → IsOnScript v 0
script_begins v none =
    ap (λ (items : List Logged). choices_of items ++ choices_from v.config (world_reached v.config items).flat v.config.script) none

drop-get : {X : Type 0} (xs : List X) (i : ℕ) (x : X) → slice_get xs i ≡ Some x → drop i xs ≡ x ∷ drop (suc i) xs
drop-get [] i x at = absurd (cc)
drop-get (y ∷ xs) zero x at = let same : y ≡ x = cc in ap (λ z. z ∷ xs) same
drop-get (y ∷ xs) (suc i) x at = drop-get xs i x at

drop-more : {X : Type 0} (xs : List X) (i : ℕ) (x : X) → slice_get xs i ≡ Some x → drop i xs ≡ x ∷ drop (i + 1) xs
drop-more xs i x at =
    let more : suc i ≡ i + 1 = omega arith in
    subst (λ n. drop i xs ≡ x ∷ drop n xs) more (drop-get xs i x at)

world-step : (cfg : Config) (w : World) (c : Choice) → (world_after cfg w c).flat ≡ state_after cfg w.flat c
unfolding world_after
world-step cfg w c = refl

-- one word more
pub script_goes_on : (old new : MachineView) (i : ℕ) (w : ScriptWord) → slice_get old.config.script i ≡ Some w → new.config ≡ old.config
    → new.items ≡ with_event old (choice_of_word old.config (world_of old).flat w) → IsOnScript old i → IsOnScript new (i + 1)
script_goes_on old new i w at same longer on =
    subst (λ (cfg : Config). choices_of new.items ++ choices_from cfg (world_reached cfg new.items).flat (drop (i + 1) cfg.script) ≡ script_choices cfg) (sym same)
    (subst (λ (items : List Logged). choices_of items ++ choices_from old.config (world_reached old.config items).flat (drop (i + 1) old.config.script) ≡ script_choices old.config) (sym longer)
    (moved ∙ on))
  where
    c : Choice
    c = choice_of_word old.config (world_of old).flat w

    rest : List ScriptWord
    rest = drop (i + 1) old.config.script

    flat_now : (world_reached old.config (with_event old c)).flat ≡ state_after old.config (world_of old).flat c
    flat_now = ap (λ (v : World). v.flat) (reached-more old.config old.items (world_of old) c) ∙ world-step old.config (world_of old) c

    moved : choices_of (with_event old c) ++ choices_from old.config (world_reached old.config (with_event old c)).flat rest
        ≡ choices_of old.items ++ choices_from old.config (world_of old).flat (drop i old.config.script)
    moved =
        ap (λ (f : Flat). choices_of (with_event old c) ++ choices_from old.config f rest) flat_now
        ∙ ap (λ (cs : List Choice). cs ++ choices_from old.config (state_after old.config (world_of old).flat c) rest) (choices-more old.config old.items (world_of old) c)
        ∙ append_assoc (choices_of old.items) (c ∷ []) (choices_from old.config (state_after old.config (world_of old).flat c) rest)
        ∙ ap (λ (ws : List ScriptWord). choices_of old.items ++ choices_from old.config (world_of old).flat ws) (sym (drop-more old.config.script i w at))

-- at the end of the script all its choices have happened
pub script_ends : (v : MachineView) (i : ℕ) → length v.config.script ≤ i → IsOnScript v i → choices_of v.items ≡ script_choices v.config
script_ends v i past on =
    sym (append-nil (choices_of v.items))
    ∙ ap (λ (ws : List ScriptWord). choices_of v.items ++ choices_from v.config (world_of v).flat ws) (sym (drop_all i v.config.script past))
    ∙ on
