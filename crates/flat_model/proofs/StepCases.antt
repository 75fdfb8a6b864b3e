-- A choice that fits, and one that does not.
use Rattle.std.proofs.Common.{◌≡◌, true, false, refl}
use Rattle.flat_model.specs.declared.events.Choice.{Choice}
use Rattle.flat_model.specs.declared.events.Reply.TheVariants as reply
use Rattle.flat_model.specs.declared.parts.Config.{Config}
use Rattle.flat_model.specs.declared.states.Flat.{Flat}
use Rattle.flat_model.specs.Step.{fitting_step, step}
use Rattle.flat_model.specs.Want.{fits}

-- a choice that fits does what it does
pub step-fits : (cfg : Config) (f : Flat) (c : Choice) → fits cfg f c ≡ true → step cfg f c ≡ fitting_step cfg f c
unfolding step
step-fits cfg f c fit = rw fit refl

-- one that does not changes nothing
pub step-unfit : (cfg : Config) (f : Flat) (c : Choice) → fits cfg f c ≡ false → step cfg f c ≡ (f, reply.Ended)
unfolding step
step-unfit cfg f c fit = rw fit refl
