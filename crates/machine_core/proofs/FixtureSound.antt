-- The configurations of the tests are sound.
use Rattle.std.proofs.Common.{[], ◌∷◌, refl, arith}
use Rattle.std.specs.List.{AllByRecursion}
use Rattle.flat_model.specs.Sound.{IsSound, IsThread}
use Rattle.sample_board.proofs.BoxLemmas.{IsShare}
use Rattle.sample_board.proofs.ConfigLemmas.{IsSound-config}
use Rattle.machine_core.specs.Fixture as fixture

boxes_are : AllByRecursion IsShare fixture.shares
boxes_are = (
  record { some_thread = omega arith; lines = (omega arith, tt) },
  (record { some_thread = omega arith; lines = tt }, tt),
)

threads_are : AllByRecursion IsThread fixture.threads
threads_are = (
  record {
    some_step = omega arith;
    few_steps = omega arith;
    short = omega arith;
    valid = ((omega arith, omega arith), ((omega arith, omega arith, omega arith), ((omega arith, omega arith, omega arith), (tt, tt))));
  },
  (
    record {
      some_step = omega arith;
      few_steps = omega arith;
      short = omega arith;
      valid = ((omega arith, omega arith), ((omega arith, omega arith, omega arith), ((omega arith, omega arith), tt)));
    },
    (
      record {
        some_step = omega arith;
        few_steps = omega arith;
        short = omega arith;
        valid = ((omega arith, omega arith), ((omega arith, omega arith, omega arith), tt));
      },
      (
        record {
          some_step = omega arith;
          few_steps = omega arith;
          short = omega arith;
          valid = ((omega arith, omega arith), (omega arith, tt));
        },
        tt,
      ),
    ),
  ),
)

pub sound : IsSound fixture.two_boxes
sound = IsSound-config fixture.shares fixture.threads (fixture.gate 1 ∷ []) [] (record {
  limits = grind arith;
  boxes = boxes_are;
  homes = refl;
  threads = threads_are;
  lines_once = (refl, tt);
  gateways = (omega arith, tt);
  devices = tt;
})

callers_are : AllByRecursion IsThread fixture.callers
callers_are = (
  record { some_step = omega arith; few_steps = omega arith; short = omega arith; valid = (omega arith, tt) },
  (
    record { some_step = omega arith; few_steps = omega arith; short = omega arith; valid = (omega arith, tt) },
    (
      record { some_step = omega arith; few_steps = omega arith; short = omega arith; valid = (tt, (omega arith, tt)) },
      (
        record {
          some_step = omega arith;
          few_steps = omega arith;
          short = omega arith;
          valid = ((omega arith, omega arith), (omega arith, tt));
        },
        tt,
      ),
    ),
  ),
)

-- and so is that of the tests of running threads
pub calling_sound : IsSound fixture.calling
calling_sound = IsSound-config fixture.shares fixture.callers (fixture.gate 3 ∷ []) (fixture.device ∷ []) (record {
  limits = grind arith;
  boxes = boxes_are;
  homes = refl;
  threads = callers_are;
  lines_once = (refl, tt);
  gateways = (omega arith, tt);
  devices = ((refl, tt), tt);
})
