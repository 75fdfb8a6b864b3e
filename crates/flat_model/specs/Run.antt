-- A run of the flat machine: the replies to a list of choices, and the last state.
use Rattle.std.specs.Prelude.{ℕ, None, false, List, [], ◌∷◌, map, length, replicate}
use Rattle.std.specs.Option.{option_map_or}
use Rattle.flat_model.specs.declared.events.Choice.{Choice}
use Rattle.flat_model.specs.declared.events.Reply.{Reply}
use Rattle.flat_model.specs.declared.logs.End.{End}
use Rattle.flat_model.specs.declared.parts.Config.{Config}
use Rattle.flat_model.specs.declared.states.Flat.{Flat}
use Rattle.flat_model.specs.declared.states.ThreadState.{ThreadState}
use Rattle.flat_model.specs.Memory.{opening_memory}
use Rattle.flat_model.specs.Step.{reply_to, state_after}
use Rattle.flat_model.specs.ThreadEvents.{opening_thread}

-- how many interrupt lines there are
abbrev pub LINES : ℕ
LINES = 64

-- the state at the start: the board's words, zero elsewhere, no page with an owner, no call, no line latched or enabled
unfoldable pub opening_state : Config → Flat
opening_state cfg = record {
  shared = record {
    memory = opening_memory cfg.board;
    owners = replicate (option_map_or (λ heap. heap.count) cfg.board.heap 0) None;
    calls = [];
    serving = replicate (length cfg.boxes) None;
    lines = record {
      latched = replicate LINES false;
      enabled = replicate LINES false;
      saved = replicate (length cfg.boxes) None;
    };
  };
  threads = replicate (length cfg.threads) opening_thread;
}

-- the state after choices, from a state on
abbrev pub state_after_all : Config → Flat → List Choice → Flat
state_after_all cfg f [] = f
state_after_all cfg f (c ∷ cs) = state_after_all cfg (state_after cfg f c) cs

-- the replies to choices, from a state on
abbrev pub replies_to_all : Config → Flat → List Choice → List Reply
replies_to_all cfg f [] = []
replies_to_all cfg f (c ∷ cs) = reply_to cfg f c ∷ replies_to_all cfg (state_after cfg f c) cs

-- what a thread is at the end
abbrev pub end_of_thread : ThreadState → End
end_of_thread th = record { mode = th.mode; steps = th.steps; regs = th.regs }

-- what each thread of a state is at the end
abbrev pub ends_of : Flat → List End
ends_of f = map end_of_thread f.threads
