-- The flat machine and a box by itself, side by side: what agrees, part by part of the state.
use Rattle.std.proofs.Common.{◌≡◌, ℕ, Bool, true, List, [], ◌∷◌, map, length, Option, refl, sym, ap, subst}
use Rattle.std.specs.Prelude.{◌-◌, is_some, if◌then◌else◌}
use Rattle.std.specs.Option.{option_map_or}
use Rattle.addr_base.specs.declared.identity.BoxId.{BoxId}
use Rattle.addr_base.specs.declared.identity.Ticket.{Ticket}
use Rattle.flat_model.specs.declared.boards.HeapPart.{HeapPart}
use Rattle.flat_model.specs.declared.parts.BoxPart.{BoxPart}
use Rattle.flat_model.specs.declared.parts.Config.{Config}
use Rattle.flat_model.specs.declared.states.Call.{Call}
use Rattle.flat_model.specs.declared.states.Flat.{Flat}
use Rattle.flat_model.specs.declared.states.Lines.{Lines}
use Rattle.flat_model.specs.declared.states.Memory.{Memory}
use Rattle.flat_model.specs.declared.states.Shared.{Shared}
use Rattle.flat_model.specs.Access.{in_heap, owned_by}
use Rattle.box_isolation.specs.AloneState.{Kept, Left, Lone, LoneCalls, LoneLines, OpenCall, byte_in, flag_at}
use Rattle.flat_model.specs.CallRows.{served_ticket}
use Rattle.flat_model.specs.Calls.{is_collected}
use Rattle.flat_model.specs.Cells.{Cell}
use Rattle.flat_model.specs.Interrupts.{has_line, is_set, saved_context}
use Rattle.flat_model.specs.Memory.{byte_at}
use Rattle.flat_model.specs.Outcome.{Outcome}
use Rattle.box_isolation.specs.Part.{own_of, part_of}
use Rattle.box_isolation.specs.Reach.{is_thread_of}
use Rattle.box_isolation.proofs.NotedBytes.{IsSized}
use Rattle.box_isolation.proofs.SeenBytes.{sees}

-- how many pages the heap has
abbrev pub heap_count : Option HeapPart → ℕ
heap_count heap = option_map_or (λ h. h.count) heap 0

-- the box's calls that are not collected, as the box by itself keeps them
abbrev pub uncollected : BoxPart → List Call → List OpenCall
uncollected box [] = []
uncollected box (call ∷ calls) =
    if is_thread_of box call.ticket.thread.0
    then (if is_collected call.state then uncollected box calls
    else record { thread = call.ticket.thread.0 - box.first; seq = call.ticket.seq } ∷ uncollected box calls)
    else uncollected box calls

-- the bytes that the box sees agree
pub record AreAlikeBytes (cfg : Config) (b : ℕ) (box : BoxPart) (memory : Memory) (pages : List Bool) (cells : List Cell) : Type 0 where
  pub size : IsSized cfg.board memory
  pub bytes : (a : ℕ) → sees (part_of cfg b box) pages a ≡ true → byte_in cells a ≡ byte_at cfg.board memory a

-- the box's pages agree
pub record AreAlikePages (cfg : Config) (b : ℕ) (owners : List (Option BoxId)) (pages : List Bool) : Type 0 where
  pub count : length owners ≡ heap_count cfg.board.heap
  pub own : pages ≡ map (owned_by b) owners

-- the box's calls agree, and whether its server serves one
pub record AreAlikeCalls (cfg : Config) (b : ℕ) (box : BoxPart) (calls : List Call) (serving : List (Option Ticket)) (k : LoneCalls) : Type 0 where
  pub count : length serving ≡ length cfg.boxes
  pub open_calls : k.open_calls ≡ uncollected box calls
  pub serves : k.serves ≡ is_some (served_ticket serving b)

-- the box's lines agree, and what it saved
pub record AreAlikeLines (cfg : Config) (b : ℕ) (box : BoxPart) (lines : Lines) (k : LoneLines) : Type 0 where
  pub count : length lines.saved ≡ length cfg.boxes
  pub latched_count : length k.latched ≡ length lines.latched
  pub enabled_count : length k.enabled ≡ length lines.enabled
  pub latched : (line : ℕ) → has_line line box.irqs ≡ true → flag_at k.latched line ≡ is_set lines.latched line
  pub enabled : (line : ℕ) → has_line line box.irqs ≡ true → flag_at k.enabled line ≡ is_set lines.enabled line
  pub saved : k.saved ≡ saved_context lines b

-- what the threads share and what the box keeps agree
pub record IsAlike (cfg : Config) (b : ℕ) (box : BoxPart) (m : Shared) (k : Kept) : Type 0 where
  pub memory : AreAlikeBytes cfg b box m.memory k.pages k.cells
  pub pages : AreAlikePages cfg b m.owners k.pages
  pub calls : AreAlikeCalls cfg b box m.calls m.serving k.calls
  pub lines : AreAlikeLines cfg b box m.lines k.lines

-- the flat machine and the box by itself agree
pub record IsBeside (cfg : Config) (b : ℕ) (box : BoxPart) (f : Flat) (s : Lone) : Type 0 where
  pub kept : IsAlike cfg b box f.shared s.kept
  pub threads : s.threads ≡ own_of box f.threads

-- a row and what it leaves the box by itself agree
pub record Meets (cfg : Config) (b : ℕ) (box : BoxPart) (out : Outcome) (left : Left) : Type 0 where
  pub thread : left.thread ≡ out.thread
  pub reply : left.reply ≡ out.reply
  pub kept : IsAlike cfg b box out.shared left.kept

-- what another box's event leaves of the box's own: its pages with their bytes, its calls, its lines
pub record SparesPages (cfg : Config) (b : ℕ) (old new : Shared) : Type 0 where
  pub size : IsSized cfg.board old.memory → IsSized cfg.board new.memory
  pub count : length new.owners ≡ length old.owners
  pub own : map (owned_by b) new.owners ≡ map (owned_by b) old.owners
  pub bytes : (a : ℕ) → in_heap (owned_by b) cfg.board.heap a 1 old.owners ≡ true → byte_at cfg.board new.memory a ≡ byte_at cfg.board old.memory a

pub record SparesCalls (b : ℕ) (box : BoxPart) (old new : Shared) : Type 0 where
  pub count : length new.serving ≡ length old.serving
  pub open_calls : uncollected box new.calls ≡ uncollected box old.calls
  pub serves : is_some (served_ticket new.serving b) ≡ is_some (served_ticket old.serving b)

pub record SparesLines (b : ℕ) (box : BoxPart) (old new : Lines) : Type 0 where
  pub count : length new.saved ≡ length old.saved
  pub latched_count : length new.latched ≡ length old.latched
  pub enabled_count : length new.enabled ≡ length old.enabled
  pub latched : (line : ℕ) → has_line line box.irqs ≡ true → is_set new.latched line ≡ is_set old.latched line
  pub enabled : (line : ℕ) → has_line line box.irqs ≡ true → is_set new.enabled line ≡ is_set old.enabled line
  pub saved : saved_context new b ≡ saved_context old b

pub record Spares (cfg : Config) (b : ℕ) (box : BoxPart) (old new : Shared) : Type 0 where
  pub pages : SparesPages cfg b old new
  pub calls : SparesCalls b box old new
  pub lines : SparesLines b box old.lines new.lines

pub SparesPages-same : (cfg : Config) (b : ℕ) (old new : Shared) → new.memory ≡ old.memory → new.owners ≡ old.owners → SparesPages cfg b old new
SparesPages-same cfg b old new memory owners = record {
  size = λ size. subst (IsSized cfg.board) (sym memory) size;
  count = ap length owners;
  own = ap (map (owned_by b)) owners;
  bytes = λ a seen. ap (λ x. byte_at cfg.board x a) memory;
}

pub SparesCalls-same : (b : ℕ) (box : BoxPart) (old new : Shared) → new.calls ≡ old.calls → new.serving ≡ old.serving → SparesCalls b box old new
SparesCalls-same b box old new calls serving = record {
  count = ap length serving;
  open_calls = ap (uncollected box) calls;
  serves = ap (λ x. is_some (served_ticket x b)) serving;
}

pub SparesLines-refl : (b : ℕ) (box : BoxPart) (lines : Lines) → SparesLines b box lines lines
SparesLines-refl b box lines = record {
  count = refl;
  latched_count = refl;
  enabled_count = refl;
  latched = λ line own. refl;
  enabled = λ line own. refl;
  saved = refl;
}

-- nothing shared changes
pub Spares-refl : (cfg : Config) (b : ℕ) (box : BoxPart) (m : Shared) → Spares cfg b box m m
Spares-refl cfg b box m = record {
  pages = SparesPages-same cfg b m m refl refl;
  calls = SparesCalls-same b box m m refl refl;
  lines = SparesLines-refl b box m.lines;
}

-- memory alone changes, and no byte of an own page
pub Spares-memory : (cfg : Config) (b : ℕ) (box : BoxPart) (m : Shared) (memory : Memory) → (IsSized cfg.board m.memory → IsSized cfg.board memory) →
    ((a : ℕ) → in_heap (owned_by b) cfg.board.heap a 1 m.owners ≡ true → byte_at cfg.board memory a ≡ byte_at cfg.board m.memory a) →
    Spares cfg b box m (record m { memory = memory })
Spares-memory cfg b box m memory size bytes = record {
  pages = record { size = size; count = refl; own = refl; bytes = bytes };
  calls = SparesCalls-same b box m (record m { memory = memory }) refl refl;
  lines = SparesLines-refl b box m.lines;
}

-- lines alone change
pub Spares-lines : (cfg : Config) (b : ℕ) (box : BoxPart) (m : Shared) (lines : Lines) → SparesLines b box m.lines lines → Spares cfg b box m (record m { lines = lines })
Spares-lines cfg b box m lines spares = record {
  pages = SparesPages-same cfg b m (record m { lines = lines }) refl refl;
  calls = SparesCalls-same b box m (record m { lines = lines }) refl refl;
  lines = spares;
}

-- calls and servings alone change
pub Spares-calls : (cfg : Config) (b : ℕ) (box : BoxPart) (m : Shared) (calls : List Call) (serving : List (Option Ticket)) →
    SparesCalls b box m (record m { calls = calls; serving = serving }) → Spares cfg b box m (record m { calls = calls; serving = serving })
Spares-calls cfg b box m calls serving spares = record {
  pages = SparesPages-same cfg b m (record m { calls = calls; serving = serving }) refl refl;
  calls = spares;
  lines = SparesLines-refl b box m.lines;
}
