-- What the boxes and threads of a configuration are, against the texts that they come from.
use Rattle.std.proofs.Common.{◌≡◌, ℕ, suc, ◌+◌, ◌<◌, ◌≤◌, cond, List, [], ◌∷◌, ◌++◌, map, length, None, Result, Ok, Err, refl, sym, subst, ◌∙◌, ap, arith, length-append}
use Rattle.std.specs.Prelude.{count_by, replicate, sum_by}
use Rattle.std.specs.List.{AllByRecursion, flat_map, list_any}
use Rattle.std.proofs.lemmas.List.{length-map, map-append}
use Rattle.std.proofs.lemmas.List.Sums.{sum_by-append, sum_by-cons}
use Rattle.std.proofs.lemmas.List.Elements.{recursion_from_All}
use Rattle.addr_base.specs.declared.identity.BoxId.{BoxId}
use Rattle.addr_base.specs.declared.ranges.Range.{Range}
use Rattle.addr_base.specs.Range.{end_of}
use Rattle.box_program.specs.Program.{program}
use Rattle.box_program.proofs.ProgramLemmas.{AreFew, program_few}
use Rattle.flat_model.specs.declared.boards.Board.{Board}
use Rattle.flat_model.specs.declared.instructions.BadLine.{BadLine}
use Rattle.flat_model.specs.declared.instructions.Instr.{Instr}
use Rattle.flat_model.specs.declared.parts.BoxPart.{BoxPart}
use Rattle.flat_model.specs.declared.parts.ThreadPart.{ThreadPart}
use Rattle.flat_model.specs.declared.texts.BoxText.{BoxText}
use Rattle.flat_model.specs.declared.texts.ThreadText.{ThreadText}
use Rattle.flat_model.specs.Interrupts.{has_line}
use Rattle.flat_model.specs.Operands.{IsValidInstr}
use Rattle.flat_model.specs.Sound.{AreNumbered, IsBox, IsThread, homes_from}
use Rattle.acl_resolver.specs.Refusals.{bad_grant_of, is_line_of_some, outside_of, own_after, self_overlap_of}
use Rattle.acl_resolver.specs.Resolvable.{IsBoxText, IsIrq, IsThreadText, steps_of, threads_of}
use Rattle.acl_resolver.specs.Resolve.{bad_program_at, bad_program_of, box_part, box_parts, grant_item, instructions_of, refusal_of_program, thread_part, thread_parts}
use Rattle.acl_resolver.proofs.GrantLemmas.{grants_apart, grants_sound}
use Rattle.acl_resolver.proofs.LineLemmas.{line_of, lines_of}
use Rattle.acl_resolver.proofs.Unrefused.{all_both, all_joined, all_made, all_weaker, each_numbered}

-- there are as many boxes as texts
pub boxes_many : (board : Board) (start t : ℕ) (boxes : List BoxText) → length (box_parts board start t boxes) ≡ length boxes
boxes_many board start t [] = refl
boxes_many board start t (b ∷ boxes) = ap (λ n. suc n) (boxes_many board (end_of (own_after start b.size)) (t + length b.threads) boxes)

-- the boxes have the names of their texts
pub boxes_named : (board : Board) (start t : ℕ) (boxes : List BoxText) → map (λ (part : BoxPart). part.name) (box_parts board start t boxes) ≡ map (λ (b : BoxText). b.name) boxes
boxes_named board start t [] = refl
boxes_named board start t (b ∷ boxes) = ap (λ names. b.name ∷ names) (boxes_named board (end_of (own_after start b.size)) (t + length b.threads) boxes)

-- as many boxes own the secret as their texts say
pub boxes_owning : (board : Board) (start t : ℕ) (boxes : List BoxText) → count_by (λ (part : BoxPart). part.secret) (box_parts board start t boxes) ≡ count_by (λ (b : BoxText). b.secret) boxes
boxes_owning board start t [] = refl
boxes_owning board start t (b ∷ boxes) =
    let rest = box_parts board (end_of (own_after start b.size)) (t + length b.threads) boxes in
    sum_by-cons (λ (part : BoxPart). cond part.secret 1 0) (box_part board (own_after start b.size) t b) rest
    ∙ ap (λ n. cond b.secret 1 0 + n) (boxes_owning board (end_of (own_after start b.size)) (t + length b.threads) boxes)
    ∙ sym (sum_by-cons (λ (text : BoxText). cond text.secret 1 0) b boxes)

-- the boxes name the lines of their texts
pub boxes_lines : (board : Board) (start t : ℕ) (boxes : List BoxText)
    → flat_map (λ (part : BoxPart). map line_of part.irqs) (box_parts board start t boxes) ≡ lines_of boxes
boxes_lines board start t [] = refl
boxes_lines board start t (b ∷ boxes) = ap (λ lines. map line_of b.irqs ++ lines) (boxes_lines board (end_of (own_after start b.size)) (t + length b.threads) boxes)

-- a line is owned by a box exactly where its text names it
pub boxes_own : (board : Board) (start t : ℕ) (boxes : List BoxText) (line : ℕ)
    → list_any (λ (part : BoxPart). has_line line part.irqs) (box_parts board start t boxes) ≡ is_line_of_some boxes line
boxes_own board start t [] line = refl
boxes_own board start t (b ∷ boxes) line = rw (boxes_own board (end_of (own_after start b.size)) (t + length b.threads) boxes line) refl

-- threads are numbered through all boxes, and each box has one as its server
pub boxes_numbered : (board : Board) (start t : ℕ) (boxes : List BoxText) → AllByRecursion IsBoxText boxes → AreNumbered t (box_parts board start t boxes)
boxes_numbered board start t [] each = tt
boxes_numbered board start t (b ∷ boxes) each =
    let server = each.0.server in
    let some : 1 ≤ length b.threads = omega arith in
    let low : t ≤ t + b.server = omega arith in
    let high : t + b.server < t + length b.threads = omega arith in
    (refl, some, low, high, boxes_numbered board (end_of (own_after start b.size)) (t + length b.threads) boxes each.1)

homes_of : (i : ℕ) (threads : List ThreadText) → map (λ (thread : ThreadPart). thread.home) (map (thread_part i) threads) ≡ replicate (length threads) (record { 0 = i })
homes_of i [] = refl
homes_of i (thread ∷ threads) = ap (λ (homes : List BoxId). record { 0 = i } ∷ homes) (homes_of i threads)

-- each thread belongs to its box
pub threads_homes : (board : Board) (start t i : ℕ) (boxes : List BoxText)
    → map (λ (thread : ThreadPart). thread.home) (thread_parts i boxes) ≡ homes_from i (box_parts board start t boxes)
threads_homes board start t i [] = refl
threads_homes board start t i (b ∷ boxes) =
    map-append (λ (thread : ThreadPart). thread.home) (map (thread_part i) b.threads) (thread_parts (i + 1) boxes)
    ∙ ap (λ homes. homes ++ map (λ (thread : ThreadPart). thread.home) (thread_parts (i + 1) boxes)) (homes_of i b.threads)
    ∙ ap (λ homes. replicate (length b.threads) (record { 0 = i }) ++ homes) (threads_homes board (end_of (own_after start b.size)) (t + length b.threads) (i + 1) boxes)

-- there are as many threads as the texts have
pub threads_many : (i : ℕ) (boxes : List BoxText) → length (thread_parts i boxes) ≡ threads_of boxes
threads_many i [] = refl
threads_many i (b ∷ boxes) =
    length-append (map (thread_part i) b.threads) (thread_parts (i + 1) boxes)
    ∙ ap (λ n. n + length (thread_parts (i + 1) boxes)) (length-map b.threads (thread_part i))
    ∙ ap (λ n. length b.threads + n) (threads_many (i + 1) boxes)
    ∙ sym (sum_by-cons (λ (text : BoxText). length text.threads) b boxes)

steps_of_threads : (i : ℕ) (threads : List ThreadText) → sum_by (λ (thread : ThreadPart). thread.steps) (map (thread_part i) threads) ≡ sum_by (λ (thread : ThreadText). thread.steps) threads
steps_of_threads i [] = refl
steps_of_threads i (thread ∷ threads) =
    sum_by-cons (λ (part : ThreadPart). part.steps) (thread_part i thread) (map (thread_part i) threads)
    ∙ ap (λ n. thread.steps + n) (steps_of_threads i threads)
    ∙ sym (sum_by-cons (λ (text : ThreadText). text.steps) thread threads)

-- the threads may take as many steps as the texts say
pub threads_steps : (i : ℕ) (boxes : List BoxText) → sum_by (λ (thread : ThreadPart). thread.steps) (thread_parts i boxes) ≡ steps_of boxes
threads_steps i [] = refl
threads_steps i (b ∷ boxes) =
    sum_by-append (λ (thread : ThreadPart). thread.steps) (map (thread_part i) b.threads) (thread_parts (i + 1) boxes)
    ∙ ap (λ n. n + sum_by (λ (thread : ThreadPart). thread.steps) (thread_parts (i + 1) boxes)) (steps_of_threads i b.threads)
    ∙ ap (λ n. sum_by (λ (thread : ThreadText). thread.steps) b.threads + n) (threads_steps (i + 1) boxes)
    ∙ sym (sum_by-cons (λ (text : BoxText). sum_by (λ (thread : ThreadText). thread.steps) text.threads) b boxes)

few_by : (i j : ℕ) (text : List ℕ) (r : Result (List Instr) BadLine) → program text ≡ r → refusal_of_program i j r ≡ None → AreFew 0 (instructions_of r)
few_by i j text (Ok is) same h = program_few text is same
few_by i j text (Err bad) same h = cc

thread_sound : (i n j : ℕ) (thread : ThreadText) → IsThreadText thread → bad_program_at n j thread ≡ None → IsThread (thread_part i thread)
thread_sound i n j thread text h =
    let few = few_by n j thread.program (program thread.program) refl h in
    record {
      some_step = text.some_step;
      few_steps = text.few_steps;
      short = omega (arith, few.few);
      valid = recursion_from_All IsValidInstr (instructions_of (program thread.program)) few.valid;
    }

box_threads_sound : (i n : ℕ) (b : BoxText) → AllByRecursion IsThreadText b.threads → bad_program_of n b ≡ None → AllByRecursion IsThread (map (thread_part i) b.threads)
box_threads_sound i n b texts h =
    all_made (thread_part i) IsThread b.threads
    (all_weaker (λ thread. IsThreadText thread × ((IsThreadText thread) → IsThread (thread_part i thread))) (λ thread. IsThread (thread_part i thread)) (λ thread facts. facts.1 facts.0) b.threads
    (all_both IsThreadText (λ thread. IsThreadText thread → IsThread (thread_part i thread)) b.threads texts
    (each_numbered (bad_program_at n) (λ thread. IsThreadText thread → IsThread (thread_part i thread)) (λ j thread good text. thread_sound i n j thread text good) 0 b.threads h)))

-- a box whose threads have programs that are not refused
pub record HasPrograms (b : BoxText) : Type 0 where
  pub number : ℕ
  pub good : bad_program_of number b ≡ None

-- the threads are sound, each for itself
pub threads_sound : (i : ℕ) (boxes : List BoxText) → AllByRecursion IsBoxText boxes → AllByRecursion HasPrograms boxes → AllByRecursion IsThread (thread_parts i boxes)
threads_sound i [] each good = tt
threads_sound i (b ∷ boxes) each good =
    all_joined IsThread (map (thread_part i) b.threads) (thread_parts (i + 1) boxes)
    (box_threads_sound i good.0.number b each.0.threads good.0.good)
    (threads_sound (i + 1) boxes each.1 good.1)

-- a box whose grants are not refused
pub record HasGrants (board : Board) (common : Range) (b : BoxText) : Type 0 where
  pub first : ℕ
  pub good : bad_grant_of first b ≡ None
  pub second : ℕ
  pub within : outside_of board common second b ≡ None
  pub third : ℕ
  pub apart : self_overlap_of third b ≡ None

box_sound : (board : Board) (common own : Range) (t : ℕ) (b : BoxText) → IsBoxText b → HasGrants board common b → IsBox board common (box_part board own t b)
box_sound board common own t b text grants = record {
  name = text.name;
  items = refl;
  grants = grants_sound board common grants.first grants.second b text.grants grants.good grants.within;
  grants_apart = grants_apart grants.third b grants.apart;
  few_grants = subst (λ n. n ≤ 64) (sym (length-map b.grants grant_item)) text.few_grants;
  lines = all_weaker IsIrq (λ irq. irq.line.0 < 64) (λ irq is. is.line) b.irqs text.lines;
}

-- the boxes are sound, each for itself
pub boxes_sound : (board : Board) (common : Range) (start t : ℕ) (boxes : List BoxText) → AllByRecursion IsBoxText boxes → AllByRecursion (HasGrants board common) boxes
    → AllByRecursion (IsBox board common) (box_parts board start t boxes)
boxes_sound board common start t [] each grants = tt
boxes_sound board common start t (b ∷ boxes) each grants = (
  box_sound board common (own_after start b.size) t b each.0 grants.0,
  boxes_sound board common (end_of (own_after start b.size)) (t + length b.threads) boxes each.1 grants.1,
)
