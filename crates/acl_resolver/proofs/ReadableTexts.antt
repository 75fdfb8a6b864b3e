-- What is read from tables is within its bounds, whatever the tables hold; and how many there are of it.
use Rattle.std.proofs.Common.{◌≡◌, ℕ, suc, ◌+◌, ◌-◌, ◌<◌, ◌≤◌, Bool, true, false, not, ◌&&◌, ◌||◌, nat_le, nat_lt, if◌then◌else◌, cond, codes, List, ◌++◌, length, count_by, Option, Some, None, is_none, is_some, option_map, option_and_then, option_to_list, unwrap_or, refl, ap, sym, inl, inr, arith}
use Rattle.std.proofs.lemmas.Bool.{and_parts, cases_Bool, false≢true, leb-true, ltb-false, not-false, or_parts}
use Rattle.std.proofs.lemmas.List.Sums.{sum_by-cons}
use Rattle.std.specs.List.{AllByRecursion}
use Rattle.addr_base.specs.Rights.{all_rights, read_execute, read_only, read_write}
use Rattle.addr_base.specs.declared.rights.Rights.{Rights}
use Rattle.flat_model.specs.First.{number}
use Rattle.flat_model.specs.declared.refusals.Key.{Key}
use Rattle.flat_model.specs.declared.refusals.Key.TheVariants as key
use Rattle.flat_model.specs.Sound.{IsGrantRights}
use Rattle.toml.specs.Data.{Data, Items, no_items, item, Members, as_array, as_str, as_table}
use Rattle.board_map.specs.declared.rows.Each.TheVariants as each
use Rattle.board_map.specs.declared.rows.Limit.{Limit}
use Rattle.board_map.specs.declared.rows.Limit.TheVariants as limit
use Rattle.board_map.specs.declared.totals.Totals.{Totals}
use Rattle.board_map.specs.BoardText.{words_of}
use Rattle.board_map.specs.Rows.{required, some_tables}
use Rattle.board_map.specs.Shape.{is_bad}
use Rattle.board_map.specs.Tree.{bounded, count, items_at, items_or_none, natural_of, text_at, value_at}
use Rattle.board_map.specs.Values.{all_fit, are_all, fits, fits_each, in_array, is_over, ring_words, rings}
use Rattle.board_map.specs.Words.{or_word, rights_of}
use Rattle.box_config.specs.Texts.{from_tables, grant_text, irq_part, lines_of, server_among, strings_of, thread_text}
use Rattle.acl_resolver.specs.Resolvable.{IsGrantText, IsIrq, IsThreadText, is_ring_text}
use Rattle.acl_resolver.proofs.ReadablePlaces.{IsGoodRow}

-- a number that is read lies between its bounds
pub bounded_between : (low high d : ℕ) (o : Option ℕ) → low ≤ d → d ≤ high → (low ≤ bounded low high d o) × (bounded low high d o ≤ high)
bounded_between low high d None above below = (above, below)
bounded_between low high d (Some n) above below = elim (cases_Bool (nat_le low n && nat_le n high)) [
  | inl within ↦
      let parts = and_parts (nat_le low n) (nat_le n high) within in
      rw within (leb-true low n parts.0, leb-true n high parts.1)
  | inr out ↦ rw out (above, below)
]

or_word_sound : (test : Bool) (rights : Rights) (others : Option Rights) → IsGrantRights rights → IsGrantRights (unwrap_or others read_only)
    → IsGrantRights (unwrap_or (if test then Some rights else others) read_only)
or_word_sound true rights others here there = here
or_word_sound false rights others here there = there

-- rights that are read are rights of a grant
pub sound_rights : (o : Option (List ℕ)) → IsGrantRights (unwrap_or (option_and_then rights_of o) read_only)
unfolding rights_of
sound_rights None = inl refl
sound_rights (Some text) =
    let fourth : Option Rights = or_word text (codes "rwx") all_rights None in
    let third : Option Rights = or_word text (codes "rx") read_execute fourth in
    let second : Option Rights = or_word text (codes "rw") read_write third in
    or_word_sound _ read_only second (inl refl)
    (or_word_sound _ read_write third (inr (inl refl))
    (or_word_sound _ read_execute fourth (inr (inr (inl refl)))
    (or_word_sound _ all_rights None (inr (inr (inr refl))) (inl refl))))

-- a grant that is read has rights of a grant
pub sound_grant : (ms : Members) → IsGrantText (grant_text ms)
unfolding grant_text
sound_grant ms = record { rights = sound_rights (text_at key.Rights ms) }

-- a line that is read is below 64, its handler below 65,536
pub sound_irq : (ms : Members) → IsIrq (irq_part ms)
unfolding irq_part
sound_irq ms =
    let line = bounded_between 0 63 0 (option_and_then natural_of (value_at key.Line ms)) (omega arith) (omega arith) in
    let handler = bounded_between 0 65535 0 (option_and_then natural_of (value_at key.Handler ms)) (omega arith) (omega arith) in
    record { line = omega (arith, line.1); handler = omega (arith, handler.1) }

-- a thread that is read may take 1 to 100,000 steps
pub sound_thread : (ms : Members) → IsThreadText (thread_text ms)
unfolding thread_text
sound_thread ms =
    let steps = bounded_between 1 100000 10000 (option_and_then natural_of (value_at key.Steps ms)) (omega arith) (omega arith) in
    record { some_step = steps.0; few_steps = steps.1 }

-- a server that is read is one of the threads, where there is one
pub sound_server : (threads : ℕ) (ms : Members) → 1 ≤ threads → server_among threads ms < threads
sound_server threads ms some =
    let server = bounded_between 0 (number (threads - 1)) 0 (option_and_then natural_of (value_at key.Server ms)) (omega arith) (omega arith) in
    omega (arith, server.1)

one_from : {T : Type 0} (f : Members → T) (Q : T → Type 0) → ((ms : Members) → Q (f ms)) → (o : Option Members) (rest : List T) → AllByRecursion Q rest
    → AllByRecursion Q (option_to_list (option_map f o) ++ rest)
one_from f Q each None rest others = others
one_from f Q each (Some ms) rest others = (each ms, others)

-- what holds of every table holds of all that is read
pub all_from : {T : Type 0} (f : Members → T) (Q : T → Type 0) → ((ms : Members) → Q (f ms)) → (ds : Items) → AllByRecursion Q (from_tables f ds)
all_from f Q each no_items = tt
all_from f Q each (item d ds) = one_from f Q each (as_table d) (from_tables f ds) (all_from f Q each ds)

one_at_most : {T : Type 0} (o : Option T) (rest : List T) (n : ℕ) → length rest ≤ n → length (option_to_list o ++ rest) ≤ n + 1
one_at_most None rest n few = omega arith
one_at_most (Some x) rest n few = omega arith

-- at most as many tables as elements
pub few_tables : {T : Type 0} (f : Members → T) (ds : Items) → length (from_tables f ds) ≤ count ds
few_tables f no_items = omega arith
few_tables f (item d ds) =
    let more = one_at_most (option_map f (as_table d)) (from_tables f ds) (count ds) (few_tables f ds) in
    omega (arith, more)

-- at most as many strings as elements
pub few_strings : (ds : Items) → length (strings_of ds) ≤ count ds
few_strings no_items = omega arith
few_strings (item d ds) =
    let more = one_at_most (as_str d) (strings_of ds) (count ds) (few_strings ds) in
    omega (arith, more)

-- as many words as elements
pub count_words : (ds : Items) → length (words_of ds) ≡ count ds
count_words no_items = refl
count_words (item d ds) = ap suc (count_words ds)

-- as many lines as elements
pub count_lines : (ds : Items) → length (lines_of ds) ≡ count ds
count_lines no_items = refl
count_lines (item d ds) = ap suc (count_lines ds)

one_ring : (o : Option (List ℕ)) (rest : List (List ℕ)) (n : ℕ) → count_by is_ring_text rest ≤ n → count_by is_ring_text (option_to_list o ++ rest) ≤ (if rings o then 1 else 0) + n
one_ring None rest n few = omega arith
one_ring (Some text) rest n few =
    let more = sum_by-cons (λ (x : List ℕ). cond (is_ring_text x) 1 0) text rest in
    omega (arith, more)

-- at most as many strings that ring as are counted
pub few_rings : (ds : Items) → count_by is_ring_text (strings_of ds) ≤ ring_words ds
few_rings no_items = omega arith
few_rings (item d ds) = one_ring (as_str d) (strings_of ds) (ring_words ds) (few_rings ds)

-- a list within its limit
pub few_items : (most : ℕ) (k : Key) (t : Totals) (ms : Members) → is_over (limit.Items most) k t ms ≡ false → count (items_at k ms) ≤ most
unfolding is_over
few_items most k t ms within = ltb-false _ _ within

-- a script within its limits
pub few_words : (k : Key) (t : Totals) (ms : Members) → is_over limit.Script k t ms ≡ false → (count (items_at k ms) ≤ 250000) × (ring_words (items_at k ms) ≤ 10000)
unfolding is_over
few_words k t ms within =
    let parts = or_parts (nat_lt 250000 (count (items_at k ms))) (nat_lt 10000 (ring_words (items_at k ms))) within in
    (ltb-false _ _ parts.0, ltb-false _ _ parts.1)

one_there : {T : Type 0} (f : Members → T) (o : Option Members) (rest : List T) → is_some o ≡ true → 1 ≤ length (option_to_list (option_map f o) ++ rest)
one_there f None rest there = absurd (cc)
one_there f (Some ms) rest there = omega arith

some_items : {T : Type 0} (f : Members → T) (ds : Items) → are_all each.Table true ds ≡ true → 1 ≤ length (from_tables f ds)
some_items f no_items all = absurd (false≢true all)
some_items f (item d ds) all =
    let parts = and_parts (not true || nat_lt 0 (count (item d ds))) (all_fit each.Table (item d ds)) all in
    let first = and_parts (fits_each each.Table d) (all_fit each.Table ds) parts.1 in
    one_there f (as_table d) (from_tables f ds) first.0

some_array : {T : Type 0} (f : Members → T) (o : Option Items) → in_array (are_all each.Table true) o ≡ true → 1 ≤ length (from_tables f (items_or_none o))
some_array f None all = absurd (false≢true all)
some_array f (Some ds) all = some_items f ds all

some_value : {T : Type 0} (f : Members → T) (k : Key) (l : Limit) (t : Totals) (ms : Members) (o : Option Data) → (true && is_none o) ≡ false → is_bad (required k some_tables l) t ms o ≡ false
    → 1 ≤ length (from_tables f (items_or_none (option_and_then as_array o)))
unfolding fits
some_value f k l t ms None there fit = absurd (false≢true (sym there))
some_value f k l t ms (Some d) there fit = some_array f (as_array d) (not-false _ fit)

-- where an array of at least one table is asked, there is one
pub some_table : {T : Type 0} (f : Members → T) (k : Key) (l : Limit) (t : Totals) (ms : Members) → IsGoodRow t ms (required k some_tables l) → 1 ≤ length (from_tables f (items_at k ms))
some_table f k l t ms row = some_value f k l t ms (value_at k ms) row.there row.fit
