-- What good tables of boxes and devices say of what is read from them, and of its sums.
use Rattle.std.proofs.Common.{◌≡◌, ℕ, ◌+◌, ◌≤◌, Bool, true, false, not, ◌&&◌, cond, List, [], ◌∷◌, length, sum_by, Option, Some, None, option_and_then, unwrap_or, refl, ap, ◌∙◌, arith}
use Rattle.std.proofs.lemmas.Bool.{ltb-false}
use Rattle.flat_model.specs.First.{number}
use Rattle.flat_model.specs.Names.{is_name}
use Rattle.flat_model.specs.declared.parts.DevicePart.{DevicePart}
use Rattle.flat_model.specs.declared.refusals.Key.TheVariants as key
use Rattle.flat_model.specs.declared.texts.BoxText.{BoxText}
use Rattle.flat_model.specs.declared.texts.ThreadText.{ThreadText}
use Rattle.toml.specs.Data.{Data, Members, as_bool}
use Rattle.board_map.specs.declared.rows.Form.{Form}
use Rattle.board_map.specs.declared.rows.Form.TheVariants as form
use Rattle.board_map.specs.declared.rows.Limit.TheVariants as limit
use Rattle.board_map.specs.declared.rows.Rule.TheVariants as rule
use Rattle.board_map.specs.declared.totals.Totals.{Totals}
use Rattle.board_map.specs.Rows.{optional, rows_of}
use Rattle.board_map.specs.Shape.{box_places, is_bad, places_in, sections}
use Rattle.board_map.specs.Tree.{count, items_at, natural_of, value_at}
use Rattle.board_map.specs.Values.{after, fits, is_over, may_own, steps_of}
use Rattle.box_config.specs.Texts.{box_text, device_part, from_tables, grant_text, irq_part, thread_text, threads_of}
use Rattle.acl_resolver.specs.Resolvable.{IsBoxText, IsGrantText, IsIrq, IsThreadText}
use Rattle.acl_resolver.proofs.ReadableParts.{amount, bound_in, kept_sections, sum_in}
use Rattle.acl_resolver.proofs.ReadablePlaces.{AreGood, IsGoodTable, good_split, moved, moved_append}
use Rattle.acl_resolver.proofs.ReadableTexts.{all_from, bounded_between, count_lines, few_items, few_tables, some_table, sound_grant, sound_irq, sound_server, sound_thread}

-- a box with a name whose tables are good
pub sound_box : (n : ℕ) (ms : Members) (t : Totals) → AreGood t (box_places n (Some ms)) → is_name (box_text ms).name ≡ true → IsBoxText (box_text ms)
unfolding box_places rows_of box_text
sound_box n ms t good named =
    let rows = good.0 in
    let some : 1 ≤ length (threads_of ms) = some_table thread_text key.Thread limit.Threads t ms rows.1.1.1.1.0 in
    let size = bounded_between 1 1048576 1 (option_and_then natural_of (value_at key.Size ms)) (omega arith) (omega arith) in
    let grants : count (items_at key.Grant ms) ≤ 64 = few_items 64 key.Grant t ms rows.1.1.1.1.1.0.within in
    let irqs : count (items_at key.Irq ms) ≤ 64 = few_items 64 key.Irq t ms rows.1.1.1.1.1.1.0.within in
    record {
      name = named;
      some_size = size.0;
      size = size.1;
      server = sound_server (length (threads_of ms)) ms some;
      few_grants = omega (arith, few_tables grant_text (items_at key.Grant ms));
      few_lines = omega (arith, few_tables irq_part (items_at key.Irq ms));
      threads = all_from thread_text IsThreadText sound_thread (items_at key.Thread ms);
      grants = all_from grant_text IsGrantText sound_grant (items_at key.Grant ms);
      lines = all_from irq_part IsIrq sound_irq (items_at key.Irq ms);
    }

-- the kinds of tables of a box
abbrev box_forms : List Form
box_forms = form.Thread ∷ form.Grant ∷ form.Irq ∷ []

kept_threads : (n : ℕ) (ms : Members) (t : Totals) → (moved t (sections n ms box_forms)).threads ≡ t.threads
unfolding after
kept_threads n ms t = kept_sections (λ (x : Totals). x.threads) n ms box_forms ((λ xs x. refl), ((λ xs x. refl), ((λ xs x. refl), tt))) t

kept_secret : (n : ℕ) (ms : Members) (t : Totals) → (moved t (sections n ms box_forms)).secret_free ≡ t.secret_free
unfolding after
kept_secret n ms t = kept_sections (λ (x : Totals). x.secret_free) n ms box_forms ((λ xs x. refl), ((λ xs x. refl), ((λ xs x. refl), tt))) t

-- how many threads a box has
abbrev pub threads_in : BoxText → ℕ
threads_in b = length b.threads

-- how many steps the threads of a box may take
abbrev pub steps_in : BoxText → ℕ
steps_in b = sum_by (λ thread. thread.steps) b.threads

-- 1 for a box that takes the secret
abbrev pub owners_in : BoxText → ℕ
owners_in b = cond b.secret 1 0

-- 0 where the secret may still be taken
abbrev pub taken : Bool → ℕ
taken true = 0
taken false = 1

counted : (a b few next last : ℕ) → few ≤ b → a + b ≤ 16 → next ≡ number (a + b) → last ≡ next → (a + few ≤ last) × (last ≤ 16)
counted a b few next last less within is same = (omega arith, omega arith)

threads_of_box : (n : ℕ) (ms : Members) (t : Totals) → AreGood t (box_places n (Some ms))
    → (t.threads + length (threads_of ms) ≤ (moved t (box_places n (Some ms))).threads) × ((moved t (box_places n (Some ms))).threads ≤ 16)
unfolding box_places rows_of is_over after
threads_of_box n ms t good =
    let within : t.threads + count (items_at key.Thread ms) ≤ 16 = ltb-false _ _ good.0.1.1.1.1.0.within in
    counted t.threads (count (items_at key.Thread ms)) (length (threads_of ms)) (after form.AtBox ms t).threads
    (moved t (box_places n (Some ms))).threads (few_tables thread_text (items_at key.Thread ms)) within refl
    (kept_threads n ms (after form.AtBox ms t))

-- the threads so far grow by those of a box
pub more_threads : (n : ℕ) (o : Option Members) (t : Totals) → AreGood t (box_places n o) → t.threads + amount box_text threads_in o ≤ (moved t (box_places n o)).threads
unfolding box_places box_text
more_threads n None t good = omega arith
more_threads n (Some ms) t good = (threads_of_box n ms t good).0

-- the threads so far stay within their limit
pub few_threads : (n : ℕ) (o : Option Members) (t : Totals) → AreGood t (box_places n o) → t.threads ≤ 16 → (moved t (box_places n o)).threads ≤ 16
unfolding box_places
few_threads n None t good within = within
few_threads n (Some ms) t good within = (threads_of_box n ms t good).1

steps_of_thread : (ms : Members) (t : Totals) → IsGoodTable t form.Thread ms → (t.steps + (thread_text ms).steps ≤ (after form.Thread ms t).steps) × ((after form.Thread ms t).steps ≤ 250000)
unfolding rows_of is_over after thread_text
steps_of_thread ms t good =
    let within : t.steps + steps_of ms ≤ 250000 = ltb-false _ _ good.1.0.within in
    (omega arith, omega arith)

kept_steps : (n : ℕ) (ms : Members) (t : Totals) → (moved t (sections n ms (form.Grant ∷ form.Irq ∷ []))).steps ≡ t.steps
unfolding after
kept_steps n ms t = kept_sections (λ (x : Totals). x.steps) n ms (form.Grant ∷ form.Irq ∷ []) ((λ xs x. refl), ((λ xs x. refl), tt)) t

-- what the tables of a box say of its steps is what its threads say
steps_by_threads : (n : ℕ) (ms : Members) (t : Totals) → (moved t (sections n ms box_forms)).steps ≡ (moved t (places_in form.Thread n 0 (items_at key.Thread ms))).steps
unfolding sections
steps_by_threads n ms t =
    ap (λ (x : Totals). x.steps) (moved_append t (places_in form.Thread n 0 (items_at key.Thread ms)) (sections n ms (form.Grant ∷ form.Irq ∷ [])))
    ∙ kept_steps n ms (moved t (places_in form.Thread n 0 (items_at key.Thread ms)))

good_threads : (n : ℕ) (ms : Members) (t : Totals) → AreGood t (sections n ms box_forms) → AreGood t (places_in form.Thread n 0 (items_at key.Thread ms))
unfolding sections
good_threads n ms t good = (good_split t (places_in form.Thread n 0 (items_at key.Thread ms)) (sections n ms (form.Grant ∷ form.Irq ∷ [])) good).0

-- the steps so far grow by those of a box
pub more_steps : (n : ℕ) (o : Option Members) (t : Totals) → AreGood t (box_places n o) → t.steps + amount box_text steps_in o ≤ (moved t (box_places n o)).steps
unfolding box_places box_text after
more_steps n None t good = omega arith
more_steps n (Some ms) t good =
    rw (steps_by_threads n ms (after form.AtBox ms t))
    (sum_in (λ (x : Totals). x.steps) form.Thread thread_text (λ (thread : ThreadText). thread.steps) (λ xs x told. (steps_of_thread xs x told).0)
    n 0 (items_at key.Thread ms) (after form.AtBox ms t) (good_threads n ms (after form.AtBox ms t) good.1))

-- the steps so far stay within their limit
pub few_steps : (n : ℕ) (o : Option Members) (t : Totals) → AreGood t (box_places n o) → t.steps ≤ 250000 → (moved t (box_places n o)).steps ≤ 250000
unfolding box_places after
few_steps n None t good within = within
few_steps n (Some ms) t good within =
    rw (steps_by_threads n ms (after form.AtBox ms t))
    (bound_in (λ (x : Totals). x.steps) 250000 form.Thread (λ xs x told. (steps_of_thread xs x told).1)
    n 0 (items_at key.Thread ms) (after form.AtBox ms t) (good_threads n ms (after form.AtBox ms t) good.1) within)

owner_flag : (free : Bool) (o : Option Bool) → not (may_own free o) ≡ false → taken free + cond (unwrap_or o false) 1 0 ≤ taken (free && not (unwrap_or o false))
owner_flag free None fit = absurd (cc)
owner_flag true (Some true) fit = omega arith
owner_flag false (Some true) fit = absurd (cc)
owner_flag true (Some false) fit = omega arith
owner_flag false (Some false) fit = omega arith

not_owned : (free : Bool) → taken free + 0 ≤ taken (free && true)
not_owned true = omega arith
not_owned false = omega arith

owner_value : (t : Totals) (ms : Members) (o : Option Data) → is_bad (optional key.Secret rule.Owner limit.Free) t ms o ≡ false
    → taken t.secret_free + cond (unwrap_or (option_and_then as_bool o) false) 1 0 ≤ taken (t.secret_free && not (unwrap_or (option_and_then as_bool o) false))
unfolding fits
owner_value t ms None fit = not_owned t.secret_free
owner_value t ms (Some d) fit = owner_flag t.secret_free (as_bool d) fit

-- a box takes the secret only where it may
pub more_owners : (n : ℕ) (o : Option Members) (t : Totals) → AreGood t (box_places n o) → taken t.secret_free + amount box_text owners_in o ≤ taken (moved t (box_places n o)).secret_free
unfolding box_places box_text rows_of after
more_owners n None t good = omega arith
more_owners n (Some ms) t good =
    rw (kept_secret n ms (after form.AtBox ms t)) (owner_value t ms (value_at key.Secret ms) good.0.1.1.0.fit)

-- at most one has taken it
pub once_taken : (free : Bool) → taken free ≤ 1
once_taken true = omega arith
once_taken false = omega arith

rings_of_device : (ms : Members) (t : Totals) → IsGoodTable t form.Device ms → (t.rings + length (device_part ms).rings ≤ (after form.Device ms t).rings) × ((after form.Device ms t).rings ≤ 10000)
unfolding rows_of is_over after device_part
rings_of_device ms t good =
    let within : t.rings + count (items_at key.Rings ms) ≤ 10000 = ltb-false _ _ good.0.within in
    let lines = count_lines (items_at key.Rings ms) in
    (omega arith, omega arith)

-- how many lines a device rings
abbrev pub rings_in : DevicePart → ℕ
rings_in device = length device.rings

-- the rings of good devices are within their limit
pub few_device_rings : (t : Totals) (b : ℕ) (ms : Members) → AreGood t (places_in form.Device b 0 (items_at key.Device ms)) → t.rings ≡ 0 → sum_by rings_in (from_tables device_part (items_at key.Device ms)) ≤ 10000
few_device_rings t b ms good none =
    let more = sum_in (λ (x : Totals). x.rings) form.Device device_part rings_in (λ xs x told. (rings_of_device xs x told).0) b 0 (items_at key.Device ms) t good in
    let few = bound_in (λ (x : Totals). x.rings) 10000 form.Device (λ xs x told. (rings_of_device xs x told).1) b 0 (items_at key.Device ms) t good (omega arith) in
    omega (arith, more, few)
