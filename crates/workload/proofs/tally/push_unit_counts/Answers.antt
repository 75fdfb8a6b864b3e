use Rattle.std.proofs.Common.{◌≡◌, ℕ, List, [], ◌∷◌, ◌++◌, refl}
use Rattle.std.specs.Prelude.{codes}
use Rattle.std.specs.Fmt.{decimal}
use Rattle.flat_model.specs.declared.events.Logged.{Logged}
use Rattle.run_log.specs.Spaced.{spaced}
use Rattle.workload.specs.Tally.{denied, flushes, granted, items, rotations, switches, unit_counts}
use Rattle.workload.proofs.Counting.{count_pushed}
use Rattle.workload.proofs.tally.push_unit_counts.Goals as goal

pub returns-clause-text : goal.returns-clause-text
unfolding unit_counts
returns-clause-text c =
    let log : List Logged = c.args.items.now in
    let rest_5 : List (List ℕ) = codes "denied" ∷ decimal (denied log) ∷ [] in
    let rest_4 : List (List ℕ) = codes "granted" ∷ decimal (granted log) ∷ rest_5 in
    let rest_3 : List (List ℕ) = codes "flushes" ∷ decimal (flushes log) ∷ rest_4 in
    let rest_2 : List (List ℕ) = codes "rotations" ∷ decimal (rotations log) ∷ rest_3 in
    let rest_1 : List (List ℕ) = codes "switches" ∷ decimal (switches log) ∷ rest_2 in
    let pushed_5 : c.push_count-6.new.page ≡ c.push_count-5.new.page ++ spaced rest_5 = rw c.denied.ensures at c.push_count-6.ensures.text in
    let pushed_4 : c.push_count-6.new.page ≡ c.push_count-4.new.page ++ spaced rest_4 =
    count_pushed c.push_count-4.new.page c.push_count-5.new.page c.push_count-6.new.page (codes "granted") c.granted.result (granted log) rest_5 c.granted.ensures c.push_count-5.ensures.text pushed_5 in
    let pushed_3 : c.push_count-6.new.page ≡ c.push_count-3.new.page ++ spaced rest_3 =
    count_pushed c.push_count-3.new.page c.push_count-4.new.page c.push_count-6.new.page (codes "flushes") c.flushes.result (flushes log) rest_4 c.flushes.ensures c.push_count-4.ensures.text pushed_4 in
    let pushed_2 : c.push_count-6.new.page ≡ c.push_count-2.new.page ++ spaced rest_2 =
    count_pushed c.push_count-2.new.page c.push_count-3.new.page c.push_count-6.new.page (codes "rotations") c.rotations.result (rotations log) rest_3 c.rotations.ensures c.push_count-3.ensures.text pushed_3 in
    let pushed_1 : c.push_count-6.new.page ≡ c.push_count.new.page ++ spaced rest_1 =
    count_pushed c.push_count.new.page c.push_count-2.new.page c.push_count-6.new.page (codes "switches") c.switches.result (switches log) rest_2 c.switches.ensures c.push_count-2.ensures.text pushed_2 in
    count_pushed c.args.page.now c.push_count.new.page c.push_count-6.new.page (codes "items") (items log) (items log) rest_1 refl c.push_count.ensures.text pushed_1
