use Rattle.std.proofs.Common.{◌≡◌, ℕ, List, [], ◌∷◌, ◌++◌}
use Rattle.std.specs.Prelude.{codes}
use Rattle.std.specs.Fmt.{decimal}
use Rattle.flat_model.specs.declared.events.Logged.{Logged}
use Rattle.run_log.specs.Spaced.{spaced}
use Rattle.workload.specs.Tally.{event_counts, faults, idles, posted, rings, starts, turns}
use Rattle.workload.proofs.Counting.{count_pushed}
use Rattle.workload.proofs.tally.push_event_counts.Goals as goal

pub returns-clause-text : goal.returns-clause-text
unfolding event_counts
returns-clause-text c =
    let log : List Logged = c.args.items.now in
    let rest_5 : List (List ℕ) = codes "faults" ∷ decimal (faults log) ∷ [] in
    let rest_4 : List (List ℕ) = codes "posted" ∷ decimal (posted log) ∷ rest_5 in
    let rest_3 : List (List ℕ) = codes "rings" ∷ decimal (rings log) ∷ rest_4 in
    let rest_2 : List (List ℕ) = codes "idles" ∷ decimal (idles log) ∷ rest_3 in
    let rest_1 : List (List ℕ) = codes "starts" ∷ decimal (starts log) ∷ rest_2 in
    let pushed_5 : c.push_count-6.new.page ≡ c.push_count-5.new.page ++ spaced rest_5 = rw c.faults.ensures at c.push_count-6.ensures.text in
    let pushed_4 : c.push_count-6.new.page ≡ c.push_count-4.new.page ++ spaced rest_4 =
    count_pushed c.push_count-4.new.page c.push_count-5.new.page c.push_count-6.new.page (codes "posted") c.posted.result (posted log) rest_5 c.posted.ensures c.push_count-5.ensures.text pushed_5 in
    let pushed_3 : c.push_count-6.new.page ≡ c.push_count-3.new.page ++ spaced rest_3 =
    count_pushed c.push_count-3.new.page c.push_count-4.new.page c.push_count-6.new.page (codes "rings") c.rings.result (rings log) rest_4 c.rings.ensures c.push_count-4.ensures.text pushed_4 in
    let pushed_2 : c.push_count-6.new.page ≡ c.push_count-2.new.page ++ spaced rest_2 =
    count_pushed c.push_count-2.new.page c.push_count-3.new.page c.push_count-6.new.page (codes "idles") c.idles.result (idles log) rest_3 c.idles.ensures c.push_count-3.ensures.text pushed_3 in
    let pushed_1 : c.push_count-6.new.page ≡ c.push_count.new.page ++ spaced rest_1 =
    count_pushed c.push_count.new.page c.push_count-2.new.page c.push_count-6.new.page (codes "starts") c.starts.result (starts log) rest_2 c.starts.ensures c.push_count-2.ensures.text pushed_2 in
    count_pushed c.args.page.now c.push_count.new.page c.push_count-6.new.page (codes "turns") c.turns.result (turns log) rest_1 c.turns.ensures c.push_count.ensures.text pushed_1
