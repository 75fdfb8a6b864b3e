-- The steps on the word of free slots keep the rule.
use Rattle.std.proofs.Common.{◌≡◌, ℕ, ◌+◌, ◌^◌, ◌<◌, ◌≤◌, [], ◌∷◌, ◌++◌, All, length, get_or, set, refl, ap, sym, ◌∙◌, subst, arith, bit_and, bit_or, w64, length-set}
use mathlib.Core.Option.{some, none}
use mathlib.Core.Logic.{dite}
use native.Mathlib.Decide.{ℕ_discrete, dec_le}
use lib.ListN.{get_elem?}
use Rattle.std.specs.Int.{bit_at, bit_not}
use Rattle.std.proofs.lemmas.List.{get_or-set_same, get_or-set_other}
use Rattle.std.proofs.lemmas.Nat.Bits.{bit_at-lt, bit_at_set_same, bit_at_set_other}
use Rattle.atomic_table.specs.Table.{step, keeps, Allows}
use Rattle.shared_views.specs.Views.{of_views}
use Rattle.shared_views.proofs.Views.{within}
use Rattle.atomic_pool.specs.Bits.{mask}
use Rattle.atomic_pool.specs.Times.{times}
use Rattle.atomic_pool.specs.Tickets.{thread_of}
use Rattle.atomic_pool.specs.InboxRule.{holds_of, Agrees, InboxRule}
use Rattle.atomic_pool.specs.InboxParts.{free_looked, claimed_part, free_missed, freed_part}
use Rattle.atomic_pool.specs.InboxPlays.{looks_free, claims, frees}
use Rattle.atomic_pool.specs.declared.inbox.InboxPart.{InboxPart}
use Rattle.atomic_pool.proofs.Counts.{times-same, times-other, times-grows}
use Rattle.atomic_pool.proofs.Masks.{mask_same, not_mask_same, bit_cleared, bit_kept, cleared_again}
use Rattle.atomic_pool.proofs.Queues.{times-here, times-past, times-without, times-without-other, fewer}
use Rattle.atomic_pool.proofs.Agreeing.{held_moved, seen_only, words_moved, far, far_tickets, unless_is}
use Rattle.atomic_pool.proofs.InboxTurned.{St, Turns, after, at_once, held_alone, agrees, step_kept, load_kept, stays}

module _ (n m slots id : ℕ) (p : InboxPart) where
  pub look_free_kept : Allows (InboxRule n m) slots id (p ∷ [], []) 0 (λ w. w) (looks_free (step slots 0 0 0 none) (p ∷ [], []))
  look_free_kept s rule deep at small =
      let q : InboxPart = free_looked (get_or s.words 0 0) p in (
        q ∷ [],
        keeps,
        tt,
        load_kept n m s id p rule at 0 q (stays n m s id p rule at q refl refl (seen_only n m _ _ _ p (agrees n m s id p rule at) q.free q.queue)),
        refl,
      )

  module _ (s : St) (rule : InboxRule n m s) (at : get_elem? s.views id ≡ some (p ∷ [])) where
    -- a step on the word of free slots that balances
    free_turns : (q : InboxPart) (x : ℕ) → q.number ≡ p.number
        → ((i : ℕ) → bit_at x i + times i rule.queue + holds_of i q ≡ bit_at (get_or s.words 0 0) i + times i rule.queue + holds_of i p)
        → Agrees n m (set s.words 0 x) rule.queue rule.took q → Turns n m p q s.words (set s.words 0 x) rule.queue rule.queue rule.took rule.took
    free_turns q x number balanced mine =
        let now : get_or (set s.words 0 x) 0 0 ≡ x = get_or-set_same s.words 0 x 0 (omega (arith, rule.wide)) in record {
          number = number;
          wide = length-set s.words 0 x;
          queued = get_or-set_other s.words 0 1 x 0 (λ e. omega (arith, e)) ∙ rule.queued;
          balanced = λ i. ap (λ y. bit_at y i + times i rule.queue + holds_of i q) now ∙ balanced i;
          known = subst (λ ts. All (λ c. thread_of c < n) (rule.took ++ ts)) (sym (far_tickets s.words 0 x rule.queue (omega arith))) rule.known;
          mine = mine;
          theirs = λ r other two agreed. words_moved n m s.words rule.queue rule.took r agreed (set s.words 0 x) (far_tickets s.words 0 x rule.queue (omega arith))
              (λ i held. far s.words 0 x i (omega arith)) (λ i first. far s.words 0 x i (omega arith));
        }

    -- the part of this seat agrees with the words where the first one changed
    mine_still : (x : ℕ) → Agrees n m (set s.words 0 x) rule.queue rule.took p
    mine_still x = words_moved n m s.words rule.queue rule.took p (agrees n m s id p rule at) (set s.words 0 x) (far_tickets s.words 0 x rule.queue (omega arith))
        (λ i held. far s.words 0 x i (omega arith)) (λ i first. far s.words 0 x i (omega arith))

    claim_turns : (i : ℕ) → i < 64 → get_or s.words 0 0 < 2 ^ 64 → bit_at (get_or s.words 0 0) i ≡ 1
        → Turns n m p (claimed_part i (get_or s.words 0 0) p) s.words (set s.words 0 (bit_and (get_or s.words 0 0) (bit_not w64 (mask i)))) rule.queue rule.queue rule.took rule.took
    claim_turns i within small there =
        let x : ℕ = bit_and (get_or s.words 0 0) (bit_not w64 (mask i)) in
        let q : InboxPart = claimed_part i (get_or s.words 0 0) p in
        free_turns q x refl
        (λ k. dite (ℕ_discrete k i)
        (λ here. subst (λ j. bit_at x j + times j rule.queue + holds_of j q ≡ bit_at (get_or s.words 0 0) j + times j rule.queue + holds_of j p) (sym here)
        (omega (arith, bit_cleared (get_or s.words 0 0) i within, there, times-same i p.held)))
        (λ other. omega (arith, bit_kept (get_or s.words 0 0) i k small within other, times-other k i p.held other)))
        (held_moved n m (set s.words 0 x) rule.queue rule.took p (mine_still x) q.held p.last q.free q.queue
        (λ j c e. (e, λ held. omega (arith, held, times-grows j i p.held))))

    miss_turns : (i : ℕ) → i < 64 → get_or s.words 0 0 < 2 ^ 64 → bit_at (get_or s.words 0 0) i ≡ 0
        → Turns n m p (free_missed (get_or s.words 0 0) p) s.words (set s.words 0 (bit_and (get_or s.words 0 0) (bit_not w64 (mask i)))) rule.queue rule.queue rule.took rule.took
    miss_turns i within small gone =
        let x : ℕ = bit_and (get_or s.words 0 0) (bit_not w64 (mask i)) in
        let q : InboxPart = free_missed (get_or s.words 0 0) p in
        free_turns q x refl
        (λ k. ap (λ y. bit_at y k + times k rule.queue + times k p.held) (cleared_again (get_or s.words 0 0) i small within gone))
        (seen_only n m (set s.words 0 x) rule.queue rule.took p (mine_still x) q.free q.queue)

    free_slot_turns : (i : ℕ) → i < 64 → 0 < holds_of i p
        → Turns n m p (freed_part i (get_or s.words 0 0) p) s.words (set s.words 0 (bit_or (get_or s.words 0 0) (mask i))) rule.queue rule.queue rule.took rule.took
    free_slot_turns i within held =
        let x : ℕ = bit_or (get_or s.words 0 0) (mask i) in
        let q : InboxPart = freed_part i (get_or s.words 0 0) p in
        let alone = held_alone n m s id p rule at i held in
        free_turns q x refl
        (λ k. dite (ℕ_discrete k i)
        (λ here. subst (λ j. bit_at x j + times j rule.queue + holds_of j q ≡ bit_at (get_or s.words 0 0) j + times j rule.queue + holds_of j p) (sym here)
        (omega (arith, bit_at_set_same w64 (get_or s.words 0 0) i within, alone.1, alone.3, times-without i p.held)))
        (λ other. omega (arith, bit_at_set_other w64 (get_or s.words 0 0) i within k other, times-without-other i k p.held other)))
        (held_moved n m (set s.words 0 x) rule.queue rule.took p (mine_still x) q.held q.last q.free q.queue
        (λ j c e. let was = unless_is i p.last j c e in (was.0, λ some_held. omega (arith, some_held, times-without-other i j p.held was.1))))

    -- a slot whose bit is set is a slot of the inbox, and this seat holds fewer than fifteen others
    claim_fits : (i : ℕ) → bit_at (get_or s.words 0 0) i ≡ 1 → (i < p.slots) × (length p.held < 15) × (times i p.held ≡ 0)
    claim_fits i there =
        let inside : i < m = dite (dec_le m i) (λ above. absurd (omega (arith, rule.outside i above, there))) (λ below. omega arith) in
        let parts : (k : ℕ) → times k p.held ≤ of_views (holds_of k) s.views = λ k. omega (arith, within (holds_of k) s.views id (p ∷ []) at) in
        let most : length (i ∷ p.held) ≤ m = fewer m (i ∷ p.held)
        (λ k. dite (ℕ_discrete i k)
        (λ here. subst (λ j. times j (i ∷ p.held) ≤ 1) here (omega (arith, times-here i p.held, at_once n m s id p rule at i, parts i, there)))
        (λ other. omega (arith, times-past k i p.held other, at_once n m s id p rule at k, parts k)))
        (λ k above. omega (arith, times-past k i p.held (λ e. omega (arith, e)), rule.outside k above, parts k)) in
        let same : p.slots ≡ m = (agrees n m s id p rule at).slots in
        (omega arith, omega (arith, rule.small), omega (arith, at_once n m s id p rule at i, parts i, there))

  pub claim_kept : (i k : ℕ) → i < 64 → k ≡ bit_not w64 (mask i) → Allows (InboxRule n m) slots id (p ∷ [], []) 0 (λ w. bit_and w k) (claims (step slots 0 k 0 none) (p ∷ [], []))
  claim_kept i k within is s rule deep at small = dite (ℕ_discrete (bit_at (get_or s.words 0 0) i) 0)
      (λ gone. let q : InboxPart = free_missed (get_or s.words 0 0) p in (
        q ∷ [],
        keeps,
        tt,
        moved q (miss_turns s rule at i within small gone),
        λ j j_in e. let same : j ≡ i = not_mask_same i j within j_in (sym is ∙ e) in
            ((λ one. absurd (omega (arith, ap (bit_at (get_or s.words 0 0)) same))), (λ _. refl)),
      ))
      (λ some_bit. let there : bit_at (get_or s.words 0 0) i ≡ 1 = omega (arith, bit_at-lt (get_or s.words 0 0) i) in
      let q : InboxPart = claimed_part i (get_or s.words 0 0) p in
      let fits = claim_fits s rule at i there in (
        q ∷ [],
        keeps,
        tt,
        moved q (claim_turns s rule at i within small there),
        λ j j_in e. let same : j ≡ i = not_mask_same i j within j_in (sym is ∙ e) in (
          (λ one. (ap (λ x. (claimed_part x (get_or s.words 0 0) p ∷ [], [])) (sym same), omega (arith, fits.0), fits.1, ap (λ x. times x p.held) same ∙ fits.2)),
          (λ none_there. absurd (omega (arith, ap (bit_at (get_or s.words 0 0)) same))),
        ),
      ))
    where
      moved : (q : InboxPart) → Turns n m p q s.words (set s.words 0 (bit_and (get_or s.words 0 0) (bit_not w64 (mask i)))) rule.queue rule.queue rule.took rule.took
          → InboxRule n m (after s id (set s.words 0 (bit_and (get_or s.words 0 0) k)) q)
      moved q t = subst (λ x. InboxRule n m (after s id (set s.words 0 (bit_and (get_or s.words 0 0) x)) q)) (sym is) (step_kept n m s id p rule at q _ rule.queue rule.took t)

  pub free_kept : (i k : ℕ) → i < 64 → k ≡ mask i → 0 < holds_of i p → Allows (InboxRule n m) slots id (p ∷ [], []) 0 (λ w. bit_or w k) (frees (step slots 0 k 0 none) (p ∷ [], []))
  free_kept i k within is held s rule deep at small =
      let q : InboxPart = freed_part i (get_or s.words 0 0) p in (
        q ∷ [],
        keeps,
        tt,
        subst (λ x. InboxRule n m (after s id (set s.words 0 (bit_or (get_or s.words 0 0) x)) q)) (sym is)
            (step_kept n m s id p rule at q _ rule.queue rule.took (free_slot_turns s rule at i within held)),
        λ j j_in e. let same : j ≡ i = mask_same i j within j_in (sym is ∙ e) in
            (ap (λ x. (freed_part x (get_or s.words 0 0) p ∷ [], [])) (sym same), ap (λ x. times x p.held) same ∙ (held_alone n m s id p rule at i held).3),
      )
