-- What the one part of a seat is after a step.
use Rattle.std.proofs.Common.{◌≡◌, [], ◌∷◌, map, ap, sym, ◌∙◌}
use Rattle.atomic_pool.specs.InboxParts.{only_part}
use Rattle.atomic_pool.specs.InboxPlays.{Sat, Becomes}
use Rattle.atomic_pool.specs.declared.inbox.InboxPart.{InboxPart}

-- the one part of a seat after a step
pub reached : (f : InboxPart → InboxPart) (p : InboxPart) (m m' : Sat) → m ≡ (p ∷ [], []) → Becomes f m m' → m' ≡ (f p ∷ [], [])
reached f p m m' is e = e ∙ ap (λ (x : Sat). (map f x.0, x.1)) is

pub part_is : (p : InboxPart) (m : Sat) → m ≡ (p ∷ [], []) → only_part m.0 ≡ p
part_is p m is = ap (λ (x : Sat). only_part x.0) is

pub alone : (p : InboxPart) (m : Sat) → m ≡ (p ∷ [], []) → m ≡ (only_part m.0 ∷ [], [])
alone p m is = is ∙ ap (λ (q : InboxPart). (q ∷ [], [])) (sym (part_is p m is))
