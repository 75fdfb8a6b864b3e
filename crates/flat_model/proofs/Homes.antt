-- The boxes of threads.
use Rattle.std.proofs.Common.{◌≡◌, ℕ, zero, suc, List, [], ◌∷◌, refl, get_or, map}
use Rattle.std.specs.List.{slice_get}
use Rattle.std.specs.Option.{option_map_or}
use Rattle.addr_base.specs.declared.identity.BoxId.{BoxId}
use Rattle.flat_model.specs.declared.parts.ThreadPart.{ThreadPart}

-- the box of the thread with this number, in the list of all boxes
pub home-at : (threads : List ThreadPart) (t : ℕ) (d : BoxId) →
    get_or (map (λ (p : ThreadPart). p.home) threads) t d ≡ option_map_or (λ (p : ThreadPart). p.home) (slice_get threads t) d
home-at [] t d = refl
home-at (p ∷ threads) zero d = refl
home-at (p ∷ threads) (suc t) d = home-at threads t d
