-- The verdict by the region that decides.
use Rattle.std.proofs.Common.{◌≡◌, ℕ, ◌<◌, true, false, List, length, Some, None, ◌∙◌, ap}
use Rattle.std.specs.Prelude.{if◌then◌else◌}
use Rattle.std.specs.List.{slice_get}
use Rattle.std.specs.Option.{option_map_or}
use Rattle.std.proofs.lemmas.Option.{slice_get_within}
use Rattle.addr_base.specs.declared.pairs.Pair.{Pair}
use Rattle.addr_base.specs.declared.pairs.Verdict.TheVariants.{Granted, Denied}
use Rattle.addr_base.specs.declared.rights.Kind.{Kind}
use Rattle.flat_model.specs.Greatest.{IsGreatest}
use Rattle.flat_model.specs.Decision.{decision, matches, matches_at, pair_gives, verdict_of}
use Rattle.flat_model.proofs.Greatness.{greatest-is}
use Rattle.flat_model.proofs.Turning.{matches_at-some}

-- where no region matches, the access is denied
pub decision-none : (pairs : List Pair) (a : ℕ) (kind : Kind) → ((j : ℕ) → j < length pairs → matches_at pairs a j ≡ false) → decision pairs a kind ≡ Denied
decision-none pairs a kind none = ap (verdict_of pairs kind) (greatest-is (matches_at pairs a) (length pairs) None none)

-- a matching region that no greater one outranks decides by its kinds
pub decision-at : (pairs : List Pair) (a : ℕ) (kind : Kind) (s : ℕ) (p : Pair) → slice_get pairs s ≡ Some p → matches p a ≡ true → ((j : ℕ) → s < j → j < length pairs → matches_at pairs a j ≡ false) → decision pairs a kind ≡ (if pair_gives p kind then Granted s else Denied)
decision-at pairs a kind s p found hit above =
    let it : IsGreatest (matches_at pairs a) (length pairs) s =
    record { below = slice_get_within pairs s p found; here = matches_at-some pairs a s p found ∙ hit; above = above } in
    ap (verdict_of pairs kind) (greatest-is (matches_at pairs a) (length pairs) (Some s) it)
    ∙ ap (λ o. if option_map_or (λ q. pair_gives q kind) o false then Granted s else Denied) found
