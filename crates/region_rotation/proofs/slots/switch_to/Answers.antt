use Rattle.std.proofs.Common.{◌≡◌, List, [], ◌∷◌, length, set, refl, ◌∙◌, ap, arith}
use Rattle.addr_base.specs.declared.pairs.Pair.{Pair}
use Rattle.flat_model.specs.Plan.{REGIONS, flushed_pairs, slots_from}
use Rattle.region_rotation.proofs.slots.switch_to.Goals as goal

-- three regions put into an emptied unit of eight
switched : (pairs : List Pair) (flash own overlay : Pair) → length pairs ≡ 8 → set (set (set (flushed_pairs pairs) 0 flash) 1 own) 7 overlay ≡ slots_from REGIONS flash own overlay
switched [] flash own overlay len = absurd (omega arith)
switched (a ∷ []) flash own overlay len = absurd (omega arith)
switched (a ∷ b ∷ []) flash own overlay len = absurd (omega arith)
switched (a ∷ b ∷ c ∷ []) flash own overlay len = absurd (omega arith)
switched (a ∷ b ∷ c ∷ d ∷ []) flash own overlay len = absurd (omega arith)
switched (a ∷ b ∷ c ∷ d ∷ e ∷ []) flash own overlay len = absurd (omega arith)
switched (a ∷ b ∷ c ∷ d ∷ e ∷ f ∷ []) flash own overlay len = absurd (omega arith)
switched (a ∷ b ∷ c ∷ d ∷ e ∷ f ∷ g ∷ []) flash own overlay len = absurd (omega arith)
switched (a ∷ b ∷ c ∷ d ∷ e ∷ f ∷ g ∷ h ∷ []) flash own overlay len = refl
switched (a ∷ b ∷ c ∷ d ∷ e ∷ f ∷ g ∷ h ∷ i ∷ rest) flash own overlay len = absurd (omega arith)

pub returns : goal.returns
returns c =
    c.load-3.ensures
    ∙ ap (λ ps. set ps 7 c.args.overlay) (c.load-2.ensures ∙ ap (λ ps. set ps 1 c.args.own) (c.load.ensures ∙ ap (λ ps. set ps 0 c.args.flash) c.empty_circle.ensures))
    ∙ switched c.args.unit.now c.args.flash c.args.own c.args.overlay c.requires.regions
