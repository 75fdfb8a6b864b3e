use Rattle.std.proofs.Common.{◌≡◌, ℕ, suc, ◌+◌, ◌*◌, ◌%◌, ◌^◌, ◌<◌, ◌≤◌, Bool, true, false, List, length, get_or, Option, None, sym, ◌∙◌, ap, arith}
use Rattle.std.specs.Prelude.{if◌then◌else◌, unwrap_or}
use Rattle.std.proofs.lemmas.Nat.{one_shl}
use Rattle.std.proofs.lemmas.Option.{slice_get-get_or}
use Rattle.std.proofs.Math.Nat.{pow-le-pow_right, pow-suc}
use Rattle.std.proofs.Math.Numerals.{add-one}
use Rattle.addr_base.specs.declared.identity.BoxId.{BoxId}
use Rattle.flat_model.specs.Access.{owned_by, owns}
use Rattle.flat_model.specs.Plan.{owned_mask}
use Rattle.flat_model.proofs.PagePairs.{owned_mask_below}
use Rattle.region_rotation.proofs.pages.mask_of.Goals as goal
use Rattle.region_rotation.proofs.pages.mask_of.Goals.{then-is_owner, else-is_owner}

-- the next bit fits in eight
mask_fits : (m i : ℕ) → m < 2 ^ i → i < 8 → m + (1 * 2 ^ i) % 256 < 256
mask_fits m i below small =
    let bit : (1 * 2 ^ i) % 2 ^ 8 ≡ 2 ^ i = one_shl i 8 small in
    let top : 2 ^ suc i ≤ 2 ^ 8 = pow-le-pow_right (omega arith) {i = suc i} {j = 8} small in
    omega (arith, bit, top, pow-suc 2 i)

owns-get_or : (owners : List (Option BoxId)) (b f : ℕ) (d : Option BoxId) → f < length owners → owns owners b f ≡ owned_by b (get_or owners f d)
owns-get_or owners b f d below =
    ap (λ o. owned_by b (unwrap_or o None)) (slice_get-get_or owners f d below)

more : (owners : List (Option BoxId)) (b first i m : ℕ) (t : Bool) → owns owners b (first + i) ≡ t → m ≡ owned_mask owners b first i + (if t then 2 ^ i else 0) → m ≡ owned_mask owners b first (i + 1)
more owners b first i m t is sum =
    sum ∙ ap (λ u. owned_mask owners b first i + (if u then 2 ^ i else 0)) (sym is) ∙ ap (owned_mask owners b first) (sym (add-one i))

pub overflow_add-mask : goal.overflow_add-mask
overflow_add-mask c =
    omega (
      arith,
      mask_fits c.loop-i.mask c.loop-i.i
          (rw c.loop-i.invariant (owned_mask_below c.args.owners.now c.args.b.0 c.args.first c.loop-i.i)) c.loop-i-test.true,
    )

pub loop-i-preserved : goal.loop-i-preserved
loop-i-preserved c =
    let owns_it : owns c.args.owners.now c.args.b.0 (c.args.first + c.loop-i.i) ≡ c.is_owner.result =
    owns-get_or c.args.owners.now c.args.b.0 (c.args.first + c.loop-i.i) None (omega (arith, c.requires)) ∙ sym c.is_owner.ensures in
    let bit : (1 * 2 ^ c.loop-i.i) % 2 ^ 8 ≡ 2 ^ c.loop-i.i = one_shl c.loop-i.i 8 c.loop-i-test.true in
    elim c.if-is_owner.branch [
      | then-is_owner w ↦ more c.args.owners.now c.args.b.0 c.args.first c.loop-i.i c.if-is_owner.mask true (owns_it ∙ w.if-is_owner.true) (omega (arith, w.mask-is, bit, c.loop-i.invariant))
      | else-is_owner w ↦ more c.args.owners.now c.args.b.0 c.args.first c.loop-i.i c.if-is_owner.mask false (owns_it ∙ w.if-is_owner.false) (omega (arith, w.mask-is, c.loop-i.invariant))
    ]
