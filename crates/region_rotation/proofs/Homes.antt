-- The regions of the boxes of a sound configuration.
use Rattle.std.proofs.Common.{◌≤◌, Bool, true, false, map, Option, Some, None, refl, arith, inl, inr}
use Rattle.std.specs.Prelude.{IfSome, if◌then◌else◌}
use Rattle.std.specs.List.{AllByRecursion}
use Rattle.std.specs.Option.{option_map_or}
use Rattle.addr_base.specs.declared.ranges.Range.{Range}
use Rattle.addr_base.specs.Rights.{read_execute, read_write}
use Rattle.flat_model.specs.declared.boards.HeapPart.{HeapPart}
use Rattle.flat_model.specs.declared.parts.BoxPart.{BoxPart}
use Rattle.flat_model.specs.declared.parts.Config.{Config}
use Rattle.flat_model.specs.Cover.{NO_ACCESS, cover_of, pair_of}
use Rattle.flat_model.specs.Plan.{no_pair}
use Rattle.flat_model.specs.Sound as sound
use Rattle.flat_model.proofs.Covers.{OfCover, each-cover_of, is_region-hidden, is_region-pair_of_rights}
use Rattle.flat_model.proofs.Elements.{each-flat_map, each-from_get, each-get, each-map, each_weaker}
use Rattle.flat_model.proofs.Placed.{IsGrouped-from, IsPlaced, IsPlaced-from_sound, IsSecretOf, IsTiledGrant, grant_ends}
use Rattle.flat_model.proofs.Powers.{at_least_32}
use Rattle.region_packer.specs.Directory.{IsCoverable}
use Rattle.region_rotation.specs.Ready.{IsHeapBelow, IsHome, IsKnown}
use Rattle.region_rotation.specs.Rotation.{home_pairs}

overlay_known : (flash : Range) (secret : Option Range) (owned : Bool) → IfSome secret (IsSecretOf flash) → IsKnown (if owned then no_pair else option_map_or (λ s. pair_of s NO_ACCESS) secret no_pair)
overlay_known flash None true it = inl refl
overlay_known flash None false it = inl refl
overlay_known flash (Some s) true it = inl refl
overlay_known flash (Some s) false it = inr (is_region-hidden s it.block)

-- the regions of a placed box are valid
pub IsHome-placed : (cfg : Config) (part : BoxPart) → IsPlaced cfg.board part → IsHome (home_pairs cfg part)
IsHome-placed cfg part placed = record {
  flash = inr (is_region-pair_of_rights cfg.board.flash read_execute placed.flash);
  own = inr (is_region-pair_of_rights part.own read_write placed.own);
  overlay = overlay_known cfg.board.flash cfg.board.secret part.secret placed.secret;
  grants = each-flat_map (λ g. cover_of g.range g.rights) IsTiledGrant IsKnown
      (λ g it. each_weaker (OfCover g.range g.rights) IsKnown (λ p of. inr of.valid) (cover_of g.range g.rights) (each-cover_of g.range g.rights it.tiled it.reads))
      part.grants placed.grants;
}

pub each_home : (cfg : Config) → sound.IsSound cfg → AllByRecursion IsHome (map (home_pairs cfg) cfg.boxes)
each_home cfg it =
    each-map (home_pairs cfg) (IsPlaced cfg.board) IsHome (IsHome-placed cfg) cfg.boxes
    (each-from_get (IsPlaced cfg.board) cfg.boxes (λ i part found. IsPlaced-from_sound cfg it i part found))

pub heap_below : (cfg : Config) → sound.IsSound cfg → IfSome cfg.board.heap IsHeapBelow
heap_below cfg it = from_heap cfg.board.heap it.board.heap
  where
    from_heap : (heap : Option HeapPart) → IfSome heap (sound.IsHeap cfg.board.sram) → IfSome heap IsHeapBelow
    from_heap None found = tt
    from_heap (Some h) found = record {
      grouped = IsGrouped-from cfg.board.sram h found;
      few = found.greatest_count;
      ends = omega (arith, found.high, it.board.sram_bank.ends);
    }

-- what a box's regions are made of
pub record IsMakable (cfg : Config) (part : BoxPart) : Type 0 where
  pub own : 32 ≤ part.own.len
  pub grants : AllByRecursion IsCoverable part.grants

pub each_makable : (cfg : Config) → sound.IsSound cfg → AllByRecursion (IsMakable cfg) cfg.boxes
each_makable cfg it =
    each-from_get (IsMakable cfg) cfg.boxes (λ i part found.
    let placed = IsPlaced-from_sound cfg it i part found in
    let box = each-get _ cfg.boxes i part it.boxes found in
    record {
      own = omega (arith, placed.own.is_power, at_least_32 placed.own.exponent placed.own.enough);
      grants = each_weaker _ IsCoverable (λ g grant. record {
        base = grant.tiled.base;
        len = grant.tiled.len;
        ends = grant_ends cfg it i part found g grant;
        rights = grant.rights;
      }) part.grants box.grants;
    })

pub secret_least : (cfg : Config) → sound.IsSound cfg → IfSome cfg.board.secret (λ secret. 32 ≤ secret.len)
secret_least cfg it = from_secret cfg.board.secret it.board.secret
  where
    from_secret : (secret : Option Range) → IfSome secret (λ s. sound.IsPowerRange s × sound.IsInside s cfg.board.flash) → IfSome secret (λ s. 32 ≤ s.len)
    from_secret None found = tt
    from_secret (Some s) found = found.0.enough
