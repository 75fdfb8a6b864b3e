-- The configurations of the board are sound.
use Rattle.std.proofs.Common.{◌≡◌, ℕ, true, ◌<◌, ◌≤◌, List, [], ◌∷◌, None, length, refl, arith}
use Rattle.std.specs.Prelude.{map}
use Rattle.std.specs.List.{AllByRecursion}
use Rattle.flat_model.specs.declared.parts.DevicePart.{DevicePart}
use Rattle.flat_model.specs.declared.parts.RpcGate.{RpcGate}
use Rattle.flat_model.specs.declared.parts.ThreadPart.{ThreadPart}
use Rattle.flat_model.specs.Placing.{common_range}
use Rattle.flat_model.specs.Sound.{AreDistinct, IsSound, IsThread, IsWithinLimits, homes_from, named_lines}
use Rattle.flat_model.specs.Want.{is_owned_line}
use Rattle.sample_board.specs.Sample.{Share, board, config, halting, one_box, parts}
use Rattle.sample_board.proofs.BoardLemmas.{IsBoard-board}
use Rattle.sample_board.proofs.BoxLemmas.{IsShare, are_boxes, are_numbered, are_placed, distinct_names, length-parts, no_owner, placed_end-parts}

-- what the shares, threads, gateways and devices have to be
pub record AreFit (shares : List Share) (programs : List ThreadPart) (gates : List RpcGate) (ringing : List DevicePart) : Type 0 where
  pub limits : IsWithinLimits (config (parts shares) programs gates ringing)
  pub boxes : AllByRecursion IsShare shares
  pub homes : map (λ thread. thread.home) programs ≡ homes_from 0 (parts shares)
  pub threads : AllByRecursion IsThread programs
  pub lines_once : AreDistinct (named_lines (config (parts shares) programs gates ringing))
  pub gateways : AllByRecursion (λ gate. gate.target.0 < length (parts shares)) gates
  pub devices : AllByRecursion
      (λ device. AllByRecursion
      (λ line. is_owned_line (config (parts shares) programs gates ringing) line.0 ≡ true) device.rings) ringing

pub IsThread-halting : (home : ℕ) → IsThread (halting home)
IsThread-halting home =
    record { some_step = omega arith; few_steps = omega arith; short = omega arith; valid = (tt, tt) }

pub IsSound-config : (shares : List Share) (threads : List ThreadPart) (gateways : List RpcGate) (devices : List DevicePart) →
    AreFit shares threads gateways devices → IsSound (config (parts shares) threads gateways devices)
IsSound-config shares threads gateways devices fit =
    let few : length shares ≤ 8 = omega (arith, fit.limits.boxes, length-parts 0 0 shares) in
    let ends = placed_end-parts 0x20000000 0 0 shares (omega arith) in
    record {
      limits = fit.limits;
      board = IsBoard-board 0x20000 None (omega arith) (omega arith) refl tt;
      names_once = distinct_names 0 0 shares;
      boxes = are_boxes (common_range (board 0x20000 None) (parts shares)) 0 0 shares (omega (arith, few)) fit.boxes;
      numbered = are_numbered 0 0 shares fit.boxes;
      homes = fit.homes;
      threads = fit.threads;
      placed = are_placed 0x20000000 0 0 shares (omega arith);
      room = omega (arith, ends, few);
      one_owner = omega (arith, no_owner 0 0 shares);
      lines_once = fit.lines_once;
      registers = tt;
      gateways = fit.gateways;
      devices = fit.devices;
      script = tt;
    }

pub IsSound-one_box : IsSound one_box
IsSound-one_box = IsSound-config (record { threads = 1; irqs = [] } ∷ []) (halting 0 ∷ []) [] [] (record {
  limits = grind arith;
  boxes = (record { some_thread = omega arith; lines = tt }, tt);
  homes = refl;
  threads = (IsThread-halting 0, tt);
  lines_once = tt;
  gateways = tt;
  devices = tt;
})
