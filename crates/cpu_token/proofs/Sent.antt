-- A pass and a hold may go to another thread where the value may.
use denote.RattleType.{RattleType}
use denote.Param.Send.{IsSend, sendable}
use Rattle.std.proofs.Common.{rules}
use Rattle.cpu_token.specs.declared.stepped.Stepped.{Ghosts}
use Rattle.cpu_token.specs.contracts.pass.Pass as pass
use Rattle.cpu_token.specs.contracts.pass.Hold as hold

module _ (V E F : RattleType) (stepped : Ghosts V.Denot E.Denot F.Denot) where
  pub pass_sent : IsSend V → IsSend (pass.the_row V E F stepped)
  unfolding types.Keyed.entry denote.Memory.part_of
  pass_sent v = search (sendable, rules)

  pub hold_sent : IsSend V → IsSend (hold.the_row V E F stepped)
  unfolding types.Keyed.entry denote.Memory.part_of
  hold_sent v = search (sendable, rules)
