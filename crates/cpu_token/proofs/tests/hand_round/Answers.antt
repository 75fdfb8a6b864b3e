use denote.Param.Send.{sendable}
use Rattle.cpu_token.proofs.Sent.{pass_sent}
use Rattle.cpu_token.proofs.token.Token.TheSendSync as token
use Rattle.cpu_token.proofs.tests.slate.Slate.TheSendSync as slate
use Rattle.cpu_token.proofs.tests.hand_round.Goals as goal

pub join-requires-send-F : goal.join-requires-send-F
join-requires-send-F g c κs within = search (sendable, pass_sent, token.the_sync, slate.the_send) depth 20

pub join-requires-send-A : goal.join-requires-send-A
join-requires-send-A g c κs within = search (sendable, pass_sent, slate.the_send) depth 20
