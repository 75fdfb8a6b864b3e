use Rattle.std.specs.Prelude.{codes}
use Rattle.flat_model.specs.Text.{reply_words}
use Rattle.run_log.proofs.SpacedLemmas.{two_pushed, three_pushed}
use Rattle.run_log.proofs.WordsOfItems.{ring_typed}
use Rattle.run_log.proofs.items.push_entry.Goals as goal

pub returns-in-Turn-clause-text : goal.returns-in-Turn-clause-text
returns-in-Turn-clause-text c =
    rw c.in-Turn.is (two_pushed _ _ _ _ (codes "turn") _ (reply_words c.args.entry.now.reply) c.push_word.ensures.text c.push_thread.ensures.text c.push_reply.ensures.text)

pub returns-in-Idle-clause-text : goal.returns-in-Idle-clause-text
returns-in-Idle-clause-text c =
    rw c.in-Idle.is (two_pushed _ _ _ _ (codes "idle") _ (reply_words c.args.entry.now.reply) c.push_word-in-Idle.ensures.text c.push_thread-in-Idle.ensures.text c.push_any_reply-in-Idle.ensures.text)

pub returns-in-Start-clause-text : goal.returns-in-Start-clause-text
returns-in-Start-clause-text c =
    rw c.in-Start.is (three_pushed _ _ _ _ _ _ (codes "start") _ _ (reply_words c.args.entry.now.reply) c.push_word-in-Start.ensures.text
    c.push_thread-in-Start.ensures.text c.push_byte.ensures.text c.push_ticket.ensures.text c.push_any_reply.ensures.text)

pub returns-in-Ring-clause-reply : goal.returns-in-Ring-clause-reply
returns-in-Ring-clause-reply c = ring_typed c.args.config.now c.in-Ring.line c.in-Ring.by c.args.entry.now.choice c.args.entry.now.reply c.in-Ring.is
