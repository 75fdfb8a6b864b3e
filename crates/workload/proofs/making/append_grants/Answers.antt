use Rattle.std.proofs.Common.{◌≡◌, ◌+◌, ◌∙◌}
use Rattle.workload.specs.Generator.{state_after}
use Rattle.workload.specs.MadeInput.{grants_text}
use Rattle.workload.proofs.MadeTexts.{appended_on, grants_text-more, grants_text-none, nothing_yet, state_more, state_none}
use Rattle.workload.proofs.making.append_grants.Goals as goal

pub grants-init : goal.grants-init
grants-init c = record {
  state = state_none c.args.start;
  text = nothing_yet c.args.text.now.items (grants_text c.args.start c.args.here 0) (grants_text-none c.args.start c.args.here);
}

pub grants-preserved : goal.grants-preserved
grants-preserved c =
    let drawn : c.next_state-x.result ≡ state_after c.args.start (c.grants.grant + 1) =
    c.next_state-x.ensures ∙ state_more c.args.start c.grants.x c.grants.grant c.grants.invariant.state in
    record {
      state = drawn;
      text = appended_on c.args.text.now.items c.grants.text.items c.append_filled.new.text.items
          (grants_text c.args.start c.args.here c.grants.grant) _ _
          c.grants.invariant.text
          (rw (c.letters_of-letters.ensures.letters, c.grant_lines.ensures) at c.in_ok-append_filled.ensures)
          (grants_text-more c.args.start c.args.here c.grants.grant c.next_state-x.result drawn);
    }
