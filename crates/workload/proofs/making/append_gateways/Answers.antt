use Rattle.workload.specs.MadeInput.{gateways_text}
use Rattle.workload.proofs.MadeTexts.{appended_on, gateways_text-more, gateways_text-none, nothing_yet}
use Rattle.workload.proofs.making.append_gateways.Goals as goal

pub gateways-init : goal.gateways-init
gateways-init c = nothing_yet c.args.text.now.items (gateways_text 0) gateways_text-none

pub gateways-preserved : goal.gateways-preserved
gateways-preserved c =
    appended_on c.args.text.now.items c.gateways.text.items c.append_filled.new.text.items (gateways_text c.gateways.here) _ _
    c.gateways.invariant
    (rw (c.box_letters-letters.ensures.letters, c.gateway_lines.ensures) at c.in_ok-append_filled.ensures)
    (gateways_text-more c.gateways.here)
