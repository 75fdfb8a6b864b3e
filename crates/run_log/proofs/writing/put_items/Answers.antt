use Rattle.std.proofs.Common.{rules}
use Rattle.std.specs.List.{flat_map}
use Rattle.std.proofs.lemmas.List.{at_drop_more}
use Rattle.flat_model.specs.Log.{is_named_item}
use Rattle.flat_model.specs.Text.{item_line}
use Rattle.io_edge.proofs.Written.{wrote-part}
use Rattle.run_log.specs.Typed.{IsTypedItem}
use Rattle.run_log.proofs.Printing.{all_at, count_kept, count_rose, each_more, printed_failed, wrote-line}
use Rattle.run_log.proofs.writing.put_items.Goals as goal

pub items-preserved : goal.items-preserved
items-preserved g c = record {
  so_far = wrote-line c.items.page c.make_room.new.self c.push_item.new.page _ _ _
      (at_drop_more (flat_map (item_line c.args.config.now)) c.args.items.now c.items.item-index _ c.items-test.true)
      c.items.invariant.so_far c.in_ok-make_room.ensures.ok c.push_item.ensures.text;
  typed = each_more IsTypedItem c.args.items.now c.items.item-index _ c.items-test.true c.items.invariant.typed
      (c.push_item.ensures.typed (all_at (is_named_item c.args.config.now) c.args.items.now c.items.item-index _ c.requires.named c.items-test.true));
  counted = count_kept c.items.invariant.counted c.in_ok-make_room.ensures.faults;
}

pub returns-in_err-make_room-clause-printed : goal.returns-in_err-make_room-clause-printed
returns-in_err-make_room-clause-printed g c =
    printed_failed c.from_residual.result (search rules)
    (wrote-part c.items.page _ c.items.invariant.so_far c.in_err-make_room.ensures.err)
    (count_rose c.items.invariant.counted c.in_err-make_room.ensures.faults)
