use Rattle.std.proofs.Common.{Some, sym, ap, ◌∙◌, rules}
use Rattle.std.proofs.lemmas.List.{take_rest}
use Rattle.io_edge.proofs.Joins.{taken_front}
use Rattle.io_edge.proofs.sources.SureSourceSource.read.Goals as goal

pub returns-clause-bytes : goal.returns-clause-bytes
returns-clause-bytes c =
    ap Some (sym c.self.view_is ∙ taken_front c.self.inside.bytes.items c.self.inside.at c.copy_front-count.result _ (search (rules, take_rest)))
