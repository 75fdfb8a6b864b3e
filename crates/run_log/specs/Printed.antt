-- What a printer leaves, which prints by way of a page.
use Rattle.std.specs.Prelude.{ℕ, ⊤, List, Option, Result, IsErr, OnErr, OnOk}
use Rattle.io_edge.specs.declared.whole.WriteErr.{WriteErr}
use Rattle.io_edge.specs.Counts.{IsCounted}
use Rattle.io_edge.specs.Written.{Wrote, WrotePart}

-- A text was printed: a front of it is written and the rest stands on the page, or a write failed, and was counted once.
pub record IsPrinted (old now : Option (List ℕ)) (before after : ℕ) (text page : List ℕ) (result : Result ⊤ WriteErr) : Type 0 where
  pub ok : OnOk result (Wrote old now text page)
  pub err : OnErr result (WrotePart old now text)
  pub faults : IsCounted (IsErr result) before after
