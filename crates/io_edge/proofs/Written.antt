-- How a printer goes through a text, piece by piece.
use Rattle.std.proofs.Common.{◌≡◌, ℕ, List, [], ◌++◌, take, drop, Option, refl, sym, ap, ◌∙◌, arith, append_assoc, length-append}
use Rattle.std.proofs.lemmas.List.{append-nil, take-append-drop}
use Rattle.std.specs.Io.KnownBytes.{append_known}
use Rattle.io_edge.specs.Written.{Wrote, WrotePart}
use Rattle.io_edge.proofs.Joins.{append_known-append, append_known-nil}

-- before the first piece all of the text is left
pub wrote-none : (old : Option (List ℕ)) (text : List ℕ) → Wrote old old text text
wrote-none old text = record { shown = []; whole = refl; written = sym (append_known-nil old) }

-- a piece that was written is no longer left
pub wrote-more : {old mid now : Option (List ℕ)} {text : List ℕ} (piece rest : List ℕ) → Wrote old mid text (piece ++ rest) → now ≡ append_known mid piece → Wrote old now text rest
wrote-more {old} piece rest so_far next = record {
  shown = so_far.shown ++ piece;
  whole = append_assoc so_far.shown piece rest ∙ so_far.whole;
  written = next ∙ ap (λ w. append_known w piece) so_far.written ∙ append_known-append old so_far.shown piece;
}

-- the first n bytes of what was left are no longer left
pub wrote-front : {old mid now : Option (List ℕ)} {text : List ℕ} (n : ℕ) (rest : List ℕ) → Wrote old mid text rest → now ≡ append_known mid (take n rest) → Wrote old now text (drop n rest)
wrote-front {old} {mid} {now} {text} n rest so_far next = wrote-more (take n rest) (drop n rest) (rw take-append-drop so_far) next

-- a piece that was written in part leaves the text written in part
pub wrote-part : {old mid now : Option (List ℕ)} {text : List ℕ} (piece rest : List ℕ) → Wrote old mid text (piece ++ rest) → WrotePart mid now piece → WrotePart old now text
wrote-part {old} {now = now} {text = text} piece rest so_far part =
    let shown : List ℕ = part.so_far.shown in
    let whole : (shown ++ part.rest) ++ rest ≡ piece ++ rest = ap (λ xs. xs ++ rest) part.so_far.whole in
    record {
      rest = part.rest ++ rest;
      unwritten = omega (arith, length-append part.rest rest, part.unwritten);
      so_far = wrote-more shown (part.rest ++ rest) (rw (← append_assoc shown part.rest rest, whole) so_far) part.so_far.written;
    }

-- where nothing is left, all of the text was written
pub wrote-all : {old now : Option (List ℕ)} {text : List ℕ} → Wrote old now text [] → now ≡ append_known old text
wrote-all {old} so_far = so_far.written ∙ ap (append_known old) (sym (append-nil so_far.shown) ∙ so_far.whole)

-- a text is written in part where its first part is
pub wrote_part-first : (old now : Option (List ℕ)) (first second : List ℕ) → WrotePart old now first → WrotePart old now (first ++ second)
wrote_part-first old now first second part = wrote-part first second (wrote-none old (first ++ second)) part

-- a text is written in part where its first part is written and its second in part
pub wrote_part-second : (old mid now : Option (List ℕ)) (first second : List ℕ) → mid ≡ append_known old first → WrotePart mid now second → WrotePart old now (first ++ second)
wrote_part-second old mid now first second before part =
    let so_far : Wrote old mid (first ++ second) (second ++ []) = rw append-nil (wrote-more first second (wrote-none old (first ++ second)) before) in
    wrote-part second [] so_far part
