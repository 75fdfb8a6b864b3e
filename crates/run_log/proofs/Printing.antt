-- How a printer goes through a text by way of a page.
use Rattle.std.proofs.Common.{◌≡◌, ℕ, zero, suc, ◌+◌, ◌<◌, Bool, true, false, arith, List, [], ◌∷◌, ◌++◌, length, take, get_or, Option, Result, Ok, Err, refl, sym, ap, ◌∙◌, append_assoc}
use Rattle.std.proofs.lemmas.List.{append-nil, take_more}
use Rattle.std.specs.List.{AllByRecursion, list_all}
use Rattle.flat_model.proofs.NamedChoices.{both_true}
use Rattle.flat_model.proofs.Elements.{each-append}
use Rattle.std.specs.Prelude.{IsErr, OnErr, ⊤}
use Rattle.std.proofs.lemmas.Bool.{false≢true}
use Rattle.io_edge.specs.declared.whole.WriteErr.{WriteErr}
use Rattle.io_edge.specs.Counts.{IsCounted, next_count}
use Rattle.io_edge.specs.Written.{Wrote, WrotePart}
use Rattle.io_edge.proofs.Written.{wrote-more, wrote-part}
use Rattle.run_log.specs.Printed.{IsPrinted}

-- more text is left
pub wrote-longer : {old now : Option (List ℕ)} (text more rest : List ℕ) → Wrote old now text rest → Wrote old now (text ++ more) (rest ++ more)
wrote-longer text more rest so_far = record {
  shown = so_far.shown;
  whole = sym (append_assoc so_far.shown rest more) ∙ ap (λ xs. xs ++ more) so_far.whole;
  written = so_far.written;
}

-- some of the page was written
pub wrote-page : {old mid now : Option (List ℕ)} {text : List ℕ} (before after rest : List ℕ) → Wrote old mid text (before ++ rest) → Wrote mid now before after → Wrote old now text (after ++ rest)
wrote-page {old} {mid} {now} {text} before after rest so_far page =
    let shown : List ℕ = page.shown in
    let whole : (shown ++ after) ++ rest ≡ before ++ rest = ap (λ xs. xs ++ rest) page.whole in
    wrote-more shown (after ++ rest) (rw (← append_assoc shown after rest, whole) so_far) page.written

-- what was printed is on the page, and no longer left
pub wrote-printed : {old now : Option (List ℕ)} {text : List ℕ} (page line rest after : List ℕ) → after ≡ page ++ line → Wrote old now text (page ++ (line ++ rest)) → Wrote old now text (after ++ rest)
wrote-printed page line rest after printed so_far = rw (printed, append_assoc page line rest) so_far

-- room was made, and then a line was printed
pub wrote-line : {old mid now : Option (List ℕ)} {text : List ℕ} (page roomy after line left rest : List ℕ) → left ≡ line ++ rest → Wrote old mid text (page ++ left)
    → Wrote mid now page roomy → after ≡ roomy ++ line → Wrote old now text (after ++ rest)
wrote-line page roomy after line left rest is_left so_far room printed =
    wrote-printed roomy line rest after printed (wrote-page page roomy (line ++ rest) (rw (← is_left) so_far) room)

-- a fact holds where there is an error
pub on_err : {T E P : Type 0} (r : Result T E) → P → OnErr r P
on_err (Ok x) p = tt
on_err (Err e) p = p

-- where nothing failed, the count is as before
pub count_kept : {before mid after : ℕ} → mid ≡ before → IsCounted (false ≡ true) mid after → after ≡ before
count_kept same counted = counted.kept (λ failed. absurd (false≢true failed)) ∙ same

-- where the last part failed, the count is one higher
pub count_rose : {before mid after : ℕ} → mid ≡ before → IsCounted (true ≡ true) mid after → after ≡ next_count before
count_rose same counted = counted.rose refl ∙ ap next_count same

-- a printer failed
pub printed_failed : {old now : Option (List ℕ)} {before after : ℕ} {text page : List ℕ} (r : Result ⊤ WriteErr) → IsErr r → WrotePart old now text → after ≡ next_count before → IsPrinted old now before after text page r
printed_failed (Ok x) failed part rose = absurd (false≢true failed)
printed_failed (Err e) failed part rose = record {
  ok = tt;
  err = part;
  faults = record { rose = λ _. rose; kept = λ none. absurd (none refl) };
}

-- a second text was printed in part, after the first
pub wrote-second : {old mid now : Option (List ℕ)} (first second page : List ℕ) → Wrote old mid first page → WrotePart mid now (page ++ second) → WrotePart old now (first ++ second)
wrote-second first second page printed part =
    wrote-part (page ++ second) [] (rw append-nil (wrote-longer first second page printed)) part

-- both texts were printed
pub wrote-both : {old mid now : Option (List ℕ)} (first second page after : List ℕ) → Wrote old mid first page → Wrote mid now (page ++ second) after → Wrote old now (first ++ second) after
wrote-both {old} {mid} {now} first second page after one two =
    let start : Wrote old mid (first ++ second) ((page ++ second) ++ []) = rw append-nil (wrote-longer first second page one) in
    let whole : Wrote old now (first ++ second) (after ++ []) = wrote-page (page ++ second) after [] start two in
    rw append-nil at whole

-- what holds of the first elements, and of one more
pub each_more : {X : Type 0} (P : X → Type 0) (xs : List X) (i : ℕ) (d : X) → i < length xs → AllByRecursion P (take i xs) → P (get_or xs i d) → AllByRecursion P (take (i + 1) xs)
each_more P xs i d below before here = rw (take_more xs i d below) (each-append P (take i xs) (get_or xs i d ∷ []) before (here, tt))

-- what holds of each element holds at a place
pub all_at : {X : Type 0} (p : X → Bool) (xs : List X) (i : ℕ) (d : X) → list_all p xs ≡ true → i < length xs → p (get_or xs i d) ≡ true
all_at p [] i d all below = absurd (omega arith)
all_at p (x ∷ xs) zero d all below = (both_true (p x) (list_all p xs) all).0
all_at p (x ∷ xs) (suc i) d all below = all_at p xs i d (both_true (p x) (list_all p xs) all).1 (omega arith)
