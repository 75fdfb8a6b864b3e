-- Known bytes that are taken or written in two parts.
use Rattle.std.proofs.Common.{◌≡◌, ℕ, ◌+◌, ◌≤◌, List, [], ◌++◌, length, take, drop, Option, None, Some, refl, sym, ap, ◌∙◌, arith, append_assoc, length-append}
use Rattle.std.proofs.lemmas.List.{append-nil, drop-drop, take-append-drop}
use Rattle.std.specs.Io.KnownBytes.{append_known, prepend_known}
use Rattle.io_edge.specs.Taken.{Takes, TakesAtMost}

-- two parts in front are one
pub prepend_known-append : (xs ys : List ℕ) (rest : Option (List ℕ)) → prepend_known xs (prepend_known ys rest) ≡ prepend_known (xs ++ ys) rest
prepend_known-append xs ys None = refl
prepend_known-append xs ys (Some zs) = ap Some (sym (append_assoc xs ys zs))

-- two parts at the end are one
pub append_known-append : (old : Option (List ℕ)) (xs ys : List ℕ) → append_known (append_known old xs) ys ≡ append_known old (xs ++ ys)
append_known-append None xs ys = refl
append_known-append (Some zs) xs ys = ap Some (append_assoc zs xs ys)

-- no bytes at the end change nothing
pub append_known-nil : (old : Option (List ℕ)) → append_known old [] ≡ old
append_known-nil None = refl
append_known-nil (Some zs) = ap Some (append-nil zs)

-- two reads together took so many bytes
pub takes-more : {before mid : Option (List ℕ)} {n : ℕ} (xs ys : List ℕ) (now : Option (List ℕ)) → before ≡ prepend_known xs mid → mid ≡ prepend_known ys now → length xs + length ys ≡ n → Takes n before now
takes-more xs ys now first second count =
    (xs ++ ys, length-append xs ys ∙ count, first ∙ ap (prepend_known xs) second ∙ prepend_known-append xs ys now)

-- two reads together took at most so many bytes
pub takes_at_most-more : {before mid : Option (List ℕ)} {n : ℕ} (xs ys : List ℕ) (now : Option (List ℕ)) → before ≡ prepend_known xs mid → mid ≡ prepend_known ys now → length xs + length ys ≤ n → TakesAtMost n before now
takes_at_most-more xs ys now first second bound =
    (xs ++ ys, omega (arith, length-append xs ys), first ∙ ap (prepend_known xs) second ∙ prepend_known-append xs ys now)

-- the next n bytes, and then what is left after them
pub taken_front : (bytes : List ℕ) (at n : ℕ) (front : List ℕ) → front ≡ take n (drop at bytes) → drop at bytes ≡ front ++ drop (at + n) bytes
taken_front bytes at n front taken = rw (taken, ← drop-drop n at bytes, take-append-drop) refl
