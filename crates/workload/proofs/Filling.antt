-- How a template is filled, byte by byte.
use Rattle.std.proofs.Common.{◌≡◌, ℕ, ◌+◌, ◌<◌, ◌≤◌, List, [], ◌++◌, length, drop, get_or, sym, ◌∙◌, append_assoc}
use Rattle.std.specs.List.{flat_map}
use Rattle.std.proofs.lemmas.List.{append-nil, at_drop_more, drop_all}
use Rattle.workload.specs.declared.templates.Letters.{Letters}
use Rattle.workload.specs.Templates.{byte_text, filled}

filled_next : (letters : Letters) (template : List ℕ) (i : ℕ) → i < length template
    → filled letters (drop i template) ≡ byte_text letters (get_or template i 0) ++ filled letters (drop (i + 1) template)
unfolding filled
filled_next letters template i below = at_drop_more (flat_map (byte_text letters)) template i 0 below

-- one more byte of the template was filled
pub filled_more : (letters : Letters) (template old new whole : List ℕ) (i : ℕ) → i < length template
    → new ≡ old ++ byte_text letters (get_or template i 0) → old ++ filled letters (drop i template) ≡ whole
    → new ++ filled letters (drop (i + 1) template) ≡ whole
filled_more letters template old new whole i below is_new before =
    rw (is_new, append_assoc old (byte_text letters (get_or template i 0)) (filled letters (drop (i + 1) template)), ← filled_next letters template i below) before

-- nothing of the template is left
pub filled_whole : (letters : Letters) (template text whole : List ℕ) (i : ℕ) → length template ≤ i
    → text ++ filled letters (drop i template) ≡ whole → text ≡ whole
unfolding filled
filled_whole letters template text whole i over is =
    let none : drop i template ≡ [] = drop_all i template over in
    sym (append-nil text) ∙ (rw none at is)
