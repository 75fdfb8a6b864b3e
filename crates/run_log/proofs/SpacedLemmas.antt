-- Words that follow others in a line, pushed one by one.
use Rattle.std.proofs.Common.{◌≡◌, ℕ, ◌+◌, ◌<◌, List, [], ◌∷◌, ◌++◌, length, drop, get_or, sym, ap, ◌∙◌, append_assoc}
use Rattle.std.specs.Prelude.{map}
use Rattle.std.specs.List.{join_with_byte}
use Rattle.std.proofs.lemmas.List.{at_drop_more}
use Rattle.std.proofs.lemmas.List.{append-nil}
use Rattle.flat_model.specs.Text.{line_of}
use Rattle.run_log.specs.Spaced.{spaced}

-- words with one space between them are the first, and each other with a space before it
pub join_spaced : (w : List ℕ) (ws : List (List ℕ)) → join_with_byte 32 (w ∷ ws) ≡ w ++ spaced ws
join_spaced w [] = sym (append-nil w)
join_spaced w (v ∷ ws) = ap (λ xs. w ++ (32 ∷ xs)) (join_spaced v ws)

-- a space and a word were pushed
pub word_pushed : (old mid new w rest : List ℕ) → mid ≡ old ++ 32 ∷ [] → new ≡ mid ++ w → new ++ rest ≡ old ++ (32 ∷ (w ++ rest))
word_pushed old mid new w rest space word = rw (word, space) (simp append_assoc)

-- one more number was pushed
pub spaced_more : (f : ℕ → List ℕ) (old mid new whole : List ℕ) (ns : List ℕ) (i d : ℕ) → i < length ns
    → mid ≡ old ++ 32 ∷ [] → new ≡ mid ++ f (get_or ns i d) → old ++ spaced (map f (drop i ns)) ≡ whole
    → new ++ spaced (map f (drop (i + 1) ns)) ≡ whole
spaced_more f old mid new whole ns i d lt space word before =
    word_pushed old mid new (f (get_or ns i d)) (spaced (map f (drop (i + 1) ns))) space word
    ∙ sym (at_drop_more (λ xs. old ++ spaced (map f xs)) ns i d lt) ∙ before

-- a first word with a space, a word and others were pushed
pub two_pushed : (old a b new first w : List ℕ) (ws : List (List ℕ)) → a ≡ old ++ (first ++ 32 ∷ []) → b ≡ a ++ w → new ≡ b ++ spaced ws
    → new ++ 10 ∷ [] ≡ old ++ line_of (first ∷ w ∷ ws)
two_pushed old a b new first w ws is_a is_b is_new = rw (is_new, is_b, is_a, join_spaced w ws) (simp append_assoc)

-- a first word with a space, two words and others were pushed
pub three_pushed : (old a b d e new first w v : List ℕ) (ws : List (List ℕ)) → a ≡ old ++ (first ++ 32 ∷ []) → b ≡ a ++ w → d ≡ b ++ 32 ∷ []
    → e ≡ d ++ v → new ≡ e ++ spaced ws → new ++ 10 ∷ [] ≡ old ++ line_of (first ∷ w ∷ v ∷ ws)
three_pushed old a b d e new first w v ws is_a is_b is_d is_e is_new =
    rw (is_new, is_e, is_d, is_b, is_a, join_spaced v ws) (simp append_assoc)

-- a first word with a space, three words and others were pushed
pub four_pushed : (old a b d e f g new first w v u : List ℕ) (ws : List (List ℕ)) → a ≡ old ++ (first ++ 32 ∷ []) → b ≡ a ++ w → d ≡ b ++ 32 ∷ []
    → e ≡ d ++ v → f ≡ e ++ 32 ∷ [] → g ≡ f ++ u → new ≡ g ++ spaced ws → new ++ 10 ∷ [] ≡ old ++ line_of (first ∷ w ∷ v ∷ u ∷ ws)
four_pushed old a b d e f g new first w v u ws is_a is_b is_d is_e is_f is_g is_new =
    rw (is_new, is_g, is_f, is_e, is_d, is_b, is_a, join_spaced u ws) (simp append_assoc)
