-- Two named logs with the same text are one, and where the reading of a text stops no text goes on.
use Rattle.std.proofs.Common.{◌≡◌, ◌≢◌, ℕ, suc, ◌+◌, ◌^◌, ◌<◌, ◌≤◌, true, List, [], ◌∷◌, ◌++◌, length, refl, ap, sym, ◌∙◌, arith, append_assoc, length-append}
use Rattle.std.specs.List.{AllByRecursion, flat_map, list_all}
use Rattle.std.proofs.lemmas.List.{append-nil}
use Rattle.flat_model.proofs.NamedChoices.{both_true}
use Rattle.flat_model.specs.declared.events.Logged.{Logged}
use Rattle.flat_model.specs.declared.logs.End.{End}
use Rattle.flat_model.specs.declared.logs.Log.{Log}
use Rattle.flat_model.specs.declared.parts.Config.{Config}
use Rattle.flat_model.specs.Log.{IsNamed, is_named_item}
use Rattle.flat_model.specs.Sound.{IsSound}
use Rattle.flat_model.specs.Text.{end_line, end_lines, item_line, text_of}
use Rattle.run_log.specs.Reading.{IsLogOf}
use Rattle.run_log.specs.Stops.{HasNoEnd, HasNoItem}
use Rattle.run_log.specs.Typed.{IsTyped, IsTypedEnd, IsTypedItem}
use Rattle.run_log.proofs.LineLemmas.{end_not_nil, end_unique, item_not_end, item_not_nil, item_unique}

-- a text of ends begins with no item's line
pub no_item_in_ends : (cfg : Config) (t : ℕ) (ends : List End) (rest : List ℕ) → IsSound cfg → t < 2 ^ 64 → AllByRecursion IsTypedEnd ends → HasNoItem cfg rest
    → HasNoItem cfg (end_lines cfg t ends ++ rest)
no_item_in_ends cfg t [] rest sound small typed none = none
no_item_in_ends cfg t (end ∷ ends) rest sound small typed none = record {
  none = λ i after at.
      item_not_end cfg i t end after (end_lines cfg (t + 1) ends ++ rest) sound at.named at.typed small typed.0
      (sym at.whole ∙ append_assoc (end_line cfg t end) (end_lines cfg (t + 1) ends) rest);
}

no_item_in_nil : (cfg : Config) → HasNoItem cfg []
no_item_in_nil cfg = record { none = λ i after at. item_not_nil cfg i after (sym at.whole) }

-- the items of a text are those of its log
strip_items : (cfg : Config) (is ms : List Logged) (rest : List ℕ) (ends : List End) → IsSound cfg → list_all (is_named_item cfg) is ≡ true → AllByRecursion IsTypedItem is
    → list_all (is_named_item cfg) ms ≡ true → AllByRecursion IsTypedItem ms → AllByRecursion IsTypedEnd ends → HasNoItem cfg rest
    → flat_map (item_line cfg) is ++ rest ≡ flat_map (item_line cfg) ms ++ end_lines cfg 0 ends → (is ≡ ms) × (rest ≡ end_lines cfg 0 ends)
strip_items cfg [] [] rest ends sound n t n' t' te none e = (refl, e)
strip_items cfg [] (m ∷ ms) rest ends sound n t n' t' te none e =
    let named = both_true (is_named_item cfg m) (list_all (is_named_item cfg) ms) n' in
    absurd (none.none m (flat_map (item_line cfg) ms ++ end_lines cfg 0 ends)
    (record { named = named.0; typed = t'.0; whole = e ∙ append_assoc (item_line cfg m) (flat_map (item_line cfg) ms) (end_lines cfg 0 ends) }))
strip_items cfg (i ∷ is) [] rest [] sound n t n' t' te none e =
    absurd (item_not_nil cfg i (flat_map (item_line cfg) is ++ rest) (sym (append_assoc (item_line cfg i) (flat_map (item_line cfg) is) rest) ∙ e))
strip_items cfg (i ∷ is) [] rest (end ∷ ends) sound n t n' t' te none e =
    let named = both_true (is_named_item cfg i) (list_all (is_named_item cfg) is) n in
    absurd (item_not_end cfg i 0 end (flat_map (item_line cfg) is ++ rest) (end_lines cfg (0 + 1) ends) sound named.0 t.0 (omega arith) te.0
    (sym (append_assoc (item_line cfg i) (flat_map (item_line cfg) is) rest) ∙ e))
strip_items cfg (i ∷ is) (m ∷ ms) rest ends sound n t n' t' te none e =
    let named = both_true (is_named_item cfg i) (list_all (is_named_item cfg) is) n in
    let named' = both_true (is_named_item cfg m) (list_all (is_named_item cfg) ms) n' in
    let front : item_line cfg i ++ (flat_map (item_line cfg) is ++ rest) ≡ item_line cfg m ++ (flat_map (item_line cfg) ms ++ end_lines cfg 0 ends) =
    sym (append_assoc (item_line cfg i) (flat_map (item_line cfg) is) rest) ∙ e ∙ append_assoc (item_line cfg m) (flat_map (item_line cfg) ms) (end_lines cfg 0 ends) in
    let one = item_unique cfg i m (flat_map (item_line cfg) is ++ rest) (flat_map (item_line cfg) ms ++ end_lines cfg 0 ends) sound named.0 t.0 named'.0 t'.0 front in
    let more = strip_items cfg is ms rest ends sound named.1 t.1 named'.1 t'.1 te none one.1 in
    (ap (λ x. x ∷ is) one.0 ∙ ap (λ xs. m ∷ xs) more.0, more.1)

-- the ends of a text are the first of its log
record StripsEnds (cfg : Config) (t : ℕ) (ends all : List End) (rest : List ℕ) : Type 0 where
  pub later : List End
  pub whole : all ≡ ends ++ later
  pub left : rest ≡ end_lines cfg (t + length ends) later

strip_ends : (cfg : Config) (t : ℕ) (es fs : List End) (rest : List ℕ) → IsSound cfg → t + length fs < 2 ^ 64 → AllByRecursion IsTypedEnd es → AllByRecursion IsTypedEnd fs
    → end_lines cfg t es ++ rest ≡ end_lines cfg t fs → StripsEnds cfg t es fs rest
strip_ends cfg t [] fs rest sound small te tf e =
    let same : t + 0 ≡ t = omega arith in record { later = fs; whole = refl; left = rw same e }
strip_ends cfg t (x ∷ es) [] rest sound small te tf e =
    absurd (end_not_nil cfg t x (end_lines cfg (t + 1) es ++ rest) (sym (append_assoc (end_line cfg t x) (end_lines cfg (t + 1) es) rest) ∙ e))
strip_ends cfg t (x ∷ es) (y ∷ fs) rest sound small te tf e =
    let front : end_line cfg t x ++ (end_lines cfg (t + 1) es ++ rest) ≡ end_line cfg t y ++ end_lines cfg (t + 1) fs =
    sym (append_assoc (end_line cfg t x) (end_lines cfg (t + 1) es) rest) ∙ e in
    let one = end_unique cfg t x y (end_lines cfg (t + 1) es ++ rest) (end_lines cfg (t + 1) fs) sound (omega (arith, small)) te.0 tf.0 front in
    let more = strip_ends cfg (t + 1) es fs rest sound (omega (arith, small)) te.1 tf.1 one.1 in
    let place : t + 1 + length es ≡ t + suc (length es) = omega arith in
    record {
      later = more.later;
      whole = ap (λ z. z ∷ fs) (sym one.0) ∙ ap (λ zs. x ∷ zs) more.whole;
      left = more.left ∙ ap (λ n. end_lines cfg n more.later) place;
    }

-- lines that were read, and what follows them, which cannot go on
pub record Stuck (cfg : Config) (items : List Logged) (ends : List End) (rest : List ℕ) : Type 0 where
  pub named : list_all (is_named_item cfg) items ≡ true
  pub typed : AllByRecursion IsTypedItem items
  pub typed_ends : AllByRecursion IsTypedEnd ends
  pub few : length ends ≤ length cfg.threads
  pub no_item : HasNoItem cfg (end_lines cfg 0 ends ++ rest)
  pub stuck : length ends < length cfg.threads → HasNoEnd cfg (length ends) rest
  pub left : length ends ≡ length cfg.threads → rest ≢ []

-- the text so far
abbrev pub so_far : Config → List Logged → List End → List ℕ
so_far cfg items ends = flat_map (item_line cfg) items ++ end_lines cfg 0 ends

no_later : (cfg : Config) (items : List Logged) (ends later : List End) (rest : List ℕ) → Stuck cfg items ends rest → AllByRecursion IsTypedEnd later
    → length ends + length later ≡ length cfg.threads → rest ≡ end_lines cfg (0 + length ends) later → ⊥
no_later cfg items ends [] rest stuck typed count left = stuck.left (omega (arith, count)) left
no_later cfg items ends (x ∷ later) rest stuck typed count left =
    let none = stuck.stuck (omega (arith, count)) in
    let number : 0 + length ends ≡ length ends = omega arith in
    none.none x (end_lines cfg (length ends + 1) later) (record { typed = typed.0; whole = left ∙ ap (λ n. end_lines cfg n (x ∷ later)) number })

typed_later : (all ends later : List End) → all ≡ ends ++ later → AllByRecursion IsTypedEnd all → AllByRecursion IsTypedEnd later
typed_later all [] later e typed = rw (← e) typed
typed_later [] (x ∷ ends) later e typed = absurd (cc)
typed_later (y ∷ all) (x ∷ ends) later e typed = let rest : all ≡ ends ++ later = cc in typed_later all ends later rest typed.1

-- no log has such a text
pub none_of : (cfg : Config) (items : List Logged) (ends : List End) (rest : List ℕ) (log : Log) → IsSound cfg → Stuck cfg items ends rest
    → IsLogOf cfg (so_far cfg items ends ++ rest) log → ⊥
none_of cfg items ends rest log sound stuck of =
    let lines = flat_map (item_line cfg) items in
    let text : lines ++ (end_lines cfg 0 ends ++ rest) ≡ flat_map (item_line cfg) log.items ++ end_lines cfg 0 log.ends =
    sym (append_assoc lines (end_lines cfg 0 ends) rest) ∙ sym of.text in
    let front = strip_items cfg items log.items (end_lines cfg 0 ends ++ rest) log.ends sound stuck.named stuck.typed of.named.items of.typed.items of.typed.ends stuck.no_item text in
    let strips = strip_ends cfg 0 ends log.ends rest sound (omega (arith, of.named.ends, sound.limits.threads)) stuck.typed_ends of.typed.ends front.1 in
    no_later cfg items ends strips.later rest stuck (typed_later log.ends ends strips.later strips.whole of.typed.ends)
    (omega (arith, ap length strips.whole, length-append ends strips.later, of.named.ends)) strips.left

-- two named logs with the same text are one
pub text_unique : (cfg : Config) (log other : Log) → IsSound cfg → IsNamed cfg log → IsTyped log → IsNamed cfg other → IsTyped other → text_of cfg log ≡ text_of cfg other → log ≡ other
text_unique cfg log other sound named typed named' typed' e =
    let none : HasNoItem cfg (end_lines cfg 0 log.ends) =
    rw append-nil at (no_item_in_ends cfg 0 log.ends [] sound (omega arith) typed.ends (no_item_in_nil cfg)) in
    let front = strip_items cfg log.items other.items (end_lines cfg 0 log.ends) other.ends sound named.items typed.items named'.items typed'.items typed'.ends none e in
    let ends : end_lines cfg 0 log.ends ++ [] ≡ end_lines cfg 0 other.ends = append-nil (end_lines cfg 0 log.ends) ∙ front.1 in
    let strips = strip_ends cfg 0 log.ends other.ends [] sound (omega (arith, named'.ends, sound.limits.threads)) typed.ends typed'.ends ends in
    let same : log.ends ≡ other.ends = same_ends log.ends other.ends strips.later strips.whole (omega (arith, named.ends, named'.ends)) in
    ap (λ xs. record { items = xs; ends = log.ends }) front.0 ∙ ap (λ xs. record { items = other.items; ends = xs }) same
  where
    same_ends : (es fs later : List End) → fs ≡ es ++ later → length es ≡ length fs → es ≡ fs
    same_ends es fs [] whole count = sym (append-nil es) ∙ sym whole
    same_ends es fs (x ∷ later) whole count = absurd (omega (arith, ap length whole, length-append es (x ∷ later)))
