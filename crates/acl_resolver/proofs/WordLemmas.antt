-- What the words of a script stand for is there.
use Rattle.std.proofs.Common.{◌≡◌, ℕ, suc, ◌+◌, ◌<◌, ◌≤◌, Bool, true, false, cond, List, [], ◌∷◌, map, length, Option, Some, None, refl, subst, arith, find, eq-eqb}
use Rattle.std.specs.Prelude.{count_by, nat_eq, unwrap_or}
use Rattle.std.specs.List.{AllByRecursion, cons_option, filter_map, position_from}
use Rattle.std.specs.Option.{option_map}
use Rattle.std.proofs.lemmas.Bool.{or_left, or_right}
use Rattle.std.proofs.lemmas.List.Sums.{sum_by-cons}
use Rattle.std.proofs.lemmas.Slice.Eq.{bytes_eq-Decides}
use Rattle.flat_model.specs.declared.parts.IrqPart.{IrqPart}
use Rattle.flat_model.specs.declared.parts.ScriptWord.{ScriptWord}
use Rattle.flat_model.specs.declared.parts.ScriptWord.TheVariants as word
use Rattle.flat_model.specs.declared.texts.BoxText.{BoxText}
use Rattle.flat_model.specs.declared.texts.ThreadText.{ThreadText}
use Rattle.flat_model.specs.Interrupts.{has_line}
use Rattle.flat_model.specs.Sound.{is_ring_word}
use Rattle.acl_resolver.specs.declared.spelling.Spelled.{Spelled}
use Rattle.acl_resolver.specs.Naming.{box_named, has_name, is_spelled, ring_word, rings_words, script_words, thread_words, threads_words, word_of_text}
use Rattle.acl_resolver.specs.Refusals.{is_line_of, is_line_of_some}
use Rattle.acl_resolver.specs.Resolvable.{is_ring_text, threads_of}
use Rattle.acl_resolver.proofs.Unrefused.{all_given, all_joined, all_weaker, found}

-- a word that names one of so many threads, or a line that a box names
abbrev pub IsThere : ℕ → List BoxText → ScriptWord → Type 0
IsThere threads boxes (word.Thread t) = t.0 < threads
IsThere threads boxes (word.Ring line) = is_line_of_some boxes line.0 ≡ true

-- the word is there, and is spelled as a ring where it is one
pub record IsRightly (threads : ℕ) (boxes : List BoxText) (spelled : Spelled) : Type 0 where
  pub there : IsThere threads boxes spelled.word
  pub ring : is_ring_word spelled.word ≡ true → is_ring_text spelled.text ≡ true

box_words : (threads : ℕ) (boxes : List BoxText) (name : List ℕ) (k t : ℕ) (texts : List ThreadText) → t + length texts ≤ threads
    → AllByRecursion (IsRightly threads boxes) (thread_words name k t texts)
box_words threads boxes name k t [] few = tt
box_words threads boxes name k t (text ∷ texts) few =
    let here : t < threads = omega arith in
    let rest : (t + 1) + length texts ≤ threads = omega arith in
    (record { there = here; ring = λ h. cc }, box_words threads boxes name (k + 1) (t + 1) texts rest)

all_words : (threads : ℕ) (all : List BoxText) (t : ℕ) (boxes : List BoxText) → t + threads_of boxes ≤ threads
    → AllByRecursion (IsRightly threads all) (threads_words t boxes)
all_words threads all t [] few = tt
all_words threads all t (b ∷ boxes) few =
    let both = sum_by-cons (λ (text : BoxText). length text.threads) b boxes in
    let here : t + length b.threads ≤ threads = omega arith in
    let rest : (t + length b.threads) + threads_of boxes ≤ threads = omega arith in
    all_joined (IsRightly threads all) (thread_words b.name 0 t b.threads) (threads_words (t + length b.threads) boxes)
    (box_words threads all b.name 0 t b.threads here)
    (all_words threads all (t + length b.threads) boxes rest)

own_lines : (irqs : List IrqPart) → AllByRecursion (λ irq. has_line irq.line.0 irqs ≡ true) irqs
own_lines [] = tt
own_lines (irq ∷ irqs) = (
  or_left (nat_eq irq.line.0 irq.line.0) (has_line irq.line.0 irqs) (eq-eqb irq.line.0 irq.line.0 refl),
  all_weaker (λ other. has_line other.line.0 irqs ≡ true) (λ other. has_line other.line.0 (irq ∷ irqs) ≡ true)
      (λ other here. or_right (nat_eq irq.line.0 other.line.0) (has_line other.line.0 irqs) here) irqs (own_lines irqs),
)

rings_made : (threads : ℕ) (boxes : List BoxText) (irqs : List IrqPart) → AllByRecursion (λ irq. is_line_of_some boxes irq.line.0 ≡ true) irqs
    → AllByRecursion (IsRightly threads boxes) (map ring_word irqs)
rings_made threads boxes [] here = tt
rings_made threads boxes (irq ∷ irqs) here = (record { there = here.0; ring = λ h. refl }, rings_made threads boxes irqs here.1)

one_more : (threads : ℕ) (b : BoxText) (boxes : List BoxText) (spelled : Spelled) → IsRightly threads boxes spelled → IsRightly threads (b ∷ boxes) spelled
one_more threads b boxes spelled is = record { there = there_too spelled.word is.there; ring = is.ring }
  where
    there_too : (w : ScriptWord) → IsThere threads boxes w → IsThere threads (b ∷ boxes) w
    there_too (word.Thread t) here = here
    there_too (word.Ring line) here = or_right (is_line_of line.0 b) (is_line_of_some boxes line.0) here

ring_words_right : (threads : ℕ) (boxes : List BoxText) → AllByRecursion (IsRightly threads boxes) (rings_words boxes)
ring_words_right threads [] = tt
ring_words_right threads (b ∷ boxes) =
    all_joined (IsRightly threads (b ∷ boxes)) (map ring_word b.irqs) (rings_words boxes)
    (rings_made threads (b ∷ boxes) b.irqs
    (all_weaker (λ irq. has_line irq.line.0 b.irqs ≡ true) (λ irq. is_line_of_some (b ∷ boxes) irq.line.0 ≡ true)
    (λ irq here. or_left (is_line_of irq.line.0 b) (is_line_of_some boxes irq.line.0) here) b.irqs (own_lines b.irqs)))
    (all_weaker (IsRightly threads boxes) (IsRightly threads (b ∷ boxes)) (one_more threads b boxes) (rings_words boxes) (ring_words_right threads boxes))

table_right : (boxes : List BoxText) → AllByRecursion (IsRightly (threads_of boxes) boxes) (script_words boxes)
unfolding script_words
table_right boxes =
    all_joined (IsRightly (threads_of boxes) boxes) (threads_words 0 boxes) (rings_words boxes)
    (all_words (threads_of boxes) boxes 0 boxes (omega arith))
    (ring_words_right (threads_of boxes) boxes)

found_right : (boxes : List BoxText) (text : List ℕ) (o : Option Spelled) (w : ScriptWord)
    → ((s : Spelled) → o ≡ Some s → IsRightly (threads_of boxes) boxes s × (is_spelled text s ≡ true))
    → option_map (λ (s : Spelled). s.word) o ≡ Some w → IsRightly (threads_of boxes) boxes (record { text = text; word = w })
found_right boxes text None w is h = cc
found_right boxes text (Some s) w is h =
    let right = is s refl in
    let same_word : s.word ≡ w = cc in
    let same_text : s.text ≡ text = (bytes_eq-Decides s.text text).0 right.1 in
    let step = subst (λ v. IsRightly (threads_of boxes) boxes (record { text = s.text; word = v })) same_word right.0 in
    subst (λ v. IsRightly (threads_of boxes) boxes (record { text = v; word = w })) same_text step

-- what a text stands for is there
pub word_right : (boxes : List BoxText) (text : List ℕ) (w : ScriptWord) → word_of_text (script_words boxes) text ≡ Some w
    → IsRightly (threads_of boxes) boxes (record { text = text; word = w })
word_right boxes text w h =
    found_right boxes text (find (is_spelled text) (script_words boxes)) w
    (λ s here. found (is_spelled text) (IsRightly (threads_of boxes) boxes) (script_words boxes) s (table_right boxes) here) h

-- the words of a script are there
pub words_there : (boxes : List BoxText) (texts : List (List ℕ)) → AllByRecursion (IsThere (threads_of boxes) boxes) (filter_map (word_of_text (script_words boxes)) texts)
words_there boxes texts = all_given (word_of_text (script_words boxes)) (IsThere (threads_of boxes) boxes) (λ text w h. (word_right boxes text w h).there) texts

fewer : (b : Bool) (n m : ℕ) (o : Option ScriptWord) (ws : List ScriptWord) → count_by is_ring_word ws ≤ n
    → ((w : ScriptWord) → o ≡ Some w → is_ring_word w ≡ true → b ≡ true) → count_by is_ring_word (cons_option o ws) ≤ cond b 1 0 + n
fewer b n m None ws few says = omega arith
fewer b n m (Some w) ws few says =
    let step = sum_by-cons (λ v. cond (is_ring_word v) 1 0) w ws in
    let one = at_most_one (is_ring_word w) b (says w refl) in
    omega (arith, step, one, few)
  where
    at_most_one : (r c : Bool) → (r ≡ true → c ≡ true) → cond r 1 0 ≤ cond c 1 0
    at_most_one true true h = omega arith
    at_most_one true false h = absurd (let e = h refl in cc)
    at_most_one false true h = omega arith
    at_most_one false false h = omega arith

-- there are at most as many rings as texts for them
pub few_rings : (boxes : List BoxText) (texts : List (List ℕ))
    → count_by is_ring_word (filter_map (word_of_text (script_words boxes)) texts) ≤ count_by is_ring_text texts
few_rings boxes [] = omega arith
few_rings boxes (text ∷ texts) =
    let step = sum_by-cons (λ v. cond (is_ring_text v) 1 0) text texts in
    let few = fewer (is_ring_text text) (count_by is_ring_text texts) 0 (word_of_text (script_words boxes) text) (filter_map (word_of_text (script_words boxes)) texts)
    (few_rings boxes texts) (λ w here. (word_right boxes text w here).ring) in
    omega (arith, step, few)

named_by : (t : Bool) (i d n : ℕ) (o : Option ℕ) → unwrap_or o d < (i + 1) + n → unwrap_or (cond t (Some i) o) d < i + suc n
named_by true i d n o h = omega arith
named_by false i d n o h = omega (arith, h)

named_below : (i : ℕ) (name : List ℕ) (boxes : List BoxText) (d : ℕ) → d < i + length boxes → unwrap_or (position_from (has_name name) i boxes) d < i + length boxes
named_below i name [] d low = low
named_below i name (b ∷ boxes) d low =
    let rest : d < (i + 1) + length boxes = omega arith in
    named_by (has_name name b) i d (length boxes) (position_from (has_name name) (i + 1) boxes) (named_below (i + 1) name boxes d rest)

-- a name stands for a box that is there
pub target_below : (boxes : List BoxText) (name : List ℕ) → 1 ≤ length boxes → unwrap_or (box_named boxes name) 0 < length boxes
target_below boxes name some =
    let low : 0 < 0 + length boxes = omega arith in
    let below = named_below 0 name boxes 0 low in
    omega (arith, below)
