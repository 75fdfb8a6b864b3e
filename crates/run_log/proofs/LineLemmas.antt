-- The first line of some bytes is one item's line or one end's line at most.
use Rattle.std.proofs.Common.{◌≡◌, ◌≢◌, ℕ, suc, ◌^◌, ◌<◌, ◌≤◌, true, false, List, [], ◌∷◌, ◌++◌, length, get_or, lit≤, refl, ap, sym, ◌∙◌, arith, append_assoc, length-append}
use Rattle.std.specs.Prelude.{codes, map}
use Rattle.std.specs.Fmt.{decimal}
use Rattle.std.specs.List.{join_with_byte}
use Rattle.std.specs.Str.{bytes_eq}
use Rattle.std.proofs.lemmas.List.{append_cancel_right}
use Rattle.flat_model.specs.declared.events.Choice.{Choice}
use Rattle.flat_model.specs.declared.events.Choice.TheVariants as choice
use Rattle.flat_model.specs.declared.events.Logged.{Logged}
use Rattle.flat_model.specs.declared.events.Logged.TheVariants as item
use Rattle.flat_model.specs.declared.events.Reply.{Reply}
use Rattle.flat_model.specs.declared.events.UnitLine.{UnitLine}
use Rattle.flat_model.specs.declared.events.UnitLine.TheVariants as line
use Rattle.flat_model.specs.declared.logs.End.{End}
use Rattle.flat_model.specs.declared.parts.Config.{Config}
use Rattle.flat_model.specs.Log.{is_named_item}
use Rattle.flat_model.specs.Sound.{IsSound}
use Rattle.flat_model.specs.Text.{end_line, entry_words, hex_word, item_line, item_words, mode_text, thread_text, unit_words}
use Rattle.run_log.specs.Candidates.{end_of, item_of}
use Rattle.run_log.specs.LineWords.{first_of, words_of}
use Rattle.run_log.specs.Lines.{HasNoLine}
use Rattle.run_log.specs.Spaced.{spaced}
use Rattle.run_log.specs.Stops.{HasNoEnd, HasNoItem, IsEndAt, IsEndOf, IsItemAt, IsItemOf, IsNoEnd, IsNoItem}
use Rattle.run_log.specs.Typed.{IsTypedEnd, IsTypedItem}
use Rattle.run_log.proofs.ItemsBack.{end_back, item_back}
use Rattle.run_log.proofs.SpacedLemmas.{join_spaced}
use Rattle.run_log.proofs.WordLemmas.{AllAbove, AreWords, join_above, words_of-join}
use Rattle.run_log.proofs.WordsOfItems.{end_are_words, item_are_words}

-- no byte is a line feed
abbrev pub Feedless : List ℕ → Type 0
Feedless [] = Unit {0}
Feedless (b ∷ bs) = (b ≢ 10) × Feedless bs

pub feedless_above : (bs : List ℕ) → AllAbove 10 bs → Feedless bs
feedless_above [] h = tt
feedless_above (b ∷ bs) h = ((λ e. absurd (omega (arith, e, h.0))), feedless_above bs h.1)

feedless_from : (bs : List ℕ) → ((k : ℕ) → k < length bs → get_or bs k 0 ≡ 10 → ⊥) → Feedless bs
feedless_from [] h = tt
feedless_from (b ∷ bs) h = (h 0 (omega arith), feedless_from bs (λ k below. h (suc k) (omega arith)))

pub no_line_feedless : (bs : List ℕ) → HasNoLine bs → Feedless bs
no_line_feedless bs h = feedless_from bs h.none

-- the bytes have one first line
pub line_split : (xs ys r s : List ℕ) → Feedless xs → Feedless ys → xs ++ 10 ∷ r ≡ ys ++ 10 ∷ s → (xs ≡ ys) × (r ≡ s)
line_split [] [] r s p q e = (refl, cc)
line_split [] (y ∷ ys) r s p q e = let same : y ≡ 10 = cc in absurd (q.0 same)
line_split (x ∷ xs) [] r s p q e = let same : x ≡ 10 = cc in absurd (p.0 same)
line_split (x ∷ xs) (y ∷ ys) r s p q e =
    let same : x ≡ y = cc in
    let rest : xs ++ 10 ∷ r ≡ ys ++ 10 ∷ s = cc in
    let parts = line_split xs ys r s p.1 q.1 rest in (cc, parts.1)

-- a line feed ends the line
no_feedless : (xs r : List ℕ) → Feedless (xs ++ 10 ∷ r) → ⊥
no_feedless [] r h = h.0 refl
no_feedless (x ∷ xs) r h = no_feedless xs r h.1

-- the words of an end's line
abbrev pub end_words : Config → ℕ → End → List (List ℕ)
end_words cfg t end = codes "thread" ∷ thread_text cfg (record { 0 = t }) ∷ mode_text end.mode ∷ decimal end.steps ∷ map hex_word end.regs

pub item_body : Config → Logged → List ℕ
item_body cfg i = join_with_byte 32 (item_words cfg i)

pub end_body : Config → ℕ → End → List ℕ
end_body cfg t end = join_with_byte 32 (end_words cfg t end)

pub item_line_is : (cfg : Config) (i : Logged) → item_line cfg i ≡ item_body cfg i ++ 10 ∷ []
unfolding item_line item_body
item_line_is cfg i = refl

pub end_line_is : (cfg : Config) (t : ℕ) (end : End) → end_line cfg t end ≡ end_body cfg t end ++ 10 ∷ []
unfolding end_line end_body
end_line_is cfg t end = refl

pub item_feedless : (cfg : Config) (i : Logged) → IsSound cfg → is_named_item cfg i ≡ true → IsTypedItem i → Feedless (item_body cfg i)
unfolding item_body
item_feedless cfg i sound named typed = feedless_above (item_body cfg i) (join_above (item_words cfg i) (item_are_words cfg i sound named typed))

pub end_feedless : (cfg : Config) (t : ℕ) (end : End) → IsSound cfg → t < 2 ^ 64 → IsTypedEnd end → Feedless (end_body cfg t end)
unfolding end_body
end_feedless cfg t end sound small typed = feedless_above (end_body cfg t end) (join_above (end_words cfg t end) (end_are_words cfg t end sound small typed))

-- a line with a line feed and more
with_feed : (xs after : List ℕ) → (xs ++ 10 ∷ []) ++ after ≡ xs ++ 10 ∷ after
with_feed xs after = append_assoc xs (10 ∷ []) after

words_of_words : (ws : List (List ℕ)) (w : List ℕ) (vs : List (List ℕ)) → ws ≡ w ∷ vs → AreWords ws → words_of (join_with_byte 32 ws) ≡ ws
words_of_words [] w vs e h = absurd (cc)
words_of_words (v ∷ vs) w us e h = words_of-join v vs h

-- the first word of an item, and the others
record HasFirst (ws : List (List ℕ)) : Type 0 where
  pub first : List ℕ
  pub others : List (List ℕ)
  pub are : ws ≡ first ∷ others
  pub other : bytes_eq (first_of ws) (codes "thread") ≡ false
  pub long : 1 ≤ length first

unit_has_first : (cfg : Config) (l : UnitLine) → HasFirst (unit_words cfg l)
unfolding first_of
unit_has_first cfg (line.Switch b) = record { first = _; others = _; are = refl; other = refl; long = lit≤ tt }
unit_has_first cfg (line.Rotate slot pair) = record { first = _; others = _; are = refl; other = refl; long = lit≤ tt }
unit_has_first cfg line.Flush = record { first = _; others = _; are = refl; other = refl; long = lit≤ tt }
unit_has_first cfg (line.Access kind size at verdict) = record { first = _; others = _; are = refl; other = refl; long = lit≤ tt }

entry_has_first : (cfg : Config) (c : Choice) (r : Reply) → HasFirst (entry_words cfg c r)
unfolding first_of
entry_has_first cfg (choice.Turn t room) r = record { first = _; others = _; are = refl; other = refl; long = lit≤ tt }
entry_has_first cfg (choice.Start t ticket) r = record { first = _; others = _; are = refl; other = refl; long = lit≤ tt }
entry_has_first cfg (choice.Idle t) r = record { first = _; others = _; are = refl; other = refl; long = lit≤ tt }
entry_has_first cfg (choice.Ring l by) r = record { first = _; others = _; are = refl; other = refl; long = lit≤ tt }

item_has_first : (cfg : Config) (i : Logged) → HasFirst (item_words cfg i)
item_has_first cfg (item.Unit l) = unit_has_first cfg l
item_has_first cfg (item.Core e) = entry_has_first cfg e.choice e.reply

item_words_back : (cfg : Config) (i : Logged) → IsSound cfg → is_named_item cfg i ≡ true → IsTypedItem i → words_of (item_body cfg i) ≡ item_words cfg i
unfolding item_body
item_words_back cfg i sound named typed =
    let has = item_has_first cfg i in words_of_words (item_words cfg i) has.first has.others has.are (item_are_words cfg i sound named typed)

end_words_back : (cfg : Config) (t : ℕ) (end : End) → IsSound cfg → t < 2 ^ 64 → IsTypedEnd end → words_of (end_body cfg t end) ≡ end_words cfg t end
unfolding end_body
end_words_back cfg t end sound small typed = words_of_words (end_words cfg t end) _ _ refl (end_are_words cfg t end sound small typed)

-- the item that a line is of is the one that is read
pub item_of_line : (cfg : Config) (line : List ℕ) (i : Logged) → IsSound cfg → IsItemOf cfg line i → item_of cfg (words_of line) ≡ i
item_of_line cfg line i sound is =
    let same : item_body cfg i ≡ line = append_cancel_right (item_body cfg i) line (10 ∷ []) (sym (item_line_is cfg i) ∙ is.text) in
    ap (λ l. item_of cfg (words_of l)) (sym same) ∙ ap (item_of cfg) (item_words_back cfg i sound is.named is.typed) ∙ item_back cfg i sound is.named is.typed

-- the end that a line is of is the one that is read
pub end_of_line : (cfg : Config) (t : ℕ) (line : List ℕ) (end : End) → IsSound cfg → t < 2 ^ 64 → IsEndOf cfg t line end → end_of (words_of line) ≡ end
end_of_line cfg t line end sound small is =
    let same : end_body cfg t end ≡ line = append_cancel_right (end_body cfg t end) line (10 ∷ []) (sym (end_line_is cfg t end) ∙ is.text) in
    ap (λ l. end_of (words_of l)) (sym same) ∙ ap end_of (end_words_back cfg t end sound small is.typed)
    ∙ end_back (codes "thread") (thread_text cfg (record { 0 = t })) end is.typed

-- an item at the front of bytes is that of their first line
pub item_at_line : (cfg : Config) (l r after : List ℕ) (i : Logged) → IsSound cfg → Feedless l → IsItemAt cfg (l ++ 10 ∷ r) i after → IsItemOf cfg l i × (r ≡ after)
item_at_line cfg l r after i sound feedless at =
    let body = item_body cfg i in
    let whole : l ++ 10 ∷ r ≡ body ++ 10 ∷ after = at.whole ∙ ap (λ xs. xs ++ after) (item_line_is cfg i) ∙ with_feed body after in
    let parts = line_split l body r after feedless (item_feedless cfg i sound at.named at.typed) whole in
    (record { named = at.named; typed = at.typed; text = item_line_is cfg i ∙ ap (λ xs. xs ++ 10 ∷ []) (sym parts.0) }, parts.1)

-- an end at the front of bytes is that of their first line
pub end_at_line : (cfg : Config) (t : ℕ) (l r after : List ℕ) (end : End) → IsSound cfg → t < 2 ^ 64 → Feedless l → IsEndAt cfg t (l ++ 10 ∷ r) end after → IsEndOf cfg t l end × (r ≡ after)
end_at_line cfg t l r after end sound small feedless at =
    let body = end_body cfg t end in
    let whole : l ++ 10 ∷ r ≡ body ++ 10 ∷ after = at.whole ∙ ap (λ xs. xs ++ after) (end_line_is cfg t end) ∙ with_feed body after in
    let parts = line_split l body r after feedless (end_feedless cfg t end sound small at.typed) whole in
    (record { typed = at.typed; text = end_line_is cfg t end ∙ ap (λ xs. xs ++ 10 ∷ []) (sym parts.0) }, parts.1)

-- a line that is no item's makes bytes that no item's line begins
pub has_no_item : (cfg : Config) (l r : List ℕ) → IsSound cfg → Feedless l → IsNoItem cfg l → HasNoItem cfg (l ++ 10 ∷ r)
has_no_item cfg l r sound feedless none = record { none = λ i after at. none.none i (item_at_line cfg l r after i sound feedless at).0 }

pub has_no_end : (cfg : Config) (t : ℕ) (l r : List ℕ) → IsSound cfg → t < 2 ^ 64 → Feedless l → IsNoEnd cfg t l → HasNoEnd cfg t (l ++ 10 ∷ r)
has_no_end cfg t l r sound small feedless none = record { none = λ end after at. none.none end (end_at_line cfg t l r after end sound small feedless at).0 }

-- bytes without a line feed begin with no item's line
pub no_item_feedless : (cfg : Config) (bytes : List ℕ) → Feedless bytes → HasNoItem cfg bytes
no_item_feedless cfg bytes feedless = record {
  none = λ i after at.
      let whole : bytes ≡ item_body cfg i ++ 10 ∷ after = at.whole ∙ ap (λ xs. xs ++ after) (item_line_is cfg i) ∙ with_feed (item_body cfg i) after in
      no_feedless (item_body cfg i) after (rw whole at feedless);
}

pub no_end_feedless : (cfg : Config) (t : ℕ) (bytes : List ℕ) → Feedless bytes → HasNoEnd cfg t bytes
no_end_feedless cfg t bytes feedless = record {
  none = λ end after at.
      let whole : bytes ≡ end_body cfg t end ++ 10 ∷ after = at.whole ∙ ap (λ xs. xs ++ after) (end_line_is cfg t end) ∙ with_feed (end_body cfg t end) after in
      no_feedless (end_body cfg t end) after (rw whole at feedless);
}

-- what follows the first line makes no difference to whether it is an item's
pub other_rest : (cfg : Config) (l r s : List ℕ) → IsSound cfg → Feedless l → HasNoItem cfg (l ++ 10 ∷ r) → HasNoItem cfg (l ++ 10 ∷ s)
other_rest cfg l r s sound feedless none =
    has_no_item cfg l s sound feedless (record {
      none = λ i is. none.none i r (record { named = is.named; typed = is.typed; whole = sym (with_feed l r) ∙ ap (λ xs. xs ++ r) (sym is.text) });
    })

pub other_rest_end : (cfg : Config) (t : ℕ) (l r s : List ℕ) → IsSound cfg → t < 2 ^ 64 → Feedless l → HasNoEnd cfg t (l ++ 10 ∷ r) → HasNoEnd cfg t (l ++ 10 ∷ s)
other_rest_end cfg t l r s sound small feedless none =
    has_no_end cfg t l s sound small feedless (record {
      none = λ end is. none.none end r (record { typed = is.typed; whole = sym (with_feed l r) ∙ ap (λ xs. xs ++ r) (sym is.text) });
    })

-- two items at the front of the same bytes are one
pub item_unique : (cfg : Config) (i j : Logged) (r s : List ℕ) → IsSound cfg → is_named_item cfg i ≡ true → IsTypedItem i → is_named_item cfg j ≡ true → IsTypedItem j
    → item_line cfg i ++ r ≡ item_line cfg j ++ s → (i ≡ j) × (r ≡ s)
item_unique cfg i j r s sound named typed named' typed' e =
    let body = item_body cfg i in
    let front : body ++ 10 ∷ r ≡ item_line cfg j ++ s = sym (with_feed body r) ∙ ap (λ xs. xs ++ r) (sym (item_line_is cfg i)) ∙ e in
    let at = item_at_line cfg body r s j sound (item_feedless cfg i sound named typed) (record { named = named'; typed = typed'; whole = front }) in
    let self : IsItemOf cfg body i = record { named = named; typed = typed; text = item_line_is cfg i } in
    (sym (item_of_line cfg body i sound self) ∙ item_of_line cfg body j sound at.0, at.1)

-- two ends at the front of the same bytes are one
pub end_unique : (cfg : Config) (t : ℕ) (i j : End) (r s : List ℕ) → IsSound cfg → t < 2 ^ 64 → IsTypedEnd i → IsTypedEnd j
    → end_line cfg t i ++ r ≡ end_line cfg t j ++ s → (i ≡ j) × (r ≡ s)
end_unique cfg t i j r s sound small typed typed' e =
    let body = end_body cfg t i in
    let front : body ++ 10 ∷ r ≡ end_line cfg t j ++ s = sym (with_feed body r) ∙ ap (λ xs. xs ++ r) (sym (end_line_is cfg t i)) ∙ e in
    let at = end_at_line cfg t body r s j sound small (end_feedless cfg t i sound small typed) (record { typed = typed'; whole = front }) in
    let self : IsEndOf cfg t body i = record { typed = typed; text = end_line_is cfg t i } in
    (sym (end_of_line cfg t body i sound small self) ∙ end_of_line cfg t body j sound small at.0, at.1)

-- no item's line is a line of an end
pub item_not_end : (cfg : Config) (i : Logged) (t : ℕ) (end : End) (r s : List ℕ) → IsSound cfg → is_named_item cfg i ≡ true → IsTypedItem i → t < 2 ^ 64 → IsTypedEnd end
    → item_line cfg i ++ r ≡ end_line cfg t end ++ s → ⊥
unfolding first_of
item_not_end cfg i t end r s sound named typed small typed' e =
    let front : item_body cfg i ++ 10 ∷ r ≡ end_body cfg t end ++ 10 ∷ s =
    sym (with_feed (item_body cfg i) r) ∙ ap (λ xs. xs ++ r) (sym (item_line_is cfg i)) ∙ e ∙ ap (λ xs. xs ++ s) (end_line_is cfg t end) ∙ with_feed (end_body cfg t end) s in
    let parts = line_split (item_body cfg i) (end_body cfg t end) r s (item_feedless cfg i sound named typed) (end_feedless cfg t end sound small typed') front in
    let words : item_words cfg i ≡ end_words cfg t end =
    sym (item_words_back cfg i sound named typed) ∙ ap words_of parts.0 ∙ end_words_back cfg t end sound small typed' in
    let tested : false ≡ true = sym (item_has_first cfg i).other ∙ ap (λ ws. bytes_eq (first_of ws) (codes "thread")) words in
    absurd (cc)

-- a line is not empty
pub item_not_nil : (cfg : Config) (i : Logged) (r : List ℕ) → item_line cfg i ++ r ≡ [] → ⊥
item_not_nil cfg i r e = absurd (omega (arith, ap length e, length-append (item_line cfg i) r, ap length (item_line_is cfg i), length-append (item_body cfg i) (10 ∷ [])))

pub end_not_nil : (cfg : Config) (t : ℕ) (end : End) (r : List ℕ) → end_line cfg t end ++ r ≡ [] → ⊥
end_not_nil cfg t end r e = absurd (omega (arith, ap length e, length-append (end_line cfg t end) r, ap length (end_line_is cfg t end), length-append (end_body cfg t end) (10 ∷ [])))

-- a line has at least two bytes
pub item_long : (cfg : Config) (i : Logged) → 2 ≤ length (item_line cfg i)
unfolding item_body
item_long cfg i =
    let has = item_has_first cfg i in
    let body : item_body cfg i ≡ has.first ++ spaced has.others = ap (join_with_byte 32) has.are ∙ join_spaced has.first has.others in
    omega (arith, ap length (item_line_is cfg i), length-append (item_body cfg i) (10 ∷ []), ap length body, length-append has.first (spaced has.others), has.long)

pub end_long : (cfg : Config) (t : ℕ) (end : End) → 2 ≤ length (end_line cfg t end)
unfolding end_body
end_long cfg t end =
    let words = thread_text cfg (record { 0 = t }) ∷ mode_text end.mode ∷ decimal end.steps ∷ map hex_word end.regs in
    let body : end_body cfg t end ≡ codes "thread" ++ spaced words = join_spaced (codes "thread") words in
    omega (arith, ap length (end_line_is cfg t end), length-append (end_body cfg t end) (10 ∷ []), ap length body, length-append (codes "thread") (spaced words))
