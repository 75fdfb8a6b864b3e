-- Where the reading of a text stops is the first line after which no text can go on.
use Rattle.std.proofs.Common.{◌≡◌, ◌≢◌, ℕ, zero, suc, ◌+◌, ◌-◌, ◌^◌, ◌<◌, ◌≤◌, Bool, true, false, cond, List, [], ◌∷◌, ◌++◌, length, replicate, refl, ap, sym, ◌∙◌, arith, append_assoc, length-append}
use Rattle.std.specs.Prelude.{nat_eq}
use Rattle.std.specs.List.{AllByRecursion, flat_map, list_all}
use Rattle.std.proofs.lemmas.Bool.{eqb-false, eqb-true, ne_eqb}
use Rattle.std.proofs.lemmas.List.{append-nil, length-replicate}
use Rattle.std.proofs.lemmas.List.Sums.{sum_by-cons}
use Rattle.flat_model.proofs.Elements.{each-append}
use Rattle.flat_model.proofs.NamedChoices.{both_true}
use Rattle.flat_model.specs.declared.events.Logged.{Logged}
use Rattle.flat_model.specs.declared.events.Mode.TheVariants as mode
use Rattle.flat_model.specs.declared.logs.End.{End}
use Rattle.flat_model.specs.declared.parts.Config.{Config}
use Rattle.flat_model.specs.Log.{is_named_item}
use Rattle.flat_model.specs.Sound.{IsSound}
use Rattle.flat_model.specs.Text.{end_line, end_lines, item_line}
use Rattle.run_log.specs.Reading.{Begins, IsFirstBadLine, first_lines, line_count}
use Rattle.run_log.specs.Stops.{AreItemsOf, HasNoItem, StopsInEnds}
use Rattle.run_log.specs.Typed.{IsTypedEnd, IsTypedItem}
use Rattle.run_log.proofs.LineLemmas.{Feedless, end_body, end_feedless, end_line_is, item_body, item_feedless, item_line_is, item_not_end, other_rest, other_rest_end}
use Rattle.run_log.proofs.StopLemmas.{Stuck, none_of, so_far}

not_feed : (b : ℕ) → b ≢ 10 → nat_eq b 10 ≡ false
not_feed b h = ne_eqb b 10 h

-- how many line ends a byte is
feed_of : ℕ → ℕ
feed_of b = cond (nat_eq b 10) 1 0

feed_not : (b : ℕ) → nat_eq b 10 ≡ false → feed_of b ≡ 0
unfolding feed_of
feed_not b e = rw e refl

feed_ten : feed_of 10 ≡ 1
unfolding feed_of
feed_ten = refl

count_feed : (b : ℕ) (bs : List ℕ) → line_count (b ∷ bs) ≡ feed_of b + line_count bs
unfolding feed_of
count_feed b bs = sum_by-cons (λ x. cond (nat_eq x 10) 1 0) b bs

-- a line has one line end
count_line : (l r : List ℕ) → Feedless l → line_count (l ++ 10 ∷ r) ≡ suc (line_count r)
count_line [] r h = count_feed 10 r ∙ omega (arith, feed_ten)
count_line (b ∷ bs) r h = count_feed b (bs ++ 10 ∷ r) ∙ omega (arith, feed_not b (not_feed b h.0), count_line bs r h.1)

-- and is the first of the lines
first_line_is : (l r : List ℕ) (k : ℕ) → Feedless l → first_lines (suc k) (l ++ 10 ∷ r) ≡ l ++ 10 ∷ first_lines k r
first_line_is [] r k h = refl
first_line_is (b ∷ bs) r k h = rw (not_feed b h.0) (ap (λ xs. b ∷ xs) (first_line_is bs r k h.1))

count_item : (cfg : Config) (i : Logged) (r : List ℕ) → IsSound cfg → is_named_item cfg i ≡ true → IsTypedItem i → line_count (item_line cfg i ++ r) ≡ suc (line_count r)
count_item cfg i r sound named typed =
    ap line_count (ap (λ xs. xs ++ r) (item_line_is cfg i) ∙ append_assoc (item_body cfg i) (10 ∷ []) r) ∙ count_line (item_body cfg i) r (item_feedless cfg i sound named typed)

count_end : (cfg : Config) (t : ℕ) (end : End) (r : List ℕ) → IsSound cfg → t < 2 ^ 64 → IsTypedEnd end → line_count (end_line cfg t end ++ r) ≡ suc (line_count r)
count_end cfg t end r sound small typed =
    ap line_count (ap (λ xs. xs ++ r) (end_line_is cfg t end) ∙ append_assoc (end_body cfg t end) (10 ∷ []) r) ∙ count_line (end_body cfg t end) r (end_feedless cfg t end sound small typed)

-- the first line of a text that begins with a line
first_of : (body line r : List ℕ) (k : ℕ) → line ≡ body ++ 10 ∷ [] → Feedless body → first_lines (suc k) (line ++ r) ≡ line ++ first_lines k r
first_of body line r k is feedless =
    ap (first_lines (suc k)) (ap (λ xs. xs ++ r) is ∙ append_assoc body (10 ∷ []) r) ∙ first_line_is body r k feedless
    ∙ sym (ap (λ xs. xs ++ first_lines k r) is ∙ append_assoc body (10 ∷ []) (first_lines k r))

lines_of_items : (cfg : Config) (is : List Logged) (r : List ℕ) (k : ℕ) → IsSound cfg → list_all (is_named_item cfg) is ≡ true → AllByRecursion IsTypedItem is
    → first_lines (length is + k) (flat_map (item_line cfg) is ++ r) ≡ flat_map (item_line cfg) is ++ first_lines k r
lines_of_items cfg [] r k sound named typed = let none : 0 + k ≡ k = omega arith in rw none refl
lines_of_items cfg (i ∷ is) r k sound named typed =
    let both = both_true (is_named_item cfg i) (list_all (is_named_item cfg) is) named in
    let many : suc (length is) + k ≡ suc (length is + k) = omega arith in
    rw many (ap (first_lines (suc (length is + k))) (append_assoc (item_line cfg i) (flat_map (item_line cfg) is) r)
    ∙ first_of (item_body cfg i) (item_line cfg i) (flat_map (item_line cfg) is ++ r) (length is + k) (item_line_is cfg i) (item_feedless cfg i sound both.0 typed.0)
    ∙ ap (λ xs. item_line cfg i ++ xs) (lines_of_items cfg is r k sound both.1 typed.1)
    ∙ sym (append_assoc (item_line cfg i) (flat_map (item_line cfg) is) (first_lines k r)))

lines_of_ends : (cfg : Config) (t : ℕ) (es : List End) (r : List ℕ) (k : ℕ) → IsSound cfg → t + length es < 2 ^ 64 → AllByRecursion IsTypedEnd es
    → first_lines (length es + k) (end_lines cfg t es ++ r) ≡ end_lines cfg t es ++ first_lines k r
lines_of_ends cfg t [] r k sound small typed = let none : 0 + k ≡ k = omega arith in rw none refl
lines_of_ends cfg t (x ∷ es) r k sound small typed =
    let many : suc (length es) + k ≡ suc (length es + k) = omega arith in
    rw many (ap (first_lines (suc (length es + k))) (append_assoc (end_line cfg t x) (end_lines cfg (t + 1) es) r)
    ∙ first_of (end_body cfg t x) (end_line cfg t x) (end_lines cfg (t + 1) es ++ r) (length es + k) (end_line_is cfg t x) (end_feedless cfg t x sound (omega (arith, small)) typed.0)
    ∙ ap (λ xs. end_line cfg t x ++ xs) (lines_of_ends cfg (t + 1) es r k sound (omega (arith, small)) typed.1)
    ∙ sym (append_assoc (end_line cfg t x) (end_lines cfg (t + 1) es) (first_lines k r)))

count_of_items : (cfg : Config) (is : List Logged) (r : List ℕ) → IsSound cfg → list_all (is_named_item cfg) is ≡ true → AllByRecursion IsTypedItem is
    → line_count (flat_map (item_line cfg) is ++ r) ≡ length is + line_count r
count_of_items cfg [] r sound named typed = omega arith
count_of_items cfg (i ∷ is) r sound named typed =
    let both = both_true (is_named_item cfg i) (list_all (is_named_item cfg) is) named in
    ap line_count (append_assoc (item_line cfg i) (flat_map (item_line cfg) is) r) ∙ count_item cfg i (flat_map (item_line cfg) is ++ r) sound both.0 typed.0
    ∙ omega (arith, count_of_items cfg is r sound both.1 typed.1)

count_of_ends : (cfg : Config) (t : ℕ) (es : List End) (r : List ℕ) → IsSound cfg → t + length es < 2 ^ 64 → AllByRecursion IsTypedEnd es
    → line_count (end_lines cfg t es ++ r) ≡ length es + line_count r
count_of_ends cfg t [] r sound small typed = omega arith
count_of_ends cfg t (x ∷ es) r sound small typed =
    ap line_count (append_assoc (end_line cfg t x) (end_lines cfg (t + 1) es) r) ∙ count_end cfg t x (end_lines cfg (t + 1) es ++ r) sound (omega (arith, small)) typed.0
    ∙ omega (arith, count_of_ends cfg (t + 1) es r sound (omega (arith, small)) typed.1)

-- bytes with a line end have a first line
record HasLine (bytes : List ℕ) : Type 0 where
  pub line : List ℕ
  pub rest : List ℕ
  pub whole : bytes ≡ line ++ 10 ∷ rest
  pub one : Feedless line

has_line_at : (b : ℕ) (bs : List ℕ) (test : Bool) → nat_eq b 10 ≡ test → 1 ≤ line_count (b ∷ bs) → (1 ≤ line_count bs → HasLine bs) → HasLine (b ∷ bs)
has_line_at b bs true e h later = let is : b ≡ 10 = eqb-true b 10 e in record { line = []; rest = bs; whole = ap (λ x. x ∷ bs) is; one = tt }
has_line_at b bs false e h later =
    let more : 1 ≤ line_count bs = omega (arith, h, count_feed b bs, feed_not b e) in
    let has = later more in
    record { line = b ∷ has.line; rest = has.rest; whole = ap (λ xs. b ∷ xs) has.whole; one = ((λ is. absurd (eqb-false b 10 e is)), has.one) }

has_line : (bytes : List ℕ) → 1 ≤ line_count bytes → HasLine bytes
has_line [] h = absurd (omega arith)
has_line (b ∷ bs) h = has_line_at b bs (nat_eq b 10) refl h (λ more. has_line bs more)

-- what a thread is that has done nothing
blank : End
blank = record { mode = mode.Ready; steps = 0; regs = 0 ∷ 0 ∷ 0 ∷ 0 ∷ 0 ∷ 0 ∷ 0 ∷ 0 ∷ [] }

blank_typed : IsTypedEnd blank
unfolding blank
blank_typed = record {
  steps = omega arith;
  regs = record { count = refl; each = (omega arith, (omega arith, (omega arith, (omega arith, (omega arith, (omega arith, (omega arith, (omega arith, tt)))))))) };
}

blanks_typed : (n : ℕ) → AllByRecursion IsTypedEnd (replicate n blank)
blanks_typed zero = tt
blanks_typed (suc n) = (blank_typed, blanks_typed n)

pub end_lines-append : (cfg : Config) (t : ℕ) (es fs : List End) → end_lines cfg t (es ++ fs) ≡ end_lines cfg t es ++ end_lines cfg (t + length es) fs
end_lines-append cfg t [] fs = let none : t + 0 ≡ t = omega arith in rw none refl
end_lines-append cfg t (x ∷ es) fs =
    let place : t + 1 + length es ≡ t + suc (length es) = omega arith in
    ap (λ xs. end_line cfg t x ++ xs) (end_lines-append cfg (t + 1) es fs ∙ ap (λ n. end_lines cfg (t + 1) es ++ end_lines cfg n fs) place)
    ∙ sym (append_assoc (end_line cfg t x) (end_lines cfg (t + 1) es) (end_lines cfg (t + suc (length es)) fs))

-- what was read begins a text
so_far_begins : (cfg : Config) (items : List Logged) (ends : List End) (rest : List ℕ) → IsSound cfg → Stuck cfg items ends rest → Begins cfg (so_far cfg items ends)
so_far_begins cfg items ends rest sound stuck =
    let missing = length cfg.threads - length ends in
    let fill = replicate missing blank in
    let lines = flat_map (item_line cfg) items in
    let after = end_lines cfg (0 + length ends) fill in
    record {
      log = record { items = items; ends = ends ++ fill };
      rest = after;
      whole = record {
        named = record { items = stuck.named; ends = omega (arith, length-append ends fill, length-replicate missing blank, stuck.few) };
        typed = record { items = stuck.typed; ends = each-append IsTypedEnd ends fill stuck.typed_ends (blanks_typed missing) };
        text = ap (λ xs. lines ++ xs) (end_lines-append cfg 0 ends fill) ∙ sym (append_assoc lines (end_lines cfg 0 ends) after);
      };
    }

-- the same lines, with the first line that cannot go on and another rest
stuck_line : (cfg : Config) (items : List Logged) (ends : List End) (rest l r s : List ℕ) → IsSound cfg → Stuck cfg items ends rest → rest ≡ l ++ 10 ∷ r → Feedless l
    → Stuck cfg items ends (l ++ 10 ∷ s)
stuck_line cfg items ends rest l r s sound stuck is feedless = record {
  named = stuck.named;
  typed = stuck.typed;
  typed_ends = stuck.typed_ends;
  few = stuck.few;
  no_item = no_item ends stuck.typed_ends stuck.no_item;
  stuck = λ few. other_rest_end cfg (length ends) l r s sound (omega (arith, few, sound.limits.threads)) feedless (rw is at (stuck.stuck few));
  left = λ all e. absurd (omega (arith, ap length e, length-append l (10 ∷ s)));
}
  where
    no_item : (es : List End) → AllByRecursion IsTypedEnd es → HasNoItem cfg (end_lines cfg 0 es ++ rest) → HasNoItem cfg (end_lines cfg 0 es ++ (l ++ 10 ∷ s))
    no_item [] typed none = other_rest cfg l r s sound feedless (rw is at none)
    no_item (x ∷ es) typed none = record {
      none = λ i after at.
          item_not_end cfg i 0 x after (end_lines cfg (0 + 1) es ++ (l ++ 10 ∷ s)) sound at.named at.typed (omega arith) typed.0
          (sym at.whole ∙ append_assoc (end_line cfg 0 x) (end_lines cfg (0 + 1) es) (l ++ 10 ∷ s));
    }

-- where it stops is the first bad line
pub stuck_is_bad : (cfg : Config) (bytes : List ℕ) (items : List Logged) (ends : List End) (rest : List ℕ) (k : ℕ) → IsSound cfg → Stuck cfg items ends rest
    → bytes ≡ so_far cfg items ends ++ rest → k ≡ length items + length ends + 1 → IsFirstBadLine cfg bytes k
stuck_is_bad cfg bytes items ends rest k sound stuck whole is_k =
    let lines = flat_map (item_line cfg) items in
    let n = length items + length ends in
    let small : 0 + length ends < 2 ^ 64 = omega (arith, stuck.few, sound.limits.threads) in
    let split : bytes ≡ lines ++ (end_lines cfg 0 ends ++ rest) = whole ∙ append_assoc lines (end_lines cfg 0 ends) rest in
    let count : line_count bytes ≡ n + line_count rest =
    ap line_count split ∙ omega (arith, count_of_items cfg items (end_lines cfg 0 ends ++ rest) sound stuck.named stuck.typed, count_of_ends cfg 0 ends rest sound small stuck.typed_ends) in
    let firsts : (j : ℕ) → first_lines (n + j) bytes ≡ so_far cfg items ends ++ first_lines j rest =
    λ j.
    let regroup : n + j ≡ length items + (length ends + j) = omega arith in
    ap (λ m. first_lines m bytes) regroup ∙ ap (first_lines (length items + (length ends + j))) split
    ∙ lines_of_items cfg items (end_lines cfg 0 ends ++ rest) (length ends + j) sound stuck.named stuck.typed
    ∙ ap (λ xs. lines ++ xs) (lines_of_ends cfg 0 ends rest j sound small stuck.typed_ends)
    ∙ sym (append_assoc lines (end_lines cfg 0 ends) (first_lines j rest)) in
    let before : first_lines (k - 1) bytes ≡ so_far cfg items ends =
    ap (λ m. first_lines m bytes) (omega (arith, is_k)) ∙ firsts 0 ∙ append-nil (so_far cfg items ends) in
    record {
      none = λ log of. none_of cfg items ends rest log sound stuck (rw whole at of);
      some = omega (arith, is_k);
      within = omega (arith, is_k, count);
      before = rw before (so_far_begins cfg items ends rest sound stuck);
      bad = λ within begins.
          let has = has_line rest (omega (arith, within, is_k, count)) in
          let with_line : first_lines k bytes ≡ so_far cfg items ends ++ (has.line ++ 10 ∷ []) =
          ap (λ m. first_lines m bytes) is_k ∙ firsts 1 ∙ ap (λ xs. so_far cfg items ends ++ first_lines 1 xs) has.whole
          ∙ ap (λ xs. so_far cfg items ends ++ xs) (first_line_is has.line has.rest 0 has.one) in
          let other = stuck_line cfg items ends rest has.line has.rest begins.rest sound stuck has.whole has.one in
          let regroup : first_lines k bytes ++ begins.rest ≡ so_far cfg items ends ++ (has.line ++ 10 ∷ begins.rest) =
          ap (λ xs. xs ++ begins.rest) with_line ∙ append_assoc (so_far cfg items ends) (has.line ++ 10 ∷ []) begins.rest
          ∙ ap (λ xs. so_far cfg items ends ++ xs) (append_assoc has.line (10 ∷ []) begins.rest) in
          none_of cfg items ends (has.line ++ 10 ∷ begins.rest) begins.log sound other (rw regroup at begins.whole);
    }

-- the reading of items and then ends stopped at the first bad line
pub stops_is_bad : (cfg : Config) (bytes : List ℕ) (items : List Logged) (rest : List ℕ) (k : ℕ) → IsSound cfg → AreItemsOf cfg bytes items rest → HasNoItem cfg rest
    → StopsInEnds cfg rest (length items) k → IsFirstBadLine cfg bytes k
stops_is_bad cfg bytes items rest k sound read none stops =
    stuck_is_bad cfg bytes items stops.ends stops.rest k sound
    (record {
      named = read.named;
      typed = read.typed;
      typed_ends = stops.read.typed;
      few = stops.few;
      no_item = rw stops.read.whole at none;
      stuck = stops.stuck;
      left = stops.left;
    })
    (read.whole ∙ ap (λ xs. flat_map (item_line cfg) items ++ xs) stops.read.whole ∙ sym (append_assoc (flat_map (item_line cfg) items) (end_lines cfg 0 stops.ends) stops.rest))
    stops.line
