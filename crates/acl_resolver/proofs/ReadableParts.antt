-- What good tables say of what is read from them, one table of an array after another.
use Rattle.std.proofs.Common.{◌≡◌, ℕ, ◌+◌, ◌≤◌, List, [], ◌∷◌, ◌++◌, sum_by, Option, Some, None, option_map, option_to_list, refl, ap, sym, ◌∙◌, subst, arith}
use Rattle.std.specs.List.{AllByRecursion}
use Rattle.std.proofs.lemmas.List.Sums.{sum_by-cons}
use Rattle.flat_model.specs.First.{number}
use Rattle.toml.specs.Data.{Items, no_items, item, Members, as_table}
use Rattle.board_map.specs.declared.rows.Form.{Form}
use Rattle.board_map.specs.declared.totals.Totals.{Totals}
use Rattle.board_map.specs.Shape.{Place, array_key, places_in, sections}
use Rattle.board_map.specs.Tree.{items_at}
use Rattle.board_map.specs.Values.{after}
use Rattle.box_config.specs.Texts.{from_tables}
use Rattle.acl_resolver.proofs.ReadablePlaces.{AreGood, IsGoodTable, good_split, moved, moved_append, parts_in, piece_of, places_in_parts}

-- the amount that a table gives, where there is one
abbrev pub amount : {T : Type 0} → (Members → T) → (T → ℕ) → Option Members → ℕ
amount f k None = 0
amount f k (Some ms) = k (f ms)

one_more : {T : Type 0} (f : Members → T) (Q : T → Type 0) (o : Option Members) (rest : List T) → ((ms : Members) → o ≡ Some ms → Q (f ms)) → AllByRecursion Q rest
    → AllByRecursion Q (option_to_list (option_map f o) ++ rest)
one_more f Q None rest here others = others
one_more f Q (Some ms) rest here others = (here ms refl, others)

one_amount : {T : Type 0} (f : Members → T) (k : T → ℕ) (o : Option Members) (rest : List T) → sum_by k (option_to_list (option_map f o) ++ rest) ≡ amount f k o + sum_by k rest
one_amount f k None rest = omega arith
one_amount f k (Some ms) rest = sum_by-cons k (f ms) rest

added : (a b c d e s z : ℕ) → a + b ≤ c → c + d ≤ e → s ≡ b + d → z ≡ e → a + s ≤ z
added a b c d e s z first rest is end = omega arith

module _ (piece : ℕ → Option Members → List Place) where
  -- what holds of each table holds of all that is read
  pub each_part : {T : Type 0} (f : Members → T) (Q : T → Type 0) → ((n : ℕ) (ms : Members) (t : Totals) → AreGood t (piece n (Some ms)) → Q (f ms))
      → (i : ℕ) (ds : Items) (t : Totals) → AreGood t (parts_in piece i ds) → AllByRecursion Q (from_tables f ds)
  each_part f Q step i no_items t good = tt
  each_part f Q step i (item d ds) t good =
      let split = good_split t (piece (number i) (as_table d)) (parts_in piece (i + 1) ds) good in
      one_more f Q (as_table d) (from_tables f ds)
      (λ ms is. step (number i) ms t (subst (λ (o : Option Members). AreGood t (piece (number i) o)) is split.0))
      (each_part f Q step (i + 1) ds (moved t (piece (number i) (as_table d))) split.1)

  -- what no table changes
  pub kept_part : {A : Type 0} (g : Totals → A) → ((n : ℕ) (o : Option Members) (t : Totals) → g (moved t (piece n o)) ≡ g t)
      → (i : ℕ) (ds : Items) (t : Totals) → g (moved t (parts_in piece i ds)) ≡ g t
  kept_part g keeps i no_items t = refl
  kept_part g keeps i (item d ds) t =
      ap g (moved_append t (piece (number i) (as_table d)) (parts_in piece (i + 1) ds))
      ∙ kept_part g keeps (i + 1) ds (moved t (piece (number i) (as_table d)))
      ∙ keeps (number i) (as_table d) t

  -- a number that no table raises past its limit
  pub bound_part : (g : Totals → ℕ) (most : ℕ) → ((n : ℕ) (o : Option Members) (t : Totals) → AreGood t (piece n o) → g t ≤ most → g (moved t (piece n o)) ≤ most)
      → (i : ℕ) (ds : Items) (t : Totals) → AreGood t (parts_in piece i ds) → g t ≤ most → g (moved t (parts_in piece i ds)) ≤ most
  bound_part g most step i no_items t good within = within
  bound_part g most step i (item d ds) t good within =
      let split = good_split t (piece (number i) (as_table d)) (parts_in piece (i + 1) ds) good in
      let here = step (number i) (as_table d) t split.0 within in
      subst (λ (n : ℕ). n ≤ most) (sym (ap g (moved_append t (piece (number i) (as_table d)) (parts_in piece (i + 1) ds))))
      (bound_part g most step (i + 1) ds (moved t (piece (number i) (as_table d))) split.1 here)

  -- a number that each table raises by an amount at least
  pub sum_part : {T : Type 0} (g : Totals → ℕ) (f : Members → T) (k : T → ℕ) → ((n : ℕ) (o : Option Members) (t : Totals) → AreGood t (piece n o) → g t + amount f k o ≤ g (moved t (piece n o)))
      → (i : ℕ) (ds : Items) (t : Totals) → AreGood t (parts_in piece i ds) → g t + sum_by k (from_tables f ds) ≤ g (moved t (parts_in piece i ds))
  sum_part g f k step i no_items t good = omega arith
  sum_part g f k step i (item d ds) t good =
      let mid = moved t (piece (number i) (as_table d)) in
      let split = good_split t (piece (number i) (as_table d)) (parts_in piece (i + 1) ds) good in
      added (g t) (amount f k (as_table d)) (g mid) (sum_by k (from_tables f ds)) (g (moved mid (parts_in piece (i + 1) ds)))
      (sum_by k (from_tables f (item d ds))) (g (moved t (parts_in piece i (item d ds))))
      (step (number i) (as_table d) t split.0)
      (sum_part g f k step (i + 1) ds mid split.1)
      (one_amount f k (as_table d) (from_tables f ds))
      (ap g (moved_append t (piece (number i) (as_table d)) (parts_in piece (i + 1) ds)))

good_parts : (f : Form) (b i : ℕ) (ds : Items) (t : Totals) → AreGood t (places_in f b i ds) → AreGood t (parts_in (piece_of f b) i ds)
good_parts f b i ds t good = subst (λ (ps : List Place). AreGood t ps) (places_in_parts f b i ds) good

same_moved : {A : Type 0} (g : Totals → A) (f : Form) (b i : ℕ) (ds : Items) (t : Totals) → g (moved t (places_in f b i ds)) ≡ g (moved t (parts_in (piece_of f b) i ds))
same_moved g f b i ds t = ap (λ (ps : List Place). g (moved t ps)) (places_in_parts f b i ds)

kept_place : {A : Type 0} (g : Totals → A) (f : Form) → ((ms : Members) (t : Totals) → g (after f ms t) ≡ g t) → (b n : ℕ) (o : Option Members) (t : Totals) → g (moved t (piece_of f b n o)) ≡ g t
kept_place g f keeps b n None t = refl
kept_place g f keeps b n (Some ms) t = keeps ms t

-- what tables of one kind don't change
pub kept_in : {A : Type 0} (g : Totals → A) (f : Form) → ((ms : Members) (t : Totals) → g (after f ms t) ≡ g t) → (b i : ℕ) (ds : Items) (t : Totals) → g (moved t (places_in f b i ds)) ≡ g t
kept_in g f keeps b i ds t = same_moved g f b i ds t ∙ kept_part (piece_of f b) g (kept_place g f keeps b) i ds t

bound_place : (g : Totals → ℕ) (most : ℕ) (f : Form) → ((ms : Members) (t : Totals) → IsGoodTable t f ms → g (after f ms t) ≤ most)
    → (b n : ℕ) (o : Option Members) (t : Totals) → AreGood t (piece_of f b n o) → g t ≤ most → g (moved t (piece_of f b n o)) ≤ most
bound_place g most f step b n None t good within = within
bound_place g most f step b n (Some ms) t good within = step ms t good.0

-- a number that tables of one kind don't raise past its limit
pub bound_in : (g : Totals → ℕ) (most : ℕ) (f : Form) → ((ms : Members) (t : Totals) → IsGoodTable t f ms → g (after f ms t) ≤ most)
    → (b i : ℕ) (ds : Items) (t : Totals) → AreGood t (places_in f b i ds) → g t ≤ most → g (moved t (places_in f b i ds)) ≤ most
bound_in g most f step b i ds t good within =
    subst (λ (n : ℕ). n ≤ most) (sym (same_moved g f b i ds t))
    (bound_part (piece_of f b) g most (bound_place g most f step b) i ds t (good_parts f b i ds t good) within)

sum_place : {T : Type 0} (g : Totals → ℕ) (f : Form) (u : Members → T) (k : T → ℕ) → ((ms : Members) (t : Totals) → IsGoodTable t f ms → g t + k (u ms) ≤ g (after f ms t))
    → (b n : ℕ) (o : Option Members) (t : Totals) → AreGood t (piece_of f b n o) → g t + amount u k o ≤ g (moved t (piece_of f b n o))
sum_place g f u k step b n None t good = omega arith
sum_place g f u k step b n (Some ms) t good = step ms t good.0

-- a number that tables of one kind raise by an amount each at least
pub sum_in : {T : Type 0} (g : Totals → ℕ) (f : Form) (u : Members → T) (k : T → ℕ) → ((ms : Members) (t : Totals) → IsGoodTable t f ms → g t + k (u ms) ≤ g (after f ms t))
    → (b i : ℕ) (ds : Items) (t : Totals) → AreGood t (places_in f b i ds) → g t + sum_by k (from_tables u ds) ≤ g (moved t (places_in f b i ds))
sum_in g f u k step b i ds t good =
    subst (λ (n : ℕ). g t + sum_by k (from_tables u ds) ≤ n) (sym (same_moved g f b i ds t))
    (sum_part (piece_of f b) g u k (sum_place g f u k step b) i ds t (good_parts f b i ds t good))

-- what none of these kinds changes
pub kept_sections : {A : Type 0} (g : Totals → A) (b : ℕ) (ms : Members) (fs : List Form) → AllByRecursion (λ f. (xs : Members) (t : Totals) → g (after f xs t) ≡ g t) fs
    → (t : Totals) → g (moved t (sections b ms fs)) ≡ g t
unfolding sections
kept_sections g b ms [] keeps t = refl
kept_sections g b ms (f ∷ fs) keeps t =
    ap g (moved_append t (places_in f b 0 (items_at (array_key f) ms)) (sections b ms fs))
    ∙ kept_sections g b ms fs keeps.1 (moved t (places_in f b 0 (items_at (array_key f) ms)))
    ∙ kept_in g f keeps.0 b 0 (items_at (array_key f) ms) t
