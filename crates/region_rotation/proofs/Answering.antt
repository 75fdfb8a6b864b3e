-- A search of a directory answers as a walk of the pairs would.
use Rattle.std.proofs.Common.{◌≡◌, ℕ, zero, suc, ◌+◌, ◌/◌, ◌≤◌, Bool, true, false, List, [], ◌∷◌, ◌++◌, ◌⊎◌, length, map, Option, Some, None, refl, sym, ap, ◌∙◌, subst, arith, inl, inr}
use Rattle.std.specs.Prelude.{◌&&◌, if◌then◌else◌, is_some, option_map, nat_le, nat_lt}
use Rattle.std.specs.List.{AllByRecursion, Contains, list_any, slice_get}
use Rattle.std.specs.List.Sorted.{IsPermutation}
use Rattle.std.proofs.lemmas.Bool.{and_from, cases_Bool, cases_order}
use Rattle.std.proofs.lemmas.Bool.Decides.{nat_tests}
use Rattle.std.proofs.lemmas.List.{length-map, length_push}
use Rattle.std.proofs.lemmas.List.Sorted.{Contains-permutation, IsPermutation-sym}
use Rattle.std.proofs.lemmas.Option.{get_or_from_slice_get, same_Some, slice_get-map, slice_get_read, slice_get_within}
use Rattle.addr_base.specs.declared.pairs.Pair.{Pair}
use Rattle.addr_base.specs.declared.rights.Kind.{Kind}
use Rattle.addr_base.specs.Range.{end_of, in_range}
use Rattle.flat_model.specs.declared.parts.BoxPart.{BoxPart}
use Rattle.flat_model.specs.declared.parts.Config.{Config}
use Rattle.flat_model.specs.declared.parts.Item.{Item}
use Rattle.flat_model.specs.Cover.{attributes, block_pair, cover_blocks, cover_of}
use Rattle.flat_model.specs.Decision.{matches, pair_gives}
use Rattle.flat_model.specs.Plan.{first_serving, grant_pairs, serves}
use Rattle.flat_model.proofs.Blocks.{IsBlock, each-blocks}
use Rattle.flat_model.proofs.Covers.{matches-block}
use Rattle.flat_model.proofs.Elements.{each-flat_map, each-get, each-map, list_any_at_get}
use Rattle.flat_model.proofs.Recovery.{IsFirst-first_serving, first_serving-any}
use Rattle.region_packer.specs.declared.directory.Block.{Block}
use Rattle.region_packer.specs.Directory.{DirectoryView, IsAscending, IsCoverable, block_of, grant_blocks}
use Rattle.region_packer.proofs.Ascending.{IsSpan-coverable, length-region}
use Rattle.region_rotation.specs.declared.home.HomePairs.{HomePairs}
use Rattle.region_rotation.specs.Directories.{AnswersFor, AreDirectories}
use Rattle.region_rotation.specs.Finding.{HasAt}
use Rattle.region_rotation.specs.Rotation.{home_pairs}
use Rattle.region_rotation.proofs.Serving.{first_serving-past}

-- ---- lists

contains-get : {X : Type 0} (xs : List X) (x : X) → Contains xs x → (i : ℕ) × (slice_get xs i ≡ Some x)
contains-get xs x it = (it.0, slice_get_read xs (length xs) it.0 x refl it.1 (sym it.2))

get-contains : {X : Type 0} (xs : List X) (i : ℕ) (x : X) → slice_get xs i ≡ Some x → Contains xs x
get-contains xs i x at = (i, slice_get_within xs i x at, get_or_from_slice_get xs i x x at)

none-serves : (a : ℕ) (kind : Kind) (ps : List Pair) → ((k : ℕ) (q : Pair) → slice_get ps k ≡ Some q → serves a kind q ≡ false) → first_serving a kind ps ≡ None
none-serves a kind [] off = refl
none-serves a kind (p ∷ ps) off = first_serving-past a kind p ps (off 0 p refl) ∙ none-serves a kind ps (λ k q at. off (suc k) q at)

off-by : (a : ℕ) (kind : Kind) (q : Pair) → matches q a ≡ false → serves a kind q ≡ false
off-by a kind q off = rw off refl

-- where one pair alone has an address, it is the first, if it gives the kind
module _ (a : ℕ) (kind : Kind) (ps : List Pair) (p : Pair) (only : (k : ℕ) (q : Pair) → slice_get ps k ≡ Some q → matches q a ≡ true → q ≡ p)
    (i : ℕ) (at : slice_get ps i ≡ Some p) (here : matches p a ≡ true) where
  given : pair_gives p kind ≡ true → (o : Option Pair) → first_serving a kind ps ≡ o → is_some o ≡ true → o ≡ Some p
  given gives None is some = absurd (cc)
  given gives (Some r) is some =
      let it = IsFirst-first_serving a kind ps r is in
      ap Some (only it.place r it.at it.matched)

  refused : pair_gives p kind ≡ false → (k : ℕ) (q : Pair) → slice_get ps k ≡ Some q → serves a kind q ≡ false
  refused none k q other = elim (cases_Bool (matches q a)) [
    | inr off ↦ off-by a kind q off
    | inl has ↦
        let same : q ≡ p = only k q other has in
        subst (λ (x : Pair). serves a kind x ≡ false) (sym same) (rw (here, none) refl)
  ]

  pub first-only : first_serving a kind ps ≡ (if pair_gives p kind then Some p else None)
  first-only = elim (cases_Bool (pair_gives p kind)) [
    | inl gives ↦
        let any : list_any (serves a kind) ps ≡ true =
        list_any_at_get (serves a kind) ps i p at (and_from (matches p a) (pair_gives p kind) here gives) in
        given gives (first_serving a kind ps) refl (first_serving-any a kind ps ∙ any)
        ∙ ap (λ t. if t then Some p else None) (sym gives)
    | inr none ↦ none-serves a kind ps (refused none) ∙ ap (λ t. if t then Some p else None) (sym none)
  ]

-- ---- regions of covers

-- the region matches exactly the addresses of its block
IsPlain : Pair → Type 0
IsPlain p = (a : ℕ) → matches p a ≡ in_range (block_of p).part a

each_plain : (grants : List Item) → AllByRecursion IsCoverable grants → AllByRecursion IsPlain (grant_pairs grants)
unfolding IsPlain
each_plain grants each =
    each-flat_map (λ g. cover_of g.range g.rights) IsCoverable IsPlain
    (λ g it. each-map (block_pair (attributes g.rights)) (IsBlock g.range.base (end_of g.range)) IsPlain
    (λ block is a.
    matches-block block g.rights is.enough is.limit a
    ∙ ap (λ n. nat_le block.base a && nat_lt a (block.base + n)) (sym (length-region g.rights block is.enough is.limit)))
    (cover_blocks g.range)
    (each-blocks (g.range.len / 32) g.range.base (end_of g.range) g.range.base (IsSpan-coverable g it) (omega arith)))
    grants each

-- ---- a directory

module _ (grants : List Item) (blocks : List Block) (each : AllByRecursion IsCoverable grants)
    (same : IsPermutation (grant_blocks grants) blocks) (up : IsAscending blocks) where
  plain : (k : ℕ) (q : Pair) → slice_get (grant_pairs grants) k ≡ Some q → (a : ℕ) → matches q a ≡ in_range (block_of q).part a
  unfolding IsPlain
  plain k q at = each-get IsPlain (grant_pairs grants) k q (each_plain grants each) at

  lookup : (k : ℕ) (q : Pair) → slice_get (grant_pairs grants) k ≡ Some q → (j : ℕ) × (slice_get blocks j ≡ Some (block_of q))
  lookup k q at =
      contains-get blocks (block_of q)
      (Contains-permutation (grant_blocks grants) blocks (block_of q) same
      (get-contains (grant_blocks grants) k (block_of q) (slice_get-map block_of (grant_pairs grants) k ∙ ap (option_map block_of) at)))

  pair_of_block : (o : Option Pair) (b : Block) → option_map block_of o ≡ Some b → (p : Pair) × (o ≡ Some p) × (block_of p ≡ b)
  pair_of_block None b is = absurd (cc)
  pair_of_block (Some p) b is = (p, refl, same_Some (block_of p) b is)

  back : (j : ℕ) (b : Block) → slice_get blocks j ≡ Some b → (k : ℕ) × (p : Pair) × (slice_get (grant_pairs grants) k ≡ Some p) × (block_of p ≡ b)
  back j b at =
      let it = contains-get (grant_blocks grants) b
      (Contains-permutation blocks (grant_blocks grants) b (IsPermutation-sym (grant_blocks grants) blocks same) (get-contains blocks j b at)) in
      let found = pair_of_block (slice_get (grant_pairs grants) it.0) b (sym (slice_get-map block_of (grant_pairs grants) it.0) ∙ it.1) in
      (it.0, found.0, found.1, found.2)

  apart : (x y : Block) (a : ℕ) → end_of x.part ≤ y.part.base → in_range x.part a ≡ true → in_range y.part a ≡ true → ⊥
  apart x y a order here there = grind (arith, nat_tests)

  alone : (i j a : ℕ) (x y : Block) → slice_get blocks i ≡ Some x → slice_get blocks j ≡ Some y → in_range x.part a ≡ true → in_range y.part a ≡ true → x ≡ y
  alone i j a x y at other here there = elim (cases_order i j) [
    | inl e ↦ same_Some x y (sym at ∙ ap (slice_get blocks) e ∙ other)
    | inr apart_by ↦ elim apart_by [
      | inl before ↦ absurd (apart x y a (up i j x y before at other) here there)
      | inr behind ↦ absurd (apart y x a (up j i y x behind other at) there here)
    ]
  ]

  -- the search answers as a walk of the grants' pairs would
  pub AnswersFor-directory : AnswersFor (grant_pairs grants) blocks
  AnswersFor-directory = record {
    found = λ i a kind block at here.
        let it = back i block at in
        let p : Pair = it.1 in
        let its : block.pair ≡ p = ap (λ (b : Block). b.pair) (sym it.3) in
        let in_p : in_range (block_of p).part a ≡ true = ap (λ (b : Block). in_range b.part a) it.3 ∙ here in
        let has : matches p a ≡ true = plain it.0 p it.2 a ∙ in_p in
        let only = λ (k : ℕ) (q : Pair) (at_k : slice_get (grant_pairs grants) k ≡ Some q) (has_q : matches q a ≡ true).
        let found = lookup k q at_k in
        let one : block_of q ≡ block = alone found.0 i a (block_of q) block found.1 at (sym (plain k q at_k a) ∙ has_q) here in
        ap (λ (b : Block). b.pair) (one ∙ sym it.3) in
        first-only a kind (grant_pairs grants) p only it.0 it.2 has
        ∙ ap (λ (x : Pair). if pair_gives x kind then Some x else None) (sym its);
    missed = λ a kind off. none-serves a kind (grant_pairs grants) (λ k q at.
        let found = lookup k q at in
        off-by a kind q (plain k q at a ∙ off found.0 (block_of q) found.1));
  }

-- the block that a search found, looked at once more
pub granted-found : (pairs : List Pair) (old now : DirectoryView) (a : ℕ) (kind : Kind) (i : ℕ) (block : Block) (gives : Bool) → AnswersFor pairs old.blocks →
    HasAt old.blocks a i → now.blocks ≡ old.blocks → slice_get now.blocks i ≡ Some block → pair_gives block.pair kind ≡ gives →
    first_serving a kind pairs ≡ (if gives then Some block.pair else None)
granted-found pairs old now a kind i block gives it has kept at is =
    let there : slice_get old.blocks i ≡ Some block = ap (λ (bs : List Block). slice_get bs i) (sym kept) ∙ at in
    let same : has.0 ≡ block = same_Some has.0 block (sym has.1 ∙ there) in
    it.found i a kind block there (subst (λ (b : Block). in_range b.part a ≡ true) same has.2)
    ∙ ap (λ t. if t then Some block.pair else None) is

-- ---- the directories of all boxes

-- each of the boxes so far has its directory
pub record IsListed (parts : List BoxPart) (directories : List DirectoryView) (n : ℕ) : Type 0 where
  pub as_many : length directories ≡ n
  pub answers : (b : ℕ) (part : BoxPart) (directory : DirectoryView) → slice_get parts b ≡ Some part
      → slice_get directories b ≡ Some directory → AnswersFor (grant_pairs part.grants) directory.blocks

pub IsListed-none : (parts : List BoxPart) → IsListed parts [] 0
IsListed-none parts = record { as_many = refl; answers = λ b part directory at found. absurd (cc) }

slice_get-push : {X : Type 0} (xs : List X) (x y : X) (i : ℕ) → slice_get (xs ++ x ∷ []) i ≡ Some y → (slice_get xs i ≡ Some y) ⊎ ((i ≡ length xs) × (x ≡ y))
slice_get-push [] x y zero at = inr (refl, same_Some x y at)
slice_get-push [] x y (suc i) at = absurd (cc)
slice_get-push (z ∷ xs) x y zero at = inl at
slice_get-push (z ∷ xs) x y (suc i) at = elim (slice_get-push xs x y i at) [
  | inl found ↦ inl found
  | inr last ↦ inr (ap suc last.0, last.1)
]

-- one box more
pub IsListed-more : (parts : List BoxPart) (directories : List DirectoryView) (n : ℕ) (part : BoxPart) (directory : DirectoryView) →
    IsListed parts directories n → slice_get parts n ≡ Some part → AnswersFor (grant_pairs part.grants) directory.blocks →
    IsListed parts (directories ++ directory ∷ []) (n + 1)
IsListed-more parts directories n part directory it at is = record {
  as_many = length_push directories directory ∙ ap (λ k. k + 1) it.as_many;
  answers = λ b other its found at_b. elim (slice_get-push directories directory its b at_b) [
    | inl before ↦ it.answers b other its found before
    | inr last ↦
        let here : b ≡ n = last.0 ∙ it.as_many in
        let same : part ≡ other = same_Some part other (sym at ∙ ap (slice_get parts) (sym here) ∙ found) in
        subst (λ (d : DirectoryView). AnswersFor (grant_pairs other.grants) d.blocks) last.1
        (subst (λ (x : BoxPart). AnswersFor (grant_pairs x.grants) directory.blocks) same is)
  ];
}

-- all boxes
pub AreDirectories-listed : (cfg : Config) (directories : List DirectoryView) → IsListed cfg.boxes directories (length cfg.boxes) → AreDirectories (map (home_pairs cfg) cfg.boxes) directories
AreDirectories-listed cfg directories it = record {
  as_many = it.as_many ∙ sym (length-map cfg.boxes (home_pairs cfg));
  answers = λ b home directory at found. of_home b home directory at found (slice_get cfg.boxes b) refl;
}
  where
    of_home : (b : ℕ) (home : HomePairs) (directory : DirectoryView) → slice_get (map (home_pairs cfg) cfg.boxes) b ≡ Some home → slice_get directories b ≡ Some directory → (o : Option BoxPart) → slice_get cfg.boxes b ≡ o → AnswersFor home.grants directory.blocks
    of_home b home directory at found None none =
        absurd (let e : None ≡ Some home = sym (slice_get-map (home_pairs cfg) cfg.boxes b ∙ ap (option_map (home_pairs cfg)) none) ∙ at in cc)
    of_home b home directory at found (Some part) is =
        let same : home_pairs cfg part ≡ home = same_Some (home_pairs cfg part) home (sym (slice_get-map (home_pairs cfg) cfg.boxes b ∙ ap (option_map (home_pairs cfg)) is) ∙ at) in
        subst (λ (h : HomePairs). AnswersFor h.grants directory.blocks) same (it.answers b part directory is found)
