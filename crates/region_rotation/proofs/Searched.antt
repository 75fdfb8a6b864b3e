-- The directory of the box that was entered last, and what a search of it tells of the box's plan.
use Rattle.std.proofs.Common.{◌≡◌, ℕ, ◌<◌, List, Option, Some, length, get_or, set, refl, sym, ◌∙◌, ap, subst, arith, inl, inr}
use Rattle.std.specs.Prelude.{IfSome}
use Rattle.std.specs.List.{slice_get}
use Rattle.std.proofs.lemmas.Bool.{cases_eq}
use Rattle.std.proofs.lemmas.Option.{same_Some, slice_get_read}
use Rattle.std.proofs.Math.ListN.{length-set}
use Rattle.addr_base.specs.declared.identity.BoxId.{BoxId}
use Rattle.addr_base.specs.declared.pairs.Pair.{Pair}
use Rattle.addr_base.specs.declared.rights.Kind.{Kind}
use Rattle.flat_model.specs.declared.boards.HeapPart.{HeapPart}
use Rattle.flat_model.specs.Plan.{first_serving}
use Rattle.flat_model.proofs.Elements.{slice_get-set_other, slice_get-set_same, slice_get_some}
use Rattle.region_packer.specs.Directory.{DirectoryView}
use Rattle.region_rotation.specs.declared.home.HomePairs.{HomePairs}
use Rattle.region_rotation.specs.Directories.{AnswersFor, AreDirectories}
use Rattle.region_rotation.specs.Ready.{plan_at}

-- the box that was entered last is one of those that have a home
last_below : (homes : List HomePairs) (last : Option BoxId) (b : BoxId) → IfSome last (λ x. x.0 < length homes) → last ≡ Some b → b.0 < length homes
last_below homes last b known is = rw is at known

-- and so it has a directory
pub directory_below : (homes : List HomePairs) (directories : List DirectoryView) (last : Option BoxId) (b : BoxId) (i : ℕ) →
    IfSome last (λ x. x.0 < length homes) → last ≡ Some b → i ≡ b.0 → AreDirectories homes directories → i < length directories
directory_below homes directories last b i known is at it = omega (arith, last_below homes last b known is, at, it.as_many)

-- a directory that is put back with the same blocks answers as before
pub AreDirectories-set : (homes : List HomePairs) (directories : List DirectoryView) (i : ℕ) (old new : DirectoryView) → AreDirectories homes directories →
    i < length directories → old ≡ get_or directories i old → new.blocks ≡ old.blocks → AreDirectories homes (set directories i new)
AreDirectories-set homes directories i old new it below read same = record {
  as_many = length-set directories i new ∙ it.as_many;
  answers = λ b home directory at found. elim (cases_eq b i) [
    | inl here ↦
        let put : new ≡ directory =
        same_Some new directory (sym (slice_get-set_same directories i new below) ∙ ap (slice_get (set directories i new)) (sym here) ∙ found) in
        let was : slice_get directories b ≡ Some old =
        ap (slice_get directories) here ∙ slice_get_read directories (length directories) i old refl below read in
        subst (AnswersFor home.grants) (sym same ∙ ap (λ (d : DirectoryView). d.blocks) put) (it.answers b home old at was)
    | inr other ↦ it.answers b home directory at (sym (slice_get-set_other directories i b new other) ∙ found)
  ];
}

-- the box has its regions, and the search answered as a walk of its plan would
pub record IsSearched (homes : List HomePairs) (heap : Option HeapPart) (b : BoxId) (a : ℕ) (kind : Kind) (owners : List (Option BoxId)) (o : Option Pair) : Type 0 where
  pub home : HomePairs
  pub at : slice_get homes b.0 ≡ Some home
  pub first : first_serving a kind (plan_at heap home b.0 owners) ≡ o

pub IsSearched-from : (homes : List HomePairs) (directories : List DirectoryView) (heap : Option HeapPart) (last : Option BoxId) (b : BoxId) (i : ℕ) (directory : DirectoryView)
    (a : ℕ) (kind : Kind) (owners slice : List (Option BoxId)) (found o : Option Pair) →
    IfSome last (λ x. x.0 < length homes) → last ≡ Some b → i ≡ b.0 → AreDirectories homes directories → directory ≡ get_or directories i directory →
    ((home : HomePairs) → AnswersFor home.grants directory.blocks → found ≡ first_serving a kind (plan_at heap home b.0 slice)) →
    slice ≡ owners → found ≡ o → IsSearched homes heap b a kind owners o
IsSearched-from homes directories heap last b i directory a kind owners slice found o known is at it read by same was =
    let place = slice_get_some homes b.0 (last_below homes last b known is) in
    let there : slice_get directories b.0 ≡ Some directory =
    subst (λ n. slice_get directories n ≡ Some directory) at
    (slice_get_read directories (length directories) i directory refl (directory_below homes directories last b i known is at it) read) in
    record {
      home = place.0;
      at = place.1;
      first = ap (λ xs. first_serving a kind (plan_at heap place.0 b.0 xs)) (sym same) ∙ sym (by place.0 (it.answers b.0 place.0 directory place.1 there)) ∙ was;
    }
