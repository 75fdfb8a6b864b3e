-- Which nodes a list has, once one more stands in it and once one is taken out.
use Rattle.std.proofs.Common.{◌≡◌, ◌≢◌, ℕ, ◌+◌, ◌<◌, ◌≤◌, true, false, not, ◌||◌, cond, eqb, List, [], ◌∷◌, ◌++◌, length, refl, sym, ap, ◌∙◌, arith, inl, inr}
use Rattle.std.specs.List.{AllByRecursion, IsDistinct}
use Rattle.std.proofs.lemmas.Bool.{cases_Bool, cases_eq, or_from, or_parts, eqb-true, eq-eqb, ne_eqb}
use Rattle.std.proofs.lemmas.Bool.Decides.{nat_tests}
use Rattle.std.proofs.lemmas.List.Folds.{list_any-append}
use Rattle.std.proofs.lemmas.Map.Steps.{length-le_from_distinct_below}
use Rattle.index_list.specs.Arena.{AreOnce, has_node, without}

-- a list with one more node has that node, and those that it had
pub has_node-last : (n node : ℕ) (nodes : List ℕ) → has_node n (nodes ++ node ∷ []) ≡ (has_node n nodes || eqb n node)
has_node-last n node nodes = grind (arith, list_any-append (eqb n) nodes (node ∷ []))

-- a node that stood in no place of a list comes once in it when it is put last
pub AreOnce-last : (nodes : List ℕ) (node : ℕ) → AreOnce nodes → has_node node nodes ≡ false → AreOnce (nodes ++ node ∷ [])
AreOnce-last [] node once absent = (refl, tt)
AreOnce-last (n ∷ nodes) node once absent =
    let parts = or_parts (eqb node n) (has_node node nodes) absent in
    let apart : eqb n node ≡ false = grind (arith, nat_tests, parts.0) in (
      has_node-last n node nodes ∙ or_from (has_node n nodes) (eqb n node) once.0 apart,
      AreOnce-last nodes node once.1 parts.1,
    )

-- a list without a node that it doesn't have is the same
pub without-absent : (node : ℕ) (nodes : List ℕ) → has_node node nodes ≡ false → without node nodes ≡ nodes
without-absent node [] absent = refl
without-absent node (n ∷ nodes) absent =
    let parts = or_parts (eqb node n) (has_node node nodes) absent in
    ap (λ b. cond (not b) (n ∷ without node nodes) (without node nodes)) parts.0
    ∙ ap (λ ns. n ∷ ns) (without-absent node nodes parts.1)

-- a list without its first node, which comes once
pub without-first : (node : ℕ) (nodes : List ℕ) → has_node node nodes ≡ false → without node (node ∷ nodes) ≡ nodes
without-first node nodes absent =
    ap (λ b. cond (not b) (node ∷ without node nodes) (without node nodes)) (eq-eqb node node refl)
    ∙ without-absent node nodes absent

-- a list without another node than its first one
pub without-later : (node n : ℕ) (nodes : List ℕ) → eqb node n ≡ false → without node (n ∷ nodes) ≡ n ∷ without node nodes
without-later node n nodes apart =
    ap (λ b. cond (not b) (n ∷ without node nodes) (without node nodes)) apart

-- a list without a node doesn't have it
pub has_node-without_same : (node : ℕ) (nodes : List ℕ) → has_node node (without node nodes) ≡ false
has_node-without_same node [] = refl
has_node-without_same node (n ∷ nodes) =
    elim (cases_Bool (eqb node n)) [
      | inl same ↦
          ap (λ b. has_node node (cond (not b) (n ∷ without node nodes) (without node nodes))) same
          ∙ has_node-without_same node nodes
      | inr apart ↦
          ap (has_node node) (without-later node n nodes apart)
          ∙ or_from (eqb node n) (has_node node (without node nodes)) apart (has_node-without_same node nodes)
    ]

-- it has each other node that the list has
pub has_node-without_other : (node n : ℕ) (nodes : List ℕ) → n ≢ node → has_node n (without node nodes) ≡ has_node n nodes
has_node-without_other node n [] other = refl
has_node-without_other node n (m ∷ nodes) other =
    elim (cases_Bool (eqb node m)) [
      | inl same ↦
          let here : eqb n m ≡ false = ne_eqb n m (λ e. other (e ∙ sym (eqb-true node m same))) in
          ap (λ b. has_node n (cond (not b) (m ∷ without node nodes) (without node nodes))) same
          ∙ has_node-without_other node n nodes other
          ∙ ap (λ b. b || has_node n nodes) (sym here)
      | inr apart ↦
          ap (has_node n) (without-later node m nodes apart)
          ∙ ap (λ b. eqb n m || b) (has_node-without_other node n nodes other)
    ]

has_node-without_false : (node n : ℕ) (nodes : List ℕ) → has_node n nodes ≡ false → has_node n (without node nodes) ≡ false
has_node-without_false node n nodes absent =
    elim (cases_eq n node) [
      | inl same ↦ ap (λ m. has_node m (without node nodes)) same ∙ has_node-without_same node nodes
      | inr other ↦ has_node-without_other node n nodes other ∙ absent
    ]

-- what comes once comes once without one of them
pub AreOnce-without : (node : ℕ) (nodes : List ℕ) → AreOnce nodes → AreOnce (without node nodes)
AreOnce-without node [] once = tt
AreOnce-without node (n ∷ nodes) once =
    elim (eqb node n) as (λ b. AreOnce (cond (not b) (n ∷ without node nodes) (without node nodes))) [
      | true ↦ AreOnce-without node nodes once.1
      | false ↦ (has_node-without_false node n nodes once.0, AreOnce-without node nodes once.1)
    ]

each_apart : (n : ℕ) (nodes : List ℕ) → has_node n nodes ≡ false → AllByRecursion (λ m. eqb n m ≡ false) nodes
each_apart n [] absent = tt
each_apart n (m ∷ nodes) absent =
    let parts = or_parts (eqb n m) (has_node n nodes) absent in (parts.0, each_apart n nodes parts.1)

AreOnce-distinct : (nodes : List ℕ) → AreOnce nodes → IsDistinct eqb nodes
unfolding IsDistinct
AreOnce-distinct [] once = tt
AreOnce-distinct (n ∷ nodes) once = (each_apart n nodes once.0, AreOnce-distinct nodes once.1)

-- there are at most as many as there are numbers for them
pub length-once : (nodes : List ℕ) (most : ℕ) → AreOnce nodes → ((n : ℕ) → has_node n nodes ≡ true → n < most) → length nodes ≤ most
length-once nodes most once within = length-le_from_distinct_below nodes most (AreOnce-distinct nodes once) within
