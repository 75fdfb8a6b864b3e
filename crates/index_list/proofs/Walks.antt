-- The lists that an arena's links determine, and which list a node stands in.
use Rattle.std.proofs.Common.{◌≡◌, ◌≢◌, ℕ, zero, suc, ◌+◌, ◌-◌, ◌<◌, ◌≤◌, true, false, Option, Some, None, IsSome, eqb, get_or, List, [], ◌∷◌, length, slice_get, refl, sym, ap, ◌∙◌, arith, inl, inr, ext_get_or}
use Rattle.std.proofs.lemmas.Bool.{cases_lt, eq-eqb, false_from_ne_true, false≢true, or_left, or_right}
use Rattle.std.proofs.lemmas.List.{get_or_past}
use Rattle.index_list.specs.Arena.{AreApart, has_node, list_at, list_with}
use Rattle.index_list.specs.Kept.{IsKept, lists_of, walk, walks}
use Rattle.index_list.proofs.Found.{found_passes, none_passes, position_from-first, position_from-none, position_from-some}
use Rattle.index_list.proofs.Lists.{length-once}
use Rattle.index_list.proofs.Rings.{walk_is}

length-walks : (most : ℕ) (next : List ℕ) (seat seats : ℕ) → length (walks most next seat seats) ≡ seats
length-walks most next seat zero = refl
length-walks most next seat (suc seats) = ap suc (length-walks most next (seat + 1) seats)

walks-at : (most : ℕ) (next : List ℕ) (seat seats list : ℕ) → list < seats →
    get_or (walks most next seat seats) list [] ≡ walk most next (seat + list) (get_or next (seat + list) 0)
walks-at most next seat zero list below = absurd (omega arith)
walks-at most next seat (suc seats) zero below =
    let same : seat ≡ seat + 0 = omega arith in ap (λ s. walk most next s (get_or next s 0)) same
walks-at most next seat (suc seats) (suc list) below =
    let same : (seat + 1) + list ≡ seat + suc list = omega arith in
    walks-at most next (seat + 1) seats list (omega arith) ∙ ap (λ s. walk most next s (get_or next s 0)) same

-- no seat stands in a list
pub seat_absent : (nodes : ℕ) (next prev : List ℕ) (owner : List (Option ℕ)) (lists : List (List ℕ)) (seat list : ℕ) →
    IsKept nodes next prev owner lists → nodes ≤ seat → has_node seat (list_at lists list) ≡ false
seat_absent nodes next prev owner lists seat list kept past =
    false_from_ne_true (has_node seat (list_at lists list)) (λ has. absurd (omega (arith, (kept.owned list seat has).0)))

-- the links determine the lists
pub lists_is : (nodes : ℕ) (next prev : List ℕ) (owner : List (Option ℕ)) (lists : List (List ℕ)) →
    IsKept nodes next prev owner lists → lists_of nodes next ≡ lists
lists_is nodes next prev owner lists kept =
    let seats = length next - nodes in
    let many : seats ≡ length lists = omega (arith, kept.nexts) in
    let as_many : length (lists_of nodes next) ≡ length lists = length-walks nodes next nodes seats ∙ many in
    ext_get_or [] (lists_of nodes next) lists as_many (λ list below.
    let within : list < length lists = omega (arith, as_many) in
    let seated : list < seats = omega (arith, many) in
    walks-at nodes next nodes seats list seated
    ∙ walk_is next prev nodes (nodes + list) (list_at lists list) (nodes + list) (kept.rings list within)
    (seat_absent nodes next prev owner lists (nodes + list) list kept (omega arith))
    (length-once (list_at lists list) nodes (kept.once list) (λ n has. (kept.owned list n has).0)))

-- a list with a node is one of the lists
pub has_within : (lists : List (List ℕ)) (list node : ℕ) → has_node node (list_at lists list) ≡ true → list < length lists
has_within lists list node has =
    elim (cases_lt list (length lists)) [
      | inl below ↦ below
      | inr past ↦ absurd (false≢true (sym (ap (has_node node) (get_or_past lists list [] past)) ∙ has))
    ]

owner_like : (nodes : ℕ) (next prev : List ℕ) (owner : List (Option ℕ)) (lists : List (List ℕ)) (node : ℕ) (o : Option ℕ) →
    IsKept nodes next prev owner lists → node < nodes → get_or owner node None ≡ o → o ≡ list_with lists node
owner_like nodes next prev owner lists node None kept within is =
    sym (position_from-none (has_node node) 0 lists [] (λ k below.
    false_from_ne_true (has_node node (list_at lists k)) (λ has. absurd (cc (is, (kept.owned k node has).1)))))
owner_like nodes next prev owner lists node (Some list) kept within is =
    let has = kept.stands list node within is in
    let same : 0 + list ≡ list = omega arith in
    sym (position_from-first (has_node node) 0 lists list [] (has_within lists list node has) has (λ k below.
    false_from_ne_true (has_node node (list_at lists k)) (λ other.
    let again : k ≡ list = cc (is, (kept.owned k node other).1) in absurd (omega arith)))
    ∙ ap Some same)

-- the owner of a node is the list with it
pub owner_is : (nodes : ℕ) (next prev : List ℕ) (owner : List (Option ℕ)) (lists : List (List ℕ)) (node : ℕ) →
    IsKept nodes next prev owner lists → node < nodes → get_or owner node None ≡ list_with lists node
owner_is nodes next prev owner lists node kept within =
    owner_like nodes next prev owner lists node (get_or owner node None) kept within refl

-- a list with a node is found
pub list_found : (lists : List (List ℕ)) (node : ℕ) → IsSome (list_with lists node) →
    (list : ℕ) × (has_node node (list_at lists list) ≡ true)
list_found lists node found = some_found lists node (list_with lists node) refl found
  where
    some_found : (lists : List (List ℕ)) (node : ℕ) (o : Option ℕ) → list_with lists node ≡ o → IsSome o →
        (list : ℕ) × (has_node node (list_at lists list) ≡ true)
    some_found lists node None is found = absurd (cc)
    some_found lists node (Some r) is found =
        let it = found_passes (has_node node) 0 lists r [] is in (it.0, it.3)

-- the lists of an arena share no node
pub apart_lists : (nodes : ℕ) (next prev : List ℕ) (owner : List (Option ℕ)) (lists : List (List ℕ)) →
    IsKept nodes next prev owner lists → AreApart (record { nodes = nodes; lists = lists })
apart_lists nodes next prev owner lists kept = record {
  within = λ list node has. (kept.owned list node has).0;
  once = kept.once;
  one_list = λ first second node one other. cc ((kept.owned first node one).1, (kept.owned second node other).1);
}

-- a node that a list has stands in some list
pub list_with-some : (lists : List (List ℕ)) (list node : ℕ) → has_node node (list_at lists list) ≡ true →
    IsSome (list_with lists node)
list_with-some lists list node has =
    position_from-some (has_node node) 0 lists list [] (has_within lists list node has) has

-- a node that no list has stands in none
pub list_with-none : (lists : List (List ℕ)) (node : ℕ) →
    ((list : ℕ) → list < length lists → has_node node (list_at lists list) ≡ false) → list_with lists node ≡ None
list_with-none lists node each = position_from-none (has_node node) 0 lists [] each

-- a node has a place in a list, so the list has it
pub has_node-at : (nodes : List ℕ) (place node : ℕ) → slice_get nodes place ≡ Some node → has_node node nodes ≡ true
has_node-at [] place node at = absurd (cc)
has_node-at (n ∷ nodes) zero node at =
    let same : node ≡ n = cc in or_left (eqb node n) (has_node node nodes) (eq-eqb node n same)
has_node-at (n ∷ nodes) (suc place) node at =
    or_right (eqb node n) (has_node node nodes) (has_node-at nodes place node at)

-- a node that stands in no list is in none
pub none_has : (lists : List (List ℕ)) (node list : ℕ) → list_with lists node ≡ None →
    has_node node (list_at lists list) ≡ false
none_has lists node list none =
    elim (cases_lt list (length lists)) [
      | inl below ↦ none_passes (has_node node) 0 lists list [] none below
      | inr past ↦ ap (has_node node) (get_or_past lists list [] past)
    ]
