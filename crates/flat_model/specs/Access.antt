-- What a box may access: its items, and the pages that it owns.
use Rattle.std.specs.Prelude.{ℕ, ◌+◌, ◌%◌, Bool, true, false, ◌&&◌, ◌||◌, nat_eq, nat_le, Option, Some, None, List, [], ◌∷◌, slice_get, unwrap_or}
use Rattle.std.specs.List.{list_any}
use Rattle.std.specs.Option.{option_map_or}
use Rattle.addr_base.specs.declared.identity.BoxId.{BoxId}
use Rattle.addr_base.specs.declared.rights.Kind.{Kind}
use Rattle.addr_base.specs.declared.rights.Kind.TheVariants.{Read, Write, Fetch}
use Rattle.addr_base.specs.Range.{holds_bytes}
use Rattle.addr_base.specs.Rights.{gives}
use Rattle.flat_model.specs.declared.boards.HeapPart.{HeapPart}
use Rattle.flat_model.specs.declared.parts.Config.{Config}
use Rattle.flat_model.specs.declared.parts.Item.{Item}

-- whether an address is a multiple of the size of the access
abbrev pub is_aligned : ℕ → ℕ → Bool
is_aligned a n = nat_eq (a % n) 0

-- whether the item contains the n bytes from a, and gives the kind
abbrev pub item_holds : ℕ → ℕ → Kind → Item → Bool
item_holds a n kind item = holds_bytes item.range a n && gives item.rights kind

-- the items of the box with this number
abbrev pub items_at : Config → ℕ → List Item
items_at cfg b = option_map_or (λ part. part.items) (slice_get cfg.boxes b) []

-- whether a page of this owner belongs to the box with this number
abbrev pub owned_by : ℕ → Option BoxId → Bool
owned_by b None = false
owned_by b (Some owner) = nat_eq owner.0 b

-- who owns the frame with this number
abbrev pub owner_of : List (Option BoxId) → ℕ → Option BoxId
owner_of owners frame = unwrap_or (slice_get owners frame) None

-- whether the box with this number owns the frame
abbrev pub owns : List (Option BoxId) → ℕ → ℕ → Bool
owns owners b frame = owned_by b (owner_of owners frame)

-- whether the n bytes from a lie in one own page; the first of the pages begins at the base
abbrev pub in_pages : {A : Type 0} → (A → Bool) → ℕ → ℕ → ℕ → ℕ → List A → Bool
in_pages is_own base page a n [] = false
in_pages is_own base page a n (x ∷ xs) =
    (is_own x && nat_le base a && nat_le (a + n) (base + page)) || in_pages is_own (base + page) page a n xs

-- whether the n bytes from a lie in one own page of the heap
abbrev pub in_heap : {A : Type 0} → (A → Bool) → Option HeapPart → ℕ → ℕ → List A → Bool
in_heap is_own None a n xs = false
in_heap is_own (Some heap) a n xs = in_pages is_own heap.base heap.page a n xs

-- whether the kind of access is no fetch
abbrev pub is_data : Kind → Bool
is_data Read = true
is_data Write = true
is_data Fetch = false

-- whether a box that has these items, and of these pages its own, may access the n bytes from a in this way
abbrev pub may_access : {A : Type 0} → (A → Bool) → List Item → Option HeapPart → List A → ℕ → ℕ → Kind → Bool
may_access is_own items heap pages a n kind =
    is_aligned a n
    && (list_any (item_holds a n kind) items
    || (is_data kind && in_heap is_own heap a n pages))

-- whether the box with this number holds the n bytes from a for this kind of access
abbrev pub holds : Config → List (Option BoxId) → ℕ → ℕ → ℕ → Kind → Bool
holds cfg owners b a n kind = may_access (owned_by b) (items_at cfg b) cfg.board.heap owners a n kind
