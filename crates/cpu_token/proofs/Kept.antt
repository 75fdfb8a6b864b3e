-- Each step on the token's word keeps its rule.
use Rattle.std.proofs.Common.{◌≡◌, ◌≢◌, ℕ, ◌+◌, ◌^◌, ◌%◌, ◌≤◌, List, [], ◌∷◌, length, set, eqb, get_or, Option, Some, None, refl, ap, sym, ◌∙◌, subst, arith, length-set, get_or-set_same}
use mathlib.Core.Option.{some, none, some-injective}
use mathlib.Core.Option as maybe
use mathlib.Core.Logic.{dite}
use native.Mathlib.Decide.{dec_lt}
use lib.ListN.{get_elem?}
use Rattle.std.proofs.lemmas.List.Elements.{All-cons, All-nil}
use prog.Atomic.{either}
use Rattle.atomic_table.specs.Table.{State, Me, Step, step, Act, keeps, takes, gives, stepped, Allows, Splits, Joins}
use Rattle.atomic_table.proofs.Lists.{set_here, exchanged}
use Rattle.shared_views.specs.Views.{of_views, Every, is_at}
use Rattle.shared_views.proofs.Views.{within, two_parts, swapped, counted, apart, turned, at_part, is_at-same}
use Rattle.cpu_token.specs.declared.part.PassPart.{PassPart}
use Rattle.cpu_token.specs.Parts.{part_number, looked_part, missed_part, holding_part, giving_part}
use Rattle.cpu_token.specs.TokenRule.{one_if_held, is_holder, Agrees, TokenRule}
use Rattle.cpu_token.specs.Plays.{looked, claimed, gave, KnowsValue}

module _ {A : Type 0} where
  abbrev pub some_or : A → Option A → A
  some_or d None = d
  some_or d (Some x) = x

  abbrev first_some : A → List (ℕ × Option A) → A
  first_some d [] = d
  first_some d (x ∷ xs) = some_or d x.1

  pub some_is : (a b : A) → Some a ≡ Some b → a ≡ b
  some_is a b e = ap (some_or a) e

  abbrev slot_with : A → List (ℕ × Option A)
  slot_with a = (0, Some a) ∷ []

  pub taken_is : (a b : A) → slot_with a ≡ slot_with b → a ≡ b
  taken_is a b e = ap (first_some a) e

one_holder : (o : Option ℕ) (h : ℕ) → o ≡ Some h → one_if_held o ≡ 1
one_holder o h e = ap one_if_held e

at_most_one : (w : ℕ) → w % 2 ≤ 1
at_most_one w = omega arith

module _ {V E F : Type 0} (entries : V → ℕ → List E) (fixed : V → F) (n : ℕ) (start : V) where
  abbrev Part : Type 0
  Part = PassPart V E F

  abbrev pub St : Type 0
  St = State (Option V) (List Part)

  abbrev pub Rule : St → Type 0
  Rule s = TokenRule entries fixed n start s

  abbrev word : St → ℕ
  word s = get_or s.words 0 0

  -- what a step has to show, by which the part p of the seat id becomes q, the word w, the value v and the slots hs
  record Turns (s : St) (before : V) (id : ℕ) (p q : Part) (w : ℕ) (v : V) (hs : List (maybe.Option (Option V))) : Type 0 where
    number : q.number ≡ p.number
    fixed_is : fixed v ≡ fixed before
    others : (k : ℕ) → n ≤ k → entries v k ≡ []
    mine : Agrees entries fixed v w q
    theirs : (k : ℕ) (u : List Part) (j : ℕ) (t : Part) → k ≢ id → get_elem? s.views k ≡ some u → get_elem? u j ≡ some t → Agrees entries fixed before (word s) t → Agrees entries fixed v w t
    slots : length hs ≡ 1
    balance : is_holder q + word s % 2 ≡ w % 2 + is_holder p
    home : w % 2 ≡ 0 → get_elem? hs 0 ≡ some (some (Some v))

  turns : (s : St) (r : Rule s) (id : ℕ) (p q : Part) (w : ℕ) (v : V) (hs : List (maybe.Option (Option V))) → get_elem? s.views id ≡ some (p ∷ []) → Turns s r.value id p q w v hs
      → Rule record { words = set s.words 0 w; homes = hs; views = set s.views id (q ∷ []) }
  turns s r id p q w v hs at t =
      let wide : length s.words ≡ 1 = r.one_word in
      let is : get_or (set s.words 0 w) 0 0 ≡ w = get_or-set_same s.words 0 w 0 (omega arith) in
      let sum : of_views is_holder (set s.views id (q ∷ [])) + is_holder p ≡ of_views is_holder s.views + is_holder q = swapped is_holder s.views id p q at in
      let before : of_views is_holder s.views ≡ word s % 2 = r.holding in
      let balance : is_holder q + word s % 2 ≡ w % 2 + is_holder p = t.balance in
      let after : of_views is_holder (set s.views id (q ∷ [])) ≡ w % 2 = omega arith in
      record {
        value = v;
        one_word = length-set s.words 0 w ∙ r.one_word;
        one_slot = t.slots;
        once = λ k h. counted part_number k s.views id p q at t.number ∙ r.once k h;
        none = λ k h. counted part_number k s.views id p q at t.number ∙ r.none k h;
        same = t.fixed_is ∙ r.same;
        others = t.others;
        parts = subst (λ (x : ℕ). Every (Agrees entries fixed v x) (set s.views id (q ∷ []))) (sym is)
            (turned (Agrees entries fixed r.value (word s)) (Agrees entries fixed v w) s.views id q r.parts t.mine t.theirs);
        holding = after ∙ ap (λ (x : ℕ). x % 2) (sym is);
        home = λ even. t.home (ap (λ (x : ℕ). x % 2) (sym is) ∙ even);
      }

  -- a part that agrees is the same in what the rule reads
  still : (s : St) (r : Rule s) (id : ℕ) (p q : Part) → get_elem? s.views id ≡ some (p ∷ []) → q.number ≡ p.number → is_holder q ≡ is_holder p → Agrees entries fixed r.value (word s) q
      → Rule record { words = set s.words 0 (word s); homes = s.homes; views = set s.views id (q ∷ []) }
  still s r id p q at number holder mine = turns s r id p q (word s) r.value s.homes at (record {
    number = number;
    fixed_is = refl;
    others = r.others;
    mine = mine;
    theirs = λ k u j t other there in_u agrees. agrees;
    slots = r.one_slot;
    balance = ap (λ (x : ℕ). x + word s % 2) holder ∙ swap;
    home = r.home;
  })
    where
      swap : is_holder p + word s % 2 ≡ word s % 2 + is_holder p
      swap = omega arith

  agrees_at : (s : St) (r : Rule s) (id : ℕ) (p : Part) → get_elem? s.views id ≡ some (p ∷ []) → Agrees entries fixed r.value (word s) p
  agrees_at s r id p at = at_part (Agrees entries fixed r.value (word s)) s.views id p r.parts at

  pub looks : (slots id : ℕ) (p : Part) → Allows Rule slots id (p ∷ [], []) 0 (λ x. x) (looked (step slots 0 0 0 none) (p ∷ [], []))
  looks slots id p s r _ at _ = let a = agrees_at s r id p at in (
    looked_part (word s) p ∷ [],
    keeps,
    tt,
    still s r id p (looked_part (word s) p) at refl refl (record { same = a.same; own = a.own; held = a.held }),
    refl,
  )

  -- no part of another seat holds the value while the word is even, nor while this seat's part does
  no_other : (s : St) (r : Rule s) (id : ℕ) (p : Part) → get_elem? s.views id ≡ some (p ∷ []) → word s % 2 ≤ is_holder p → (k : ℕ) (u : List Part) (j : ℕ) (t : Part)
      → k ≢ id → get_elem? s.views k ≡ some u → get_elem? u j ≡ some t → (h : ℕ) → t.held ≡ Some h → ⊥
  no_other s r id p at most k u j t other there in_u h holds =
      let two : is_holder p + is_holder t ≤ of_views is_holder s.views = two_parts is_holder s.views id p k u j t other at there in_u in
      let one : is_holder t ≡ 1 = one_holder t.held h holds in
      let sum : of_views is_holder s.views ≡ word s % 2 = r.holding in
      omega arith

  taken : (s : St) (r : Rule s) (id : ℕ) (p : Part) (old : ℕ) → get_elem? s.views id ≡ some (p ∷ []) → word s ≡ old → old % 2 ≡ 0
      → Rule record { words = set s.words 0 (old + 1); homes = set s.homes 0 none; views = set s.views id (holding_part (word s) (old + 1) r.value p ∷ []) }
  taken s r id p old at hit even =
      let a = agrees_at s r id p at in
      let free : word s % 2 ≡ 0 = ap (λ (x : ℕ). x % 2) hit ∙ even in
      let sum : of_views is_holder s.views ≡ word s % 2 = r.holding in
      let most : is_holder p ≤ of_views is_holder s.views = omega (arith, within is_holder s.views id (p ∷ []) at) in
      turns s r id p (holding_part (word s) (old + 1) r.value p) (old + 1) r.value (set s.homes 0 none) at (record {
        number = refl;
        fixed_is = refl;
        others = r.others;
        mine = record { same = a.same; own = a.own; held = λ h e. (sym (some_is _ _ e), refl) };
        theirs = λ k u j t other there in_u agrees.
            record { same = agrees.same; own = agrees.own; held = λ h e. absurd (no_other s r id p at (omega arith) k u j t other there in_u h e) };
        slots = length-set s.homes 0 none ∙ r.one_slot;
        balance = balances (word s) old (is_holder p) free even (omega arith);
        home = λ odd. absurd (not_both old even odd);
      })
    where
      balances : (w o k : ℕ) → w % 2 ≡ 0 → o % 2 ≡ 0 → k ≤ 0 → 1 + w % 2 ≡ (o + 1) % 2 + k
      balances w o k e f l = omega arith

      not_both : (o : ℕ) → o % 2 ≡ 0 → (o + 1) % 2 ≡ 0 → ⊥
      not_both o e f = omega arith

  pub claims : (slots id : ℕ) (p : Part) (old : ℕ) → old % 2 ≡ 0
      → Allows Rule slots id (p ∷ [], []) 0 (λ x. either (eqb x old) (old + 1) x) (claimed entries fixed (step slots 0 old (old + 1) none) (p ∷ [], []))
  claims slots id p old even s r _ at _ = exchanged (word s) old (old + 1) After hit miss
    where
      After : ℕ → Type 0
      After z = (w : List Part) × (a : Act (Option V)) × Rattle.atomic_table.specs.Table.Valid s.homes [] a × Rule (stepped s 0 z id [] w a)
          × claimed entries fixed (step slots 0 old (old + 1) none) (p ∷ [], []) (word s) (w, Rattle.atomic_table.specs.Table.carried_after [] a)

      hit : word s ≡ old → After (old + 1)
      hit is = let a = agrees_at s r id p at in (
        holding_part (word s) (old + 1) r.value p ∷ [],
        takes 0 (Some r.value),
        r.home (ap (λ (x : ℕ). x % 2) is ∙ even),
        taken s r id p old at is even,
        ((λ _. (r.value, refl, All-cons (KnowsValue entries fixed r.value) p [] (a.same, a.own) (All-nil (KnowsValue entries fixed r.value)))), λ not. absurd (not is)),
      )

      miss : word s ≢ old → After (word s)
      miss not = let a = agrees_at s r id p at in (
        missed_part (word s) p ∷ [],
        keeps,
        tt,
        still s r id p (missed_part (word s) p) at refl refl (record { same = a.same; own = a.own; held = a.held }),
        ((λ is. absurd (not is)), λ _. refl),
      )

  -- what a seat that holds the value shows before it gives it back: how the value differs from the one that went out
  pub record Changed (p : Part) (h : ℕ) (out v : V) : Type 0 where
    pub held : p.held ≡ Some h
    pub out_is : p.out ≡ Some out
    pub same : fixed v ≡ fixed out
    pub others : (k : ℕ) → k ≢ p.number → entries v k ≡ entries out k

  given : (s : St) (r : Rule s) (id : ℕ) (p : Part) (h : ℕ) (out v : V) → get_elem? s.views id ≡ some (p ∷ []) → Changed p h out v
      → Rule record { words = set s.words 0 ((h + 1) % 2 ^ 64); homes = set s.homes 0 (some (Some v)); views = set s.views id (giving_part (entries v) p ∷ []) }
  given s r id p h out v at c =
      let a = agrees_at s r id p at in
      let held : (h ≡ word s) × (p.out ≡ Some r.value) = a.held h c.held in
      let was : out ≡ r.value = some_is out r.value (sym c.out_is ∙ held.1) in
      let holder : is_holder p ≡ 1 = one_holder p.held h c.held in
      let sum : of_views is_holder s.views ≡ word s % 2 = r.holding in
      let most : is_holder p ≤ of_views is_holder s.views = omega (arith, within is_holder s.views id (p ∷ []) at) in
      let odd : h % 2 ≡ 1 = ap (λ (x : ℕ). x % 2) held.0 ∙ is_one (word s) (omega arith) in
      let one : word s % 2 ≤ is_holder p = omega (arith, at_most_one (word s)) in
      let wide : length s.homes ≡ 1 = r.one_slot in
      let fixed_is : fixed v ≡ fixed r.value = c.same ∙ ap fixed was in
      let entry_is : (k : ℕ) → k ≢ p.number → entries v k ≡ entries r.value k = λ k other. c.others k other ∙ ap (λ (x : V). entries x k) was in
      turns s r id p (giving_part (entries v) p) ((h + 1) % 2 ^ 64) v (set s.homes 0 (some (Some v))) at (record {
        number = refl;
        fixed_is = fixed_is;
        others = λ k out_of. entry_is k (not_mine k out_of) ∙ r.others k out_of;
        mine = record { same = a.same ∙ sym fixed_is; own = refl; held = λ k e. absurd (none_is e) };
        theirs = λ k u j t other there in_u agrees. record {
          same = agrees.same ∙ sym fixed_is;
          own = agrees.own ∙ sym (entry_is t.number (apart part_number s.views id p k u j t at_most other at there in_u));
          held = λ m e. absurd (no_other s r id p at one k u j t other there in_u m e);
        };
        slots = length-set s.homes 0 (some (Some v)) ∙ r.one_slot;
        balance = balances h (word s) (is_holder p) odd (ap (λ (x : ℕ). x % 2) (sym held.0) ∙ odd) holder;
        home = λ _. set_here s.homes 0 (some (Some v)) (omega arith);
      })
    where
      is_one : (w : ℕ) → 1 ≤ w % 2 → w % 2 ≡ 1
      is_one w m = omega arith

      none_is : {k : ℕ} → None ≡ Some k → ⊥
      none_is e = cc

      balances : (h w k : ℕ) → h % 2 ≡ 1 → w % 2 ≡ 1 → k ≡ 1 → 0 + w % 2 ≡ (h + 1) % 2 ^ 64 % 2 + k
      balances h w k e f g = omega arith

      at_most : (k : ℕ) → of_views (is_at part_number k) s.views ≤ 1
      at_most k = dite (dec_lt k n) (λ inside. omega (arith, r.once k inside)) (λ outside. omega (arith, r.none k (omega arith)))

      not_mine : (k : ℕ) → n ≤ k → k ≢ p.number
      not_mine k out_of is = let here : n ≤ p.number = omega arith in
          omega (arith, within (is_at part_number p.number) s.views id (p ∷ []) at, is_at-same part_number p, r.none p.number here)

  pub gives_back : (slots id : ℕ) (p : Part) (h : ℕ) (out v : V) → Changed p h out v
      → Allows Rule slots id (p ∷ [], (0, Some v) ∷ []) 0 (λ _. (h + 1) % 2 ^ 64) (gave entries fixed (step slots 0 ((h + 1) % 2 ^ 64) 0 none) (p ∷ [], (0, Some v) ∷ []))
  gives_back slots id p h out v c s r _ at _ = (
    giving_part (entries v) p ∷ [],
    gives,
    tt,
    given s r id p h out v at c,
    λ w e. ap (λ (x : V). (giving_part (entries x) p ∷ [], [])) (taken_is v w e),
  )
