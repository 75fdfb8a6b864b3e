-- Queues of slots as numbers, lists without a slot, and tickets by thread.
use Rattle.std.proofs.Common.{◌≡◌, ◌≢◌, ℕ, zero, suc, ◌+◌, ◌-◌, ◌*◌, ◌/◌, ◌%◌, ◌^◌, ◌<◌, ◌≤◌, List, [], ◌∷◌, ◌++◌, All, length, get_or, set, drop, not, cond, eqb, eq-eqb, ne_eqb, refl, ap, sym, ◌∙◌, append-nil, arith, pow-suc, mul-le-mul_right}
use mathlib.Core.Logic.{dite}
use native.Mathlib.Decide.{ℕ_discrete, dec_le}
use Rattle.std.proofs.Math.Nat.{pow-le-pow_right}
use Rattle.std.proofs.lemmas.List.{get_or-set_other, map-append}
use Rattle.std.proofs.lemmas.List.Elements.{filter-append, All-append, All-cons, All-nil}
use Rattle.std.proofs.lemmas.List.Sums.{sum_by-cons}
use Rattle.atomic_pool.specs.Times.{times}
use Rattle.atomic_pool.specs.Tickets.{thread_of, of_thread}
use Rattle.atomic_pool.specs.Queue.{encode, AreSlots, tickets, without}

-- how often a slot is in a list with one in front
times-cons : (k x : ℕ) (xs : List ℕ) → times k (x ∷ xs) ≡ cond (eqb x k) 1 0 + times k xs
times-cons k x xs = sum_by-cons (λ (y : ℕ). cond (eqb y k) 1 0) x xs

pub times-here : (x : ℕ) (xs : List ℕ) → times x (x ∷ xs) ≡ 1 + times x xs
times-here x xs = times-cons x x xs ∙ ap {B = ℕ} (λ b. cond b 1 0 + times x xs) (eq-eqb x x refl)

pub times-past : (k x : ℕ) (xs : List ℕ) → x ≢ k → times k (x ∷ xs) ≡ times k xs
times-past k x xs other =
    let none : cond {A = ℕ} (eqb x k) 1 0 ≡ 0 = ap {B = ℕ} (λ b. cond b 1 0) (ne_eqb x k other) in
    omega (arith, times-cons k x xs, none)

-- a queue with one more slot at its end
pub encode-push : (q : List ℕ) (i : ℕ) → encode (q ++ i ∷ []) ≡ encode q + (i + 1) * 16 ^ length q
encode-push [] i = omega arith
encode-push (x ∷ q) i =
    let up : 16 ^ suc (length q) ≡ 16 * 16 ^ length q = grind (arith, pow-suc) in
    let more : (i + 1) * 16 ^ suc (length q) ≡ 16 * ((i + 1) * 16 ^ length q) = ap (λ n. (i + 1) * n) up ∙ omega arith in
    omega (arith, encode-push q i, more)

pub encode-lt : (q : List ℕ) → AreSlots q → encode q < 16 ^ length q
encode-lt [] slots = omega arith
encode-lt (x ∷ q) slots =
    let up : 16 ^ suc (length q) ≡ 16 * 16 ^ length q = grind (arith, pow-suc) in
    omega (arith, slots.0, encode-lt q slots.1, up)

pub encode-head : (i : ℕ) (q : List ℕ) → i < 15 → encode (i ∷ q) % 16 ≡ i + 1
encode-head i q small = omega arith

pub encode-tail : (i : ℕ) (q : List ℕ) → i < 15 → encode (i ∷ q) / 16 ≡ encode q
encode-tail i q small = omega arith

pub some_head : (q : List ℕ) → encode q ≢ 0 → (i : ℕ) × (rest : List ℕ) × (q ≡ i ∷ rest)
some_head [] some = absurd (some refl)
some_head (i ∷ q) some = (i, q, refl)

-- a list of numbers below m has slots alone
pub slots_of : (m : ℕ) (xs : List ℕ) → m ≤ 15 → ((i : ℕ) → m ≤ i → times i xs ≡ 0) → AreSlots xs
slots_of m [] small above = tt
slots_of m (x ∷ xs) small above = (below, slots_of m xs small (λ i high. omega (arith, above i high, times-cons i x xs)))
  where
    below : x < 15
    below = dite (dec_le m x)
        (λ high. absurd (omega (arith, above x high, times-here x xs)))
        (λ low. omega arith)

-- a list without a slot
pub times-without : (i : ℕ) (xs : List ℕ) → times i (without i xs) ≡ 0
times-without i [] = refl
times-without i (x ∷ xs) = dite (ℕ_discrete x i)
    (λ here. ap (λ b. times i (cond (not b) (x ∷ without i xs) (without i xs))) (eq-eqb x i here) ∙ times-without i xs)
    (λ other. ap (λ b. times i (cond (not b) (x ∷ without i xs) (without i xs))) (ne_eqb x i other) ∙ (times-past i x (without i xs) other ∙ times-without i xs))

pub times-without-other : (i k : ℕ) (xs : List ℕ) → k ≢ i → times k (without i xs) ≡ times k xs
times-without-other i k [] apart = refl
times-without-other i k (x ∷ xs) apart = dite (ℕ_discrete x i)
    (λ here. ap (λ b. times k (cond (not b) (x ∷ without i xs) (without i xs))) (eq-eqb x i here)
    ∙ (times-without-other i k xs apart ∙ sym (times-past k x xs (λ e. apart (omega (arith, e))))))
    (λ other. ap (λ b. times k (cond (not b) (x ∷ without i xs) (without i xs))) (ne_eqb x i other)
    ∙ omega (arith, times-cons k x (without i xs), times-cons k x xs, times-without-other i k xs apart))

pub length-without : (i : ℕ) (xs : List ℕ) → length (without i xs) + times i xs ≡ length xs
length-without i [] = refl
length-without i (x ∷ xs) = dite (ℕ_discrete x i)
    (λ here. let shown : length (without i (x ∷ xs)) ≡ length (without i xs) = ap (λ b. length (cond (not b) (x ∷ without i xs) (without i xs))) (eq-eqb x i here) in
    let count : times i (x ∷ xs) ≡ 1 + times i xs = ap (λ k. times k (x ∷ xs)) (sym here) ∙ (times-here x xs ∙ ap (λ k. 1 + times k xs) here) in
    omega (arith, shown, count, length-without i xs))
    (λ other. let shown : length (without i (x ∷ xs)) ≡ suc (length (without i xs)) = ap (λ b. length (cond (not b) (x ∷ without i xs) (without i xs))) (ne_eqb x i other) in
    omega (arith, shown, times-past i x xs other, length-without i xs))

-- different numbers below m are at most m
pub fewer : (m : ℕ) (xs : List ℕ) → ((i : ℕ) → times i xs ≤ 1) → ((i : ℕ) → m ≤ i → times i xs ≡ 0) → length xs ≤ m
fewer zero [] once above = omega arith
fewer zero (x ∷ xs) once above = absurd (omega (arith, above x (omega arith), times-here x xs))
fewer (suc m) xs once above =
    let rest : length (without m xs) ≤ m = fewer m (without m xs) rest_once rest_above in
    omega (arith, rest, length-without m xs, once m)
  where
    rest_once : (i : ℕ) → times i (without m xs) ≤ 1
    rest_once i = dite (ℕ_discrete i m)
        (λ here. omega (arith, ap (λ k. times k (without m xs)) here, times-without m xs))
        (λ other. omega (arith, times-without-other m i xs other, once i))

    rest_above : (i : ℕ) → m ≤ i → times i (without m xs) ≡ 0
    rest_above i high = dite (ℕ_discrete i m)
        (λ here. ap (λ k. times k (without m xs)) here ∙ times-without m xs)
        (λ other. times-without-other m i xs other ∙ above i (omega arith))

-- the tickets of a queue that grows, and of one whose words stay
pub tickets-push : (words q : List ℕ) (i : ℕ) → tickets words (q ++ i ∷ []) ≡ tickets words q ++ get_or words (2 + i) 0 ∷ []
tickets-push words q i = map-append (λ (k : ℕ). get_or words (2 + k) 0) q (i ∷ [])

pub tickets-kept : (words : List ℕ) (j x : ℕ) (q : List ℕ) → times j q ≡ 0 → tickets (set words (2 + j) x) q ≡ tickets words q
tickets-kept words j x [] none = refl
tickets-kept words j x (i ∷ q) none =
    let apart : i ≢ j = λ e. omega (arith, none, ap (λ k. times k (i ∷ q)) (sym e), times-here i q) in
    let far : 2 + i ≢ 2 + j = λ e. apart (omega (arith, e)) in
    let later : times j q ≡ 0 = omega (arith, none, times-past j i q apart) in
    ap (λ n. n ∷ tickets (set words (2 + j) x) q) (get_or-set_other words (2 + j) (2 + i) x 0 far)
    ∙ ap (λ ns. get_or words (2 + i) 0 ∷ ns) (tickets-kept words j x q later)

-- the tickets of one thread, where one more comes
pub of_thread-push : (p c : ℕ) (cs : List ℕ) → thread_of c ≡ p → of_thread p (cs ++ c ∷ []) ≡ of_thread p cs ++ c ∷ []
of_thread-push p c cs here =
    filter-append (λ (d : ℕ). eqb (thread_of d) p) cs (c ∷ [])
    ∙ ap (λ b. of_thread p cs ++ cond b (c ∷ []) []) (eq-eqb (thread_of c) p here)

pub of_thread-other : (p c : ℕ) (cs : List ℕ) → thread_of c ≢ p → of_thread p (cs ++ c ∷ []) ≡ of_thread p cs
of_thread-other p c cs other =
    filter-append (λ (d : ℕ). eqb (thread_of d) p) cs (c ∷ [])
    ∙ (ap (λ b. of_thread p cs ++ cond b (c ∷ []) []) (ne_eqb (thread_of c) p other) ∙ append-nil (of_thread p cs))

-- one more ticket of a known thread
pub known-push : (n : ℕ) (cs : List ℕ) (c : ℕ) → All (λ d. thread_of d < n) cs → thread_of c < n → All (λ d. thread_of d < n) (cs ++ c ∷ [])
known-push n cs c known here =
    All-append (λ (d : ℕ). thread_of d < n) cs (c ∷ []) known (All-cons (λ (d : ℕ). thread_of d < n) c [] here (All-nil (λ (d : ℕ). thread_of d < n)))

-- a ticket among known ones
pub known-at : (n : ℕ) (cs : List ℕ) (c : ℕ) (ds : List ℕ) → All (λ d. thread_of d < n) (cs ++ c ∷ ds) → thread_of c < n
known-at n [] c ds known = known 0 0 (omega arith)
known-at n (x ∷ cs) c ds known = known-at n cs c ds (λ k d below. known (suc k) d (omega arith))

-- the queue after its first k slots
pub gap-next : (k : ℕ) (q : List ℕ) → AreSlots q → encode (drop k q) ≢ 0 → (k < length q) × (encode (drop k q) / 16 ≡ encode (drop (suc k) q))
gap-next zero [] slots some = absurd (some refl)
gap-next (suc k) [] slots some = absurd (some refl)
gap-next zero (x ∷ q) slots some = (omega arith, encode-tail x q slots.0)
gap-next (suc k) (x ∷ q) slots some = let r = gap-next k q slots.1 some in (omega arith, r.1)

pub gap-end : (k : ℕ) (q : List ℕ) → k ≤ length q → encode (drop k q) ≡ 0 → k ≡ length q
gap-end zero [] within none = refl
gap-end (suc k) [] within none = omega arith
gap-end zero (x ∷ q) within none = absurd (omega arith)
gap-end (suc k) (x ∷ q) within none = ap suc (gap-end k q (omega arith) none)

-- the number that one more slot adds fits
pub gap-le : (k : ℕ) → k ≤ 14 → 16 ^ k ≤ 16 ^ 14
gap-le k within = pow-le-pow_right {n = 16} (omega arith) within

pub gap-up : (k gap : ℕ) → gap ≡ 16 ^ k → gap * 16 ≡ 16 ^ suc k
gap-up k gap is = ap (λ n. n * 16) is ∙ grind (arith, pow-suc)

-- a list without a slot that it has once
pub length-less : (i : ℕ) (xs : List ℕ) → times i xs ≡ 1 → length (without i xs) ≡ length xs - 1
length-less i xs one = omega (arith, length-without i xs)

-- a queue with one more slot fits a word
pub more-fits : (i gap seen : ℕ) (q : List ℕ) → i < 15 → AreSlots q → seen ≡ encode q → length q < 15 → gap ≡ 16 ^ length q
    → ((i + 1) * gap < 18446744073709551616) × (seen + (i + 1) * gap < 18446744073709551616)
more-fits i gap seen q small slots is room gap_is =
    let power : 16 ^ length q ≤ 16 ^ 14 = gap-le (length q) (omega arith) in
    let digits : (i + 1) * gap ≤ 15 * gap = mul-le-mul_right gap (omega arith) in
    let below : encode q < 16 ^ length q = encode-lt q slots in
    (omega arith, omega arith)

pub queued-word : (i j gap seen : ℕ) (q : List ℕ) → j ≡ i → seen ≡ encode q → gap ≡ 16 ^ length q → seen + (j + 1) * gap ≡ encode q + (i + 1) * 16 ^ length q
queued-word i j gap seen q same is gap_is = λ t. is t + (same t + 1) * gap_is t

pub without-none : (i : ℕ) (xs : List ℕ) → times i xs ≡ 0 → without i xs ≡ xs
without-none i [] none = refl
without-none i (x ∷ xs) none =
    let other : x ≢ i = λ e. omega (arith, none, ap (λ k. times k (x ∷ xs)) (sym e), times-here x xs) in
    ap (λ b. cond (not b) (x ∷ without i xs) (without i xs)) (ne_eqb x i other)
    ∙ ap (λ l. x ∷ l) (without-none i xs (omega (arith, none, times-past i x xs other)))

-- a slot that came last and goes again
pub without-last : (i : ℕ) (xs : List ℕ) → times i xs ≡ 0 → without i (xs ++ i ∷ []) ≡ xs
without-last i xs none =
    filter-append (λ (x : ℕ). not (eqb x i)) xs (i ∷ [])
    ∙ (ap (λ b. without i xs ++ cond (not b) (i ∷ []) []) (eq-eqb i i refl) ∙ (append-nil (without i xs) ∙ without-none i xs none))
