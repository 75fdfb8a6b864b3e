-- The bytes of a word that has some of another's.
use Rattle.std.proofs.Common.{◌≡◌, ℕ, zero, suc, ◌+◌, ◌-◌, ◌*◌, ◌/◌, ◌%◌, ◌^◌, ◌<◌, ◌≤◌, refl, ap, ◌∙◌, arith, add-one}
use Rattle.std.proofs.Math.Nat.{pow-succ'}
use Rattle.flat_model.specs.Cells.{word_of}
use Rattle.phys_memory.specs.Packed.{blended, byte_of, low, mixed, raised, shifted}

-- ---- one byte more

-- a value without one byte more
pub shifted-more : (v j : ℕ) → shifted v (suc j) ≡ shifted v j / 256
shifted-more v zero = refl
shifted-more v (suc j) = shifted-more (v / 256) j

-- each byte of zero
pub byte_of-zero : (j : ℕ) → byte_of 0 j ≡ 0
byte_of-zero zero = refl
byte_of-zero (suc j) = byte_of-zero j

-- the lowest byte of a byte and what is above it
head : (w m : ℕ) → (w % 256 + 256 * m) % 256 ≡ w % 256
head w m = omega arith

-- what is above it
tail : (w m : ℕ) → (w % 256 + 256 * m) / 256 ≡ m
tail w m = omega arith

-- the next byte of a byte and what is above it
next : (w m i : ℕ) → byte_of (w % 256 + 256 * m) (suc i) ≡ byte_of m i
next w m i = ap (λ x. shifted x i % 256) (tail w m)

-- ---- the bytes of a word that has some of a value

blended-inside : (w n v i : ℕ) → i < n → byte_of (blended w n v) i ≡ byte_of v i
blended-inside w zero v i below = absurd (omega arith)
blended-inside w (suc n) v zero below = head v (blended (w / 256) n (v / 256))
blended-inside w (suc n) v (suc i) below =
    next v (blended (w / 256) n (v / 256)) i ∙ blended-inside (w / 256) n (v / 256) i (omega arith)

blended-above : (w n v i : ℕ) → n ≤ i → byte_of (blended w n v) i ≡ byte_of w i
blended-above w zero v i above = refl
blended-above w (suc n) v zero above = absurd (omega arith)
blended-above w (suc n) v (suc i) above =
    next v (blended (w / 256) n (v / 256)) i ∙ blended-above (w / 256) n (v / 256) i (omega arith)

-- those below stay
pub mixed-below : (w j n v i : ℕ) → i < j → byte_of (mixed w j n v) i ≡ byte_of w i
mixed-below w zero n v i below = absurd (omega arith)
mixed-below w (suc j) n v zero below = head w (mixed (w / 256) j n v)
mixed-below w (suc j) n v (suc i) below =
    next w (mixed (w / 256) j n v) i ∙ mixed-below (w / 256) j n v i (omega arith)

-- those inside are the value's
pub mixed-inside : (w j n v i : ℕ) → j ≤ i → i < j + n → byte_of (mixed w j n v) i ≡ byte_of v (i - j)
mixed-inside w zero n v i from below =
    let same : i ≡ i - 0 = omega arith in
    blended-inside w n v i (omega arith) ∙ ap (byte_of v) same
mixed-inside w (suc j) n v zero from below = absurd (omega arith)
mixed-inside w (suc j) n v (suc i) from below =
    let same : i - j ≡ suc i - suc j = omega arith in
    next w (mixed (w / 256) j n v) i ∙ mixed-inside (w / 256) j n v i (omega arith) (omega arith) ∙ ap (byte_of v) same

-- those above stay
pub mixed-above : (w j n v i : ℕ) → j + n ≤ i → byte_of (mixed w j n v) i ≡ byte_of w i
mixed-above w zero n v i above = blended-above w n v i (omega arith)
mixed-above w (suc j) n v zero above = absurd (omega arith)
mixed-above w (suc j) n v (suc i) above =
    next w (mixed (w / 256) j n v) i ∙ mixed-above (w / 256) j n v i (omega arith)

-- ---- the same by a difference and a sum

low-least : (v n : ℕ) → low v n ≤ v
low-least v zero = omega arith
low-least v (suc n) = omega (arith, low-least (v / 256) n)

pub raised-least : (w j n : ℕ) → raised (low (shifted w j) n) j ≤ w
raised-least w zero n = low-least w n
raised-least w (suc j) n = omega (arith, raised-least (w / 256) j n)

blended-sum : (w n v : ℕ) → blended w n v ≡ w - low w n + low v n
blended-sum w zero v = omega arith
blended-sum w (suc n) v = omega (arith, blended-sum (w / 256) n (v / 256), low-least (w / 256) n)

pub mixed-sum : (w j n v : ℕ) → mixed w j n v ≡ w - raised (low (shifted w j) n) j + raised (low v n) j
mixed-sum w zero n v = blended-sum w n v
mixed-sum w (suc j) n v = omega (arith, mixed-sum (w / 256) j n v, raised-least (w / 256) j n)

-- ---- how large it is

quotient-small : (w k : ℕ) → w < 256 ^ suc k → w / 256 < 256 ^ k
quotient-small w k small = let e : 256 ^ suc k ≡ 256 * 256 ^ k = pow-succ' 256 k in omega (arith, e)

pub step-small : (b m k : ℕ) → b < 256 → m < 256 ^ k → b + 256 * m < 256 ^ suc k
step-small b m k below small = rw (pow-succ' 256 k) (omega arith)

byte-small : (w : ℕ) → w % 256 < 256
byte-small w = omega arith

blended-small : (w k n v : ℕ) → w < 256 ^ k → n ≤ k → blended w n v < 256 ^ k
blended-small w k zero v small few = small
blended-small w zero (suc n) v small few = absurd (omega arith)
blended-small w (suc k) (suc n) v small few =
    step-small (v % 256) (blended (w / 256) n (v / 256)) k (byte-small v)
    (blended-small (w / 256) k n (v / 256) (quotient-small w k small) (omega arith))

mixed-bound : (w k j n v : ℕ) → w < 256 ^ k → j + n ≤ k → mixed w j n v < 256 ^ k
mixed-bound w k zero n v small few = blended-small w k n v small (omega arith)
mixed-bound w zero (suc j) n v small few = absurd (omega arith)
mixed-bound w (suc k) (suc j) n v small few =
    step-small (w % 256) (mixed (w / 256) j n v) k (byte-small w)
    (mixed-bound (w / 256) k j n v (quotient-small w k small) (omega arith))

-- a word stays a word
pub mixed-small : (w j n v : ℕ) → w < 2 ^ 32 → j + n ≤ 4 → mixed w j n v < 2 ^ 32
mixed-small w j n v small few = mixed-bound w 4 j n v small few

-- ---- words of bytes

-- the bytes of a value from one on are its lowest without those before
pub word_of-bytes : (v j n : ℕ) → word_of (byte_of v) j n ≡ low (shifted v j) n
word_of-bytes v j zero = refl
word_of-bytes v j (suc n) =
    ap (λ x. shifted v j % 256 + 256 * x)
    (word_of-bytes v (j + 1) n ∙ ap (λ x. low (shifted v x) n) (add-one j) ∙ ap (λ x. low x n) (shifted-more v j))

-- all four bytes of a word
pub low-whole : (v : ℕ) → v < 2 ^ 32 → low v 4 ≡ v
low-whole v small = omega arith

-- the n lowest bytes are below the n-th power of 256
pub low-bound : (v n : ℕ) → low v n < 256 ^ n
low-bound v zero = omega arith
low-bound v (suc n) = step-small (v % 256) (low (v / 256) n) n (byte-small v) (low-bound (v / 256) n)
