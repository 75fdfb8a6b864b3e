-- How the text of a made input grows.
use Rattle.std.proofs.Common.{◌≡◌, ℕ, suc, ◌+◌, ◌*◌, List, [], ◌++◌, append_assoc, add-one, refl, ap, sym, ◌∙◌, arith}
use Rattle.std.proofs.lemmas.List.{append-nil}
use Rattle.workload.specs.Generator.{next_state, state_after}
use Rattle.workload.specs.MadeInput.{box_letters, box_text, boxes_text, gateways_text, grants_text, letters_of, made_input, words_text}
use Rattle.workload.specs.Templates.{board_lines, box_lines, filled, gateway_lines, grant_lines, head_lines, program_lines, word_line}
use Rattle.workload.proofs.Drawing.{state_after-more}

-- the state after one more draw
pub state_more : (start x k : ℕ) → x ≡ state_after start k → next_state x ≡ state_after start (k + 1)
unfolding state_after
state_more start x k is = rw add-one (ap next_state is)

-- a text that was appended to, and appended to again
pub appended_on : (old mid new front part whole : List ℕ) → mid ≡ old ++ front → new ≡ mid ++ part → whole ≡ front ++ part → new ≡ old ++ whole
appended_on old mid new front part whole is_mid is_new is_whole =
    rw (is_new, is_mid, is_whole) (append_assoc old front part)

-- nothing was appended yet
pub nothing_yet : (old text : List ℕ) → text ≡ [] → old ≡ old ++ text
nothing_yet old text none = rw none (sym (append-nil old))

-- the state before any draw
pub state_none : (start : ℕ) → start ≡ state_after start 0
unfolding state_after
state_none start = refl

-- no word of the script
pub words_text-none : (start : ℕ) → words_text start 0 ≡ []
unfolding words_text
words_text-none start = refl

-- one more word of the script
pub words_text-more : (start k x : ℕ) → x ≡ state_after start (k + 1) → words_text start (k + 1) ≡ words_text start k ++ filled (letters_of 0 0 x) word_line
unfolding words_text
words_text-more start k x is =
    let more : k + 1 ≡ suc k = omega arith in
    rw (is, more) refl

-- no grant of a box
pub grants_text-none : (start i : ℕ) → grants_text start i 0 ≡ []
unfolding grants_text
grants_text-none start i = refl

-- one more grant of a box
pub grants_text-more : (start i j x : ℕ) → x ≡ state_after start (j + 1) → grants_text start i (j + 1) ≡ grants_text start i j ++ filled (letters_of i j x) grant_lines
unfolding grants_text
grants_text-more start i j x is =
    let more : j + 1 ≡ suc j = omega arith in
    rw (is, more) refl

-- the lines of a box and its grants were appended
pub box_appended : (start i : ℕ) (old a b new : List ℕ) → a ≡ old ++ filled (box_letters i) box_lines → b ≡ a ++ filled (box_letters i) program_lines
    → new ≡ b ++ grants_text start i 6 → new ≡ old ++ box_text start i
unfolding box_text
box_appended start i old a b new is_a is_b is_new = rw (is_new, is_b, is_a) (simp append_assoc)

-- no box
pub boxes_text-none : (start : ℕ) → boxes_text start 0 ≡ []
unfolding boxes_text
boxes_text-none start = refl

-- one more box
pub boxes_text-more : (start i x : ℕ) → x ≡ state_after start (6 * i) → boxes_text start (i + 1) ≡ boxes_text start i ++ box_text x i
unfolding boxes_text
boxes_text-more start i x is =
    let more : i + 1 ≡ suc i = omega arith in
    rw (is, more) refl

-- the state after one more box
pub box_state : (start i x y : ℕ) → x ≡ state_after start (6 * i) → y ≡ state_after x 6 → y ≡ state_after start (6 * (i + 1))
box_state start i x y is_x is_y =
    let more : 6 * i + 6 ≡ 6 * (i + 1) = omega arith in
    is_y ∙ rw (is_x, state_after-more start (6 * i) 6, more) refl

-- no gateway
pub gateways_text-none : gateways_text 0 ≡ []
unfolding gateways_text
gateways_text-none = refl

-- one more gateway
pub gateways_text-more : (i : ℕ) → gateways_text (i + 1) ≡ gateways_text i ++ filled (box_letters i) gateway_lines
unfolding gateways_text
gateways_text-more i =
    let more : i + 1 ≡ suc i = omega arith in
    rw more refl

-- all parts of a made input were appended
pub input_appended : (n x : ℕ) (old a b d e new : List ℕ) → a ≡ old ++ head_lines → b ≡ a ++ words_text n 20000 → x ≡ state_after n 20000
    → d ≡ b ++ board_lines → e ≡ d ++ boxes_text x 4 → new ≡ e ++ gateways_text 4 → new ≡ old ++ made_input n
unfolding made_input
input_appended n x old a b d e new is_a is_b is_x is_d is_e is_new =
    rw (is_new, is_e, is_d, is_b, is_a, is_x) (simp append_assoc)
