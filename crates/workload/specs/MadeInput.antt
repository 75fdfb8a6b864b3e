-- The text of the input that is made from a number: a script of 20,000 words that are drawn, a board, four boxes with six
-- grants each whose lengths are drawn, and a gateway to each box. Draws are made in the order of the text.
use Rattle.std.specs.Prelude.{ℕ, zero, suc, ◌*◌, List, [], ◌++◌}
use Rattle.workload.specs.declared.templates.Letters.{Letters}
use Rattle.workload.specs.Generator.{drawn_in, state_after}
use Rattle.workload.specs.Templates.{board_lines, box_lines, filled, gateway_lines, grant_lines, head_lines, program_lines, word_line}

-- how many words the script has
abbrev pub WORDS : ℕ
WORDS = 20000

-- how many boxes there are
abbrev pub BOXES : ℕ
BOXES = 4

-- how many grants a box has
abbrev pub GRANTS : ℕ
GRANTS = 6

-- the letters of a box, of its grant with this number, and of the draw with this state
abbrev pub letters_of : ℕ → ℕ → ℕ → Letters
letters_of i j x = record { here = i; grant = j; drawn = drawn_in x }

-- the letters of a box alone
abbrev pub box_letters : ℕ → Letters
box_letters i = record { here = i; grant = 0; drawn = 0 }

-- so many words of the script, drawn from this state on
unfoldable pub words_text : ℕ → ℕ → List ℕ
words_text x zero = []
words_text x (suc k) = words_text x k ++ filled (letters_of 0 0 (state_after x (suc k))) word_line

-- so many grants of a box, drawn from this state on
unfoldable pub grants_text : ℕ → ℕ → ℕ → List ℕ
grants_text x i zero = []
grants_text x i (suc j) = grants_text x i j ++ filled (letters_of i j (state_after x (suc j))) grant_lines

-- a box whose grants are drawn from this state on
unfoldable pub box_text : ℕ → ℕ → List ℕ
box_text x i = filled (box_letters i) box_lines ++ filled (box_letters i) program_lines ++ grants_text x i GRANTS

-- so many boxes, drawn from this state on
unfoldable pub boxes_text : ℕ → ℕ → List ℕ
boxes_text x zero = []
boxes_text x (suc i) = boxes_text x i ++ box_text (state_after x (GRANTS * i)) i

-- a gateway to each of so many boxes
unfoldable pub gateways_text : ℕ → List ℕ
gateways_text zero = []
gateways_text (suc i) = gateways_text i ++ filled (box_letters i) gateway_lines

-- the text of the input that is made from this number
unfoldable pub made_input : ℕ → List ℕ
made_input n =
    head_lines ++ words_text n WORDS ++ board_lines ++ boxes_text (state_after n WORDS) BOXES ++ gateways_text BOXES
