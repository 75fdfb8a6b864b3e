-- The fixed lines of a made input, in which capital letters stand for numbers.
use Rattle.std.specs.Prelude.{◌<◌, ℕ, ◌+◌, ◌*◌, ◌%◌, ◌^◌, List, [], ◌∷◌, ◌++◌, codes, ◌==◌, if◌then◌else◌}
use Rattle.std.specs.Fmt.{decimal}
use Rattle.std.specs.List.{flat_map}
use Rattle.workload.specs.declared.templates.Letters.{Letters}

-- lines, each with its end
abbrev pub lines : List (List ℕ) → List ℕ
lines [] = []
lines (line ∷ rest) = line ++ 10 ∷ lines rest

-- What a byte of a template stands for: `I` for the number of its box, `G` for that of the next box, `J` for that of its
-- grant, `D` for what was drawn, `L` for the length of that power of two, and any other byte for itself.
abbrev pub byte_text : Letters → ℕ → List ℕ
byte_text letters byte =
    if byte == 73 then decimal letters.here
    else (if byte == 71 then decimal ((letters.here + 1) % 4)
    else (if byte == 74 then decimal letters.grant
    else (if byte == 68 then decimal letters.drawn
    else (if byte == 76 then decimal (32 * 2 ^ letters.drawn)
    else byte ∷ []))))

-- a template with each letter replaced by what it stands for
unfoldable pub filled : Letters → List ℕ → List ℕ
filled letters template = flat_map (byte_text letters) template

-- the lines before the words of the script
unfoldable pub head_lines : List ℕ
head_lines = lines (codes "format = 1" ∷ codes "script = [" ∷ [])

-- the line of a word of the script
unfoldable pub word_line : List ℕ
word_line = lines (codes "\"wD.0\"," ∷ [])

-- the lines behind the words of the script, up to the first box
unfoldable pub board_lines : List ℕ
board_lines = lines
    (codes "]"
    ∷ codes "[board]"
    ∷ codes "flash = [0x00000000, 0x00100000]"
    ∷ codes "sram = [0x20000000, 0x00020000]"
    ∷ codes "peripherals = [0x40000000, 0x00100000]"
    ∷ codes "secret = [0x000F0000, 0x00010000]"
    ∷ codes "heap = { base = 0x20010000, page = 256, count = 64 }"
    ∷ [])

-- the lines of a box up to its program
unfoldable pub box_lines : List ℕ
box_lines = lines
    (codes "[[box]]"
    ∷ codes "name = \"wI\""
    ∷ codes "size = 256"
    ∷ codes "[[box.thread]]"
    ∷ codes "steps = 20000"
    ∷ codes "program = \"\"\""
    ∷ [])

-- the lines of a box's program, and the one that ends it
unfoldable pub program_lines : List ℕ
program_lines = lines
    (codes "set r6 0x20000I00"
    ∷ codes "set r0 1"
    ∷ codes "pages_alloc r0 r6"
    ∷ codes "jnz r7 7"
    ∷ codes "load32 r1 r6 0"
    ∷ codes "store32 r0 r1 0"
    ∷ codes "page_free r1"
    ∷ codes "set r5 0x400I0000"
    ∷ codes "store32 r6 r5 0x0000"
    ∷ codes "store32 r6 r5 0x1000"
    ∷ codes "store32 r6 r5 0x2000"
    ∷ codes "store32 r6 r5 0x3000"
    ∷ codes "store32 r6 r5 0x4000"
    ∷ codes "store32 r6 r5 0x5000"
    ∷ codes "rpc_call r2 G"
    ∷ codes "store32 r2 r6 16"
    ∷ codes "rpc_take"
    ∷ codes "jnz r7 19"
    ∷ codes "rpc_return r0"
    ∷ codes "load32 r1 r6 16"
    ∷ codes "rpc_result r2 r1"
    ∷ codes "jump 0"
    ∷ codes "\"\"\""
    ∷ [])

-- the lines of a grant
unfoldable pub grant_lines : List ℕ
grant_lines = lines
    (codes "[[box.grant]]"
    ∷ codes "base = 0x400IJ000"
    ∷ codes "len = L"
    ∷ codes "rights = \"rw\""
    ∷ [])

-- the lines of a gateway
unfoldable pub gateway_lines : List ℕ
gateway_lines = lines
    (codes "[[gateway]]"
    ∷ codes "box = \"wI\""
    ∷ codes "function = I"
    ∷ codes "callers = [\"w0\", \"w1\", \"w2\", \"w3\"]"
    ∷ [])

-- the letters of a template are of a box, of a grant of it, and of a draw
pub record IsSmall (letters : Letters) : Type 0 where
  pub here : letters.here < 4
  pub grant : letters.grant < 6
  pub drawn : letters.drawn < 4
