-- The line that a reply is written as: document 01, "The script program".
-- Assumes nothing.
use Rattle.std.specs.Prelude.{◌≡◌, List, [], ◌∷◌, ◌++◌, ℕ, ◌≤◌, length, take}
use Rattle.reply.specs.Reply.{Reply, idle, done, refused, reply_number, reply_flow}
use Rattle.lines.specs.Text.{space, line_feed}
use Rattle.lines.specs.Number.{decimal}
use Rattle.lines.specs.Line.{letter_o, letter_a, letter_p}

-- "parted by one space": a field with the space before it
abbrev pub field_text : ℕ → List ℕ
field_text n = space ∷ decimal n

unfoldable pub field_texts : List ℕ → List ℕ
field_texts [] = []
field_texts (n ∷ ns) = field_text n ++ field_texts ns

-- "Each output line but `bad` starts with its call's letter, then its fields"
abbrev pub line_text : ℕ → List ℕ → List ℕ
line_text letter fields = (letter ∷ field_texts fields) ++ line_feed ∷ []

-- "`bad`"
abbrev pub bad_line : List ℕ
bad_line = 98 ∷ 97 ∷ 100 ∷ line_feed ∷ []

-- "`o` writes number (0 for done) and flow."
abbrev pub opening_line : Reply → List ℕ
opening_line reply = line_text letter_o (reply_number reply ∷ reply_flow reply ∷ [])

-- "`a` writes the number (0 for done)."
abbrev pub arrival_line : Reply → List ℕ
arrival_line reply = line_text letter_a (reply_number reply ∷ [])

-- "`p` writes `p idle`, or `p` and a refusal number, or `p 0`, flow, length, handle, tag, leapt (0 or 1), clock."
abbrev pub pick_line : Reply → List ℕ
pick_line idle = letter_p ∷ space ∷ 105 ∷ 100 ∷ 108 ∷ 101 ∷ line_feed ∷ []
pick_line (done values) = line_text letter_p (0 ∷ values)
pick_line (refused number flow) = line_text letter_p (number ∷ [])

-- the first `written` places of a buffer hold the text; no line has more than 160 bytes
pub record Written (out : List ℕ) (written : ℕ) (text : List ℕ) : Type 0 where
  pub within : written ≤ length out
  pub short : written ≤ 160
  pub holds : take written out ≡ text
