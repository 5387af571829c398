-- Where the text of a journal begins that stands behind a script.
use Rattle.std.specs.Prelude.{ℕ, ◌-◌, ◌==◌, zero, suc, if◌then◌else◌, Bool, ◌&&◌, List, [], ◌∷◌, length, take, drop, bytes_eq, codes}
use Rattle.std.specs.List.{list_all}
use Rattle.action_script.specs.Words.CutLines.{lines_of, is_blank}

-- the line without the blanks that it begins with
abbrev pub without_blanks : List ℕ → List ℕ
without_blanks [] = []
without_blanks (b ∷ line) = if is_blank b then without_blanks line else b ∷ line

-- just the word `journal`, and blanks
abbrev pub begins_journal : List ℕ → Bool
begins_journal text = bytes_eq (take 7 text) (codes "journal") && list_all is_blank (drop 7 text)

-- the only word of the line is `journal`
abbrev pub is_journal_line : List ℕ → Bool
is_journal_line line = begins_journal (without_blanks line)

-- how many of these lines stand before the first whose only word is `journal`
abbrev pub lines_before : List (List ℕ) → ℕ
lines_before [] = 0
lines_before (line ∷ lines) = if is_journal_line line then 0 else suc (lines_before lines)

-- what stands after so many lines, each up to its line feed
abbrev pub after_lines : ℕ → List ℕ → List ℕ
after_lines zero bytes = bytes
after_lines (suc n) [] = []
after_lines (suc n) (b ∷ bytes) = if b == 10 then after_lines n bytes else after_lines (suc n) bytes

-- how many lines of an input are the script
abbrev pub script_lines : List ℕ → ℕ
script_lines bytes = lines_before (lines_of bytes)

-- the text of the journal, which begins with the line of that word
abbrev pub journal_part : List ℕ → List ℕ
journal_part bytes = after_lines (script_lines bytes) bytes

-- the script, which stands before it
abbrev pub script_part : List ℕ → List ℕ
script_part bytes = take (length bytes - length (journal_part bytes)) bytes
