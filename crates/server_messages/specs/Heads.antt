-- A message with its head.
use Rattle.std.specs.Prelude.{ℕ, List, ◌++◌, ◌∷◌, [], length, codes, decimal}

-- the head of a message of so many bytes: a line that tells them, and an empty one
abbrev pub head_of : ℕ → List ℕ
head_of count = codes "Content-Length: " ++ decimal count ++ 13 ∷ 10 ∷ 13 ∷ 10 ∷ []

-- a message with its head
abbrev pub framed : List ℕ → List ℕ
framed body = head_of (length body) ++ body
