-- The lines that a device is sent.
use Rattle.std.specs.Prelude.{ℕ, ℤ, List, [], ◌∷◌, map, codes, decimal}
use Rattle.std.specs.Fmt.{signed_decimal}
use Rattle.caa_base.specs.Written.Lines.{line}
use Rattle.place_plan.specs.Plans.PlanValue.{Plan}

-- the names of the objects of a plan, in the order of their numbers
abbrev pub object_names : Plan → List (List ℕ)
object_names plan = map (λ o. o.name) plan.objects

-- the name of each object with its first value behind it, in the order of the objects
abbrev pub names_and_values : List (List ℕ) → List ℤ → List (List ℕ)
names_and_values [] values = []
names_and_values (name ∷ names) [] = []
names_and_values (name ∷ names) (value ∷ values) = name ∷ signed_decimal value ∷ names_and_values names values

-- `lay NUMBER NAME VALUE NAME VALUE ..`
abbrev pub lay_line : ℕ → List (List ℕ) → List ℤ → List ℕ
lay_line number names values = line (codes "lay") (decimal number ∷ names_and_values names values)

-- the word that asks for a put
abbrev pub put_word : List ℕ
put_word = codes "put"

-- the word that asks for a put by which an action that is undone brings an object back
abbrev pub restore_word : List ℕ
restore_word = codes "restore"

-- `put NUMBER NAME VALUE` or `restore NUMBER NAME VALUE`, by its word
abbrev pub asking_line : List ℕ → ℕ → List ℕ → ℤ → List ℕ
asking_line word number name value = line word (decimal number ∷ name ∷ signed_decimal value ∷ [])

-- `stop`
abbrev pub stop_line : List ℕ
stop_line = line (codes "stop") []
