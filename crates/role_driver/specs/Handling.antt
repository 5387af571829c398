-- What a gate was told of the handlers that begin in a journal.
use Rattle.std.specs.Prelude.{◌≡◌, ℕ, List}
use Rattle.caa_base.specs.declared.written.entry.Entry.{Entry}
use Rattle.caa_base.specs.declared.written.entry.Kind.TheVariants as kind
use Rattle.place_plan.specs.declared.rules.machine.Answer.{Answer}
use Rattle.place_plan.specs.declared.rules.machine.Answer.TheVariants as answer
use Rattle.role_driver.specs.Working.{GoesOnWith}

-- where the entry is a Handle, the gate was told of its maker, its place and its exception
abbrev pub IsHanded : (ℕ → ℕ → ℕ → Type 0) → Entry → Type 0
IsHanded was_handed e = e.kind ≡ kind.Handle → was_handed e.by e.place e.arg

-- where the entry is a Handle of t, the gate was told of t, and of the place and the exception of the entry
abbrev pub IsHandedOf : (ℕ → ℕ → ℕ → Type 0) → ℕ → List Entry → Entry → Type 0
IsHandedOf was_handed t before e = e.by ≡ t → IsHanded was_handed e

-- where a step made a Handle, the gate was told of its maker, its place and its exception
abbrev pub HandsMade : (ℕ → ℕ → ℕ → Type 0) → Answer → Type 0
HandsMade was_handed (answer.Did e) = IsHanded was_handed e
HandsMade was_handed _ = Unit {0}

-- the new journal goes on from the old one, and the gate was told of all handlers of t that begin in what it has more
abbrev pub TellsOwnHandlers : (ℕ → ℕ → ℕ → Type 0) → ℕ → List Entry → List Entry → Type 0
TellsOwnHandlers was_handed t old new = GoesOnWith (IsHandedOf was_handed t) old new

-- the new journal goes on from the old one, and the gate was told of all handlers that begin in what it has more
abbrev pub TellsHandlers : (ℕ → ℕ → ℕ → Type 0) → List Entry → List Entry → Type 0
TellsHandlers was_handed old new = GoesOnWith (λ before e. IsHanded was_handed e) old new
