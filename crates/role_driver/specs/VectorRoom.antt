-- Room that is taken before it is needed.
use Rattle.std.specs.Prelude.{◌≡◌, ℕ, [], Vec, vec_capacity}

-- nothing lies there yet, and there is room for just so many
abbrev pub HasRoomFor : {X Z : Type 0} → ℕ → Vec X Z → Type 0
HasRoomFor count v = (v.items ≡ []) × (vec_capacity v ≡ count)
