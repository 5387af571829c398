-- The value of an object, looked for from the newest entry on.
use Rattle.std.proofs.Common.{◌≡◌, ℕ, pos, ◌+◌, ◌<◌, Bool, true, false, not, ◌&&◌, List, [], ◌∷◌, length, reverse, take, drop, get_or, refl, arith}
use Rattle.std.specs.List.{list_any}
use Rattle.std.proofs.lemmas.List.{take_more, drop_more, reverse-append}
use Rattle.std.proofs.lemmas.Bool.Decides.{nat_tests}
use Rattle.caa_base.specs.declared.written.entry.Entry.{Entry}
use Rattle.caa_base.specs.declared.written.entry.Kind.TheVariants as kind
use Rattle.place_plan.specs.Plans.PlanValue.{Plan}
use Rattle.place_plan.specs.Plans.Places.{is_within}
use Rattle.place_plan.specs.RulesOfJournals.Objects.{restores, writes, is_within_any, places_restoring, value_outside}

-- an entry restores o in p, or round p
abbrev pub restores_round : Plan → ℕ → ℕ → Entry → Bool
restores_round plan o p e = restores o e && is_within plan p e.place

-- p is one of them, or inside one, where an entry restores o in p or round it
within_any-places_restoring : (plan : Plan) (o p : ℕ) (later : List Entry)
    → is_within_any plan p (places_restoring o later) ≡ list_any (restores_round plan o p) later
within_any-places_restoring plan o p [] = refl
within_any-places_restoring plan o p (e ∷ later) = grind (arith, nat_tests, within_any-places_restoring plan o p later)

-- what stands past the end of a list of entries
abbrev pub blank : Entry
blank = record { kind = kind.Arrive; place = 0; by = 0; arg = 0; mark = 0; value = pos 0 }

-- the newest of the first entries stands in front of the others
pub reverse_more : (es : List Entry) (i : ℕ) (d : Entry) → i < length es → reverse (take (i + 1) es) ≡ get_or es i d ∷ reverse (take i es)
reverse_more es i d h = rw (take_more es i d h) (reverse-append (take i es) (get_or es i d ∷ []))

-- whether the entry e gives the value of o, where `later` stand after it
abbrev pub gives : Plan → ℕ → List Entry → Entry → Bool
gives plan o later e = writes o e && not (list_any (restores_round plan o e.place) later)

-- the value of the entry at i, where it gives the value
pub value_given : (plan : Plan) (o : ℕ) (es : List Entry) (i j : ℕ) (d : Entry) → j ≡ i + 1 → i < length es
    → gives plan o (drop (i + 1) es) (get_or es i d) ≡ true
    → value_outside plan (reverse (take j es)) o (places_restoring o (drop j es)) ≡ (get_or es i d).value
value_given plan o es i j d e h g =
    let same = within_any-places_restoring plan o (get_or es i d).place (drop (i + 1) es) in
    rw (e, reverse_more es i d h, same, g) refl

-- else it is passed over
pub value_passed : (plan : Plan) (o : ℕ) (es : List Entry) (i j : ℕ) (d : Entry) → j ≡ i + 1 → i < length es
    → gives plan o (drop (i + 1) es) (get_or es i d) ≡ false
    → value_outside plan (reverse (take j es)) o (places_restoring o (drop j es))
    ≡ value_outside plan (reverse (take i es)) o (places_restoring o (drop i es))
value_passed plan o es i j d e h g =
    let same = within_any-places_restoring plan o (get_or es i d).place (drop (i + 1) es) in
    rw (e, reverse_more es i d h, drop_more es i d h, same, g) refl
