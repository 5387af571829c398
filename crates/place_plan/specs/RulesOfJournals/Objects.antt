-- Who holds an object, and which value it has.
use Rattle.std.specs.Prelude.{ℕ, ℤ, ◌==◌, Bool, not, ◌&&◌, if◌then◌else◌, List, [], ◌∷◌, Option, None, Some}
use Rattle.std.specs.List.{list_any, list_all}
use Rattle.caa_base.specs.Written.Marks.{taken_mark, refused_mark}
use Rattle.caa_base.specs.declared.written.entry.Entry.{Entry}
use Rattle.caa_base.specs.declared.written.entry.Kind.{Kind}
use Rattle.caa_base.specs.declared.written.entry.Kind.TheVariants as kind
use Rattle.place_plan.specs.Plans.PlanValue.{Plan}
use Rattle.caa_base.specs.Written.Lists.{first_not, same_option}
use Rattle.place_plan.specs.Plans.Places.{is_within, parent, objects_of, uses, initial_of}
use Rattle.place_plan.specs.RulesOfJournals.Entries.{is_of, is_in}

-- ---- holders

-- a start takes the objects of its place, and an end gives them back to the place round it
abbrev pub holder_after : Plan → Kind → ℕ → ℕ → Option ℕ → Option ℕ
holder_after plan kind.Start p o was = if uses plan p o then Some p else was
holder_after plan kind.End p o was = if uses plan p o then parent plan p else was
holder_after plan _ p o was = was

-- the place that has o at its disposal: of the live places that use it the innermost
abbrev pub holder_of : Plan → List Entry → ℕ → Option ℕ
holder_of plan [] o = None
holder_of plan (e ∷ past) o = holder_after plan e.kind e.place o (holder_of plan past o)

-- the place round p holds each object of p; for a play each is free
abbrev pub objects_are_ready : Plan → List Entry → ℕ → Bool
objects_are_ready plan past p = list_all (λ o. same_option (holder_of plan past o) (parent plan p)) (objects_of plan p)

-- ---- values

-- the entry restores o, and the device took it
abbrev pub restores : ℕ → Entry → Bool
restores o e = is_of kind.Restore e && ((e.arg == o) && (e.mark == taken_mark))

-- the entry writes o
abbrev pub writes : ℕ → Entry → Bool
writes o e = is_of kind.Write e && (e.arg == o)

-- p is one of these places, or inside one
abbrev pub is_within_any : Plan → ℕ → List ℕ → Bool
is_within_any plan p qs = list_any (is_within plan p) qs

-- the places that have restored o after what stands before the entry
abbrev pub places_undone : ℕ → Entry → List ℕ → List ℕ
places_undone o e undone = if restores o e then e.place ∷ undone else undone

-- the places in which these entries, the oldest first, restore o
abbrev pub places_restoring : ℕ → List Entry → List ℕ
places_restoring o [] = []
places_restoring o (e ∷ later) = places_undone o e (places_restoring o later)

-- the newest write of o counts that was made neither in a place which has restored o since, nor inside one; where no write counts,
-- o has its initial value. `undone` are the places that restore o later than all of `past`
abbrev pub value_outside : Plan → List Entry → ℕ → List ℕ → ℤ
value_outside plan [] o undone = initial_of plan o
value_outside plan (e ∷ past) o undone =
    if writes o e && not (is_within_any plan e.place undone) then e.value
    else value_outside plan past o (places_undone o e undone)

-- the value of o: a restore that the device took makes the older writes of its place, and of all places inside, count no more
abbrev pub value_of : Plan → List Entry → ℕ → ℤ
value_of plan past o = value_outside plan past o []

-- ---- restoring

-- what stood before the start of p
abbrev pub before_start : List Entry → ℕ → List Entry
before_start [] p = []
before_start (e ∷ past) p = if is_in kind.Start p e then past else before_start past p

-- o has a restore in p, well or failed
abbrev pub is_tried : List Entry → ℕ → ℕ → Bool
is_tried past p o = list_any (λ e. is_in kind.Restore p e && (e.arg == o)) past

-- the device refused a restore of p
abbrev pub has_failed : List Entry → ℕ → Bool
has_failed past p = list_any (λ e. is_in kind.Restore p e && (e.mark == refused_mark)) past

-- the least object of p that has no restore there; the objects of an action stand in ascending order
abbrev pub next_restore : Plan → List Entry → ℕ → Option ℕ
next_restore plan past p = first_not (is_tried past p) (objects_of plan p)
