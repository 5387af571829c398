-- What is kept of a rule from entry to entry.
use Rattle.std.specs.Prelude.{◌≡◌, ℕ, ℤ, ◌<◌, Bool, true, false, not, ◌&&◌, ◌||◌, if◌then◌else◌, List, [], ◌∷◌, length, slice_index_or, Option, None, Some}
use Rattle.std.specs.List.{list_all}
use Rattle.caa_base.specs.declared.written.entry.Entry.{Entry}
use Rattle.place_plan.specs.Plans.PlanValue.{Plan}
use Rattle.place_plan.specs.Plans.Places.{initial_of}
use Rattle.place_plan.specs.RulesOfJournals.Roles.{int_same}
use Rattle.interlock_rules.specs.Interlocks.{fits, is_put_on, is_fault_on, asks}
use Rattle.interlock_rules.specs.declared.rules.Part.{Part}
use Rattle.interlock_rules.specs.declared.rules.When.{When}
use Rattle.interlock_rules.specs.declared.rules.When.TheVariants as when

-- whether a part may fit after an entry, by whether it might before
abbrev pub fit_after : Part → Entry → Bool → Bool
fit_after part e was =
    if is_put_on part.object e then fits part e.value
    else (is_fault_on part.object e && fits part e.value) || was

-- whether a part may fit
abbrev pub may_fit : Plan → List Entry → Part → Bool
may_fit plan [] part = fits part (initial_of plan part.object)
may_fit plan (e ∷ past) part = fit_after part e (may_fit plan past part)

-- the number, if it is this one
abbrev pub only_if : ℤ → Option ℤ → Option ℤ
only_if x None = None
only_if x (Some y) = if int_same y x then Some y else None

-- where o is for sure after an entry, by where it was for sure before
abbrev pub sure_after : ℕ → Entry → Option ℤ → Option ℤ
sure_after o e was = if is_put_on o e then Some e.value else (if is_fault_on o e then only_if e.value was else was)

-- the one number at which o may be; none where there are more
abbrev pub sure_at : Plan → List Entry → ℕ → Option ℤ
sure_at plan [] o = Some (initial_of plan o)
sure_at plan (e ∷ past) o = sure_after o e (sure_at plan past o)

-- it is this number for sure
abbrev pub is_sure : Option ℤ → ℤ → Bool
is_sure None x = false
is_sure (Some y) x = int_same y x

-- the object that a rule speaks of as asked or moved; else some other
abbrev pub object_of : When → ℕ
object_of when.Always = 0
object_of (when.Asked it) = it.object
object_of (when.Moved it) = it.object

-- a rule is looked at at each moment
abbrev pub is_always : When → Bool
is_always when.Always = true
is_always (when.Asked it) = false
is_always (when.Moved it) = false

-- an entry asks for what a rule forbids, by what is kept before it
abbrev pub is_asked : When → Entry → List Bool → Option ℤ → Bool
is_asked when.Always e all sure = false
is_asked (when.Asked it) e all sure = asks it e && list_all (λ fit. fit) all
is_asked (when.Moved it) e all sure = asks it e && (not (is_sure sure e.value) && list_all (λ fit. fit) all)

-- a part that stands past the end of a list
abbrev pub no_part : Part
no_part = record { object = 0; conditions = [] }

-- what is kept of parts, whether each may fit, and of an object, where it is for sure, stands for this past
pub record Watches (parts : List Part) (o : ℕ) (plan : Plan) (past : List Entry) (all : List Bool) (sure : Option ℤ) : Type 0 where
  pub count : length all ≡ length parts
  pub each : (k : ℕ) → k < length parts → slice_index_or all k false ≡ may_fit plan past (slice_index_or parts k no_part)
  pub where_sure : sure ≡ sure_at plan past o
