-- How large a machine's plan and journal are, and what is told of an object.
use Rattle.std.specs.Prelude.{◌≡◌, ◌<◌, ◌≤◌, ◌↔◌, ℕ, ℤ, IsTrue, length, reverse}
use Rattle.place_plan.specs.Plans.Bound.{bound}
use Rattle.place_plan.specs.Plans.Places.{initial_of}
use Rattle.place_plan.specs.RulesOfJournals.Objects.{value_of}
use Rattle.place_plan.specs.RulesOfJournals.Journals.{IsLegal, IsComplete}
use Rattle.caa_c.specs.Machines.{Machine}
use Rattle.caa_c.specs.declared.sizes.Sizes.{Sizes}

-- the sizes of the plan and of the journal, which is legal and no longer than its bound, and whether it is complete
pub record AreSizesOf (n : Sizes) (m : Machine) : Type 0 where
  pub participants : n.participants ≡ length m.plan.participants
  pub objects : n.objects ≡ length m.plan.objects
  pub places : n.places ≡ length m.plan.places
  pub bound : n.bound ≡ bound m.plan
  pub entries : n.entries ≡ length m.journal
  pub legal : IsLegal m.plan m.journal
  pub complete : IsTrue n.complete ↔ IsComplete m.plan m.journal

-- the first value of o and the one by the journal are told; of an object that there isn't nothing is
pub record AreValuesOf (m : Machine) (o : ℕ) (before_first first before_now now : ℤ) : Type 0 where
  pub initial : o < length m.plan.objects → first ≡ initial_of m.plan o
  pub current : o < length m.plan.objects → now ≡ value_of m.plan (reverse m.journal) o
  pub unknown : length m.plan.objects ≤ o → (first ≡ before_first) × (now ≡ before_now)
