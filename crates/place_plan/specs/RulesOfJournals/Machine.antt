-- What a call of a machine answers, and what it leaves.
use Rattle.std.specs.Prelude.{◌≡◌, ℕ, ℤ, Bool, true, false, List, [], ◌∷◌, ◌++◌, reverse, Option, Some, None}
use Rattle.caa_base.specs.Written.Marks.{no_mark}
use Rattle.caa_base.specs.Written.Mixing.{mix, Worked}
use Rattle.caa_base.specs.declared.written.entry.Entry.{Entry}
use Rattle.caa_base.specs.declared.written.entry.Kind.TheVariants as kind
use Rattle.place_plan.specs.Plans.PlanValue.{Plan}
use Rattle.place_plan.specs.RulesOfJournals.Roles.{is_over, register}
use Rattle.place_plan.specs.RulesOfJournals.Rules.{MayFollow}
use Rattle.place_plan.specs.RulesOfJournals.Journals.{HasNoEntry, is_fault}
use Rattle.place_plan.specs.declared.rules.machine.Answer.{Answer}
use Rattle.place_plan.specs.declared.rules.machine.Answer.TheVariants as answer

-- the work entry of t in p, from this start
abbrev pub work_entry : ℕ → ℕ → ℕ → ℤ → Entry
work_entry p t rounds from = record { kind = kind.Work; place = p; by = t; arg = rounds; mark = no_mark; value = mix from rounds }

-- the hint is of just this work: as many rounds, from the same start
abbrev pub Fits : Option Worked → ℕ → ℤ → Type 0
Fits None rounds from = ⊥
Fits (Some worked) rounds from = (worked.rounds ≡ rounds) × (worked.from ≡ from)

-- e is the legal entry of t that was added, and a work entry only with a hint that fits
pub record Did (plan : Plan) (old new : List Entry) (t : ℕ) (hint : Option Worked) (e : Entry) : Type 0 where
  pub added : new ≡ old ++ e ∷ []
  pub own : e.by ≡ t
  pub may : MayFollow plan (reverse old) e
  pub hinted : e.kind ≡ kind.Work → Fits hint e.arg (register plan (reverse old) e.place t)

-- nothing was added, since the legal entry of t is a work of these rounds from this start, and the hint doesn't fit
pub record AsksForWork (plan : Plan) (old new : List Entry) (t : ℕ) (hint : Option Worked) (p rounds : ℕ) (from : ℤ) : Type 0 where
  pub kept : new ≡ old
  pub may : MayFollow plan (reverse old) (work_entry p t rounds from)
  pub start : from ≡ register plan (reverse old) p t
  pub unfit : Fits hint rounds from → ⊥

-- nothing was added, since t has no entry, and whether it is over
pub record IsSilent (plan : Plan) (old new : List Entry) (t : ℕ) : Type 0 where
  pub kept : new ≡ old
  pub silent : HasNoEntry plan (reverse old) t

-- what `next` for t answers on the journal `old`, and the journal that it leaves
abbrev pub Answers : Plan → List Entry → List Entry → ℕ → Option Worked → Answer → Type 0
Answers plan old new t hint (answer.Did e) = Did plan old new t hint e
Answers plan old new t hint (answer.Work p rounds from) = AsksForWork plan old new t hint p rounds from
Answers plan old new t hint answer.NotYet = IsSilent plan old new t × (is_over plan (reverse old) t ≡ false)
Answers plan old new t hint answer.Over = IsSilent plan old new t × (is_over plan (reverse old) t ≡ true)

-- it made the entry of a put or restore that the device refused
abbrev pub made_fault : Answer → Bool
made_fault (answer.Did e) = is_fault e
made_fault _ = false
