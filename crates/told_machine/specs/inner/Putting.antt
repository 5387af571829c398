-- The two entries of a put that is asked for.
use Rattle.std.specs.Prelude.{List, Option, Some, None}
use Rattle.std.specs.Coded.{×_prop, Unit-prop}
use Rattle.caa_base.specs.declared.written.entry.Entry.{Entry}
use Rattle.place_plan.specs.Plans.PlanValue.{Plan}
use Rattle.place_plan.specs.RulesOfJournals.Rules.{MayFollow}
use Rattle.place_plan.proofs.OnJournals.LegalProp.{MayFollow-prop}
use Rattle.journal_laws.specs.Due.{as_refused}

-- where a put is asked for, its entry may follow, and so may that of its refusal
abbrev pub BothMayFollow : Plan → List Entry → Option Entry → Type 0
BothMayFollow plan past None = Unit {0}
BothMayFollow plan past (Some put) = MayFollow plan past put × MayFollow plan past (as_refused put.kind put)

pub BothMayFollow-prop : (plan : Plan) (past : List Entry) (asked : Option Entry) → IsProp (BothMayFollow plan past asked)
BothMayFollow-prop plan past None = Unit-prop
BothMayFollow-prop plan past (Some put) = ×_prop (MayFollow-prop plan past put) (MayFollow-prop plan past (as_refused put.kind put))
