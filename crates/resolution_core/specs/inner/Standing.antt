-- The journal that the recoveries of all places stand for, and what an entry does to them.
use Rattle.std.specs.Prelude.{◌≡◌, ℕ, ◌==◌, ◌<◌, Bool, false, if◌then◌else◌, List, [], length, All}
use Rattle.cover_table.specs.Cover.{has_bit}
use Rattle.core_words.specs.Joining.{IsCoverOf}
use Rattle.caa_base.specs.declared.written.entry.Entry.{Entry}
use Rattle.caa_base.specs.declared.written.entry.Kind.TheVariants as kind
use Rattle.place_plan.specs.Plans.PlanValue.{Plan}
use Rattle.place_plan.specs.Plans.Places.{internal_of}
use Rattle.place_plan.specs.RulesOfJournals.Entries.{is_in}
use Rattle.place_plan.specs.RulesOfJournals.Raising.{raises_in, exceptions_raised, halts_in, is_halted, exception_resolved}
use Rattle.resolution_core.specs.declared.recovery.Recovery.{Recovery}
use Rattle.resolution_core.specs.inner.Recoveries.{at}

-- the recovery is that of p by the past: it has the least cover of all that was raised there, who was halted there, and the
-- exception to which p was resolved
pub record IsRecoveryOf (plan : Plan) (past : List Entry) (p : ℕ) (row : Recovery) : Type 0 where
  pub known : All (λ x. x < (internal_of plan p).count) (exceptions_raised plan past p)
  pub cover : IsCoverOf (internal_of plan p) (exceptions_raised plan past p) row.cover
  pub halted : (t : ℕ) → has_bit row.halted t ≡ is_halted plan past p t
  pub resolution : row.resolved ≡ exception_resolved past p

-- the recoveries are those of all places by the past
pub record StandsFor (plan : Plan) (past : List Entry) (rows : List Recovery) : Type 0 where
  pub as_many : length rows ≡ length plan.places
  pub each : (p : ℕ) → IsRecoveryOf plan past p (at rows p)

-- the entry, which t made, raises these exceptions in p, and nothing elsewhere; it may halt t there, and nowhere else; and it may
-- resolve p, and nothing else
pub record Acts (plan : Plan) (past : List Entry) (e : Entry) (p t : ℕ) (xs : List ℕ) (halts resolves : Bool) : Type 0 where
  pub own : e.by ≡ t
  pub raises : (q : ℕ) → raises_in plan past q e e.kind ≡ (if p == q then xs else [])
  pub stops : (q : ℕ) → halts_in plan past q e e.kind ≡ (if p == q then halts else false)
  pub settles : (q : ℕ) → is_in kind.Resolve q e ≡ (if p == q then resolves else false)
