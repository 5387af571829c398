-- What the fields of an entry may be, by its kind, whatever stands before it.
use Rattle.std.specs.Prelude.{◌≡◌, ℕ, pos, ◌<◌, ◌≤◌, List, length, Option, Some, None}
use Rattle.std.specs.List.{All}
use Rattle.cover_table.specs.Cover.{CoverOrder}
use Rattle.caa_base.specs.Written.Limits.{IsValue, most_count}
use Rattle.caa_base.specs.Written.Marks.{verdict_mark, mark_of, no_mark, naming_mark}
use Rattle.caa_base.specs.declared.written.entry.Entry.{Entry}
use Rattle.caa_base.specs.declared.written.entry.Kind.{Kind}
use Rattle.caa_base.specs.declared.written.entry.Kind.TheVariants as kind
use Rattle.caa_base.specs.declared.written.entry.Outcome.TheVariants as outcome
use Rattle.caa_base.specs.declared.written.entry.Verdict.TheVariants as verdict
use Rattle.place_plan.specs.Plans.PlanValue.{Plan}
use Rattle.place_plan.specs.Plans.Places.{parent, internal_of, interface_of}
use Rattle.place_plan.specs.RulesOfJournals.Rules.{IsPlain}

-- an object and its value
pub record ShowsObject (plan : Plan) (e : Entry) : Type 0 where
  pub arg : e.arg < length plan.objects
  pub value : IsValue e.value

-- an exception of this graph alone
pub record ShowsException (order : CoverOrder) (e : Entry) : Type 0 where
  pub arg : e.arg < order.count
  pub mark : e.mark ≡ no_mark
  pub value : e.value ≡ pos 0

-- at this mark an exception of the graph stands, and at the others below `marks` nothing
pub record MayShowException (order : CoverOrder) (at marks : ℕ) (e : Entry) : Type 0 where
  pub mark : e.mark < marks
  pub named : e.mark ≡ at → e.arg < order.count
  pub bare : (e.mark ≡ at → ⊥) → e.arg ≡ 0
  pub value : e.value ≡ pos 0

-- an exception that is carried into the place round p: none out of a play
abbrev pub MayCarry : Plan → Option ℕ → Entry → Type 0
MayCarry plan None e = IsPlain e
MayCarry plan (Some q) e = MayShowException (internal_of plan q) naming_mark 2 e

-- what an entry of each kind has as its number, its mark and its value
abbrev pub FieldsFit : Kind → Plan → Entry → Type 0
FieldsFit kind.Arrive plan e = IsPlain e
FieldsFit kind.Withdraw plan e = IsPlain e
FieldsFit kind.Start plan e = IsPlain e
FieldsFit kind.Read plan e = ShowsObject plan e × (e.mark ≡ no_mark)
FieldsFit kind.Work plan e = (e.arg ≤ most_count) × (e.mark ≡ no_mark) × IsValue e.value
FieldsFit kind.Write plan e = ShowsObject plan e × (e.mark ≡ no_mark)
FieldsFit kind.Check plan e = IsPlain e
FieldsFit kind.PutFault plan e = ShowsObject plan e × (e.mark ≡ no_mark)
FieldsFit kind.Raise plan e = ShowsException (internal_of plan e.place) e
FieldsFit kind.Inform plan e = IsPlain e
FieldsFit kind.Resolve plan e = ShowsException (internal_of plan e.place) e
FieldsFit kind.Handle plan e = ShowsException (internal_of plan e.place) e
FieldsFit kind.Verdict plan e = MayShowException (interface_of plan e.place) (verdict_mark (verdict.Signal 0)).0 3 e
FieldsFit kind.Abort plan e = MayShowException (interface_of plan e.place) naming_mark 2 e
FieldsFit kind.Undo plan e = IsPlain e
FieldsFit kind.Restore plan e = ShowsObject plan e × (e.mark < 2)
FieldsFit kind.End plan e = MayShowException (interface_of plan e.place) (mark_of (outcome.Signal 0)) 5 e
FieldsFit kind.Leave plan e = MayCarry plan (parent plan e.place) e

-- the numbers of place and participant are those of the plan, and the other fields fit the kind
pub record IsWellFormed (plan : Plan) (e : Entry) : Type 0 where
  pub place : e.place < length plan.places
  pub by : e.by < length plan.participants
  pub fields : FieldsFit e.kind plan e

-- each entry of a journal or a past is well formed
abbrev pub AllWellFormed : Plan → List Entry → Type 0
AllWellFormed plan entries = All (IsWellFormed plan) entries
