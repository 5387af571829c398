-- A journal is legal in one way at most.
use Rattle.std.proofs.Common.{◌<◌, ℕ, ℤ, Bool, true, false, List, [], ◌∷◌, Option, Some, None, MatchOption, MatchBool}
use Rattle.std.specs.Coded.{Coded-set, coded_ℕ, coded_ℤ, coded_bool, coded_option, coded×, ×_prop, Unit-prop}
use Rattle.std.proofs.Math.Bridge.{le_prop}
use mathlib.Core.Sum.{⊎_set}
use Rattle.caa_base.specs.declared.written.entry.Entry.{Entry}
use Rattle.caa_base.specs.declared.written.entry.Kind.{Kind}
use Rattle.caa_base.specs.declared.written.entry.Kind.TheVariants as kind
use Rattle.caa_base.specs.declared.written.entry.Verdict.{Verdict}
use Rattle.caa_base.specs.declared.written.entry.Verdict.TheVariants as verdict
use Rattle.place_plan.specs.Plans.PlanValue.{Plan}
use Rattle.place_plan.specs.RulesOfJournals.Rules.{Row, MayFollow, SaysVerdict, Names, SignalsLeast}
use Rattle.place_plan.specs.RulesOfJournals.Journals.{LegalPast}

numbers-set : IsSet ℕ
numbers-set = Coded-set coded_ℕ

integers-set : IsSet ℤ
integers-set = Coded-set coded_ℤ

tests-set : IsSet Bool
tests-set = Coded-set coded_bool

options-set : IsSet (Option ℕ)
options-set = Coded-set (coded_option coded_ℕ)

puts-set : IsSet (Option (ℕ × ℤ))
puts-set = Coded-set (coded_option (coded× coded_ℕ coded_ℤ))

below-prop : {m n : ℕ} → IsProp (m < n)
below-prop = le_prop

ruleset sets = (numbers-set, integers-set, tests-set, options-set, puts-set, below-prop, ⊎_set)

says-prop : (e : Entry) (v : Verdict) → IsProp (SaysVerdict e v)
says-prop e verdict.Done = hlevel sets
says-prop e (verdict.Signal x) = hlevel sets
says-prop e verdict.Undo = hlevel sets

match-prop : {A : Type 0} (o : Option A) (P : A → Type 0) → ((x : A) → IsProp (P x)) → IsProp (MatchOption o ⊥ P)
match-prop None P h = hlevel
match-prop (Some x) P h = h x

either-prop : (b : Bool) (P Q : Type 0) → IsProp P → IsProp Q → IsProp (MatchBool b P Q)
either-prop true P Q h k = h
either-prop false P Q h k = k

names-prop : (e : Entry) (o : Option ℕ) → IsProp (Names e o)
names-prop e None = hlevel sets
names-prop e (Some x) = hlevel sets

signals-prop : (plan : Plan) (e : Entry) (xs : List ℕ) → IsProp (SignalsLeast plan e xs)
signals-prop plan e [] = hlevel sets
signals-prop plan e (x ∷ xs) = hlevel sets

row-prop : (k : Kind) (plan : Plan) (past : List Entry) (e : Entry) → IsProp (Row k plan past e)
row-prop kind.Arrive plan past e = hlevel sets
row-prop kind.Withdraw plan past e = hlevel sets
row-prop kind.Start plan past e = hlevel sets
row-prop kind.Read plan past e = hlevel sets
row-prop kind.Work plan past e = hlevel sets
row-prop kind.Write plan past e = hlevel sets
row-prop kind.Check plan past e = hlevel sets
row-prop kind.PutFault plan past e = hlevel sets
row-prop kind.Raise plan past e = hlevel sets
row-prop kind.Inform plan past e = hlevel sets
row-prop kind.Resolve plan past e = hlevel sets
row-prop kind.Handle plan past e = hlevel sets
row-prop kind.Verdict plan past e = hlevel (sets, match-prop, says-prop)
row-prop kind.Abort plan past e = hlevel (sets, names-prop)
row-prop kind.Undo plan past e = hlevel (sets, either-prop)
row-prop kind.Restore plan past e = hlevel sets
row-prop kind.End plan past e = hlevel (sets, either-prop, signals-prop)
row-prop kind.Leave plan past e = hlevel (sets, names-prop)

-- two proofs that an entry may follow a past are one
pub MayFollow-prop : (plan : Plan) (past : List Entry) (e : Entry) → IsProp (MayFollow plan past e)
MayFollow-prop plan past e = row-prop e.kind plan past e

-- two proofs that a past is legal are one, so legality can be a ghost field
pub LegalPast-prop : (plan : Plan) (past : List Entry) → IsProp (LegalPast plan past)
LegalPast-prop plan [] = Unit-prop
LegalPast-prop plan (e ∷ past) = ×_prop (LegalPast-prop plan past) (MayFollow-prop plan past e)
