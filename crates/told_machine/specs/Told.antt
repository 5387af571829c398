-- What callers see of a machine that is told, and what its calls answer.
use Rattle.std.specs.Prelude.{◌≡◌, ℕ, Bool, List, [], ◌∷◌, ◌++◌, reverse, Option, Some, None, if◌then◌else◌}
use Rattle.caa_base.specs.declared.written.entry.Entry.{Entry}
use Rattle.place_plan.specs.Plans.PlanValue.{Plan}
use Rattle.place_plan.specs.RulesOfJournals.Machine.{work_entry}
use Rattle.journal_laws.specs.Due.{as_refused}
use Rattle.journal_replay.specs.IsDue.{DeviceDecides}
use Rattle.journal_replay.specs.Moves.{IsMove, MayMakeNow, MayWorkNow}
use Rattle.journal_replay.specs.declared.moves.Work.{Work}
use Rattle.journal_replay.specs.declared.moves.Move.{Move}
use Rattle.journal_replay.specs.declared.moves.Move.TheVariants as move
use Rattle.journal_replay.specs.declared.past.StandsFor.{Ghosts as OfRecords}
use Rattle.told_machine.specs.Tickets.{made_by}
use Rattle.told_machine.specs.declared.next.Next.{Next}
use Rattle.told_machine.specs.declared.next.Next.TheVariants as next
use Rattle.told_machine.specs.declared.told.Told.{Told}

-- the plan that is played
abbrev pub plan_in : {R : Type 0} {kept : OfRecords R} → Told R kept → Plan
plan_in told = told.plan

-- the entries that were made, the oldest first
abbrev pub journal_in : {R : Type 0} {kept : OfRecords R} → Told R kept → List Entry
journal_in told = told.journal.entries

-- the put that it has asked for and not been told of yet, by the entry that is made where it was done
abbrev pub asked_in : {R : Type 0} {kept : OfRecords R} → Told R kept → Option Entry
asked_in told = told.asked

-- ---- what `next` for t answers; `asked` is the put that is asked for after it

-- the one entry that t may make was added
pub record Did (plan : Plan) (old new : List Entry) (t : ℕ) (asked : Option Entry) (e : Entry) : Type 0 where
  pub next : MayMakeNow plan (reverse old) t e
  pub added : new ≡ old ++ e ∷ []
  pub free : asked ≡ None

-- nothing was added, since the one entry that t may make is that of this work; its ticket is how many entries t has made
pub record Works (plan : Plan) (old new : List Entry) (t : ℕ) (asked : Option Entry) (work : Work) (ticket : ℕ) : Type 0 where
  pub next : MayWorkNow plan (reverse old) t work
  pub number : ticket ≡ made_by (reverse old) t
  pub kept : new ≡ old
  pub free : asked ≡ None

-- nothing was added yet: t may make this entry where its put is done, that of its refusal where it isn't, and no other
pub record Puts (plan : Plan) (old new : List Entry) (t : ℕ) (asked : Option Entry) (put : Entry) : Type 0 where
  pub next : DeviceDecides plan (reverse old) t put (as_refused put.kind put)
  pub kept : new ≡ old
  pub asks : asked ≡ Some put

-- nothing was added, since t has no entry: it waits, or is over
pub record IsSilent (plan : Plan) (old new : List Entry) (t : ℕ) (asked : Option Entry) (silence : Move) : Type 0 where
  pub next : IsMove plan (reverse old) t silence
  pub kept : new ≡ old
  pub free : asked ≡ None

-- where no put was asked for
abbrev pub NextsFree : Plan → List Entry → List Entry → ℕ → Option Entry → Next → Type 0
NextsFree plan old new t asked (next.Did e) = Did plan old new t asked e
NextsFree plan old new t asked (next.Works work ticket) = Works plan old new t asked work ticket
NextsFree plan old new t asked (next.Puts put) = Puts plan old new t asked put
NextsFree plan old new t asked (next.Busy put) = ⊥
NextsFree plan old new t asked (next.Waits wait) = IsSilent plan old new t asked (move.Wait wait)
NextsFree plan old new t asked next.Over = IsSilent plan old new t asked move.Over

-- what `next` for t answers on the journal `old`, and what it leaves; where a put was asked for, that is told again
abbrev pub Nexts : Plan → List Entry → List Entry → ℕ → Option Entry → Option Entry → Next → Type 0
Nexts plan old new t None asked r = NextsFree plan old new t asked r
Nexts plan old new t (Some put) asked r = (r ≡ next.Busy put) × (new ≡ old) × (asked ≡ Some put)

-- ---- what an answer to a put leaves

-- the entry of the put that was asked for is added where it was done, that of its refusal where it wasn't; if none was, nothing is
abbrev pub Answered : List Entry → List Entry → Option Entry → Option Entry → Bool → Option Entry → Type 0
Answered old new None asked done r = (r ≡ None) × (new ≡ old) × (asked ≡ None)
Answered old new (Some put) asked done r =
    let e = if done then put else as_refused put.kind put in (r ≡ Some e) × (new ≡ old ++ e ∷ []) × (asked ≡ None)

-- ---- what the end of a work leaves

-- no put is asked for, and t is at this work, whose ticket this is
pub record MayEnd (plan : Plan) (past : List Entry) (t : ℕ) (asked : Option Entry) (ticket : ℕ) (work : Work) : Type 0 where
  pub next : MayWorkNow plan past t work
  pub number : ticket ≡ made_by past t
  pub free : asked ≡ None

-- the entry of the work was added
pub record Ended (plan : Plan) (old new : List Entry) (t : ℕ) (asked : Option Entry) (ticket : ℕ) (e : Entry) : Type 0 where
  pub work : Work
  pub may : MayEnd plan (reverse old) t asked ticket work
  pub entry : e ≡ work_entry work.place t work.rounds work.from
  pub added : new ≡ old ++ e ∷ []

-- the work that t is at has ended, if its ticket is this; else nothing was added
abbrev pub Worked : Plan → List Entry → List Entry → ℕ → Option Entry → ℕ → Option Entry → Type 0
Worked plan old new t asked ticket None = (new ≡ old) × ((work : Work) → MayEnd plan (reverse old) t asked ticket work → ⊥)
Worked plan old new t asked ticket (Some e) = Ended plan old new t asked ticket e
