-- What callers see of a cursor over a journal.
use Rattle.std.specs.Prelude.{◌≡◌, ℕ, suc, Bool, true, false, List, take, reverse, slice_get, Some}
use Rattle.caa_base.specs.declared.written.entry.Entry.{Entry}
use Rattle.place_plan.specs.Plans.PlanValue.{Plan}
use Rattle.place_plan.specs.RulesOfJournals.Rules.{MayFollow}
use Rattle.journal_states.specs.declared.states.States.{States}

-- the plan of the journal
abbrev pub plan_in : States → Plan
plan_in states = states.plan.now

-- all entries of the journal, the oldest first
abbrev pub journal_in : States → List Entry
journal_in states = states.entries.now

-- how many of them were taken in
abbrev pub taken_in : States → ℕ
taken_in states = states.taken

-- the entries that were taken in, the newest first
abbrev pub past_in : States → List Entry
past_in states = reverse (take (taken_in states) (journal_in states))

-- the next entry may not come by the rules, or there is none
abbrev pub IsAtEnd : States → Type 0
IsAtEnd states = (e : Entry) → slice_get (journal_in states) (taken_in states) ≡ Some e → MayFollow (plan_in states) (past_in states) e → ⊥

-- an entry more was taken in, or none, since none may come
abbrev pub Stepped : States → States → Bool → Type 0
Stepped old new true = taken_in new ≡ suc (taken_in old)
Stepped old new false = (taken_in new ≡ taken_in old) × IsAtEnd old
