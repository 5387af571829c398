-- The entries that a stance shows are well formed.
use Rattle.std.proofs.Common.{ℕ, List, [], ◌∷◌}
use Rattle.std.specs.List.{All}
use Rattle.std.proofs.lemmas.List.Elements.{All-nil, All-cons, All-head}
use Rattle.caa_base.specs.declared.written.entry.Entry.{Entry}
use Rattle.place_plan.specs.Plans.PlanValue.{Plan}
use Rattle.place_plan.specs.RulesOfJournals.Journals.{LegalPast}
use Rattle.place_plan.specs.RulesOfJournals.Machine.{work_entry}
use Rattle.place_plan.specs.RulesOfJournals.Rules.{MayFollow}
use Rattle.place_plan.specs.RulesOfJournals.WellFormed.{IsWellFormed, AllWellFormed}
use Rattle.journal_laws.specs.Laws.{Holds}
use Rattle.journal_laws.specs.Due.{as_refused}
use Rattle.journal_replay.specs.Moves.{IsMove}
use Rattle.journal_replay.specs.declared.moves.Move.{Move}
use Rattle.journal_replay.specs.declared.moves.Move.TheVariants as move
use Rattle.journal_page.specs.Stances.{entries_in}

-- an entry that may come is well formed
may_well : (plan : Plan) (past : List Entry) (e : Entry) → Holds AllWellFormed plan → LegalPast plan past → MayFollow plan past e
    → IsWellFormed plan e
may_well plan past e law legal may = All-head (IsWellFormed plan) e past (law (e ∷ past) (legal, may))

-- so are all that a move lets its participant make
pub shown_well : (plan : Plan) (past : List Entry) (t : ℕ) (s : Move) → Holds AllWellFormed plan → LegalPast plan past
    → IsMove plan past t s → All (IsWellFormed plan) (entries_in t s)
shown_well plan past t (move.Make e) law legal is =
    All-cons (IsWellFormed plan) e [] (may_well plan past e law legal is.next.may) (All-nil (IsWellFormed plan))
shown_well plan past t (move.Put e) law legal is =
    let refusal = as_refused e.kind e in
    All-cons (IsWellFormed plan) e (refusal ∷ []) (may_well plan past e law legal is.may.0)
    (All-cons (IsWellFormed plan) refusal [] (may_well plan past refusal law legal is.may.1) (All-nil (IsWellFormed plan)))
shown_well plan past t (move.Mix work) law legal is =
    All-cons (IsWellFormed plan) (work_entry work.place t work.rounds work.from) []
    (may_well plan past (work_entry work.place t work.rounds work.from) law legal is.next.may) (All-nil (IsWellFormed plan))
shown_well plan past t (move.Wait wait) law legal is = All-nil (IsWellFormed plan)
shown_well plan past t move.Over law legal is = All-nil (IsWellFormed plan)
