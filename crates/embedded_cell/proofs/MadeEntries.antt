-- The entry that a machine made is well formed.
use Rattle.std.proofs.Common.{◌≡◌, List, [], ◌∷◌, ◌++◌, reverse, ap, ◌∙◌, subst}
use Rattle.std.proofs.lemmas.List.{reverse-append}
use Rattle.std.proofs.lemmas.List.Elements.{All-head}
use Rattle.caa_base.specs.declared.written.entry.Entry.{Entry}
use Rattle.place_plan.specs.Plans.PlanValue.{Plan}
use Rattle.place_plan.specs.RulesOfJournals.Journals.{LegalPast}
use Rattle.place_plan.specs.RulesOfJournals.WellFormed.{IsWellFormed, AllWellFormed}
use Rattle.journal_laws.specs.Laws.{Holds}

pub made_well : (plan : Plan) (old new : List Entry) (e : Entry) → Holds AllWellFormed plan → LegalPast plan (reverse new)
    → new ≡ old ++ e ∷ [] → IsWellFormed plan e
made_well plan old new e law legal added =
    All-head (IsWellFormed plan) e (reverse old)
    (subst (AllWellFormed plan) (ap reverse added ∙ reverse-append old (e ∷ [])) (law (reverse new) legal))
