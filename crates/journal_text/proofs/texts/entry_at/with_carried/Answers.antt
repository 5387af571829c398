use Rattle.std.proofs.Common.{ℕ, List, Bor, Option, sym, subst, ◌∙◌}
use Rattle.place_plan.specs.Plans.Places.{graph_at}
use Rattle.place_plan.specs.RulesOfJournals.WellFormed.{MayShowException, MayCarry}
use Rattle.journal_text.specs.Texts.Text.{marked_name, carried_name, name_words}
use Rattle.journal_text.specs.inner.Tokens.{IsOf, LineRead}
use Rattle.journal_text.proofs.texts.entry_at.with_carried.Goals as goal

abbrev now : Bor (List ℕ) → List ℕ
now r = r.now

pub returns-in-Some : goal.returns-in-Some
returns-in-Some c =
    let plan = c.args.plan.now in
    let maker = c.args.maker in
    let text = c.args.text.now in
    let read = c.with_name.result in
    subst
    (λ (o : Option ℕ). LineRead now (λ e. IsOf maker e × MayCarry plan o e) (λ e. name_words (carried_name plan o e)) text read)
    (sym c.in-Some.is ∙ c.parent.ensures)
    (subst (λ g. LineRead now (λ e. IsOf maker e × MayShowException (graph_at plan g) 1 2 e)
    (λ e. name_words (marked_name plan g e)) text read) c.internal_number.ensures c.with_name.ensures)

pub returns-in-None : goal.returns-in-None
returns-in-None c =
    let plan = c.args.plan.now in
    let maker = c.args.maker in
    subst
    (λ (o : Option ℕ). LineRead now (λ e. IsOf maker e × MayCarry plan o e) (λ e. name_words (carried_name plan o e)) c.args.text.now
    c.with_nothing.result)
    (sym c.in-None.is ∙ c.parent.ensures) c.with_nothing.ensures
