use Rattle.std.proofs.Common.{◌≡◌, ◌∙◌, ◌∷◌, ◌<◌, ℕ, suc, length, reverse, sym, ap, subst, ◌+◌, arith}
use Rattle.journal_laws.proofs.PlayablePlan.{is_playable}
use Rattle.action_core.specs.declared.person.Person.{Person}
use Rattle.action_core.specs.inner.KeptPeople.{at, refused_after, IsNext, PersonOfEach}
use Rattle.action_core.proofs.Makers.{maker_known}
use Rattle.action_core.proofs.Turning.{opened_next, person_keeps}
use Rattle.action_core.proofs.people.People.note.Goals as goal

one_more : (n : ℕ) → n + 1 ≡ suc n
one_more n = omega arith

pub turn_after-turn-requires : goal.turn_after-turn-requires
turn_after-turn-requires c = λ opens.
    let plan = c.args.plan.now in
    let past = reverse c.args.journal.now in
    let e = c.args.entry.now in
    let playable = is_playable plan c.is_closed.ensures in
    let known = maker_known plan playable past e c.requires.legal c.requires.may in
    let kept = (c.requires.stands.each e.by known).turn in
    let there = (opened_next plan playable past e c.requires.legal c.requires.may opens (at c.args.self.now e.by).turn kept).0 in
    subst (λ (p : Person). p.turn < length plan.plays) (sym c.person-person.ensures) there

pub set-requires : goal.set-requires
set-requires c =
    subst (λ n. c.args.entry.now.by < n) (sym c.requires.stands.as_many)
    (maker_known c.args.plan.now (is_playable c.args.plan.now c.is_closed.ensures) (reverse c.args.journal.now) c.args.entry.now
    c.requires.legal c.requires.may)

pub returns : goal.returns
returns c =
    let plan = c.args.plan.now in
    let past = reverse c.args.journal.now in
    let e = c.args.entry.now in
    let playable = is_playable plan c.is_closed.ensures in
    let known = maker_known plan playable past e c.requires.legal c.requires.may in
    let listed = subst (λ n. e.by < n) (sym c.requires.stands.as_many) known in
    let new : Person = record { turn = c.turn_after-turn.result; refused = c.refused_after-refused.result } in
    subst (PersonOfEach plan (e ∷ past)) (sym c.set.ensures)
    (person_keeps plan playable past e c.args.self.now new c.requires.legal c.requires.may listed
    (λ opens. subst (λ (p : Person). IsNext plan e.by (suc p.turn) new.turn) c.person-person.ensures
    (subst (λ n. IsNext plan e.by n new.turn) (one_more c.person-person.result.turn) (c.turn_after-turn.ensures.goes_on opens)))
    (λ shut. c.turn_after-turn.ensures.stays shut ∙ ap (λ (p : Person). p.turn) c.person-person.ensures)
    (c.refused_after-refused.ensures ∙ ap (λ (p : Person). refused_after e p.refused) c.person-person.ensures) c.requires.stands)
