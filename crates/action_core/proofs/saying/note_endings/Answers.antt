use Rattle.std.proofs.Common.{◌≡◌, ◌∙◌, ◌⊎◌, ◌<◌, ◌==◌, ◌&&◌, ℕ, Bool, true, false, Option, None, IfSome, reverse, refl, sym, ap, subst, inl, inr}
use Rattle.std.proofs.lemmas.Bool.{ne_eqb}
use Rattle.caa_base.specs.declared.written.entry.Kind.{Kind}
use Rattle.caa_base.specs.declared.written.entry.Kind.TheVariants as kind
use Rattle.place_plan.specs.Plans.Places.{parent, interface_of}
use Rattle.journal_laws.proofs.PlayablePlan.{is_playable}
use Rattle.caa_base.specs.Written.Lists.{is_at}
use Rattle.action_endings.specs.inner.KeptEndings.{SignalsBelow}
use Rattle.action_endings.specs.inner.ChangedEndings.{Says}
use Rattle.action_core.proofs.Makers.{row_of, place_there}
use Rattle.action_core.proofs.Spoken.{raise_raises, fault_raises, carry_raises, unsaying, endings_stay, may_say, unsaid, verdict_below, says, next_kept, some_untried, restored_well, abort_below_names, carried_there, fault_stay, leave_stay}
use Rattle.action_core.proofs.saying.note_endings.Goals as goal

a_stay : (k : Kind)
    → (k ≡ kind.Arrive) ⊎
    ((k ≡ kind.Withdraw)
    ⊎ ((k ≡ kind.Start)
    ⊎ ((k ≡ kind.Read)
    ⊎ ((k ≡ kind.Work)
    ⊎ ((k ≡ kind.Write) ⊎ ((k ≡ kind.Check) ⊎ ((k ≡ kind.Inform) ⊎ ((k ≡ kind.Resolve) ⊎ ((k ≡ kind.Handle) ⊎ (k ≡ kind.End))))))))))
    → unsaying k ≡ true
a_stay k (inl h) = ap unsaying h
a_stay k (inr (inl h)) = ap unsaying h
a_stay k (inr (inr (inl h))) = ap unsaying h
a_stay k (inr (inr (inr (inl h)))) = ap unsaying h
a_stay k (inr (inr (inr (inr (inl h))))) = ap unsaying h
a_stay k (inr (inr (inr (inr (inr (inl h)))))) = ap unsaying h
a_stay k (inr (inr (inr (inr (inr (inr (inl h))))))) = ap unsaying h
a_stay k (inr (inr (inr (inr (inr (inr (inr (inl h)))))))) = ap unsaying h
a_stay k (inr (inr (inr (inr (inr (inr (inr (inr (inl h))))))))) = ap unsaying h
a_stay k (inr (inr (inr (inr (inr (inr (inr (inr (inr (inl h)))))))))) = ap unsaying h
a_stay k (inr (inr (inr (inr (inr (inr (inr (inr (inr (inr h)))))))))) = ap unsaying h

pub note_raising-requires-clause-there : goal.note_raising-requires-clause-there
note_raising-requires-clause-there c =
    subst (λ n. c.args.entry.now.place < n) (sym c.requires.stands.as_many)
    (place_there c.args.plan.now (is_playable c.args.plan.now c.is_closed.ensures) (reverse c.args.journal.now) c.args.entry.now
    c.requires.legal c.requires.may)

pub note_raising-requires-clause-raises : goal.note_raising-requires-clause-raises
note_raising-requires-clause-raises c = raise_raises c.args.plan.now (reverse c.args.journal.now) c.args.entry.now c.in-Raise.is

pub note_raising-requires-then-not-handled-clause-there : goal.note_raising-requires-then-not-handled-clause-there
note_raising-requires-then-not-handled-clause-there c =
    subst (λ n. c.args.entry.now.place < n) (sym c.requires.stands.as_many)
    (place_there c.args.plan.now (is_playable c.args.plan.now c.is_closed.ensures) (reverse c.args.journal.now) c.args.entry.now
    c.requires.legal c.requires.may)

pub note_raising-requires-then-not-handled-clause-raises : goal.note_raising-requires-then-not-handled-clause-raises
note_raising-requires-then-not-handled-clause-raises c =
    fault_raises c.args.plan.now (reverse c.args.journal.now) c.args.entry.now c.in-PutFault.is
    (sym (c.requires.handled c.in-PutFault.is) ∙ c.if-not-handled.true)

pub returns-else-not-handled : goal.returns-else-not-handled
returns-else-not-handled c =
    fault_stay c.args.plan.now (is_playable c.args.plan.now c.is_closed.ensures) (reverse c.args.journal.now) c.args.entry.now
    c.requires.legal c.requires.may c.args.endings.now c.in-PutFault.is
    (sym (c.requires.handled c.in-PutFault.is) ∙ c.if-not-handled.false) c.requires.stands

pub note_raising-requires-in-Some-clause-there : goal.note_raising-requires-in-Some-clause-there
note_raising-requires-in-Some-clause-there c =
    subst (λ n. c.in-Some.outer < n) (sym c.requires.stands.as_many)
    (carried_there c.args.plan.now (is_playable c.args.plan.now c.is_closed.ensures) (reverse c.args.journal.now)
    c.args.entry.now c.requires.legal c.requires.may c.in-Some.outer (sym c.in-Some.ensures))

pub note_raising-requires-in-Some-clause-raises : goal.note_raising-requires-in-Some-clause-raises
note_raising-requires-in-Some-clause-raises c =
    carry_raises c.args.plan.now (reverse c.args.journal.now) c.args.entry.now c.in-Some.outer c.in-Leave.is
    (sym c.in-Some.ensures) c.if-entry-eq1.true

pub returns-in_default : goal.returns-in_default
returns-in_default c =
    let top : parent c.args.plan.now c.args.entry.now.place ≡ None = sym c.in_default.ensures in
    leave_stay c.args.plan.now (is_playable c.args.plan.now c.is_closed.ensures) (reverse c.args.journal.now) c.args.entry.now
    c.requires.legal c.requires.may c.args.endings.now c.in-Leave.is
    (λ q. ap (λ (o : Option ℕ). is_at o q && (c.args.entry.now.mark == 1)) top) c.requires.stands

pub returns-else-entry-eq1 : goal.returns-else-entry-eq1
returns-else-entry-eq1 c =
    let quiet : (c.args.entry.now.mark == 1) ≡ false = ne_eqb c.args.entry.now.mark 1 c.if-entry-eq1.false in
    leave_stay c.args.plan.now (is_playable c.args.plan.now c.is_closed.ensures) (reverse c.args.journal.now) c.args.entry.now
    c.requires.legal c.requires.may c.args.endings.now c.in-Leave.is
    (λ q. rw quiet (off (is_at (parent c.args.plan.now c.args.entry.now.place) q))) c.requires.stands
  where
    off : (b : Bool) → (b && false) ≡ false
    off true = refl
    off false = refl

pub verdict-requires-clause-may : goal.verdict-requires-clause-may
verdict-requires-clause-may c =
    may_say c.args.plan.now (is_playable c.args.plan.now c.is_closed.ensures) (reverse c.args.journal.now) c.args.entry.now
    c.requires.legal c.requires.may c.args.endings.now c.requires.stands

pub verdict-requires-clause-fresh : goal.verdict-requires-clause-fresh
verdict-requires-clause-fresh c =
    (c.requires.stands.verdicts c.args.entry.now.place).given c.args.entry.now.by
    ∙ unsaid c.args.plan.now (is_playable c.args.plan.now c.is_closed.ensures) (reverse c.args.journal.now) c.args.entry.now
    c.requires.legal
    (row_of c.args.plan.now (reverse c.args.journal.now) kind.Verdict c.args.entry.now c.in-Verdict.is c.requires.may)

pub verdict-requires-clause-in_range : goal.verdict-requires-clause-in_range
verdict-requires-clause-in_range c =
    subst (SignalsBelow (interface_of c.args.plan.now c.args.entry.now.place).count) (sym c.of_mark-verdict.ensures)
    (verdict_below c.args.plan.now (is_playable c.args.plan.now c.is_closed.ensures) (reverse c.args.journal.now)
    c.args.entry.now (row_of c.args.plan.now (reverse c.args.journal.now) kind.Verdict c.args.entry.now c.in-Verdict.is c.requires.may))

pub returns-in-Verdict : goal.returns-in-Verdict
returns-in-Verdict c =
    c.verdict.ensures.keeps (reverse c.args.journal.now) c.args.entry.now c.requires.stands
    (subst (Says c.args.plan.now (reverse c.args.journal.now) c.args.entry.now c.args.entry.now.place c.args.entry.now.by)
    (sym c.of_mark-verdict.ensures)
    (says c.args.plan.now (is_playable c.args.plan.now c.is_closed.ensures) (reverse c.args.journal.now)
    c.args.entry.now.kind c.args.entry.now c.requires.legal c.in-Verdict.is c.requires.may))

pub abort-requires-clause-may : goal.abort-requires-clause-may
abort-requires-clause-may c =
    may_say c.args.plan.now (is_playable c.args.plan.now c.is_closed.ensures) (reverse c.args.journal.now) c.args.entry.now
    c.requires.legal c.requires.may c.args.endings.now c.requires.stands

pub abort-requires-clause-fresh : goal.abort-requires-clause-fresh
abort-requires-clause-fresh c =
    (c.requires.stands.rest c.args.entry.now.place).aborted c.args.entry.now.by
    ∙ (row_of c.args.plan.now (reverse c.args.journal.now) kind.Abort c.args.entry.now c.in-Abort.is c.requires.may).fresh

pub abort-requires-clause-in_range : goal.abort-requires-clause-in_range
abort-requires-clause-in_range c =
    subst (λ o. IfSome o (λ x. x < (interface_of c.args.plan.now c.args.entry.now.place).count)) (sym c.exception_named.ensures)
    (abort_below_names c.args.plan.now (is_playable c.args.plan.now c.is_closed.ensures) (reverse c.args.journal.now)
    c.args.entry.now c.requires.legal c.requires.may c.in-Abort.is)

pub returns-in-Abort : goal.returns-in-Abort
returns-in-Abort c =
    c.abort.ensures.keeps (reverse c.args.journal.now) c.args.entry.now c.requires.stands
    (record { aborts = c.in-Abort.is; here = refl; own = refl; names = sym c.exception_named.ensures })

pub start_undo-requires : goal.start_undo-requires
start_undo-requires c =
    subst (λ n. c.args.entry.now.place < n) (sym c.requires.stands.as_many)
    (place_there c.args.plan.now (is_playable c.args.plan.now c.is_closed.ensures) (reverse c.args.journal.now) c.args.entry.now
    c.requires.legal c.requires.may)

pub returns-in-Undo : goal.returns-in-Undo
returns-in-Undo c =
    c.start_undo.ensures.keeps c.args.plan.now (reverse c.args.journal.now) c.args.entry.now c.requires.stands
    (record { undoes = c.in-Undo.is; here = refl })

pub restored-requires-clause-there : goal.restored-requires-clause-there
restored-requires-clause-there c =
    subst (λ n. c.args.entry.now.place < n) (sym c.requires.stands.as_many)
    (place_there c.args.plan.now (is_playable c.args.plan.now c.is_closed.ensures) (reverse c.args.journal.now) c.args.entry.now
    c.requires.legal c.requires.may)

pub restored-requires-clause-undoing : goal.restored-requires-clause-undoing
restored-requires-clause-undoing c =
    (c.requires.stands.rest c.args.entry.now.place).undoing
    ∙ (row_of c.args.plan.now (reverse c.args.journal.now) kind.Restore c.args.entry.now c.in-Restore.is c.requires.may).when

pub restored-requires-clause-some : goal.restored-requires-clause-some
restored-requires-clause-some c =
    some_untried c.args.plan.now c.is_closed.ensures (reverse c.args.journal.now) c.args.entry.now c.args.endings.now
    c.requires.stands
    (row_of c.args.plan.now (reverse c.args.journal.now) kind.Restore c.args.entry.now c.in-Restore.is c.requires.may)

pub returns-in-Restore : goal.returns-in-Restore
returns-in-Restore c =
    c.restored.ensures.keeps c.args.plan.now (reverse c.args.journal.now) c.args.entry.now c.requires.stands
    (record {
      restores = c.in-Restore.is;
      here = refl;
      next =
          next_kept c.args.plan.now c.is_closed.ensures (reverse c.args.journal.now) c.args.entry.now c.args.endings.now
          c.requires.stands (row_of c.args.plan.now (reverse c.args.journal.now) kind.Restore c.args.entry.now c.in-Restore.is
          c.requires.may);
      mark =
          restored_well c.args.plan.now (reverse c.args.journal.now) c.args.entry.now
          (row_of c.args.plan.now (reverse c.args.journal.now) kind.Restore c.args.entry.now c.in-Restore.is c.requires.may);
    })

pub returns-in-Arrive : goal.returns-in-Arrive
returns-in-Arrive c =
    endings_stay c.args.plan.now (is_playable c.args.plan.now c.is_closed.ensures) (reverse c.args.journal.now) c.args.entry.now
    c.args.endings.now c.requires.legal c.requires.may (a_stay _ c.in-Arrive.is) c.requires.stands
