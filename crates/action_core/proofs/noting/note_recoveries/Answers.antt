use Rattle.std.proofs.Common.{◌≡◌, ◌∙◌, ◌<◌, ◌&&◌, ◌==◌, ℕ, Bool, true, false, ◌∷◌, [], Some, None, Option, reverse, refl, sym, ap, subst, ◌⊎◌, inl, inr}
use Rattle.std.proofs.lemmas.Bool.{ne_eqb}
use Rattle.caa_base.specs.declared.written.entry.Entry.{Entry}
use Rattle.caa_base.specs.declared.written.entry.Kind.{Kind}
use Rattle.caa_base.specs.declared.written.entry.Kind.TheVariants as kind
use Rattle.caa_base.specs.Written.Lists.{is_at}
use Rattle.place_plan.specs.Plans.Places.{parent, internal_of, fault_of}
use Rattle.place_plan.specs.RulesOfJournals.Rules.{Row}
use Rattle.place_plan.specs.RulesOfJournals.Raising.{exceptions_raised}
use Rattle.journal_laws.proofs.PlayablePlan.{is_playable}
use Rattle.journal_laws.proofs.Ranges.{raise_in_range}
use Rattle.journal_laws.proofs.Phases.{hot_open}
use Rattle.resolution_core.specs.inner.Standing.{Acts}
use Rattle.resolution_core.proofs.Keeping.{nothing_keeps}
use Rattle.place_plan.proofs.OnPlans.SmallParts.{few_participants}
use Rattle.action_core.proofs.Makers.{of_its_kind}
use Rattle.action_core.proofs.Acting.{raise_acts, fault_acts, carries_acts, inform_acts, resolve_acts, fault_idle, leave_idle, idle_acts, running, role, there, row, fault_free, carry_free, carry_role, carry_known, cover_there, one_least, recovers}
use Rattle.action_core.proofs.noting.note_recoveries.Goals as goal

pub raise-requires-clause-running : goal.raise-requires-clause-running
raise-requires-clause-running c =
    let plan = c.args.plan.now in
    let past = reverse c.args.journal.now in
    let e = c.args.entry.now in
    let playable = is_playable plan c.is_closed.ensures in
    let few = few_participants plan c.is_closed.ensures in
    let may = subst (λ (k : Kind). Row k plan past e) c.in-Raise.is c.requires.may in
    running plan playable few past c.requires.legal _ c.requires.stands e.place e.by
    (role plan playable few past c.requires.legal _ c.requires.stands e may.here) may.running

pub raise-requires-clause-in_range : goal.raise-requires-clause-in_range
raise-requires-clause-in_range c =
    let plan = c.args.plan.now in
    let past = reverse c.args.journal.now in
    let e = c.args.entry.now in
    let may = subst (λ (k : Kind). Row k plan past e) c.in-Raise.is c.requires.may in
    raise_in_range plan (is_playable plan c.is_closed.ensures) past e.place e.by e.arg may.raises

pub raise-requires-then-not-handled-clause-running : goal.raise-requires-then-not-handled-clause-running
raise-requires-then-not-handled-clause-running c =
    let plan = c.args.plan.now in
    let past = reverse c.args.journal.now in
    let e = c.args.entry.now in
    let playable = is_playable plan c.is_closed.ensures in
    let few = few_participants plan c.is_closed.ensures in
    let may = subst (λ (k : Kind). Row k plan past e) c.in-PutFault.is c.requires.may in
    let fresh = sym (c.requires.handled c.in-PutFault.is) ∙ c.if-not-handled.true in
    running plan playable few past c.requires.legal _ c.requires.stands e.place e.by
    (role plan playable few past c.requires.legal _ c.requires.stands e may.here)
    (fault_free plan playable few past c.requires.legal _ c.requires.stands e may fresh)

pub raise-requires-then-not-handled-clause-in_range : goal.raise-requires-then-not-handled-clause-in_range
raise-requires-then-not-handled-clause-in_range c =
    let plan = c.args.plan.now in
    let past = reverse c.args.journal.now in
    let e = c.args.entry.now in
    let playable = is_playable plan c.is_closed.ensures in
    let few = few_participants plan c.is_closed.ensures in
    let may = subst (λ (k : Kind). Row k plan past e) c.in-PutFault.is c.requires.may in
    subst (λ x. x < (internal_of plan e.place).count) (sym c.fault-fault.ensures)
    (playable.faults e.place e.by (role plan playable few past c.requires.legal _ c.requires.stands e may.here))

pub raise-requires-in-Some-clause-running : goal.raise-requires-in-Some-clause-running
raise-requires-in-Some-clause-running c =
    let plan = c.args.plan.now in
    let past = reverse c.args.journal.now in
    let e = c.args.entry.now in
    let playable = is_playable plan c.is_closed.ensures in
    let few = few_participants plan c.is_closed.ensures in
    let may = subst (λ (k : Kind). Row k plan past e) c.in-Leave.is c.requires.may in
    let into : parent plan e.place ≡ Some c.in-Some.outer = sym c.in-Some.ensures in
    running plan playable few past c.requires.legal _ c.requires.stands c.in-Some.outer e.by
    (carry_role plan playable few past c.requires.legal _ c.requires.stands e c.in-Some.outer may into)
    (carry_free plan playable few past c.requires.legal _ c.requires.stands e c.in-Some.outer may into)

pub raise-requires-in-Some-clause-in_range : goal.raise-requires-in-Some-clause-in_range
raise-requires-in-Some-clause-in_range c =
    let plan = c.args.plan.now in
    let past = reverse c.args.journal.now in
    let e = c.args.entry.now in
    let playable = is_playable plan c.is_closed.ensures in
    let few = few_participants plan c.is_closed.ensures in
    let may = subst (λ (k : Kind). Row k plan past e) c.in-Leave.is c.requires.may in
    carry_known plan playable few past c.requires.legal _ c.requires.stands e c.in-Some.outer may (sym c.in-Some.ensures)
    c.if-entry-eq1.true

pub inform-requires : goal.inform-requires
inform-requires c =
    let plan = c.args.plan.now in
    let past = reverse c.args.journal.now in
    let e = c.args.entry.now in
    let playable = is_playable plan c.is_closed.ensures in
    let few = few_participants plan c.is_closed.ensures in
    let may = subst (λ (k : Kind). Row k plan past e) c.in-Inform.is c.requires.may in
    record {
      running = running plan playable few past c.requires.legal _ c.requires.stands e.place e.by
          (role plan playable few past c.requires.legal _ c.requires.stands e may.here) may.running;
    }

pub resolve-requires-clause-there : goal.resolve-requires-clause-there
resolve-requires-clause-there c =
    let plan = c.args.plan.now in
    let past = reverse c.args.journal.now in
    let e = c.args.entry.now in
    let playable = is_playable plan c.is_closed.ensures in
    let few = few_participants plan c.is_closed.ensures in
    let may = subst (λ (k : Kind). Row k plan past e) c.in-Resolve.is c.requires.may in
    there plan playable few past c.requires.legal _ c.requires.stands e.place e.by
    (role plan playable few past c.requires.legal _ c.requires.stands e may.here)

pub resolve-requires-clause-raised : goal.resolve-requires-clause-raised
resolve-requires-clause-raised c =
    let plan = c.args.plan.now in
    let past = reverse c.args.journal.now in
    let e = c.args.entry.now in
    let playable = is_playable plan c.is_closed.ensures in
    let few = few_participants plan c.is_closed.ensures in
    let may = subst (λ (k : Kind). Row k plan past e) c.in-Resolve.is c.requires.may in
    cover_there plan playable few past c.requires.legal _ c.requires.stands e.place e.by
    (role plan playable few past c.requires.legal _ c.requires.stands e may.here) (hot_open plan past e.place may.when).1

pub resolve-requires-clause-unresolved : goal.resolve-requires-clause-unresolved
resolve-requires-clause-unresolved c =
    let plan = c.args.plan.now in
    let past = reverse c.args.journal.now in
    let e = c.args.entry.now in
    let playable = is_playable plan c.is_closed.ensures in
    let few = few_participants plan c.is_closed.ensures in
    let may = subst (λ (k : Kind). Row k plan past e) c.in-Resolve.is c.requires.may in
    (row plan playable few past c.requires.legal _ c.requires.stands e.place e.by
    (role plan playable few past c.requires.legal _ c.requires.stands e may.here)).resolution
    ∙ may.fresh

pub returns-in-Raise : goal.returns-in-Raise
returns-in-Raise c =
    let plan = c.args.plan.now in
    let past = reverse c.args.journal.now in
    let e = c.args.entry.now in
    c.raise.ensures.keeps past e c.requires.stands
    (subst (λ (x : Entry). Acts plan past x e.place e.by (e.arg ∷ []) true false) (of_its_kind kind.Raise e c.in-Raise.is)
    (raise_acts plan past e))

pub returns-then-not-handled : goal.returns-then-not-handled
returns-then-not-handled c =
    let plan = c.args.plan.now in
    let past = reverse c.args.journal.now in
    let e = c.args.entry.now in
    let fresh = sym (c.requires.handled c.in-PutFault.is) ∙ c.if-not-handled.true in
    let acts =
    subst (λ (x : Entry). Acts plan past x e.place e.by (fault_of plan e.place ∷ []) true false)
    (of_its_kind kind.PutFault e c.in-PutFault.is) (fault_acts plan past e fresh) in
    c.raise-then-not-handled.ensures.keeps past e c.requires.stands
    (subst (λ x. Acts plan past e e.place e.by (x ∷ []) true false) (sym c.fault-fault.ensures) acts)

pub returns-else-not-handled : goal.returns-else-not-handled
returns-else-not-handled c =
    let plan = c.args.plan.now in
    let past = reverse c.args.journal.now in
    let e = c.args.entry.now in
    let done = sym (c.requires.handled c.in-PutFault.is) ∙ c.if-not-handled.false in
    nothing_keeps plan past e e.place e.by _ c.requires.stands
    (subst (λ (x : Entry). Acts plan past x e.place e.by [] false false) (of_its_kind kind.PutFault e c.in-PutFault.is)
    (fault_idle plan past e done))

pub returns-in-Some : goal.returns-in-Some
returns-in-Some c =
    let plan = c.args.plan.now in
    let past = reverse c.args.journal.now in
    let e = c.args.entry.now in
    c.raise-in-Some.ensures.keeps past e c.requires.stands
    (subst (λ (x : Entry). Acts plan past x c.in-Some.outer e.by (e.arg ∷ []) true false)
    (of_its_kind kind.Leave e c.in-Leave.is) (carries_acts plan past e c.in-Some.outer (sym c.in-Some.ensures) c.if-entry-eq1.true))

pub returns-in_default : goal.returns-in_default
returns-in_default c =
    let plan = c.args.plan.now in
    let past = reverse c.args.journal.now in
    let e = c.args.entry.now in
    let top : parent plan e.place ≡ None = sym c.in_default.ensures in
    nothing_keeps plan past e e.place e.by _ c.requires.stands
    (subst (λ (x : Entry). Acts plan past x e.place e.by [] false false) (of_its_kind kind.Leave e c.in-Leave.is)
    (leave_idle plan past e e.place (λ q. ap (λ (o : Option ℕ). is_at o q && (e.mark == 1)) top)))

pub returns-else-entry-eq1 : goal.returns-else-entry-eq1
returns-else-entry-eq1 c =
    let plan = c.args.plan.now in
    let past = reverse c.args.journal.now in
    let e = c.args.entry.now in
    let quiet : (e.mark == 1) ≡ false = ne_eqb e.mark 1 c.if-entry-eq1.false in
    nothing_keeps plan past e e.place e.by _ c.requires.stands
    (subst (λ (x : Entry). Acts plan past x e.place e.by [] false false) (of_its_kind kind.Leave e c.in-Leave.is)
    (leave_idle plan past e e.place (λ q. rw quiet (off (is_at (parent plan e.place) q)))))
  where
    off : (b : Bool) → (b && false) ≡ false
    off true = refl
    off false = refl

pub returns-in-Inform : goal.returns-in-Inform
returns-in-Inform c =
    let plan = c.args.plan.now in
    let past = reverse c.args.journal.now in
    let e = c.args.entry.now in
    c.inform.ensures.keeps past e c.requires.stands
    (subst (λ (x : Entry). Acts plan past x e.place e.by [] true false) (of_its_kind kind.Inform e c.in-Inform.is)
    (inform_acts plan past e))

pub returns-in-Resolve : goal.returns-in-Resolve
returns-in-Resolve c =
    let plan = c.args.plan.now in
    let past = reverse c.args.journal.now in
    let e = c.args.entry.now in
    let playable = is_playable plan c.is_closed.ensures in
    let few = few_participants plan c.is_closed.ensures in
    let may = subst (λ (k : Kind). Row k plan past e) c.in-Resolve.is c.requires.may in
    c.resolve.ensures.keeps plan past e e.by c.requires.stands
    (one_least (internal_of plan e.place) (exceptions_raised plan past e.place) e.arg c.resolve.result
    (playable.sound e.place).0 may.least (c.resolve.ensures.least plan past c.requires.stands))
    (subst (λ (x : Entry). Acts plan past x e.place e.by [] false true) (of_its_kind kind.Resolve e c.in-Resolve.is)
    (resolve_acts plan past e))

idle : (k : Kind)
    → (k ≡ kind.Arrive) ⊎
    ((k ≡ kind.Withdraw)
    ⊎ ((k ≡ kind.Start)
    ⊎ ((k ≡ kind.Read)
    ⊎ ((k ≡ kind.Work)
    ⊎ ((k ≡ kind.Write)
    ⊎ ((k ≡ kind.Check)
    ⊎ ((k ≡ kind.Handle) ⊎ ((k ≡ kind.Verdict) ⊎ ((k ≡ kind.Abort) ⊎ ((k ≡ kind.Undo) ⊎ ((k ≡ kind.Restore) ⊎ (k ≡ kind.End))))))))))))
    → recovers k ≡ false
idle k (inl h) = ap recovers h
idle k (inr (inl h)) = ap recovers h
idle k (inr (inr (inl h))) = ap recovers h
idle k (inr (inr (inr (inl h)))) = ap recovers h
idle k (inr (inr (inr (inr (inl h))))) = ap recovers h
idle k (inr (inr (inr (inr (inr (inl h)))))) = ap recovers h
idle k (inr (inr (inr (inr (inr (inr (inl h))))))) = ap recovers h
idle k (inr (inr (inr (inr (inr (inr (inr (inl h)))))))) = ap recovers h
idle k (inr (inr (inr (inr (inr (inr (inr (inr (inl h))))))))) = ap recovers h
idle k (inr (inr (inr (inr (inr (inr (inr (inr (inr (inl h)))))))))) = ap recovers h
idle k (inr (inr (inr (inr (inr (inr (inr (inr (inr (inr (inl h))))))))))) = ap recovers h
idle k (inr (inr (inr (inr (inr (inr (inr (inr (inr (inr (inr (inl h)))))))))))) = ap recovers h
idle k (inr (inr (inr (inr (inr (inr (inr (inr (inr (inr (inr (inr (h))))))))))))) = ap recovers h

pub returns-in-Arrive : goal.returns-in-Arrive
returns-in-Arrive c =
    let plan = c.args.plan.now in
    let past = reverse c.args.journal.now in
    let e = c.args.entry.now in
    nothing_keeps plan past e e.place e.by _ c.requires.stands (idle_acts plan past e.kind e (idle e.kind c.in-Arrive.is))
