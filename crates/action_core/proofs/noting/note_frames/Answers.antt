use Rattle.std.proofs.Common.{◌≡◌, ◌∙◌, ◌⊎◌, to_z, of_z, w64, arith, true, cond, Some, None, reverse, refl, sym, ap, subst, inl, inr}
use Rattle.caa_base.specs.declared.written.entry.Kind.{Kind}
use Rattle.caa_base.specs.declared.written.entry.Kind.TheVariants as kind
use Rattle.std.proofs.lemmas.Int.{ints}
use Rattle.role_states.specs.inner.Standing.{is_step, value_given, Steps}
use Rattle.place_plan.specs.RulesOfJournals.Roles.{gives_value}
use Rattle.journal_laws.proofs.PlayablePlan.{is_playable}
use Rattle.action_core.proofs.Makers.{row_of}
use Rattle.action_core.proofs.Framing.{nests, maker_listed, coming, room_to_come, stepping, stands_there, few_so_far, few_outside, step_here, unmoving, frames_stay}
use Rattle.action_core.proofs.noting.note_frames.Goals as goal

-- the kinds of step that give a value
a_step : (k : Kind) → (k ≡ kind.Read) ⊎ ((k ≡ kind.Work) ⊎ (k ≡ kind.Write)) → (is_step k ≡ true) × (gives_value k ≡ true)
a_step k (inl h) = (ap is_step h, ap gives_value h)
a_step k (inr (inl h)) = (ap is_step h, ap gives_value h)
a_step k (inr (inr h)) = (ap is_step h, ap gives_value h)

-- the kinds that leave the frames
a_stay : (k : Kind)
    → (k ≡ kind.Start) ⊎
    ((k ≡ kind.PutFault)
    ⊎ ((k ≡ kind.Raise)
    ⊎ ((k ≡ kind.Inform)
    ⊎ ((k ≡ kind.Resolve) ⊎ ((k ≡ kind.Verdict) ⊎ ((k ≡ kind.Abort) ⊎ ((k ≡ kind.Undo) ⊎ ((k ≡ kind.Restore) ⊎ (k ≡ kind.End)))))))))
    → unmoving k ≡ true
a_stay k (inl h) = ap unmoving h
a_stay k (inr (inl h)) = ap unmoving h
a_stay k (inr (inr (inl h))) = ap unmoving h
a_stay k (inr (inr (inr (inl h)))) = ap unmoving h
a_stay k (inr (inr (inr (inr (inl h))))) = ap unmoving h
a_stay k (inr (inr (inr (inr (inr (inl h)))))) = ap unmoving h
a_stay k (inr (inr (inr (inr (inr (inr (inl h))))))) = ap unmoving h
a_stay k (inr (inr (inr (inr (inr (inr (inr (inl h)))))))) = ap unmoving h
a_stay k (inr (inr (inr (inr (inr (inr (inr (inr (inl h))))))))) = ap unmoving h
a_stay k (inr (inr (inr (inr (inr (inr (inr (inr (inr h))))))))) = ap unmoving h

pub enter-requires-clause-known : goal.enter-requires-clause-known
enter-requires-clause-known c =
    maker_listed c.args.plan.now c.is_closed.ensures (reverse c.args.journal.now) c.args.entry.now c.requires.legal c.requires.may
    c.args.frames.now c.requires.stands

pub enter-requires-clause-room : goal.enter-requires-clause-room
enter-requires-clause-room c =
    room_to_come c.args.plan.now c.is_closed.ensures (reverse c.args.journal.now) c.args.entry.now c.requires.legal c.requires.may
    c.args.frames.now c.requires.stands c.in-Arrive.is

pub returns-in-Arrive : goal.returns-in-Arrive
returns-in-Arrive c =
    c.enter.ensures.keeps c.args.plan.now (reverse c.args.journal.now) c.args.entry.now c.requires.stands
    (coming c.args.plan.now c.is_closed.ensures (reverse c.args.journal.now) c.args.entry.now c.requires.legal c.requires.may
    c.args.frames.now c.requires.stands c.in-Arrive.is)

pub advance-requires-clause-known : goal.advance-requires-clause-known
advance-requires-clause-known c =
    maker_listed c.args.plan.now c.is_closed.ensures (reverse c.args.journal.now) c.args.entry.now c.requires.legal c.requires.may
    c.args.frames.now c.requires.stands

pub advance-requires-clause-there : goal.advance-requires-clause-there
advance-requires-clause-there c =
    stands_there c.args.plan.now c.is_closed.ensures (reverse c.args.journal.now) c.args.entry.now c.requires.legal c.requires.may
    c.args.frames.now c.requires.stands
    (step_here c.args.plan.now (reverse c.args.journal.now) c.args.entry.now.kind c.args.entry.now (a_step _ c.in-Read.is).0 c.requires.may)

pub advance-requires-clause-few : goal.advance-requires-clause-few
advance-requires-clause-few c =
    few_so_far c.args.plan.now c.is_closed.ensures (reverse c.args.journal.now) c.args.entry.now c.requires.legal c.requires.may
    c.args.frames.now c.requires.stands (a_step _ c.in-Read.is).0

pub returns-in-Read : goal.returns-in-Read
returns-in-Read c =
    let same : to_z w64 (of_z w64 c.args.entry.now.value) ≡ c.args.entry.now.value = omega (arith, ints) in
    let gives : value_given c.args.entry.now ≡ Some c.args.entry.now.value =
    ap (λ b. cond b (Some c.args.entry.now.value) None) (a_step _ c.in-Read.is).1 in
    c.advance.ensures.keeps c.args.plan.now (reverse c.args.journal.now) c.args.entry.now
    (nests c.args.plan.now (is_playable c.args.plan.now c.is_closed.ensures).tree) c.requires.stands
    (subst (λ v. Steps c.args.plan.now (reverse c.args.journal.now) c.args.entry.now c.args.entry.now.by (Some v)) (sym same)
    (stepping c.args.plan.now c.is_closed.ensures (reverse c.args.journal.now) c.args.entry.now c.requires.legal
    c.requires.may c.args.frames.now c.requires.stands (Some c.args.entry.now.value) (a_step _ c.in-Read.is).0 gives))

pub advance-requires-in-Check-clause-known : goal.advance-requires-in-Check-clause-known
advance-requires-in-Check-clause-known c =
    maker_listed c.args.plan.now c.is_closed.ensures (reverse c.args.journal.now) c.args.entry.now c.requires.legal c.requires.may
    c.args.frames.now c.requires.stands

pub advance-requires-in-Check-clause-there : goal.advance-requires-in-Check-clause-there
advance-requires-in-Check-clause-there c =
    stands_there c.args.plan.now c.is_closed.ensures (reverse c.args.journal.now) c.args.entry.now c.requires.legal c.requires.may
    c.args.frames.now c.requires.stands
    (row_of c.args.plan.now (reverse c.args.journal.now) kind.Check c.args.entry.now c.in-Check.is c.requires.may).here

pub advance-requires-in-Check-clause-few : goal.advance-requires-in-Check-clause-few
advance-requires-in-Check-clause-few c =
    few_so_far c.args.plan.now c.is_closed.ensures (reverse c.args.journal.now) c.args.entry.now c.requires.legal c.requires.may
    c.args.frames.now c.requires.stands (ap is_step c.in-Check.is)

pub returns-in-Check : goal.returns-in-Check
returns-in-Check c =
    let gives : value_given c.args.entry.now ≡ None =
    ap (λ (k : Kind). cond (gives_value k) (Some c.args.entry.now.value) None) c.in-Check.is in
    c.advance-in-Check.ensures.keeps c.args.plan.now (reverse c.args.journal.now) c.args.entry.now
    (nests c.args.plan.now (is_playable c.args.plan.now c.is_closed.ensures).tree) c.requires.stands
    (stepping c.args.plan.now c.is_closed.ensures (reverse c.args.journal.now) c.args.entry.now c.requires.legal c.requires.may
    c.args.frames.now c.requires.stands None (ap is_step c.in-Check.is) gives)

pub begin_handler-requires-clause-known : goal.begin_handler-requires-clause-known
begin_handler-requires-clause-known c =
    maker_listed c.args.plan.now c.is_closed.ensures (reverse c.args.journal.now) c.args.entry.now c.requires.legal c.requires.may
    c.args.frames.now c.requires.stands

pub begin_handler-requires-clause-there : goal.begin_handler-requires-clause-there
begin_handler-requires-clause-there c =
    stands_there c.args.plan.now c.is_closed.ensures (reverse c.args.journal.now) c.args.entry.now c.requires.legal c.requires.may
    c.args.frames.now c.requires.stands
    (row_of c.args.plan.now (reverse c.args.journal.now) kind.Handle c.args.entry.now c.in-Handle.is c.requires.may).here

pub returns-in-Handle : goal.returns-in-Handle
returns-in-Handle c =
    c.begin_handler.ensures.keeps c.args.plan.now (reverse c.args.journal.now) c.args.entry.now
    (nests c.args.plan.now (is_playable c.args.plan.now c.is_closed.ensures).tree) c.requires.stands
    (record {
      is = c.in-Handle.is;
      own = refl;
      here =
          (row_of c.args.plan.now (reverse c.args.journal.now) kind.Handle c.args.entry.now c.in-Handle.is c.requires.may).here;
    })

pub leave-requires : goal.leave-requires
leave-requires c =
    maker_listed c.args.plan.now c.is_closed.ensures (reverse c.args.journal.now) c.args.entry.now c.requires.legal c.requires.may
    c.args.frames.now c.requires.stands

pub returns-in-Withdraw : goal.returns-in-Withdraw
returns-in-Withdraw c =
    c.leave.ensures.keeps c.args.plan.now (reverse c.args.journal.now) c.args.entry.now
    (nests c.args.plan.now (is_playable c.args.plan.now c.is_closed.ensures).tree) c.requires.stands
    (record {
      is = inl c.in-Withdraw.is;
      own = refl;
      here =
          (row_of c.args.plan.now (reverse c.args.journal.now) kind.Withdraw c.args.entry.now c.in-Withdraw.is c.requires.may).here;
    })

pub leave-requires-then-silent : goal.leave-requires-then-silent
leave-requires-then-silent c =
    maker_listed c.args.plan.now c.is_closed.ensures (reverse c.args.journal.now) c.args.entry.now c.requires.legal c.requires.may
    c.args.frames.now c.requires.stands

pub returns-then-silent : goal.returns-then-silent
returns-then-silent c =
    c.leave-then-silent.ensures.keeps c.args.plan.now (reverse c.args.journal.now) c.args.entry.now
    (nests c.args.plan.now (is_playable c.args.plan.now c.is_closed.ensures).tree) c.requires.stands
    (record {
      is = inr (c.in-Leave.is, sym (c.requires.silent c.in-Leave.is) ∙ c.if-silent.true);
      own = refl;
      here =
          (row_of c.args.plan.now (reverse c.args.journal.now) kind.Leave c.args.entry.now c.in-Leave.is c.requires.may).here;
    })

pub come_back-requires-clause-known : goal.come_back-requires-clause-known
come_back-requires-clause-known c =
    maker_listed c.args.plan.now c.is_closed.ensures (reverse c.args.journal.now) c.args.entry.now c.requires.legal c.requires.may
    c.args.frames.now c.requires.stands

pub come_back-requires-clause-few : goal.come_back-requires-clause-few
come_back-requires-clause-few c =
    few_outside c.args.plan.now c.is_closed.ensures (reverse c.args.journal.now) c.args.entry.now c.requires.legal c.requires.may
    c.args.frames.now c.requires.stands
    (row_of c.args.plan.now (reverse c.args.journal.now) kind.Leave c.args.entry.now c.in-Leave.is c.requires.may).here

pub returns-else-silent : goal.returns-else-silent
returns-else-silent c =
    c.come_back.ensures.keeps c.args.plan.now (reverse c.args.journal.now) c.args.entry.now
    (nests c.args.plan.now (is_playable c.args.plan.now c.is_closed.ensures).tree) c.requires.stands
    (record {
      is = c.in-Leave.is;
      own = refl;
      here =
          (row_of c.args.plan.now (reverse c.args.journal.now) kind.Leave c.args.entry.now c.in-Leave.is c.requires.may).here;
      aloud = sym (c.requires.silent c.in-Leave.is) ∙ c.if-silent.false;
    })

pub returns-in-Start : goal.returns-in-Start
returns-in-Start c =
    frames_stay c.args.plan.now (reverse c.args.journal.now) c.args.entry.now.kind c.args.entry.now c.args.frames.now
    (a_stay _ c.in-Start.is) c.requires.stands
