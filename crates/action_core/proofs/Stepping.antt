-- A step leaves everything but the frame of its maker, and the value of the object that it writes.
use Rattle.std.proofs.Common.{◌≡◌, true, false, List, ◌∷◌, refl}
use Rattle.std.proofs.lemmas.Bool.{false≢true}
use Rattle.caa_base.specs.declared.written.entry.Entry.{Entry}
use Rattle.caa_base.specs.declared.written.entry.Kind.{Kind}
use Rattle.caa_base.specs.declared.written.entry.Kind.TheVariants as kind
use Rattle.place_plan.specs.Plans.PlanValue.{Plan}
use Rattle.place_plan.proofs.OnJournals.EntryKinds.{of_kind}
use Rattle.role_states.specs.inner.Standing.{is_step}
use Rattle.action_core.specs.declared.stage.Stage.{Stage}
use Rattle.action_core.specs.declared.person.Person.{Person}
use Rattle.action_core.specs.inner.KeptStages.{StageOfEach}
use Rattle.action_core.specs.inner.KeptPeople.{PersonOfEach}
use Rattle.action_core.proofs.Acting.{recovers}
use Rattle.action_core.proofs.Spoken.{unsaying}

pub step_idle : (k : Kind) → is_step k ≡ true → recovers k ≡ false
step_idle kind.Read w = refl
step_idle kind.Work w = refl
step_idle kind.Write w = refl
step_idle kind.Check w = refl
step_idle _ w = absurd (false≢true w)

pub step_unsaying : (k : Kind) → is_step k ≡ true → unsaying k ≡ true
step_unsaying kind.Read w = refl
step_unsaying kind.Work w = refl
step_unsaying kind.Write w = refl
step_unsaying kind.Check w = refl
step_unsaying _ w = absurd (false≢true w)

pub stages_stay : (plan : Plan) (past : List Entry) (k : Kind) (e : Entry) (stages : List Stage) → is_step k ≡ true
    → StageOfEach plan past stages → StageOfEach plan (of_kind k e ∷ past) stages
stages_stay plan past kind.Read e stages w s =
    record { as_many = s.as_many; each = λ p. let own = s.each p in record { started = own.started; undoing = own.undoing; ended = own.ended } }
stages_stay plan past kind.Work e stages w s =
    record { as_many = s.as_many; each = λ p. let own = s.each p in record { started = own.started; undoing = own.undoing; ended = own.ended } }
stages_stay plan past kind.Write e stages w s =
    record { as_many = s.as_many; each = λ p. let own = s.each p in record { started = own.started; undoing = own.undoing; ended = own.ended } }
stages_stay plan past kind.Check e stages w s =
    record { as_many = s.as_many; each = λ p. let own = s.each p in record { started = own.started; undoing = own.undoing; ended = own.ended } }
stages_stay plan past _ e stages w s = absurd (false≢true w)

pub people_stay : (plan : Plan) (past : List Entry) (k : Kind) (e : Entry) (people : List Person) → is_step k ≡ true
    → PersonOfEach plan past people → PersonOfEach plan (of_kind k e ∷ past) people
people_stay plan past kind.Read e people w s = record {
  as_many = s.as_many;
  each = λ t l. let own = s.each t l in
      record { turn = record { before = own.turn.before; after = own.turn.after; own = own.turn.own }; refused = own.refused };
}
people_stay plan past kind.Work e people w s = record {
  as_many = s.as_many;
  each = λ t l. let own = s.each t l in
      record { turn = record { before = own.turn.before; after = own.turn.after; own = own.turn.own }; refused = own.refused };
}
people_stay plan past kind.Write e people w s = record {
  as_many = s.as_many;
  each = λ t l. let own = s.each t l in
      record { turn = record { before = own.turn.before; after = own.turn.after; own = own.turn.own }; refused = own.refused };
}
people_stay plan past kind.Check e people w s = record {
  as_many = s.as_many;
  each = λ t l. let own = s.each t l in
      record { turn = record { before = own.turn.before; after = own.turn.after; own = own.turn.own }; refused = own.refused };
}
people_stay plan past _ e people w s = absurd (false≢true w)
