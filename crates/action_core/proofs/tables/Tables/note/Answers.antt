use Rattle.std.proofs.Common.{◌≡◌, ◌⊎◌, true, ap, inl, inr}
use Rattle.caa_base.specs.declared.written.entry.Kind.{Kind}
use Rattle.caa_base.specs.declared.written.entry.Kind.TheVariants as kind
use Rattle.role_states.specs.inner.Standing.{is_step}
use Rattle.action_core.proofs.tables.Tables.note.Goals as goal

-- the kinds of step
a_step : (k : Kind) → (k ≡ kind.Read) ⊎ ((k ≡ kind.Work) ⊎ ((k ≡ kind.Write) ⊎ (k ≡ kind.Check))) → is_step k ≡ true
a_step k (inl h) = ap is_step h
a_step k (inr (inl h)) = ap is_step h
a_step k (inr (inr (inl h))) = ap is_step h
a_step k (inr (inr (inr h))) = ap is_step h

pub note_step-requires-clause-step : goal.note_step-requires-clause-step
note_step-requires-clause-step c = a_step _ c.in-Read.is
