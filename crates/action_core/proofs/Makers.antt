-- Entries by their kind: what may be, and who made it.
use Rattle.std.proofs.Common.{◌≡◌, ◌<◌, List, length, sym, ap, subst}
use Rattle.caa_base.specs.declared.written.entry.Entry.{Entry}
use Rattle.caa_base.specs.declared.written.entry.Kind.{Kind}
use Rattle.place_plan.specs.Plans.PlanValue.{Plan}
use Rattle.place_plan.specs.RulesOfJournals.Rules.{Row, MayFollow}
use Rattle.place_plan.specs.RulesOfJournals.Journals.{LegalPast}
use Rattle.place_plan.proofs.OnJournals.EntryKinds.{of_kind}
use Rattle.journal_laws.proofs.Playable.{IsPlayable}
use Rattle.journal_laws.proofs.Makers.{maker_role}
use Rattle.journal_laws.proofs.Ranges.{place_known}
use Rattle.journal_laws.proofs.CoreKept.{core}
use Rattle.journal_laws.proofs.LegalWellFormed.{may_well_formed}
use Rattle.place_plan.specs.RulesOfJournals.WellFormed.{FieldsFit}
use Rattle.caa_base.specs.declared.written.entry.Kind.TheVariants as kind

-- an entry of this kind is e itself
pub of_its_kind : (k : Kind) (e : Entry) → e.kind ≡ k → of_kind k e ≡ e
of_its_kind k e h = ap (λ (j : Kind). of_kind j e) (sym h)

-- so what holds of an entry of this kind holds of it
pub at_kind : (P : Entry → Type 0) (k : Kind) (e : Entry) → e.kind ≡ k → P (of_kind k e) → P e
at_kind P k e h w = subst P (of_its_kind k e h) w

-- and its row is the one of this kind
pub row_of : (plan : Plan) (past : List Entry) (k : Kind) (e : Entry) → e.kind ≡ k → MayFollow plan past e → Row k plan past e
row_of plan past k e h may = subst (λ (j : Kind). Row j plan past e) h may

module _ (plan : Plan) (playable : IsPlayable plan) (past : List Entry) (e : Entry) (legal : LegalPast plan past)
    (may : MayFollow plan past e) where
  pub maker_known : e.by < length plan.participants
  maker_known = playable.known e.place e.by (maker_role plan playable.tree past e legal may)

  pub place_there : e.place < length plan.places
  place_there = place_known plan e.place e.by (maker_role plan playable.tree past e legal may)

module _ (plan : Plan) (playable : IsPlayable plan) (past : List Entry) (e : Entry) (legal : LegalPast plan past)
    (may : MayFollow plan past e) where
  -- the fields of an entry fit its kind
  pub fields_fit : (k : Kind) → e.kind ≡ k → FieldsFit k plan e
  fields_fit k h =
      subst (λ (j : Kind). FieldsFit j plan e) h (may_well_formed plan playable (core plan playable) past e legal may).fields

  pub object_put : e.kind ≡ kind.Write → e.arg < length plan.objects
  object_put h = (fields_fit kind.Write h).0.arg

  pub object_restored : e.kind ≡ kind.Restore → e.arg < length plan.objects
  object_restored h = (fields_fit kind.Restore h).0.arg
