-- Who may do something else is at no work.
use Rattle.std.proofs.Common.{◌≡◌, ◌∙◌, ℕ, true, false, List, Option, Some, None, is_some, refl, ap, sym, inl, inr}
use Rattle.std.proofs.lemmas.Bool.{false≢true}
use Rattle.caa_base.specs.declared.written.entry.Entry.{Entry}
use Rattle.caa_base.specs.declared.written.entry.Kind.TheVariants as kind
use Rattle.place_plan.specs.Plans.PlanValue.{Plan}
use Rattle.place_plan.specs.RulesOfJournals.Entries.{is_of}
use Rattle.place_plan.specs.RulesOfJournals.Journals.{is_put, is_fault}
use Rattle.place_plan.specs.RulesOfJournals.Machine.{work_entry}
use Rattle.journal_laws.specs.Due.{as_refused}
use Rattle.journal_replay.specs.IsDue.{DeviceDecides}
use Rattle.journal_replay.specs.Moves.{IsMove, MayMakeNow, MayWorkNow}
use Rattle.journal_replay.specs.declared.moves.Move.{Move}
use Rattle.journal_replay.specs.declared.moves.Move.TheVariants as move
use Rattle.journal_replay.specs.declared.moves.Work.{Work}

-- who makes an entry that is no work is at none
pub makes_else : (plan : Plan) (past : List Entry) (t : ℕ) (e : Entry) → MayMakeNow plan past t e → (work : Work)
    → MayWorkNow plan past t work → ⊥
makes_else plan past t e makes work works =
    let same : work_entry work.place t work.rounds work.from ≡ e = makes.next.only (work_entry work.place t work.rounds work.from) refl works.next.may in
    false≢true (sym makes.plain ∙ ap (is_of kind.Work) (sym same))

-- nor is who puts something
pub puts_else : (plan : Plan) (past : List Entry) (t : ℕ) (put fault : Entry) → DeviceDecides plan past t put fault → (work : Work)
    → MayWorkNow plan past t work → ⊥
puts_else plan past t put fault decides work works =
    let e : Entry = work_entry work.place t work.rounds work.from in
    elim (decides.only e refl works.next.may) [
      | inl same ↦ false≢true (ap is_put same ∙ decides.taken)
      | inr same ↦ false≢true (ap is_fault same ∙ decides.refused)
    ]

-- whoever may do anything but work is at none
pub no_work : (plan : Plan) (past : List Entry) (t : ℕ) (m : Move) → ((w : Work) → m ≡ move.Mix w → ⊥) → IsMove plan past t m
    → (work : Work) → MayWorkNow plan past t work → ⊥
no_work plan past t (move.Make e) other is work works = makes_else plan past t e is work works
no_work plan past t (move.Put e) other is work works = puts_else plan past t e (as_refused e.kind e) is work works
no_work plan past t (move.Mix w) other is work works = other w refl
no_work plan past t (move.Wait wait) other is work works = is.0 (work_entry work.place t work.rounds work.from) refl works.next.may
no_work plan past t move.Over other is work works = is.0 (work_entry work.place t work.rounds work.from) refl works.next.may

-- ---- no put is asked for

pub none_asked : (o : Option Entry) → ((e : Entry) → o ≡ Some e → ⊥) → o ≡ None
none_asked None other = refl
none_asked (Some e) other = absurd (other e refl)

pub none_told : (o : Option Entry) → is_some o ≡ false → o ≡ None
none_told None un = refl
none_told (Some e) un = absurd (false≢true (sym un))

pub asked_still : (o : Option Entry) → is_some o ≡ true → o ≡ None → ⊥
asked_still o still none = false≢true (sym (ap is_some none) ∙ still)
