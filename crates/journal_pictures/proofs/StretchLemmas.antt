-- Lemmas on what is right at a moment.
use Rattle.std.proofs.Common.{◌≡◌, ◌∙◌, ◌↔◌, ℕ, Bool, true, false, List, Option, Some, None, pos, refl, sym, subst}
use Rattle.std.proofs.lemmas.Bool.{false≢true, both_ways}
use Rattle.caa_base.specs.declared.written.entry.Entry.{Entry}
use Rattle.caa_base.specs.declared.written.entry.Kind.TheVariants as kind
use Rattle.place_plan.specs.Plans.PlanValue.{Plan}
use Rattle.place_plan.specs.RulesOfJournals.Whereabouts.{inside}
use Rattle.place_plan.specs.RulesOfJournals.Roles.{is_over, next_play}
use Rattle.place_plan.specs.RulesOfJournals.Rules.{MayFollow, arrival}
use Rattle.place_plan.specs.RulesOfJournals.Journals.{LegalPast}
use Rattle.journal_laws.specs.Due.{plainly}
use Rattle.journal_laws.proofs.Playable.{IsPlayable}
use Rattle.journal_laws.proofs.Over.{over_from}
use Rattle.journal_replay.specs.Moves.{IsMove}
use Rattle.journal_replay.specs.declared.moves.Move.TheVariants as move
use Rattle.journal_replay.specs.declared.moves.Wait.{Wait}
use Rattle.journal_pictures.specs.declared.stretches.Doing.{Doing}
use Rattle.journal_pictures.specs.declared.stretches.Doing.TheVariants as doing
use Rattle.journal_pictures.specs.Stretches.{is_wait, HasToWait}

-- who waits by its move has to wait
pub has_to_wait : (plan : Plan) (past : List Entry) (t : ℕ) (w : Wait)
    → IsMove plan past t (move.Wait w) → (is_wait (doing.Wait w) ≡ true) ↔ HasToWait plan past t
has_to_wait plan past t w h = (λ _. (h.0, h.1), λ _. refl)

-- who may make an entry hasn't
pub may_go : (plan : Plan) (past : List Entry) (t : ℕ) (d : Doing) (e : Entry) → is_wait d ≡ false
    → e.by ≡ t → MayFollow plan past e → (is_wait d ≡ true) ↔ HasToWait plan past t
may_go plan past t d e goes own may =
    (λ waits. absurd (both_ways (is_wait d) goes waits), λ h. absurd (h.0 e own may))

-- nor has who is through
pub may_rest : (plan : Plan) (past : List Entry) (t : ℕ) (d : Doing) → is_wait d ≡ false
    → is_over plan past t ≡ true → (is_wait d ≡ true) ↔ HasToWait plan past t
may_rest plan past t d goes over =
    (λ waits. absurd (both_ways (is_wait d) goes waits), λ h. absurd (both_ways (is_over plan past t) h.1 over))

-- nor has who is in no place: it arrives in its next play, or is through
pub may_arrive : (plan : Plan) → IsPlayable plan → (past : List Entry) → LegalPast plan past → (t : ℕ)
    → inside plan past t ≡ None → HasToWait plan past t → ⊥
may_arrive plan playable past legal t out h = by_next (next_play plan past t) refl
  where
    by_next : (o : Option ℕ) → next_play plan past t ≡ o → ⊥
    by_next None next = both_ways (is_over plan past t) h.1 (over_from plan playable past legal t out next)
    by_next (Some p) next =
        let leads : arrival plan past t (inside plan past t) ≡ Some p = rw out next in
        h.0 (plainly kind.Arrive p t) refl (record {
          leads = leads;
          plain = record { arg = refl; mark = refl; value = refl };
        })
