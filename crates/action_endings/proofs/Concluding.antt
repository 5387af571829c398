-- The outcome by what is kept is the one that an End has to say.
use Rattle.std.proofs.Common.{◌≡◌, ◌∙◌, ℕ, zero, suc, drop, ◌==◌, ◌<◌, Bool, true, false, not, cond, List, [], ◌∷◌, ◌++◌, Option, Some, None, IfSome, MatchBool, refl, sym, ap, ap₂, subst}
use Rattle.std.specs.List.{list_all, All}
use Rattle.std.proofs.lemmas.Bool.{and_parts, false≢true}
use Rattle.std.proofs.lemmas.List.Elements.{All-head, All-tail}
use Rattle.cover_table.specs.Cover.{CoverOrder, IsLeastCover, IsSound, has_bit}
use Rattle.core_words.specs.Joining.{as_list, IsCoverOf}
use Rattle.core_words.proofs.Covers.{joined_more}
use Rattle.caa_base.specs.Written.Marks.{outcome_mark, mark_of}
use Rattle.caa_base.specs.declared.written.entry.Entry.{Entry}
use Rattle.caa_base.specs.declared.written.entry.Outcome.{Outcome}
use Rattle.caa_base.specs.declared.written.entry.Outcome.TheVariants as outcome
use Rattle.place_plan.specs.Plans.PlanValue.{Plan}
use Rattle.place_plan.specs.Plans.Places.{roles_of, interface_of}
use Rattle.place_plan.specs.RulesOfJournals.Whereabouts.{is_undoing}
use Rattle.place_plan.specs.RulesOfJournals.Roles.{has_given, verdict_of, signal_in, signals}
use Rattle.place_plan.specs.RulesOfJournals.Rules.{undone_mark, SignalsLeast}
use Rattle.action_endings.specs.declared.ending.Ending.{Ending}
use Rattle.action_endings.specs.inner.KeptEndings.{KeepsVerdicts, KeepsRest}
use Rattle.action_endings.specs.inner.ChangedEndings.{given_kept, signals_kept, IsReady, undone_outcome, agreed_outcome, IsAgreed, Concludes, IsRightEnd}
use Rattle.action_endings.proofs.RightAnswers.{given_right}

-- ---- the least cover, role by role

-- one more role, which signals
pub signal_with : (order : CoverOrder) → IsSound order → (plan : Plan) (p t x m : ℕ) (ts : List ℕ) (row : Ending) (cover : Option ℕ)
    → signal_in (given_kept plan p t row) ≡ x ∷ [] → All (λ y. y < order.count) (signals_kept plan p row ts)
    → IsCoverOf order (signals_kept plan p row ts) cover → IsLeastCover order (x ∷ as_list cover) m
    → IsCoverOf order (signals_kept plan p row (t ∷ ts)) (Some m)
signal_with order sound plan p t x m ts row cover h fit former least =
    subst (λ (xs : List ℕ). IsCoverOf order (xs ++ signals_kept plan p row ts) (Some m)) (sym h)
    (refl, joined_more order sound x m cover (signals_kept plan p row ts) fit former least)

-- a role that signals nothing leaves the cover as it is
pub signal_without : (order : CoverOrder) (plan : Plan) (p t : ℕ) (ts : List ℕ) (row : Ending) (cover : Option ℕ)
    → [] ≡ signal_in (given_kept plan p t row) → IsCoverOf order (signals_kept plan p row ts) cover
    → IsCoverOf order (signals_kept plan p row (t ∷ ts)) cover
signal_without order plan p t ts row cover h former =
    subst (λ (xs : List ℕ). IsCoverOf order (xs ++ signals_kept plan p row ts) cover) h former

-- ---- undo

undone_right : (failed aborted : Bool) (o : Outcome)
    → o ≡ cond failed outcome.Failed (cond aborted outcome.Undone outcome.Aborted)
    → ((outcome_mark o).0 ≡ cond failed (mark_of outcome.Failed) (cond (not aborted) (mark_of outcome.Aborted) (mark_of outcome.Undone)))
    × ((outcome_mark o).1 ≡ 0)
undone_right true aborted o h = (ap (λ (x : Outcome). (outcome_mark x).0) h, ap (λ (x : Outcome). (outcome_mark x).1) h)
undone_right false true o h = (ap (λ (x : Outcome). (outcome_mark x).0) h, ap (λ (x : Outcome). (outcome_mark x).1) h)
undone_right false false o h = (ap (λ (x : Outcome). (outcome_mark x).0) h, ap (λ (x : Outcome). (outcome_mark x).1) h)

-- ---- agreement

-- where all have given their verdicts, what they signal is kept
pub signals_right : (plan : Plan) (past : List Entry) (p : ℕ) (row : Ending) → KeepsVerdicts plan past p row → (ts : List ℕ)
    → list_all (has_bit row.given) ts ≡ true → signals_kept plan p row ts ≡ signals past p ts
signals_right plan past p row k [] h = refl
signals_right plan past p row k (t ∷ ts) h =
    let parts = and_parts (has_bit row.given t) (list_all (has_bit row.given) ts) h in
    let counts : has_given plan past p t ≡ true = sym (k.given t) ∙ parts.0 in
    let own : given_kept plan p t row ≡ verdict_of past p t =
    given_right plan past p t row k ∙ ap (λ b. cond b (verdict_of past p t) None) counts in
    ap₂ (λ v xs. signal_in v ++ xs) own (signals_right plan past p row k ts parts.1)

agreed_right : (plan : Plan) (e : Entry) (xs : List ℕ) (cover : Option ℕ) → IsCoverOf (interface_of plan e.place) xs cover
    → e.mark ≡ (outcome_mark (agreed_outcome cover)).0 → e.arg ≡ (outcome_mark (agreed_outcome cover)).1 → SignalsLeast plan e xs
agreed_right plan e [] None c m a = (m, a)
agreed_right plan e [] (Some y) c m a = absurd (false≢true (sym c.0))
agreed_right plan e (x ∷ xs) None c m a = absurd cc
agreed_right plan e (x ∷ xs) (Some y) c m a = (m, subst (IsLeastCover (interface_of plan e.place) (x ∷ xs)) (sym a) c.1)

-- ---- both

pub right_end : (plan : Plan) (past : List Entry) (e : Entry) (row : Ending) (o : Outcome) → KeepsVerdicts plan past e.place row
    → KeepsRest plan past e.place row → IsReady plan e.place row → Concludes plan e.place row o
    → e.mark ≡ (outcome_mark o).0 → e.arg ≡ (outcome_mark o).1 → IsRightEnd plan past e
right_end plan past e row o k r ready c m a = by_undo row.undoing (is_undoing past e.place) r.undoing ready c
  where
    by_undo : (x y : Bool) → x ≡ y
        → MatchBool x (row.untried ≡ 0) ((list_all (has_bit row.given) (roles_of plan e.place) ≡ true) × (row.undo ≡ false))
        → MatchBool x (o ≡ undone_outcome row)
        (IsAgreed (interface_of plan e.place) (signals_kept plan e.place row (roles_of plan e.place)) o)
        → MatchBool y ((e.mark ≡ undone_mark past e.place) × (e.arg ≡ 0))
        (SignalsLeast plan e (signals past e.place (roles_of plan e.place)))
    by_undo true false w ready c = absurd (cc)
    by_undo false true w ready c = absurd (cc)
    by_undo true true w ready c =
        let u = undone_right row.failed (row.aborted == 0) o c in
        let marks =
        ap₂ (λ f b. cond f (mark_of outcome.Failed) (cond b (mark_of outcome.Aborted) (mark_of outcome.Undone)))
        r.failed r.some_aborted in
        (m ∙ (u.0 ∙ marks), a ∙ u.1)
    by_undo false false w ready c =
        let all = signals_right plan past e.place row k (roles_of plan e.place) ready.0 in
        agreed_right plan e (signals past e.place (roles_of plan e.place)) c.0
        (subst (λ (xs : List ℕ). IsCoverOf (interface_of plan e.place) xs c.0) all c.1)
        (m ∙ ap (λ (x : Outcome). (outcome_mark x).0) c.2) (a ∙ ap (λ (x : Outcome). (outcome_mark x).1) c.2)

-- ---- what the roles from some on signal

fit_behind : (P : ℕ → Type 0) (xs ys : List ℕ) → All P (xs ++ ys) → All P ys
fit_behind P [] ys h = h
fit_behind P (x ∷ xs) ys h = fit_behind P xs ys (All-tail P x (xs ++ ys) h)

pub fit_after : (P : ℕ → Type 0) (plan : Plan) (p : ℕ) (row : Ending) (i : ℕ) (ts : List ℕ) → All P (signals_kept plan p row ts)
    → All P (signals_kept plan p row (drop i ts))
fit_after P plan p row zero ts h = h
fit_after P plan p row (suc i) [] h = h
fit_after P plan p row (suc i) (t ∷ ts) h =
    fit_after P plan p row i ts (fit_behind P (signal_in (given_kept plan p t row)) (signals_kept plan p row ts) h)

-- the exception that a role signals is known where all are
pub signal_known : (order : CoverOrder) (plan : Plan) (p t x : ℕ) (ts : List ℕ) (row : Ending)
    → x ∷ [] ≡ signal_in (given_kept plan p t row) → All (λ y. y < order.count) (signals_kept plan p row (t ∷ ts)) → x < order.count
signal_known order plan p t x ts row h fit =
    All-head (λ y. y < order.count) x (signals_kept plan p row ts)
    (subst (λ (xs : List ℕ). All (λ y. y < order.count) (xs ++ signals_kept plan p row ts)) (sym h) fit)

-- the cover of some exceptions is an exception
pub cover_known : (order : CoverOrder) (xs : List ℕ) (o : Option ℕ) → IsCoverOf order xs o → IfSome o (λ x. x < order.count)
cover_known order xs None h = tt
cover_known order xs (Some x) h = h.1.in_range
