-- What entries make of the spots of a place that isn't resolved.
use Rattle.std.proofs.Common.{◌≡◌, ℕ, ◌==◌, Bool, true, false, not, cond, ◌&&◌, ◌||◌, List, [], ◌∷◌, ◌++◌, Some, None, Option, suc, refl, sym, ap, ◌∙◌, inl, inr, is_none}
use Rattle.std.proofs.lemmas.Bool.{or_parts, eqb-true, false≢true, cases_Bool}
use Rattle.caa_base.specs.declared.written.entry.Entry.{Entry}
use Rattle.caa_base.specs.declared.written.entry.Kind.{Kind}
use Rattle.caa_base.specs.declared.written.entry.Kind.TheVariants as kind
use Rattle.caa_base.specs.declared.written.entry.Outcome.{Outcome}
use Rattle.caa_base.specs.declared.written.entry.Outcome.TheVariants as outcome
use Rattle.caa_base.specs.Written.Marks.{outcome_of_mark}
use Rattle.caa_base.specs.Written.Lists.{is_at, member}
use Rattle.place_plan.specs.Plans.PlanValue.{Plan}
use Rattle.place_plan.specs.Plans.Places.{parent, roles_of, next_alternate, fault_of, nest_of}
use Rattle.place_plan.specs.RulesOfJournals.Entries.{is_in, is_by, newest}
use Rattle.place_plan.specs.RulesOfJournals.Whereabouts.{outcome_at}
use Rattle.place_plan.specs.RulesOfJournals.Raising.{has_handled, carries_into, is_halted, exception_resolved}
use Rattle.place_plan.specs.RulesOfJournals.Roles.{verdict_at, is_undo}
use Rattle.place_plan.specs.RulesOfJournals.Rules.{abort_mapped, mapped_by_outcome}
use Rattle.place_plan.proofs.OnJournals.EntryKinds.{of_kind}
use Rattle.journal_laws.proofs.Options.{some_apart}
use Rattle.interlock_laws.specs.Spots.{whole_use, Spot, body_at, raised_at, quiet_at, handler_at, broken_at, stepped, raising, refused, said, back_from, out_of, out_of_abort, spot_of, behind, told, raised_by}

-- ---- spots of a place that isn't resolved

abbrev pub is_unresolved : Spot → Bool
is_unresolved (handler_at x i) = false
is_unresolved (broken_at x) = false
is_unresolved s = true

-- who isn't quiet, and has raised nothing, is in its body
pub body_from : (s : Spot) (n : ℕ) → is_unresolved s ≡ true → behind s ≡ n → told s ≡ [] → ((i : ℕ) → s ≡ quiet_at i → ⊥)
    → (j : ℕ) × (s ≡ body_at n j)
body_from (body_at i j) n u b r q = (j, ap (λ m. body_at m j) b)
body_from (raised_at cause y) n u b r q = absurd cc
body_from (quiet_at i) n u b r q = absurd (q i refl)
body_from (handler_at x i) n u b r q = absurd (false≢true u)
body_from (broken_at x) n u b r q = absurd (false≢true u)

stepped_stays : (s : Spot) → is_unresolved s ≡ true → is_unresolved (stepped s) ≡ true
stepped_stays (body_at i j) u = refl
stepped_stays (raised_at cause y) u = refl
stepped_stays (quiet_at i) u = refl
stepped_stays (handler_at x i) u = u
stepped_stays (broken_at x) u = u

raising_stays : (y : ℕ) (s : Spot) → is_unresolved s ≡ true → is_unresolved (raising y s) ≡ true
raising_stays y (body_at i j) u = refl
raising_stays y (raised_at cause z) u = refl
raising_stays y (quiet_at i) u = refl
raising_stays y (handler_at x i) u = u
raising_stays y (broken_at x) u = u

refused_stays : (y : ℕ) (s : Spot) → is_unresolved s ≡ true → is_unresolved (refused y s) ≡ true
refused_stays y (body_at i j) u = refl
refused_stays y (raised_at cause z) u = refl
refused_stays y (quiet_at i) u = refl
refused_stays y (handler_at x i) u = absurd (false≢true u)
refused_stays y (broken_at x) u = u

-- a verdict changes none of these
pub said_same : (undo : Bool) (s : Spot) → is_unresolved s ≡ true → said undo s ≡ s
said_same true (body_at i j) u = refl
said_same true (raised_at cause y) u = refl
said_same true (quiet_at i) u = refl
said_same true (handler_at x i) u = absurd (false≢true u)
said_same true (broken_at x) u = refl
said_same false s u = refl

out_of_abort_stays : (i : ℕ) (o : Option ℕ) → is_unresolved (out_of_abort i o) ≡ true
out_of_abort_stays i None = refl
out_of_abort_stays i (Some y) = refl

out_of_stays : (plan : Plan) (c : ℕ) (abort : Option Entry) (i j : ℕ) (how : Outcome) → is_unresolved (out_of plan c abort i j how) ≡ true
out_of_stays plan c abort i j outcome.Commit = refl
out_of_stays plan c abort i j (outcome.Signal x) = refl
out_of_stays plan c abort i j outcome.Undone = by_next (is_none (next_alternate plan c))
  where
    by_next : (b : Bool) → is_unresolved (cond b (raised_at (whole_use i) (nest_of plan c).undo) (body_at i (suc j))) ≡ true
    by_next true = refl
    by_next false = refl
out_of_stays plan c abort i j outcome.Aborted = out_of_abort_stays i (abort_mapped plan c abort)
out_of_stays plan c abort i j outcome.Failed = refl

back_stays : (plan : Plan) (c : ℕ) (abort : Option Entry) (how : Outcome) (s : Spot) → is_unresolved s ≡ true
    → is_unresolved (back_from plan c abort how s) ≡ true
back_stays plan c abort how (body_at i j) u = out_of_stays plan c abort i j how
back_stays plan c abort how (raised_at cause y) u = refl
back_stays plan c abort how (quiet_at i) u = refl
back_stays plan c abort how (handler_at x i) u = u
back_stays plan c abort how (broken_at x) u = u

one_of : (f : Spot → Spot) (b : Bool) (s : Spot) → (is_unresolved s ≡ true → is_unresolved (f s) ≡ true) → is_unresolved s ≡ true
    → is_unresolved (cond b (f s) s) ≡ true
one_of f true s h u = h u
one_of f false s h u = u

-- a place without a resolve had none before
pub unresolved_before : (past : List Entry) (e : Entry) (p : ℕ) → exception_resolved (e ∷ past) p ≡ None
    → (is_in kind.Resolve p e ≡ false) × (exception_resolved past p ≡ None)
unresolved_before past e p h = by_test (is_in kind.Resolve p e) h
  where
    by_test : (b : Bool) → cond b (Some e.arg) (exception_resolved past p) ≡ None → (b ≡ false) × (exception_resolved past p ≡ None)
    by_test true w = absurd (some_apart (sym w))
    by_test false w = (refl, w)

module _ (plan : Plan) where
  unresolved_by : (past : List Entry) (k : Kind) (e : Entry) (p t : ℕ) → is_in kind.Resolve p (of_kind k e) ≡ false
      → is_unresolved (spot_of plan past p t) ≡ true → is_unresolved (spot_of plan (of_kind k e ∷ past) p t) ≡ true
  unresolved_by past kind.Read e p t n u = one_of stepped ((e.place == p) && (e.by == t)) _ (stepped_stays _) u
  unresolved_by past kind.Work e p t n u = one_of stepped ((e.place == p) && (e.by == t)) _ (stepped_stays _) u
  unresolved_by past kind.Write e p t n u = one_of stepped ((e.place == p) && (e.by == t)) _ (stepped_stays _) u
  unresolved_by past kind.Check e p t n u = one_of stepped ((e.place == p) && (e.by == t)) _ (stepped_stays _) u
  unresolved_by past kind.PutFault e p t n u =
      one_of (refused (fault_of plan p)) ((e.place == p) && (e.by == t)) _ (refused_stays (fault_of plan p) _) u
  unresolved_by past kind.Raise e p t n u = one_of (raising e.arg) ((e.place == p) && (e.by == t)) _ (raising_stays e.arg _) u
  unresolved_by past kind.Resolve e p t n u = rw n u
  unresolved_by past kind.Verdict e p t n u =
      let undo = is_undo (Some (verdict_at (of_kind kind.Verdict e))) in
      one_of (said undo) ((e.place == p) && (e.by == t)) _ (λ w. ap is_unresolved (said_same undo (spot_of plan past p t) w) ∙ w) u
  unresolved_by past kind.End e p t n u =
      let abort = newest (is_by kind.Abort e.place t) past in
      let how = outcome_at (of_kind kind.End e) in
      one_of (back_from plan e.place abort how) (is_at (parent plan e.place) p && member t (roles_of plan e.place)) _
      (back_stays plan e.place abort how (spot_of plan past p t)) u
  unresolved_by past _ e p t n u = u

  -- where the place isn't resolved, so is the spot
  pub unresolved_spot : (past : List Entry) (p t : ℕ) → exception_resolved past p ≡ None → is_unresolved (spot_of plan past p t) ≡ true
  unresolved_spot [] p t w = refl
  unresolved_spot (e ∷ past) p t w =
      let before = unresolved_before past e p w in
      unresolved_by past e.kind e p t before.0 (unresolved_spot past p t before.1)

-- ---- what a raise makes of a spot

-- who has raised nothing stays where it is, and has raised this then
pub raising_told : (y : ℕ) (s : Spot) → is_unresolved s ≡ true → told s ≡ []
    → (behind (raising y s) ≡ behind s) × (told (raising y s) ≡ y ∷ []) × ((i : ℕ) → raising y s ≡ quiet_at i → ⊥)
raising_told y (body_at i j) u r = (refl, refl, λ m e. cc)
raising_told y (raised_at cause z) u r = absurd cc
raising_told y (quiet_at i) u r = (refl, refl, λ m e. cc)
raising_told y (handler_at x i) u r = absurd (false≢true u)
raising_told y (broken_at x) u r = absurd (false≢true u)

-- ---- what a use makes of a spot

abbrev pub listed : Option ℕ → List ℕ
listed None = []
listed (Some y) = y ∷ []

-- the outcome is an undo after which another alternate is tried
abbrev pub is_silent : Plan → ℕ → Outcome → Bool
is_silent plan c outcome.Undone = not (is_none (next_alternate plan c))
is_silent plan c how = false

-- the use is behind a role that comes out of it aloud, and it has raised what the outcome means
pub out_aloud : (plan : Plan) (c : ℕ) (abort : Option Entry) (i j : ℕ) (how : Outcome) → is_silent plan c how ≡ false
    → (behind (out_of plan c abort i j how) ≡ suc i)
    × (told (out_of plan c abort i j how) ≡ listed (mapped_by_outcome plan c abort how))
out_aloud plan c abort i j outcome.Commit s = (refl, refl)
out_aloud plan c abort i j (outcome.Signal x) s = (refl, refl)
out_aloud plan c abort i j outcome.Undone s = by_next (is_none (next_alternate plan c)) s
  where
    by_next : (b : Bool) → not b ≡ false
        → (behind (cond b (raised_at (whole_use i) (nest_of plan c).undo) (body_at i (suc j))) ≡ suc i)
        × (told (cond b (raised_at (whole_use i) (nest_of plan c).undo) (body_at i (suc j))) ≡ (nest_of plan c).undo ∷ [])
    by_next true w = (refl, refl)
    by_next false w = absurd (false≢true (sym w))
out_aloud plan c abort i j outcome.Aborted s = by_name (abort_mapped plan c abort)
  where
    by_name : (o : Option ℕ) → (behind (out_of_abort i o) ≡ suc i) × (told (out_of_abort i o) ≡ listed o)
    by_name None = (refl, refl)
    by_name (Some y) = (refl, refl)
out_aloud plan c abort i j outcome.Failed s = (refl, refl)

-- where it comes out in silence it is at the next alternate
pub out_silent : (plan : Plan) (c : ℕ) (abort : Option Entry) (i j : ℕ) (how : Outcome) → is_silent plan c how ≡ true
    → out_of plan c abort i j how ≡ body_at i (suc j)
out_silent plan c abort i j outcome.Commit s = absurd (false≢true s)
out_silent plan c abort i j (outcome.Signal x) s = absurd (false≢true s)
out_silent plan c abort i j outcome.Undone s = by_next (is_none (next_alternate plan c)) s
  where
    by_next : (b : Bool) → not b ≡ true
        → cond b (raised_at (whole_use i) (nest_of plan c).undo) (body_at i (suc j)) ≡ body_at i (suc j)
    by_next true w = absurd (false≢true w)
    by_next false w = refl
out_silent plan c abort i j outcome.Aborted s = absurd (false≢true s)
out_silent plan c abort i j outcome.Failed s = absurd (false≢true s)

-- it is quiet only where the place was given up
pub out_quiet : (plan : Plan) (c : ℕ) (abort : Option Entry) (i j m : ℕ) (how : Outcome) → out_of plan c abort i j how ≡ quiet_at m
    → how ≡ outcome.Aborted
out_quiet plan c abort i j m outcome.Commit e = absurd cc
out_quiet plan c abort i j m (outcome.Signal x) e = absurd cc
out_quiet plan c abort i j m outcome.Undone e = by_next (is_none (next_alternate plan c)) e
  where
    by_next : (b : Bool)
        → cond b (raised_at (whole_use i) (nest_of plan c).undo) (body_at i (suc j)) ≡ quiet_at m
        → outcome.Undone ≡ outcome.Aborted
    by_next true w = absurd cc
    by_next false w = absurd cc
out_quiet plan c abort i j m outcome.Aborted e = refl
out_quiet plan c abort i j m outcome.Failed e = absurd cc

-- whether an End is left in silence, told by its mark, and by the outcome that it says
pub silent_mark : (plan : Plan) (c m x : ℕ) → is_silent plan c (outcome_of_mark m x) ≡ ((m == 2) && not (is_none (next_alternate plan c)))
silent_mark plan c m x = elim (cases_Bool (m == 2)) [
  | inl w ↦ let two : m ≡ 2 = eqb-true m 2 w in rw two refl
  | inr w ↦ by_tests (m == 0) (m == 1) (m == 2) (m == 3) w
]
  where
    by_tests : (a b c' d : Bool) → c' ≡ false
        → is_silent plan c (cond a outcome.Commit (cond b (outcome.Signal x) (cond c' outcome.Undone (cond d outcome.Aborted outcome.Failed))))
        ≡ (c' && not (is_none (next_alternate plan c)))
    by_tests true b false d w = refl
    by_tests false true false d w = refl
    by_tests false false false true w = refl
    by_tests false false false false w = refl
    by_tests a b true d w = absurd (false≢true (sym w))

-- ---- what a role has raised

-- an entry that raises nothing
pub nothing_raised : (b : Bool) (ys : List ℕ) → (cond b [] [] ++ ys) ≡ ys
nothing_raised true ys = refl
nothing_raised false ys = refl

not_raised : (b c d : Bool) (x : ℕ) (ys : List ℕ) → (b && c) || d ≡ false → (d ≡ false → ys ≡ [])
    → (cond c (cond b (x ∷ []) []) [] ++ ys) ≡ []
not_raised true true d x ys h rest = absurd (false≢true (sym h))
not_raised false true d x ys h rest = rest h
not_raised true false d x ys h rest = rest h
not_raised false false d x ys h rest = rest h

unhalted_by : (plan : Plan) (past : List Entry) (k : Kind) (e : Entry) (p t : ℕ)
    → (is_halted plan past p t ≡ false → raised_by plan past p t ≡ []) → is_halted plan (of_kind k e ∷ past) p t ≡ false
    → raised_by plan (of_kind k e ∷ past) p t ≡ []
unhalted_by plan past kind.Raise e p t ih h = not_raised (e.place == p) (e.by == t) (is_halted plan past p t) e.arg _ h ih
unhalted_by plan past kind.PutFault e p t ih h =
    not_raised ((e.place == p) && not (has_handled past p e.by)) (e.by == t) (is_halted plan past p t) (fault_of plan p) _ h ih
unhalted_by plan past kind.Leave e p t ih h = not_raised (carries_into plan p e) (e.by == t) (is_halted plan past p t) e.arg _ h ih
unhalted_by plan past kind.Inform e p t ih h =
    nothing_raised (e.by == t) _ ∙ ih (or_parts ((e.place == p) && (e.by == t)) (is_halted plan past p t) h).1
unhalted_by plan past _ e p t ih h = nothing_raised (e.by == t) _ ∙ ih h

-- who isn't halted has raised nothing
pub unhalted : (plan : Plan) (past : List Entry) (p t : ℕ) → is_halted plan past p t ≡ false → raised_by plan past p t ≡ []
unhalted plan [] p t h = refl
unhalted plan (e ∷ past) p t h = unhalted_by plan past e.kind e p t (unhalted plan past p t) h
