-- Two plays that share nothing stand apart, and what stands of each in their journal is legal alone. Two that share an object don't,
-- and what stands of the second reads a value that it wouldn't find alone.
--
-- The script:
--   participant ann / participant bob / object x 0 / object y 0
--   / action w / use x / roles r / body r / read x / add x 1 / end / action v / use y / roles r / body r / read y / add y 1 / end
--   / play w ann / play v bob
use Rattle.std.proofs.Common.{◌≡◌, ℕ, pos, Bool, true, false, not, ◌||◌, ◌==◌, List, [], ◌∷◌, reverse, refl, sym, codes}
use Rattle.std.specs.List.{list_all}
use Rattle.std.proofs.lemmas.Bool.{false≢true, not-true}
use Rattle.caa_base.specs.declared.written.entry.Entry.{Entry}
use Rattle.caa_base.specs.declared.written.entry.Verdict.TheVariants as verdict
use Rattle.caa_base.proofs.ListLemmas.{all_at}
use Rattle.place_plan.specs.Plans.Bound.{action_bound}
use Rattle.place_plan.specs.Drafts.DraftRules.{depth_within}
use Rattle.place_plan.specs.Plans.PlanValue.{Plan}
use Rattle.place_plan.specs.Plans.Unfolding.{unfold_at}
use Rattle.place_plan.specs.RulesOfJournals.Journals.{IsLegal, IsComplete}
use Rattle.place_plan.specs.declared.drafts.draft.Draft.{Draft}
use Rattle.place_plan.specs.declared.drafts.draft_rows.AbortRow.TheVariants as abort
use Rattle.place_plan.specs.declared.drafts.draft_rows.ActionRow.{ActionRow}
use Rattle.place_plan.specs.declared.drafts.draft_rows.RoleRow.{RoleRow}
use Rattle.place_plan.specs.declared.drafts.draft_rows.Step.TheVariants as step
use Rattle.lone_plays.specs.Lone.{shares_with, StandApart, lone_plan, lone_entries}
use Rattle.worked_journals.proofs.Notation.{plain_graph, arrive, start, read, write, verdict_done, end_commit, leave, object, program, role, action, played, unfolded, play, complete_from, rule_at, UnfoldsInto}
use Rattle.worked_journals.proofs.TwoPlays as two_plays_one_object

-- ---- whether plays stand apart, by trying each two

abbrev stand_apart : Plan → (ℕ → Bool) → Bool
stand_apart plan chosen =
    list_all (λ p. list_all (λ q. not (chosen p) || (chosen q || not (shares_with plan p q))) plan.plays) plan.plays

apart_from : (plan : Plan) (chosen : ℕ → Bool) → stand_apart plan chosen ≡ true → StandApart plan chosen
apart_from plan chosen h p q m n c d =
    by_tests (chosen p) (chosen q) (shares_with plan p q) c d
    (all_at (λ b. not (chosen p) || (chosen b || not (shares_with plan p b))) plan.plays q
    (all_at (λ a. list_all (λ b. not (chosen a) || (chosen b || not (shares_with plan a b))) plan.plays) plan.plays p h m) n)
  where
    by_tests : (a b s : Bool) → a ≡ true → b ≡ false → not a || (b || not s) ≡ true → s ≡ false
    by_tests false b s c d h = absurd (false≢true c)
    by_tests true true s c d h = absurd (false≢true (sym d))
    by_tests true false s c d h = not-true s h

-- ---- two plays that share nothing

abbrev pub ann : ℕ
ann = 0

abbrev pub bob : ℕ
bob = 1

abbrev pub x : ℕ
x = 0

abbrev pub y : ℕ
y = 1

-- a role that reads an object and adds 1 to it
abbrev pub adds : ℕ → RoleRow
adds o = role (codes "r") (program (step.Read o ∷ step.Add o (pos 1) ∷ []) verdict.Done) [] abort.Never

abbrev pub w_action : ActionRow
w_action = action (codes "w") (x ∷ []) (adds x ∷ []) []

abbrev pub v_action : ActionRow
v_action = action (codes "v") (y ∷ []) (adds y ∷ []) []

abbrev pub draft : Draft
draft =
    record {
      participants = codes "ann" ∷ codes "bob" ∷ [];
      objects = object (codes "x") 0 ∷ object (codes "y") 0 ∷ [];
      graphs = plain_graph ∷ [];
      actions = w_action ∷ v_action ∷ [];
      plays = played 0 (ann ∷ []) ∷ played 1 (bob ∷ []) ∷ [];
      drills = [];
      watches = [];
    }

abbrev pub plan : Plan
plan = unfolded draft (play 0 (ann ∷ []) [] ∷ play 1 (bob ∷ []) [] ∷ []) (0 ∷ 1 ∷ [])

pub unfolds : UnfoldsInto draft plan
unfolding unfold_at depth_within action_bound
unfolds = record { whole = refl; same = refl }

-- both go on at once
abbrev pub journal : List Entry
journal =
    arrive 0 ann
    ∷ arrive 1 bob
    ∷ start 1 bob
    ∷ start 0 ann
    ∷ read 1 bob y 0
    ∷ read 0 ann x 0
    ∷ write 0 ann x 1
    ∷ write 1 bob y 1
    ∷ verdict_done 1 bob
    ∷ end_commit 1 bob
    ∷ verdict_done 0 ann
    ∷ leave 1 bob
    ∷ end_commit 0 ann
    ∷ leave 0 ann
    ∷ []

-- what stands of bob's play
abbrev pub of_bob : List Entry
of_bob =
    arrive 1 bob
    ∷ start 1 bob
    ∷ read 1 bob y 0
    ∷ write 1 bob y 1
    ∷ verdict_done 1 bob
    ∷ end_commit 1 bob
    ∷ leave 1 bob
    ∷ []

abbrev pub second : ℕ → Bool
second p = p == 1

pub legal : IsLegal plan journal
legal = assumption

pub complete : IsComplete plan journal
complete = complete_from plan journal refl

pub apart : StandApart plan second
apart = apart_from plan second refl

pub entries_of_bob : lone_entries plan (reverse journal) second ≡ reverse of_bob
entries_of_bob = refl

pub legal_alone : IsLegal (lone_plan plan second) of_bob
legal_alone = assumption

pub complete_alone : IsComplete (lone_plan plan second) of_bob
complete_alone = complete_from (lone_plan plan second) of_bob refl

-- ---- two plays that share an object

pub shared : shares_with two_plays_one_object.plan 0 1 ≡ true
shared = refl

-- what stands of the second play
abbrev pub of_second : List Entry
of_second =
    arrive 1 bob
    ∷ start 1 bob
    ∷ read 1 bob x 1
    ∷ write 1 bob x 2
    ∷ verdict_done 1 bob
    ∷ end_commit 1 bob
    ∷ leave 1 bob
    ∷ []

pub entries_of_second : lone_entries two_plays_one_object.plan (reverse two_plays_one_object.journal) second ≡ reverse of_second
entries_of_second = refl

-- alone it would read 0
pub second_is_illegal : IsLegal (lone_plan two_plays_one_object.plan second) of_second → ⊥
second_is_illegal h = absurd (zero≢one (rule_at (lone_plan two_plays_one_object.plan second) of_second 2 h).value)
  where
    zero≢one : pos 1 ≡ pos 0 → ⊥
    zero≢one e = cc
