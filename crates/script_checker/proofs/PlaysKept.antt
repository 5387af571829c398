-- The plays of an accepted script are of actions that are there, and their roles are filled, each by another participant.
use Rattle.std.proofs.Common.{◌≡◌, ℕ, ◌+◌, ◌<◌, nat_lt, ◌==◌, Bool, true, false, ◌&&◌, List, [], ◌∷◌, ◌++◌, map, length, slice_index_or, arith, length-append}
use Rattle.std.proofs.lemmas.List.{length-map}
use Rattle.std.specs.List.{list_all}
use Rattle.std.proofs.lemmas.Bool.{and_parts, ltb-true, lt-ltb, and_from, not-false}
use Rattle.caa_base.specs.Written.Lists.{index_of}
use Rattle.place_plan.specs.declared.drafts.draft_rows.ActionRow.{ActionRow}
use Rattle.place_plan.specs.declared.drafts.draft_rows.PlayRow.{PlayRow}
use Rattle.place_plan.specs.Plans.Places.{no_action}
use Rattle.place_plan.specs.declared.drafts.draft.Draft.{Draft}
use Rattle.place_plan.specs.Drafts.DraftRules.{all_below, all_differ, play_in_range, fills}
use Rattle.action_script.specs.declared.forms.form.Form.{Form}
use Rattle.action_script.specs.declared.forms.form.Form.TheVariants as form
use Rattle.script_checker.specs.declared.declared.Declared.{Declared}
use Rattle.script_checker.specs.declared.declared.Block.{Block}
use Rattle.script_checker.specs.declared.declared.Block.TheVariants as block
use Rattle.script_checker.specs.Numbers.{is_among}
use Rattle.script_checker.specs.DeclaredSoFar.{action_of}
use Rattle.script_checker.specs.AtTop.{is_action, unfilled_at_top, filled_twice_at_top, play_row, declared_with}
use Rattle.script_checker.specs.InAction.{row_of}
use Rattle.script_checker.specs.Causes.{is_unknown}
use Rattle.script_checker.specs.After.{ended}
use Rattle.caa_base.proofs.ListLemmas.{all_imply}
use Rattle.script_checker.proofs.KnownNames.{then_known}
use Rattle.script_checker.proofs.Accepted.{IsKept, NoneAtTop, known_at_top, filled_at_top, differing_at_top}
use Rattle.script_checker.proofs.ListsChange.{all_push}
use Rattle.script_checker.proofs.NestTests.{eqb_turn, differ_mapped, below_more, one_longer, same_action, numbers_below}

-- by so many participants, and these actions
abbrev pub play_right : ℕ → List ActionRow → PlayRow → Bool
play_right participants actions play =
    nat_lt play.action (length actions) &&
    (all_below participants play.who && ((length play.who == length (slice_index_or actions play.action no_action).roles)
    && all_differ play.who))

abbrev pub PlaysRight : Declared → Block → Type 0
PlaysRight d b = list_all (play_right (length d.participants) d.actions) d.plays ≡ true

-- one participant more, or one action more
more_participants : (m n : ℕ) (actions : List ActionRow) → m < n → (play : PlayRow) → play_right m actions play ≡ true
    → play_right n actions play ≡ true
more_participants m n actions l play h =
    let p = and_parts (nat_lt play.action (length actions)) _ h in
    let q = and_parts (all_below m play.who) _ p.1 in
    and_from _ _ p.0 (and_from _ _ (below_more m n play.who l q.0) q.1)

more_actions : (n : ℕ) (actions : List ActionRow) (action : ActionRow) (play : PlayRow) → play_right n actions play ≡ true
    → play_right n (actions ++ action ∷ []) play ≡ true
more_actions n actions action play h =
    let p = and_parts (nat_lt play.action (length actions)) _ h in
    let q = and_parts (all_below n play.who) _ p.1 in
    let low = ltb-true play.action (length actions) p.0 in
    let longer = one_longer actions action in
    rw (same_action actions action play.action low) (and_from _ _ (lt-ltb play.action _ (omega arith)) p.1)

module _ (names : List (List ℕ)) (d : Declared) where
  -- one play more, whatever its sizes are
  pub said_play : (action : ℕ) (who : List ℕ) → is_unknown d block.Top (form.Play action who) ≡ false
      → unfilled_at_top d (form.Play action who) ≡ false → filled_twice_at_top (form.Play action who) ≡ false
      → play_right (length d.participants) d.actions (play_row d action who) ≡ true
  said_play action who here full apart =
      let k = then_known (is_action d action) (list_all (is_among d.participants) who) here in
      let different : all_differ (map (λ p. index_of p d.participants) who) ≡ true =
      differ_mapped d.participants who (not-false _ apart) k.1 in
      let f : (length (map (λ p. index_of p d.participants) who) == length (action_of d action).roles) ≡ true =
      rw length-map (eqb_turn (length (action_of d action).roles) (length who) (not-false _ full)) in
      let b : all_below (length d.participants) (map (λ p. index_of p d.participants) who) ≡ true =
      numbers_below d.participants who (length d.participants) k.1 (omega arith) in
      and_from _ _ k.0 (and_from _ _ b (and_from _ _ f different))

  says_plays : (f : Form) → NoneAtTop d f → PlaysRight d block.Top → PlaysRight (declared_with names d f) block.Top
  says_plays (form.Participant name) none h =
      let n : length (d.participants ++ name ∷ []) ≡ length d.participants + 1 = length-append d.participants (name ∷ []) in
      all_imply (play_right (length d.participants) d.actions) (play_right (length (d.participants ++ name ∷ [])) d.actions) d.plays
      (more_participants (length d.participants) _ d.actions (omega arith)) h
  says_plays (form.Play action who) none h =
      all_push (play_right (length d.participants) d.actions) d.plays _ h
      (said_play action who (known_at_top d (form.Play action who) none) (filled_at_top d (form.Play action who) none)
      (differing_at_top d (form.Play action who) none))
  says_plays f none h = h

  ends_plays : (b : Block) → PlaysRight d b → PlaysRight (ended names d b) block.Top
  ends_plays (block.Action a) h =
      all_imply (play_right (length d.participants) d.actions) (play_right (length d.participants) (d.actions ++ row_of names a ∷ []))
      d.plays (more_actions (length d.participants) d.actions (row_of names a)) h
  ends_plays block.Top h = h
  ends_plays (block.Graph g) h = h

pub plays_kept : (names : List (List ℕ)) → IsKept names PlaysRight
plays_kept names = record {
  at_top = λ d f sound none h. says_plays names d f none h;
  in_graph = λ d g f sound none h. h;
  in_action = λ d a f sound none shut h. h;
  closes = λ d a h. h;
  ends = λ d b none h. ends_plays names d b h;
}

-- ---- the plays of a draft

module _ (draft : Draft) (right : list_all (play_right (length draft.participants) draft.actions) draft.plays ≡ true) where
  pub plays_ranged : list_all (play_in_range draft) draft.plays ≡ true
  plays_ranged =
      all_imply (play_right (length draft.participants) draft.actions) (play_in_range draft) draft.plays
      (λ play h.
      let p = and_parts (nat_lt play.action (length draft.actions)) _ h in
      let q = and_parts (all_below (length draft.participants) play.who) _ p.1 in
      and_from _ _ p.0 q.0)
      right

  pub plays_filled : list_all (λ (play : PlayRow). fills draft play.action play.who) draft.plays ≡ true
  plays_filled =
      all_imply (play_right (length draft.participants) draft.actions) (λ (play : PlayRow). fills draft play.action play.who) draft.plays
      (λ play h. (and_parts (all_below (length draft.participants) play.who) _
      (and_parts (nat_lt play.action (length draft.actions)) _ h).1).1)
      right
