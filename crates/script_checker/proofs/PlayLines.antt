-- A `play` line is judged by what the draft with its play unfolds into.
use Rattle.std.proofs.Common.{◌≡◌, ℕ, true, false, List, [], ◌∷◌, ◌++◌, length, refl, sym, ap, subst, ◌∙◌, arith}
use Rattle.std.specs.List.{list_all}
use Rattle.std.proofs.lemmas.Bool.{and_parts, and_from, false_from_ne_true}
use Rattle.place_plan.specs.declared.drafts.draft.Draft.{Draft}
use Rattle.place_plan.specs.declared.drafts.draft_rows.ActionRow.{ActionRow}
use Rattle.place_plan.specs.declared.drafts.draft_rows.PlayRow.{PlayRow}
use Rattle.place_plan.specs.Plans.Bound.{bound}
use Rattle.place_plan.specs.Drafts.DraftRules.{KeepsParts, action_in_range, play_in_range, nest_fills}
use Rattle.place_plan.specs.Plans.Unfolding.{plan_of}
use Rattle.place_plan.specs.Plans.Weights.{counted, at, played_weight, own_entries}
use Rattle.action_script.specs.declared.forms.form.Form.{Form}
use Rattle.action_script.specs.declared.forms.form.Form.TheVariants as form
use Rattle.action_script.specs.declared.lines.kind.Section.{Section}
use Rattle.action_script.specs.declared.lines.kind.Section.TheVariants as section
use Rattle.action_script.specs.declared.forms.script.Line.{Line}
use Rattle.action_script.specs.Lines.Kinds.{stands_in, goes_to}
use Rattle.action_script.specs.Forms.LineForms.{kind_of}
use Rattle.action_script.specs.Forms.Printing.{AreScript, is_sound, forms_of, lead_to_top}
use Rattle.action_script.specs.Forms.ScriptValue.{Script}
use Rattle.script_checker.specs.declared.check_error.CheckCause.TheVariants as cause
use Rattle.script_checker.specs.declared.declared.SoFar.{SoFar}
use Rattle.script_checker.specs.declared.declared.Declared.{Declared}
use Rattle.script_checker.specs.declared.declared.Block.{Block}
use Rattle.script_checker.specs.declared.declared.Block.TheVariants as block
use Rattle.script_checker.specs.DeclaredSoFar.{nothing_yet}
use Rattle.script_checker.specs.AtTop.{unfilled_at_top, filled_twice_at_top, play_row, declared_with}
use Rattle.script_checker.specs.Causes.{is_unknown}
use Rattle.script_checker.specs.After.{settled_block, settled, with_said}
use Rattle.script_checker.specs.Compiled.{HasNoneBelow, declared_after, AreAccepted, IsDraftOf}
use Rattle.script_checker.specs.PlaySizes.{AreSizesOf, CountsUnfolding}
use Rattle.script_checker.proofs.ListsChange.{all_push}
use Rattle.script_checker.proofs.PlaysKept.{play_right, said_play, plays_ranged, plays_filled}
use Rattle.script_checker.proofs.CountsKept.{AreCountsFew}
use Rattle.script_checker.proofs.DepthsKept.{AreShallow}
use Rattle.script_checker.proofs.WeightsKept.{AreWeighed, one_place, weighs_play}
use Rattle.script_checker.proofs.SizesTold.{places_told, entries_told}
use Rattle.script_checker.proofs.AcceptedDraft.{counts, shallow, weighed, keeps_parts}
use Rattle.script_checker.proofs.Stands.{ends_at_top}

-- ---- the lines before a play

leads_before : (at : Section) (before : List Line) (line : Line) (rest : List Line) (action : ℕ) (who : List ℕ)
    → line.form ≡ form.Play action who → lead_to_top at (forms_of (before ++ line ∷ rest)) ≡ true → lead_to_top at (forms_of before) ≡ true
leads_before at [] line rest action who e h =
    let k = and_parts (stands_in (kind_of line.form) at) (lead_to_top (goes_to (kind_of line.form) at) (forms_of rest)) h in
    subst (λ (f : Form). stands_in (kind_of f) at ≡ true) e k.0
leads_before at (l ∷ before) line rest action who e h =
    let k = and_parts (stands_in (kind_of l.form) at) (lead_to_top (goes_to (kind_of l.form) at) (forms_of (before ++ line ∷ rest))) h in
    and_from _ _ k.0 (leads_before (goes_to (kind_of l.form) at) before line rest action who e k.1)

sound_before : (names : List (List ℕ)) (before : List Line) (line : Line) (rest : List Line)
    → list_all (is_sound names) (forms_of (before ++ line ∷ rest)) ≡ true → list_all (is_sound names) (forms_of before) ≡ true
sound_before names [] line rest h = refl
sound_before names (l ∷ before) line rest h =
    let k = and_parts (is_sound names l.form) (list_all (is_sound names) (forms_of (before ++ line ∷ rest))) h in
    and_from _ _ k.0 (sound_before names before line rest k.1)

-- ---- one play after lines without cause

-- the draft without that play
abbrev without_play : Declared → Draft → Draft
without_play d draft = record draft { plays = d.plays }

module _ (names : List (List ℕ)) (d : Declared) (action : ℕ) (who : List ℕ) (draft : Draft)
    (drafted : IsDraftOf names (declared_with names d (form.Play action who)) draft) where
  drafted_without : IsDraftOf names d (without_play d draft)
  drafted_without = record {
    participants = drafted.participants;
    objects = drafted.objects;
    graphs = drafted.graphs;
    actions = drafted.actions;
    plays = refl;
    drills = drafted.drills;
    watches = drafted.watches;
  }

  module _ (b : Block) (few : AreCountsFew d b) (deep : AreShallow d b) (weights : AreWeighed d b)
      (before : KeepsParts (without_play d draft)) (known : is_unknown d block.Top (form.Play action who) ≡ false)
      (filled : unfilled_at_top d (form.Play action who) ≡ false) (apart : filled_twice_at_top (form.Play action who) ≡ false) where
    right : list_all (play_right (length draft.participants) draft.actions) draft.plays ≡ true
    right =
        rw (drafted.participants, few.participants.0, drafted.actions, drafted.plays)
        (all_push (play_right (length d.participants) d.actions) d.plays (play_row d action who) weights.right
        (said_play names d action who known filled apart))

    keeps : KeepsParts draft
    keeps =
        let valued = and_parts _ _ before.ranges in
        let acted = and_parts (list_all (action_in_range draft) draft.actions) _ valued.1 in
        let others = and_parts (list_all (play_in_range (without_play d draft)) d.plays) _ acted.1 in
        let nested =
        and_parts (list_all (λ (action : ActionRow). list_all (nest_fills draft) action.nests) draft.actions) _ before.fillings in
        record {
          sizes = before.sizes;
          graphs = before.graphs;
          ranges = and_from _ _ valued.0 (and_from _ _ acted.0 (and_from _ _ (plays_ranged draft right) others.1));
          order = before.order;
          fillings = and_from _ _ nested.0 (plays_filled draft right);
          enters = before.enters;
          objects = before.objects;
          depths = before.depths;
          handlers = before.handlers;
        }

    sized : AreSizesOf d action draft
    sized = record {
      parts = keeps;
      places =
          (weighs_play one_place d.places d.actions d.plays d.all_places weights.places.0 (play_row d action who)).whole
          ∙ subst (λ (plays : List PlayRow). counted (played_weight (at d.places) plays) ≡ counted (length (plan_of draft).places))
          drafted.plays (places_told d b deep draft keeps drafted.actions weights.places.0.tell);
      bound =
          (weighs_play own_entries d.bounds d.actions d.plays d.whole_bound weights.entries.0 (play_row d action who)).whole
          ∙ subst (λ (plays : List PlayRow). counted (played_weight (at d.bounds) plays) ≡ counted (bound (plan_of draft)))
          drafted.plays (entries_told d b deep draft keeps drafted.actions weights.entries.0.tell);
    }

-- ---- the law

module _ (names : List (List ℕ)) (lines : List Line) (lead : lead_to_top section.Top (forms_of lines) ≡ true)
    (sound : list_all (is_sound names) (forms_of lines) ≡ true) (accepted : AreAccepted names (nothing_yet names) lines)
    (action : ℕ) (who : List ℕ) (draft : Draft) where
  abbrev last : Declared
  last = (declared_after names (nothing_yet names) lines).declared

  abbrev at_last : SoFar
  at_last = record { declared = last; block = block.Top }

  -- what is declared when the play line comes, which stands at the top
  comes_at_top : settled (declared_after names (nothing_yet names) lines) (form.Play action who) ≡ at_last
  comes_at_top =
      ap (λ (b : Block). record { declared = last; block = settled_block false b })
      (ends_at_top names section.Top (nothing_yet names) lines lead tt)

  sized_last : IsDraftOf names (declared_with names last (form.Play action who)) draft → HasNoneBelow at_last (form.Play action who) 19
      → AreSizesOf last action draft
  sized_last drafted none =
      let play = form.Play action who in
      let without = drafted_without names last action who draft drafted in
      let some = without_play last draft in
      sized names last action who draft drafted (declared_after names (nothing_yet names) lines).block
      (counts names lines sound accepted some without) (shallow names lines sound accepted some without)
      (weighed names lines sound accepted some without) (keeps_parts names lines sound accepted some without)
      (false_from_ne_true (is_unknown last block.Top play) (λ h. none cause.Unknown (omega arith) h))
      (false_from_ne_true (unfilled_at_top last play) (λ h. none cause.RoleUnfilled (omega arith) h))
      (false_from_ne_true (filled_twice_at_top play) (λ h. none cause.RoleTwice (omega arith) h))

  sized_at : (s : SoFar) → s ≡ at_last → HasNoneBelow s (form.Play action who) 19
      → IsDraftOf names (with_said names s (form.Play action who)).declared draft → AreSizesOf s.declared action draft
  sized_at s e lesser drafted =
      subst (λ (t : SoFar). AreSizesOf t.declared action draft) (sym e)
      (sized_last (subst (λ (t : SoFar). IsDraftOf names (with_said names t (form.Play action who)).declared draft) e drafted)
      (subst (λ (t : SoFar). HasNoneBelow t (form.Play action who) 19) e lesser))

pub counts_unfolding : (script : Script) → AreScript script.names (forms_of script.lines) → CountsUnfolding script
counts_unfolding script is s action who comes draft drafted =
    let lead =
    leads_before section.Top comes.before comes.line comes.rest action who comes.play
    (subst (λ (lines : List Line). lead_to_top section.Top (forms_of lines) ≡ true) comes.place is.lead) in
    let sound =
    sound_before script.names comes.before comes.line comes.rest
    (subst (λ (lines : List Line). list_all (is_sound script.names) (forms_of lines) ≡ true) comes.place is.sound) in
    sized_at script.names comes.before lead sound comes.accepted action who draft s
    (comes.declared ∙ comes_at_top script.names comes.before lead sound comes.accepted action who draft) comes.lesser drafted
