-- How much the plays of an accepted script unfold into is counted, and within the limits.
use Rattle.std.proofs.Common.{◌≡◌, ℕ, ◌+◌, ◌<◌, ◌≤◌, nat_lt, true, List, [], ◌∷◌, ◌++◌, length, slice_index_or, refl, arith, below_more, sum_by, length-append}
use Rattle.std.specs.List.{list_all}
use Rattle.std.proofs.lemmas.Bool.{and_parts, ltb-true, ltb-false}
use Rattle.std.proofs.lemmas.List.Sums.{sum_by-append, sum_by-cons}
use Rattle.place_plan.specs.declared.drafts.draft_rows.ActionRow.{ActionRow}
use Rattle.place_plan.specs.declared.drafts.draft_rows.NestRow.{NestRow}
use Rattle.place_plan.specs.declared.drafts.draft_rows.PlayRow.{PlayRow}
use Rattle.place_plan.specs.Plans.Places.{no_action}
use Rattle.place_plan.specs.Drafts.DraftRules.{all_below}
use Rattle.place_plan.specs.Plans.Weights.{counted, at, nested_weight, own_entries, played_weight}
use Rattle.action_script.specs.declared.forms.form.Form.{Form}
use Rattle.action_script.specs.declared.forms.form.Form.TheVariants as form
use Rattle.script_checker.specs.declared.declared.Declared.{Declared}
use Rattle.script_checker.specs.declared.declared.Block.{Block}
use Rattle.script_checker.specs.declared.declared.Block.TheVariants as block
use Rattle.script_checker.specs.AtTop.{places_with, bound_with, declared_with}
use Rattle.script_checker.specs.InAction.{row_of}
use Rattle.script_checker.specs.After.{ended}
use Rattle.script_checker.proofs.Accepted.{IsKept, NoneAtTop, within_at_top, bounded_at_top}
use Rattle.script_checker.proofs.ListsChange.{all_rows}
use Rattle.script_checker.proofs.NestsKept.{Pass, pass_kept}
use Rattle.script_checker.proofs.NestTests.{same_action, uses_there, there_test}
use Rattle.script_checker.proofs.PlaysKept.{play_right, PlaysRight, plays_kept}
use Rattle.script_checker.proofs.DepthsKept.{at_longer, at_last, action_last, nests_there}
use Rattle.script_checker.proofs.WeightsTell.{IsWeight}
use Rattle.caa_base.specs.Written.Limits.{most_places, most_entries}

-- ---- one action more

acts_longer : (table : List ℕ) (v : ℕ) (acts : List ℕ) → all_below (length table) acts ≡ true
    → sum_by (at (table ++ v ∷ [])) acts ≡ sum_by (at table) acts
acts_longer table v [] h = refl
acts_longer table v (a ∷ acts) h =
    let p = and_parts (nat_lt a (length table)) (all_below (length table) acts) h in
    omega (
      arith,
      sum_by-cons (at (table ++ v ∷ [])) a acts,
      sum_by-cons (at table) a acts,
      at_longer table v a (ltb-true _ _ p.0),
      acts_longer table v acts p.1,
    )

nests_longer : (table : List ℕ) (v : ℕ) (nests : List NestRow)
    → list_all (λ (nest : NestRow). all_below (length table) nest.actions) nests ≡ true
    → nested_weight (at (table ++ v ∷ [])) nests ≡ nested_weight (at table) nests
nests_longer table v [] h = refl
nests_longer table v (nest ∷ nests) h =
    let p =
    and_parts (all_below (length table) nest.actions) (list_all (λ (nest : NestRow). all_below (length table) nest.actions) nests) h in
    omega (
      arith,
      sum_by-cons (λ (other : NestRow). sum_by (at (table ++ v ∷ [])) other.actions) nest nests,
      sum_by-cons (λ (other : NestRow). sum_by (at table) other.actions) nest nests,
      acts_longer table v nest.actions p.0,
      nests_longer table v nests p.1,
    )

plays_longer : (participants : ℕ) (actions : List ActionRow) (table : List ℕ) (v : ℕ) (plays : List PlayRow) → length table ≡ length actions
    → list_all (play_right participants actions) plays ≡ true → played_weight (at (table ++ v ∷ [])) plays ≡ played_weight (at table) plays
plays_longer participants actions table v [] e h = refl
plays_longer participants actions table v (play ∷ plays) e h =
    let p = and_parts (play_right participants actions play) (list_all (play_right participants actions) plays) h in
    let q = and_parts (nat_lt play.action (length actions)) _ p.0 in
    let low = ltb-true play.action (length actions) q.0 in
    let within : play.action < length table = omega arith in
    omega (
      arith,
      sum_by-cons (λ (other : PlayRow). at (table ++ v ∷ []) other.action) play plays,
      sum_by-cons (λ (other : PlayRow). at table other.action) play plays,
      at_longer table v play.action within,
      plays_longer participants actions table v plays e p.1,
    )

-- ---- a table of weights, and what the plays come to by it

pub record Weighs (own : ActionRow → ℕ) (table : List ℕ) (actions : List ActionRow) (plays : List PlayRow) (total : ℕ) : Type 0 where
  pub many : length table ≡ length actions
  pub tell : (a : ℕ) → a < length actions → IsWeight own table actions a
  pub whole : total ≡ counted (played_weight (at table) plays)

module _ (own : ActionRow → ℕ) (table : List ℕ) (actions : List ActionRow) (plays : List PlayRow) (total : ℕ)
    (h : Weighs own table actions plays total) where
  -- one action more
  weighs_longer : (participants : ℕ) (action : ActionRow)
      → list_all (λ (nest : NestRow). all_below (length actions) nest.actions) action.nests ≡ true
      → list_all (λ (action : ActionRow). list_all (λ (nest : NestRow). all_below (length actions) nest.actions) action.nests) actions ≡
      true
      → list_all (play_right participants actions) plays ≡ true
      → Weighs own (table ++ counted (own action + nested_weight (at table) action.nests) ∷ []) (actions ++ action ∷ []) plays total
  weighs_longer participants action here there right =
      let v = counted (own action + nested_weight (at table) action.nests) in
      let m : length (table ++ v ∷ []) ≡ length table + 1 = length-append table (v ∷ []) in
      let n : length (actions ++ action ∷ []) ≡ length actions + 1 = length-append actions (action ∷ []) in
      let more = below_more (IsWeight own (table ++ v ∷ []) (actions ++ action ∷ [])) (length actions)
      (λ k l.
      let within : k < length table = omega (arith, h.many) in
      rw (
        same_action actions action k l,
        at_longer table v k within,
        nests_longer table v (slice_index_or actions k no_action).nests (nests_there actions table k h.many l there),
      ) (h.tell k l))
      (rw (
        action_last actions action (length actions) refl,
        at_last table v (length actions) h.many,
        nests_longer table v action.nests (rw h.many here),
      ) refl) in
      record {
        many = omega (arith, h.many);
        tell = λ a l. more a (omega arith);
        whole = rw (plays_longer participants actions table v plays h.many right) h.whole;
      }

  -- one play more
  pub weighs_play : (play : PlayRow) → Weighs own table actions (plays ++ play ∷ []) (counted (total + at table play.action))
  weighs_play play = record {
    many = h.many;
    tell = h.tell;
    whole =
        omega (
          arith,
          h.whole,
          sum_by-append (λ (other : PlayRow). at table other.action) plays (play ∷ []),
          sum_by-cons (λ (other : PlayRow). at table other.action) play [],
        );
  }

-- ---- lines

abbrev pub one_place : ActionRow → ℕ
one_place action = 1

abbrev pub PlacesWeigh : Declared → Type 0
PlacesWeigh d = Weighs one_place d.places d.actions d.plays d.all_places × (d.all_places ≤ most_places)

abbrev pub EntriesWeigh : Declared → Type 0
EntriesWeigh d = Weighs own_entries d.bounds d.actions d.plays d.whole_bound × (d.whole_bound ≤ most_entries)

pub record AreWeighed (d : Declared) (b : Block) : Type 0 where
  pub there : Pass uses_there there_test d b
  pub right : PlaysRight d b
  pub places : PlacesWeigh d
  pub entries : EntriesWeigh d

module _ (names : List (List ℕ)) (d : Declared) where
  says_places : (f : Form) → NoneAtTop d f → PlacesWeigh d → PlacesWeigh (declared_with names d f)
  says_places (form.Play action who) none h = (
    weighs_play one_place d.places d.actions d.plays d.all_places h.0 _,
    ltb-false most_places (places_with d action) (within_at_top d (form.Play action who) none),
  )
  says_places f none h = h

  says_entries : (f : Form) → NoneAtTop d f → EntriesWeigh d → EntriesWeigh (declared_with names d f)
  says_entries (form.Play action who) none h = (
    weighs_play own_entries d.bounds d.actions d.plays d.whole_bound h.0 _,
    ltb-false most_entries (bound_with d action) (bounded_at_top d (form.Play action who) none),
  )
  says_entries f none h = h

  ends_places : (b : Block) → AreWeighed d b → PlacesWeigh (ended names d b)
  ends_places (block.Action a) h = (
    weighs_longer one_place d.places d.actions d.plays d.all_places h.places.0 (length d.participants) (row_of names a)
        (all_rows (uses_there d.actions d.graphs) a.nests h.there.1) h.there.0 h.right,
    h.places.1,
  )
  ends_places block.Top h = h.places
  ends_places (block.Graph g) h = h.places

  ends_entries : (b : Block) → AreWeighed d b → EntriesWeigh (ended names d b)
  ends_entries (block.Action a) h = (
    weighs_longer own_entries d.bounds d.actions d.plays d.whole_bound h.entries.0 (length d.participants) (row_of names a)
        (all_rows (uses_there d.actions d.graphs) a.nests h.there.1) h.there.0 h.right,
    h.entries.1,
  )
  ends_entries block.Top h = h.entries
  ends_entries (block.Graph g) h = h.entries

pub weights_kept : (names : List (List ℕ)) → IsKept names AreWeighed
weights_kept names =
    let there = pass_kept uses_there there_test names in
    let right = plays_kept names in
    record {
      at_top = λ d f sound none h. record {
        there = there.at_top d f sound none h.there;
        right = right.at_top d f sound none h.right;
        places = says_places names d f none h.places;
        entries = says_entries names d f none h.entries;
      };
      in_graph = λ d g f sound none h. record { there = h.there; right = h.right; places = h.places; entries = h.entries };
      in_action =
          λ d a f sound none shut h. record {
            there = there.in_action d a f sound none shut h.there;
            right = h.right;
            places =
                h.places;
            entries = h.entries;
          };
      closes = λ d a h. record { there = there.closes d a h.there; right = h.right; places = h.places; entries = h.entries };
      ends =
          λ d b none h. record {
            there = there.ends d b none h.there;
            right = right.ends d b none h.right;
            places =
                ends_places names d b h;
            entries = ends_entries names d b h;
          };
    }
