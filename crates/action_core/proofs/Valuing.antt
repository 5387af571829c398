-- What starts, ends and puts find of the objects, by the rules.
use Rattle.std.proofs.Common.{◌≡◌, ◌∙◌, ℕ, ℤ, ◌==◌, ◌<◌, Bool, true, false, cond, ◌&&◌, List, [], ◌∷◌, Option, length, refl, sym, ap, arith, inl, inr}
use Rattle.std.proofs.lemmas.Bool.{eq-eqb, eqb-true, false≢true, or_cases, and_from}
use Rattle.caa_base.specs.declared.written.entry.Entry.{Entry}
use Rattle.caa_base.specs.declared.written.entry.Kind.{Kind}
use Rattle.caa_base.specs.declared.written.entry.Kind.TheVariants as kind
use Rattle.caa_base.specs.Written.Lists.{member, same_option}
use Rattle.caa_base.proofs.ListLemmas.{all_at}
use Rattle.place_plan.specs.Plans.PlanValue.{Plan}
use Rattle.place_plan.specs.Plans.Places.{around, parent, objects_of, uses}
use Rattle.place_plan.specs.RulesOfJournals.Whereabouts.{is_live}
use Rattle.place_plan.specs.RulesOfJournals.Objects.{value_of, holder_of}
use Rattle.place_plan.specs.RulesOfJournals.Rules.{MayStart, MayEnd}
use Rattle.place_plan.specs.RulesOfJournals.Journals.{LegalPast, is_put}
use Rattle.journal_laws.proofs.Playable.{IsTree, IsPlayable}
use Rattle.journal_laws.proofs.Tree.{in_within}
use Rattle.journal_laws.proofs.Busy.{not_ending}
use Rattle.journal_laws.proofs.Innermost.{parent_within}
use Rattle.journal_laws.proofs.Holding.{live_uses, same_from_option, holds_within, holds_own, busy_round, end_live}
use Rattle.journal_laws.proofs.Versions.{device}
use Rattle.place_plan.proofs.OnJournals.EntryKinds.{of_kind}
use Rattle.object_versions.specs.declared.version.Version.{Version}
use Rattle.object_versions.proofs.VersionsKept.{others_keep}
use Rattle.object_versions.specs.inner.KeptVersions.{StandsFor}
use Rattle.object_versions.specs.inner.ChangedVersions.{HasFree, HoldsItsOwn, Takes, Puts}

first_of_two : (b c : Bool) (x y : ℤ) → b ≡ true → c ≡ true → cond (b && c) x y ≡ x
first_of_two true true x y h k = refl
first_of_two true false x y h k = absurd (false≢true k)
first_of_two false c x y h k = absurd (false≢true h)

-- for every kind of entry: the value is what was put last
value_next : (plan : Plan) → IsTree plan → (past : List Entry) (e : Entry) → LegalPast plan (e ∷ past) → (o : ℕ)
    → value_of plan (e ∷ past) o ≡ cond (is_put e && (e.arg == o)) e.value (value_of plan past o)
value_next plan tree past e legal o =
    sym (device plan tree (e ∷ past) legal o)
    ∙ ap (λ (v : ℤ). cond (is_put e && (e.arg == o)) e.value v) (device plan tree past legal.0 o)

-- so a put gives its object the value that was put
pub puts : (plan : Plan) → IsTree plan → (past : List Entry) (e : Entry) → LegalPast plan (e ∷ past) → is_put e ≡ true
    → Puts plan past e e.arg e.value
puts plan tree past e legal put = record {
  takes = put;
  object = refl;
  value = value_next plan tree past e legal e.arg ∙ first_of_two (is_put e) (e.arg == e.arg) _ _ put (eq-eqb e.arg e.arg refl);
}

module _ (plan : Plan) (tree : IsTree plan) where
  -- the places round another are less deep
  less_deep : (p q : ℕ) → member q (around plan p) ≡ true → length (around plan q) < length (around plan p)
  less_deep p q m = by_list p (around plan p) refl m
    where
      by_list : (r : ℕ) (qs : List ℕ) → around plan r ≡ qs → member q qs ≡ true → length (around plan q) < length qs
      by_list r [] w m = absurd (false≢true m)
      by_list r (s ∷ ss) w m = elim (or_cases (s == q) (member q ss) m) [
        | inl here ↦
            let same : length (around plan q) ≡ length ss =
            ap (λ a. length (around plan a)) (sym (eqb-true s q here)) ∙ ap (λ (l : List ℕ). length l) (tree.chain r s ss w) in
            omega (arith, same)
        | inr later ↦
            let l = by_list s ss (tree.chain r s ss w) later in
            omega (arith, l)
      ]

  -- a place that starts finds its objects with the place round it
  started_free : (past : List Entry) (e : Entry) (o : ℕ) → MayStart plan past e → uses plan e.place o ≡ true
      → holder_of plan past o ≡ parent plan e.place
  started_free past e o h used =
      same_from_option _ _
      (all_at (λ x. same_option (holder_of plan past x) (parent plan e.place)) (objects_of plan e.place) o h.ready used)

  -- and saves their values where no live place has saved any
  slot_free : (past : List Entry) (e : Entry) (o q : ℕ) → LegalPast plan past → MayStart plan past e → uses plan e.place o ≡ true
      → live_uses plan o past q ≡ true → length (around plan q) < length (around plan e.place)
  slot_free past e o q legal h used live =
      let round : member q (around plan e.place) ≡ true =
      sym (parent_within plan tree e.place q)
      ∙ ap (λ (h : Option ℕ). in_within plan h q) (sym (started_free past e o h used))
      ∙ sym (holds_within plan tree past legal o q) ∙ live in
      less_deep e.place q round

  pub takes : (past : List Entry) (e : Entry) → LegalPast plan past → e.kind ≡ kind.Start → MayStart plan past e
      → Takes plan past e e.place
  takes past e legal is h = record {
    starts = is;
    here = refl;
    deepest = λ o q used used_too live. slot_free past e o q legal h used (and_from _ _ live used_too);
  }

module _ (plan : Plan) (playable : IsPlayable plan) where
  pub frees : (past : List Entry) (e : Entry) (versions : List Version) → StandsFor plan past versions → MayStart plan past e
      → HasFree plan e.place versions
  frees past e versions s h =
      λ o used. (s.each o (playable.objects e.place o used)).holder ∙ started_free plan playable.tree past e o h used

  pub holds_its_own : (past : List Entry) (e : Entry) (versions : List Version) → LegalPast plan past → StandsFor plan past versions
      → MayEnd plan past e → HoldsItsOwn plan e.place versions
  holds_its_own past e versions legal s h =
      λ o used. (s.each o (playable.objects e.place o used)).holder
      ∙ holds_own plan playable.tree past o e.place (λ q. holds_within plan playable.tree past legal o q)
      (end_live plan playable.tree past e legal h) used alone
    where
      alone : (r : ℕ) → is_live past r ≡ true → member e.place (around plan r) ≡ true → ⊥
      alone r w m =
          let some = busy_round plan playable.tree past legal e.place r w m in
          not_ending plan playable.tree e.place some.0 past e some.1 refl h

-- ---- the kinds that leave the objects

abbrev pub unvalued : Kind → Bool
unvalued kind.Start = false
unvalued kind.End = false
unvalued kind.Write = false
unvalued kind.Restore = false
unvalued _ = true

pub versions_stay : (plan : Plan) (past : List Entry) (k : Kind) (e : Entry) (versions : List Version) → unvalued k ≡ true
    → StandsFor plan past versions → StandsFor plan (of_kind k e ∷ past) versions
versions_stay plan past kind.Start e versions w s = absurd (false≢true w)
versions_stay plan past kind.End e versions w s = absurd (false≢true w)
versions_stay plan past kind.Write e versions w s = absurd (false≢true w)
versions_stay plan past kind.Restore e versions w s = absurd (false≢true w)
versions_stay plan past k e versions w s = others_keep plan past (of_kind k e) versions refl refl refl s
