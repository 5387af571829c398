-- What is kept of a rule tells where it is broken.
use Rattle.std.proofs.Common.{◌≡◌, ℕ, ℤ, ◌<◌, ◌↔◌, Bool, true, false, not, ◌&&◌, List, [], ◌∷◌, length, slice_index_or, Option, zero, suc, if◌then◌else◌, refl, sym, ap, ◌∙◌, subst, arith}
use Rattle.std.specs.List.{list_all}
use Rattle.std.proofs.lemmas.Bool.{and_parts, and_from, not-true}
use Rattle.std.proofs.lemmas.List.Elements.{All-from_get_or}
use Rattle.caa_base.specs.declared.written.entry.Entry.{Entry}
use Rattle.caa_base.proofs.ListLemmas.{at_row}
use Rattle.place_plan.specs.Plans.PlanValue.{Plan}
use Rattle.interlock_rules.specs.Interlocks.{MayFit, AllMayFit, BreaksWhen, asks}
use Rattle.interlock_rules.specs.inner.Watched.{fit_after, sure_after, sure_at, is_sure, object_of, is_always, is_asked, no_part, Watches}
use Rattle.interlock_rules.specs.declared.rules.Part.{Part}
use Rattle.interlock_rules.specs.declared.rules.When.{When}
use Rattle.interlock_rules.specs.declared.rules.When.TheVariants as when
use Rattle.interlock_rules.proofs.MayBe.{fit_shows, shows_fit, elsewhere, not_elsewhere}

-- ---- all parts at once

all_true : (bs : List Bool) → ((k : ℕ) → k < length bs → slice_index_or bs k false ≡ true) → list_all (λ fit. fit) bs ≡ true
all_true [] h = refl
all_true (b ∷ bs) h = and_from _ _ (h zero (omega arith)) (all_true bs (λ k l. h (suc k) (omega arith)))

pub all_may : (parts : List Part) (o : ℕ) (plan : Plan) (past : List Entry) (all : List Bool) (sure : Option ℤ)
    → Watches parts o plan past all sure → list_all (λ fit. fit) all ≡ true → AllMayFit plan past parts
all_may parts o plan past all sure w h =
    let count : length all ≡ length parts = w.count in
    All-from_get_or (MayFit plan past) parts no_part
    (λ k l. fit_shows plan past (slice_index_or parts k no_part)
    (sym (w.each k l) ∙ at_row (λ fit. fit) all k false h (omega arith)))

pub may_all : (parts : List Part) (o : ℕ) (plan : Plan) (past : List Entry) (all : List Bool) (sure : Option ℤ)
    → Watches parts o plan past all sure → AllMayFit plan past parts → list_all (λ fit. fit) all ≡ true
may_all parts o plan past all sure w may =
    let count : length all ≡ length parts = w.count in
    all_true all
    (λ k l. let within : k < length parts = omega arith in
    w.each k within ∙ shows_fit plan past (slice_index_or parts k no_part) (may k no_part within))

-- ---- what breaks a rule

pub first_breaks : (w : When) (parts : List Part) (plan : Plan) (all : List Bool) (sure : Option ℤ)
    → Watches parts (object_of w) plan [] all sure
    → ((is_always w && list_all (λ fit. fit) all) ≡ true) ↔ BreaksWhen w parts plan []
first_breaks when.Always parts plan all sure kept =
    (λ t. all_may parts 0 plan [] all sure kept t, λ may. may_all parts 0 plan [] all sure kept may)
first_breaks (when.Asked it) parts plan all sure kept = (λ t. cc, λ no. absurd no)
first_breaks (when.Moved it) parts plan all sure kept = (λ t. cc, λ no. absurd no)

pub entry_breaks : (w : When) (parts : List Part) (plan : Plan) (past : List Entry) (e : Entry) (all new : List Bool) (sure other : Option ℤ)
    → Watches parts (object_of w) plan past all sure → Watches parts (object_of w) plan (e ∷ past) new other
    → ((if is_always w then list_all (λ fit. fit) new else is_asked w e all sure) ≡ true) ↔ BreaksWhen w parts plan (e ∷ past)
entry_breaks when.Always parts plan past e all new sure other kept after =
    (λ t. all_may parts 0 plan (e ∷ past) new other after t, λ may. may_all parts 0 plan (e ∷ past) new other after may)
entry_breaks (when.Asked it) parts plan past e all new sure other kept after = (
  λ t. let both = and_parts (asks it e) (list_all (λ fit. fit) all) t in
      (both.0, all_may parts it.object plan past all sure kept both.1),
  λ b. and_from (asks it e) (list_all (λ fit. fit) all) b.0 (may_all parts it.object plan past all sure kept b.1),
)
entry_breaks (when.Moved it) parts plan past e all new sure other kept after = (
  λ t. let both = and_parts (asks it e) (not (is_sure sure e.value) && list_all (λ fit. fit) all) t in
      let more = and_parts (not (is_sure sure e.value)) (list_all (λ fit. fit) all) both.1 in
      let apart : is_sure (sure_at plan past it.object) e.value ≡ false =
      subst (λ s. is_sure s e.value ≡ false) kept.where_sure (not-true (is_sure sure e.value) more.0) in
      (both.0, elsewhere plan past it.object e.value apart, all_may parts it.object plan past all sure kept more.1),
  λ b. let apart : is_sure sure e.value ≡ false =
      subst (λ s. is_sure s e.value ≡ false) (sym kept.where_sure) (not_elsewhere plan past it.object e.value b.1) in
      and_from (asks it e) (not (is_sure sure e.value) && list_all (λ fit. fit) all) b.0
      (and_from (not (is_sure sure e.value)) (list_all (λ fit. fit) all) (ap not apart) (may_all parts it.object plan past all sure kept b.2)),
)

-- ---- what is kept, from entry to entry

pub watches_next : (parts : List Part) (o : ℕ) (plan : Plan) (past : List Entry) (e : Entry) (all new : List Bool) (sure other : Option ℤ)
    → Watches parts o plan past all sure → length new ≡ length parts
    → ((k : ℕ) → k < length parts → slice_index_or new k false ≡ fit_after (slice_index_or parts k no_part) e (slice_index_or all k false))
    → other ≡ sure_after o e sure → Watches parts o plan (e ∷ past) new other
watches_next parts o plan past e all new sure other kept count each s = record {
  count = count;
  each = λ k l. each k l ∙ ap (fit_after (slice_index_or parts k no_part) e) (kept.each k l);
  where_sure = s ∙ ap (sure_after o e) kept.where_sure;
}
