use Rattle.std.proofs.Common.{◌≡◌, ◌∙◌, ◌∷◌, [], List, ℕ, zero, suc, All, true≢false, ap, arith, length, map, refl, reverse, subst, sym}
use mathlib.Core.List.{IsPrefix}
use Rattle.action_manager.specs.inner.Turns.{held, Stands}
use Rattle.action_manager.specs.Managers.{table_of, plan_in, handed_in, terms_in}
use Rattle.action_manager.specs.Publishing.{Publishes}
use Rattle.action_manager.specs.Stepping.{IsAtRest}
use Rattle.action_manager.specs.Seats.{HaveAll, IsLeastMissing, IsSeatOf, stand}
use Rattle.action_manager.specs.declared.seat.Seat.{Seat}
use Rattle.action_manager.proofs.Gathered.{all_split, gathered_has, gathered_account}
use Rattle.action_manager.proofs.manager.Manager.close.Goals as goal

nobody_there : {M : Type 0} (n : ℕ) (seats : List (Seat M)) → length seats ≡ 0 → HaveAll n seats → n ≡ 0
nobody_there zero seats none all = refl
nobody_there (suc n) [] none all = absurd (true≢false (sym (all 0 (omega arith))))
nobody_there (suc n) (s ∷ seats) none all = absurd (omega (arith, none))

pub gather-kept-requires-clause-first : goal.gather-kept-requires-clause-first
gather-kept-requires-clause-first g c =
    let manager = c.args.self in let terms = terms_in g.M.Machine.base_of manager in
    let each =
    all_split (IsSeatOf (table_of manager) terms) c.pop.new.self.items c.in-Some-pop.last
    (subst (All (IsSeatOf (table_of manager) terms)) c.in-Some-pop.ensures.items c.requires.opened) in
    let mine : IsSeatOf (table_of manager) terms c.in-Some-pop.last = each.1 in
    let is = c.into_token.ensures in
    (ap (λ t. t.table_id) is ∙ mine.here, subst (λ t. IsAtRest terms t.me) (sym is) mine.rests)

pub gather-kept-requires-clause-others : goal.gather-kept-requires-clause-others
gather-kept-requires-clause-others g c =
    let manager = c.args.self in let terms = terms_in g.M.Machine.base_of manager in
    let each =
    all_split (IsSeatOf (table_of manager) terms) c.pop.new.self.items c.in-Some-pop.last
    (subst (All (IsSeatOf (table_of manager) terms)) c.in-Some-pop.ensures.items c.requires.opened) in
    each.0

pub shut_with-requires-clause-kept : goal.shut_with-requires-clause-kept
shut_with-requires-clause-kept g c = c.gather-kept.ensures.kept

pub shut_with-requires-clause-all : goal.shut_with-requires-clause-all
shut_with-requires-clause-all g c =
    let all = subst (HaveAll c.args.self.participants) c.as_slice.ensures.value c.in_default.ensures.none in
    let rest = c.pop.new.self.items in
    let whole = c.gather-kept.ensures.all ∙ ap (λ t. (t.me.0.who, t.me.0.seen) ∷ reverse (map stand rest)) c.into_token.ensures in
    λ t low. gathered_has t c.args.seats.items rest c.in-Some-pop.last _ c.in-Some-pop.ensures.items whole (all t low)

pub returns-in-Some-pop-clause-accounts : goal.returns-in-Some-pop-clause-accounts
returns-in-Some-pop-clause-accounts g c =
    let rest = c.pop.new.self.items in
    let whole = c.gather-kept.ensures.all ∙ ap (λ t. (t.me.0.who, t.me.0.seen) ∷ reverse (map stand rest)) c.into_token.ensures in
    let stands =
    subst (λ m. Stands (g.M.Machine.journal_of m) (held c.gather-kept.result.me.0))
    (sym c.of.ensures.machine) c.shut_with.ensures.stands in
    gathered_account (g.M.Machine.journal_of c.of.result.machine) c.args.seats.items rest c.in-Some-pop.last _
    c.in-Some-pop.ensures.items whole stands

pub returns-in-Some-pop-clause-all : goal.returns-in-Some-pop-clause-all
returns-in-Some-pop-clause-all g c =
    let all = subst (HaveAll c.args.self.participants) c.as_slice.ensures.value c.in_default.ensures.none in
    subst (λ n. HaveAll n c.args.seats.items) c.args.self.counted all

pub returns-in-Some-pop-clause-plan : goal.returns-in-Some-pop-clause-plan
returns-in-Some-pop-clause-plan g c = ap g.M.Machine.plan_of c.of.ensures.machine ∙ c.shut_with.ensures.right.plan

pub returns-in-Some-pop-clause-base : goal.returns-in-Some-pop-clause-base
returns-in-Some-pop-clause-base g c = ap g.M.Machine.base_of c.of.ensures.machine ∙ c.shut_with.ensures.right.base

pub returns-in-Some-pop-clause-begins : goal.returns-in-Some-pop-clause-begins
returns-in-Some-pop-clause-begins g c =
    let journal_of = g.M.Machine.journal_of in
    subst (λ m. IsPrefix (journal_of (handed_in c.args.self)) (journal_of m)) (sym c.of.ensures.machine) c.shut_with.ensures.begins

pub returns-in-Some-pop-clause-book : goal.returns-in-Some-pop-clause-book
returns-in-Some-pop-clause-book g c = ap (λ w. w.publications.book) c.of.ensures.writer ∙ c.shut_with.ensures.right.book

pub returns-in-Some-pop-clause-published : goal.returns-in-Some-pop-clause-published
returns-in-Some-pop-clause-published g c =
    let home = c.shut_with.result in let right = c.shut_with.ensures.right in let journal_of = g.M.Machine.journal_of in
    let published = subst (λ p. Publishes p (reverse (journal_of home.machine)) home.publishing.writer) right.plan right.kept.publishes in
    subst (λ w. Publishes (plan_in c.args.self) (reverse (journal_of c.of.result.machine)) w) (sym c.of.ensures.writer)
    (subst (λ m. Publishes (plan_in c.args.self) (reverse (journal_of m)) home.publishing.writer) (sym c.of.ensures.machine) published)

pub returns-in-Some-pop-clause-stale : goal.returns-in-Some-pop-clause-stale
returns-in-Some-pop-clause-stale g c = c.of.ensures.stale ∙ sym (ap (λ w. w.is_stale) c.of.ensures.writer)

pub shut_empty-requires : goal.shut_empty-requires
shut_empty-requires g c =
    let all = subst (HaveAll c.args.self.participants) c.as_slice.ensures.value c.in_default.ensures.none in
    record { none = nobody_there c.args.self.participants c.args.seats.items (omega (arith, c.in-None.ensures.cases.0, c.args.seats.ok.0)) all }

pub returns-in-None-clause-all : goal.returns-in-None-clause-all
returns-in-None-clause-all g c =
    let all = subst (HaveAll c.args.self.participants) c.as_slice.ensures.value c.in_default.ensures.none in
    subst (λ n. HaveAll n c.args.seats.items) c.args.self.counted all

pub returns-in-None-clause-plan : goal.returns-in-None-clause-plan
returns-in-None-clause-plan g c = ap g.M.Machine.plan_of c.of-in-None.ensures.machine ∙ c.shut_empty.ensures.right.plan

pub returns-in-None-clause-base : goal.returns-in-None-clause-base
returns-in-None-clause-base g c = ap g.M.Machine.base_of c.of-in-None.ensures.machine ∙ c.shut_empty.ensures.right.base

pub returns-in-None-clause-begins : goal.returns-in-None-clause-begins
returns-in-None-clause-begins g c =
    let journal_of = g.M.Machine.journal_of in
    subst (λ m. IsPrefix (journal_of (handed_in c.args.self)) (journal_of m)) (sym c.of-in-None.ensures.machine) c.shut_empty.ensures.begins

pub returns-in-None-clause-accounts : goal.returns-in-None-clause-accounts
returns-in-None-clause-accounts g c k d low = absurd (omega (arith, low, c.in-None.ensures.cases.0, c.args.seats.ok.0))

pub returns-in-None-clause-book : goal.returns-in-None-clause-book
returns-in-None-clause-book g c = ap (λ w. w.publications.book) c.of-in-None.ensures.writer ∙ c.shut_empty.ensures.right.book

pub returns-in-None-clause-published : goal.returns-in-None-clause-published
returns-in-None-clause-published g c =
    let home = c.shut_empty.result in let right = c.shut_empty.ensures.right in let journal_of = g.M.Machine.journal_of in
    let published = subst (λ p. Publishes p (reverse (journal_of home.machine)) home.publishing.writer) right.plan right.kept.publishes in
    subst (λ w. Publishes (plan_in c.args.self) (reverse (journal_of c.of-in-None.result.machine)) w) (sym c.of-in-None.ensures.writer)
    (subst (λ m. Publishes (plan_in c.args.self) (reverse (journal_of m)) home.publishing.writer) (sym c.of-in-None.ensures.machine) published)

pub returns-in-None-clause-stale : goal.returns-in-None-clause-stale
returns-in-None-clause-stale g c = c.of-in-None.ensures.stale ∙ sym (ap (λ w. w.is_stale) c.of-in-None.ensures.writer)

pub returns-in-Some-clause-missing : goal.returns-in-Some-clause-missing
returns-in-Some-clause-missing g c =
    let out =
    subst (λ seats. IsLeastMissing c.args.self.participants seats c.in-Some.missing) c.as_slice.ensures.value c.in-Some.ensures.some in
    subst (λ n. IsLeastMissing n c.args.seats.items c.in-Some.missing) c.args.self.counted out

pub returns-in-Some-clause-same : goal.returns-in-Some-clause-same
returns-in-Some-clause-same g c = (refl, refl)
