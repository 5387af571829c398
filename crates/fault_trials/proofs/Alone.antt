-- How many puts of a journal were refused.
use Rattle.std.proofs.Common.{◌≡◌, ◌∙◌, ℕ, zero, suc, ◌+◌, ◌-◌, ◌^◌, ◌<◌, ◌≤◌, Bool, true, false, cond, if◌then◌else◌, List, [], ◌∷◌, refl, ap, sym, subst, subst₂, length, filter, arith}
use Rattle.std.specs.Prelude.{Some, slice_get}
use Rattle.std.proofs.lemmas.Bool.{false≢true}
use Rattle.std.proofs.lemmas.Option.{slice_get_within}
use Rattle.caa_base.specs.Outside.Counts.{CountsFault}
use Rattle.caa_base.specs.declared.written.entry.Entry.{Entry}
use Rattle.caa_base.specs.declared.written.entry.Kind.{Kind}
use Rattle.caa_base.specs.declared.written.entry.Kind.TheVariants as kind
use Rattle.place_plan.specs.RulesOfJournals.Journals.{is_put, is_fault, faults_in}
use Rattle.place_plan.proofs.OnJournals.EntryKinds.{of_kind}
use Rattle.journal_laws.specs.Due.{as_refused}
use Rattle.journal_replay.specs.IsDue.{IsRefusalOf}
use Rattle.fault_trials.specs.Puts.{RefusedAt}

-- the refusal of a put is one
refused_by : (k : Kind) (e : Entry) → is_put (of_kind k e) ≡ true → is_fault (as_refused k (of_kind k e)) ≡ true
refused_by kind.Write e is = refl
refused_by kind.Restore e is = refl
refused_by _ e is = absurd (false≢true is)

refusal_faults : (e put : Entry) → IsRefusalOf e put → is_fault e ≡ true
refusal_faults e put so = ap is_fault so.1 ∙ refused_by put.kind put so.0

same_entry : (a b : Entry) → Some a ≡ Some b → a ≡ b
same_entry a b is = cc

one_or_more : (n : ℕ) → 1 ≤ suc n
one_or_more n = omega arith

-- a journal with a refused put has one at least
some_refused : (es : List Entry) (i : ℕ) (e : Entry) → slice_get es i ≡ Some e → is_fault e ≡ true → 1 ≤ length (filter is_fault es)
some_refused [] i e stands is = absurd (let low : i < 0 = slice_get_within [] i e stands in omega (arith, low))
some_refused (x ∷ es) zero e stands is =
    let here : is_fault x ≡ true = ap is_fault (same_entry x e stands) ∙ is in
    subst (λ b. 1 ≤ length (cond b (x ∷ filter is_fault es) (filter is_fault es))) (sym here) (one_or_more (length (filter is_fault es)))
some_refused (x ∷ es) (suc i) e stands is = by_fault (is_fault x) (some_refused es i e stands is)
  where
    by_fault : (b : Bool) → 1 ≤ length (filter is_fault es) → 1 ≤ length (cond b (x ∷ filter is_fault es) (filter is_fault es))
    by_fault true h = one_or_more (length (filter is_fault es))
    by_fault false h = h

-- a journal with one refused put at most, that refuses this one, refuses no other
pub refused_alone : (base tried : List Entry) (i : ℕ) (put : Entry) → RefusedAt base tried i put → faults_in tried ≤ 1 → faults_in tried ≡ 1
refused_alone base tried i put refused few =
    let some : 1 ≤ faults_in tried = some_refused tried i refused.refused refused.there (refusal_faults refused.refused put refused.twin) in
    omega (arith, some, few)

-- a device that counts one fault at most refused one put at most
pub once_few : (before after : Bool) (n : ℕ)
    → ((if after then 1 else 0) < 2 ^ 64 - 1 → (if after then 1 else 0) ≡ (if before then 1 else 0) + n) → n ≤ 1
once_few before true n counts = let all : 1 ≡ (if before then 1 else 0) + n = counts (omega arith) in omega (arith, all)
once_few before false n counts = let all : 0 ≡ (if before then 1 else 0) + n = counts (omega arith) in omega (arith, all)

-- what such a device counts where it refuses for the first time
pub counts_once : (before after : Bool) → before ≡ false → after ≡ true
    → CountsFault true (if before then 1 else 0) (if after then 1 else 0)
counts_once before after was is =
    subst₂ (λ b a. CountsFault true (if b then 1 else 0) (if a then 1 else 0)) (sym was) (sym is) refl

-- and where it doesn't
pub counts_not : (before after : Bool) → after ≡ before → CountsFault false (if before then 1 else 0) (if after then 1 else 0)
counts_not before after same = ap (λ b. if b then 1 else 0) same

-- one that counts none refused none
pub none_refused : (n : ℕ) → (0 < 2 ^ 64 - 1 → 0 ≡ 0 + n) → n ≡ 0
none_refused n counts = let all : 0 ≡ 0 + n = counts (omega arith) in omega (arith, all)
