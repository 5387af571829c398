-- The line of an entry: that it tells the entry, and that it is one whole line.
use Rattle.std.proofs.Common.{◌≡◌, ℕ, ℤ, pos, negsuc, ◌<◌, ◌^◌, ◌==◌, Bool, true, false, cond, not, List, [], ◌∷◌, ◌++◌, length, bytes_eq, codes, decimal, Option, Some, None, refl, sym, ap, ◌∙◌, subst, arith, suc, zero}
use Rattle.std.specs.List.{list_all, find}
use Rattle.std.specs.Fmt.{signed_decimal}
use Rattle.std.proofs.lemmas.Bool.{and_from, and_parts, or_parts, not-true, not_from_false, false≢true}
use Rattle.std.proofs.lemmas.Slice.Eq.{bytes_eq-Decides}
use Rattle.std.proofs.lemmas.Fmt.{decimal_injective, signed_decimal_injective}
use Rattle.std.proofs.lemmas.Int.{ints}
use Rattle.cover_table.specs.Cover.{CoverOrder}
use Rattle.caa_base.specs.Written.Lines.{spaced, line}
use Rattle.caa_base.specs.declared.written.entry.Entry.{Entry}
use Rattle.caa_base.specs.declared.written.entry.Kind.{Kind}
use Rattle.caa_base.specs.declared.written.entry.Kind.TheVariants as kind
use Rattle.caa_base.specs.declared.written.entry.Verdict.{Verdict}
use Rattle.caa_base.specs.declared.written.entry.Verdict.TheVariants as verdict
use Rattle.caa_base.specs.declared.written.entry.Outcome.{Outcome}
use Rattle.caa_base.specs.declared.written.entry.Outcome.TheVariants as outcome
use Rattle.place_plan.specs.Plans.PlanValue.{Plan}
use Rattle.place_plan.specs.Plans.Places.{action_at, parent, graph_at, exception_name, internal_of, interface_of}
use Rattle.place_plan.specs.RulesOfJournals.Rules.{IsPlain}
use Rattle.place_plan.specs.RulesOfJournals.Roles.{verdict_at}
use Rattle.place_plan.specs.RulesOfJournals.Whereabouts.{outcome_at}
use Rattle.place_plan.specs.RulesOfJournals.WellFormed.{FieldsFit, IsWellFormed, ShowsException, MayShowException, MayCarry}
use Rattle.caa_base.specs.Written.Limits.{IsValue}
use Rattle.caa_base.specs.Written.Marks.{verdict_mark, verdict_of_mark, outcome_mark, outcome_of_mark}
use Rattle.journal_text.specs.Texts.Naming.{index_among, is_well_named}
use Rattle.journal_text.specs.Texts.Text.{participant_name, object_name, watched_object, seen_line, kind_word, object_words, restore_word, verdict_words, outcome_words, marked_name, carried_name, name_words, field_words, entry_line}
use Rattle.journal_text.specs.inner.Tokens.{is_gap, is_whole, VerdictFits, OutcomeFits}
use Rattle.journal_text.proofs.OnTexts.WordLemmas.{word-told, begins-line, line-words, words-told, whole-decimal, whole-signed}
use Rattle.journal_text.proofs.OnTexts.NamingLemmas.{Named, participants-named, objects-named, exceptions-named, watches-named}
use Rattle.journal_text.specs.declared.looks.seens.Seen.{Seen}
use Rattle.journal_text.specs.Watching.Looks.{IsOfPlan}

-- ---- kinds

abbrev kinds : List Kind
kinds =
    kind.Arrive ∷ kind.Withdraw ∷ kind.Start ∷ kind.Read ∷ kind.Work ∷ kind.Write ∷ kind.Check ∷ kind.PutFault ∷ kind.Raise
    ∷ kind.Inform ∷ kind.Resolve ∷ kind.Handle ∷ kind.Verdict ∷ kind.Abort ∷ kind.Undo ∷ kind.Restore ∷ kind.End ∷ kind.Leave ∷ []

-- the kind with this word
abbrev pub kind_in : List ℕ → Option Kind
kind_in word = find (λ k. bytes_eq (kind_word k) word) kinds

kind-read : (k : Kind) → kind_in (kind_word k) ≡ Some k
kind-read kind.Arrive = refl
kind-read kind.Withdraw = refl
kind-read kind.Start = refl
kind-read kind.Read = refl
kind-read kind.Work = refl
kind-read kind.Write = refl
kind-read kind.Check = refl
kind-read kind.PutFault = refl
kind-read kind.Raise = refl
kind-read kind.Inform = refl
kind-read kind.Resolve = refl
kind-read kind.Handle = refl
kind-read kind.Verdict = refl
kind-read kind.Abort = refl
kind-read kind.Undo = refl
kind-read kind.Restore = refl
kind-read kind.End = refl
kind-read kind.Leave = refl

pub kind-told : (k j : Kind) → kind_word k ≡ kind_word j → k ≡ j
kind-told k j e =
    let same : Some k ≡ Some j = sym (kind-read k) ∙ ap kind_in e ∙ kind-read j in
    cc

-- the word of no kind
pub not_kind : (k : Kind) (word : List ℕ) → kind_in word ≡ None → kind_word k ≡ word → ⊥
not_kind k word none e =
    let same : Some k ≡ None = sym (kind-read k) ∙ ap kind_in e ∙ none in
    cc

pub kind-whole : (k : Kind) → is_whole (kind_word k) ≡ true
kind-whole kind.Arrive = refl
kind-whole kind.Withdraw = refl
kind-whole kind.Start = refl
kind-whole kind.Read = refl
kind-whole kind.Work = refl
kind-whole kind.Write = refl
kind-whole kind.Check = refl
kind-whole kind.PutFault = refl
kind-whole kind.Raise = refl
kind-whole kind.Inform = refl
kind-whole kind.Resolve = refl
kind-whole kind.Handle = refl
kind-whole kind.Verdict = refl
kind-whole kind.Abort = refl
kind-whole kind.Undo = refl
kind-whole kind.Restore = refl
kind-whole kind.End = refl
kind-whole kind.Leave = refl

-- ---- names and values

pub name-told : (name_of : ℕ → List ℕ) (n i j : ℕ) → Named name_of n → i < n → j < n → name_of i ≡ name_of j → i ≡ j
name-told name_of n i j h l m e = sym (h.own i l) ∙ ap (λ word. index_among name_of word 0 n) e ∙ h.own j m

pub value-told : (v w : ℤ) → IsValue v → IsValue w → signed_decimal v ≡ signed_decimal w → v ≡ w
value-told (pos m) (pos n) h k e = signed_decimal_injective (pos m) (pos n) (omega (arith, ints, h.1)) (omega (arith, ints, k.1)) e
value-told (pos m) (negsuc n) h k e = signed_decimal_injective (pos m) (negsuc n) (omega (arith, ints, h.1)) (omega (arith, ints, k.0)) e
value-told (negsuc m) (pos n) h k e = signed_decimal_injective (negsuc m) (pos n) (omega (arith, ints, h.0)) (omega (arith, ints, k.1)) e
value-told (negsuc m) (negsuc n) h k e = signed_decimal_injective (negsuc m) (negsuc n) (omega (arith, ints, h.0)) (omega (arith, ints, k.0)) e

-- ---- verdicts and outcomes

signals-told : (plan : Plan) (g x y : ℕ) → is_well_named plan ≡ true → x < (graph_at plan g).count → y < (graph_at plan g).count
    → exception_name plan g x ≡ exception_name plan g y → x ≡ y
signals-told plan g x y h l m e = name-told (exception_name plan g) (graph_at plan g).count x y (exceptions-named plan g h) l m e

-- other words come first
apart : (word other : List ℕ) (words others : List (List ℕ)) → bytes_eq word other ≡ false → word ∷ words ≡ other ∷ others → ⊥
apart word other words others differ e =
    let same : word ≡ other = cc in
    false≢true (sym differ ∙ (bytes_eq-Decides word other).1 same)

verdicts-told : (plan : Plan) (p : ℕ) (v w : Verdict) → is_well_named plan ≡ true → VerdictFits (interface_of plan p).count v
    → VerdictFits (interface_of plan p).count w → verdict_words plan p v ≡ verdict_words plan p w → v ≡ w
verdicts-told plan p verdict.Done verdict.Done h f k e = refl
verdicts-told plan p verdict.Done (verdict.Signal y) h f k e = absurd (apart (codes "done") (codes "signal") _ _ refl e)
verdicts-told plan p verdict.Done verdict.Undo h f k e = absurd (apart (codes "done") (codes "undo") _ _ refl e)
verdicts-told plan p (verdict.Signal x) verdict.Done h f k e = absurd (apart (codes "signal") (codes "done") _ _ refl e)
verdicts-told plan p (verdict.Signal x) (verdict.Signal y) h f k e =
    let g = (action_at plan p).interface in
    let names : exception_name plan g x ≡ exception_name plan g y = cc in
    ap (λ z. verdict.Signal z) (signals-told plan g x y h f k names)
verdicts-told plan p (verdict.Signal x) verdict.Undo h f k e = absurd (apart (codes "signal") (codes "undo") _ _ refl e)
verdicts-told plan p verdict.Undo verdict.Done h f k e = absurd (apart (codes "undo") (codes "done") _ _ refl e)
verdicts-told plan p verdict.Undo (verdict.Signal y) h f k e = absurd (apart (codes "undo") (codes "signal") _ _ refl e)
verdicts-told plan p verdict.Undo verdict.Undo h f k e = refl

outcomes-told : (plan : Plan) (p : ℕ) (o q : Outcome) → is_well_named plan ≡ true → OutcomeFits (interface_of plan p).count o
    → OutcomeFits (interface_of plan p).count q → outcome_words plan p o ≡ outcome_words plan p q → o ≡ q
outcomes-told plan p outcome.Commit outcome.Commit h f k e = refl
outcomes-told plan p outcome.Commit (outcome.Signal y) h f k e = absurd (apart (codes "commit") (codes "signal") _ _ refl e)
outcomes-told plan p outcome.Commit outcome.Undone h f k e = absurd (apart (codes "commit") (codes "undone") _ _ refl e)
outcomes-told plan p outcome.Commit outcome.Aborted h f k e = absurd (apart (codes "commit") (codes "aborted") _ _ refl e)
outcomes-told plan p outcome.Commit outcome.Failed h f k e = absurd (apart (codes "commit") (codes "failed") _ _ refl e)
outcomes-told plan p (outcome.Signal x) outcome.Commit h f k e = absurd (apart (codes "signal") (codes "commit") _ _ refl e)
outcomes-told plan p (outcome.Signal x) (outcome.Signal y) h f k e =
    let g = (action_at plan p).interface in
    let names : exception_name plan g x ≡ exception_name plan g y = cc in
    ap (λ z. outcome.Signal z) (signals-told plan g x y h f k names)
outcomes-told plan p (outcome.Signal x) outcome.Undone h f k e = absurd (apart (codes "signal") (codes "undone") _ _ refl e)
outcomes-told plan p (outcome.Signal x) outcome.Aborted h f k e = absurd (apart (codes "signal") (codes "aborted") _ _ refl e)
outcomes-told plan p (outcome.Signal x) outcome.Failed h f k e = absurd (apart (codes "signal") (codes "failed") _ _ refl e)
outcomes-told plan p outcome.Undone outcome.Commit h f k e = absurd (apart (codes "undone") (codes "commit") _ _ refl e)
outcomes-told plan p outcome.Undone (outcome.Signal y) h f k e = absurd (apart (codes "undone") (codes "signal") _ _ refl e)
outcomes-told plan p outcome.Undone outcome.Undone h f k e = refl
outcomes-told plan p outcome.Undone outcome.Aborted h f k e = absurd (apart (codes "undone") (codes "aborted") _ _ refl e)
outcomes-told plan p outcome.Undone outcome.Failed h f k e = absurd (apart (codes "undone") (codes "failed") _ _ refl e)
outcomes-told plan p outcome.Aborted outcome.Commit h f k e = absurd (apart (codes "aborted") (codes "commit") _ _ refl e)
outcomes-told plan p outcome.Aborted (outcome.Signal y) h f k e = absurd (apart (codes "aborted") (codes "signal") _ _ refl e)
outcomes-told plan p outcome.Aborted outcome.Undone h f k e = absurd (apart (codes "aborted") (codes "undone") _ _ refl e)
outcomes-told plan p outcome.Aborted outcome.Aborted h f k e = refl
outcomes-told plan p outcome.Aborted outcome.Failed h f k e = absurd (apart (codes "aborted") (codes "failed") _ _ refl e)
outcomes-told plan p outcome.Failed outcome.Commit h f k e = absurd (apart (codes "failed") (codes "commit") _ _ refl e)
outcomes-told plan p outcome.Failed (outcome.Signal y) h f k e = absurd (apart (codes "failed") (codes "signal") _ _ refl e)
outcomes-told plan p outcome.Failed outcome.Undone h f k e = absurd (apart (codes "failed") (codes "undone") _ _ refl e)
outcomes-told plan p outcome.Failed outcome.Aborted h f k e = absurd (apart (codes "failed") (codes "aborted") _ _ refl e)
outcomes-told plan p outcome.Failed outcome.Failed h f k e = refl

-- a verdict that is kept as a mark, with the exception beside it
pub verdict-kept : (order : CoverOrder) (e : Entry) (m : ℕ) → MayShowException order 1 3 e → e.mark ≡ m
    → VerdictFits order.count (verdict_of_mark m e.arg) × (verdict_mark (verdict_of_mark m e.arg) ≡ (m, e.arg))
verdict-kept order e zero h same = (tt, ap (λ x. (0, x)) (sym (h.bare (λ one. omega (arith, one, same)))))
verdict-kept order e (suc zero) h same = (h.named same, refl)
verdict-kept order e (suc (suc zero)) h same = (tt, ap (λ x. (2, x)) (sym (h.bare (λ one. omega (arith, one, same)))))
verdict-kept order e (suc (suc (suc m))) h same = absurd (omega (arith, h.mark, same))

-- an outcome that is kept so
pub outcome-kept : (order : CoverOrder) (e : Entry) (m : ℕ) → MayShowException order 1 5 e → e.mark ≡ m
    → OutcomeFits order.count (outcome_of_mark m e.arg) × (outcome_mark (outcome_of_mark m e.arg) ≡ (m, e.arg))
outcome-kept order e zero h same = (tt, ap (λ x. (0, x)) (sym (h.bare (λ one. omega (arith, one, same)))))
outcome-kept order e (suc zero) h same = (h.named same, refl)
outcome-kept order e (suc (suc zero)) h same = (tt, ap (λ x. (2, x)) (sym (h.bare (λ one. omega (arith, one, same)))))
outcome-kept order e (suc (suc (suc zero))) h same = (tt, ap (λ x. (3, x)) (sym (h.bare (λ one. omega (arith, one, same)))))
outcome-kept order e (suc (suc (suc (suc zero)))) h same = (tt, ap (λ x. (4, x)) (sym (h.bare (λ one. omega (arith, one, same)))))
outcome-kept order e (suc (suc (suc (suc (suc m))))) h same = absurd (omega (arith, h.mark, same))

-- ---- fields

-- the fields of two entries beside kind, place and maker
pub record SameFields (e j : Entry) : Type 0 where
  pub arg : e.arg ≡ j.arg
  pub mark : e.mark ≡ j.mark
  pub value : e.value ≡ j.value

plain-told : (e j : Entry) → IsPlain e → IsPlain j → SameFields e j
plain-told e j h k = record { arg = h.arg ∙ sym k.arg; mark = h.mark ∙ sym k.mark; value = h.value ∙ sym k.value }

objects-told : (plan : Plan) (e j : Entry) (more others : List (List ℕ)) → is_well_named plan ≡ true
    → e.arg < length plan.objects → j.arg < length plan.objects → IsValue e.value → IsValue j.value
    → object_words plan e.arg e.value ++ more ≡ object_words plan j.arg j.value ++ others → (e.arg ≡ j.arg) × (e.value ≡ j.value) × (more ≡ others)
objects-told plan e j more others h l m v w same =
    let names : object_name plan e.arg ≡ object_name plan j.arg = cc in
    let values : signed_decimal e.value ≡ signed_decimal j.value = cc in (
      name-told (object_name plan) (length plan.objects) e.arg j.arg (objects-named plan h) l m names,
      value-told e.value j.value v w values,
      cc,
    )

object-told : (plan : Plan) (e j : Entry) → is_well_named plan ≡ true → FieldsFit kind.Read plan e → FieldsFit kind.Read plan j
    → object_words plan e.arg e.value ≡ object_words plan j.arg j.value → SameFields e j
object-told plan e j h f k same =
    let two = objects-told plan e j [] [] h f.0.arg k.0.arg f.0.value k.0.value (ap (λ ws. ws ++ []) same) in
    record { arg = two.0; mark = f.1 ∙ sym k.1; value = two.1 }

marks-told : (m n : ℕ) → m < 2 → n < 2 → restore_word m ≡ restore_word n → m ≡ n
marks-told zero zero l k e = refl
marks-told zero (suc zero) l k e = cc
marks-told (suc zero) zero l k e = cc
marks-told (suc zero) (suc zero) l k e = refl
marks-told (suc (suc m)) n l k e = absurd (omega arith)
marks-told m (suc (suc n)) l k e = absurd (omega arith)

restore-told : (plan : Plan) (e j : Entry) → is_well_named plan ≡ true → FieldsFit kind.Restore plan e → FieldsFit kind.Restore plan j
    → field_words kind.Restore plan e ≡ field_words kind.Restore plan j → SameFields e j
restore-told plan e j h f k same =
    let all = objects-told plan e j (restore_word e.mark ∷ []) (restore_word j.mark ∷ []) h f.0.arg k.0.arg f.0.value k.0.value same in
    let rest : restore_word e.mark ∷ [] ≡ restore_word j.mark ∷ [] = all.2 in
    let word : restore_word e.mark ≡ restore_word j.mark = cc in
    record { arg = all.0; mark = marks-told e.mark j.mark f.1 k.1 word; value = all.1 }

work-told : (plan : Plan) (e j : Entry) → FieldsFit kind.Work plan e → FieldsFit kind.Work plan j
    → field_words kind.Work plan e ≡ field_words kind.Work plan j → SameFields e j
work-told plan e j f k same =
    let rounds : decimal e.arg ≡ decimal j.arg = cc in
    let values : signed_decimal e.value ≡ signed_decimal j.value = cc in
    record {
      arg = decimal_injective e.arg j.arg (omega (arith, f.0)) (omega (arith, k.0)) rounds;
      mark = f.1 ∙ sym k.1;
      value = value-told e.value j.value f.2 k.2 values;
    }

shown-told : (plan : Plan) (g : ℕ) (e j : Entry) → is_well_named plan ≡ true → ShowsException (graph_at plan g) e
    → ShowsException (graph_at plan g) j → exception_name plan g e.arg ∷ [] ≡ exception_name plan g j.arg ∷ [] → SameFields e j
shown-told plan g e j h f k same =
    let names : exception_name plan g e.arg ≡ exception_name plan g j.arg = cc in
    record {
      arg = signals-told plan g e.arg j.arg h f.arg k.arg names;
      mark = f.mark ∙ sym k.mark;
      value = f.value ∙ sym k.value;
    }

-- an exception that may be named, at mark 1
named-told : (plan : Plan) (g : ℕ) (e j : Entry) (m n : ℕ) → is_well_named plan ≡ true → MayShowException (graph_at plan g) 1 2 e
    → MayShowException (graph_at plan g) 1 2 j → e.mark ≡ m → j.mark ≡ n
    → name_words (cond (m == 1) (Some (exception_name plan g e.arg)) None)
    ≡ name_words (cond (n == 1) (Some (exception_name plan g j.arg)) None) → SameFields e j
named-told plan g e j zero zero h f k em jm same = record {
  arg = f.bare (λ one. omega (arith, one, em)) ∙ sym (k.bare (λ one. omega (arith, one, jm)));
  mark = em ∙ sym jm;
  value = f.value ∙ sym k.value;
}
named-told plan g e j zero (suc zero) h f k em jm same = cc
named-told plan g e j (suc zero) zero h f k em jm same = cc
named-told plan g e j (suc zero) (suc zero) h f k em jm same =
    let names : exception_name plan g e.arg ≡ exception_name plan g j.arg = cc in
    record {
      arg = signals-told plan g e.arg j.arg h (f.named em) (k.named jm) names;
      mark = em ∙ sym jm;
      value = f.value ∙ sym k.value;
    }
named-told plan g e j (suc (suc m)) n h f k em jm same = absurd (omega (arith, f.mark, em))
named-told plan g e j m (suc (suc n)) h f k em jm same = absurd (omega (arith, k.mark, jm))

carried-told : (plan : Plan) (outer : Option ℕ) (e j : Entry) → is_well_named plan ≡ true → MayCarry plan outer e
    → MayCarry plan outer j → name_words (carried_name plan outer e) ≡ name_words (carried_name plan outer j) → SameFields e j
carried-told plan None e j h f k same = plain-told e j f k
carried-told plan (Some q) e j h f k same = named-told plan (action_at plan q).internal e j e.mark j.mark h f k refl refl same

-- what is kept as a mark with an exception beside it
kept-told : (e j : Entry) (a b : ℕ × ℕ) → a ≡ (e.mark, e.arg) → b ≡ (j.mark, j.arg) → a ≡ b → e.value ≡ j.value → SameFields e j
kept-told e j a b ea jb same value =
    let both : (e.mark, e.arg) ≡ (j.mark, j.arg) = sym ea ∙ same ∙ jb in
    record { arg = ap (λ p. p.1) both; mark = ap (λ p. p.0) both; value = value }

verdict-told : (plan : Plan) (p : ℕ) (e j : Entry) → is_well_named plan ≡ true → MayShowException (interface_of plan p) 1 3 e
    → MayShowException (interface_of plan p) 1 3 j → verdict_words plan p (verdict_at e) ≡ verdict_words plan p (verdict_at j)
    → SameFields e j
verdict-told plan p e j h f k same =
    let one = verdict-kept (interface_of plan p) e e.mark f refl in
    let two = verdict-kept (interface_of plan p) j j.mark k refl in
    kept-told e j _ _ one.1 two.1 (ap verdict_mark (verdicts-told plan p (verdict_at e) (verdict_at j) h one.0 two.0 same)) (f.value ∙ sym k.value)

outcome-told : (plan : Plan) (p : ℕ) (e j : Entry) → is_well_named plan ≡ true → MayShowException (interface_of plan p) 1 5 e
    → MayShowException (interface_of plan p) 1 5 j → outcome_words plan p (outcome_at e) ≡ outcome_words plan p (outcome_at j)
    → SameFields e j
outcome-told plan p e j h f k same =
    let one = outcome-kept (interface_of plan p) e e.mark f refl in
    let two = outcome-kept (interface_of plan p) j j.mark k refl in
    kept-told e j _ _ one.1 two.1 (ap outcome_mark (outcomes-told plan p (outcome_at e) (outcome_at j) h one.0 two.0 same)) (f.value ∙ sym k.value)

-- the same words at the same place are of the same fields
fields-told : (k : Kind) (plan : Plan) (e j : Entry) → is_well_named plan ≡ true → e.place ≡ j.place → FieldsFit k plan e
    → FieldsFit k plan j → field_words k plan e ≡ field_words k plan j → SameFields e j
fields-told kind.Arrive plan e j h s f k same = plain-told e j f k
fields-told kind.Withdraw plan e j h s f k same = plain-told e j f k
fields-told kind.Start plan e j h s f k same = plain-told e j f k
fields-told kind.Read plan e j h s f k same = object-told plan e j h f k same
fields-told kind.Work plan e j h s f k same = work-told plan e j f k same
fields-told kind.Write plan e j h s f k same = object-told plan e j h f k same
fields-told kind.Check plan e j h s f k same = plain-told e j f k
fields-told kind.PutFault plan e j h s f k same = object-told plan e j h f k same
fields-told kind.Raise plan e j h s f k same =
    shown-told plan (action_at plan e.place).internal e j h f (subst (λ p. ShowsException (internal_of plan p) j) (sym s) k)
    (same ∙ ap (λ p. exception_name plan (action_at plan p).internal j.arg ∷ []) (sym s))
fields-told kind.Inform plan e j h s f k same = plain-told e j f k
fields-told kind.Resolve plan e j h s f k same =
    shown-told plan (action_at plan e.place).internal e j h f (subst (λ p. ShowsException (internal_of plan p) j) (sym s) k)
    (same ∙ ap (λ p. exception_name plan (action_at plan p).internal j.arg ∷ []) (sym s))
fields-told kind.Handle plan e j h s f k same =
    shown-told plan (action_at plan e.place).internal e j h f (subst (λ p. ShowsException (internal_of plan p) j) (sym s) k)
    (same ∙ ap (λ p. exception_name plan (action_at plan p).internal j.arg ∷ []) (sym s))
fields-told kind.Verdict plan e j h s f k same =
    verdict-told plan e.place e j h f (subst (λ p. MayShowException (interface_of plan p) 1 3 j) (sym s) k)
    (same ∙ ap (λ p. verdict_words plan p (verdict_at j)) (sym s))
fields-told kind.Abort plan e j h s f k same =
    named-told plan (action_at plan e.place).interface e j e.mark j.mark h f
    (subst (λ p. MayShowException (interface_of plan p) 1 2 j) (sym s) k) refl refl
    (same ∙ ap (λ p. name_words (marked_name plan (action_at plan p).interface j)) (sym s))
fields-told kind.Undo plan e j h s f k same = plain-told e j f k
fields-told kind.Restore plan e j h s f k same = restore-told plan e j h f k same
fields-told kind.End plan e j h s f k same =
    outcome-told plan e.place e j h f (subst (λ p. MayShowException (interface_of plan p) 1 5 j) (sym s) k)
    (same ∙ ap (λ p. outcome_words plan p (outcome_at j)) (sym s))
fields-told kind.Leave plan e j h s f k same =
    carried-told plan (parent plan e.place) e j h f (subst (λ p. MayCarry plan (parent plan p) j) (sym s) k)
    (same ∙ ap (λ p. name_words (carried_name plan (parent plan p) j)) (sym s))

-- ---- no word of a line breaks

all-one : (a : List ℕ) → is_whole a ≡ true → list_all is_whole (a ∷ []) ≡ true
all-one a h = and_from _ _ h refl

all-two : (a b : List ℕ) → is_whole a ≡ true → is_whole b ≡ true → list_all is_whole (a ∷ b ∷ []) ≡ true
all-two a b h k = and_from _ _ h (all-one b k)

all-three : (a b c : List ℕ) → is_whole a ≡ true → is_whole b ≡ true → is_whole c ≡ true → list_all is_whole (a ∷ b ∷ c ∷ []) ≡ true
all-three a b c h k l = and_from _ _ h (all-two b c k l)

object-whole : (plan : Plan) (o : ℕ) (v : ℤ) → is_well_named plan ≡ true → o < length plan.objects → IsValue v
    → list_all is_whole (object_words plan o v) ≡ true
object-whole plan o v h l fit = all-two (object_name plan o) (signed_decimal v) ((objects-named plan h).whole o l) (whole-signed v fit)

exception-whole : (plan : Plan) (g x : ℕ) → is_well_named plan ≡ true → x < (graph_at plan g).count
    → list_all is_whole (exception_name plan g x ∷ []) ≡ true
exception-whole plan g x h l = all-one (exception_name plan g x) ((exceptions-named plan g h).whole x l)

named-whole : (plan : Plan) (g : ℕ) (e : Entry) (m : ℕ) → is_well_named plan ≡ true
    → MayShowException (graph_at plan g) 1 2 e → e.mark ≡ m
    → list_all is_whole (name_words (cond (m == 1) (Some (exception_name plan g e.arg)) None)) ≡ true
named-whole plan g e zero h fit same = refl
named-whole plan g e (suc zero) h fit same = exception-whole plan g e.arg h (fit.named same)
named-whole plan g e (suc (suc m)) h fit same = absurd (omega (arith, fit.mark, same))

verdict-whole : (plan : Plan) (p : ℕ) (e : Entry) (m : ℕ) → is_well_named plan ≡ true
    → MayShowException (interface_of plan p) 1 3 e → e.mark ≡ m
    → list_all is_whole (verdict_words plan p (verdict_of_mark m e.arg)) ≡ true
verdict-whole plan p e zero h fit same = refl
verdict-whole plan p e (suc zero) h fit same =
    and_from _ _ refl (exception-whole plan (action_at plan p).interface e.arg h (fit.named same))
verdict-whole plan p e (suc (suc zero)) h fit same = refl
verdict-whole plan p e (suc (suc (suc m))) h fit same = absurd (omega (arith, fit.mark, same))

end-whole : (plan : Plan) (p : ℕ) (e : Entry) (m : ℕ) → is_well_named plan ≡ true
    → MayShowException (interface_of plan p) 1 5 e → e.mark ≡ m
    → list_all is_whole (outcome_words plan p (outcome_of_mark m e.arg)) ≡ true
end-whole plan p e zero h fit same = refl
end-whole plan p e (suc zero) h fit same = and_from _ _ refl (exception-whole plan (action_at plan p).interface e.arg h (fit.named same))
end-whole plan p e (suc (suc zero)) h fit same = refl
end-whole plan p e (suc (suc (suc zero))) h fit same = refl
end-whole plan p e (suc (suc (suc (suc zero)))) h fit same = refl
end-whole plan p e (suc (suc (suc (suc (suc m))))) h fit same = absurd (omega (arith, fit.mark, same))

pub restore-whole : (m : ℕ) → m < 2 → is_whole (restore_word m) ≡ true
restore-whole zero h = refl
restore-whole (suc zero) h = refl
restore-whole (suc (suc m)) h = absurd (omega arith)

leave-whole : (plan : Plan) (outer : Option ℕ) (e : Entry) → is_well_named plan ≡ true → MayCarry plan outer e
    → list_all is_whole (name_words (carried_name plan outer e)) ≡ true
leave-whole plan None e h fit = refl
leave-whole plan (Some q) e h fit = named-whole plan (action_at plan q).internal e e.mark h fit refl

fields-whole : (k : Kind) (plan : Plan) (e : Entry) → is_well_named plan ≡ true → FieldsFit k plan e
    → list_all is_whole (field_words k plan e) ≡ true
fields-whole kind.Read plan e h fit = object-whole plan e.arg e.value h fit.0.arg fit.0.value
fields-whole kind.Work plan e h fit =
    all-two (decimal e.arg) (signed_decimal e.value) (whole-decimal e.arg (omega (arith, fit.0)))
    (whole-signed e.value fit.2)
fields-whole kind.Write plan e h fit = object-whole plan e.arg e.value h fit.0.arg fit.0.value
fields-whole kind.PutFault plan e h fit = object-whole plan e.arg e.value h fit.0.arg fit.0.value
fields-whole kind.Raise plan e h fit = exception-whole plan (action_at plan e.place).internal e.arg h fit.arg
fields-whole kind.Resolve plan e h fit = exception-whole plan (action_at plan e.place).internal e.arg h fit.arg
fields-whole kind.Handle plan e h fit = exception-whole plan (action_at plan e.place).internal e.arg h fit.arg
fields-whole kind.Verdict plan e h fit = verdict-whole plan e.place e e.mark h fit refl
fields-whole kind.Abort plan e h fit = named-whole plan (action_at plan e.place).interface e e.mark h fit refl
fields-whole kind.Restore plan e h fit =
    all-three (object_name plan e.arg) (signed_decimal e.value) (restore_word e.mark)
    ((objects-named plan h).whole e.arg fit.0.arg) (whole-signed e.value fit.0.value) (restore-whole e.mark fit.1)
fields-whole kind.End plan e h fit = end-whole plan e.place e e.mark h fit refl
fields-whole kind.Leave plan e h fit = leave-whole plan (parent plan e.place) e h fit
fields-whole kind.Arrive plan e h fit = refl
fields-whole kind.Withdraw plan e h fit = refl
fields-whole kind.Start plan e h fit = refl
fields-whole kind.Check plan e h fit = refl
fields-whole kind.Inform plan e h fit = refl
fields-whole kind.Undo plan e h fit = refl

-- ---- a line tells what it says

entry-words : (plan : Plan) (e : Entry) → is_well_named plan ≡ true → length plan.places < 2 ^ 32 → IsWellFormed plan e
    → list_all is_whole (decimal e.place ∷ participant_name plan e.by ∷ field_words e.kind plan e) ≡ true
entry-words plan e h small fit =
    and_from _ _ (whole-decimal e.place (omega (arith, fit.place, small)))
    (and_from _ _ ((participants-named plan h).whole e.by fit.by) (fields-whole e.kind plan e h fit.fields))

abbrev made : Kind → ℕ → ℕ → ℕ → ℕ → ℤ → Entry
made k p t a m v = record { kind = k; place = p; by = t; arg = a; mark = m; value = v }

made-same : (k l : Kind) (p q s t a b m n : ℕ) (v w : ℤ) → k ≡ l → p ≡ q → s ≡ t → a ≡ b → m ≡ n → v ≡ w
    → made k p s a m v ≡ made l q t b n w
made-same k l p q s t a b m n v w ke pe te ae me ve = rw (ke, pe, te, ae, me, ve) refl

abbrev seen : ℕ → ℕ → ℤ → Seen
seen w n v = record { watch = w; ends = n; value = v }

seen-same : (w x m n : ℕ) (v z : ℤ) → w ≡ x → m ≡ n → v ≡ z → seen w m v ≡ seen x n z
seen-same w x m n v z we ne ve = rw (we, ne, ve) refl

pub entry-told : (plan : Plan) (e j : Entry) (x y : List ℕ) → is_well_named plan ≡ true → length plan.places < 2 ^ 32
    → IsWellFormed plan e → IsWellFormed plan j → entry_line plan e ++ x ≡ entry_line plan j ++ y → e ≡ j
entry-told plan e j x y h small f k same =
    let one = decimal e.place ∷ participant_name plan e.by ∷ field_words e.kind plan e in
    let two = decimal j.place ∷ participant_name plan j.by ∷ field_words j.kind plan j in
    let cut : kind_word e.kind ++ (spaced one ++ 10 ∷ x) ≡ kind_word j.kind ++ (spaced two ++ 10 ∷ y) =
    sym (line-words (kind_word e.kind) one x) ∙ same ∙ line-words (kind_word j.kind) two y in
    let kinds_same = word-told (kind_word e.kind) (kind_word j.kind) (spaced one ++ 10 ∷ x) (spaced two ++ 10 ∷ y) (kind-whole e.kind)
    (kind-whole j.kind) (begins-line one x) (begins-line two y) cut in
    let words : one ≡ two = (words-told one two x y (entry-words plan e h small f) (entry-words plan j h small k) kinds_same.1).0 in
    let kind_is : e.kind ≡ j.kind = kind-told e.kind j.kind kinds_same.0 in
    let places : decimal e.place ≡ decimal j.place = cc in
    let place_is : e.place ≡ j.place =
    decimal_injective e.place j.place (omega (arith, f.place, small)) (omega (arith, k.place, small)) places in
    let names : participant_name plan e.by ≡ participant_name plan j.by = cc in
    let by_is : e.by ≡ j.by =
    name-told (participant_name plan) (length plan.participants) e.by j.by (participants-named plan h) f.by k.by names in
    let fields : field_words e.kind plan e ≡ field_words j.kind plan j = cc in
    let rest =
    fields-told e.kind plan e j h place_is f.fields (subst (λ i. FieldsFit i plan j) (sym kind_is) k.fields)
    (fields ∙ ap (λ i. field_words i plan j) (sym kind_is)) in
    made-same _ _ _ _ _ _ _ _ _ _ _ _ kind_is place_is by_is rest.arg rest.mark rest.value

seen-words : (plan : Plan) (s : Seen) → is_well_named plan ≡ true → IsOfPlan plan s
    → list_all is_whole (object_name plan (watched_object plan s.watch) ∷ decimal s.ends ∷ signed_decimal s.value ∷ []) ≡ true
seen-words plan s h fit =
    all-three (object_name plan (watched_object plan s.watch)) (decimal s.ends) (signed_decimal s.value)
    ((watches-named plan h).whole s.watch fit.watch) (whole-decimal s.ends fit.ends)
    (whole-signed s.value fit.value)

pub seen-told : (plan : Plan) (s m : Seen) (x y : List ℕ) → is_well_named plan ≡ true → IsOfPlan plan s → IsOfPlan plan m
    → seen_line plan s ++ x ≡ seen_line plan m ++ y → s ≡ m
seen-told plan s m x y h f k same =
    let one = object_name plan (watched_object plan s.watch) ∷ decimal s.ends ∷ signed_decimal s.value ∷ [] in
    let two = object_name plan (watched_object plan m.watch) ∷ decimal m.ends ∷ signed_decimal m.value ∷ [] in
    let cut : codes "seen" ++ (spaced one ++ 10 ∷ x) ≡ codes "seen" ++ (spaced two ++ 10 ∷ y) =
    sym (line-words (codes "seen") one x) ∙ same ∙ line-words (codes "seen") two y in
    let rest : spaced one ++ 10 ∷ x ≡ spaced two ++ 10 ∷ y = cc in
    let words : one ≡ two = (words-told one two x y (seen-words plan s h f) (seen-words plan m h k) rest).0 in
    let names : object_name plan (watched_object plan s.watch) ≡ object_name plan (watched_object plan m.watch) = cc in
    let numbers : decimal s.ends ≡ decimal m.ends = cc in
    let values : signed_decimal s.value ≡ signed_decimal m.value = cc in
    let watch : s.watch ≡ m.watch =
    name-told (λ w. object_name plan (watched_object plan w)) (length plan.watches) s.watch m.watch (watches-named plan h) f.watch
    k.watch names in
    let ends : s.ends ≡ m.ends = decimal_injective s.ends m.ends f.ends k.ends numbers in
    seen-same _ _ _ _ _ _ watch ends (value-told s.value m.value f.value k.value values)

-- ---- a line has one line feed, its last byte

abbrev pub is_unbroken : List ℕ → Bool
is_unbroken bytes = list_all (λ b. not (b == 10)) bytes

unbroken-append : (a b : List ℕ) → is_unbroken a ≡ true → is_unbroken b ≡ true → is_unbroken (a ++ b) ≡ true
unbroken-append [] b h k = k
unbroken-append (x ∷ a) b h k = let p = and_parts (not (x == 10)) (is_unbroken a) h in and_from _ _ p.0 (unbroken-append a b p.1 k)

unbroken-whole : (word : List ℕ) → is_whole word ≡ true → is_unbroken word ≡ true
unbroken-whole [] h = refl
unbroken-whole (b ∷ word) h =
    let p = and_parts (not (is_gap b)) (is_whole word) h in
    and_from _ _ (not_from_false _ (or_parts (b == 32) (b == 10) (not-true _ p.0)).1) (unbroken-whole word p.1)

unbroken-spaced : (words : List (List ℕ)) → list_all is_whole words ≡ true → is_unbroken (spaced words) ≡ true
unbroken-spaced [] h = refl
unbroken-spaced (word ∷ words) h =
    let p = and_parts (is_whole word) (list_all is_whole words) h in
    unbroken-append word (spaced words) (unbroken-whole word p.0) (unbroken-spaced words p.1)

-- a text is one whole line
pub record IsLine (text : List ℕ) : Type 0 where
  pub body : List ℕ
  pub unbroken : is_unbroken body ≡ true
  pub same : text ≡ body ++ 10 ∷ []

line-is : (first : List ℕ) (words : List (List ℕ)) → is_whole first ≡ true → list_all is_whole words ≡ true → IsLine (line first words)
line-is first words h k =
    record {
      body = first ++ spaced words;
      unbroken = unbroken-append first (spaced words) (unbroken-whole first h) (unbroken-spaced words k);
      same = refl;
    }

pub entry_line-is : (plan : Plan) (e : Entry) → is_well_named plan ≡ true → length plan.places < 2 ^ 32
    → IsWellFormed plan e → IsLine (entry_line plan e)
entry_line-is plan e h small fit =
    line-is (kind_word e.kind) (decimal e.place ∷ participant_name plan e.by ∷ field_words e.kind plan e) (kind-whole e.kind)
    (entry-words plan e h small fit)

pub seen_line-is : (plan : Plan) (s : Seen) → is_well_named plan ≡ true → IsOfPlan plan s → IsLine (seen_line plan s)
seen_line-is plan s h fit =
    line-is (codes "seen") (object_name plan (watched_object plan s.watch) ∷ decimal s.ends ∷ signed_decimal s.value ∷ []) refl
    (seen-words plan s h fit)
