-- What tokens tell of the fields of an entry.
use Rattle.std.proofs.Common.{◌≡◌, ℕ, pos, ◌<◌, ◌==◌, cond, List, [], ◌∷◌, ◌++◌, codes, Option, Some, None, refl, sym, ap, ◌∙◌, subst, arith, suc, zero}
use Rattle.cover_table.specs.Cover.{CoverOrder}
use Rattle.caa_base.specs.Written.Lines.{spaced}
use Rattle.caa_base.specs.Written.Marks.{verdict_mark, verdict_of_mark, outcome_mark, outcome_of_mark}
use Rattle.caa_base.specs.declared.written.entry.Entry.{Entry}
use Rattle.caa_base.specs.declared.written.entry.Kind.{Kind}
use Rattle.caa_base.specs.declared.written.entry.Kind.TheVariants as kind
use Rattle.caa_base.specs.declared.written.entry.Verdict.{Verdict}
use Rattle.caa_base.specs.declared.written.entry.Verdict.TheVariants as verdict
use Rattle.caa_base.specs.declared.written.entry.Outcome.{Outcome}
use Rattle.caa_base.specs.declared.written.entry.Outcome.TheVariants as outcome
use Rattle.place_plan.specs.Plans.PlanValue.{Plan}
use Rattle.place_plan.specs.Plans.Places.{action_at, parent, graph_at, exception_name, internal_of, interface_of}
use Rattle.place_plan.specs.RulesOfJournals.Rules.{IsPlain}
use Rattle.place_plan.specs.RulesOfJournals.Roles.{verdict_at}
use Rattle.place_plan.specs.RulesOfJournals.Whereabouts.{outcome_at}
use Rattle.place_plan.specs.RulesOfJournals.WellFormed.{FieldsFit, ShowsException, MayShowException, MayCarry}
use Rattle.journal_text.specs.Texts.Text.{verdict_words, outcome_words, marked_name, carried_name, name_words, field_words}
use Rattle.journal_text.specs.inner.Tokens.{IsOf, VerdictFits, OutcomeFits, LineRead}
use Rattle.journal_text.proofs.OnTexts.TokenLemmas.{line-as}

-- ---- an exception that may be named, at mark 1

-- an entry that names none says nothing
pub unnamed : (plan : Plan) (g : ℕ) (e : Entry) → e.mark ≡ 0 → name_words (marked_name plan g e) ≡ []
unnamed plan g e none = ap (λ m. name_words (cond (m == 1) (Some (exception_name plan g e.arg)) None)) none

pub unnamed-fits : (order : CoverOrder) (e : Entry) → IsPlain e → MayShowException order 1 2 e
unnamed-fits order e plain = record {
  mark = omega (arith, plain.mark);
  named = λ one. absurd (omega (arith, one, plain.mark));
  bare = λ _. plain.arg;
  value = plain.value;
}

-- neither the end of the line nor a name stands there
pub named-lacks : (plan : Plan) (g : ℕ) (text : List ℕ) → ((more : List ℕ) → text ≡ 10 ∷ more → ⊥)
    → ((x : ℕ) (more : List ℕ) → x < (graph_at plan g).count → text ≡ spaced (exception_name plan g x ∷ []) ++ 10 ∷ more → ⊥)
    → (e : Entry) (m : ℕ) (more : List ℕ) → MayShowException (graph_at plan g) 1 2 e → e.mark ≡ m
    → text ≡ spaced (name_words (cond (m == 1) (Some (exception_name plan g e.arg)) None)) ++ 10 ∷ more → ⊥
named-lacks plan g text end name e zero more fits is same = end more same
named-lacks plan g text end name e (suc zero) more fits is same = name e.arg more (fits.named is) same
named-lacks plan g text end name e (suc (suc m)) more fits is same = omega (arith, fits.mark, is)

-- ---- verdicts

-- the words of no verdict stand there
pub verdict-lacks : (plan : Plan) (p : ℕ) (text : List ℕ) → ((more : List ℕ) → text ≡ codes " done" ++ 10 ∷ more → ⊥)
    → ((more : List ℕ) → text ≡ codes " undo" ++ 10 ∷ more → ⊥)
    → ((x : ℕ) (more : List ℕ) → x < (interface_of plan p).count
    → text ≡ codes " signal" ++ (spaced (exception_name plan (action_at plan p).interface x ∷ []) ++ 10 ∷ more) → ⊥)
    → (v : Verdict) (more : List ℕ) → VerdictFits (interface_of plan p).count v → text ≡ spaced (verdict_words plan p v) ++ 10 ∷ more → ⊥
verdict-lacks plan p text done undo signal verdict.Done more fits same = done more same
verdict-lacks plan p text done undo signal verdict.Undo more fits same = undo more same
verdict-lacks plan p text done undo signal (verdict.Signal x) more fits same = signal x more fits same

-- an entry with the mark of a verdict, and the exception beside it
pub verdict-shown : (order : CoverOrder) (v : Verdict) (e : Entry) → VerdictFits order.count v → verdict_mark v ≡ (e.mark, e.arg)
    → e.value ≡ pos 0 → MayShowException order 1 3 e × (verdict_at e ≡ v)
verdict-shown order verdict.Done e fits is value =
    let mark : e.mark ≡ 0 = sym (ap (λ p. p.0) is) in
    let arg : e.arg ≡ 0 = sym (ap (λ p. p.1) is) in (
      record { mark = omega (arith, mark); named = λ one. absurd (omega (arith, one, mark)); bare = λ _. arg; value = value },
      ap (λ m. verdict_of_mark m e.arg) mark,
    )
verdict-shown order (verdict.Signal x) e fits is value =
    let mark : e.mark ≡ 1 = sym (ap (λ p. p.0) is) in
    let arg : e.arg ≡ x = sym (ap (λ p. p.1) is) in (
      record {
        mark = omega (arith, mark);
        named = λ _. omega (arith, arg, fits);
        bare = λ other. absurd (other mark);
        value = value;
      },
      ap (λ m. verdict_of_mark m e.arg) mark ∙ ap (λ y. verdict.Signal y) arg,
    )
verdict-shown order verdict.Undo e fits is value =
    let mark : e.mark ≡ 2 = sym (ap (λ p. p.0) is) in
    let arg : e.arg ≡ 0 = sym (ap (λ p. p.1) is) in (
      record { mark = omega (arith, mark); named = λ one. absurd (omega (arith, one, mark)); bare = λ _. arg; value = value },
      ap (λ m. verdict_of_mark m e.arg) mark,
    )

-- ---- outcomes

-- the words of no outcome stand there
pub outcome-lacks : (plan : Plan) (p : ℕ) (text : List ℕ) → ((more : List ℕ) → text ≡ codes " commit" ++ 10 ∷ more → ⊥)
    → ((more : List ℕ) → text ≡ codes " undone" ++ 10 ∷ more → ⊥) → ((more : List ℕ) → text ≡ codes " aborted" ++ 10 ∷ more → ⊥)
    → ((more : List ℕ) → text ≡ codes " failed" ++ 10 ∷ more → ⊥)
    → ((x : ℕ) (more : List ℕ) → x < (interface_of plan p).count
    → text ≡ codes " signal" ++ (spaced (exception_name plan (action_at plan p).interface x ∷ []) ++ 10 ∷ more) → ⊥)
    → (o : Outcome) (more : List ℕ) → OutcomeFits (interface_of plan p).count o → text ≡ spaced (outcome_words plan p o) ++ 10 ∷ more → ⊥
outcome-lacks plan p text commit undone aborted failed signal outcome.Commit more fits same = commit more same
outcome-lacks plan p text commit undone aborted failed signal outcome.Undone more fits same = undone more same
outcome-lacks plan p text commit undone aborted failed signal outcome.Aborted more fits same = aborted more same
outcome-lacks plan p text commit undone aborted failed signal outcome.Failed more fits same = failed more same
outcome-lacks plan p text commit undone aborted failed signal (outcome.Signal x) more fits same = signal x more fits same

bare-shown : (order : CoverOrder) (e : Entry) (m : ℕ) → m < 5 → (m ≡ 1 → ⊥) → e.mark ≡ m → e.arg ≡ 0 → e.value ≡ pos 0
    → MayShowException order 1 5 e
bare-shown order e m small other is arg value =
    record { mark = omega (arith, small, is); named = λ one. absurd (other (sym is ∙ one)); bare = λ _. arg; value = value }

pub outcome-shown : (order : CoverOrder) (o : Outcome) (e : Entry) → OutcomeFits order.count o → outcome_mark o ≡ (e.mark, e.arg)
    → e.value ≡ pos 0 → MayShowException order 1 5 e × (outcome_at e ≡ o)
outcome-shown order outcome.Commit e fits is value =
    let mark : e.mark ≡ 0 = sym (ap (λ p. p.0) is) in (
      bare-shown order e 0 (omega arith) (λ one. omega arith) mark (sym (ap (λ p. p.1) is)) value,
      ap (λ m. outcome_of_mark m e.arg) mark,
    )
outcome-shown order (outcome.Signal x) e fits is value =
    let mark : e.mark ≡ 1 = sym (ap (λ p. p.0) is) in
    let arg : e.arg ≡ x = sym (ap (λ p. p.1) is) in (
      record {
        mark = omega (arith, mark);
        named = λ _. omega (arith, arg, fits);
        bare = λ other. absurd (other mark);
        value = value;
      },
      ap (λ m. outcome_of_mark m e.arg) mark ∙ ap (λ y. outcome.Signal y) arg,
    )
outcome-shown order outcome.Undone e fits is value =
    let mark : e.mark ≡ 2 = sym (ap (λ p. p.0) is) in (
      bare-shown order e 2 (omega arith) (λ one. omega arith) mark (sym (ap (λ p. p.1) is)) value,
      ap (λ m. outcome_of_mark m e.arg) mark,
    )
outcome-shown order outcome.Aborted e fits is value =
    let mark : e.mark ≡ 3 = sym (ap (λ p. p.0) is) in (
      bare-shown order e 3 (omega arith) (λ one. omega arith) mark (sym (ap (λ p. p.1) is)) value,
      ap (λ m. outcome_of_mark m e.arg) mark,
    )
outcome-shown order outcome.Failed e fits is value =
    let mark : e.mark ≡ 4 = sym (ap (λ p. p.0) is) in (
      bare-shown order e 4 (omega arith) (λ one. omega arith) mark (sym (ap (λ p. p.1) is)) value,
      ap (λ m. outcome_of_mark m e.arg) mark,
    )

-- ---- by the kind of the entry

-- the entry that the rest of a line makes of the maker, where that says what an entry of this kind says
abbrev pub RestRead : {R : Type 0} → (R → List ℕ) → Plan → Entry → Kind → List ℕ → Option (Entry × R) → Type 0
RestRead now plan maker k text read =
    LineRead now (λ e. IsOf maker e × FieldsFit k plan e) (λ e. field_words k plan e) text read

module _ {R : Type 0} (now : R → List ℕ) (plan : Plan) (maker : Entry) (text : List ℕ) (read : Option (Entry × R)) where
  -- the kind is the maker's
  pub of-kind : (k : Kind) → maker.kind ≡ k → RestRead now plan maker k text read → RestRead now plan maker maker.kind text read
  of-kind k is h = subst (λ j. RestRead now plan maker j text read) (sym is) h

  -- what is said of the maker's place is said of the entry's
  at-place : (k : Kind) (Fits : ℕ → Entry → Type 0) (words : ℕ → Entry → List (List ℕ))
      → ((e : Entry) → Fits e.place e → FieldsFit k plan e) → ((e : Entry) → FieldsFit k plan e → Fits e.place e)
      → ((e : Entry) → words e.place e ≡ field_words k plan e)
      → LineRead now (λ e. IsOf maker e × Fits maker.place e) (λ e. words maker.place e) text read → RestRead now plan maker k text read
  at-place k Fits words to back same h =
      line-as now (λ e. IsOf maker e × Fits maker.place e) (λ e. IsOf maker e × FieldsFit k plan e) (λ e. words maker.place e)
      (λ e. field_words k plan e) text read
      (λ e f. (f.0, to e (subst (λ p. Fits p e) (sym f.0.place) f.1)))
      (λ e f. (f.0, subst (λ p. Fits p e) f.0.place (back e f.1)))
      (λ e f. ap (λ p. words p e) (sym f.0.place) ∙ same e) h

  -- an exception that is raised in the place
  module _ (g : ℕ) (is : g ≡ (action_at plan maker.place).internal)
      (h : LineRead now (λ e. IsOf maker e × ShowsException (graph_at plan g) e) (λ e. exception_name plan g e.arg ∷ []) text read) where
    raised : LineRead now (λ e. IsOf maker e × ShowsException (internal_of plan maker.place) e)
        (λ e. exception_name plan (action_at plan maker.place).internal e.arg ∷ []) text read
    raised =
        subst (λ i. LineRead now (λ e. IsOf maker e × ShowsException (graph_at plan i) e) (λ e. exception_name plan i e.arg ∷ []) text read)
        is h

    pub of-raise : RestRead now plan maker kind.Raise text read
    of-raise =
        at-place kind.Raise (λ p e. ShowsException (internal_of plan p) e)
        (λ p e. exception_name plan (action_at plan p).internal e.arg ∷ []) (λ e f. f) (λ e f. f) (λ e. refl) raised

    pub of-resolve : RestRead now plan maker kind.Resolve text read
    of-resolve =
        at-place kind.Resolve (λ p e. ShowsException (internal_of plan p) e)
        (λ p e. exception_name plan (action_at plan p).internal e.arg ∷ []) (λ e f. f) (λ e f. f) (λ e. refl) raised

    pub of-handle : RestRead now plan maker kind.Handle text read
    of-handle =
        at-place kind.Handle (λ p e. ShowsException (internal_of plan p) e)
        (λ p e. exception_name plan (action_at plan p).internal e.arg ∷ []) (λ e f. f) (λ e f. f) (λ e. refl) raised

  pub of-verdict : LineRead now (λ e. IsOf maker e × MayShowException (interface_of plan maker.place) 1 3 e)
      (λ e. verdict_words plan maker.place (verdict_at e)) text read → RestRead now plan maker kind.Verdict text read
  of-verdict h =
      at-place kind.Verdict (λ p e. MayShowException (interface_of plan p) 1 3 e) (λ p e. verdict_words plan p (verdict_at e))
      (λ e f. f) (λ e f. f) (λ e. refl) h

  pub of-end : LineRead now (λ e. IsOf maker e × MayShowException (interface_of plan maker.place) 1 5 e)
      (λ e. outcome_words plan maker.place (outcome_at e)) text read → RestRead now plan maker kind.End text read
  of-end h =
      at-place kind.End (λ p e. MayShowException (interface_of plan p) 1 5 e) (λ p e. outcome_words plan p (outcome_at e))
      (λ e f. f) (λ e f. f) (λ e. refl) h

  pub of-abort : (g : ℕ) → g ≡ (action_at plan maker.place).interface
      → LineRead now (λ e. IsOf maker e × MayShowException (graph_at plan g) 1 2 e) (λ e. name_words (marked_name plan g e)) text read
      → RestRead now plan maker kind.Abort text read
  of-abort g is h =
      at-place kind.Abort (λ p e. MayShowException (interface_of plan p) 1 2 e)
      (λ p e. name_words (marked_name plan (action_at plan p).interface e)) (λ e f. f) (λ e f. f) (λ e. refl)
      (subst (λ i. LineRead now (λ e. IsOf maker e × MayShowException (graph_at plan i) 1 2 e)
      (λ e. name_words (marked_name plan i e)) text read) is h)

  pub of-leave : LineRead now (λ e. IsOf maker e × MayCarry plan (parent plan maker.place) e)
      (λ e. name_words (carried_name plan (parent plan maker.place) e)) text read
      → RestRead now plan maker kind.Leave text read
  of-leave h =
      at-place kind.Leave (λ p e. MayCarry plan (parent plan p) e) (λ p e. name_words (carried_name plan (parent plan p) e))
      (λ e f. f) (λ e f. f) (λ e. refl) h
