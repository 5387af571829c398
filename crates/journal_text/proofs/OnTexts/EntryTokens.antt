-- What the tokens of a line tell of the entry.
use Rattle.std.proofs.Common.{◌≡◌, ℕ, ◌<◌, ◌^◌, true, List, ◌∷◌, ◌++◌, length, decimal, Option, Some, None, sym, ap, ◌∙◌, subst, arith}
use Rattle.std.specs.Option.{option_map}
use Rattle.std.proofs.lemmas.Fmt.{decimal_injective}
use Rattle.caa_base.specs.Written.Lines.{spaced}
use Rattle.caa_base.specs.declared.written.entry.Entry.{Entry}
use Rattle.caa_base.specs.declared.written.entry.Kind.{Kind}
use Rattle.place_plan.specs.Plans.PlanValue.{Plan}
use Rattle.place_plan.specs.RulesOfJournals.WellFormed.{FieldsFit, IsWellFormed}
use Rattle.journal_text.specs.Texts.Naming.{is_well_named}
use Rattle.journal_text.specs.Texts.Text.{participant_name, kind_word, field_words, entry_line}
use Rattle.journal_text.specs.inner.TextSteps.{BeginsNoEntry, EntryFound}
use Rattle.journal_text.specs.inner.Tokens.{IsOf, TokenRead, LineRead}
use Rattle.journal_text.proofs.OnTexts.WordLemmas.{word-told, begins-line, line-words, whole-decimal}
use Rattle.journal_text.proofs.OnTexts.NamingLemmas.{participants-named}
use Rattle.journal_text.proofs.OnTexts.TokenLemmas.{rest_of, first-there, passed, joined}
use Rattle.journal_text.proofs.OnTexts.EntryLines.{kind-told, kind-whole, name-told}

-- what stands behind the word of the kind
abbrev behind_kind : Plan → Entry → List (List ℕ)
behind_kind plan e = decimal e.place ∷ participant_name plan e.by ∷ field_words e.kind plan e

module _ {R : Type 0} (now : R → List ℕ) (plan : Plan) (named : is_well_named plan ≡ true) (small : length plan.places < 2 ^ 32)
    (text : List ℕ) where
  there : (e : Entry) (more : List ℕ) → text ≡ entry_line plan e ++ more
      → text ≡ kind_word e.kind ++ (spaced (behind_kind plan e) ++ 10 ∷ more)
  there e more same = same ∙ line-words (kind_word e.kind) (behind_kind plan e) more

  pub kind-lacks : TokenRead {A = Kind} {R = R} now (λ _. Unit {0}) kind_word text None → BeginsNoEntry plan text
  kind-lacks h e more fit same = h e.kind (rest_of (behind_kind plan e) more) tt (begins-line (behind_kind plan e) more) (there e more same)

  module _ (k : Kind) (after : R) (h : TokenRead now (λ _. Unit {0}) kind_word text (Some (k, after))) where
    kind-passed : (e : Entry) (more : List ℕ) → text ≡ entry_line plan e ++ more
        → (k ≡ e.kind) × (now after ≡ spaced (behind_kind plan e) ++ 10 ∷ more)
    kind-passed e more same =
        let told =
        word-told (kind_word k) (kind_word e.kind) (now after) (spaced (behind_kind plan e) ++ 10 ∷ more) (kind-whole k)
        (kind-whole e.kind) h.1 (begins-line (behind_kind plan e) more) (sym h.2 ∙ there e more same) in
        (kind-told k e.kind told.0, told.1)

    pub place-lacks : TokenRead {R = R} now (λ p. p < length plan.places) (λ p. 32 ∷ decimal p) (now after) None → BeginsNoEntry plan text
    place-lacks none e more fit same =
        let words = participant_name plan e.by ∷ field_words e.kind plan e in
        none e.place (rest_of words more) fit.place (begins-line words more)
        (first-there (decimal e.place) words more (now after) (kind-passed e more same).1)

    module _ (p : ℕ) (behind : R)
        (i : TokenRead now (λ p. p < length plan.places) (λ p. 32 ∷ decimal p) (now after) (Some (p, behind))) where
      place-passed : (e : Entry) (more : List ℕ) → IsWellFormed plan e → text ≡ entry_line plan e ++ more
          → (p ≡ e.place) × (now behind ≡ spaced (participant_name plan e.by ∷ field_words e.kind plan e) ++ 10 ∷ more)
      place-passed e more fit same =
          let told =
          passed (decimal p) (decimal e.place) (participant_name plan e.by ∷ field_words e.kind plan e) (now after) (now behind) more
          (whole-decimal p (omega (arith, i.0, small))) (whole-decimal e.place (omega (arith, fit.place, small))) i.1 i.2
          (kind-passed e more same).1 in
          (decimal_injective p e.place (omega (arith, i.0, small)) (omega (arith, fit.place, small)) told.0, told.1)

      pub maker-lacks : TokenRead {R = R} now (λ t. t < length plan.participants) (λ t. 32 ∷ participant_name plan t) (now behind) None
          → BeginsNoEntry plan text
      maker-lacks none e more fit same =
          let words = field_words e.kind plan e in
          none e.by (rest_of words more) fit.by (begins-line words more)
          (first-there (participant_name plan e.by) words more (now behind) (place-passed e more fit same).1)

      module _ (t : ℕ) (last : R)
          (j : TokenRead now (λ t. t < length plan.participants) (λ t. 32 ∷ participant_name plan t) (now behind) (Some (t, last))) where
        maker-passed : (e : Entry) (more : List ℕ) → IsWellFormed plan e → text ≡ entry_line plan e ++ more
            → (t ≡ e.by) × (now last ≡ spaced (field_words e.kind plan e) ++ 10 ∷ more)
        maker-passed e more fit same =
            let names = participants-named plan named in
            let told =
            passed (participant_name plan t) (participant_name plan e.by) (field_words e.kind plan e) (now behind) (now last) more
            (names.whole t j.0) (names.whole e.by fit.by) j.1 j.2 (place-passed e more fit same).1 in
            (name-told (participant_name plan) (length plan.participants) t e.by names j.0 fit.by told.0, told.1)

        -- the line that these tokens and the rest make
        abbrev line_of : Entry → List ℕ → Kind → ℕ → ℕ → List ℕ
        line_of e more l q s = kind_word l ++ (spaced (decimal q ∷ participant_name plan s ∷ field_words l plan e) ++ 10 ∷ more)

        pub rest-read : (maker : Entry) → maker.kind ≡ k → maker.place ≡ p → maker.by ≡ t → (read : Option (Entry × R))
            → LineRead now (λ e. IsOf maker e × FieldsFit maker.kind plan e) (λ e. field_words maker.kind plan e) (now last) read
            → EntryFound plan text (option_map (λ r. (r.0, now r.1)) read)
        rest-read maker kind_is place_is by_is None none = λ e more fit same.
            let one = (kind-passed e more same).0 in
            let two = (place-passed e more fit same).0 in
            let three = maker-passed e more fit same in
            let kinds : e.kind ≡ maker.kind = sym one ∙ sym kind_is in
            none e more (
              record { kind = kinds; place = sym two ∙ sym place_is; by = sym three.0 ∙ sym by_is },
              subst (λ l. FieldsFit l plan e) kinds fit.fields,
            )
            (three.1 ∙ ap (λ l. spaced (field_words l plan e) ++ 10 ∷ more) kinds)
        rest-read maker kind_is place_is by_is (Some r) found =
            let e = r.0 in
            let more = now r.1 in
            let of = found.0.0 in
            let kinds : k ≡ e.kind = sym kind_is ∙ sym of.kind in
            let places : p ≡ e.place = sym place_is ∙ sym of.place in
            let makers : t ≡ e.by = sym by_is ∙ sym of.by in
            let fields : now last ≡ spaced (field_words k plan e) ++ 10 ∷ more =
            found.1 ∙ ap (λ l. spaced (field_words l plan e) ++ 10 ∷ more) kind_is in
            let made : text ≡ line_of e more k p t =
            h.2 ∙ ap (λ x. kind_word k ++ x) (joined (decimal p) (participant_name plan t ∷ field_words k plan e) (now after) (now behind) more i.2
            (joined (participant_name plan t) (field_words k plan e) (now behind) (now last) more j.2 fields)) in (
              record {
                place = subst (λ q. q < length plan.places) places i.0;
                by = subst (λ s. s < length plan.participants) makers j.0;
                fields = subst (λ l. FieldsFit l plan e) (sym of.kind) found.0.1;
              },
              made ∙ ap (λ l. line_of e more l p t) kinds ∙ ap (λ q. line_of e more e.kind q t) places
                  ∙ ap (λ s. line_of e more e.kind e.place s) makers ∙ sym (line-words (kind_word e.kind) (behind_kind plan e) more),
            )
