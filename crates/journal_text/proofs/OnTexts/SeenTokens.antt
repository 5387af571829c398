-- What the tokens of a line tell of the look.
use Rattle.std.proofs.Common.{◌≡◌, ℕ, ℤ, ◌<◌, ◌≤◌, ◌-◌, ◌^◌, true, List, [], ◌∷◌, ◌++◌, length, codes, decimal, Some, None, sym, ap, ◌∙◌, arith}
use Rattle.std.specs.Fmt.{signed_decimal}
use Rattle.std.proofs.lemmas.Fmt.{decimal_injective}
use Rattle.std.proofs.lemmas.List.{append_cancel_left}
use Rattle.caa_base.specs.Written.Limits.{IsValue}
use Rattle.caa_base.specs.Written.Lines.{spaced}
use Rattle.place_plan.specs.Plans.PlanValue.{Plan}
use Rattle.journal_text.specs.declared.looks.seens.Seen.{Seen}
use Rattle.journal_text.specs.Watching.Looks.{IsOfPlan}
use Rattle.journal_text.specs.Texts.Naming.{is_well_named}
use Rattle.journal_text.specs.Texts.Text.{object_name, watched_object, seen_line}
use Rattle.journal_text.specs.inner.TextSteps.{BeginsNoSeen, SeenFound}
use Rattle.journal_text.specs.inner.Tokens.{TokenRead}
use Rattle.journal_text.proofs.OnTexts.WordLemmas.{begins-line, line-words, whole-decimal, whole-signed}
use Rattle.journal_text.proofs.OnTexts.NamingLemmas.{watches-named}
use Rattle.journal_text.proofs.OnTexts.TokenLemmas.{rest_of, first-there, passed, joined}
use Rattle.journal_text.proofs.OnTexts.EntryLines.{name-told}

-- the name of the object of a watch
abbrev watched_name : Plan → ℕ → List ℕ
watched_name plan w = object_name plan (watched_object plan w)

module _ {R : Type 0} (now : R → List ℕ) (plan : Plan) (named : is_well_named plan ≡ true) (low : ℕ) (text : List ℕ) where
  there : (s : Seen) (more : List ℕ) → text ≡ seen_line plan s ++ more
      → text ≡ codes "seen" ++ (spaced (watched_name plan s.watch ∷ decimal s.ends ∷ signed_decimal s.value ∷ []) ++ 10 ∷ more)
  there s more same =
      same ∙ line-words (codes "seen") (watched_name plan s.watch ∷ decimal s.ends ∷ signed_decimal s.value ∷ []) more

  pub front-lacks : ((rest : List ℕ) → text ≡ codes "seen" ++ rest → ⊥) → BeginsNoSeen plan low text
  front-lacks h s more fit same =
      h (rest_of (watched_name plan s.watch ∷ decimal s.ends ∷ signed_decimal s.value ∷ []) more) (there s more same)

  module _ (fields : List ℕ) (is : text ≡ codes "seen" ++ fields) where
    fields-are : (s : Seen) (more : List ℕ) → text ≡ seen_line plan s ++ more
        → fields ≡ spaced (watched_name plan s.watch ∷ decimal s.ends ∷ signed_decimal s.value ∷ []) ++ 10 ∷ more
    fields-are s more same = append_cancel_left (codes "seen") fields _ (sym is ∙ there s more same)

    pub watch-lacks : TokenRead {R = R} now (λ w. w < length plan.watches) (λ w. 32 ∷ watched_name plan w) fields None → BeginsNoSeen plan low text
    watch-lacks none s more fit same =
        let words = decimal s.ends ∷ signed_decimal s.value ∷ [] in
        none s.watch (rest_of words more) fit.1.watch (begins-line words more)
        (first-there (watched_name plan s.watch) words more fields (fields-are s more same))

    module _ (w : ℕ) (after : R)
        (h : TokenRead now (λ w. w < length plan.watches) (λ w. 32 ∷ watched_name plan w) fields (Some (w, after))) where
      watch-passed : (s : Seen) (more : List ℕ) → IsOfPlan plan s → text ≡ seen_line plan s ++ more
          → (w ≡ s.watch) × (now after ≡ spaced (decimal s.ends ∷ signed_decimal s.value ∷ []) ++ 10 ∷ more)
      watch-passed s more fit same =
          let names = watches-named plan named in
          let told =
          passed (watched_name plan w) (watched_name plan s.watch) (decimal s.ends ∷ signed_decimal s.value ∷ []) fields (now after) more
          (names.whole w h.0) (names.whole s.watch fit.watch) h.1 h.2 (fields-are s more same) in
          (name-told (watched_name plan) (length plan.watches) w s.watch names h.0 fit.watch told.0, told.1)

      pub ends-lacks : TokenRead {R = R} now (λ n. n ≤ 2 ^ 64 - 1) (λ n. 32 ∷ decimal n) (now after) None → BeginsNoSeen plan low text
      ends-lacks none s more fit same =
          let words = signed_decimal s.value ∷ [] in
          none s.ends (rest_of words more) (omega (arith, fit.1.ends)) (begins-line words more)
          (first-there (decimal s.ends) words more (now after) (watch-passed s more fit.1 same).1)

      module _ (n : ℕ) (behind : R)
          (i : TokenRead now (λ n. n ≤ 2 ^ 64 - 1) (λ n. 32 ∷ decimal n) (now after) (Some (n, behind))) where
        ends-passed : (s : Seen) (more : List ℕ) → IsOfPlan plan s → text ≡ seen_line plan s ++ more
            → (n ≡ s.ends) × (now behind ≡ spaced (signed_decimal s.value ∷ []) ++ 10 ∷ more)
        ends-passed s more fit same =
            let small : n < 2 ^ 64 = omega (arith, i.0) in
            let told =
            passed (decimal n) (decimal s.ends) (signed_decimal s.value ∷ []) (now after) (now behind) more (whole-decimal n small)
            (whole-decimal s.ends fit.ends) i.1 i.2 (watch-passed s more fit same).1 in
            (decimal_injective n s.ends small fit.ends told.0, told.1)

        pub value-lacks : TokenRead {R = R} now IsValue (λ v. 32 ∷ signed_decimal v) (now behind) None → BeginsNoSeen plan low text
        value-lacks none s more fit same =
            none s.value (rest_of [] more) fit.1.value (begins-line [] more)
            (first-there (signed_decimal s.value) [] more (now behind) (ends-passed s more fit.1 same).1)

        module _ (v : ℤ) (last : R) (j : TokenRead now IsValue (λ v. 32 ∷ signed_decimal v) (now behind) (Some (v, last))) where
          value-passed : (s : Seen) (more : List ℕ) → IsOfPlan plan s → text ≡ seen_line plan s ++ more → now last ≡ 10 ∷ more
          value-passed s more fit same =
              (passed (signed_decimal v) (signed_decimal s.value) [] (now behind) (now last) more (whole-signed v j.0)
              (whole-signed s.value fit.value) j.1 j.2 (ends-passed s more fit same).1).1

          pub end-lacks : ((rest : List ℕ) → now last ≡ 10 ∷ rest → ⊥) → BeginsNoSeen plan low text
          end-lacks none s more fit same = none more (value-passed s more fit.1 same)

          -- a watch before the least
          pub early-lacks : w < low → BeginsNoSeen plan low text
          early-lacks early s more fit same = omega (arith, early, fit.0, (watch-passed s more fit.1 same).0)

          pub seen-read : (end : List ℕ) → low ≤ w → now last ≡ 10 ∷ end
              → SeenFound plan low text (Some (record { watch = w; ends = n; value = v }, end))
          seen-read end least feed = (
            (least, record { watch = h.0; ends = omega (arith, i.0); value = j.0 }),
            is ∙ ap (λ x. codes "seen" ++ x) (joined (watched_name plan w) (decimal n ∷ signed_decimal v ∷ []) fields (now after) end h.2
                (joined (decimal n) (signed_decimal v ∷ []) (now after) (now behind) end i.2
                (joined (signed_decimal v) [] (now behind) (now last) end j.2 feed)))
                ∙ sym (line-words (codes "seen") (watched_name plan w ∷ decimal n ∷ signed_decimal v ∷ []) end),
          )
