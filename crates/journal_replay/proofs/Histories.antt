-- All that ever came to a device, as a journal grows.
use Rattle.std.proofs.Common.{◌≡◌, ◌∙◌, ◌-◌, true, false, cond, List, [], ◌∷◌, ◌++◌, length, take, Option, Some, None, refl, ap, sym, arith, length-append}
use Rattle.std.specs.Option.{option_map}
use Rattle.std.proofs.Math.Seq.{take-append_seam}
use Rattle.std.proofs.lemmas.List.{append_assoc, append-nil}
use Rattle.std.proofs.lemmas.Grind.{flat_map-append}
use Rattle.caa_base.specs.Outside.PlantState.{after_asked}
use Rattle.caa_base.specs.declared.outside.plant.Asked.{Asked}
use Rattle.caa_base.specs.declared.outside.plant.Asked.TheVariants as asked
use Rattle.caa_base.specs.declared.written.entry.Entry.{Entry}
use Rattle.place_plan.specs.Plans.PlanValue.{Plan}
use Rattle.place_plan.specs.RulesOfJournals.Attempts.{is_attempt}
use Rattle.journal_replay.specs.Device.{asked_by, came_with, came_in, laying, history_after, history_before}

-- the front of a list before one element and these more
front : (xs ys : List Asked) (x : Asked) → take (length (xs ++ x ∷ ys) - length ys - 1) (xs ++ x ∷ ys) ≡ xs
front xs ys x =
    ap (λ n. take n (xs ++ x ∷ ys)) (omega (arith, length-append xs (x ∷ ys))) ∙ take-append_seam xs (x ∷ ys)

-- what stood before is found again
pub found_again : (plan : Plan) (journal : List Entry) (before : Option (List Asked))
    → history_before journal (history_after plan journal before) ≡ before
found_again plan journal None = refl
found_again plan journal (Some h) = ap (λ l. Some l) (front h (came_in journal) (laying plan true))

-- a history that goes on from some history goes on from what stood before
pub goes_on_from : (plan : Plan) (journal : List Entry) (before after : Option (List Asked)) → after ≡ history_after plan journal before
    → after ≡ history_after plan journal (history_before journal after)
goes_on_from plan journal before after h =
    h ∙ ap (history_after plan journal) (sym (ap (history_before journal) h ∙ found_again plan journal before))

-- ---- one more entry

-- a history, where it is known, after all this came
abbrev pub after_all : Option (List Asked) → List Asked → Option (List Asked)
after_all known more = option_map (λ h. h ++ more) known

-- what comes with an entry that asks nothing is the entry
pub came_plain : (e : Entry) (before after : Option (List Asked)) → is_attempt e ≡ false
    → after ≡ after_asked before (asked.Entered e) → after ≡ after_all before (came_with e)
came_plain e before after plain told =
    told ∙ ap (λ b. after_all before (cond b (asked_by e ∷ asked.Entered e ∷ []) (asked.Entered e ∷ []))) (sym plain)

-- and with an entry that asks, the put and then the entry
pub came_asking : (e : Entry) (before after : Option (List Asked)) → is_attempt e ≡ true
    → after ≡ after_asked (after_asked before (asked_by e)) (asked.Entered e) → after ≡ after_all before (came_with e)
came_asking e None after asks told = told
came_asking e (Some h) after asks told =
    told ∙ ap (λ l. Some l) (append_assoc h (asked_by e ∷ []) (asked.Entered e ∷ [])
    ∙ ap (λ b. h ++ cond b (asked_by e ∷ asked.Entered e ∷ []) (asked.Entered e ∷ [])) (sym asks))

module _ (plan : Plan) (journal : List Entry) (e : Entry) where
  one_more : came_in (journal ++ e ∷ []) ≡ came_in journal ++ came_with e
  one_more = flat_map-append came_with journal (e ∷ []) ∙ ap (λ l. came_in journal ++ l) (append-nil (came_with e))

  -- the history after what came with the entry is that of the longer journal
  more_after : (before : Option (List Asked))
      → after_all (history_after plan journal before) (came_with e) ≡ history_after plan (journal ++ e ∷ []) before
  more_after None = refl
  more_after (Some h) =
      ap (λ (l : List Asked). Some l)
      (append_assoc h (laying plan true ∷ came_in journal) (came_with e)
      ∙ ap (λ (l : List Asked). h ++ laying plan true ∷ l) (sym one_more))

  goes_on : (before after : Option (List Asked)) → before ≡ history_after plan journal (history_before journal before)
      → after ≡ after_all before (came_with e) → after ≡ history_after plan (journal ++ e ∷ []) (history_before journal before)
  goes_on before after fits came =
      came ∙ ap (λ h. after_all h (came_with e)) fits ∙ more_after (history_before journal before)

  -- what stood before is what it was
  pub base_kept : (before after : Option (List Asked)) → before ≡ history_after plan journal (history_before journal before)
      → after ≡ after_all before (came_with e) → history_before (journal ++ e ∷ []) after ≡ history_before journal before
  base_kept before after fits came =
      ap (history_before (journal ++ e ∷ [])) (goes_on before after fits came)
      ∙ found_again plan (journal ++ e ∷ []) (history_before journal before)

  pub history_grown : (before after : Option (List Asked)) → before ≡ history_after plan journal (history_before journal before)
      → after ≡ after_all before (came_with e)
      → after ≡ history_after plan (journal ++ e ∷ []) (history_before (journal ++ e ∷ []) after)
  history_grown before after fits came =
      goes_on_from plan (journal ++ e ∷ []) (history_before journal before) after (goes_on before after fits came)
