-- Lemmas on what comes next of a source.
use Rattle.std.proofs.Common.{◌≡◌, ◌⊎◌, inl, inr, ℕ, suc, ◌<◌, List, [], ◌∷◌, ◌++◌, length, get_or, take, drop, Option, Some, None, ap, sym, ◌∙◌, append_assoc, drop-cons, arith}
use Rattle.std.proofs.lemmas.List.{append_cancel_left, take-append-drop}
use Rattle.std.proofs.lemmas.Grind.{common_steps}
use Rattle.std.specs.Io.KnownBytes.{prepend_known, IsAtEnd}
use Rattle.caa_base.specs.Outside.Counts.{counted_up}
use Rattle.line_plant.specs.Answers.{BeginsWith, IsNotNext}

-- what is left behind a front begins with what is left of the bytes
pub begins_behind : (old mid : Option (List ℕ)) (bytes : List ℕ) (i : ℕ)
    → old ≡ prepend_known (take i bytes) mid → BeginsWith old bytes → BeginsWith mid (drop i bytes)
begins_behind old None bytes i taken begins = grind (arith, common_steps, taken, begins.1)
begins_behind old (Some xs) bytes i taken begins =
    let same : take i bytes ++ xs ≡ bytes ++ begins.0 = grind (arith, common_steps, taken, begins.1) in
    let parts : take i bytes ++ xs ≡ take i bytes ++ (drop i bytes ++ begins.0) =
    same ∙ ap (λ b. b ++ begins.0) (sym (take-append-drop i bytes)) ∙ append_assoc (take i bytes) (drop i bytes) begins.0 in
    (begins.0, ap Some (append_cancel_left (take i bytes) xs (drop i bytes ++ begins.0) parts))

-- a byte came that isn't the one of this number
pub another_came : (old mid new : Option (List ℕ)) (bytes : List ℕ) (i came : ℕ) → i < length bytes
    → old ≡ prepend_known (take i bytes) mid → mid ≡ prepend_known (came ∷ []) new → (came ≡ get_or bytes i 0 → ⊥)
    → BeginsWith old bytes → ⊥
another_came old mid None bytes i came low taken next other begins =
    let behind = begins_behind old mid bytes i taken begins in
    grind (arith, common_steps, behind.1, next)
another_came old mid (Some rest) bytes i came low taken next other begins =
    let behind = begins_behind old mid bytes i taken begins in
    let cut : drop i bytes ≡ get_or bytes i 0 ∷ drop (suc i) bytes = drop-cons bytes i 0 low in
    let same : came ∷ rest ≡ get_or bytes i 0 ∷ (drop (suc i) bytes ++ behind.0) = grind (arith, common_steps, behind.1, next, cut) in
    other (grind (arith, common_steps, same))

-- nothing came
pub none_came : (old mid : Option (List ℕ)) (bytes : List ℕ) (i : ℕ) → i < length bytes
    → old ≡ prepend_known (take i bytes) mid → IsAtEnd mid → BeginsWith old bytes → ⊥
none_came old None bytes i low taken end begins =
    let behind = begins_behind old None bytes i taken begins in
    grind (arith, common_steps, behind.1)
none_came old (Some xs) bytes i low taken end begins =
    let behind = begins_behind old (Some xs) bytes i taken begins in
    let cut : drop i bytes ≡ get_or bytes i 0 ∷ drop (suc i) bytes = drop-cons bytes i 0 low in
    grind (arith, common_steps, behind.1, cut, end)

-- no byte came, for a read failed or the end was reached
pub not_after_none : (old mid : Option (List ℕ)) (first before after : ℕ) (bytes : List ℕ) (i : ℕ) → i < length bytes
    → old ≡ prepend_known (take i bytes) mid → before ≡ first
    → (after ≡ counted_up before) ⊎ ((after ≡ before) × IsAtEnd mid) → IsNotNext old first after bytes
not_after_none old mid first before after bytes i low taken unfailed (inl failed) = inl (failed ∙ ap counted_up unfailed)
not_after_none old mid first before after bytes i low taken unfailed (inr ended) =
    inr (ended.0 ∙ unfailed, none_came old mid bytes i low taken ended.1)

-- what is left behind a front begins with what stands behind that front
behind_front : (old mid : Option (List ℕ)) (front back : List ℕ)
    → old ≡ prepend_known front mid → BeginsWith old (front ++ back) → BeginsWith mid back
behind_front old None front back taken begins = grind (arith, common_steps, taken, begins.1)
behind_front old (Some xs) front back taken begins =
    let same : front ++ xs ≡ (front ++ back) ++ begins.0 = grind (arith, common_steps, taken, begins.1) in
    (begins.0, ap Some (append_cancel_left front xs (back ++ begins.0) (same ∙ append_assoc front back begins.0)))

-- what doesn't come next behind a front doesn't come next with that front
pub not_behind : (old mid : Option (List ℕ)) (first before after : ℕ) (front back : List ℕ)
    → old ≡ prepend_known front mid → before ≡ first → IsNotNext mid before after back → IsNotNext old first after (front ++ back)
not_behind old mid first before after front back taken unfailed (inl failed) = inl (failed ∙ ap counted_up unfailed)
not_behind old mid first before after front back taken unfailed (inr other) =
    inr (other.0 ∙ unfailed, λ begins. other.1 (behind_front old mid front back taken begins))

-- what doesn't begin with a front doesn't begin with more
pub not_more : (old : Option (List ℕ)) (before after : ℕ) (front back : List ℕ)
    → IsNotNext old before after front → IsNotNext old before after (front ++ back)
not_more old before after front back (inl failed) = inl failed
not_more old before after front back (inr other) =
    inr (other.0, λ begins. other.1 (back ++ begins.0, begins.1 ∙ ap Some (append_assoc front back begins.0)))
